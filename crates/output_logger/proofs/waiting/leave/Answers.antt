use Rattle.std.proofs.Common.{ℕ, slice_index, sym, subst, below_more}
use Rattle.output_logger.specs.Kept.{IsIndexed}
use Rattle.output_logger.proofs.KeyLemmas.{indexed_less, indexed_was, indexed_not}
use Rattle.output_logger.proofs.waiting.leave.Goals as goal

pub loop-thread-preserved : goal.loop-thread-preserved
loop-thread-preserved c =
    let t = c.loop-thread.thread in
    let old = c.loop-thread.index.keys in
    let new = c.remove.new.self.keys in
    let updates = c.remove.ensures.updates.0 in
    let was = indexed_was old new (t, c.get.result, c.args.arrival) updates in
    record {
      keeps = λ u n a apart is. indexed_less old new (t, c.get.result, c.args.arrival) updates u n a apart
          (c.loop-thread.invariant.keeps u n a apart is);
      only = λ u n a is. c.loop-thread.invariant.only u n a (was u n a is);
      gone = below_more (λ u. IsIndexed new u (slice_index c.args.stamp.now u) c.args.arrival → ⊥) t
          (λ u h is. c.loop-thread.invariant.gone u h (was u _ _ is))
          (λ is. indexed_not old new (t, c.get.result, c.args.arrival) updates
          (subst (λ (n : ℕ). IsIndexed new t n c.args.arrival) (sym c.get.ensures) is));
    }
