use Rattle.std.proofs.Common.{◌≡◌, ℕ, ◌<◌, slice_index, sym, ap, ◌∙◌, subst, inr, ⊎_elim, below_more, arith}
use Rattle.output_logger.specs.Kept.{IsIndexed}
use Rattle.output_logger.proofs.KeyLemmas.{indexed_more, indexed_here, indexed_only}
use Rattle.output_logger.proofs.waiting.enter.Goals as goal
use Rattle.output_logger.proofs.waiting.enter.Goals.{then-component-get+in_ok-insert, else-component-get}

pub loop-thread-preserved : goal.loop-thread-preserved
loop-thread-preserved c =
    elim c.if-component-get.branch [
      | then-component-get+in_ok-insert w ↦
          let t = c.loop-thread.thread in
          let component = c.get-component.result in
          let updates = w.in_ok-insert.ensures.updates.0 in
          let more =
          indexed_more c.loop-thread.index.keys w.insert.new.self.keys (t, component, c.args.arrival) updates in
          let here : IsIndexed w.insert.new.self.keys t component c.args.arrival =
          indexed_here c.loop-thread.index.keys w.insert.new.self.keys (t, component, c.args.arrival) updates in
          rw w.index-is (record {
            keeps = λ u n a was. more u n a (c.loop-thread.invariant.keeps u n a was);
            enters = below_more
                (λ u.
                slice_index c.args.frontiers.now u < slice_index c.args.stamp.now u
                → IsIndexed w.insert.new.self.keys u (slice_index c.args.stamp.now u) c.args.arrival) t
                (λ u h above.
                more u (slice_index c.args.stamp.now u) c.args.arrival (c.loop-thread.invariant.enters u h above))
                (λ above.
                subst (λ (n : ℕ). IsIndexed w.insert.new.self.keys t n c.args.arrival) c.get-component.ensures here);
            only = λ u n a is.
                ⊎_elim (λ was. c.loop-thread.invariant.only u n a was)
                (λ k.
                let own : u ≡ t = sym k.0 in
                let number : n ≡ slice_index c.args.stamp.now u =
                sym k.1 ∙ c.get-component.ensures ∙ ap (λ (v : ℕ). slice_index c.args.stamp.now v) k.0 in
                inr (omega arith, number, sym k.2))
                (indexed_only c.loop-thread.index.keys w.insert.new.self.keys (t, component, c.args.arrival) updates u n
                a is);
          })
      | else-component-get w ↦
          let t = c.loop-thread.thread in
          let low = w.if-component-get.false in
          let s = c.get-component.ensures in
          let f = c.get.ensures in
          rw w.index-is (record {
            keeps = c.loop-thread.invariant.keeps;
            enters = below_more
                (λ u.
                slice_index c.args.frontiers.now u < slice_index c.args.stamp.now u
                → IsIndexed c.loop-thread.index.keys u (slice_index c.args.stamp.now u) c.args.arrival) t
                c.loop-thread.invariant.enters (λ above. absurd (omega arith));
            only = c.loop-thread.invariant.only;
          })
    ]
