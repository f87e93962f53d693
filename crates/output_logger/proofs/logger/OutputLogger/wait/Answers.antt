use Rattle.std.proofs.Common.{sym, subst, ◌∙◌, inr, IsSome}
use Rattle.dup_filter.specs.Numbers.{IsAwaited}
use Rattle.output_logger.specs.Kept.{arrived}
use Rattle.output_logger.proofs.ArrivalLemmas.{ok_of}
use Rattle.output_logger.proofs.KeptLemmas.{waiting_named, kept_pushed, kept_back, err_of}
use Rattle.output_logger.proofs.logger.OutputLogger.wait.Goals as goal

pub invariant_of-self-else-is_err : goal.invariant_of-self-else-is_err
invariant_of-self-else-is_err c =
    let s = c.self.inside in
    let o = c.args.output in
    let fresh = rw (← c.self.view_is) at c.requires.fresh in
    let early = rw (← c.self.view_is) at c.requires.early in
    let alone : IsAwaited s.released o.thread o.number → ⊥ = λ h. fresh (inr ((waiting_named s.waiting.outputs.entries
    c.self.invariant.sorted o.thread o.number).0 ((c.self.invariant.awaited o.thread o.number).0 h))) in
    let room =
    ok_of c.keep_room-kept.result (sym c.is_err.ensures.value ∙ c.if-is_err.false) c.keep_room-kept.ensures.ok in
    kept_pushed s.threads s.held s.released c.keep_room-kept.new.self s.waiting.outputs.entries
    c.push.new.self.outputs.entries s.waiting.index.keys c.push.new.self.index.keys c.in_ok-push.field-0 o
    c.frontiers-frontiers.result c.self.invariant c.in_ok-push.ensures.arrives room c.keep_room-kept.ensures.others
    c.keep_room-kept.ensures.threads alone early c.frontiers-frontiers.ensures c.in_ok-push.ensures.enters
    c.push.ensures.keeps c.push.ensures.only

pub invariant_of-self-then-is_err : goal.invariant_of-self-then-is_err
invariant_of-self-then-is_err c =
    let s = c.self.inside in
    let same =
    err_of c.keep_room-kept.result (sym c.is_err.ensures.value ∙ c.if-is_err.true) c.keep_room-kept.ensures.err in
    let back = c.take_back.ensures.outputs s.waiting.outputs.entries (c.in_ok-push.field-0, c.args.output)
    c.in_ok-push.ensures.arrives.added in
    kept_back s.threads s.held s.released c.keep_room-kept.new.self s.waiting.outputs.entries
    c.take_back.new.self.outputs.entries s.waiting.index.keys c.take_back.new.self.index.keys c.self.invariant same back
    (λ u n a some was.
    c.take_back.ensures.keeps u n a some
    (c.push.ensures.keeps u n a (subst (λ l. IsSome (arrived l a)) back some) was))
    (c.take_back.ensures.only (c.push.ensures.only c.self.invariant.only))
