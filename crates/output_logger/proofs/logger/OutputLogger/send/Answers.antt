use Rattle.std.proofs.Common.{◌≡◌, [], ◌∷◌, sym, ◌∙◌, inl, inr}
use Rattle.dup_filter.specs.Numbers.{IsAwaited}
use Rattle.output_logger.proofs.ArrivalLemmas.{ok_of}
use Rattle.output_logger.proofs.NameLemmas.{appended_append, appended_none, take_first}
use Rattle.output_logger.proofs.GoneLemmas.{once_none}
use Rattle.output_logger.proofs.KeptLemmas.{waiting_named, marked_kept, once_one, err_of}
use Rattle.output_logger.proofs.logger.OutputLogger.send.Goals as goal
use Rattle.output_logger.proofs.logger.OutputLogger.send.Goals.{then-is_err, else-is_err}

pub invariant_of-self : goal.invariant_of-self
invariant_of-self c =
    let s = c.self.inside in
    let o = c.args.output in
    let fresh = rw (← c.self.view_is) at c.requires.fresh in
    let alone : IsAwaited s.released o.thread o.number → ⊥ = λ h. fresh (inr ((waiting_named s.waiting.outputs.entries
    c.self.invariant.sorted o.thread o.number).0 ((c.self.invariant.awaited o.thread o.number).0 h))) in
    marked_kept c.mark-marked.result s.threads s.held s.released c.mark-marked.new.self s.waiting.outputs.entries
    s.waiting.index.keys o c.self.invariant c.mark-marked.ensures.ok c.mark-marked.ensures.err
    c.mark-marked.ensures.others c.mark-marked.ensures.threads (λ h. fresh (inl h)) alone

pub returns-clause-once : goal.returns-clause-once
returns-clause-once c =
    let s = c.self.inside in
    let o = c.args.output in
    let fresh = rw (← c.self.view_is) at c.requires.fresh in
    let pushed = c.in_ok-push.ensures.ok in
    rw (← c.self.view_is) (elim c.if-is_err.branch [
      | then-is_err w ↦
          let same =
          err_of c.mark-marked.result (sym c.is_err.ensures.value ∙ w.if-is_err.true) c.mark-marked.ensures.err in
          let out : c.if-is_err.out ≡ c.args.out.now =
          w.out-is ∙ w.truncate.ensures ∙ rw (pushed, c.len-sent.ensures) (take_first c.args.out.now (o ∷ [])) in
          rw (out, appended_none c.args.out.now, same) (once_none s.released)
      | else-is_err w ↦
          let marks =
          ok_of c.mark-marked.result (sym c.is_err.ensures.value ∙ w.if-is_err.false) c.mark-marked.ensures.ok in
          rw (w.out-is, pushed, appended_append c.args.out.now (o ∷ [])) (once_one s.released c.mark-marked.new.self o
          (record { fresh = λ h. fresh (inl h); marks = marks; others = c.mark-marked.ensures.others }))
    ])
