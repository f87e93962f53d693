use Rattle.std.proofs.Common.{ℕ, List, sym, ◌∙◌, subst, arith}
use Rattle.std.proofs.lemmas.Bool.{eqb-true}
use Rattle.std.proofs.lemmas.Option.{MatchOption-at_none}
use Rattle.access_log.specs.Held.{Lane, IsWithin}
use Rattle.message_arrivals.specs.Arriving.{GoesNext}
use Rattle.message_arrivals.proofs.Forgetting.{is_none_of, not_so}
use Rattle.message_arrivals.proofs.arriving.goes_next.Goals as goal
use Rattle.message_arrivals.proofs.arriving.goes_next.Goals.{then-floor-number, else-floor-number}

pub returns-then-not-has_arrived : goal.returns-then-not-has_arrived
returns-then-not-has_arrived c is =
    let held = c.args.logger.now.held in
    let none = is_none_of c.missing.result c.is_none.result c.is_none.ensures is in
    let within = MatchOption-at_none _ _ none c.missing.ensures in
    elim c.if-floor-number.branch as
    (λ _. GoesNext c.args.sent.now c.args.logger.now c.args.thread c.args.number) [
      | then-floor-number w ↦ record {
        next = let from = c.requires in let value = c.floor.ensures.value in let at = w.if-floor-number.true in
            let released = c.released.ensures in rw (← released) (omega (arith, from, value, at));
        fresh = λ h. not_so w.has_arrived.result _ w.value-is c.if-not-has_arrived.true (w.has_arrived.ensures.1 h);
        due = λ x frame thread number.
            subst (λ (s : List ℕ). IsWithin held s) (c.in-Some.ensures x frame thread number)
            (subst (λ (h : List Lane). IsWithin h c.in-Some.stamp) c.held.ensures within);
      }
      | else-floor-number w ↦
          absurd (w.if-floor-number.false (eqb-true _ _ (sym w.value-is ∙ c.if-not-has_arrived.true)))
    ]
