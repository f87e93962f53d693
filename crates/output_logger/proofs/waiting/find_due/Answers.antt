use Rattle.std.proofs.Common.{rules, ◌≡◌, ℕ, List, map, refl, sym, ◌∙◌, subst, inr, ⊎_elim, arith}
use Rattle.std.proofs.lemmas.Map.Iter.{iter_end}
use Rattle.std.specs.Map.Iter.{deref}
use Rattle.thread_clock.specs.Clock.{AtMost}
use Rattle.access_log.specs.declared.entry.Output.{Output}
use Rattle.output_logger.specs.Kept.{IsIndexed, IsReady, IsDueBy}
use Rattle.output_logger.proofs.KeyLemmas.{indexed_turn, indexed_between, ready_more, ready_here, ready_only}
use Rattle.output_logger.proofs.ArrivalLemmas.{some_of}
use Rattle.output_logger.proofs.waiting.find_due.Goals as goal
use Rattle.output_logger.proofs.waiting.find_due.Goals.{in_default-via-in-None-1}
use Rattle.output_logger.proofs.waiting.find_due.Goals.{in_default-via-in-Some-get+else-at_most}

pub loop-arrival-preserved-in-loop-arrival : goal.loop-arrival-preserved-in-loop-arrival
loop-arrival-preserved-in-loop-arrival c =
    let old = c.loop-arrival.ready.keys in
    let new = c.insert.new.self.keys in
    let a = c.in-Some.field-0.now.2 in
    let updates = c.in_ok-insert.ensures.updates.0 in
    let is : IsDueBy c.args.waiting.now.outputs.entries c.args.reached.now a =
    (c.in-Some-get.output.now, sym c.in-Some-get.ensures.value, c.if-at_most.ensures.0 refl) in
    record {
      kept = λ b was. ready_more old new a updates b (c.loop-arrival.invariant.kept b was);
      due = λ b h. ⊎_elim (λ was. c.loop-arrival.invariant.due b was)
          (λ same. inr (subst (λ (x : ℕ). IsDueBy c.args.waiting.now.outputs.entries c.args.reached.now x) same is))
          (ready_only old new a updates b h);
      found = λ u n b h due.
          ⊎_elim (λ before. ready_more old new a updates b (c.loop-arrival.invariant.found u n b before due))
          (λ same. subst (λ (x : ℕ). IsReady new x) same (ready_here old new a updates))
          (indexed_turn c.loop-arrival.yielded c.in-Some.field-0 u n b h);
    }

pub loop-arrival-preserved : goal.loop-arrival-preserved
loop-arrival-preserved c =
    let a = c.in-Some.field-0.now.2 in
    let Due : ℕ → Type 0 = λ x. IsDueBy c.args.waiting.now.outputs.entries c.args.reached.now x in
    let not_due : Due a → ⊥ = λ due.
    elim c.in_default.branch [
      | in_default-via-in-None-1 w ↦ let none = w.in-None-1.ensures.0 in let some = due.1 in cc
      | in_default-via-in-Some-get+else-at_most w ↦
          let some = due.1 in
          let found = w.in-Some-get.ensures.value in
          let is : due.0 ≡ w.in-Some-get.output.now = cc in
          let no = w.if-at_most.ensures.1 (subst (λ (o : Output). AtMost o.stamp c.args.reached.now) is due.2) in
          cc
    ] in
    record {
      kept = c.loop-arrival.invariant.kept;
      due = c.loop-arrival.invariant.due;
      found = λ u n b h due. ⊎_elim (λ before. c.loop-arrival.invariant.found u n b before due)
          (λ same. absurd (not_due (subst Due (sym same) due)))
          (indexed_turn c.loop-arrival.yielded c.in-Some.field-0 u n b h);
    }

pub returns-clause-found : goal.returns-clause-found
returns-clause-found c = λ a n is above due below.
    let t = c.args.thread in
    let to = c.get-to.ensures in
    let all : map deref c.loop-arrival.yielded ≡ c.range-arrival-items.result = search (rules, iter_end) in
    let small = c.requires.small a (some_of _ due.0 due.1) in
    let inside = indexed_between c.args.waiting.now.index.keys t c.args.from c.get-to.result 18446744073709551615 n a is
    above (omega arith) (omega arith) in
    c.loop-arrival.invariant.found t n a
    (subst (λ (ks : List (ℕ × ℕ × ℕ)). IsIndexed ks t n a)
    (sym (all ∙ c.range-arrival-items.ensures.between tt)) inside) due
