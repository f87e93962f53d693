-- The outputs of a history, each with how many entries its thread had made: none stands there twice, and each is of the
-- input that its thread took last.
use Rattle.std.proofs.Common.{◌≡◌, ◌≢◌, ℕ, ◌+◌, ◌≤◌, ◌<◌, Bool, true, false, cond, List, [], ◌∷◌, refl, sym, ap, ◌∙◌}
use Rattle.std.proofs.Common.{subst, inl, inr, ◌⊎◌, arith}
use Rattle.std.specs.Prelude.{nat_eq, ◌&&◌}
use Rattle.plain_text.specs.declared.packet.Packet.{Packet}
use Rattle.entry_order.specs.Log.{Entry, entries}
use Rattle.entry_order.proofs.Order.{is_or}
use Rattle.plain_machine.specs.declared.emission.Emission.{Emission}
use Rattle.plain_machine.specs.Program.{Meaning}
use Rattle.plain_machine.specs.Machine.{Effect, Takes, Touches, Looks, HearsClock, HearsDraw, Sends, Ends}
use Rattle.plain_machine.specs.History.{Act, Took, Did, Emitted, Ended, Step, log_of, sent_more, sent_of, outputs}
use Rattle.plain_machine.specs.History.{act_of, IsHistory}
use Rattle.plain_machine.specs.Agree.{SendsAfter}
use Rattle.plain_machine.proofs.Histories.{not_eq, is_eq, did_emission}
use Rattle.recovery_world.specs.World.{Sent}
use Rattle.recovery_world.specs.Events.{IsAmong}
use Rattle.recovery_laws.specs.Sound.{times}
use Rattle.recovery_laws.proofs.OneOutcome.{sent_eq}
use Rattle.settled_boxes.specs.EachOnce.{times_sent}
use Rattle.box_worlds.specs.Outcomes.{outputs_in}

abbrev pub sent_on : {V : Type 0} → Act V → List Entry → List Sent → List Sent
sent_on (Took k) log sent = sent
sent_on (Did e left) log sent = sent
sent_on (Emitted o) log sent = (record { emission = o; after = entries o.thread log }) ∷ sent
sent_on (Ended k) log sent = sent

abbrev pub sents : {V : Type 0} → List (Step V) → List Sent
sents [] = []
sents (x ∷ earlier) = sent_on x.act (log_of earlier) (sents earlier)

-- Its members are what was sent out

stays_on : {V : Type 0} (o : Sent) (a : Act V) (log : List Entry) (sent : List Sent) → IsAmong o sent
    → IsAmong o (sent_on a log sent)
stays_on o (Took k) log sent h = h
stays_on o (Did e left) log sent h = h
stays_on o (Emitted p) log sent h = inr h
stays_on o (Ended k) log sent h = h

pub sends_among : {V : Type 0} (steps : List (Step V)) (o : Sent) → SendsAfter steps o.emission o.after
    → IsAmong o (sents steps)
sends_among [] o h = absurd h
sends_among {V} (x ∷ earlier) o (inl (act, after)) =
    subst (λ (a : Act V). IsAmong o (sent_on a (log_of earlier) (sents earlier))) (sym act)
    (inl (sent_eq (record { emission = o.emission; after = entries o.emission.thread (log_of earlier) }) o refl after))
sends_among (x ∷ earlier) o (inr h) = stays_on o x.act (log_of earlier) (sents earlier) (sends_among earlier o h)

pub among_sends : {V : Type 0} (steps : List (Step V)) (o : Sent) → IsAmong o (sents steps)
    → SendsAfter steps o.emission o.after
among_sends [] o h = absurd h
among_sends {V} (x ∷ earlier) o h = by x.act refl h (λ k. among_sends earlier o k)
  where
    by : (a : Act V) → x.act ≡ a → IsAmong o (sent_on a (log_of earlier) (sents earlier))
        → (IsAmong o (sents earlier) → SendsAfter earlier o.emission o.after)
        → SendsAfter (x ∷ earlier) o.emission o.after
    by (Took k) is i old = inr (old i)
    by (Did e left) is i old = inr (old i)
    by (Emitted p) is (inl same) old = inl (
      subst (λ (y : Sent). x.act ≡ Emitted y.emission) same is,
      subst (λ (y : Sent). entries y.emission.thread (log_of earlier) ≡ y.after) same refl,
    )
    by (Emitted p) is (inr i) old = inr (old i)
    by (Ended k) is i old = inr (old i)

-- None stands there twice

abbrev IsOnce : {V : Type 0} → ℕ → ℕ → List (Step V) → List Sent → Type 0
IsOnce t j steps sent = (times t j sent ≤ 1) × (outputs t (sent_of steps) < j → times t j sent ≡ 0)

once_more : (t j : ℕ) (o : Emission) (before : ℕ) (emitted : List Emission) (sent : List Sent)
    → o.number ≡ outputs o.thread emitted + 1 → (times t j sent ≤ 1) × (outputs t emitted < j → times t j sent ≡ 0)
    → (times t j (record { emission = o; after = before } ∷ sent) ≤ 1)
    × (outputs t (o ∷ emitted) < j → times t j (record { emission = o; after = before } ∷ sent) ≡ 0)
once_more t j o before emitted sent number old = by (is_or o.thread t) (is_or o.number j)
  where
    by : (o.thread ≡ t) ⊎ (o.thread ≢ t) → (o.number ≡ j) ⊎ (o.number ≢ j)
        → (times t j (record { emission = o; after = before } ∷ sent) ≤ 1)
        × (outputs t (o ∷ emitted) < j → times t j (record { emission = o; after = before } ∷ sent) ≡ 0)
    by (inr other) n = rw (not_eq o.thread t other) old
    by (inl own) (inr other) =
        rw (is_eq o.thread t own, not_eq o.number j other) (old.0, λ k. old.1 (omega arith))
    by (inl own) (inl same) =
        let at : outputs o.thread emitted ≡ outputs t emitted = ap (λ (u : ℕ). outputs u emitted) own in
        let none : times t j sent ≡ 0 = old.1 (omega arith) in
        rw (is_eq o.thread t own, is_eq o.number j same) (omega arith, λ k. absurd (omega arith))

pub sent_once : {V : Type 0} (m : Meaning V) (inputs : ℕ → List Packet) (threads : ℕ) (steps : List (Step V))
    → IsHistory m inputs threads steps → (t j : ℕ) → IsOnce t j steps (sents steps)
sent_once m inputs threads [] h t j = (omega arith, λ k. refl)
sent_once {V} m inputs threads (x ∷ earlier) h t j = by x.act refl (sent_once m inputs threads earlier h.1 t j)
  where
    by : (a : Act V) → x.act ≡ a → IsOnce t j earlier (sents earlier)
        → (times t j (sent_on a (log_of earlier) (sents earlier)) ≤ 1)
        × (outputs t (sent_more a (sent_of earlier)) < j
        → times t j (sent_on a (log_of earlier) (sents earlier)) ≡ 0)
    by (Took k) is old = old
    by (Did e left) is old = old
    by (Emitted o) is old =
        let n = did_emission x.thread x.after.taken earlier h.0.2 o (sym h.0.4 ∙ is) in
        once_more t j o (entries o.thread (log_of earlier)) (sent_of earlier) (sents earlier)
        (n.1 ∙ ap (λ (u : ℕ). outputs u (sent_of earlier) + 1) (sym n.0)) old
    by (Ended k) is old = old

-- How many there are of a thread, and of an input

pub of_thread : {V : Type 0} (t : ℕ) (steps : List (Step V)) → outputs_in t (sents steps) ≡ outputs t (sent_of steps)
of_thread t [] = refl
of_thread {V} t (x ∷ earlier) = by x.act (of_thread t earlier)
  where
    by : (a : Act V) → outputs_in t (sents earlier) ≡ outputs t (sent_of earlier)
        → outputs_in t (sent_on a (log_of earlier) (sents earlier)) ≡ outputs t (sent_more a (sent_of earlier))
    by (Took k) old = old
    by (Did e left) old = old
    by (Emitted o) old = ap (λ (n : ℕ). cond (nat_eq o.thread t) (n + 1) n) old
    by (Ended k) old = old

abbrev pub sends_by : {V : Type 0} → Act V → ℕ
sends_by (Took k) = 0
sends_by (Did entry left) = 0
sends_by (Emitted o) = 1
sends_by (Ended k) = 0

-- how often the thread sent something out while its input j was the last that it took
abbrev pub sends_with : {V : Type 0} → ℕ → ℕ → List (Step V) → ℕ
sends_with t j [] = 0
sends_with t j (x ∷ earlier) =
    cond (nat_eq x.thread t && nat_eq x.after.taken j) (sends_by x.act + sends_with t j earlier)
    (sends_with t j earlier)

none_more : (b : Bool) (n : ℕ) → n ≡ cond b (0 + n) n
none_more true n = omega arith
none_more false n = refl

one_more : (b : Bool) (n : ℕ) → cond b (n + 1) n ≡ cond b (1 + n) n
one_more true n = omega arith
one_more false n = refl

sent_with : {V : Type 0} (u taken : ℕ) (A : List (Step V)) (d : Effect V) (t j : ℕ) (log : List Entry)
    (sent : List Sent)
    → times_sent t j (sent_on (act_of u A taken d) log sent)
    ≡ cond (nat_eq u t && nat_eq taken j) (sends_by (act_of u A taken d) + times_sent t j sent) (times_sent t j sent)
sent_with u taken A Takes t j log sent = none_more (nat_eq u t && nat_eq taken j) (times_sent t j sent)
sent_with u taken A (Touches v left) t j log sent = none_more (nat_eq u t && nat_eq taken j) (times_sent t j sent)
sent_with u taken A (Looks v) t j log sent = none_more (nat_eq u t && nat_eq taken j) (times_sent t j sent)
sent_with u taken A (HearsClock a) t j log sent = none_more (nat_eq u t && nat_eq taken j) (times_sent t j sent)
sent_with u taken A (HearsDraw a) t j log sent = none_more (nat_eq u t && nat_eq taken j) (times_sent t j sent)
sent_with u taken A (Sends p) t j log sent = one_more (nat_eq u t && nat_eq taken j) (times_sent t j sent)
sent_with u taken A Ends t j log sent = none_more (nat_eq u t && nat_eq taken j) (times_sent t j sent)

pub of_input : {V : Type 0} (m : Meaning V) (inputs : ℕ → List Packet) (threads : ℕ) (steps : List (Step V))
    → IsHistory m inputs threads steps → (t j : ℕ) → times_sent t j (sents steps) ≡ sends_with t j steps
of_input m inputs threads [] h t j = refl
of_input {V} m inputs threads (x ∷ earlier) h t j =
    subst (λ (a : Act V).
    times_sent t j (sent_on a (log_of earlier) (sents earlier))
    ≡ cond (nat_eq x.thread t && nat_eq x.after.taken j) (sends_by a + sends_with t j earlier)
    (sends_with t j earlier)) (sym h.0.4)
    (sent_with x.thread x.after.taken earlier h.0.2 t j (log_of earlier) (sents earlier)
    ∙ ap (λ (n : ℕ).
    cond (nat_eq x.thread t && nat_eq x.after.taken j)
    (sends_by (act_of x.thread earlier x.after.taken h.0.2) + n) n) (of_input m inputs threads earlier h.1 t j))
