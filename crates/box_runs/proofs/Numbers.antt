-- The counting box writes into each packet which touch it made.
use Rattle.std.proofs.Common.{◌≡◌, ◌≢◌, ℕ, zero, suc, ◌+◌, ◌%◌, ◌/◌, ◌^◌, ◌<◌, true, false, List, [], ◌∷◌}
use Rattle.std.proofs.Common.{refl, sym, ap, ◌∙◌, subst, ◌⊎◌, inl, inr, arith, length, get_or-set_same, Option, Some}
use Rattle.std.proofs.Common.{None}
use Rattle.std.specs.Prelude.{cond, nat_eq, nat_lt, slice_index, slice_set}
use Rattle.std.proofs.lemmas.Bool.Decides.{nat_tests}
use Rattle.plain_text.specs.declared.packet.Packet.{Packet}
use Rattle.entry_order.specs.Log.{places}
use Rattle.entry_order.proofs.Order.{is_or}
use Rattle.plain_machine.specs.declared.local.Local.{Local}
use Rattle.plain_machine.specs.declared.local.Move.TheVariants.{Access, Emit}
use Rattle.plain_machine.specs.Machine.{Hand, Thread, Effect, Takes, Touches, Looks, HearsClock, HearsDraw, Sends, Ends}
use Rattle.plain_machine.specs.History.{Step, log_more, log_of, act_of, left_by, thread_after, value_after, IsHistory}
use Rattle.plain_machine.proofs.Histories.{not_eq, is_eq}
use Rattle.box_program.specs.Count.{count_next, one_more, numbered, count_meaning}
use Rattle.box_runs.specs.Counting.{touches_made, touch_by, touch_of, with_number, PacketsCarryTheirCount}
use Rattle.box_runs.specs.Counting.{CountIsTouches}
use Rattle.box_runs.proofs.MadeMoves.{Made, step_made, sends_input}
use Rattle.box_runs.proofs.BoxMoves.{count_asks_nothing, count_draws_nothing, count_reads_nothing}

-- where the packet is by what comes next
next_touch : (at v : ℕ) → count_next at ≡ Access v → (at ≡ 0) × (v ≡ 0)
next_touch zero v e = (refl, grind arith)
next_touch (suc zero) v e = absurd (grind arith)
next_touch (suc (suc at)) v e = absurd (grind arith)

next_emission : (at : ℕ) → count_next at ≡ Emit → at ≡ 1
next_emission zero e = absurd (grind arith)
next_emission (suc zero) e = refl
next_emission (suc (suc at)) e = absurd (grind arith)

-- The value is the number of touches

one_more_touch : (n k : ℕ) → n ≡ k % 2 ^ 64 → one_more n ≡ (k + 1) % 2 ^ 64
one_more_touch n k e = omega arith

value_on : (packets : List Packet) (t taken : ℕ) (earlier : List (Step ℕ)) (before : Option Hand) (after : Thread)
    (d : Effect ℕ) → value_after count_meaning earlier 0 ≡ touches_made earlier % 2 ^ 64
    → Made count_meaning packets taken (value_after count_meaning earlier) before after d
    → left_by 0 (act_of t earlier after.taken d) (value_after count_meaning earlier 0)
    ≡ places 0 (log_more (act_of t earlier after.taken d) (log_of earlier)) % 2 ^ 64
value_on packets t taken earlier before after Takes old made = old
value_on packets t taken earlier before after (Touches v left) old (h, is, next, leaves, goes) =
    let at : v ≡ 0 = (next_touch h.place.at v next).1 in
    let mine : nat_eq v 0 ≡ true = is_eq v 0 at in
    let new : one_more (value_after count_meaning earlier v) ≡ (touches_made earlier + 1) % 2 ^ 64 =
    one_more_touch (value_after count_meaning earlier v) (touches_made earlier)
    (ap (value_after count_meaning earlier) at ∙ old) in
    rw mine (sym leaves ∙ new)
value_on packets t taken earlier before after (Looks v) old made = old
value_on packets t taken earlier before after (HearsClock a) old made = old
value_on packets t taken earlier before after (HearsDraw a) old made = old
value_on packets t taken earlier before after (Sends q) old made = old
value_on packets t taken earlier before after Ends old made = old

pub count_is_touches : CountIsTouches
count_is_touches threads inputs [] h = refl
count_is_touches threads inputs (x ∷ earlier) h =
    rw h.0.4 (value_on (inputs x.thread) x.thread (thread_after earlier x.thread).taken earlier
    (thread_after earlier x.thread).hand x.after h.0.2 (count_is_touches threads inputs earlier h.1)
    (step_made count_meaning threads inputs x earlier h))

-- A packet in hand that touched the variable has the number of its touch in its first register

record HasTouched (touch : Option ℕ) (l : Local) : Type 0 where
  number : ℕ
  made : touch ≡ Some number
  noted : slice_index l.regs 0 ≡ number % 2 ^ 64

record IsKnown (touch : Option ℕ) (l : Local) : Type 0 where
  room : l.at ≡ 0 → 0 < length l.regs
  touched : l.at ≡ 1 → HasTouched touch l

abbrev Known : Option ℕ → Option Hand → Type 0
Known touch None = Unit {0}
Known touch (Some h) = IsKnown touch h.place

known_on : (packets : List Packet) (t taken : ℕ) (earlier : List (Step ℕ)) (touch : Option ℕ) (before : Option Hand)
    (after : Thread) (d : Effect ℕ) → value_after count_meaning earlier 0 ≡ touches_made earlier % 2 ^ 64
    → Known touch before → Made count_meaning packets taken (value_after count_meaning earlier) before after d
    → Known (touch_by (act_of t earlier after.taken d)
    (places 0 (log_more (act_of t earlier after.taken d) (log_of earlier))) touch) after.hand
known_on packets t taken earlier touch before after Takes value old (free, p, is, goes) =
    subst (λ (y : Thread). Known None y.hand) goes
    (record { room = λ e. omega arith; touched = λ e. absurd (omega arith) })
known_on packets t taken earlier touch before after (Touches v left) value old (h, is, next, leaves, goes) =
    let known : IsKnown touch h.place = subst (Known touch) is old in
    let at = next_touch h.place.at v next in
    let mine : nat_eq v 0 ≡ true = is_eq v 0 at.1 in
    let room : 0 < length h.place.regs = known.room at.0 in
    let x : ℕ = one_more (value_after count_meaning earlier v) in
    let new : x ≡ (touches_made earlier + 1) % 2 ^ 64 =
    one_more_touch (value_after count_meaning earlier v) (touches_made earlier)
    (ap (value_after count_meaning earlier) at.1 ∙ value) in
    let there : slice_index (slice_set h.place.regs 0 x) 0 ≡ x = get_or-set_same h.place.regs 0 x 0 room in
    subst (λ (y : Thread). Known (cond (nat_eq v 0) (Some (cond (nat_eq v 0) (touches_made earlier + 1)
    (touches_made earlier))) touch) y.hand) goes
    (rw mine (record {
      room = λ e. absurd (omega arith);
      touched = λ e. record { number = touches_made earlier + 1; made = refl; noted = there ∙ new };
    }))
known_on packets t taken earlier touch before after (Looks v) value old (h, is, next, goes) =
    absurd (count_reads_nothing h.place.at v next)
known_on packets t taken earlier touch before after (HearsClock a) value old (h, is, next, goes) =
    absurd (count_asks_nothing h.place.at next)
known_on packets t taken earlier touch before after (HearsDraw a) value old (h, is, next, goes) =
    absurd (count_draws_nothing h.place.at next)
known_on packets t taken earlier touch before after (Sends q) value old (h, is, next, leaves, goes) =
    subst (λ (y : Thread). Known touch y.hand) goes
    (record { room = λ e. absurd (omega arith); touched = λ e. absurd (omega arith) })
known_on packets t taken earlier touch before after Ends value old (h, is, next, goes) =
    subst (λ (y : Thread). Known touch y.hand) goes tt

run_known : (threads : ℕ) (inputs : ℕ → List Packet) (steps : List (Step ℕ))
    → IsHistory count_meaning inputs threads steps → (t : ℕ) → Known (touch_of t steps) (thread_after steps t).hand
run_known threads inputs [] h t = tt
run_known threads inputs (x ∷ earlier) h t =
    let new = known_on (inputs x.thread) x.thread (thread_after earlier x.thread).taken earlier
    (touch_of x.thread earlier) (thread_after earlier x.thread).hand x.after h.0.2
    (count_is_touches threads inputs earlier h.1) (run_known threads inputs earlier h.1 x.thread)
    (step_made count_meaning threads inputs x earlier h) in
    by (is_or x.thread t) new (run_known threads inputs earlier h.1 t)
  where
    by : (x.thread ≡ t) ⊎ (x.thread ≢ t)
        → Known (touch_by (act_of x.thread earlier x.after.taken h.0.2)
        (places 0 (log_more (act_of x.thread earlier x.after.taken h.0.2) (log_of earlier)))
        (touch_of x.thread earlier)) x.after.hand → Known (touch_of t earlier) (thread_after earlier t).hand
        → Known (touch_of t (x ∷ earlier)) (thread_after (x ∷ earlier) t).hand
    by (inl e) new old =
        subst (λ (u : ℕ). Known (touch_of u (x ∷ earlier)) (thread_after (x ∷ earlier) u).hand) e
        (rw (is_eq x.thread x.thread refl, h.0.4) new)
    by (inr e) new old = rw (not_eq x.thread t e) old

-- What is written

same_number : (n k : ℕ) → k ≡ n % 2 ^ 64 → (bytes : List ℕ) → numbered bytes k ≡ with_number n bytes
same_number n k e [] = refl
same_number n k e (a ∷ []) = refl
same_number n k e (a ∷ b ∷ []) = refl
same_number n k e (a ∷ b ∷ c ∷ []) = refl
same_number n k e (a ∷ b ∷ c ∷ d ∷ []) = refl
same_number n k e (a ∷ b ∷ c ∷ d ∷ f ∷ []) = refl
same_number n k e (a ∷ b ∷ c ∷ d ∷ f ∷ g ∷ rest) =
    let p : k % 2 ^ 32 / 256 ^ 3 % 256 ≡ n / 2 ^ 24 % 2 ^ 8 = omega arith in
    let q : k % 2 ^ 32 / 256 ^ 2 % 256 ≡ n / 2 ^ 16 % 2 ^ 8 = omega arith in
    let r : k % 2 ^ 32 / 256 ^ 1 % 256 ≡ n / 2 ^ 8 % 2 ^ 8 = omega arith in
    let s : k % 2 ^ 32 % 256 ≡ n % 2 ^ 8 = omega arith in
    let long : nat_lt (length (a ∷ b ∷ c ∷ d ∷ f ∷ g ∷ rest)) 6 ≡ false = grind (arith, nat_tests) in
    rw long (λ i. a ∷ b ∷ p i ∷ q i ∷ r i ∷ s i ∷ rest)

pub packets_carry : PacketsCarryTheirCount
packets_carry threads inputs x earlier o h sent =
    let s = sends_input count_meaning threads inputs x earlier o h sent in
    let known : IsKnown (touch_of x.thread earlier) s.0.place =
    subst (Known (touch_of x.thread earlier)) s.1 (run_known threads inputs earlier h.1 x.thread) in
    let t : HasTouched (touch_of x.thread earlier) s.0.place = known.touched (next_emission s.0.place.at s.2) in
    let same : numbered s.0.packet.bytes (slice_index s.0.place.regs 0) ≡ with_number t.number s.0.packet.bytes =
    same_number t.number (slice_index s.0.place.regs 0) t.noted s.0.packet.bytes in
    (t.number, s.0.packet, t.made, s.4, s.3 ∙ (λ i. record s.0.packet { bytes = same i }))
