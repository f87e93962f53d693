-- Of a box that, with no packet in hand, has sent out or counted as many packets as it took: each input that a thread
-- took was sent out or counted exactly once, but for the one in hand.
use Rattle.std.proofs.Common.{◌≡◌, ◌≢◌, ℕ, ◌+◌, ◌≤◌, ◌<◌, List, [], ◌∷◌, refl, sym, ap, ◌∙◌, subst, inl, inr, ◌⊎◌}
use Rattle.std.proofs.Common.{arith, Option, Some, None}
use Rattle.std.specs.Prelude.{nat_eq, if◌then◌else◌}
use Rattle.plain_text.specs.declared.packet.Packet.{Packet}
use Rattle.entry_order.proofs.Order.{is_or}
use Rattle.plain_machine.specs.Program.{Meaning}
use Rattle.plain_machine.specs.Machine.{Hand, Thread, Effect, Takes, Touches, Looks, HearsClock, HearsDraw, Sends, Ends}
use Rattle.plain_machine.specs.Machine.{Moves, held_move}
use Rattle.plain_machine.specs.History.{Act, Step, sent_more, sent_of, outputs, act_of, thread_after, value_after}
use Rattle.plain_machine.specs.History.{IsHistory}
use Rattle.plain_machine.proofs.Histories.{not_eq, is_eq}
use Rattle.box_worlds.specs.Outcomes.{drops_by, drops_of, drops_with}
use Rattle.box_worlds.proofs.ThreadMoves.{by_move}
use Rattle.box_worlds.proofs.SentSteps.{sends_by, sends_with}

-- how often the thread sent out or counted what it had in hand, of an input and in all

abbrev pub went : {V : Type 0} → ℕ → ℕ → List (Step V) → ℕ
went t j steps = sends_with t j steps + drops_with t j steps

abbrev pub all_went : {V : Type 0} → ℕ → List (Step V) → ℕ
all_went t steps = outputs t (sent_of steps) + drops_of t steps

abbrev pub went_by : {V : Type 0} → Effect V → ℕ
went_by Takes = 0
went_by (Touches v left) = if nat_eq v 0 then 1 else 0
went_by (Looks v) = 0
went_by (HearsClock a) = 0
went_by (HearsDraw a) = 0
went_by (Sends p) = 1
went_by Ends = 0

-- A step adds what its effect does

act_went : {V : Type 0} (t taken : ℕ) (A : List (Step V)) (d : Effect V)
    → sends_by (act_of t A taken d) + drops_by (act_of t A taken d) ≡ went_by d
act_went t taken A Takes = refl
act_went t taken A (Touches v left) = omega arith
act_went t taken A (Looks v) = refl
act_went t taken A (HearsClock a) = refl
act_went t taken A (HearsDraw a) = refl
act_went t taken A (Sends p) = refl
act_went t taken A Ends = refl

all_by : {V : Type 0} (t taken : ℕ) (A : List (Step V)) (d : Effect V)
    → outputs t (sent_more (act_of t A taken d) (sent_of A)) + (drops_by (act_of t A taken d) + drops_of t A)
    ≡ went_by d + all_went t A
all_by t taken A Takes = omega arith
all_by t taken A (Touches v left) = omega arith
all_by t taken A (Looks v) = omega arith
all_by t taken A (HearsClock a) = omega arith
all_by t taken A (HearsDraw a) = omega arith
all_by t taken A (Sends p) = rw (is_eq t t refl) (omega arith)
all_by t taken A Ends = omega arith

sent_by_other : {V : Type 0} (t u taken : ℕ) (A : List (Step V)) (d : Effect V) → u ≢ t
    → outputs t (sent_more (act_of u A taken d) (sent_of A)) ≡ outputs t (sent_of A)
sent_by_other t u taken A Takes other = refl
sent_by_other t u taken A (Touches v left) other = refl
sent_by_other t u taken A (Looks v) other = refl
sent_by_other t u taken A (HearsClock a) other = refl
sent_by_other t u taken A (HearsDraw a) other = refl
sent_by_other t u taken A (Sends p) other = rw (not_eq u t other) refl
sent_by_other t u taken A Ends other = refl

pub all_of_step : {V : Type 0} (m : Meaning V) (inputs : ℕ → List Packet) (threads : ℕ) (x : Step V)
    (earlier : List (Step V)) → (h : IsHistory m inputs threads (x ∷ earlier))
    → all_went x.thread (x ∷ earlier) ≡ went_by h.0.2 + all_went x.thread earlier
all_of_step {V} m inputs threads x earlier h =
    ap (λ (n : ℕ). outputs x.thread (sent_more x.act (sent_of earlier)) + n) counted
    ∙ (ap (λ (a : Act V).
    outputs x.thread (sent_more a (sent_of earlier)) + (drops_by a + drops_of x.thread earlier)) h.0.4
    ∙ all_by x.thread x.after.taken earlier h.0.2)
  where
    counted : drops_of x.thread (x ∷ earlier) ≡ drops_by x.act + drops_of x.thread earlier
    counted = rw (is_eq x.thread x.thread refl) refl

pub all_of_other : {V : Type 0} (m : Meaning V) (inputs : ℕ → List Packet) (threads : ℕ) (x : Step V)
    (earlier : List (Step V)) → IsHistory m inputs threads (x ∷ earlier) → (t : ℕ) → x.thread ≢ t
    → all_went t (x ∷ earlier) ≡ all_went t earlier
all_of_other {V} m inputs threads x earlier h t other = omega (arith, counted, sent)
  where
    counted : drops_of t (x ∷ earlier) ≡ drops_of t earlier
    counted = rw (not_eq x.thread t other) refl

    sent : outputs t (sent_more x.act (sent_of earlier)) ≡ outputs t (sent_of earlier)
    sent =
        ap (λ (a : Act V). outputs t (sent_more a (sent_of earlier))) h.0.4
        ∙ sent_by_other t x.thread x.after.taken earlier h.0.2 other

-- the input that the thread took last
went_same : {V : Type 0} (x : Step V) (earlier : List (Step V)) (j : ℕ) → x.after.taken ≡ j
    → went x.thread j (x ∷ earlier) ≡ (sends_by x.act + drops_by x.act) + went x.thread j earlier
went_same x earlier j is = rw (is_eq x.thread x.thread refl, is_eq x.after.taken j is) (omega arith)

-- another input
went_else : {V : Type 0} (x : Step V) (earlier : List (Step V)) (j : ℕ) → x.after.taken ≢ j
    → went x.thread j (x ∷ earlier) ≡ went x.thread j earlier
went_else x earlier j other = rw (is_eq x.thread x.thread refl, not_eq x.after.taken j other) refl

-- an input of another thread
went_other : {V : Type 0} (x : Step V) (earlier : List (Step V)) (t j : ℕ) → x.thread ≢ t
    → went t j (x ∷ earlier) ≡ went t j earlier
went_other x earlier t j other = rw (not_eq x.thread t other) refl

-- Where a thread stands that took this number of inputs, by how often each of them went out or was counted, and all

abbrev pub Stands : Option Hand → ℕ → (ℕ → ℕ) → ℕ → Type 0
Stands None taken each all =
    (each 0 ≡ 0) × ((j : ℕ) → 1 ≤ j → j ≤ taken → each j ≡ 1) × ((j : ℕ) → taken < j → each j ≡ 0) × (all ≡ taken)
Stands (Some h) taken each all =
    (1 ≤ taken) × (each 0 ≡ 0) × ((j : ℕ) → 1 ≤ j → j < taken → each j ≡ 1) × ((j : ℕ) → taken < j → each j ≡ 0)
    × (all + 1 ≡ taken + each taken)

stands_as : (hand : Option Hand) (taken : ℕ) (each new : ℕ → ℕ) (all now : ℕ) → ((j : ℕ) → new j ≡ each j) → now ≡ all
    → Stands hand taken each all → Stands hand taken new now
stands_as None taken each new all now same as_all old = (
  same 0 ∙ old.0,
  λ j low high. same j ∙ old.1 j low high,
  λ j high. same j ∙ old.2 j high,
  as_all ∙ old.3,
)
stands_as (Some h) taken each new all now same as_all old = (
  old.0,
  same 0 ∙ old.1,
  λ j low high. same j ∙ old.2 j low high,
  λ j high. same j ∙ old.3 j high,
  let a = same taken in let b = old.4 in omega (arith, a, b, as_all),
)

-- one move of the thread
module _ {V : Type 0} (m : Meaning V) (packets : List Packet) (value : ℕ → V) (taken : ℕ) (each new : ℕ → ℕ)
    (all now : ℕ) where
  abbrev StandsOn : Option Hand → Thread → Effect V → Type 0
  StandsOn hand after d =
      Stands hand taken each all → ((j : ℕ) → after.taken ≢ j → new j ≡ each j)
      → new after.taken ≡ went_by d + each after.taken → now ≡ went_by d + all
      → (after.hand ≡ None → now ≡ after.taken) → Stands after.hand after.taken new now

  take_stands : (h : Hand) → StandsOn None (record { taken = taken + 1; hand = Some h }) Takes
  take_stands h old others own sum rest = (
    omega arith,
    others 0 (λ e. omega (arith, e)) ∙ old.0,
    λ j low high. others j (λ e. omega (arith, e, high)) ∙ old.1 j low (omega (arith, high)),
    λ j high. others j (λ e. omega (arith, e, high)) ∙ old.2 j (omega (arith, high)),
    let a = old.2 (taken + 1) (omega arith) in let b = old.3 in omega (arith, a, b, own, sum),
  )

  on_stands : (g h : Hand) (d : Effect V) → StandsOn (Some g) (record { taken = taken; hand = Some h }) d
  on_stands g h d old others own sum rest = (
    old.0,
    others 0 (λ e. let a = old.0 in omega (arith, a, e)) ∙ old.1,
    λ j low high. others j (λ e. omega (arith, e, high)) ∙ old.2 j low high,
    λ j high. others j (λ e. omega (arith, e, high)) ∙ old.3 j high,
    let b = old.4 in omega (arith, b, own, sum),
  )

  end_stands : (g : Hand) → StandsOn (Some g) (record { taken = taken; hand = None }) Ends
  end_stands g old others own sum rest = (
    others 0 (λ e. let a = old.0 in omega (arith, a, e)) ∙ old.1,
    λ j low high. by j low high (is_or taken j),
    λ j high. others j (λ e. omega (arith, e, high)) ∙ old.3 j high,
    rest refl,
  )
    where
      last : new taken ≡ 1
      last = let a = old.4 in let b = rest refl in omega (arith, a, b, own, sum)

      by : (j : ℕ) → 1 ≤ j → j ≤ taken → (taken ≡ j) ⊎ (taken ≢ j) → new j ≡ 1
      by j low high (inl same) = subst (λ (k : ℕ). new k ≡ 1) same last
      by j low high (inr other) = others j other ∙ old.2 j low (omega (arith, high, other))

  pub move_stands : (a : Option ℕ) (hand : Option Hand) (after : Thread) (d : Effect V)
      → held_move m packets value taken a hand ≡ Moves after d → StandsOn hand after d
  move_stands = by_move m packets value taken StandsOn
      (λ p. take_stands (record { packet = p; place = m.begin p }))
      (λ h place d between. on_stands h (record { packet = h.packet; place = place }) d) end_stands

module _ {V : Type 0} (m : Meaning V) (inputs : ℕ → List Packet) (threads : ℕ)
    (rests : (steps : List (Step V)) → IsHistory m inputs threads steps → (t : ℕ) → (thread_after steps t).hand ≡ None
    → all_went t steps ≡ (thread_after steps t).taken) where
  abbrev RunStands : ℕ → List (Step V) → Type 0
  RunStands t steps =
      Stands (thread_after steps t).hand (thread_after steps t).taken (λ j. went t j steps) (all_went t steps)

  own_stands : (x : Step V) (earlier : List (Step V)) → IsHistory m inputs threads (x ∷ earlier)
      → RunStands x.thread earlier → RunStands x.thread (x ∷ earlier)
  own_stands x earlier h old =
      subst (λ (y : Thread).
      Stands y.hand y.taken (λ j. went x.thread j (x ∷ earlier)) (all_went x.thread (x ∷ earlier))) (sym moved)
      (move_stands m (inputs x.thread) (value_after m earlier) (thread_after earlier x.thread).taken
      (λ j. went x.thread j earlier) (λ j. went x.thread j (x ∷ earlier)) (all_went x.thread earlier)
      (all_went x.thread (x ∷ earlier)) h.0.1 (thread_after earlier x.thread).hand x.after h.0.2 h.0.3 old
      (λ j other. went_else x earlier j other) own (all_of_step m inputs threads x earlier h) rest)
    where
      moved : thread_after (x ∷ earlier) x.thread ≡ x.after
      moved = rw (is_eq x.thread x.thread refl) refl

      own : went x.thread x.after.taken (x ∷ earlier) ≡ went_by h.0.2 + went x.thread x.after.taken earlier
      own =
          went_same x earlier x.after.taken refl
          ∙ ap (λ (n : ℕ). n + went x.thread x.after.taken earlier)
          (ap (λ (a : Act V). sends_by a + drops_by a) h.0.4
          ∙ act_went x.thread x.after.taken earlier h.0.2)

      rest : x.after.hand ≡ None → all_went x.thread (x ∷ earlier) ≡ x.after.taken
      rest = subst (λ (y : Thread). y.hand ≡ None → all_went x.thread (x ∷ earlier) ≡ y.taken) moved
          (rests (x ∷ earlier) h x.thread)

  other_stands : (x : Step V) (earlier : List (Step V)) → IsHistory m inputs threads (x ∷ earlier) → (t : ℕ)
      → x.thread ≢ t → RunStands t earlier → RunStands t (x ∷ earlier)
  other_stands x earlier h t other old =
      subst (λ (y : Thread). Stands y.hand y.taken (λ j. went t j (x ∷ earlier)) (all_went t (x ∷ earlier)))
      (sym stayed)
      (stands_as (thread_after earlier t).hand (thread_after earlier t).taken (λ j. went t j earlier)
      (λ j. went t j (x ∷ earlier)) (all_went t earlier) (all_went t (x ∷ earlier))
      (λ j. went_other x earlier t j other) (all_of_other m inputs threads x earlier h t other) old)
    where
      stayed : thread_after (x ∷ earlier) t ≡ thread_after earlier t
      stayed = rw (not_eq x.thread t other) refl

  pub run_stands : (steps : List (Step V)) → IsHistory m inputs threads steps → (t : ℕ) → RunStands t steps
  run_stands [] h t = (refl, λ j low high. absurd (omega arith), λ j high. refl, refl)
  run_stands (x ∷ earlier) h t =
      by (is_or x.thread t) (run_stands earlier h.1 x.thread) (run_stands earlier h.1 t)
    where
      by : (x.thread ≡ t) ⊎ (x.thread ≢ t) → RunStands x.thread earlier → RunStands t earlier
          → RunStands t (x ∷ earlier)
      by (inl same) own old = subst (λ (u : ℕ). RunStands u (x ∷ earlier)) same (own_stands x earlier h own)
      by (inr other) own old = other_stands x earlier h t other old
