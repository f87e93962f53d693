-- Where all that was sent out is released, and all inputs are ended, each input was released once, or counted once.
use Rattle.std.proofs.Common.{◌≡◌, ℕ, zero, suc, ◌+◌, ◌≤◌, ◌<◌, Bool, true, false, cond, List, [], ◌∷◌}
use Rattle.std.proofs.Common.{length, refl, sym, ap, ◌∙◌, subst, inl, inr, arith, Option, None}
use Rattle.plain_text.specs.declared.packet.Packet.{Packet}
use Rattle.std.specs.Prelude.{nat_eq, nat_lt, ◌&&◌}
use Rattle.std.proofs.lemmas.Bool.Decides.{nat_tests}
use Rattle.plain_machine.specs.Program.{Meaning}
use Rattle.plain_machine.specs.Machine.{Hand}
use Rattle.plain_machine.specs.History.{Step, sent_of, outputs, thread_after, IsHistory}
use Rattle.plain_machine.specs.Agree.{SendsAfter}
use Rattle.plain_machine.proofs.Histories.{is_eq}
use Rattle.recovery_world.specs.World.{Setting, Sent, World, all_inputs}
use Rattle.recovery_world.specs.Events.{IsAmong}
use Rattle.recovery_laws.specs.Sound.{times}
use Rattle.recovery_laws.specs.Settled.{IsSettled}
use Rattle.recovery_laws.proofs.Finishes.{sends_thread}
use Rattle.settled_boxes.specs.EachOnce.{times_sent}
use Rattle.box_worlds.specs.Outcomes.{drops_of, drops_with, outputs_in, IsEither, LeftOrCounted}
use Rattle.box_worlds.proofs.SameOutputs.{how_many, as_many}
use Rattle.box_worlds.proofs.SentSteps.{sents, sends_among, among_sends, sent_once, of_thread, of_input, sends_with}
use Rattle.box_worlds.proofs.EachInput.{went, all_went, Stands, run_stands}

abbrev is_of_input : ℕ → ℕ → Sent → Bool
is_of_input t j o = nat_eq o.emission.thread t && nat_eq o.emission.input j

abbrev is_of_thread : ℕ → Sent → Bool
is_of_thread t o = nat_eq o.emission.thread t

as_times : (t j : ℕ) (xs : List Sent) → times_sent t j xs ≡ how_many (is_of_input t j) xs
as_times t j [] = refl
as_times t j (x ∷ xs) = ap (λ (n : ℕ). cond (is_of_input t j x) (n + 1) n) (as_times t j xs)

as_outputs : (t : ℕ) (xs : List Sent) → outputs_in t xs ≡ how_many (is_of_thread t) xs
as_outputs t [] = refl
as_outputs t (x ∷ xs) = ap (λ (n : ℕ). cond (is_of_thread t x) (n + 1) n) (as_outputs t xs)

-- what is in a list is counted there
among_sent : (o : Sent) (xs : List Sent) → IsAmong o xs → 1 ≤ times_sent o.emission.thread o.emission.input xs
among_sent o [] h = absurd h
among_sent o (x ∷ xs) (inl same) =
    let t : x.emission.thread ≡ o.emission.thread = ap (λ (y : Sent). y.emission.thread) same in
    let j : x.emission.input ≡ o.emission.input = ap (λ (y : Sent). y.emission.input) same in
    rw (is_eq x.emission.thread o.emission.thread t, is_eq x.emission.input o.emission.input j) (omega arith)
among_sent o (x ∷ xs) (inr h) =
    go (is_of_input o.emission.thread o.emission.input x) (times_sent o.emission.thread o.emission.input xs)
    (among_sent o xs h)
  where
    go : (b : Bool) (n : ℕ) → 1 ≤ n → 1 ≤ cond b (n + 1) n
    go true n k = omega arith
    go false n k = k

either : (left counted : ℕ) → left + counted ≡ 1 → IsEither left counted
either zero counted e = inr (refl, omega arith)
either (suc left) counted e = inl (omega arith, omega arith)

-- The steps sent out exactly what was released, each once, and each thread has taken all its inputs and ended them.
module _ {V : Type 0} (m : Meaning V) (inputs : ℕ → List Packet) (threads : ℕ) (released : List Sent)
    (steps : List (Step V))
    (rests : (run : List (Step V)) → IsHistory m inputs threads run → (t : ℕ) → (thread_after run t).hand ≡ None
    → all_went t run ≡ (thread_after run t).taken)
    (legal : IsHistory m inputs threads steps)
    (taken : (t : ℕ) → t < threads → (thread_after steps t).taken ≡ length (inputs t))
    (ended : (t : ℕ) → t < threads → (thread_after steps t).hand ≡ None)
    (all_out : (o : Sent) → SendsAfter steps o.emission o.after → IsAmong o released)
    (only_sent : (o : Sent) → IsAmong o released → SendsAfter steps o.emission o.after)
    (sent_one : (t j : ℕ) → times t j released ≤ 1) where
  same : (p : Sent → Bool) → how_many p released ≡ how_many p (sents steps)
  same p =
      as_many p released (sents steps) sent_one
      (λ t j. (sent_once m inputs threads steps legal t j).0)
      (λ o i. sends_among steps o (only_sent o i)) (λ o i. all_out o (among_sends steps o i))

  same_times : (t j : ℕ) → times_sent t j released ≡ sends_with t j steps
  same_times t j =
      as_times t j released
      ∙ (same (is_of_input t j)
      ∙ (sym (as_times t j (sents steps)) ∙ of_input m inputs threads steps legal t j))

  same_outputs : (t : ℕ) → outputs_in t released ≡ outputs t (sent_of steps)
  same_outputs t =
      as_outputs t released
      ∙ (same (is_of_thread t) ∙ (sym (as_outputs t (sents steps)) ∙ of_thread t steps))

  stood : (t : ℕ) → t < threads
      → Stands None (length (inputs t)) (λ j. went t j steps) (all_went t steps)
  stood t low =
      subst (λ (n : ℕ). Stands None n (λ j. went t j steps) (all_went t steps)) (taken t low)
      (subst (λ (hand : Option Hand).
      Stands hand (thread_after steps t).taken (λ j. went t j steps) (all_went t steps)) (ended t low)
      (run_stands m inputs threads rests steps legal t))

  each : (t k : ℕ) → t < threads → k < length (inputs t)
      → IsEither (times_sent t (k + 1) released) (drops_with t (k + 1) steps)
  each t k low high =
      either (times_sent t (k + 1) released) (drops_with t (k + 1) steps)
      (ap (λ (n : ℕ). n + drops_with t (k + 1) steps) (same_times t (k + 1))
      ∙ (stood t low).1 (k + 1) (omega arith) (omega arith))

  only : (o : Sent) → IsAmong o released
      → (k : ℕ) × (k < length (inputs o.emission.thread)) × (o.emission.input ≡ k + 1)
  only o i =
      by o.emission.input refl (nat_lt (length (inputs o.emission.thread)) o.emission.input) refl
    where
      low : o.emission.thread < threads
      low =
          (sends_thread m inputs threads steps o.emission o.after legal (only_sent o i)).0

      some : 1 ≤ went o.emission.thread o.emission.input steps
      some =
          let a = among_sent o released i in
          let b = same_times o.emission.thread o.emission.input in omega (arith, a, b)

      by : (j : ℕ) → o.emission.input ≡ j → (b : Bool)
          → nat_lt (length (inputs o.emission.thread)) o.emission.input ≡ b
          → (k : ℕ) × (k < length (inputs o.emission.thread)) × (o.emission.input ≡ k + 1)
      by zero is b test =
          let none : went o.emission.thread o.emission.input steps ≡ 0 =
          ap (λ (j : ℕ). went o.emission.thread j steps) is ∙ (stood o.emission.thread low).0 in
          let a = some in absurd (omega (arith, a, none))
      by (suc k) is true test =
          let high : length (inputs o.emission.thread) < o.emission.input = grind (arith, nat_tests) in
          let none = (stood o.emission.thread low).2 o.emission.input high in
          let a = some in absurd (omega (arith, a, none))
      by (suc k) is false test =
          let high : o.emission.input ≤ length (inputs o.emission.thread) = grind (arith, nat_tests) in
          (k, omega (arith, high, is), omega (arith, is))

  total : (t : ℕ) → t < threads → outputs_in t released + drops_of t steps ≡ length (inputs t)
  total t low = ap (λ (n : ℕ). n + drops_of t steps) (same_outputs t) ∙ (stood t low).3

  pub left_or_counted : LeftOrCounted threads inputs released steps
  left_or_counted = record { each = each; only = only; total = total }

-- A settling comes to such a world.
pub settled_left : {V : Type 0} (s : Setting V) (w : World V) (steps : List (Step V))
    → ((run : List (Step V)) → IsHistory s.meaning (all_inputs s) s.threads run → (t : ℕ)
    → (thread_after run t).hand ≡ None → all_went t run ≡ (thread_after run t).taken)
    → IsHistory s.meaning (all_inputs s) s.threads steps → IsSettled s w steps
    → LeftOrCounted s.threads (all_inputs s) w.released steps
settled_left s w steps rests legal settled =
    left_or_counted s.meaning (all_inputs s) s.threads w.released steps rests legal settled.taken settled.ended
    settled.released settled.only settled.once
