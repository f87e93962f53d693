-- A move more: what it did is told by the moves before it.
use Rattle.std.proofs.Common.{◌≡◌, ℕ, ◌+◌, arith, Bool, true, false, List, [], ◌∷◌, ◌++◌, length, refl, ap, ◌∙◌}
use Rattle.std.proofs.Common.{subst}
use Rattle.std.proofs.Common.{Option, Some, None, Ok, Err}
use Rattle.std.specs.Prelude.{◌&&◌, filter, if◌then◌else◌, nat_eq, nat_lt, slice_get}
use Rattle.plain_text.specs.declared.packet.Packet.{Packet}
use Rattle.entry_order.specs.Log.{entries, places}
use Rattle.entry_order.specs.declared.what.What.{What}
use Rattle.entry_order.specs.declared.what.What.TheVariants as what
use Rattle.plain_machine.specs.declared.local.Move.{Move}
use Rattle.plain_machine.specs.declared.local.Move.TheVariants as move
use Rattle.plain_machine.specs.declared.plain_move.PlainMove.{PlainMove}
use Rattle.plain_machine.specs.declared.plain_move.PlayCause.TheVariants.{NoSuchThread}
use Rattle.plain_machine.specs.Program.{Meaning}
use Rattle.plain_machine.specs.Machine.{Hand, Thread, Effect, Takes, Touches, Looks, HearsClock, HearsDraw, Sends, Ends}
use Rattle.plain_machine.specs.Machine.{Moves, hand_move, held_move, holding, sent_packet, take_move}
use Rattle.plain_machine.specs.History.{Step, act_of, after_moved, log_of, outputs, plain_move, sent_of, step_of}
use Rattle.plain_machine.specs.History.{thread_after, value_after}
use Rattle.box_program.specs.Hands.{local_in}
use Rattle.plain_player.specs.Playing.{input_of_seat}
use Rattle.made_moves.specs.declared.made.Did as did_type
use Rattle.made_moves.specs.declared.made.Did.TheVariants as did
use Rattle.made_moves.specs.declared.made.Made.{Made}
use Rattle.made_moves.specs.Made.{did_by, did_of, is_entry_of, is_output_of, is_touch_of, made_by, made_in, next_did}

-- the numbers of a history are those of the moves
pub record Counts {V : Type 0} (steps : List (Step V)) (made : List Made) : Type 0 where
  pub entries_are : (t : ℕ) → entries t (log_of steps) ≡ length (filter (is_entry_of t) made)
  pub places_are : (v : ℕ) → places v (log_of steps) ≡ length (filter (is_touch_of v) made)
  pub outputs_are : (t : ℕ) → outputs t (sent_of steps) ≡ length (filter (is_output_of t) made)

pub none_counted : {V : Type 0} → Counts {V = V} [] []
none_counted = record { entries_are = λ t. refl; places_are = λ v. refl; outputs_are = λ t. refl }

-- one more of a list
counted : (p : Made → Bool) (xs : List Made) (x : Made)
    → length (filter p (xs ++ x ∷ [])) ≡ length (filter p xs) + (if p x then 1 else 0)
counted p [] x = by (p x)
  where
    by : (b : Bool) → length (if b then x ∷ [] else []) ≡ 0 + (if b then 1 else 0)
    by true = refl
    by false = refl
counted p (y ∷ xs) x = by (p y) (counted p xs x)
  where
    by : (b : Bool) → length (filter p (xs ++ x ∷ [])) ≡ length (filter p xs) + (if p x then 1 else 0)
        → length (if b then y ∷ filter p (xs ++ x ∷ []) else filter p (xs ++ x ∷ []))
        ≡ length (if b then y ∷ filter p xs else filter p xs) + (if p x then 1 else 0)
    by true h = omega (arith, h)
    by false h = h

more : (b : Bool) (before n all : ℕ) → before ≡ n → all ≡ n + (if b then 1 else 0)
    → (if b then before + 1 else before) ≡ all
more true before n all one two = omega (arith, one, two)
more false before n all one two = omega (arith, one, two)

same_and_more : (b : Bool) (before n all : ℕ) → before ≡ n → all ≡ n + (if b && true then 1 else 0)
    → (if b then before + 1 else before) ≡ all
same_and_more true before n all one two = omega (arith, one, two)
same_and_more false before n all one two = omega (arith, one, two)

no_more : (b : Bool) (before n all : ℕ) → before ≡ n → all ≡ n + (if b && false then 1 else 0) → before ≡ all
no_more true before n all one two = omega (arith, one, two)
no_more false before n all one two = omega (arith, one, two)

stays : (before n all : ℕ) → before ≡ n → all ≡ n + 0 → before ≡ all
stays before n all one two = omega (arith, one, two)

module _ {V : Type 0} (t : ℕ) (steps : List (Step V)) (c : Counts steps (made_in steps)) (after : Thread) where
  counts_of : (effect : Effect V) → Counts (step_of t steps after effect ∷ steps)
      (made_in steps ++ made_by (step_of t steps after effect) ∷ [])
  counts_of Takes = record {
    entries_are = λ u. no_more (nat_eq t u) _ _ _ (c.entries_are u) (counted (is_entry_of u) (made_in steps) _);
    places_are = λ v. stays _ _ _ (c.places_are v) (counted (is_touch_of v) (made_in steps) _);
    outputs_are = λ u. no_more (nat_eq t u) _ _ _ (c.outputs_are u) (counted (is_output_of u) (made_in steps) _);
  }
  counts_of (Touches w left) = record {
    entries_are = λ u. same_and_more (nat_eq t u) _ _ _ (c.entries_are u) (counted (is_entry_of u) (made_in steps) _);
    places_are = λ v. more (nat_eq w v) _ _ _ (c.places_are v) (counted (is_touch_of v) (made_in steps) _);
    outputs_are = λ u. no_more (nat_eq t u) _ _ _ (c.outputs_are u) (counted (is_output_of u) (made_in steps) _);
  }
  counts_of (Looks w) = record {
    entries_are = λ u. same_and_more (nat_eq t u) _ _ _ (c.entries_are u) (counted (is_entry_of u) (made_in steps) _);
    places_are = λ v. stays _ _ _ (c.places_are v) (counted (is_touch_of v) (made_in steps) _);
    outputs_are = λ u. no_more (nat_eq t u) _ _ _ (c.outputs_are u) (counted (is_output_of u) (made_in steps) _);
  }
  counts_of (HearsClock a) = record {
    entries_are = λ u. same_and_more (nat_eq t u) _ _ _ (c.entries_are u) (counted (is_entry_of u) (made_in steps) _);
    places_are = λ v. stays _ _ _ (c.places_are v) (counted (is_touch_of v) (made_in steps) _);
    outputs_are = λ u. no_more (nat_eq t u) _ _ _ (c.outputs_are u) (counted (is_output_of u) (made_in steps) _);
  }
  counts_of (HearsDraw a) = record {
    entries_are = λ u. same_and_more (nat_eq t u) _ _ _ (c.entries_are u) (counted (is_entry_of u) (made_in steps) _);
    places_are = λ v. stays _ _ _ (c.places_are v) (counted (is_touch_of v) (made_in steps) _);
    outputs_are = λ u. no_more (nat_eq t u) _ _ _ (c.outputs_are u) (counted (is_output_of u) (made_in steps) _);
  }
  counts_of (Sends packet) = record {
    entries_are = λ u. no_more (nat_eq t u) _ _ _ (c.entries_are u) (counted (is_entry_of u) (made_in steps) _);
    places_are = λ v. stays _ _ _ (c.places_are v) (counted (is_touch_of v) (made_in steps) _);
    outputs_are = λ u. same_and_more (nat_eq t u) _ _ _ (c.outputs_are u) (counted (is_output_of u) (made_in steps) _);
  }
  counts_of Ends = record {
    entries_are = λ u. no_more (nat_eq t u) _ _ _ (c.entries_are u) (counted (is_entry_of u) (made_in steps) _);
    places_are = λ v. stays _ _ _ (c.places_are v) (counted (is_touch_of v) (made_in steps) _);
    outputs_are = λ u. no_more (nat_eq t u) _ _ _ (c.outputs_are u) (counted (is_output_of u) (made_in steps) _);
  }

-- One move

pub record Grows {V : Type 0} (steps next : List (Step V)) (t : ℕ) (d : did_type.Did) : Type 0 where
  pub made : made_in next ≡ made_in steps ++ (record { thread = t; did = d }) ∷ []
  pub counts : Counts next (made_in next)

module _ {V : Type 0} (m : Meaning V) (inputs : ℕ → List Packet) (threads : ℕ) (steps next : List (Step V))
    (plain : PlainMove) (c : Counts steps (made_in steps)) where
  abbrev Goal : did_type.Did → Type 0
  Goal d = Grows steps next plain.thread d

  done : (after : Thread) (effect : Effect V) (d : did_type.Did)
      → did_of (act_of plain.thread steps after.taken effect) ≡ d
      → after_moved steps plain.thread (Moves after effect) ≡ Ok next → Goal d
  done after effect d same is =
      let there : step_of plain.thread steps after effect ∷ steps ≡ next = cc in
      subst (λ (l : List (Step V)). Grows steps l plain.thread d) there (record {
        made = ap (λ (x : did_type.Did). made_in steps ++ (record { thread = plain.thread; did = x }) ∷ []) same;
        counts = counts_of plain.thread steps c after effect;
      })

  by_input : (taken : ℕ) (answer : Option ℕ) (input : Option Packet)
      → after_moved steps plain.thread (take_move m taken answer input) ≡ Ok next → Goal (did.Took (taken + 1))
  by_input taken (Some a) input is = absurd (cc)
  by_input taken None None is = absurd (cc)
  by_input taken None (Some p) is = done (holding (taken + 1) p (m.begin p)) Takes _ refl is

  logged : (w x : What) → w ≡ x → (n k : ℕ) → n ≡ k → did.Logged (n + 1) w ≡ did.Logged (k + 1) x
  logged w x one n k two =
      ap (λ (z : What). did.Logged (n + 1) z) one ∙ ap (λ (i : ℕ). did.Logged (i + 1) x) two

  by_next : (taken : ℕ) (h : Hand) (answer : Option ℕ) (asks : Move)
      → after_moved steps plain.thread (hand_move m (value_after m steps) taken h answer asks) ≡ Ok next
      → Goal (did_by (made_in steps) plain.thread taken answer asks)
  by_next taken h None (move.Access v) is =
      let touched = m.touch v (value_after m steps v) h.place in
      done (holding taken h.packet touched.1) (Touches v touched.0) _
      (logged _ _ (ap (λ (i : ℕ). what.Access v (i + 1)) (c.places_are v)) _ _ (c.entries_are plain.thread)) is
  by_next taken h None (move.Read v) is =
      done (holding taken h.packet (m.look v (value_after m steps v) h.place)) (Looks v) _
      (logged _ _ (ap (λ (i : ℕ). what.Read v i) (c.places_are v)) _ _ (c.entries_are plain.thread)) is
  by_next taken h (Some a) move.Clock is =
      done (holding taken h.packet (m.told a h.place)) (HearsClock a) _
      (logged (what.Clock a) (what.Clock a) refl _ _ (c.entries_are plain.thread)) is
  by_next taken h (Some a) move.Draw is =
      done (holding taken h.packet (m.told a h.place)) (HearsDraw a) _
      (logged (what.Draw a) (what.Draw a) refl _ _ (c.entries_are plain.thread)) is
  by_next taken h None move.Emit is =
      done (holding taken h.packet (m.emitted h.place)) (Sends (sent_packet m h)) _
      (ap (λ (i : ℕ). did.Sent (i + 1)) (c.outputs_are plain.thread)) is
  by_next taken h None move.End is = done (record { taken = taken; hand = None }) Ends _ refl is
  by_next taken h (Some a) (move.Access v) is = absurd (cc)
  by_next taken h (Some a) (move.Read v) is = absurd (cc)
  by_next taken h (Some a) move.Emit is = absurd (cc)
  by_next taken h (Some a) move.End is = absurd (cc)
  by_next taken h None move.Clock is = absurd (cc)
  by_next taken h None move.Draw is = absurd (cc)

  by_hand : (taken : ℕ) (hand : Option Hand)
      → after_moved steps plain.thread (held_move m (inputs plain.thread) (value_after m steps) taken plain.answer hand)
      ≡ Ok next
      → Goal (next_did m (made_in steps) plain.thread (input_of_seat taken (local_in hand)) plain.answer
      (local_in hand))
  by_hand taken None is = by_input taken plain.answer (slice_get (inputs plain.thread) taken) is
  by_hand taken (Some h) is = by_next taken h plain.answer (m.next h.place) is

  abbrev Moved : Bool → Type 0
  Moved b =
      (if b then after_moved steps plain.thread
      (held_move m (inputs plain.thread) (value_after m steps) (thread_after steps plain.thread).taken plain.answer
      (thread_after steps plain.thread).hand) else Err NoSuchThread) ≡ Ok next

  pub grown : plain_move m inputs threads steps plain ≡ Ok next
      → Goal (next_did m (made_in steps) plain.thread
      (input_of_seat (thread_after steps plain.thread).taken (local_in (thread_after steps plain.thread).hand))
      plain.answer (local_in (thread_after steps plain.thread).hand))
  grown is = by (nat_lt plain.thread threads) is
    where
      by : (b : Bool) → Moved b
          → Goal (next_did m (made_in steps) plain.thread
          (input_of_seat (thread_after steps plain.thread).taken (local_in (thread_after steps plain.thread).hand))
          plain.answer (local_in (thread_after steps plain.thread).hand))
      by true is = by_hand (thread_after steps plain.thread).taken (thread_after steps plain.thread).hand is
      by false is = absurd (cc)
