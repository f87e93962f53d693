-- The move that a master makes is the next one on its way.
use Rattle.std.proofs.Common.{◌≡◌, ℕ, ◌<◌, List, [], ◌∷◌, ◌++◌, length, refl, sym, ap, ◌∙◌, subst, Option, Some, None}
use Rattle.std.proofs.Common.{Ok, false}
use Rattle.std.specs.Prelude.{◌^◌, is_some}
use Rattle.plain_text.specs.declared.packet.Packet.{Packet}
use Rattle.input_logger.specs.Inputs.{Fed, inputs_of}
use Rattle.entry_order.specs.declared.what.What.TheVariants as what
use Rattle.entry_order.specs.Log.{Entry}
use Rattle.plain_machine.specs.declared.local.Move.{Move}
use Rattle.plain_machine.specs.declared.local.Move.TheVariants.{Access, Read, Clock, Draw, Emit, End}
use Rattle.plain_machine.specs.declared.plain_move.PlainMove.{PlainMove}
use Rattle.plain_machine.specs.Program.{Meaning, IsLawful}
use Rattle.plain_machine.specs.Machine.{Hand}
use Rattle.plain_machine.specs.History.{Act, Did, Step, log_of, entry_of, thread_after, value_after, plain_move, IsStep}
use Rattle.plain_machine.specs.History.{IsHistory}
use Rattle.plain_machine.proofs.Seats.{same_step}
use Rattle.box_program.specs.Hands.{has_hand, IsInputAfter, input_for}
use Rattle.master_core.specs.declared.step.Stepped.{Stepped}
use Rattle.master_core.specs.declared.step.Stepped.TheVariants as stepped
use Rattle.master_core.specs.Mastered.{Mastered, place_in_hand, HasRoom}
use Rattle.master_core.specs.MasterStanding.{Stands}
use Rattle.master_core.specs.Stepping.{told_for, told_in, move_of, Makes, Follows, MadeOne}
use Rattle.recovery_world.specs.Files.{answer_of_entry, answer_of, moves_made}
use Rattle.recovery_laws.proofs.LedMoves.{EntryFor, move_entry, Made, made_move, made_step}
use Rattle.recovery_laws.proofs.Replays.{no_step}
use Rattle.run_end.specs.Playing.{IsMasterAfter, StandsBefore, PlaysOn, IsTold, MakesNext, told_by, IsBusy}
use Rattle.run_end.proofs.InputLemmas.{hand_is}
use Rattle.run_end.proofs.Rooms.{room_there, moves_left, moves_fall}

-- Two logged moves with the packet in hand at one place are one, where what they are told is one answer.
entry_one : (t answer : ℕ) (log : List Entry) (w : Move) (a b : Option ℕ) (e f : Entry) → a ≡ told_for w answer
    → ((told : ℕ) → answer_of_entry f.what ≡ Some told → told ≡ answer) → EntryFor t w log a e
    → EntryFor t w log b f → e ≡ f
entry_one t answer log (Access v) a b e f is told x y = x ∙ sym y
entry_one t answer log (Read v) a b e f is told x y = x ∙ sym y
entry_one t answer log Clock a b e f is told x y =
    let there : y.0 ≡ answer = told y.0 (ap (λ (z : Entry). answer_of_entry z.what) y.2) in
    let here : Some x.0 ≡ Some answer = sym x.1 ∙ is in
    let same : x.0 ≡ y.0 = cc in
    x.2 ∙ (ap (λ (n : ℕ). entry_of t log (what.Clock n)) same ∙ sym y.2)
entry_one t answer log Draw a b e f is told x y =
    let there : y.0 ≡ answer = told y.0 (ap (λ (z : Entry). answer_of_entry z.what) y.2) in
    let here : Some x.0 ≡ Some answer = sym x.1 ∙ is in
    let same : x.0 ≡ y.0 = cc in
    x.2 ∙ (ap (λ (n : ℕ). entry_of t log (what.Draw n)) same ∙ sym y.2)
entry_one t answer log Emit a b e f is told x y = absurd x
entry_one t answer log End a b e f is told x y = absurd x

hand_one : (o : Option Hand) (h k : Hand) → o ≡ Some h → o ≡ Some k → h ≡ k
hand_one o h k a b = cc

module _ {V : Type 0} (m : Meaning V) (inputs : ℕ → List Packet) (threads : ℕ) (now : List (Step V)) (t answer : ℕ)
    (x : Step V) (hx : IsStep m inputs threads now x) (th : x.thread ≡ t) (told : IsTold x.act answer) where
  -- the thread's move that is told this is the next step
  same_made : (z : Step V) → plain_move m inputs threads now (move_of m now t answer) ≡ Ok (z ∷ now) → z ≡ x
  same_made z e = same_step m inputs threads now now z x hz hx (made.thread ∙ sym th)
      (record { thread = refl; entries = refl; outputs = refl })
      (λ f g lf lg p q. (entries f g lf lg p q, λ v k on. refl))
    where
      made : Made m inputs threads now t (told_in m (thread_after now t).hand answer) z
      made = made_move m inputs threads now (move_of m now t answer) z e

      hz : IsStep m inputs threads now z
      hz = made_step m inputs threads now t (told_in m (thread_after now t).hand answer) z made

      entries : (f g : Entry) (lf lg : Option V) → z.act ≡ Did f lf → x.act ≡ Did g lg → f ≡ g
      entries f g lf lg p q =
          entry_one t answer (log_of now) (m.next here.0.place) (told_in m (thread_after now t).hand answer) hx.1 f g
          asked (λ n k. told n (ap (λ (a : Act V). answer_of a) q ∙ k)) here.2 there
        where
          here : (h : Hand)
              × ((thread_after now t).hand ≡ Some h)
              × EntryFor t (m.next h.place) (log_of now) (told_in m (thread_after now t).hand answer) f
          here = move_entry m (inputs t) (value_after m now) t (thread_after now t)
              (told_in m (thread_after now t).hand answer) z.after made.effect now z.after.taken f lf made.moved
              (sym made.act ∙ p)

          same : (h : Hand) × ((thread_after now t).hand ≡ Some h) × EntryFor t (m.next h.place) (log_of now) hx.1 g
          same = subst (λ (u : ℕ).
              (h : Hand) × ((thread_after now u).hand ≡ Some h) × EntryFor u (m.next h.place) (log_of now) hx.1 g) th
              (move_entry m (inputs x.thread) (value_after m now) x.thread (thread_after now x.thread) hx.1 x.after hx.2
              now x.after.taken g lg hx.3 (sym hx.4 ∙ q))

          there : EntryFor t (m.next here.0.place) (log_of now) hx.1 g
          there = subst (λ (h : Hand). EntryFor t (m.next h.place) (log_of now) hx.1 g)
              (hand_one (thread_after now t).hand same.0 here.0 same.1 here.1) same.2

          asked : told_in m (thread_after now t).hand answer ≡ told_for (m.next here.0.place) answer
          asked = ap (λ (o : Option Hand). told_in m o answer) here.1

  -- what the master answered of a move is told of the next step
  by_makes : (Does : Step V → Type 0) (a : Option ℕ) (q : Mastered V) → ((z : Step V) → Does z → answer_of z.act ≡ a)
      → Makes m inputs threads now (move_of m now t answer) q Does
      → Stands m threads (x ∷ now) q × (a ≡ answer_of x.act)
  by_makes Does a q says k =
      let same = same_made k.step k.plain_is in (
        subst (λ (z : Step V). Stands m threads (z ∷ now) q) same k.stands,
        sym (says k.step k.does) ∙ ap (λ (z : Step V). answer_of z.act) same,
      )

  pub makes_next : (r : Stepped) (q : Mastered V) → Follows m inputs threads now (move_of m now t answer) r q
      → MadeOne r → Stands m threads (x ∷ now) q × (told_by r ≡ answer_of x.act)
  makes_next (stepped.Took k) q f one = by_makes _ None q (λ z e. ap (λ (a : Act V). answer_of a) e) f
  makes_next (stepped.Did e) q f one =
      by_makes _ (answer_of_entry e.what) q (λ z d. ap (λ (a : Act V). answer_of a) d.0.1) f
  makes_next (stepped.Emitted o) q f one = by_makes _ None q (λ z d. ap (λ (a : Act V). answer_of a) d.0) f
  makes_next (stepped.Ended k) q f one = by_makes _ None q (λ z e. ap (λ (a : Act V). answer_of a) e) f
  makes_next stepped.Idle q f one = absurd one
  makes_next (stepped.NotTurn u n) q f one = absurd one
  makes_next stepped.NoMemory q f one = absurd one

  -- The master and the schedule are past the next step.
  pub next_at : (p q : Mastered V) (moves schedule : List PlainMove) (a : Option ℕ)
      → IsMasterAfter m threads now p moves → Stands m threads (x ∷ now) q → a ≡ answer_of x.act
      → schedule ≡ moves ++ (record { thread = t; answer = a }) ∷ [] → IsMasterAfter m threads (x ∷ now) q schedule
  next_at p q moves schedule a at stands is added = record {
    stands = stands;
    schedule_is =
        added ∙ (ap (λ (l : List PlainMove). l ++ (record { thread = t; answer = a }) ∷ []) at.schedule_is
        ∙ (ap (λ (u : ℕ). moves_made now ++ (record { thread = u; answer = a }) ∷ []) (sym th)
        ∙ ap (λ (o : Option ℕ). moves_made now ++ (record { thread = x.thread; answer = o }) ∷ []) is));
  }

  -- It has a packet for it.
  pub never_idle : (p : Mastered V) (i : Option Packet) → Stands m threads now p → IsInputAfter inputs t now i
      → has_hand (place_in_hand p t) ≡ false → i ≡ None → ⊥
  never_idle p i stands input none is = no_step m inputs threads now t x hx th hand
      (sym (input ∙ ap (λ (o : Option Hand). input_for (inputs t) (thread_after now t).taken o) hand) ∙ is)
    where
      low : t < threads
      low = subst (λ (u : ℕ). u < threads) th hx.0

      off : (o : Option Hand) → is_some o ≡ false → o ≡ None
      off None e = refl
      off (Some h) e = absurd (cc)

      hand : (thread_after now t).hand ≡ None
      hand = off (thread_after now t).hand (sym (hand_is m threads now p t stands low) ∙ none)

-- So it answers none of the two that tell of no move.
pub is_busy : (r : Stepped) → (r ≡ stepped.Idle → ⊥) → ((u n : ℕ) → r ≡ stepped.NotTurn u n → ⊥) → IsBusy r
is_busy (stepped.Took k) idle turn = tt
is_busy (stepped.Did e) idle turn = tt
is_busy (stepped.Emitted o) idle turn = tt
is_busy (stepped.Ended k) idle turn = tt
is_busy stepped.Idle idle turn = absurd (idle refl)
is_busy (stepped.NotTurn u n) idle turn = absurd (turn u n refl)
is_busy stepped.NoMemory idle turn = tt

-- A call of the master

-- the packet that was handed over is that of the thread's next move
abbrev pub IsInput : {V : Type 0} → Fed → ℕ → Mastered V → Option Packet → Type 0
IsInput {V} fed t p i =
    (m : Meaning V) (threads : ℕ) (steps : List (Step V)) → IsHistory m (inputs_of fed) threads steps
    → Stands m threads steps p → t < threads → IsInputAfter (inputs_of fed) t steps i

-- and the move that was made is that of the thread with this answer
abbrev pub IsMove : {V : Type 0} → Meaning V → ℕ → ℕ → Mastered V → Option Packet → Stepped → Mastered V → Type 0
IsMove {V} m t answer p i r q =
    (inputs : ℕ → List Packet) (threads : ℕ) (steps : List (Step V)) → Stands m threads steps p
    → IsInputAfter inputs t steps i → Follows m inputs threads steps (move_of m steps t answer) r q

-- a way begins with a step of the thread
pub record Next {V : Type 0} (m : Meaning V) (fed : Fed) (t answer threads : ℕ)
    (now steps : List (Step V)) : Type 0 where
  pub x : Step V
  pub steps_are : steps ≡ x ∷ now
  pub history : IsHistory m (inputs_of fed) threads (x ∷ now)
  pub thread : x.thread ≡ t
  pub told : IsTold x.act answer
  pub low : t < threads

pub next_of : {V : Type 0} (m : Meaning V) (fed : Fed) (t answer threads : ℕ) (now steps : List (Step V))
    → MakesNext m fed t answer threads now steps → Next m fed t answer threads now steps
next_of {V} m fed t answer threads now steps k =
    let h = subst (λ (l : List (Step V)). IsHistory m (inputs_of fed) threads l) k.1 k.2 in
    record {
      x = k.0;
      steps_are = k.1;
      history = h;
      thread = k.3;
      told = k.4;
      low = subst (λ (u : ℕ). u < threads) k.3 h.0.0;
    }

-- It had its turn, and found a packet.
pub busy_next : {V : Type 0} (m : Meaning V) (fed : Fed) (t answer : ℕ) (p : Mastered V) (moves : List PlainMove)
    (i : Option Packet) (r : Stepped) → StandsBefore (MakesNext m fed t answer) m p moves → IsInput fed t p i
    → (r ≡ stepped.Idle → (has_hand (place_in_hand p t) ≡ false) × (i ≡ None))
    → ((u n : ℕ) → r ≡ stepped.NotTurn u n → ⊥) → IsBusy r
busy_next m fed t answer p moves i r before input idle turn =
    let n = next_of m fed t answer before.0 before.1 before.2 before.3 in
    let at = before.4 in
    is_busy r
    (λ e. never_idle m (inputs_of fed) before.0 before.1 t answer n.x n.history.0 n.thread n.told p i at.stands
    (input m before.0 before.1 n.history.1 at.stands n.low) (idle e).0 (idle e).1) turn

-- The master and the schedule are past the step.
pub plays_next : {V : Type 0} (m : Meaning V) (fed : Fed) (t answer : ℕ) (p q : Mastered V)
    (moves schedule : List PlainMove) (i : Option Packet) (r : Stepped) (a : Option ℕ) → IsInput fed t p i
    → IsMove m t answer p i r q → a ≡ told_by r → MadeOne r
    → schedule ≡ moves ++ (record { thread = t; answer = a }) ∷ []
    → PlaysOn (MakesNext m fed t answer) m p moves q schedule
plays_next {V} m fed t answer p q moves schedule i r a input move is one added = λ threads now steps k at.
    let n = next_of m fed t answer threads now steps k in
    let made = makes_next m (inputs_of fed) threads now t answer n.x n.history.0 n.thread n.told r q
    (move (inputs_of fed) threads now at.stands (input m threads now n.history.1 at.stands n.low)) one in
    subst (λ (l : List (Step V)). IsMasterAfter m threads l q schedule) (sym n.steps_are) (next_at m (inputs_of fed)
    threads now t answer n.x n.history.0 n.thread n.told p q moves schedule a at made.0 (is ∙ made.1) added)

-- There is room for it.
pub room_next : {V : Type 0} (m : Meaning V) (fits : ℕ → V → Type 0) → IsLawful m fits → (fed : Fed) (t answer : ℕ)
    (p : Mastered V) (moves : List PlainMove) → length fed.packets < 2 ^ 50
    → StandsBefore (MakesNext m fed t answer) m p moves → HasRoom p t
room_next m fits lawful fed t answer p moves few before =
    let n = next_of m fed t answer before.0 before.1 before.2 before.3 in
    room_there m fits lawful fed before.0 before.1 p t n.history.1 few before.4.stands n.low

-- and one move less is left then
pub fall_next : {V : Type 0} (m : Meaning V) (fits : ℕ → V → Type 0) → IsLawful m fits → (fed : Fed) (t answer : ℕ)
    (p q : Mastered V) (moves schedule : List PlainMove) → length fed.packets < 2 ^ 50
    → StandsBefore (MakesNext m fed t answer) m p moves → PlaysOn (MakesNext m fed t answer) m p moves q schedule
    → moves_left q t < moves_left p t
fall_next {V} m fits lawful fed t answer p q moves schedule few before plays =
    let n = next_of m fed t answer before.0 before.1 before.2 before.3 in
    let after = plays before.0 before.1 before.2 before.3 before.4 in
    moves_fall m before.0 before.1 n.x p q t before.4.stands
    (subst (λ (l : List (Step V)). Stands m before.0 l q) n.steps_are after.stands) n.thread n.low
    (room_next m fits lawful fed t answer p moves few before)
