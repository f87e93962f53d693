-- What each event makes of a world with nothing on the way.
use Rattle.std.proofs.Common.{◌≡◌, ℕ, zero, suc, ◌+◌, ◌≤◌, ◌<◌, ◌⊎◌, List, [], ◌∷◌, ◌++◌, length, refl, sym, ap}
use Rattle.std.proofs.Common.{◌∙◌, subst, inl, inr, arith, Bool, Option, Some, None, true, false, Result, Ok, Err}
use Rattle.std.specs.Prelude.{Contains, nat_lt, slice_get, slice_index_or}
use Rattle.std.proofs.lemmas.Bool.{cases_lt}
use Rattle.std.proofs.lemmas.Bool.Decides.{nat_tests}
use Rattle.plain_text.specs.declared.packet.Packet.{Packet}
use Rattle.entry_order.specs.declared.what.What.TheVariants as what
use Rattle.entry_order.specs.Log.{Entry, IsIn}
use Rattle.entry_order.proofs.Missing.{output_in}
use Rattle.plain_machine.specs.declared.local.Move.{Move}
use Rattle.plain_machine.specs.declared.local.Move.TheVariants as move
use Rattle.plain_machine.specs.declared.emission.Emission.{Emission}
use Rattle.plain_machine.specs.declared.plain_move.PlainMove.{PlainMove}
use Rattle.plain_machine.specs.declared.plain_move.PlayCause.{PlayCause}
use Rattle.plain_machine.specs.declared.plain_move.PlayCause.TheVariants.{NoSuchThread}
use Rattle.plain_machine.specs.Program.{Meaning}
use Rattle.plain_machine.specs.Machine.{Effect, Hand, Moved, Moves, Illegal, Thread, hand_move, held_move, take_move}
use Rattle.plain_machine.specs.Machine.{thread_move}
use Rattle.plain_machine.specs.History.{Step, log_of, sent_of, outputs, plain_move, after_moved, step_of, thread_after}
use Rattle.plain_machine.specs.History.{value_after, IsHistory}
use Rattle.plain_machine.specs.Agree.{SendsAfter}
use Rattle.recovery_world.specs.declared.event.Event.TheVariants as event
use Rattle.recovery_world.specs.declared.event.Outcome.{Outcome}
use Rattle.recovery_world.specs.declared.event.Outcome.TheVariants as outcome
use Rattle.recovery_world.specs.World.{Setting, Sent, World, opening, inputs_fed}
use Rattle.recovery_world.specs.Events.{HasArrived, HasNumber, IsAmong, IsOutputOf, IsPartOf, MayGo, On}
use Rattle.recovery_world.specs.Events.{Parts as Parted}
use Rattle.recovery_world.specs.Events.{MakesMove, OnStep, Releases, Tells, TellsHand}
use Rattle.random_words.specs.Words.{word_of}
use Rattle.recovery_world.specs.Files.{sent_names}
use Rattle.recovery_world.specs.Turns.{Awaits, TellsClock, TellsDraw}
use Rattle.recovery_laws.specs.Sound.{Sound}
use Rattle.recovery_laws.proofs.Finishes.{sent_there}
use Rattle.recovery_laws.proofs.Settlings.{among_left, among_right, number_high}
use Rattle.recovery_laws.proofs.Sets.{among_either}
use Rattle.snapshot_steps.proofs.FromOutputReleases.{sent_names_both}
use Rattle.system_parts.proofs.OutputNumbers.{output_from_one}
use Rattle.handover_world.specs.Faults.{IsOutputIn}
use Rattle.system_images.specs.Building.{IsBuilt, IsReleased}
use Rattle.system_images.proofs.ReadyLemmas.{none_sent}

-- what an answer is, is one thing
pub ok_same : {A E : Type 0} (a b : A) (r : Result A E) → r ≡ Ok a → r ≡ Ok b → a ≡ b
ok_same a b r p q = cc

pub never_both : {A E : Type 0} (r : Result A E) (x : E) (a : A) → r ≡ Err x → r ≡ Ok a → ⊥
never_both r x a p q = cc

-- A crash and a recovery

none_of : {V : Type 0} (w : World V) (part : List Entry) → w.held ≡ [] → IsPartOf w.held part → part ≡ []
none_of w part none of = subst (λ (l : List Entry). IsPartOf l part) none of

pub turned : {V : Type 0} (s : Setting V) (w mid next : World V) (to other : Outcome) → On s w event.Crash to [] mid
    → On s mid event.Recover other [] next → (fed epoch : ℕ) → IsBuilt fed epoch [] [] [] w
    → IsBuilt fed (epoch + 1) [] [] [] next
turned {V} s w mid next to other (inl a, f) b fed epoch h = absurd (let down = a.0 in let up = h.up in cc)
turned {V} s w mid next to other (inr a, f) (inl b, g) fed epoch h =
    absurd (let down : mid.up ≡ false = ap (λ (z : World V). z.up) a.2 in let up = b.0 in cc)
turned {V} s w mid next to other (inr a, f) (inr b, g) fed epoch h = record {
  fed_is = ap (λ (z : World V). z.fed) b.1.new_is ∙ (ap (λ (z : World V). z.fed) a.2 ∙ h.fed_is);
  epoch_is =
      let up : next.epoch ≡ mid.epoch + 1 = ap (λ (z : World V). z.epoch) b.1.new_is in
      let same : mid.epoch ≡ w.epoch = ap (λ (z : World V). z.epoch) a.2 in
      let is = h.epoch_is in omega (arith, up, same, is);
  up = ap (λ (z : World V). z.up) b.1.new_is;
  past_is = ap (λ (z : World V). z.past) b.1.new_is ∙ (ap (λ (z : World V). z.stored) a.2 ∙ h.stored_is);
  stored_is = ap (λ (z : World V). z.stored) b.1.new_is ∙ (ap (λ (z : World V). z.stored) a.2 ∙ h.stored_is);
  copy = ap (λ (z : World V). z.copy) b.1.new_is ∙ ap (λ (z : World V). z.copy) a.2;
  held = ap (λ (z : World V). z.held) b.1.new_is ∙ none;
  followed = ap (λ (z : World V). z.followed) b.1.new_is ∙ none;
  waiting = ap (λ (z : World V). z.waiting) b.1.new_is;
  released = ap (λ (l : List Sent). sent_names l) freed ∙ h.released;
  sent = λ o i. h.sent o (subst (λ (l : List Sent). IsAmong o l) freed i);
}
  where
    none : b.1.part ≡ []
    none = none_of mid b.1.part (ap (λ (z : World V). z.held) a.2 ∙ h.held) b.1.part_of

    freed : next.released ≡ w.released
    freed = ap (λ (z : World V). z.released) b.1.new_is ∙ ap (λ (z : World V). z.released) a.2

-- A move

-- a legal move, by what its thread does
pub legal_move : {V : Type 0} (m : Meaning V) (inputs : ℕ → List Packet) (threads : ℕ) (steps more : List (Step V))
    (plain : PlainMove) → plain_move m inputs threads steps plain ≡ Ok more
    → (plain.thread < threads) × (after : Thread) × (effect : Effect V)
    × (thread_move m (inputs plain.thread) (value_after m steps) (thread_after steps plain.thread) plain.answer
    ≡ Moves after effect)
legal_move {V} m inputs threads steps more plain e = go (cases_lt plain.thread threads)
  where
    moved : plain.thread < threads → (w : Moved V)
        → thread_move m (inputs plain.thread) (value_after m steps) (thread_after steps plain.thread) plain.answer ≡ w
        → after_moved steps plain.thread w ≡ Ok more
        → (plain.thread < threads) × (after : Thread) × (effect : Effect V)
        × (thread_move m (inputs plain.thread) (value_after m steps) (thread_after steps plain.thread) plain.answer
        ≡ Moves after effect)
    moved low (Illegal cause) k e = absurd (cc)
    moved low (Moves after effect) k e = (low, after, effect, k)

    go : (plain.thread < threads) ⊎ (threads ≤ plain.thread)
        → (plain.thread < threads) × (after : Thread) × (effect : Effect V)
        × (thread_move m (inputs plain.thread) (value_after m steps) (thread_after steps plain.thread) plain.answer
        ≡ Moves after effect)
    go (inl low) = let t : nat_lt plain.thread threads ≡ true = grind (arith, nat_tests) in
        moved low _ refl (rw t at e)
    go (inr high) = let t : nat_lt plain.thread threads ≡ false = grind (arith, nat_tests) in
        let n : Err NoSuchThread ≡ Ok more = rw t at e in absurd (cc)

-- with nothing to follow nothing is waited for
none_awaited : (log : List Entry) (t : ℕ) (next : Move) (e : Entry) → Awaits [] log t next e → ⊥
none_awaited log t (move.Access v) e a = elim a.which as (λ _. ⊥) [ inl k ↦ k.1.0 | inr k ↦ k.1.0 ]
none_awaited log t (move.Read v) e a = elim a.which as (λ _. ⊥) [ inl k ↦ k.1.0 | inr k ↦ k.1.0 ]
none_awaited log t move.Clock e a = a
none_awaited log t move.Draw e a = a
none_awaited log t move.Emit e a = a
none_awaited log t move.End e a = a

-- with nothing to follow a legal move is told the given answer
told_clock : (log : List Entry) (t : ℕ) (given answer : Option ℕ) (clock a : ℕ) → (given ≡ None → ⊥)
    → answer ≡ Some a → TellsClock [] log t given clock a → answer ≡ given
told_clock log t given answer clock a some is (inl i) = absurd i
told_clock log t given answer clock a some is (inr (none, inl k)) = is ∙ sym k
told_clock log t given answer clock a some is (inr (none, inr k)) = absurd (some k.0)

told_draw : (log : List Entry) (t : ℕ) (given answer : Option ℕ) (words : ℕ → ℕ) (drawn a now : ℕ)
    → (given ≡ None → ⊥) → answer ≡ Some a → TellsDraw [] log t given words drawn a now → answer ≡ given
told_draw log t given answer words drawn a now some is (inl i) = absurd i.0
told_draw log t given answer words drawn a now some is (inr (none, inl k)) = is ∙ sym k.0
told_draw log t given answer words drawn a now some is (inr (none, inr k)) = absurd (some k.0)

module _ {V : Type 0} (s : Setting V) (w : World V) (t : ℕ) (none : w.followed ≡ []) where
  told_move : (given answer : Option ℕ) (drawn taken : ℕ) (h : Hand) (value : ℕ → V) (after : Thread)
      (effect : Effect V) (next : Move) → hand_move s.meaning value taken h given next ≡ Moves after effect
      → Tells s w t given answer drawn next → answer ≡ given
  told_move None answer drawn taken h value after effect (move.Access v) e tells = tells.0
  told_move (Some a) answer drawn taken h value after effect (move.Access v) e tells = absurd (cc)
  told_move None answer drawn taken h value after effect (move.Read v) e tells = tells.0
  told_move (Some a) answer drawn taken h value after effect (move.Read v) e tells = absurd (cc)
  told_move None answer drawn taken h value after effect move.Clock e tells = absurd (cc)
  told_move (Some a) answer drawn taken h value after effect move.Clock e (b, is, same, tells) =
      told_clock (log_of w.past) t (Some a) answer w.clock b (λ n. cc) is
      (subst (λ (l : List Entry). TellsClock l (log_of w.past) t (Some a) w.clock b) none tells)
  told_move None answer drawn taken h value after effect move.Draw e tells = absurd (cc)
  told_move (Some a) answer drawn taken h value after effect move.Draw e (b, is, tells) =
      told_draw (log_of w.past) t (Some a) answer (word_of s.seed) w.drawn b drawn (λ n. cc) is
      (subst (λ (l : List Entry). TellsDraw l (log_of w.past) t (Some a) (word_of s.seed) w.drawn b drawn) none tells)
  told_move None answer drawn taken h value after effect move.Emit e tells = tells.0
  told_move (Some a) answer drawn taken h value after effect move.Emit e tells = absurd (cc)
  told_move None answer drawn taken h value after effect move.End e tells = tells.0
  told_move (Some a) answer drawn taken h value after effect move.End e tells = absurd (cc)

  told_hand : (given answer : Option ℕ) (drawn taken : ℕ) (packets : List Packet) (hand : Option Hand) (value : ℕ → V)
      (after : Thread) (effect : Effect V) → held_move s.meaning packets value taken given hand ≡ Moves after effect
      → TellsHand s w t given answer drawn hand → answer ≡ given
  told_hand given answer drawn taken packets (Some h) value after effect e tells =
      told_move given answer drawn taken h value after effect (s.meaning.next h.place) e tells
  told_hand given answer drawn taken packets None value after effect e tells =
      tells.0 ∙ sym (free given (slice_get packets taken) e)
    where
      free : (given : Option ℕ) (i : Option Packet) → take_move s.meaning taken given i ≡ Moves after effect
          → given ≡ None
      free None i e = refl
      free (Some a) i e = absurd (cc)

-- a thread with nothing in hand and no further input makes no legal move
no_move : {V : Type 0} (m : Meaning V) (value : ℕ → V) (taken : ℕ) (packets : List Packet) (given : Option ℕ)
    (hand : Option Hand) (after : Thread) (effect : Effect V) → hand ≡ None → slice_get packets taken ≡ None
    → held_move m packets value taken given hand ≡ Moves after effect → ⊥
no_move m value taken packets given (Some h) after effect none empty e = absurd (cc)
no_move {V} m value taken packets given None after effect none empty e = go given (slice_get packets taken) empty e
  where
    go : (given : Option ℕ) (i : Option Packet) → i ≡ None → take_move m taken given i ≡ Moves after effect → ⊥
    go (Some a) i is e = absurd (cc)
    go None None is e = absurd (cc)
    go None (Some p) is e = absurd (cc)

pub made : {V : Type 0} (s : Setting V) (w next : World V) (plain : PlainMove) (to : Outcome)
    → On s w (event.Step plain.thread plain.answer) to [] next → (fed epoch : ℕ) (past more : List (Step V))
    → IsBuilt fed epoch past [] [] w → plain_move s.meaning (inputs_fed s fed) s.threads past plain ≡ Ok more
    → IsBuilt fed epoch more [] [] next
made {V} s w next plain to on fed epoch past more h legal = go on.0
  where
    here : plain_move s.meaning (inputs_fed s w.fed) s.threads w.past plain ≡ Ok more
    here = subst (λ (n : ℕ). plain_move s.meaning (inputs_fed s n) s.threads w.past plain ≡ Ok more) (sym h.fed_is)
        (subst (λ (l : List (Step V)). plain_move s.meaning (inputs_fed s fed) s.threads l plain ≡ Ok more)
        (sym h.past_is) legal)

    by : (plain.thread < s.threads) × (after : Thread) × (effect : Effect V)
        × (thread_move s.meaning (inputs_fed s w.fed plain.thread) (value_after s.meaning w.past)
        (thread_after w.past plain.thread) plain.answer ≡ Moves after effect)
    by = legal_move s.meaning (inputs_fed s w.fed) s.threads w.past more plain here

    go : OnStep s w plain.thread plain.answer to next → IsBuilt fed epoch more [] [] next
    go (inl a) = absurd (let high = a.0 in let low = by.0 in omega (arith, high, low))
    go (inr (inl a)) = absurd (let down = a.1 in let up = h.up in cc)
    go (inr (inr (inl a))) =
        let th = thread_after w.past plain.thread in
        absurd (no_move s.meaning (value_after s.meaning w.past) th.taken (inputs_fed s w.fed plain.thread) plain.answer
        th.hand by.1 by.2 a.2.0 a.2.1 by.3)
    go (inr (inr (inr (inl a)))) =
        absurd (none_awaited (log_of w.past) plain.thread (s.meaning.next a.2.hand.place) a.2.entry
        (subst (λ (l : List Entry). Awaits l (log_of w.past) plain.thread (s.meaning.next a.2.hand.place) a.2.entry)
        h.followed a.2.awaits))
    go (inr (inr (inr (inr a)))) = record {
      fed_is = ap (λ (z : World V). z.fed) k.new_is ∙ h.fed_is;
      epoch_is = ap (λ (z : World V). z.epoch) k.new_is ∙ h.epoch_is;
      up = ap (λ (z : World V). z.up) k.new_is ∙ h.up;
      past_is = ap (λ (z : World V). z.past) k.new_is ∙ one;
      stored_is = ap (λ (z : World V). z.stored) k.new_is ∙ h.stored_is;
      copy = ap (λ (z : World V). z.copy) k.new_is ∙ h.copy;
      held = ap (λ (z : World V). z.held) k.new_is ∙ h.held;
      followed = ap (λ (z : World V). z.followed) k.new_is ∙ h.followed;
      waiting = ap (λ (z : World V). z.waiting) k.new_is ∙ h.waiting;
      released = ap (λ (z : World V). sent_names z.released) k.new_is ∙ h.released;
      sent = λ o i.
          none o w.released h.released (subst (λ (l : List Sent). IsAmong o l)
          (ap (λ (z : World V). z.released) k.new_is) i);
    }
      where
        k : MakesMove s w plain.thread plain.answer to next
        k = a.2

        none : (o : Sent) (l : List Sent) → sent_names l ≡ [] → IsAmong o l → SendsAfter more o.emission o.after
        none o [] is i = absurd i
        none o (x ∷ l) is i = absurd (cc)

        same : k.answer ≡ plain.answer
        same =
            let th = thread_after w.past plain.thread in
            told_hand s w plain.thread h.followed plain.answer k.answer k.drawn th.taken
            (inputs_fed s w.fed plain.thread) th.hand (value_after s.meaning w.past) by.1 by.2 by.3 k.tells

        one : k.step ∷ w.past ≡ more
        one = ok_same (k.step ∷ w.past) more (plain_move s.meaning (inputs_fed s w.fed) s.threads w.past plain)
            (subst (λ (b : Option ℕ). plain_move s.meaning (inputs_fed s w.fed) s.threads w.past
            (record { thread = plain.thread; answer = b }) ≡ Ok (k.step ∷ w.past)) same k.moves) here

-- A snapshot that is stored

none_parted : (P : Sent → Type 0) (waiting freed stay : List Sent) → waiting ≡ [] → Parted P waiting freed stay
    → (freed ≡ []) × (stay ≡ [])
none_parted P waiting freed stay none parts = subst (λ (l : List Sent). Parted P l freed stay) none parts

pub stored_now : {V : Type 0} (s : Setting V) (w mid next : World V) (to other : Outcome) (freed : List Sent)
    → On s w event.Snap to [] mid → On s mid event.Store other freed next
    → (fed epoch : ℕ) (past : List (Step V)) → IsBuilt fed epoch past [] [] w → IsBuilt fed epoch past past [] next
stored_now {V} s w mid next to other freed (inl a, f) b fed epoch past h =
    absurd (let down = a.0 in let up = h.up in cc)
stored_now {V} s w mid next to other freed (inr a, f) (inl b) fed epoch past h =
    absurd (let some : mid.copy ≡ Some w.past = ap (λ (z : World V). z.copy) a.2 in let none = b.0 in cc)
stored_now {V} s w mid next to other freed (inr a, f) (inr (copy, is, to_is, rel)) fed epoch past h = record {
  fed_is = ap (λ (z : World V). z.fed) rel.new_is ∙ (ap (λ (z : World V). z.fed) a.2 ∙ h.fed_is);
  epoch_is = ap (λ (z : World V). z.epoch) rel.new_is ∙ (ap (λ (z : World V). z.epoch) a.2 ∙ h.epoch_is);
  up = ap (λ (z : World V). z.up) rel.new_is ∙ (ap (λ (z : World V). z.up) a.2 ∙ h.up);
  past_is = ap (λ (z : World V). z.past) rel.new_is ∙ (ap (λ (z : World V). z.past) a.2 ∙ h.past_is);
  stored_is = ap (λ (z : World V). z.stored) rel.new_is ∙ (copied ∙ h.past_is);
  copy = ap (λ (z : World V). z.copy) rel.new_is;
  held = ap (λ (z : World V). z.held) rel.new_is ∙ (ap (λ (z : World V). z.held) a.2 ∙ h.held);
  followed = ap (λ (z : World V). z.followed) rel.new_is ∙ (ap (λ (z : World V). z.followed) a.2 ∙ h.followed);
  waiting = ap (λ (z : World V). z.waiting) rel.new_is ∙ none.1;
  released =
      ap (λ (z : World V). sent_names z.released) rel.new_is
      ∙ (ap (λ (l : List Sent). sent_names (mid.released ++ l)) none.0
      ∙ (sent_names_both mid.released []
      ∙ (ap (λ (l : List (ℕ × ℕ)). l ++ []) (ap (λ (z : World V). sent_names z.released) a.2 ∙ h.released))));
  sent = λ o i. not_there o mid.released (ap (λ (z : World V). sent_names z.released) a.2 ∙ h.released)
      (subst (λ (l : List Sent). IsAmong o (mid.released ++ l)) none.0
      (subst (λ (l : List Sent). IsAmong o l) (ap (λ (z : World V). z.released) rel.new_is) i));
}
  where
    copied : copy ≡ w.past
    copied = let some : mid.copy ≡ Some w.past = ap (λ (z : World V). z.copy) a.2 in cc

    none : (freed ≡ []) × (rel.stay ≡ [])
    none = none_parted _ mid.waiting freed rel.stay (ap (λ (z : World V). z.waiting) a.2 ∙ h.waiting) rel.parts

    not_there : (o : Sent) (l : List Sent) → sent_names l ≡ [] → IsAmong o (l ++ [])
        → SendsAfter past o.emission o.after
    not_there o [] is i = absurd i
    not_there o (x ∷ l) is i = absurd (cc)

-- An output

-- the name of an output is among those of a list that has it
pub name_there : (o : Sent) (l : List Sent) → IsAmong o l
    → Contains (sent_names l) (o.emission.thread, o.emission.number)
name_there o [] i = absurd i
name_there o (x ∷ l) (inl same) = (
  0,
  omega arith,
  ap (λ (p : Sent). (p.emission.thread, p.emission.number)) same,
)
name_there o (x ∷ l) (inr i) = let r = name_there o l i in (suc r.0, omega (arith, r.1), r.2)

-- and a name there is that of one
pub named_there : (t n : ℕ) (l : List Sent) → Contains (sent_names l) (t, n)
    → (o : Sent) × HasNumber t n o × IsAmong o l
named_there t n [] h = absurd (let k = h.1 in omega (arith, k))
named_there t n (x ∷ l) (zero, k, e) = (
  x,
  (ap (λ (p : ℕ × ℕ). p.0) e, ap (λ (p : ℕ × ℕ). p.1) e),
  inl refl,
)
named_there t n (x ∷ l) (suc i, k, e) =
    let r = named_there t n l (i, omega (arith, k), e) in (r.0, r.1, inr r.2)

module _ {V : Type 0} (s : Setting V) (w next : World V) (sound : Sound s w) (fed epoch : ℕ) (past : List (Step V))
    (names : List (ℕ × ℕ)) (h : IsBuilt fed epoch past past names w) (t n : ℕ) where
  legal : IsHistory s.meaning (inputs_fed s w.fed) s.threads w.past
  legal = sound.firm.legal

  of_past : (o : Sent) → IsOutputOf w t n o → IsOutputIn past (t, n)
  of_past o of =
      let first = output_from_one s.meaning (inputs_fed s w.fed) s.threads w.past o.emission o.after legal of.0 in
      let last = number_high s.meaning (inputs_fed s w.fed) s.threads w.past o.emission o.after legal of.0 in
      let same : outputs o.emission.thread (sent_of w.past) ≡ outputs t (sent_of past) =
      ap (λ (u : ℕ). outputs u (sent_of w.past)) of.1.0 ∙ ap (λ (l : List (Step V)). outputs t (sent_of l)) h.past_is in
      let number = of.1.1 in
      (omega (arith, first, number), omega (arith, last, number, same))

  there_of : IsOutputIn past (t, n) → (o : Sent) × IsOutputOf w t n o
  there_of is =
      let same : outputs t (sent_of w.past) ≡ outputs t (sent_of past) =
      ap (λ (l : List (Step V)). outputs t (sent_of l)) h.past_is in
      let low = is.0 in
      let high = is.1 in
      let r = sent_there s.meaning (inputs_fed s w.fed) s.threads t n w.past legal low (omega (arith, high, same)) in
      (record { emission = r.0; after = r.1 }, (r.2, (r.3, r.4)))

  -- what arrived was released
  was_released : HasArrived w t n → Contains names (t, n)
  was_released (o, of, inl i) = subst (λ (l : List (ℕ × ℕ)). Contains l (t, n)) h.released
      (subst (λ (k : ℕ). Contains (sent_names w.released) (t, k)) of.1
      (subst (λ (u : ℕ). Contains (sent_names w.released) (u, o.emission.number)) of.0 (name_there o w.released i)))
  was_released (o, of, inr i) = absurd (subst (λ (l : List Sent). IsAmong o l) h.waiting i)

  has_arrived : Contains names (t, n) → HasArrived w t n
  has_arrived there =
      let r = named_there t n w.released
      (subst (λ (l : List (ℕ × ℕ)). Contains l (t, n)) (sym h.released) there) in
      (r.0, r.1, inl r.2)

  pub released_now : (to : Outcome) (freed : List Sent) (good : Bool) → (good ≡ true → to ≡ outcome.Released)
      → (to ≡ outcome.Released → good ≡ true) → On s w (event.Out t n) to freed next
      → IsReleased (t, n) good fed epoch past names next
  released_now to freed true whole back on = go on (whole refl)
    where
      go : On s w (event.Out t n) to freed next → to ≡ outcome.Released
          → IsReleased (t, n) true fed epoch past names next
      go (inl a) is = absurd (let no = a.1 in cc)
      go (inr (low, (inl a, f))) is = absurd (let no = a.1 in cc)
      go (inr (low, (inr (inl a), f))) is = absurd (let no = a.3 in cc)
      go (inr (low, (inr (inr (inr a)), f))) is = absurd (let no = a.5 in cc)
      go (inr (low, (inr (inr (inl a)), f))) is = (
        record {
          fed_is = ap (λ (z : World V). z.fed) a.5 ∙ h.fed_is;
          epoch_is = ap (λ (z : World V). z.epoch) a.5 ∙ h.epoch_is;
          up = ap (λ (z : World V). z.up) a.5 ∙ h.up;
          past_is = ap (λ (z : World V). z.past) a.5 ∙ h.past_is;
          stored_is = ap (λ (z : World V). z.stored) a.5 ∙ h.stored_is;
          copy = ap (λ (z : World V). z.copy) a.5 ∙ h.copy;
          held = ap (λ (z : World V). z.held) a.5 ∙ h.held;
          followed = ap (λ (z : World V). z.followed) a.5 ∙ h.followed;
          waiting = ap (λ (z : World V). z.waiting) a.5 ∙ h.waiting;
          released =
              ap (λ (z : World V). sent_names z.released) a.5
              ∙ (sent_names_both w.released (a.0 ∷ [])
              ∙ (ap (λ (l : List (ℕ × ℕ)). l ++ (a.0.emission.thread, a.0.emission.number) ∷ []) h.released
              ∙ (ap (λ (u : ℕ). names ++ (u, a.0.emission.number) ∷ []) a.1.1.0
              ∙ ap (λ (k : ℕ). names ++ (t, k) ∷ []) a.1.1.1)));
          sent = λ o i. sends o (among_either o w.released (a.0 ∷ [])
              (subst (λ (l : List Sent). IsAmong o l) (ap (λ (z : World V). z.released) a.5) i));
        },
        of_past a.0 a.1,
        λ there. a.2 (has_arrived there),
      )
        where
          sends : (o : Sent) → IsAmong o w.released ⊎ IsAmong o (a.0 ∷ []) → SendsAfter past o.emission o.after
          sends o (inl i) = h.sent o i
          sends o (inr (inl same)) =
              subst (λ (p : Sent). SendsAfter past p.emission p.after) same
              (subst (λ (l : List (Step V)). SendsAfter l a.0.emission a.0.after) h.past_is a.1.0)
          sends o (inr (inr i)) = absurd i
  released_now to freed false whole back on = go on
    where
      go : On s w (event.Out t n) to freed next → IsReleased (t, n) false fed epoch past names next
      go (inl a) = inl (λ is.
          let none = none_sent s.meaning (inputs_fed s w.fed) s.threads t w.past legal a.0 in
          let same : outputs t (sent_of w.past) ≡ outputs t (sent_of past) =
          ap (λ (l : List (Step V)). outputs t (sent_of l)) h.past_is in
          omega (arith, none, same, is))
      go (inr (low, (inl a, f))) = inl (λ is. let r = there_of is in a.0 r.0 r.1)
      go (inr (low, (inr (inl a), f))) = inr (was_released a.2)
      go (inr (low, (inr (inr (inl a)), f))) = absurd (let k = back a.4 in cc)
      go (inr (low, (inr (inr (inr a)), f))) =
          absurd (a.4.missing.not_stored (subst (λ (l : List (Step V)). IsIn a.3 (log_of l))
          (h.past_is ∙ sym h.stored_is)
          (output_in (log_of w.past) a.0.emission.thread a.0.after a.3 a.4.missing.precedes)))
