-- A legal move of a round that keeps to what is followed is the one that the event of its thread and answer makes.
use Rattle.std.proofs.Common.{◌≡◌, ℕ, ◌+◌, false, List, ◌∷◌, Option, Some, None, Ok, refl, sym, ap, ◌∙◌}
use Rattle.std.proofs.Common.{subst, inl, arith}
use Rattle.std.specs.Prelude.{slice_index, slice_get}
use Rattle.plain_text.specs.declared.packet.Packet.{Packet}
use Rattle.entry_order.specs.declared.what.What.TheVariants.{Access}
use Rattle.entry_order.specs.Log.{Entry, entries, places}
use Rattle.entry_order.specs.Stamps.{IsStamp}
use Rattle.access_log.specs.Held.{Lane, lane, entry_at}
use Rattle.plain_machine.specs.declared.local.Move.{Move}
use Rattle.plain_machine.specs.declared.local.Move.TheVariants as move
use Rattle.plain_machine.specs.Program.{Meaning}
use Rattle.plain_machine.specs.Machine.{Hand, Thread, Effect, Touches, Looks, HearsClock, HearsDraw, Moves}
use Rattle.plain_machine.specs.Machine.{take_move, hand_move, held_move}
use Rattle.plain_machine.specs.History.{Act, Did, Step, log_more, log_of, entry_of, act_of, thread_after, value_after}
use Rattle.plain_machine.specs.History.{plain_move}
use Rattle.recovery_world.specs.World.{Setting, World, inputs_fed}
use Rattle.recovery_world.specs.Turns.{HasTurn, HandHasTurn}
use Rattle.recovery_world.specs.Events.{Tells, TellsHand}
use Rattle.recovery_laws.specs.Sound.{Sound}
use Rattle.recovery_laws.proofs.LedMoves.{Made, made_move}
use Rattle.replay_guide.specs.Following.{recorded}
use Rattle.replay_guide.specs.Worlds.{Guides}
use Rattle.replay_guide.proofs.WorldAnswers.{tells_clock, tells_draw, tells_free_clock, tells_free_draw}
use Rattle.var_locks.specs.Notes.{LetsPass}
use Rattle.round_events.specs.Guided.{TouchPassed, ReadPassed, KeepsTo}
use Rattle.recovery_laws.specs.Making.{CanMake}
use Rattle.round_events.proofs.Turning.{touch_turn, read_turn}

-- what is told where a move of each kind is made

told_take : {V : Type 0} (m : Meaning V) (taken : ℕ) (a : Option ℕ) (i : Option Packet) (after : Thread) (d : Effect V)
    → take_move m taken a i ≡ Moves after d → a ≡ None
told_take m taken None i after d e = refl
told_take m taken (Some a) i after d e = absurd (cc)

told_touch : {V : Type 0} (m : Meaning V) (value : ℕ → V) (taken : ℕ) (h : Hand) (a : Option ℕ) (v : ℕ) (after : Thread)
    (d : Effect V) → hand_move m value taken h a (move.Access v) ≡ Moves after d
    → (a ≡ None) × (d ≡ Touches v (m.touch v (value v) h.place).0)
told_touch {V} m value taken h None v after d e =
    let k : Touches v (m.touch v (value v) h.place).0 ≡ d = cc in (refl, sym k)
told_touch m value taken h (Some a) v after d e = absurd (cc)

told_look : {V : Type 0} (m : Meaning V) (value : ℕ → V) (taken : ℕ) (h : Hand) (a : Option ℕ) (v : ℕ) (after : Thread)
    (d : Effect V) → hand_move m value taken h a (move.Read v) ≡ Moves after d → (a ≡ None) × (d ≡ Looks v)
told_look {V} m value taken h None v after d e = (refl, cc)
told_look m value taken h (Some a) v after d e = absurd (cc)

told_time : {V : Type 0} (m : Meaning V) (value : ℕ → V) (taken : ℕ) (h : Hand) (a : Option ℕ) (after : Thread)
    (d : Effect V) → hand_move m value taken h a move.Clock ≡ Moves after d
    → (b : ℕ) × (a ≡ Some b) × (d ≡ HearsClock b)
told_time m value taken h None after d e = absurd (cc)
told_time {V} m value taken h (Some a) after d e = (a, refl, cc)

told_word : {V : Type 0} (m : Meaning V) (value : ℕ → V) (taken : ℕ) (h : Hand) (a : Option ℕ) (after : Thread)
    (d : Effect V) → hand_move m value taken h a move.Draw ≡ Moves after d → (b : ℕ) × (a ≡ Some b) × (d ≡ HearsDraw b)
told_word m value taken h None after d e = absurd (cc)
told_word {V} m value taken h (Some a) after d e = (a, refl, cc)

told_emit : {V : Type 0} (m : Meaning V) (value : ℕ → V) (taken : ℕ) (h : Hand) (a : Option ℕ) (after : Thread)
    (d : Effect V) → hand_move m value taken h a move.Emit ≡ Moves after d → a ≡ None
told_emit m value taken h None after d e = refl
told_emit m value taken h (Some a) after d e = absurd (cc)

told_end : {V : Type 0} (m : Meaning V) (value : ℕ → V) (taken : ℕ) (h : Hand) (a : Option ℕ) (after : Thread)
    (d : Effect V) → hand_move m value taken h a move.End ≡ Moves after d → a ≡ None
told_end m value taken h None after d e = refl
told_end m value taken h (Some a) after d e = absurd (cc)

module _ {V : Type 0} (s : Setting V) (w : World V) (guide : List Lane) (sound : Sound s w)
    (guides : Guides w.followed (log_of w.past) guide) (t : ℕ) (answer : Option ℕ) (step : Step V) (stamp : List ℕ)
    (moves : plain_move s.meaning (inputs_fed s w.fed) s.threads w.past (record { thread = t; answer = answer })
    ≡ Ok (step ∷ w.past)) (keeps : KeepsTo guide stamp step.act)
    (stamped : (e : Entry) (left : Option V) → step.act ≡ Did e left
    → IsStamp (log_of (step ∷ w.past)) e (λ u. slice_index stamp u)) where
  made : Made s.meaning (inputs_fed s w.fed) s.threads w.past t answer step
  made = made_move s.meaning (inputs_fed s w.fed) s.threads w.past (record { thread = t; answer = answer }) step moves

  abbrev Does : Option Hand → Type 0
  Does o = HandHasTurn s.meaning w.followed (log_of w.past) t o × TellsHand s w t answer answer w.drawn o

  abbrev DoesNext : Move → Type 0
  DoesNext n = HasTurn w.followed (log_of w.past) t n × Tells s w t answer answer w.drawn n

  acts : (d : Effect V) → made.effect ≡ d → step.act ≡ act_of t w.past step.after.taken d
  acts d is = made.act ∙ ap (λ (x : Effect V). act_of t w.past step.after.taken x) is

  touches : (v : ℕ) (left : V) (h : Hand) → (thread_after w.past t).hand ≡ Some h
      → s.meaning.next h.place ≡ move.Access v → made.effect ≡ Touches v left
      → HasTurn w.followed (log_of w.past) t (move.Access v)
  touches v left h hand next is =
      touch_turn s w guide sound guides t v h x (λ u. slice_index stamp u) k.readers hand next refl at k.known passed
    where
      x : Entry
      x = entry_of t (log_of w.past) (Access v (places v (log_of w.past) + 1))

      act : step.act ≡ Did (entry_of t (log_of w.past) (Access v (places v (log_of w.past) + 1))) (Some left)
      act = acts (Touches v left) is

      k : TouchPassed guide t (entries t (log_of w.past) + 1) v (places v (log_of w.past) + 1) stamp
      k = subst (λ (a : Act V). KeepsTo guide stamp a) act keeps

      places_are : k.places ≡ places v (log_of w.past)
      places_are = (let n = k.next in omega (arith, n))

      passed : LetsPass guide t (entries t (log_of w.past) + 1) v false (places v (log_of w.past)) k.readers
      passed =
          subst (λ (p : ℕ). LetsPass guide t (entries t (log_of w.past) + 1) v false p k.readers) places_are k.passed

      at : IsStamp (entry_of t (log_of w.past) (Access v (places v (log_of w.past) + 1)) ∷ log_of w.past)
          (entry_of t (log_of w.past) (Access v (places v (log_of w.past) + 1))) (λ u. slice_index stamp u)
      at = subst (λ (a : Act V). IsStamp (log_more a (log_of w.past))
          (entry_of t (log_of w.past) (Access v (places v (log_of w.past) + 1))) (λ u. slice_index stamp u)) act
          (stamped _ (Some left) act)

  looks : (v : ℕ) → made.effect ≡ Looks v → HasTurn w.followed (log_of w.past) t (move.Read v)
  looks v is = read_turn s w guide sound guides t v k.readers k.passed
    where
      k : ReadPassed guide t (entries t (log_of w.past) + 1) v (places v (log_of w.past))
      k = subst (λ (a : Act V). KeepsTo guide stamp a) (acts (Looks v) is) keeps

  clock : (h : Hand) (b : ℕ) → (thread_after w.past t).hand ≡ Some h → s.meaning.next h.place ≡ move.Clock
      → answer ≡ Some b → made.effect ≡ HearsClock b → Tells s w t answer answer w.drawn move.Clock
  clock h b hand next told is =
      (b, told, refl, go (recorded (entry_at (lane guide t) (entries t (log_of w.past) + 1))) refl)
    where
      same : (a : ℕ) → recorded (entry_at (lane guide t) (entries t (log_of w.past) + 1)) ≡ Some a → b ≡ a
      same = subst (λ (a : Act V). KeepsTo guide stamp a) (acts (HearsClock b) is) keeps

      go : (o : Option ℕ) → recorded (entry_at (lane guide t) (entries t (log_of w.past) + 1)) ≡ o
          → Rattle.recovery_world.specs.Turns.TellsClock w.followed (log_of w.past) t answer w.clock b
      go None none = tells_free_clock s w guide sound guides t b answer w.clock none (inl told)
      go (Some a) found =
          subst (λ (c : ℕ). Rattle.recovery_world.specs.Turns.TellsClock w.followed (log_of w.past) t answer w.clock c)
          (sym (same a found)) (tells_clock s w guide sound guides t a h answer w.clock hand next found)

  draw : (h : Hand) (b : ℕ) → (thread_after w.past t).hand ≡ Some h → s.meaning.next h.place ≡ move.Draw
      → answer ≡ Some b → made.effect ≡ HearsDraw b → Tells s w t answer answer w.drawn move.Draw
  draw h b hand next told is = (b, told, go (recorded (entry_at (lane guide t) (entries t (log_of w.past) + 1))) refl)
    where
      same : (a : ℕ) → recorded (entry_at (lane guide t) (entries t (log_of w.past) + 1)) ≡ Some a → b ≡ a
      same = subst (λ (a : Act V). KeepsTo guide stamp a) (acts (HearsDraw b) is) keeps

      go : (o : Option ℕ) → recorded (entry_at (lane guide t) (entries t (log_of w.past) + 1)) ≡ o
          → Rattle.recovery_world.specs.Turns.TellsDraw w.followed (log_of w.past) t answer
          (Rattle.random_words.specs.Words.word_of s.seed) w.drawn b w.drawn
      go None none = tells_free_draw s w guide sound guides t b answer (Rattle.random_words.specs.Words.word_of s.seed)
          w.drawn w.drawn none (inl (told, refl))
      go (Some a) found = subst (λ (c : ℕ). Rattle.recovery_world.specs.Turns.TellsDraw w.followed (log_of w.past) t
          answer (Rattle.random_words.specs.Words.word_of s.seed) w.drawn c w.drawn) (sym (same a found))
          (tells_draw s w guide sound guides t a h answer (Rattle.random_words.specs.Words.word_of s.seed) w.drawn hand
          next found)

  by_move : (h : Hand) → (thread_after w.past t).hand ≡ Some h → (n : Move) → s.meaning.next h.place ≡ n
      → hand_move s.meaning (value_after s.meaning w.past) (thread_after w.past t).taken h answer n
      ≡ Moves step.after made.effect → DoesNext n
  by_move h hand (move.Access v) next e =
      let k = told_touch s.meaning (value_after s.meaning w.past) (thread_after w.past t).taken h answer v step.after
      made.effect e in
      (touches v (s.meaning.touch v (value_after s.meaning w.past v) h.place).0 h hand next k.1, (k.0, refl))
  by_move h hand (move.Read v) next e =
      let k = told_look s.meaning (value_after s.meaning w.past) (thread_after w.past t).taken h answer v step.after
      made.effect e in
      (looks v k.1, (k.0, refl))
  by_move h hand move.Clock next e =
      let k = told_time s.meaning (value_after s.meaning w.past) (thread_after w.past t).taken h answer step.after
      made.effect e in
      ((λ f a. a), clock h k.0 hand next k.1 k.2)
  by_move h hand move.Draw next e =
      let k = told_word s.meaning (value_after s.meaning w.past) (thread_after w.past t).taken h answer step.after
      made.effect e in
      ((λ f a. a), draw h k.0 hand next k.1 k.2)
  by_move h hand move.Emit next e = (
    (λ f a. a),
    (
      told_emit s.meaning (value_after s.meaning w.past) (thread_after w.past t).taken h answer step.after
          made.effect e,
      refl,
    ),
  )
  by_move h hand move.End next e = (
    (λ f a. a),
    (
      told_end s.meaning (value_after s.meaning w.past) (thread_after w.past t).taken h answer step.after made.effect e,
      refl,
    ),
  )

  by_hand : (o : Option Hand) → (thread_after w.past t).hand ≡ o
      → held_move s.meaning (inputs_fed s w.fed t) (value_after s.meaning w.past) (thread_after w.past t).taken answer o
      ≡ Moves step.after made.effect → Does o
  by_hand None at e = (
    tt,
    (
      told_take s.meaning (thread_after w.past t).taken answer
          (slice_get (inputs_fed s w.fed t) (thread_after w.past t).taken) step.after made.effect e,
      refl,
    ),
  )
  by_hand (Some h) at e = by_move h at (s.meaning.next h.place) refl e

  -- The move is that of the event.
  pub can_make : CanMake s w t answer step
  can_make =
      let k = by_hand (thread_after w.past t).hand refl made.moved in
      record { low = made.low; turn = k.0; tells = k.1; moves = moves }
