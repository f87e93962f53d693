-- What the next move of a thread is told.
use Rattle.std.proofs.Common.{◌≡◌, ℕ, ◌+◌, List, refl, sym, ap, ◌∙◌, subst, inl, inr, ◌⊎◌, Option, Some, None}
use Rattle.std.specs.Option.{unwrap_or}
use Rattle.entry_order.specs.Log.{entries}
use Rattle.plain_machine.specs.declared.local.Move.{Move}
use Rattle.plain_machine.specs.declared.local.Move.TheVariants as move
use Rattle.plain_machine.specs.Program.{Meaning}
use Rattle.plain_machine.specs.Machine.{Hand}
use Rattle.plain_machine.specs.History.{Step, log_of, thread_after}
use Rattle.master_core.specs.declared.wants.Wants.TheVariants as wants
use Rattle.master_core.specs.Stepping.{wanted, wanted_in, wanted_by, told_in, told_for}
use Rattle.random_words.specs.Words.{word_of}
use Rattle.recovery_world.specs.World.{Setting, World}
use Rattle.recovery_world.specs.Turns.{TellsClock, TellsDraw}
use Rattle.recovery_world.specs.Events.{Tells, TellsHand}
use Rattle.recovery_laws.specs.Sound.{Sound}
use Rattle.access_log.specs.Held.{Lane, lane, entry_at}
use Rattle.system_parts.specs.FromReplayGuide.{recorded}
use Rattle.system_parts.specs.FromReplayGuide.{Guides}
use Rattle.system_parts.proofs.FromReplayGuide.{tells_clock as recorded_clock, tells_draw as recorded_draw}
use Rattle.system_parts.proofs.FromReplayGuide.{tells_free_clock as free_clock, tells_free_draw as free_draw}
use Rattle.thread_steps.specs.Following.{or_given}

-- What a thread asks for, from what a master wants.

-- the packet in hand asks for this
pub record Asks {V : Type 0} (m : Meaning V) (hand : Option Hand) (next : Move) : Type 0 where
  pub packet : Hand
  pub hand_is : hand ≡ Some packet
  pub next_is : m.next packet.place ≡ next

-- a master that wants a clock, or a draw, asks for it
pub asks_clock : {V : Type 0} (m : Meaning V) (steps : List (Step V)) (t n : ℕ) → wanted m steps t ≡ wants.Clock n
    → Asks m (thread_after steps t).hand move.Clock
asks_clock {V} m steps t n e = go (thread_after steps t).hand e
  where
    at : (h : Hand) (k : Move) → m.next h.place ≡ k → wanted_by t (log_of steps) k ≡ wants.Clock n
        → Asks m (Some h) move.Clock
    at h move.Clock is e = record { packet = h; hand_is = refl; next_is = is }
    at h (move.Access v) is e = absurd (cc)
    at h (move.Read v) is e = absurd (cc)
    at h move.Draw is e = absurd (cc)
    at h move.Emit is e = absurd (cc)
    at h move.End is e = absurd (cc)

    go : (o : Option Hand) → wanted_in m t (log_of steps) (thread_after steps t).taken o ≡ wants.Clock n
        → Asks m o move.Clock
    go None e = absurd (cc)
    go (Some h) e = at h (m.next h.place) refl e

pub asks_draw : {V : Type 0} (m : Meaning V) (steps : List (Step V)) (t n : ℕ) → wanted m steps t ≡ wants.Draw n
    → Asks m (thread_after steps t).hand move.Draw
asks_draw {V} m steps t n e = go (thread_after steps t).hand e
  where
    at : (h : Hand) (k : Move) → m.next h.place ≡ k → wanted_by t (log_of steps) k ≡ wants.Draw n
        → Asks m (Some h) move.Draw
    at h move.Draw is e = record { packet = h; hand_is = refl; next_is = is }
    at h (move.Access v) is e = absurd (cc)
    at h (move.Read v) is e = absurd (cc)
    at h move.Clock is e = absurd (cc)
    at h move.Emit is e = absurd (cc)
    at h move.End is e = absurd (cc)

    go : (o : Option Hand) → wanted_in m t (log_of steps) (thread_after steps t).taken o ≡ wants.Draw n
        → Asks m o move.Draw
    go None e = absurd (cc)
    go (Some h) e = at h (m.next h.place) refl e

-- a clock and a draw are told an answer
pub asked_clock : {V : Type 0} (m : Meaning V) (hand : Option Hand) (a : ℕ) → Asks m hand move.Clock
    → told_in m hand a ≡ Some a
asked_clock m hand a k = ap (λ (o : Option Hand). told_in m o a) k.hand_is ∙ ap (λ (n : Move). told_for n a) k.next_is

pub asked_draw : {V : Type 0} (m : Meaning V) (hand : Option Hand) (a : ℕ) → Asks m hand move.Draw
    → told_in m hand a ≡ Some a
asked_draw m hand a k = ap (λ (o : Option Hand). told_in m o a) k.hand_is ∙ ap (λ (n : Move). told_for n a) k.next_is

-- the number of the entry that a clock, or a draw, will be
pub clock_number : {V : Type 0} (m : Meaning V) (steps : List (Step V)) (t n : ℕ) → wanted m steps t ≡ wants.Clock n
    → n ≡ entries t (log_of steps) + 1
clock_number {V} m steps t n e = go (thread_after steps t).hand e
  where
    at : (k : Move) → wanted_by t (log_of steps) k ≡ wants.Clock n → n ≡ entries t (log_of steps) + 1
    at move.Clock e = cc
    at (move.Access v) e = absurd (cc)
    at (move.Read v) e = absurd (cc)
    at move.Draw e = absurd (cc)
    at move.Emit e = absurd (cc)
    at move.End e = absurd (cc)

    go : (o : Option Hand) → wanted_in m t (log_of steps) (thread_after steps t).taken o ≡ wants.Clock n
        → n ≡ entries t (log_of steps) + 1
    go None e = absurd (cc)
    go (Some h) e = at (m.next h.place) e

pub draw_number : {V : Type 0} (m : Meaning V) (steps : List (Step V)) (t n : ℕ) → wanted m steps t ≡ wants.Draw n
    → n ≡ entries t (log_of steps) + 1
draw_number {V} m steps t n e = go (thread_after steps t).hand e
  where
    at : (k : Move) → wanted_by t (log_of steps) k ≡ wants.Draw n → n ≡ entries t (log_of steps) + 1
    at move.Draw e = cc
    at (move.Access v) e = absurd (cc)
    at (move.Read v) e = absurd (cc)
    at move.Clock e = absurd (cc)
    at move.Emit e = absurd (cc)
    at move.End e = absurd (cc)

    go : (o : Option Hand) → wanted_in m t (log_of steps) (thread_after steps t).taken o ≡ wants.Draw n
        → n ≡ entries t (log_of steps) + 1
    go None e = absurd (cc)
    go (Some h) e = at (m.next h.place) e

-- What a clock and a draw are told: what is recorded of a followed one, else the given answer, else the time or the
-- next word.

module _ {V : Type 0} (s : Setting V) (w : World V) (guide : List Lane) (sound : Sound s w)
    (guides : Guides w.followed (log_of w.past) guide) (t : ℕ) (given : Option ℕ) where
  -- what the guide has of the thread's next entry
  abbrev pub next_recorded : Option ℕ
  next_recorded = recorded (entry_at (lane guide t) (entries t (log_of w.past) + 1))

  pub tells_clock : (a : ℕ) → Asks s.meaning (thread_after w.past t).hand move.Clock
      → a ≡ unwrap_or (or_given next_recorded given) w.clock
      → TellsHand s w t given (Some a) w.drawn (thread_after w.past t).hand
  tells_clock a k is =
      subst (λ (o : Option Hand). TellsHand s w t given (Some a) w.drawn o) (sym k.hand_is) (subst
      (λ (n : Move). Tells s w t given (Some a) w.drawn n) (sym k.next_is) (a, refl, refl, go next_recorded refl is))
    where
      pick : (q : Option ℕ) → a ≡ unwrap_or q w.clock → (q ≡ Some a) ⊎ ((q ≡ None) × (a ≡ w.clock))
      pick None is = inr (refl, is)
      pick (Some b) is = inl (ap Some (sym is))

      go : (o : Option ℕ) → next_recorded ≡ o → a ≡ unwrap_or (or_given o given) w.clock
          → TellsClock w.followed (log_of w.past) t given w.clock a
      go (Some b) at is = subst (λ (n : ℕ). TellsClock w.followed (log_of w.past) t given w.clock n) (sym is)
          (recorded_clock s w guide sound guides t b k.packet given w.clock k.hand_is k.next_is at)
      go None at is = free_clock s w guide sound guides t a given w.clock at (pick given is)

  pub tells_draw : (a drawn : ℕ) (q : Option ℕ) → q ≡ or_given next_recorded given
      → Asks s.meaning (thread_after w.past t).hand move.Draw
      → ((q ≡ Some a) × (drawn ≡ w.drawn)) ⊎ ((q ≡ None) × (a ≡ word_of s.seed w.drawn) × (drawn ≡ w.drawn + 1))
      → TellsHand s w t given (Some a) drawn (thread_after w.past t).hand
  tells_draw a drawn q q_is k is =
      subst (λ (o : Option Hand). TellsHand s w t given (Some a) drawn o) (sym k.hand_is) (subst
      (λ (n : Move). Tells s w t given (Some a) drawn n) (sym k.next_is) (a, refl, go next_recorded refl q_is is))
    where
      go : (o : Option ℕ) → next_recorded ≡ o → q ≡ or_given o given
          → ((q ≡ Some a) × (drawn ≡ w.drawn)) ⊎ ((q ≡ None) × (a ≡ word_of s.seed w.drawn) × (drawn ≡ w.drawn + 1))
          → TellsDraw w.followed (log_of w.past) t given (word_of s.seed) w.drawn a drawn
      go (Some b) at q_is (inl (some, same)) =
          let b_is : b ≡ a = cc in
          subst (λ (n : ℕ). TellsDraw w.followed (log_of w.past) t given (word_of s.seed) w.drawn a n) (sym same)
          (subst (λ (n : ℕ). TellsDraw w.followed (log_of w.past) t given (word_of s.seed) w.drawn n w.drawn) b_is
          (recorded_draw s w guide sound guides t b k.packet given (word_of s.seed) w.drawn k.hand_is k.next_is at))
      go (Some b) at q_is (inr (none, word, next)) = absurd (cc)
      go None at q_is (inl (some, same)) =
          free_draw s w guide sound guides t a given (word_of s.seed) w.drawn drawn at (inl (sym q_is ∙ some, same))
      go None at q_is (inr (none, word, next)) = free_draw s w guide sound guides t a given (word_of s.seed) w.drawn
          drawn at (inr (sym q_is ∙ none, word, next))

-- no other move is told anything
pub tells_none : {V : Type 0} (s : Setting V) (w : World V) (t : ℕ) (given : Option ℕ)
    → ((n : ℕ) → wanted s.meaning w.past t ≡ wants.Clock n → ⊥)
    → ((n : ℕ) → wanted s.meaning w.past t ≡ wants.Draw n → ⊥)
    → TellsHand s w t given None w.drawn (thread_after w.past t).hand
    × ((a : ℕ) → told_in s.meaning (thread_after w.past t).hand a ≡ None)
tells_none {V} s w t given clock draw = go (thread_after w.past t).hand clock draw
  where
    at : (k : Move) → ((n : ℕ) → wanted_by t (log_of w.past) k ≡ wants.Clock n → ⊥)
        → ((n : ℕ) → wanted_by t (log_of w.past) k ≡ wants.Draw n → ⊥)
        → Tells s w t given None w.drawn k × ((a : ℕ) → told_for k a ≡ None)
    at (move.Access v) c d = ((refl, refl), (λ a. refl))
    at (move.Read v) c d = ((refl, refl), (λ a. refl))
    at move.Clock c d = absurd (c _ refl)
    at move.Draw c d = absurd (d _ refl)
    at move.Emit c d = ((refl, refl), (λ a. refl))
    at move.End c d = ((refl, refl), (λ a. refl))

    go : (o : Option Hand)
        → ((n : ℕ) → wanted_in s.meaning t (log_of w.past) (thread_after w.past t).taken o ≡ wants.Clock n → ⊥)
        → ((n : ℕ) → wanted_in s.meaning t (log_of w.past) (thread_after w.past t).taken o ≡ wants.Draw n → ⊥)
        → TellsHand s w t given None w.drawn o × ((a : ℕ) → told_in s.meaning o a ≡ None)
    go None c d = ((refl, refl), (λ a. refl))
    go (Some h) c d = at (s.meaning.next h.place) c d
