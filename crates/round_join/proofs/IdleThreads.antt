-- Threads that no limit stopped are idle: while one waits, another can move.
use Rattle.std.proofs.Common.{◌≡◌, ℕ, ◌+◌, ◌<◌, ◌⊎◌, Bool, true, false, [], ◌∷◌, length, inl, inr, Option, Some, None}
use Rattle.std.proofs.Common.{ap, arith}
use Rattle.entry_order.specs.Log.{Entry, places}
use Rattle.entry_order.proofs.Order.{place_within}
use Rattle.plain_machine.specs.declared.local.Move.{Move}
use Rattle.plain_machine.specs.declared.local.Move.TheVariants.{Access, Read, Clock, Draw, Emit, End}
use Rattle.plain_machine.specs.History.{log_of}
use Rattle.plain_machine.proofs.Histories.{history_log}
use Rattle.recovery_world.specs.declared.event.Event.TheVariants as event
use Rattle.recovery_world.specs.declared.event.Outcome.{Outcome}
use Rattle.recovery_world.specs.declared.event.Outcome.TheVariants as outcome
use Rattle.recovery_world.specs.World.{Setting, World, inputs_fed}
use Rattle.recovery_world.specs.Turns.{IsTouchToCome, IsAwaited, Awaits}
use Rattle.recovery_world.specs.Events.{MakesMove, OnStep, On}
use Rattle.recovery_world.specs.Finish.{IsToCome}
use Rattle.recovery_laws.specs.Sound.{Sound}
use Rattle.recovery_laws.proofs.SoundParts.{followed_moves, to_come_first, to_come_thread}
use Rattle.plan_script.specs.Rounds.{HasStopped}

module _ {V : Type 0} (s : Setting V) (w : World V) (made : ℕ → ℕ) (sound : Sound s w) (up : w.up ≡ true)
    (stopped : (t : ℕ) → t < s.threads → HasStopped s w t None (made t)) where
  -- a move is not without effect
  no_move : (t : ℕ) (given : Option ℕ) (to : Outcome) → MakesMove s w t given to w → ⊥
  no_move t given to k =
      let same : length w.past ≡ length (k.step ∷ w.past) = ap (λ (z : World V). length z.past) k.new_is in
      omega (arith, same)

  -- the next touch of a variable is not in the log yet
  touch_to_come : (e : Entry) (v : ℕ) → IsTouchToCome w.followed (log_of w.past) v e → IsToCome w e
  touch_to_come e v touch = (
    touch.0,
    λ old.
        let k = place_within (log_of w.past) e v (places v (log_of w.past) + 1)
        (history_log s.meaning (inputs_fed s w.fed) s.threads w.past sound.firm.legal) old touch.1 in
        omega (arith, k),
  )

  awaited_to_come : (t v : ℕ) (reads : Bool) (e : Entry) → IsAwaited w.followed (log_of w.past) t v reads e
      → IsToCome w e
  awaited_to_come t v reads e a = elim a.which [
    | inl k ↦ (k.1.0, k.1.2)
    | inr k ↦ touch_to_come e v k.1
  ]

  -- an entry that a thread waits for is to come
  waits_to_come : (t : ℕ) (next : Move) (e : Entry) → Awaits w.followed (log_of w.past) t next e → IsToCome w e
  waits_to_come t (Access v) e a = awaited_to_come t v false e a
  waits_to_come t (Read v) e a = awaited_to_come t v true e a
  waits_to_come t Clock e a = absurd a
  waits_to_come t Draw e a = absurd a
  waits_to_come t Emit e a = absurd a
  waits_to_come t End e a = absurd a

  -- the thread that has stopped makes no move
  stays : (t : ℕ) → t < s.threads → (to : Outcome) × OnStep s w t None to w
  stays t low = go (stopped t low).why
    where
      go : (None ≡ Some (made t))
          ⊎ (On s w (event.Step t None) outcome.Idle [] w
          ⊎ ((u : ℕ) × (n : ℕ) × On s w (event.Step t None) (outcome.Waits u n) [] w))
          → (to : Outcome) × OnStep s w t None to w
      go (inl never) = absurd (cc)
      go (inr (inl idle)) = (outcome.Idle, idle.0)
      go (inr (inr (u, n, waits))) = (outcome.Waits u n, waits.0)

  -- so no entry is to come
  none_to_come : (e : Entry) → IsToCome w e → ⊥
  none_to_come e come =
      let first = to_come_first s w sound e come in
      let low = to_come_thread s w sound first.0 first.1 in
      let stay = stays first.0.thread low in
      no_move first.0.thread None stay.0
      (followed_moves s w first.0 sound first.1 first.2 up None stay.0 w stay.1)

  pub ends_idle : (t : ℕ) → t < s.threads → On s w (event.Step t None) outcome.Idle [] w
  ends_idle t low = go (stopped t low).why
    where
      waits_not : (u n : ℕ) → OnStep s w t None (outcome.Waits u n) w → ⊥
      waits_not u n (inl a) = omega (arith, low, a.0)
      waits_not u n (inr (inl a)) = let down : w.up ≡ false = a.1 in absurd (cc)
      waits_not u n (inr (inr (inl a))) = let is : outcome.Waits u n ≡ outcome.Idle = a.3 in absurd (cc)
      waits_not u n (inr (inr (inr (inl a)))) =
          none_to_come a.2.entry (waits_to_come t (s.meaning.next a.2.hand.place) a.2.entry a.2.awaits)
      waits_not u n (inr (inr (inr (inr a)))) = no_move t None (outcome.Waits u n) a.2

      go : (None ≡ Some (made t))
          ⊎ (On s w (event.Step t None) outcome.Idle [] w
          ⊎ ((u : ℕ) × (n : ℕ) × On s w (event.Step t None) (outcome.Waits u n) [] w))
          → On s w (event.Step t None) outcome.Idle [] w
      go (inl never) = absurd (cc)
      go (inr (inl idle)) = idle
      go (inr (inr (u, n, waits))) = absurd (waits_not u n waits.0)
