-- Whether a thread has its turn, as a master is told it that follows what was logged.
use Rattle.std.specs.Prelude.{ℕ, Option, Some, None}
use Rattle.access_log.specs.declared.entry.Turn.{Turn}
use Rattle.access_log.specs.declared.entry.Turn.TheVariants.{Follow, Free, Wait}
use Rattle.plain_machine.specs.History.{log_of, thread_after}
use Rattle.recovery_world.specs.declared.event.Outcome.TheVariants as outcome
use Rattle.recovery_world.specs.World.{Setting, World}
use Rattle.recovery_world.specs.Events.{WaitsFor}
use Rattle.recovery_world.specs.Turns.{HandHasTurn}

abbrev pub HasTurnBy : {V : Type 0} → Setting V → World V → ℕ → Turn → Type 0
HasTurnBy s w t Follow = HandHasTurn s.meaning w.followed (log_of w.past) t (thread_after w.past t).hand
HasTurnBy s w t Free = HandHasTurn s.meaning w.followed (log_of w.past) t (thread_after w.past t).hand
HasTurnBy s w t (Wait u n) = WaitsFor s w t (outcome.Waits u n)

-- the recorded answer, else the given one
abbrev pub or_given : Option ℕ → Option ℕ → Option ℕ
or_given (Some a) given = Some a
or_given None given = given
