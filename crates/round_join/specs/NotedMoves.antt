-- What noting moves does to the rest of a system: one of them, and then all.
use Rattle.std.specs.Prelude.{◌≡◌, List}
use Rattle.plain_text.specs.declared.limit.Limit.{Limit}
use Rattle.plain_machine.specs.declared.plain_move.PlainMove.{PlainMove}
use Rattle.plain_machine.specs.Program.{Meaning}
use Rattle.plain_machine.specs.History.{Step}
use Rattle.recovery_world.specs.declared.event.Outcome.{Outcome}
use Rattle.recovery_world.specs.World.{Setting, World}
use Rattle.system_parts.specs.Parts.{Parts}
use Rattle.system_parts.specs.Resting.{RestsFor}
use Rattle.thread_steps.specs.Stepping.{NotesFor, PassesFor}
use Rattle.round_join.specs.declared.noting.Made.{Made}
use Rattle.round_join.specs.declared.noting.Noted.{Noted}
use Rattle.round_join.specs.Noting.{events_made}
use Rattle.round_join.specs.Racing.{PerformsNoted, events_noted}

-- the move as it is noted, where it came to this
abbrev pub noted_as : Made → Outcome → Noted
noted_as x to = record { thread = x.thread; answer = x.answer; outcome = to }

-- The move is noted with this outcome, in each world for which the rest stood.
abbrev pub NotesMade : {P V : Type 0} → Meaning V → Made → Outcome → Parts P V → Parts P V → Type 0
NotesMade {P} {V} m x to old new =
    (s : Setting V) (w : World V) (step : Step V) → NotesFor m s w x.thread x.answer x.stepped step to old new

-- The move is the next one, and it would pass this limit in each world for which the rest stands.
pub record StopsBefore {P V : Type 0} (m : Meaning V) (x : Made) (limit : Limit) (next : PlainMove)
    (y : Parts P V) : Type 0 where
  pub is_next : next ≡ record { thread = x.thread; answer = x.answer }
  pub passes : (s : Setting V) (w : World V) (step : Step V)
      → PassesFor m s w x.thread x.answer x.stepped step limit y

-- All of these moves are noted, which lead to this world: the rest stands for it, and the events that are noted are
-- those that the moves are, performed with these outcomes.
pub record NotesAll {P V : Type 0} (m : Meaning V) (s : Setting V) (w : World V) (moves : List Made) (new : World V)
    (noted : List Noted) (y : Parts P V) : Type 0 where
  pub rests : RestsFor m s new y
  pub performs : PerformsNoted s w noted new
  pub events_are : events_noted noted ≡ events_made moves
