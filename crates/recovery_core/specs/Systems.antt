-- What a recovering system has in memory, which worlds it stands for, and what performing an event makes of it.
use Rattle.std.specs.Prelude.{◌≡◌, ℕ, ◌≤◌, Bool, List, drop, length}
use Rattle.plain_machine.specs.Program.{Meaning}
use Rattle.plain_machine.specs.History.{Step}
use Rattle.access_log.specs.declared.entry.Output.{Output}
use Rattle.recovery_world.specs.declared.event.Event.{Event}
use Rattle.recovery_world.specs.World.{Setting, Sent, World}
use Rattle.recovery_world.specs.Files.{moves_made, sent_names, packets_of}
use Rattle.recovery_world.specs.Finish.{IsFinish}
use Rattle.recovery_world.specs.Many.{OnAny}
use Rattle.event_replies.specs.declared.reply.Reply.{Reply}
use Rattle.event_replies.specs.declared.reply.Finished.{Finished}
use Rattle.system_parts.specs.Parts.{Parts}
use Rattle.system_parts.specs.SystemStanding.{NotesNames, StandsFor}
use Rattle.system_parts.specs.Performing.{packets_in}

-- the parts; whether an event did not end; how many of the released outputs were handed over, and the others
pub record Systemed (P V : Type 0) : Type 0 where
  pub parts : Parts P V
  pub stopped : Bool
  pub handed : ℕ
  pub fresh : List Output

-- The released outputs, in order: the first of them were handed over, and the packets of the others are there.
pub record HasReleased {P V : Type 0} (w : World V) (y : Systemed P V) : Type 0 where
  pub names : NotesNames w y.parts
  pub handed : y.handed ≤ length w.released
  pub fresh : packets_in y.fresh ≡ packets_of (drop y.handed w.released)

-- The system stands for the world: its parts do, and it has what was released.
pub record SystemStands {P V : Type 0} (m : Meaning V) (s : Setting V) (w : World V) (y : Systemed P V) : Type 0 where
  pub parts : StandsFor m s w y.parts
  pub released : HasReleased w y

-- The world moved so, from any that the system stood for, and the system stands for it now. Nothing was handed over.
abbrev pub SystemMoves : {P V : Type 0} → Meaning V → (Setting V → World V → World V → Type 0) → Systemed P V
    → Systemed P V → Type 0
SystemMoves {P} {V} m R old new =
    (new.parts.program ≡ old.parts.program) × (new.handed ≡ old.handed) × ((s : Setting V) (w : World V)
    → SystemStands m s w old → (next : World V) × R s w next × SystemStands m s next new)

-- The world stopped so, and what it released before is there.
abbrev pub SystemStops : {P V : Type 0} → Meaning V → (Setting V → World V → World V → Type 0) → Systemed P V
    → Systemed P V → Type 0
SystemStops {P} {V} m R old new =
    (new.handed ≡ old.handed)
    × ((s : Setting V) (w : World V) → SystemStands m s w old → (next : World V) × R s w next × HasReleased next new)

-- any event with this reply
abbrev pub RepliesAny : {V : Type 0} → Event → Reply → Setting V → World V → World V → Type 0
RepliesAny ev reply s w next =
    (freed : List Sent) × OnAny s w ev reply.outcome freed next × (reply.released ≡ sent_names freed)

-- The run in which the world ends, as the schedule of its moves, with the counts of the last line of the report.
pub record FinishesAs {V : Type 0} (s : Setting V) (w : World V) (f : Finished) : Type 0 where
  pub steps : List (Step V)
  pub finish : IsFinish s w steps
  pub schedule : f.schedule ≡ moves_made steps
  pub fed : f.fed ≡ w.fed
  pub epoch : f.epoch ≡ w.epoch
  pub released : f.released ≡ length w.released
