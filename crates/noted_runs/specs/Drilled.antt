-- What a drill came to in memory, and what writing it leaves.
use Rattle.std.specs.Prelude.{◌≡◌, ℕ, All, Bool, List, Result, Ok, Err, OnOk, ⊤}
use Rattle.plain_text.specs.Packets.{IsShort}
use Rattle.plain_text.specs.declared.limit.Limit.{Limit}
use Rattle.plain_text.specs.declared.packet.Packet.{Packet}
use Rattle.plain_text.specs.declared.packet.Unit.{Unit as FractionUnit}
use Rattle.plain_machine.specs.declared.plain_move.PlainMove.{PlainMove}
use Rattle.plain_player.specs.ScheduleText.{schedule_text}
use Rattle.plain_player.specs.Schedules.{FitLines}
use Rattle.access_log.specs.declared.entry.Output.{Output}
use Rattle.world_io.specs.World.{Shown}
use Rattle.recovery_world.specs.World.{Setting}
use Rattle.event_replies.specs.declared.reply.Stop.{Stop}
use Rattle.event_replies.specs.declared.reply.Stop.TheVariants as stop
use Rattle.output_files.specs.declared.error.OutputError.{OutputError}
use Rattle.output_files.specs.Written.{Writes}
use Rattle.run_writes.specs.declared.error.RunError.{RunError}
use Rattle.run_writes.specs.Errors.{run_result_of, stopped_result}
use Rattle.run_writes.specs.Replies.{packets_in}
use Rattle.run_writes.specs.Run.{OutputNames, FitsRecord}
use Rattle.noted_runs.specs.declared.drill.Drilled.{Drilled}
use Rattle.noted_runs.specs.declared.drill.Texts.{Texts}
use Rattle.noted_runs.specs.declared.drill.running.Ended.{Ended}
use Rattle.noted_runs.specs.Drill.{Drills, StopsAt, drill_writes, stopped_writes}
use Rattle.noted_runs.specs.Ends.{HasEnded, HasHalted}
use Rattle.recovery_world.specs.declared.event.Event.{Event}

-- the run of the events ended so, or stopped at a limit
abbrev pub EndsSo : {V : Type 0} → Setting V → List Event → List Output → Result Ended Stop → Type 0
EndsSo s events outputs (Ok e) = HasEnded s events e outputs
EndsSo s events outputs (Err (stop.Limit limit)) = HasHalted s events limit outputs
EndsSo s events outputs (Err stop.NoMemory) = Unit {0}

-- these were released, and the texts are those of the drill; or it stopped at this limit
abbrev pub ComesTo : {V : Type 0} → Setting V → ℕ → Bool → List Packet → Result Texts Limit → Type 0
ComesTo s every table released (Ok texts) =
    (schedule : List PlainMove) × Drills s every table texts.report released schedule
    × (texts.schedule ≡ schedule_text schedule) × FitLines schedule
ComesTo s every table released (Err limit) = StopsAt s every limit released

pub record IsDrilled {V : Type 0} (s : Setting V) (every : ℕ) (table : Bool) (d : Drilled) : Type 0 where
  pub comes : ComesTo s every table (packets_in d.outputs) d.texts
  pub short : All IsShort (packets_in d.outputs)

-- it was written, or some first part of it
abbrev pub WritesDrilled : Result ⊤ RunError → Result Texts Limit → List Packet → OutputNames → FractionUnit → Shown
    → Shown → Type 0
WritesDrilled result (Ok texts) released names u old new =
    (files : Result ⊤ OutputError) × (result ≡ run_result_of files) × OnOk files (All FitsRecord released)
    × Writes files (drill_writes names u released texts.schedule texts.report) old new
WritesDrilled result (Err limit) released names u old new =
    (files : Result ⊤ OutputError) × (result ≡ stopped_result files limit)
    × Writes files (stopped_writes names u released) old new
