-- What a trace comes to in memory.
use Rattle.std.specs.Prelude.{◌≡◌, ℕ, List, Option, Result, Ok, Err, ⊤}
use Rattle.plain_text.specs.declared.limit.Limit.{Limit}
use Rattle.world_io.specs.World.{Shown}
use Rattle.recovery_world.specs.declared.event.Event.{Event}
use Rattle.recovery_world.specs.World.{Setting, World as SystemWorld}
use Rattle.recovery_world.specs.Files.{done_line}
use Rattle.event_replies.specs.declared.reply.Stop.{Stop}
use Rattle.event_replies.specs.declared.reply.Stop.TheVariants as stop
use Rattle.output_files.specs.declared.error.OutputError.{OutputError}
use Rattle.output_files.specs.Written.{Writes}
use Rattle.run_writes.specs.declared.error.RunError.{RunError}
use Rattle.run_writes.specs.declared.error.RunError.TheVariants as run
use Rattle.run_writes.specs.Errors.{run_result_of}
use Rattle.run_writes.specs.Run.{KeepsShown}
use Rattle.noted_runs.specs.declared.trace.rows.Row.{Row}
use Rattle.noted_runs.specs.declared.trace.steering.Steered.{Steered}
use Rattle.noted_runs.specs.declared.trace.tracing.Texts.{Texts}
use Rattle.noted_runs.specs.TraceGoing.{IsHalted}
use Rattle.noted_runs.specs.Table.{table_text}
use Rattle.noted_runs.specs.Turns.{AreTurns}
use Rattle.noted_runs.specs.Trace.{Traces, trace_writes, traced_events}

-- all packets of the capture were steered
pub record IsSteered {V : Type 0} (s : Setting V) (steered : Steered) : Type 0 where
  pub inputs : steered.inputs ≡ record { threads = s.threads; tags = s.tags; packets = s.packets }
  pub turns : AreTurns s.threads s.tags s.packets steered.turns

-- the texts tell of a trace of these events
pub record IsTold {V : Type 0} (register : Option ℕ) (s : Setting V) (events : List Event) (texts : Texts)
    : Type 0 where
  pub world : SystemWorld V
  pub rows : List Row
  pub traces : Traces register s events world rows
  pub table : texts.table ≡ table_text rows
  pub report : texts.report ≡ done_line world

abbrev pub ComesTo : {V : Type 0} → Option ℕ → Setting V → List Event → Result Texts Limit → Type 0
ComesTo register s events (Ok texts) = IsTold register s events texts
ComesTo register s events (Err limit) = IsHalted s (traced_events events) limit

-- what a trace comes to whose events stopped so
abbrev pub IsHalt : Stop → Result Texts Limit → Type 0
IsHalt (stop.Limit limit) came = came ≡ Err limit
IsHalt stop.NoMemory came = ⊥

-- It was written, or some first part of it; or, where an event stopped at a limit, nothing.
abbrev pub WritesTraced : Result ⊤ RunError → Result Texts Limit → List ℕ → Shown → Shown → Type 0
WritesTraced result (Ok texts) name old new =
    (files : Result ⊤ OutputError) × (result ≡ run_result_of files)
    × Writes files (trace_writes name texts.table texts.report) old new
WritesTraced result (Err limit) name old new = (result ≡ Err (run.Limit limit)) × KeepsShown old new
