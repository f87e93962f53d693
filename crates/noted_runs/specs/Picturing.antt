-- What drawing the picture of a run comes to in memory.
use Rattle.std.specs.Prelude.{◌≡◌, ℕ, List, Result, Ok, Err, ⊤}
use Rattle.plain_text.specs.declared.limit.Limit.{Limit}
use Rattle.world_io.specs.World.{Shown}
use Rattle.recovery_world.specs.declared.event.Event.{Event}
use Rattle.recovery_world.specs.World.{Setting, World as SystemWorld}
use Rattle.recovery_world.specs.Files.{done_line}
use Rattle.event_replies.specs.declared.reply.Stop.{Stop}
use Rattle.event_replies.specs.declared.reply.Stop.TheVariants as stop
use Rattle.output_files.specs.declared.error.OutputError.{OutputError}
use Rattle.output_files.specs.Written.{Writes}
use Rattle.run_writes.specs.declared.error.RunError.{RunError}
use Rattle.run_writes.specs.declared.error.RunError.TheVariants as run
use Rattle.run_writes.specs.Errors.{run_result_of}
use Rattle.run_writes.specs.Run.{KeepsShown}
use Rattle.noted_runs.specs.declared.picture.picturing.Texts.{Texts}
use Rattle.noted_runs.specs.Noting.{IsHalted}
use Rattle.noted_runs.specs.Picture.{Pictures, picture_writes}

-- the texts are those of the picture of these events
pub record IsDrawn {V : Type 0} (title : List ℕ) (s : Setting V) (events : List Event) (texts : Texts)
    : Type 0 where
  pub world : SystemWorld V
  pub pictures : Pictures title s events world texts.picture
  pub report : texts.report ≡ done_line world

abbrev pub ComesTo : {V : Type 0} → List ℕ → Setting V → List Event → Result Texts Limit → Type 0
ComesTo title s events (Ok texts) = IsDrawn title s events texts
ComesTo title s events (Err limit) = IsHalted s events limit

-- what a picture comes to whose events stopped so
abbrev pub IsHalt : Stop → Result Texts Limit → Type 0
IsHalt (stop.Limit limit) came = came ≡ Err limit
IsHalt stop.NoMemory came = ⊥

-- It was written, or some first part of it; or, where an event stopped at a limit, nothing.
abbrev pub WritesPicture : Result ⊤ RunError → Result Texts Limit → List ℕ → Shown → Shown → Type 0
WritesPicture result (Ok texts) name old new =
    (files : Result ⊤ OutputError) × (result ≡ run_result_of files)
    × Writes files (picture_writes name texts.picture texts.report) old new
WritesPicture result (Err limit) name old new = (result ≡ Err (run.Limit limit)) × KeepsShown old new
