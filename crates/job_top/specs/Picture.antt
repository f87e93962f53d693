-- What the command `picture` does: a run of the script that the inputs ask for, of which a picture is drawn. It judges
-- its inputs and its run as `run` does.
use Rattle.std.specs.Prelude.{◌≡◌, ◌⊎◌, ℕ, List}
use Rattle.plain_text.specs.declared.limit.Limit.{Limit}
use Rattle.world_io.specs.World.{Shown}
use Rattle.run_writes.specs.Run.{KeepsShown}
use Rattle.noted_runs.specs.Picture.{HasPictured, HasStopped, HasBegunPicture}
use Rattle.job_commands.specs.declared.inputs.Inputs.{Inputs}
use Rattle.job_commands.specs.Judging.{AreAccepted, Judges}
use Rattle.job_commands.specs.Meanings.{CommandMeaning, NeverUnready, PromisesNothing, StopsBy}
use Rattle.job_commands.specs.Run.{AcceptsInputs, setting_for}
use Rattle.job_commands.specs.Status.{Completes}
use Rattle.job_commands.specs.Words.{PictureNames, pictured_run, run_inputs}

-- all input files are accepted
abbrev pub AcceptsPictureInputs : PictureNames → Inputs → Shown → Type 0
AcceptsPictureInputs names inputs shown = AcceptsInputs (pictured_run names) inputs shown

-- What the command leaves

-- the picture is that of the run; its title is the name of the box file
abbrev pub DrawsWhole : PictureNames → Shown → Shown → Type 0
DrawsWhole names old new =
    (inputs : Inputs)
    × AcceptsPictureInputs names inputs old
    × HasPictured names.box_file (setting_for inputs) inputs.events names.picture old new

-- an event stopped at this limit, and nothing was written
abbrev pub DrawsToLimit : PictureNames → Limit → Shown → Shown → Type 0
DrawsToLimit names limit old new =
    (inputs : Inputs)
    × AcceptsPictureInputs names inputs old
    × HasStopped (setting_for inputs) inputs.events limit old new

-- nothing was written, or some first part of what the command writes, in its order, and nothing else
abbrev pub DrawsInOrder : PictureNames → Shown → Shown → Type 0
DrawsInOrder names old new =
    KeepsShown old new
    ⊎ ((inputs : Inputs)
    × AcceptsPictureInputs names inputs old
    × HasBegunPicture names.box_file (setting_for inputs) inputs.events names.picture old new)

-- all names but the picture are as they were
abbrev pub KeepsPictureNames : PictureNames → Shown → Shown → Type 0
KeepsPictureNames names old new = (name : List ℕ) → ¬ (name ≡ names.picture) → new.names name ≡ old.names name

abbrev pub picture_meaning : PictureNames → CommandMeaning
picture_meaning names = record {
  inputs = run_inputs (pictured_run names);
  files = 4;
  Leaves = DrawsWhole names;
  Promises = PromisesNothing;
  StopsAt = λ limit old new. StopsBy limit old new (DrawsToLimit names limit old new);
  LeavesUnready = NeverUnready;
  LeavesInOrder = DrawsInOrder names;
  KeepsNames = KeepsPictureNames names;
  Judges = λ healthy. Judges healthy (pictured_run names);
  Accepts = AreAccepted (pictured_run names);
  CompletesAs = Completes;
}
