-- What the command `resume` does: a new system goes on from the text of a handover, by the events of a script.
use Rattle.std.specs.Prelude.{◌≡◌, ◌⊎◌, ◌≤◌, ℕ, All, List, ◌∷◌, ◌++◌, Result, Err, ⊤, IsErrOf}
use Rattle.plain_text.specs.Packets.{IsShort}
use Rattle.plain_text.specs.declared.limit.Limit.{Limit}
use Rattle.plain_machine.specs.History.{Step}
use Rattle.plain_machine.specs.Program.{Meaning}
use Rattle.box_conf.specs.Kinds.{meaning_of}
use Rattle.world_io.specs.World.{Shown}
use Rattle.recovery_world.specs.declared.event.Event.{Event}
use Rattle.recovery_world.specs.World.{Setting, World as SystemWorld}
use Rattle.recovery_world.specs.Files.{Performs}
use Rattle.recovery_world.specs.Finish.{IsFinish}
use Rattle.recovery_world.specs.Many.{Stops}
use Rattle.handover.specs.declared.image.Image.{Image}
use Rattle.handover.specs.Images.{IsImage}
use Rattle.handover_seal.specs.Seals.{unsealed}
use Rattle.handover_world.specs.declared.fault.ResumeError.{ResumeError}
use Rattle.handover_world.specs.declared.fault.ResumeError.TheVariants as resume_error
use Rattle.handover_world.specs.Faults.{HasNoFault, IsFault}
use Rattle.hand_faults.specs.declared.fault.HandFault.{HandFault}
use Rattle.hand_faults.specs.HandFaults.{IsRefusedAt}
use Rattle.run_writes.specs.declared.error.RunError.{RunError}
use Rattle.run_writes.specs.declared.error.RunError.TheVariants as run_error
use Rattle.run_writes.specs.Replies.{at_world}
use Rattle.run_writes.specs.Run.{HasBegunFrom, KeepsOthers, KeepsShown, OutputNames}
use Rattle.hand_command.specs.FromRunCommand.{RunsFrom}
use Rattle.hand_command.specs.Hand.{IsHandedOver}
use Rattle.hand_command.specs.Resume.{HasHalted, HasResumed}
use Rattle.input_files.specs.declared.image_file.ImageFile.{ImageFile}
use Rattle.input_files.specs.Judging.{AcceptsScript}
use Rattle.job_commands.specs.declared.resume_inputs.ResumeSource.{ResumeSource}
use Rattle.job_commands.specs.declared.status.InputFault.TheVariants.{Handover}
use Rattle.job_commands.specs.declared.status.Status.{Status}
use Rattle.job_commands.specs.declared.status.Status.TheVariants as status
use Rattle.job_commands.specs.HandWords.{ResumeNames, resume_inputs}
use Rattle.job_commands.specs.Resume.{AcceptsResumeInputs, JudgesOneScript, JudgesResumeInputs, resumed_setting}
use Rattle.job_commands.specs.Status.{AtInputs, ComesAt, Completes, EndsReading, run_outcome}
use Rattle.job_top.specs.declared.resume.Resumption.{Resumption}
use Rattle.job_commands.specs.Meanings.{CommandMeaning, NeverUnready, StopsBy}
use Rattle.job_top.specs.Headline.{KeepsPromiseFrom}

abbrev pub resume_outputs : ResumeNames → OutputNames
resume_outputs names = record { released = names.released; schedule = names.schedule }

-- What a run from an image comes to

-- The image stands for a world, and this is so of each.
abbrev pub OfEachWorld : {V : Type 0} → Setting V → Image → (SystemWorld V → Type 0) → Type 0
OfEachWorld {V} s image Holds =
    ((w : SystemWorld V) × IsHandedOver s w image) × ((w : SystemWorld V) → IsHandedOver s w image → Holds w)

-- from this world the events come to their end within the limits
pub record EndsFrom {V : Type 0} (s : Setting V) (from : SystemWorld V) (events : List Event) : Type 0 where
  pub lines : List ℕ
  pub world : SystemWorld V
  pub performs : Performs s from events lines world
  pub steps : List (Step V)
  pub finish : IsFinish s world steps

-- one of them stops at this limit
pub record StopsFrom {V : Type 0} (s : Setting V) (from : SystemWorld V) (events : List Event) (limit : Limit)
    : Type 0 where
  pub before : List Event
  pub event : Event
  pub after : List Event
  pub events_are : events ≡ before ++ event ∷ after
  pub lines : List ℕ
  pub there : SystemWorld V
  pub performs : Performs s from before lines there
  pub world : SystemWorld V
  pub stops : Stops s there event limit world

-- the run goes on from the image of these inputs, and stops at this limit
abbrev pub StopsResume : ResumeSource → List Event → Limit → Type 0
StopsResume source events limit =
    OfEachWorld (resumed_setting source) source.image.image
    (λ w. StopsFrom (resumed_setting source) w events limit)

-- what a status says of the run, once all inputs are accepted
abbrev pub SaysOfResume : Type 0 → ResumeSource → List Event → Status → Type 0
SaysOfResume healthy source events status.Done =
    OfEachWorld (resumed_setting source) source.image.image (λ w. EndsFrom (resumed_setting source) w events)
SaysOfResume healthy source events (status.Refuted refutation) = ⊥
SaysOfResume healthy source events status.BadWords = ⊥
SaysOfResume healthy source events status.ReadFault = ⊥
SaysOfResume healthy source events status.WriteFault = healthy → ⊥
SaysOfResume healthy source events status.NoMemory = Unit {0}
SaysOfResume healthy source events (status.BadInput fault) = ⊥
SaysOfResume healthy source events (status.TooLarge limit) = StopsResume source events limit
SaysOfResume healthy source events (status.Unready unready) = ⊥

-- What a status of `resume` says: of the first input that is not accepted, or of the run.
abbrev pub JudgesResume : Type 0 → ResumeNames → Status → Shown → Type 0
JudgesResume healthy names status shown = JudgesResumeInputs healthy names (SaysOfResume healthy) status shown

-- The inputs are accepted, and the run passes no limit.
abbrev pub AreAcceptedForResume : ResumeNames → Shown → Type 0
AreAcceptedForResume names shown =
    (source : ResumeSource) × (events : List Event) × AcceptsResumeInputs names source events shown
    × ((limit : Limit) → StopsResume source events limit → ⊥)

-- What the command leaves

-- the inputs are accepted, and this is so of each world of the image
abbrev pub HasGoneOn : ResumeNames → Shown
    → ((source : ResumeSource) → List Event → SystemWorld (meaning_of source.conf.kind).value → Type 0) → Type 0
HasGoneOn names old Holds =
    (source : ResumeSource) × (events : List Event) × AcceptsResumeInputs names source events old
    × OfEachWorld (resumed_setting source) source.image.image (Holds source events)

-- the outputs are what the events leave from there on
abbrev pub ResumesWhole : ResumeNames → Shown → Shown → Type 0
ResumesWhole names old new =
    HasGoneOn names old
    (λ source events w. HasResumed (resumed_setting source) w (resume_outputs names) events old new)

-- an event stopped at this limit
abbrev pub ResumesToLimit : ResumeNames → Limit → Shown → Shown → Type 0
ResumesToLimit names limit old new =
    HasGoneOn names old
    (λ source events w. HasHalted (resumed_setting source) w (resume_outputs names) events limit old new)

-- nothing was written, or some first part of what the run writes, in its order, and nothing else
abbrev pub ResumesInOrder : ResumeNames → Shown → Shown → Type 0
ResumesInOrder names old new =
    KeepsShown old new
    ⊎ HasGoneOn names old
    (λ source events w. HasBegunFrom (resumed_setting source) (at_world w) (resume_outputs names) events old new)

-- names that are no output of the command are as they were
abbrev pub KeepsResumeNames : ResumeNames → Shown → Shown → Type 0
KeepsResumeNames names old new = KeepsOthers (resume_outputs names) old new

-- The promise of `resume`: that of a run from each world that was handed over with the image of its text.
abbrev pub KeepsResumePromise : ResumeNames → Shown → Shown → Type 0
KeepsResumePromise names old new =
    HasGoneOn names old
    (λ source events w. KeepsPromiseFrom (resumed_setting source) w (resume_outputs names) events new)

abbrev pub resume_meaning : ResumeNames → CommandMeaning
resume_meaning names = record {
  inputs = resume_inputs names;
  files = 6;
  Leaves = ResumesWhole names;
  Promises = KeepsResumePromise names;
  StopsAt = λ limit old new. StopsBy limit old new (ResumesToLimit names limit old new);
  LeavesUnready = NeverUnready;
  LeavesInOrder = ResumesInOrder names;
  KeepsNames = KeepsResumeNames names;
  Judges = λ healthy. JudgesResume healthy names;
  Accepts = AreAcceptedForResume names;
  CompletesAs = Completes;
}

-- Within the steps of the command

-- a system of 1 to 16 threads can be made on packets that a record can have, and the image is that of the text
pub record CanResume (from : Resumption) : Type 0 where
  pub some_threads : 1 ≤ from.threads
  pub few_threads : from.threads ≤ 16
  pub short : All IsShort from.packets
  pub is_image : IsImage (unsealed from.image.text) from.image.image

-- what the inputs go on from
abbrev pub resumption_of : ResumeSource → Resumption
resumption_of source = record {
  threads = source.conf.threads;
  tags = source.conf.tags;
  seed = source.conf.seed;
  unit = source.capture.unit;
  packets = source.capture.packets;
  image = source.image;
}

-- what stays the same in a run of a box that means this
abbrev pub setting_from : {V : Type 0} → Meaning V → Resumption → Setting V
setting_from m from = record {
  meaning = m;
  threads = from.threads;
  tags = from.tags;
  fractions = from.unit;
  packets = from.packets;
  seed = from.seed;
}

-- the status of an image that is refused with this error
abbrev pub IsRefusedSo : ImageFile → ResumeError → Status → Type 0
IsRefusedSo file error answer =
    ((error ≡ resume_error.NoMemory) × (answer ≡ status.NoMemory))
    ⊎ ((fault : HandFault) × IsRefusedAt (unsealed file.text) file.image error fault
    × (answer ≡ status.BadInput (Handover fault)))

-- What going on by a script came to: the script is refused, and nothing is written; or its events were run.
pub data GoesOnBy {V : Type 0} (healthy : Type 0) (s : Setting V) (image : Image) (names : ResumeNames)
    (answer : Status) (old new : Shown) : Type 0 where
  IsRefused : JudgesOneScript healthy names.script (Err answer) old → ComesAt AtInputs answer → EndsReading answer
      → KeepsShown old new → GoesOnBy healthy s image names answer old new
  Runs : (events : List Event) → AcceptsScript names.script events old → (run : Result ⊤ RunError)
      → answer ≡ run_outcome run → (healthy → ¬ IsErrOf run run_error.WriteFault)
      → ((w : SystemWorld V) → IsHandedOver s w image
      → RunsFrom run s (at_world w) (resume_outputs names) events old new)
      → GoesOnBy healthy s image names answer old new

-- What going on from an image came to: memory ran out, or it has a fault, and nothing is written; or it stands for a
-- world, and the run goes on from there.
pub data GoesOnFrom {V : Type 0} (healthy : Type 0) (s : Setting V) (file : ImageFile) (names : ResumeNames)
    (answer : Status) (old new : Shown) : Type 0 where
  HasNoMemory : answer ≡ status.NoMemory → KeepsShown old new → GoesOnFrom healthy s file names answer old new
  HasFault : (error : ResumeError) → IsFault s file.image error → (fault : HandFault)
      → IsRefusedAt (unsealed file.text) file.image error fault → answer ≡ status.BadInput (Handover fault)
      → KeepsShown old new → GoesOnFrom healthy s file names answer old new
  GoesOn : HasNoFault s file.image → (w : SystemWorld V) → IsHandedOver s w file.image
      → GoesOnBy healthy s file.image names answer old new → GoesOnFrom healthy s file names answer old new
