-- What the command `hand` writes, and in which order: what `run` writes of the events, but for its end; where the
-- system is ready then, what four more events leave, the text of the image, with the seal of the box and the packets in
-- front of it where the box is sealed, and the last line.
use Rattle.std.specs.Prelude.{◌≡◌, ◌⊎◌, ◌<◌, ◌≤◌, ℕ, All, List, [], ◌∷◌, ◌++◌, length, Option, Ok, Err}
use Rattle.plain_text.specs.declared.limit.Limit.{Limit}
use Rattle.plain_text.specs.declared.limit.Limit.TheVariants as limit_of
use Rattle.plain_text.specs.declared.limit.TheConstants.{MOST_EVENTS, MOST_FILE_BYTES}
use Rattle.world_io.specs.World.{Shown}
use Rattle.recovery_world.specs.declared.event.Event.{Event}
use Rattle.recovery_world.specs.declared.event.Event.TheVariants.{Snap, Store, Crash, Recover}
use Rattle.recovery_world.specs.World.{Setting, World as SystemWorld}
use Rattle.recovery_world.specs.Files.{done_line}
use Rattle.recovery_laws.specs.Sound.{Sound}
use Rattle.handover.specs.declared.image.Image.{Image}
use Rattle.handover.specs.Images.{FitsImage, image_text, lines_of}
use Rattle.handover_seal.specs.Seals.{seal_after, sealed_text}
use Rattle.handover_world.specs.declared.unready.Unready.{Unready}
use Rattle.handover_world.specs.Images.{IsAtRest, IsImageOf}
use Rattle.handover_world.specs.Ready.{IsReadiness}
use Rattle.output_files.specs.Writes.{Write, Appends, Reports, HasBegun}
use Rattle.run_writes.specs.Replies.{Reply, AnswersFrom, Answers, released_in, lines_in}
use Rattle.run_writes.specs.Run.{OutputNames, FitsRecord, writes_of, WritesSome, WritesUntil, HasFiles}
use Rattle.hand_command.specs.declared.hand.HandFiles.{HandFiles}

-- the names of the two outputs: the text of the image stands where a run has its schedule
abbrev pub names_of : HandFiles → OutputNames
names_of files = record { released = files.released.now; schedule = files.handover.now }

-- The hand-over

-- the events that bring a system to rest that is ready
abbrev pub resting : List Event
resting = Snap ∷ Store ∷ Crash ∷ Recover ∷ []

-- The world is one that a script may lead to, nothing is on the way in it, and this is its image.
pub record IsHandedOver {V : Type 0} (s : Setting V) (w : SystemWorld V) (image : Image) : Type 0 where
  pub sound : Sound s w
  pub rest : IsAtRest w
  pub image_is : IsImageOf s w image

-- The events lead to a world that is ready, and four more from there to one at rest, which has this image.
pub record HandsOver {V : Type 0} (s : Setting V) (events : List Event) : Type 0 where
  pub replies : List Reply
  pub ready : SystemWorld V
  pub answers : Answers s events replies ready
  pub readiness : IsReadiness ready (Ok tt)
  pub last : List Reply
  pub world : SystemWorld V
  pub rests : AnswersFrom s ready resting last world
  pub image : Image
  pub handed : IsHandedOver s world image
  pub fit_records : All FitsRecord (released_in (replies ++ last))
  pub fits_image : FitsImage image

-- The text

-- the text of an image, sealed where the box file has this digest
abbrev pub handed_text : {V : Type 0} → Option (List ℕ) → Setting V → Image → List ℕ
handed_text seal s image = sealed_text (seal_after seal s.fractions s.packets image.fed) (image_text image)

-- A text of this image is no larger than a file that is read may be, and has no more lines.
pub record FitsFile (text : List ℕ) (image : Image) : Type 0 where
  pub bytes : length text ≤ MOST_FILE_BYTES
  pub lines : length (lines_of image) ≤ MOST_EVENTS

-- it passes this limit of files: that of bytes, or else that of lines
abbrev pub PassesFile : Limit → List ℕ → Image → Type 0
PassesFile limit_of.File text image = MOST_FILE_BYTES < length text
PassesFile limit_of.Packets text image = ⊥
PassesFile limit_of.Events text image = (length text ≤ MOST_FILE_BYTES) × (MOST_EVENTS < length (lines_of image))
PassesFile limit_of.Moves text image = ⊥
PassesFile limit_of.OutputBytes text image = ⊥

-- The writes

abbrev pub image_writes : OutputNames → List ℕ → List ℕ → List Write
image_writes names text line = Appends names.schedule text ∷ Reports line ∷ []

-- The system was handed over.
pub record WritesHandover {V : Type 0} (seal : Option (List ℕ)) (s : Setting V) (names : OutputNames)
    (events : List Event) (writes : List Write) : Type 0 where
  pub hand : HandsOver s events
  pub fits_file : FitsFile (handed_text seal s hand.image) hand.image
  pub writes_are : writes
      ≡ writes_of names s.fractions (hand.replies ++ hand.last)
      ++ image_writes names (handed_text seal s hand.image) (done_line hand.world)

-- a hand-over behind these events writes this, so far as it comes
abbrev pub IsWrittenHand : {V : Type 0} → Option (List ℕ) → Setting V → OutputNames → List Event → List Write → Type 0
IsWrittenHand seal s names events writes =
    WritesSome s names (events ++ resting) writes
    ⊎ (((limit : Limit) × WritesUntil s names (events ++ resting) limit writes)
    ⊎ WritesHandover seal s names events writes)

-- What a call leaves

-- The system was handed over: the outputs are what was released, the text of the image, and the report.
pub record HasHanded {V : Type 0} (seal : Option (List ℕ)) (s : Setting V) (names : OutputNames) (events : List Event)
    (old new : Shown) : Type 0 where
  pub hand : HandsOver s events
  pub fits_file : FitsFile (handed_text seal s hand.image) hand.image
  pub files : HasFiles names s.fractions (released_in (hand.replies ++ hand.last)) (handed_text seal s hand.image)
      (lines_in (hand.replies ++ hand.last) ++ done_line hand.world) old new

-- The events lead to a state whose text would pass this limit of files.
pub record PassesText {V : Type 0} (seal : Option (List ℕ)) (s : Setting V) (events : List Event) (limit : Limit)
    : Type 0 where
  pub hand : HandsOver s events
  pub passes : PassesFile limit (handed_text seal s hand.image) hand.image

-- The system came to rest, and its text would pass this limit: there is no image, and no last line.
pub record IsTooLong {V : Type 0} (seal : Option (List ℕ)) (s : Setting V) (names : OutputNames) (events : List Event)
    (limit : Limit) (old new : Shown) : Type 0 where
  pub long : PassesText seal s events limit
  pub files : HasFiles names s.fractions (released_in (long.hand.replies ++ long.hand.last)) []
      (lines_in (long.hand.replies ++ long.hand.last)) old new

-- The events were performed, and the system is not ready for this cause: there is no image, and no last line.
pub record IsNotReady {V : Type 0} (s : Setting V) (names : OutputNames) (events : List Event) (unready : Unready)
    (old new : Shown) : Type 0 where
  pub replies : List Reply
  pub world : SystemWorld V
  pub answers : Answers s events replies world
  pub readiness : IsReadiness world (Err unready)
  pub fit_records : All FitsRecord (released_in replies)
  pub files : HasFiles names s.fractions (released_in replies) [] (lines_in replies) old new

-- some first part of what a hand-over behind these events writes was written, and nothing else
abbrev pub HasBegunHand : {V : Type 0} → Option (List ℕ) → Setting V → OutputNames → List Event → Shown → Shown → Type 0
HasBegunHand seal s names events old new =
    (writes : List Write) × IsWrittenHand seal s names events writes × HasBegun writes old new
