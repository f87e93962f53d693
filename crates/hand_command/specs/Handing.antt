-- A hand-over within its steps.
use Rattle.std.specs.Prelude.{◌≡◌, ◌⊎◌, ℕ, All, List, ◌++◌, Option, Result, Ok, Err, ⊤}
use Rattle.world_io.specs.World.{Shown}
use Rattle.recovery_world.specs.declared.event.Event.{Event}
use Rattle.recovery_world.specs.World.{Setting, World as SystemWorld}
use Rattle.recovery_world.specs.Files.{done_line}
use Rattle.handover.specs.declared.image.Image.{Image}
use Rattle.handover.specs.Images.{FitsImage}
use Rattle.handover_world.specs.declared.unready.Unready.{Unready}
use Rattle.plain_text.specs.declared.limit.Limit.{Limit}
use Rattle.handover_world.specs.Images.{IsImageOf}
use Rattle.handover_world.specs.Ready.{IsReadiness}
use Rattle.output_files.specs.Writes.{Write, HasWritten, HasBegun}
use Rattle.run_writes.specs.declared.error.RunError.{RunError}
use Rattle.run_writes.specs.declared.error.RunError.TheVariants as run
use Rattle.run_writes.specs.Replies.{Reply, Answers, beginning, released_in}
use Rattle.run_writes.specs.Run.{OutputNames, FitsRecord, writes_of}
use Rattle.run_command.specs.Running.{StoppedThere}
use Rattle.hand_command.specs.declared.error.HandError.{HandError}
use Rattle.hand_command.specs.declared.error.HandError.TheVariants as hand
use Rattle.hand_command.specs.Hand.{resting, handed_text, image_writes, WritesHandover, HasBegunHand}
use Rattle.hand_command.specs.Hand.{FitsFile, PassesFile, PassesText}

-- some first part of these writes was done, and of those of the image of the world, where there is one yet
abbrev pub HasBegunImage : {V : Type 0} → Option (List ℕ) → Setting V → SystemWorld V → OutputNames → List Write → Shown
    → Shown → Type 0
HasBegunImage seal s w names writes old new =
    HasBegun writes old new ⊎ ((image : Image) × IsImageOf s w image × FitsImage image
    × FitsFile (handed_text seal s image) image
    × HasBegun (writes ++ image_writes names (handed_text seal s image) (done_line w)) old new)

-- After these writes the image of the world was written, and the last line; or its text would pass a limit of files,
-- and nothing more was written; or after an error some first part of all that.
abbrev pub WritesImage : {V : Type 0} → Result ⊤ RunError → Option (List ℕ) → Setting V → SystemWorld V
    → OutputNames → List Write → Shown → Shown → Type 0
WritesImage (Ok done) seal s w names writes old new =
    (image : Image) × IsImageOf s w image × FitsImage image × FitsFile (handed_text seal s image) image
    × HasWritten (writes ++ image_writes names (handed_text seal s image) (done_line w)) old new
WritesImage (Err (run.Limit limit)) seal s w names writes old new =
    (image : Image) × IsImageOf s w image × FitsImage image × PassesFile limit (handed_text seal s image) image
    × HasWritten writes old new
WritesImage (Err run.WriteFault) seal s w names writes old new = HasBegunImage seal s w names writes old new
WritesImage (Err run.NoMemory) seal s w names writes old new = HasBegunImage seal s w names writes old new

-- The events were performed and all that they leave was written, and the system is not ready for this cause.
pub record LeftUnready {V : Type 0} (s : Setting V) (names : OutputNames) (events : List Event) (unready : Unready)
    (old new : Shown) : Type 0 where
  pub replies : List Reply
  pub world : SystemWorld V
  pub answers : Answers s events replies world
  pub readiness : IsReadiness world (Err unready)
  pub fit_records : All FitsRecord (released_in replies)
  pub written : HasWritten (writes_of names s.fractions replies) old new

-- The system came to rest and all that its events leave was written, and its text would pass this limit of files.
pub record LeftTooLong {V : Type 0} (seal : Option (List ℕ)) (s : Setting V) (names : OutputNames) (events : List Event)
    (limit : Limit) (old new : Shown) : Type 0 where
  pub long : PassesText seal s events limit
  pub written : HasWritten (writes_of names s.fractions (long.hand.replies ++ long.hand.last)) old new

-- What a hand-over behind these events came to: all was written; or an event stopped at a limit, or the text of the
-- state would pass one; or the system is not ready; or some first part was written.
abbrev pub EndsHand : {V : Type 0} → Result ⊤ HandError → Option (List ℕ) → Setting V → OutputNames → List Event → Shown
    → Shown → Type 0
EndsHand (Ok done) seal s names events old new =
    (writes : List Write) × WritesHandover seal s names events writes × HasWritten writes old new
EndsHand {V} (Err (hand.Limit limit)) seal s names events old new =
    StoppedThere s (beginning V) names (events ++ resting) limit old new
    ⊎ LeftTooLong seal s names events limit old new
EndsHand (Err hand.WriteFault) seal s names events old new = HasBegunHand seal s names events old new
EndsHand (Err hand.NoMemory) seal s names events old new = HasBegunHand seal s names events old new
EndsHand (Err (hand.Unready unready)) seal s names events old new = LeftUnready s names events unready old new
