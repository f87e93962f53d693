-- A run by a plan, so far as it came: what was written, and what is gathered.
use Rattle.std.specs.Prelude.{◌≡◌, ◌⊎◌, ℕ, All, List, [], ◌∷◌, ◌++◌, length}
use Rattle.plain_text.specs.declared.limit.Limit.{Limit}
use Rattle.world_io.specs.World.{Shown}
use Rattle.recovery_world.specs.declared.event.Event.{Event}
use Rattle.recovery_world.specs.World.{Setting, World as SystemWorld}
use Rattle.output_files.specs.Writes.{IsPrefix, Write, HasWritten, IsOutput}
use Rattle.run_writes.specs.Replies.{Reply, Answers, released_in}
use Rattle.run_writes.specs.Run.{FitsRecord, HasBegunRun, WritesUntil, writes_of}
use Rattle.run_writes.specs.declared.error.RunError.{RunError}
use Rattle.run_writes.specs.declared.error.RunError.TheVariants as run
use Rattle.script_text.specs.Scripts.{FitWords, script_text}
use Rattle.plan_script.specs.Begun.{AreFirstOf}
use Rattle.live_writes.specs.Outputs.{LiveOutputs, holding}
use Rattle.live_writes.specs.Script.{Scripted, AreCounted, Beside, PassesScript}

-- Of all outputs but the script a first part was written of what the first of these events leave, and the script has
-- the lines of these.
pub record IsAhead {V : Type 0} (s : Setting V) (names : LiveOutputs) (events : List Event) (written : List ℕ)
    (old now : Shown) : Type 0 where
  pub first : List Event
  pub rest : List Event
  pub events_are : events ≡ first ++ rest
  pub lines : IsPrefix (script_text first) written
  pub begun : HasBegunRun s names.outputs first (holding names.script written old) now

-- The events were performed and lead to this world, and what they leave was written but for what is gathered; of the
-- script the lines of these scripted ones, of which the last may be of an event that is under way.
pub record HasTold {V : Type 0} (s : Setting V) (names : LiveOutputs) (events scripted : List Event)
    (w : SystemWorld V) (lines : List ℕ) (x : Scripted) (old now : Shown) : Type 0 where
  pub replies : List Reply
  pub answers : Answers s events replies w
  pub fit_records : All FitsRecord (released_in replies)
  pub behind : AreFirstOf scripted events
  pub fit_words : FitWords scripted
  pub written : List ℕ
  pub script_is : script_text scripted ≡ written ++ x.text
  pub counted : AreCounted scripted x
  pub gathered : Beside names.script written (writes_of names.outputs s.fractions replies) lines old now
  pub ahead : IsAhead s names events written old now

-- The run came to no end: the script has a first part of the lines of these events, and what was written beside it is a
-- first part of what the first of them leave, whose lines the script has.
pub record HasBegunLive {V : Type 0} (s : Setting V) (names : LiveOutputs) (events : List Event) (old now : Shown)
    : Type 0 where
  pub written : List ℕ
  pub part : IsPrefix written (script_text events)
  pub ahead : IsAhead s names events written old now

-- Behind these events one more would pass a limit of scripts. The script has their lines, and all that they leave was
-- written.
pub record IsPaused {V : Type 0} (s : Setting V) (names : LiveOutputs) (events : List Event) (next : Event)
    (limit : Limit) (old now : Shown) : Type 0 where
  pub replies : List Reply
  pub world : SystemWorld V
  pub answers : Answers s events replies world
  pub passes : PassesScript limit (length events) (length (script_text (events ++ next ∷ [])))
  pub written : HasWritten (writes_of names.outputs s.fractions replies)
      (holding names.script (script_text events) old) now

-- The last of these events stopped at a limit of runs. The script has the lines of all of them.
pub record IsStopped {V : Type 0} (s : Setting V) (names : LiveOutputs) (events : List Event) (limit : Limit)
    (old now : Shown) : Type 0 where
  pub writes : List Write
  pub until : WritesUntil s names.outputs events limit writes
  pub written : HasWritten writes (holding names.script (script_text events) old) now

-- The run stopped at a limit: of runs at the last of these events, or of scripts before it.
abbrev pub IsHalted : {V : Type 0} → Setting V → LiveOutputs → List Event → Limit → Shown → Shown → Type 0
IsHalted s names events limit old now =
    IsStopped s names events limit old now
    ⊎ ((before : List Event) × (next : Event) × (events ≡ before ++ next ∷ [])
    × IsPaused s names before next limit old now)

-- Why a run by a plan came to no end, of which these are the first events.
abbrev pub FailsLive : {V : Type 0} → RunError → Setting V → LiveOutputs → List Event → Shown → Shown → Type 0
FailsLive (run.Limit limit) s names events old now = IsHalted s names events limit old now
FailsLive run.WriteFault s names events old now = HasBegunLive s names events old now
FailsLive run.NoMemory s names events old now = HasBegunLive s names events old now

-- the outputs are open under these numbers: the released capture, the schedule and the script
pub record AreOpen (names : LiveOutputs) (first second third : ℕ) (now : Shown) : Type 0 where
  pub released : IsOutput first names.outputs.released now
  pub schedule : IsOutput second names.outputs.schedule now
  pub script : IsOutput third names.script now
