-- What a run by a plan leaves, in its files.
use Rattle.std.specs.Prelude.{◌≡◌, ◌⊎◌, ℕ, ◌≤◌, List, [], ◌∷◌, ◌++◌, Some, length}
use Rattle.plain_text.specs.declared.limit.Limit.{Limit}
use Rattle.plain_text.specs.declared.limit.TheConstants.{MOST_EVENTS, MOST_FILE_BYTES}
use Rattle.plain_text.specs.declared.packet.Unit.{Unit as FractionUnit}
use Rattle.world_io.specs.World.{Shown}
use Rattle.recovery_world.specs.declared.event.Event.{Event}
use Rattle.recovery_world.specs.World.{Setting, World as SystemWorld, opening}
use Rattle.recovery_world.specs.Files.{Performs, packets_of}
use Rattle.output_files.specs.Writes.{Write, Creates, HasBegun}
use Rattle.run_writes.specs.Run.{HasFiles, HasRun, HasStopped, opening_writes}
use Rattle.script_text.specs.Scripts.{FitWords, script_text}
use Rattle.live_writes.specs.Outputs.{LiveOutputs, holding}
use Rattle.live_writes.specs.Script.{PassesScript}
use Rattle.live_writes.specs.Told.{HasBegunLive}

-- the script is created behind the other outputs
abbrev pub live_opening : LiveOutputs → FractionUnit → List Write
live_opening names u = opening_writes names.outputs u ++ Creates names.script ∷ []

-- The script is that of these events, and within the limits of scripts that are read; the other outputs are those that
-- `run` leaves where this script stands there.
pub record HasLived {V : Type 0} (s : Setting V) (names : LiveOutputs) (events : List Event)
    (old new : Shown) : Type 0 where
  pub run : HasRun s names.outputs events (holding names.script (script_text events) old) new
  pub script_is : new.names names.script ≡ Some (script_text events)
  pub fit_words : FitWords events
  pub few : length events ≤ MOST_EVENTS
  pub short : length (script_text events) ≤ MOST_FILE_BYTES

-- Behind these events one more would pass a limit of scripts. The script is that of these events; the report has their
-- lines, the released capture all that they released, and the schedule is empty.
pub record HasPaused {V : Type 0} (s : Setting V) (names : LiveOutputs) (events : List Event) (next : Event)
    (limit : Limit) (old new : Shown) : Type 0 where
  pub report : List ℕ
  pub world : SystemWorld V
  pub performs : Performs s (opening V) events report world
  pub passes : PassesScript limit (length events) (length (script_text (events ++ next ∷ [])))
  pub files : HasFiles names.outputs s.fractions (packets_of world.released) [] report
      (holding names.script (script_text events) old) new
  pub script_is : new.names names.script ≡ Some (script_text events)

-- It stopped at a limit of runs, where `run` of the script that was written stops as well; or at one of scripts.
abbrev pub HaltsLive : {V : Type 0} → Setting V → LiveOutputs → List Event → Limit → Shown → Shown → Type 0
HaltsLive s names events limit old new =
    ((new.names names.script ≡ Some (script_text events))
    × HasStopped s names.outputs events limit (holding names.script (script_text events) old) new)
    ⊎ ((before : List Event) × (next : Event) × (events ≡ before ++ next ∷ [])
    × HasPaused s names before next limit old new)

-- Some first part of what the events write was written, and nothing else; each event's line stands in the script before
-- what it leaves. Before that the outputs are created, in their order.
abbrev pub BeginsLive : {V : Type 0} → Setting V → LiveOutputs → List Event → Shown → Shown → Type 0
BeginsLive s names events old new =
    HasBegun (live_opening names s.fractions) old new ⊎ HasBegunLive s names events old new
