-- The script that is written while a plan is performed.
use Rattle.std.specs.Prelude.{◌≡◌, ℕ, ◌+◌, ◌<◌, List, ◌∷◌, [], ◌++◌, length}
use Rattle.plain_text.specs.declared.limit.Limit.{Limit}
use Rattle.plain_text.specs.declared.limit.Limit.TheVariants as limit
use Rattle.plain_text.specs.declared.limit.TheConstants.{MOST_EVENTS, MOST_FILE_BYTES}
use Rattle.world_io.specs.World.{Shown}
use Rattle.output_files.specs.Writes.{Write, Creates, Appends, Reports, HasGathered}
use Rattle.recovery_world.specs.declared.event.Event.{Event}
use Rattle.script_text.specs.Scripts.{script_text}
use Rattle.live_writes.specs.Outputs.{holding}

-- the lines that are gathered, and how many lines and bytes the whole script has
pub record Scripted : Type 0 where
  pub text : List ℕ
  pub count : ℕ
  pub size : ℕ

abbrev pub no_script : Scripted
no_script = record { text = []; count = 0; size = 0 }

-- the line of an event
abbrev pub line_of : Event → List ℕ
line_of ev = script_text (ev ∷ [])

-- one more line
abbrev pub with_line : Event → Scripted → Scripted
with_line ev x = record {
  text = x.text ++ line_of ev;
  count = x.count + 1;
  size = x.size + length (line_of ev);
}

-- The counts are those of the script of these events.
pub record AreCounted (events : List Event) (x : Scripted) : Type 0 where
  pub count : x.count ≡ length events
  pub size : x.size ≡ length (script_text events)

-- With one more line the script would pass this limit, that of the events where it would pass both: it has so many
-- lines already, and would have so many bytes.
abbrev pub PassesScript : Limit → ℕ → ℕ → Type 0
PassesScript limit.File count size = (count < MOST_EVENTS) × (MOST_FILE_BYTES < size)
PassesScript limit.Packets count size = ⊥
PassesScript limit.Events count size = count ≡ MOST_EVENTS
PassesScript limit.Moves count size = ⊥
PassesScript limit.OutputBytes count size = ⊥

-- none of the writes is to this name
abbrev pub SpareName : List ℕ → List Write → Type 0
SpareName name [] = Unit {0}
SpareName name (Creates other ∷ writes) = ¬ (other ≡ name) × SpareName name writes
SpareName name (Appends other bytes ∷ writes) = ¬ (other ≡ name) × SpareName name writes
SpareName name (Reports bytes ∷ writes) = SpareName name writes

-- Beside the script, which has these bytes under its name, the writes were done but for the lines that are gathered.
abbrev pub Beside : List ℕ → List ℕ → List Write → List ℕ → Shown → Shown → Type 0
Beside name written writes lines old now = HasGathered writes lines (holding name written old) now
