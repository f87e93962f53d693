-- What the command `drill` leaves: RELEASED and SCHEDULE are those of a run of its events, and the report is its own.
-- The captures and the schedule are written when all is done, the report last.
use Rattle.std.specs.Prelude.{◌≡◌, ◌⊎◌, ℕ, ◌≤◌, All, Bool, List, [], ◌∷◌, ◌++◌, length, Option}
use Rattle.plain_text.specs.Packets.{IsShort}
use Rattle.plain_text.specs.declared.limit.Limit.{Limit}
use Rattle.plain_text.specs.declared.packet.Packet.{Packet}
use Rattle.plain_text.specs.declared.packet.Unit.{Unit as FractionUnit}
use Rattle.plain_machine.specs.declared.plain_move.PlainMove.{PlainMove}
use Rattle.plain_machine.specs.Program.{Meaning}
use Rattle.plain_player.specs.ScheduleText.{schedule_text}
use Rattle.plain_player.specs.Schedules.{FitLines}
use Rattle.world_io.specs.World.{Shown}
use Rattle.recovery_world.specs.declared.event.Outcome.{Outcome}
use Rattle.recovery_world.specs.World.{Setting, World as SystemWorld, opening}
use Rattle.recovery_world.specs.Events.{OnShow}
use Rattle.recovery_world.specs.Files.{Leaves, LeavesAt, Performs, packets_of}
use Rattle.output_files.specs.Writes.{Write, Appends, Reports, HasWritten, HasBegun}
use Rattle.run_writes.specs.Run.{OutputNames, FitsRecord, HasFiles, release_writes, writes_of}
use Rattle.noted_runs.specs.declared.drill.DrillRun.{DrillRun}
use Rattle.drill_report.specs.Events.{drill_events, calm_events}
use Rattle.drill_report.specs.Report.{Replays, IsFirstDifference, drill_report, drops_of}

-- inputs that can be drilled: 1 to 16 threads, packets that a record can have, and at least one of them in a round
pub record CanDrill (run : DrillRun) : Type 0 where
  pub some_threads : 1 ≤ run.threads
  pub few_threads : run.threads ≤ 16
  pub short : All IsShort run.packets
  pub some : 1 ≤ run.every

-- what stays the same in a drill of a box that means this
abbrev pub setting_of : {V : Type 0} → Meaning V → DrillRun → Setting V
setting_of m run = record {
  meaning = m;
  threads = run.threads;
  tags = run.tags;
  fractions = run.unit;
  packets = run.packets;
  seed = run.seed;
}

-- The drill of a box, which has a table of drops as variable 0 or none, comes to its end, and leaves these: its events
-- do, and the run beside it comes to its end.
pub record Drills {V : Type 0} (s : Setting V) (every : ℕ) (table : Bool) (report : List ℕ) (released : List Packet)
    (schedule : List PlainMove) : Type 0 where
  -- the report that `run` would write
  pub lines : List ℕ
  pub leaves : Leaves s (drill_events every (length s.packets)) lines released schedule
  pub replayed : ℕ
  pub replays : Replays s (drill_events every (length s.packets)) replayed leaves.world
  pub shown : Outcome
  pub shows : OnShow s leaves.world 0 shown
  -- the run beside it
  pub beside_lines : List ℕ
  pub beside : SystemWorld V
  pub beside_performs : Performs s (opening V) (calm_events every (length s.packets)) beside_lines beside
  pub differs : Option ℕ
  pub compared : IsFirstDifference released (packets_of beside.released) differs
  pub report_is : report ≡ drill_report leaves.world leaves.steps replayed (drops_of table shown) differs

-- An event of the drill stops at this limit, before which these were released. Or the drill comes to its end and
-- releases these, and an event of the run beside it stops.
abbrev pub StopsAt : {V : Type 0} → Setting V → ℕ → Limit → List Packet → Type 0
StopsAt s every limit released =
    ((lines : List ℕ) × LeavesAt s (drill_events every (length s.packets)) limit lines released)
    ⊎ ((lines : List ℕ) × (beside_lines : List ℕ) × (schedule : List PlainMove) × (others : List Packet)
    × Leaves s (drill_events every (length s.packets)) lines released schedule
    × LeavesAt s (calm_events every (length s.packets)) limit beside_lines others)

-- The writes

-- the released capture whole, the schedule, and the report
abbrev pub drill_writes : OutputNames → FractionUnit → List Packet → List ℕ → List ℕ → List Write
drill_writes names u released schedule report =
    writes_of names u ((record { released = released; line = [] }) ∷ [])
    ++ (Appends names.schedule schedule ∷ Reports report ∷ [])

-- where a limit stopped it: what was released until then, and an empty schedule
abbrev pub stopped_writes : OutputNames → FractionUnit → List Packet → List Write
stopped_writes names u released = writes_of names u [] ++ release_writes names.released released

-- what a drill writes
pub data IsWritten {V : Type 0} (s : Setting V) (every : ℕ) (table : Bool) (names : OutputNames) : List Write
    → Type 0 where
  Whole : (report : List ℕ) (released : List Packet) (schedule : List PlainMove)
      → Drills s every table report released schedule
      → IsWritten s every table names (drill_writes names s.fractions released (schedule_text schedule) report)
  Stopped : (limit : Limit) (released : List Packet) → StopsAt s every limit released
      → IsWritten s every table names (stopped_writes names s.fractions released)

-- What a call leaves

-- the outputs are the files of the drill; what was released fits records, and the moves fit lines
pub record HasDrilled {V : Type 0} (s : Setting V) (every : ℕ) (table : Bool) (names : OutputNames)
    (old new : Shown) : Type 0 where
  pub report : List ℕ
  pub released : List Packet
  pub schedule : List PlainMove
  pub drills : Drills s every table report released schedule
  pub fit_records : All FitsRecord released
  pub fit_lines : FitLines schedule
  pub files : HasFiles names s.fractions released (schedule_text schedule) report old new

-- A limit stopped it: the released capture has all that was released until then, the schedule is empty, and there is no
-- report.
pub record HasStopped {V : Type 0} (s : Setting V) (every : ℕ) (names : OutputNames) (limit : Limit)
    (old new : Shown) : Type 0 where
  pub released : List Packet
  pub stops : StopsAt s every limit released
  pub files : HasFiles names s.fractions released [] [] old new

-- nothing was written, or some first part of what a drill writes, and nothing else
abbrev pub HasBegunDrill : {V : Type 0} → Setting V → ℕ → Bool → OutputNames → Shown → Shown → Type 0
HasBegunDrill s every table names old new =
    HasWritten [] old new ⊎ ((writes : List Write) × IsWritten s every table names writes × HasBegun writes old new)
