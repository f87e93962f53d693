-- What the command `run` writes, and in which order: the released capture gets its header, and the schedule is created;
-- then, event by event, the records of what it released, and its line of the report; and then the schedule, and the
-- last line.
use Rattle.std.specs.Prelude.{◌≡◌, ◌⊎◌, ℕ, ◌≤◌, All, List, [], ◌∷◌, ◌++◌, codes, Some, Result, Ok, Err, ⊤}
use Rattle.plain_text.specs.Octets.{IsOfBytes}
use Rattle.plain_text.specs.Packets.{IsShort}
use Rattle.plain_text.specs.declared.limit.Limit.{Limit}
use Rattle.plain_text.specs.declared.packet.Packet.{Packet}
use Rattle.plain_text.specs.declared.packet.Unit.{Unit as FractionUnit}
use Rattle.pcap_io.specs.Capture.{IsRecorded, written, written_header, records_of}
use Rattle.pcap_io.specs.declared.order.Order.TheVariants as order
use Rattle.plain_machine.specs.declared.plain_move.PlainMove.{PlainMove}
use Rattle.plain_machine.specs.Program.{Meaning}
use Rattle.plain_machine.specs.History.{Step}
use Rattle.plain_player.specs.ScheduleText.{schedule_text}
use Rattle.plain_player.specs.Schedules.{FitLines}
use Rattle.world_io.specs.World.{Shown}
use Rattle.recovery_world.specs.declared.event.Event.{Event}
use Rattle.recovery_world.specs.World.{Setting, World as SystemWorld}
use Rattle.recovery_world.specs.Many.{Stops}
use Rattle.recovery_world.specs.Finish.{IsFinish}
use Rattle.plain_text.specs.NumberedWords.{one, two}
use Rattle.recovery_world.specs.Files.{done_line, moves_made, Leaves, LeavesAt}
use Rattle.output_files.specs.Writes.{report_file, Write, Creates, Appends, Reports, HasWritten, HasBegun}
use Rattle.run_writes.specs.declared.opening.ScriptRun.{ScriptRun}
use Rattle.run_writes.specs.declared.opening.RunFiles.{RunFiles}
use Rattle.run_writes.specs.Replies.{Reply, AnswersFrom, Point, beginning, newly_released, released_in}

-- The inputs of a run, and its outputs

-- what stays the same in a run of a box that means this
abbrev pub setting_of : {V : Type 0} → Meaning V → ScriptRun → Setting V
setting_of m run = record {
  meaning = m;
  threads = run.threads;
  tags = run.tags;
  fractions = run.unit;
  packets = run.packets;
  seed = run.seed;
}

-- inputs that a box can run on: 1 to 16 threads, and packets that a record can have
pub record CanRun (run : ScriptRun) : Type 0 where
  pub some_threads : 1 ≤ run.threads
  pub few_threads : run.threads ≤ 16
  pub short : All IsShort run.packets

-- the names of the two outputs
pub record OutputNames : Type 0 where
  pub released : List ℕ
  pub schedule : List ℕ

abbrev pub names_of : RunFiles → OutputNames
names_of files = record { released = files.released.now; schedule = files.schedule.now }

-- The writes

-- a packet fits a record, and is of bytes
pub record FitsRecord (p : Packet) : Type 0 where
  pub recorded : IsRecorded p
  pub of_bytes : IsOfBytes p

abbrev pub opening_writes : OutputNames → FractionUnit → List Write
opening_writes names u =
    Creates names.released ∷ Appends names.released (written_header u) ∷ Creates names.schedule ∷ []

-- the records of these packets go to the capture of this name
abbrev pub release_writes : List ℕ → List Packet → List Write
release_writes name released = Appends name (records_of order.Little released) ∷ []

abbrev pub reply_writes : List ℕ → Reply → List Write
reply_writes name r = Appends name (records_of order.Little r.released) ∷ Reports r.line ∷ []

abbrev pub replies_writes : List ℕ → List Reply → List Write
replies_writes name [] = []
replies_writes name (r ∷ replies) = reply_writes name r ++ replies_writes name replies

abbrev pub writes_of : OutputNames → FractionUnit → List Reply → List Write
writes_of names u replies = opening_writes names u ++ replies_writes names.released replies

-- the last line of a report, with these counts
abbrev pub counts_line : ℕ → ℕ → ℕ → List ℕ
counts_line fed epoch released =
    one (codes "done fed ") fed ++ two (codes " epoch ") epoch (codes " released ") released ++ codes "\n"

abbrev pub closing_writes : OutputNames → List PlainMove → List ℕ → List Write
closing_writes names schedule line = Appends names.schedule (schedule_text schedule) ∷ Reports line ∷ []

-- Some of the events were performed, in order, from this point, and this is what they write.
pub record WritesSomeFrom {V : Type 0} (s : Setting V) (from : Point V) (names : OutputNames) (events : List Event)
    (writes : List Write) : Type 0 where
  pub before : List Event
  pub after : List Event
  pub events_are : events ≡ before ++ after
  pub replies : List Reply
  pub world : SystemWorld V
  pub answers : AnswersFrom s from.world before replies world
  pub writes_are : writes ≡ writes_of names s.fractions (from.replies ++ replies)

-- An event stopped at this limit: behind what the events before it write stand the records of what it released.
pub record WritesUntilFrom {V : Type 0} (s : Setting V) (from : Point V) (names : OutputNames) (events : List Event)
    (limit : Limit) (writes : List Write) : Type 0 where
  pub before : List Event
  pub event : Event
  pub after : List Event
  pub events_are : events ≡ before ++ event ∷ after
  pub replies : List Reply
  pub there : SystemWorld V
  pub answers : AnswersFrom s from.world before replies there
  pub world : SystemWorld V
  pub stops : Stops s there event limit world
  pub writes_are : writes
      ≡ writes_of names s.fractions (from.replies ++ replies)
      ++ release_writes names.released (newly_released there world)

-- All events were performed, and the run is finished.
pub record WritesAllFrom {V : Type 0} (s : Setting V) (from : Point V) (names : OutputNames) (events : List Event)
    (writes : List Write) : Type 0 where
  pub replies : List Reply
  pub world : SystemWorld V
  pub answers : AnswersFrom s from.world events replies world
  pub steps : List (Step V)
  pub finish : IsFinish s world steps
  pub fit_records : All FitsRecord (released_in replies)
  pub fit_lines : FitLines (moves_made steps)
  pub writes_are : writes
      ≡ writes_of names s.fractions (from.replies ++ replies)
      ++ closing_writes names (moves_made steps) (done_line world)

-- a run of these events from this point writes this, so far as it comes
abbrev pub IsWrittenFrom : {V : Type 0} → Setting V → Point V → OutputNames → List Event → List Write → Type 0
IsWrittenFrom s from names events writes =
    WritesSomeFrom s from names events writes
    ⊎ (((limit : Limit) × WritesUntilFrom s from names events limit writes) ⊎ WritesAllFrom s from names events writes)

-- the same of a script, from its beginning

abbrev pub WritesSome : {V : Type 0} → Setting V → OutputNames → List Event → List Write → Type 0
WritesSome {V} s names events writes = WritesSomeFrom s (beginning V) names events writes

abbrev pub WritesUntil : {V : Type 0} → Setting V → OutputNames → List Event → Limit → List Write → Type 0
WritesUntil {V} s names events limit writes = WritesUntilFrom s (beginning V) names events limit writes

abbrev pub WritesAll : {V : Type 0} → Setting V → OutputNames → List Event → List Write → Type 0
WritesAll {V} s names events writes = WritesAllFrom s (beginning V) names events writes

abbrev pub IsWritten : {V : Type 0} → Setting V → OutputNames → List Event → List Write → Type 0
IsWritten {V} s names events writes = IsWrittenFrom s (beginning V) names events writes

-- What a call leaves

-- nothing was created or written
pub record KeepsShown (old new : Shown) : Type 0 where
  pub names : new.names ≡ old.names
  pub sent : new.sent ≡ old.sent

-- all names but the outputs are as they were
abbrev pub KeepsOthers : OutputNames → Shown → Shown → Type 0
KeepsOthers names old new =
    (name : List ℕ) → ¬ (name ≡ names.released) → ¬ (name ≡ names.schedule) → new.names name ≡ old.names name

-- the outputs are these: the released packets as a capture, the schedule, and the report
pub record HasFiles (names : OutputNames) (u : FractionUnit) (released : List Packet) (schedule report : List ℕ)
    (old new : Shown) : Type 0 where
  pub released_is : new.names names.released ≡ Some (written u released)
  pub schedule_is : new.names names.schedule ≡ Some schedule
  pub report_is : new.sent report_file ≡ old.sent report_file ++ report
  pub others : KeepsOthers names old new

-- the outputs are the files that the events leave; what was released fits records, and the moves fit lines
pub record HasRun {V : Type 0} (s : Setting V) (names : OutputNames) (events : List Event)
    (old new : Shown) : Type 0 where
  pub report : List ℕ
  pub released : List Packet
  pub schedule : List PlainMove
  pub leaves : Leaves s events report released schedule
  pub fit_records : All FitsRecord released
  pub fit_lines : FitLines schedule
  pub files : HasFiles names s.fractions released (schedule_text schedule) report old new

-- An event stopped at this limit: the report has the lines of those before it, the released capture has all that was
-- released until then, and the schedule is empty.
pub record HasStopped {V : Type 0} (s : Setting V) (names : OutputNames) (events : List Event) (limit : Limit)
    (old new : Shown) : Type 0 where
  pub report : List ℕ
  pub released : List Packet
  pub leaves : LeavesAt s events limit report released
  pub files : HasFiles names s.fractions released [] report old new

-- some first part of what a run of these events from this point writes was written, and nothing else
abbrev pub HasBegunFrom : {V : Type 0} → Setting V → Point V → OutputNames → List Event → Shown → Shown → Type 0
HasBegunFrom s from names events old new =
    (writes : List Write) × IsWrittenFrom s from names events writes × HasBegun writes old new

abbrev pub HasBegunRun : {V : Type 0} → Setting V → OutputNames → List Event → Shown → Shown → Type 0
HasBegunRun {V} s names events old new = HasBegunFrom s (beginning V) names events old new

-- All of what the run of the events from this point writes was written, or after an error some first part of it.
abbrev pub FinishesFrom : {V E : Type 0} → Result ⊤ E → Setting V → Point V → OutputNames → List Event → Shown → Shown
    → Type 0
FinishesFrom (Ok done) s from names events old new =
    (writes : List Write) × WritesAllFrom s from names events writes × HasWritten writes old new
FinishesFrom (Err error) s from names events old new = HasBegunFrom s from names events old new

abbrev pub Finishes : {V E : Type 0} → Result ⊤ E → Setting V → OutputNames → List Event → Shown → Shown → Type 0
Finishes {V} result s names events old new = FinishesFrom result s (beginning V) names events old new
