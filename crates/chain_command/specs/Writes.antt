-- What the command `chain` writes, and in which order: the outputs are created, the two captures with their headers;
-- then come, event by event, the records of what each system released, and the line of the report; and then the
-- schedules, and the last two lines.
use Rattle.std.specs.Prelude.{◌≡◌, ◌⊎◌, ℕ, All, List, [], ◌∷◌, ◌++◌, Some, Result, Ok, Err, ⊤}
use Rattle.plain_text.specs.declared.limit.Limit.{Limit}
use Rattle.plain_text.specs.declared.packet.Packet.{Packet}
use Rattle.plain_text.specs.declared.packet.Unit.{Unit as FractionUnit}
use Rattle.pcap_io.specs.Capture.{written, written_header, records_of}
use Rattle.pcap_io.specs.declared.order.Order.TheVariants as order
use Rattle.plain_machine.specs.declared.plain_move.PlainMove.{PlainMove}
use Rattle.plain_machine.specs.History.{Step}
use Rattle.plain_player.specs.ScheduleText.{schedule_text}
use Rattle.plain_player.specs.Schedules.{FitLines}
use Rattle.world_io.specs.World.{Shown}
use Rattle.recovery_world.specs.World.{Setting}
use Rattle.recovery_world.specs.Finish.{IsFinish}
use Rattle.recovery_world.specs.Files.{moves_made}
use Rattle.output_files.specs.Writes.{report_file, Write, Creates, Appends, Reports, HasWritten, HasBegun}
use Rattle.run_writes.specs.Replies.{newly_released}
use Rattle.run_writes.specs.Run.{FitsRecord}
use Rattle.chain_world.specs.declared.chain_event.ChainEvent.{ChainEvent}
use Rattle.chain_world.specs.Chain.{Chained, behind, chain_done, LeavesChain, LeavesChainAt, StopsChain}
use Rattle.chain_command.specs.Outputs.{ChainNames}
use Rattle.chain_command.specs.Replies.{ChainReply, ChainAnswers, middle_in, released_in}

-- The writes

-- a capture is created, and gets its header
abbrev pub capture_opening : List ℕ → FractionUnit → List Write
capture_opening name u = Creates name ∷ Appends name (written_header u) ∷ []

abbrev pub opening_writes : ChainNames → FractionUnit → List Write
opening_writes names u =
    capture_opening names.middle u ++ capture_opening names.released u
    ++ (Creates names.first_schedule ∷ Creates names.second_schedule ∷ [])

-- the records of what the first system released go to MIDDLE, and those of the second's to RELEASED
abbrev pub passed_writes : ChainNames → List Packet → List Packet → List Write
passed_writes names middle released =
    Appends names.middle (records_of order.Little middle) ∷ Appends names.released (records_of order.Little released)
    ∷ []

abbrev pub reply_writes : ChainNames → ChainReply → List Write
reply_writes names reply = passed_writes names reply.middle reply.released ++ Reports reply.line ∷ []

abbrev pub replies_writes : ChainNames → List ChainReply → List Write
replies_writes names [] = []
replies_writes names (reply ∷ replies) = reply_writes names reply ++ replies_writes names replies

abbrev pub writes_of : ChainNames → FractionUnit → List ChainReply → List Write
writes_of names u replies = opening_writes names u ++ replies_writes names replies

abbrev pub closing_writes : ChainNames → List PlainMove → List PlainMove → List ℕ → List Write
closing_writes names first second last =
    Appends names.first_schedule (schedule_text first) ∷ Appends names.second_schedule (schedule_text second)
    ∷ Reports last ∷ []

-- Some of the events were performed, in order, and this is what they write.
pub record WritesSome {V U : Type 0} (s : Setting V) (r : Setting U) (names : ChainNames) (events : List ChainEvent)
    (writes : List Write) : Type 0 where
  pub before : List ChainEvent
  pub after : List ChainEvent
  pub events_are : events ≡ before ++ after
  pub replies : List ChainReply
  pub worlds : Chained V U
  pub answers : ChainAnswers s r before replies worlds
  pub writes_are : writes ≡ writes_of names s.fractions replies

-- An event stopped at this limit: behind what the events before it write stand the records of what it released.
pub record WritesUntil {V U : Type 0} (s : Setting V) (r : Setting U) (names : ChainNames) (events : List ChainEvent)
    (limit : Limit) (writes : List Write) : Type 0 where
  pub before : List ChainEvent
  pub event : ChainEvent
  pub after : List ChainEvent
  pub events_are : events ≡ before ++ event ∷ after
  pub replies : List ChainReply
  pub there : Chained V U
  pub answers : ChainAnswers s r before replies there
  pub worlds : Chained V U
  pub stops : StopsChain s r there event limit worlds
  pub writes_are : writes
      ≡ writes_of names s.fractions replies
      ++ passed_writes names (newly_released there.first worlds.first) (newly_released there.second worlds.second)

-- All events were performed, and both runs are finished.
pub record WritesAll {V U : Type 0} (s : Setting V) (r : Setting U) (names : ChainNames) (events : List ChainEvent)
    (writes : List Write) : Type 0 where
  pub replies : List ChainReply
  pub worlds : Chained V U
  pub answers : ChainAnswers s r events replies worlds
  pub first_steps : List (Step V)
  pub first_finish : IsFinish s worlds.first first_steps
  pub second_steps : List (Step U)
  pub second_finish : IsFinish (behind r worlds.first) worlds.second second_steps
  pub fit_middle : All FitsRecord (middle_in replies)
  pub fit_released : All FitsRecord (released_in replies)
  pub fit_first : FitLines (moves_made first_steps)
  pub fit_second : FitLines (moves_made second_steps)
  pub writes_are : writes
      ≡ writes_of names s.fractions replies
      ++ closing_writes names (moves_made first_steps) (moves_made second_steps) (chain_done worlds)

-- a chain writes this by these events, so far as it comes
abbrev pub IsWritten : {V U : Type 0} → Setting V → Setting U → ChainNames → List ChainEvent → List Write → Type 0
IsWritten s r names events writes =
    WritesSome s r names events writes
    ⊎ (((limit : Limit) × WritesUntil s r names events limit writes) ⊎ WritesAll s r names events writes)

-- What a call leaves

-- all names but the outputs are as they were
abbrev pub KeepsOthers : ChainNames → Shown → Shown → Type 0
KeepsOthers names old new =
    (name : List ℕ) → ¬ (name ≡ names.middle) → ¬ (name ≡ names.released) → ¬ (name ≡ names.first_schedule)
    → ¬ (name ≡ names.second_schedule) → new.names name ≡ old.names name

-- the outputs are these: what each system released, as captures, the schedules, and the report
pub record HasFiles (names : ChainNames) (u : FractionUnit) (middle released : List Packet) (first second : List ℕ)
    (report : List ℕ) (old new : Shown) : Type 0 where
  pub middle_is : new.names names.middle ≡ Some (written u middle)
  pub released_is : new.names names.released ≡ Some (written u released)
  pub first_is : new.names names.first_schedule ≡ Some first
  pub second_is : new.names names.second_schedule ≡ Some second
  pub report_is : new.sent report_file ≡ old.sent report_file ++ report
  pub others : KeepsOthers names old new

-- the outputs are the files that the events leave; what was released fits records, and the moves fit lines
pub record HasChained {V U : Type 0} (s : Setting V) (r : Setting U) (names : ChainNames) (events : List ChainEvent)
    (old new : Shown) : Type 0 where
  pub report : List ℕ
  pub middle : List Packet
  pub released : List Packet
  pub first_moves : List PlainMove
  pub second_moves : List PlainMove
  pub leaves : LeavesChain s r events report middle released first_moves second_moves
  pub fit_middle : All FitsRecord middle
  pub fit_released : All FitsRecord released
  pub fit_first : FitLines first_moves
  pub fit_second : FitLines second_moves
  pub files :
      HasFiles names s.fractions middle released (schedule_text first_moves) (schedule_text second_moves) report old new

-- An event stopped at this limit: the report has the lines of those before it, the captures have all that was released
-- until then, and the schedules are empty.
pub record HasStopped {V U : Type 0} (s : Setting V) (r : Setting U) (names : ChainNames) (events : List ChainEvent)
    (limit : Limit) (old new : Shown) : Type 0 where
  pub report : List ℕ
  pub middle : List Packet
  pub released : List Packet
  pub leaves : LeavesChainAt s r events limit report middle released
  pub files : HasFiles names s.fractions middle released [] [] report old new

-- some first part of what a chain writes by these events was written, and nothing else
abbrev pub HasBegunChain : {V U : Type 0} → Setting V → Setting U → ChainNames → List ChainEvent → Shown → Shown
    → Type 0
HasBegunChain s r names events old new =
    (writes : List Write) × IsWritten s r names events writes × HasBegun writes old new

-- All of what a chain writes by the events was written, or after an error some first part of it.
abbrev pub Finishes : {V U E : Type 0} → Result ⊤ E → Setting V → Setting U → ChainNames → List ChainEvent → Shown
    → Shown → Type 0
Finishes (Ok done) s r names events old new =
    (writes : List Write) × WritesAll s r names events writes × HasWritten writes old new
Finishes (Err error) s r names events old new = HasBegunChain s r names events old new
