-- A run within its script: the system that performs the events, and what was written so far.
use Rattle.std.specs.Prelude.{◌≡◌, ℕ, All, List, [], ◌++◌, length, Result, Ok, Err, OnOk, ⊤, ◌⊎◌}
use Rattle.access_log.specs.declared.entry.Output.{Output}
use Rattle.plain_machine.specs.Program.{Meaning}
use Rattle.world_io.specs.World.{Shown}
use Rattle.recovery_world.specs.declared.event.Event.{Event}
use Rattle.recovery_world.specs.World.{Setting, Sent, World as SystemWorld}
use Rattle.recovery_world.specs.Many.{OnAny, Stops}
use Rattle.recovery_world.specs.Files.{reply_line, sent_names}
use Rattle.plain_text.specs.Packets.{IsShort}
use Rattle.plain_text.specs.declared.limit.Limit.{Limit}
use Rattle.event_replies.specs.declared.reply.Reply.{Reply as SystemReply}
use Rattle.event_replies.specs.declared.reply.Stop.{Stop}
use Rattle.event_replies.specs.declared.reply.Stop.TheVariants as stop
use Rattle.recovery_core.specs.Systems.{Systemed}
use Rattle.recovery_core.specs.Systems.{SystemStands}
use Rattle.plain_text.specs.declared.packet.Packet.{Packet}
use Rattle.output_files.specs.declared.error.OutputError.{OutputError}
use Rattle.output_files.specs.Writes.{Write, HasWritten, HasBegun, HasGathered}
use Rattle.output_files.specs.Written.{Writes, WritesGathered}
use Rattle.run_writes.specs.Replies.{Reply, AnswersFrom, Point, newly_released, packets_in, released_in}
use Rattle.run_writes.specs.Run.{OutputNames, FitsRecord, release_writes, reply_writes, writes_of, WritesSomeFrom}
use Rattle.run_writes.specs.Run.{WritesUntilFrom, WritesAllFrom, HasBegunFrom}
use Rattle.run_writes.specs.Errors.{run_result_of, stopped_result}
use Rattle.run_writes.specs.declared.error.RunError.{RunError}
use Rattle.run_writes.specs.declared.error.RunError.TheVariants as run

-- The system stands for the world, and all that was released was handed over.
pub record IsSystemAt {P V : Type 0} (m : Meaning V) (s : Setting V) (w : SystemWorld V) (y : Systemed P V)
    : Type 0 where
  pub stands : SystemStands m s w y
  pub fresh : y.fresh ≡ []
  pub handed : y.handed ≡ length w.released

-- What performing an event came to, for each world that the system was at: the reply is that of the event, or the event
-- stops at the limit; and these are the outputs that it released. Where memory ran out, none is handed over.
abbrev pub ComesTo : {P V : Type 0} → Meaning V → Event → Result SystemReply Stop → List Output → Systemed P V
    → Systemed P V → Type 0
ComesTo {P} {V} m ev (Ok reply) outputs old new =
    (s : Setting V) (w : SystemWorld V) → IsSystemAt m s w old
    → (next : SystemWorld V) × (freed : List Sent) × OnAny s w ev reply.outcome freed next
    × (reply.released ≡ sent_names freed) × (packets_in outputs ≡ newly_released w next) × IsSystemAt m s next new
ComesTo {P} {V} m ev (Err (stop.Limit limit)) outputs old new =
    (s : Setting V) (w : SystemWorld V) → IsSystemAt m s w old
    → (next : SystemWorld V) × Stops s w ev limit next × (packets_in outputs ≡ newly_released w next)
ComesTo {P} {V} m ev (Err stop.NoMemory) outputs old new =
    (s : Setting V) (w : SystemWorld V) → IsSystemAt m s w old → outputs ≡ []

-- What it came to to write, behind these writes, what an event left: its records and its line; or, where it stopped at
-- a limit, what it released before; or nothing, where memory ran out.
abbrev pub WritesPerformed : Result ⊤ RunError → Result SystemReply Stop → Event → List Packet → List Write → List ℕ
    → List ℕ → Shown → Shown → Type 0
WritesPerformed result (Ok reply) ev released writes name lines old new =
    (freed : List Sent) → reply.released ≡ sent_names freed
    → (files : Result ⊤ OutputError) × (result ≡ run_result_of files) × OnOk files (All FitsRecord released)
    × WritesGathered files
    (writes ++ reply_writes name (record { released = released; line = reply_line ev reply.outcome freed })) lines
    old new
WritesPerformed result (Err (stop.Limit limit)) ev released writes name lines old new =
    (files : Result ⊤ OutputError)
    × (result ≡ stopped_result files limit)
    × Writes files (writes ++ release_writes name released) old new
WritesPerformed result (Err stop.NoMemory) ev released writes name lines old new =
    (result ≡ Err run.NoMemory) × HasBegun writes old new

-- The system is at some world, on packets that a record can have.
abbrev pub IsSomewhere : {P V : Type 0} → Meaning V → Systemed P V → Type 0
IsSomewhere {P} {V} m y = (s : Setting V) × (w : SystemWorld V) × IsSystemAt m s w y × All IsShort s.packets

-- The events were performed from this point, the system is at their world, and what they write was written but for the
-- lines that are gathered.
pub record HasCome {P V : Type 0} (m : Meaning V) (s : Setting V) (from : Point V) (names : OutputNames)
    (events : List Event) (y : Systemed P V) (lines : List ℕ) (old new : Shown) : Type 0 where
  pub replies : List Reply
  pub world : SystemWorld V
  pub answers : AnswersFrom s from.world events replies world
  pub at : IsSystemAt m s world y
  pub fit_records : All FitsRecord (released_in replies)
  pub gathered : HasGathered (writes_of names s.fractions (from.replies ++ replies)) lines old new

-- An event stopped at a limit, and all that is to be written until then was written.
pub record StoppedThere {V : Type 0} (s : Setting V) (from : Point V) (names : OutputNames) (events : List Event)
    (limit : Limit) (old new : Shown) : Type 0 where
  pub writes : List Write
  pub until : WritesUntilFrom s from names events limit writes
  pub written : HasWritten writes old new

-- some first part of what these events write was written, where they may have stopped at a limit
abbrev pub HasBegunSome : {V : Type 0} → Setting V → Point V → OutputNames → List Event → Shown → Shown → Type 0
HasBegunSome s from names events old new =
    (writes : List Write)
    × (WritesSomeFrom s from names events writes
    ⊎ ((limit : Limit) × WritesUntilFrom s from names events limit writes))
    × HasBegun writes old new

-- What performing and writing the events came to: all of it was done; or it stopped at a limit; or a first part of it
-- was written.
abbrev pub GoesOn : {A P V : Type 0} → Result A RunError → Meaning V → Setting V → Point V → OutputNames → List Event
    → Systemed P V → List ℕ → Shown → Shown → Type 0
GoesOn (Ok done) m s from names events y lines old new = HasCome m s from names events y lines old new
GoesOn (Err (run.Limit limit)) m s from names events y lines old new = StoppedThere s from names events limit old new
GoesOn (Err run.WriteFault) m s from names events y lines old new = HasBegunSome s from names events old new
GoesOn (Err run.NoMemory) m s from names events y lines old new = HasBegunSome s from names events old new

-- What a whole run of the events from this point came to: all was written; or an event stopped at a limit; or some
-- first part was written.
abbrev pub RunsFrom : {V : Type 0} → Result ⊤ RunError → Setting V → Point V → OutputNames → List Event → Shown → Shown
    → Type 0
RunsFrom (Ok done) s from names events old new =
    (writes : List Write) × WritesAllFrom s from names events writes × HasWritten writes old new
RunsFrom (Err (run.Limit limit)) s from names events old new = StoppedThere s from names events limit old new
RunsFrom (Err run.WriteFault) s from names events old new = HasBegunFrom s from names events old new
RunsFrom (Err run.NoMemory) s from names events old new = HasBegunFrom s from names events old new
