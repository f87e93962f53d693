-- What taking note of a master's move does to the parts of a system.
use Rattle.std.specs.Prelude.{◌≡◌, ℕ, ◌+◌, ◌<◌, true, [], ◌∷◌, ◌++◌, length, Option, Some, None, Result, Ok, Err}
use Rattle.std.specs.Prelude.{IfOk, slice_index}
use Rattle.entry_order.specs.Stamps.{IsStamp}
use Rattle.access_log.specs.declared.entry.StampedEntry.{StampedEntry}
use Rattle.access_log.specs.declared.entry.Output.{Output}
use Rattle.plain_text.specs.declared.limit.Limit.{Limit}
use Rattle.plain_machine.specs.Program.{Meaning}
use Rattle.plain_machine.specs.History.{Step, log_of}
use Rattle.master_core.specs.Stepping.{Shows, plain_entry}
use Rattle.master_core.specs.declared.step.Stepped.{Stepped}
use Rattle.master_core.specs.declared.step.Stepped.TheVariants as stepped
use Rattle.wire_frames.specs.Writing.{CanPutEntry, CanPutOutput}
use Rattle.recovery_world.specs.declared.event.Outcome.{Outcome}
use Rattle.recovery_world.specs.declared.event.Outcome.TheVariants as outcome
use Rattle.recovery_world.specs.declared.event.Event.TheVariants as event
use Rattle.recovery_world.specs.World.{Setting, World}
use Rattle.recovery_world.specs.Events.{entry_outcome, move_outcome}
use Rattle.recovery_world.specs.Limits.{limit_passed, OnWithin, Passes}
use Rattle.recovery_laws.specs.Making.{CanMake, after_made}
use Rattle.event_replies.specs.declared.reply.Stop.{Stop}
use Rattle.event_replies.specs.declared.reply.Stop.TheVariants as stop
use Rattle.link_store.specs.Sending.{Sending, SendsEntry, SendsOutput}
use Rattle.system_parts.specs.Parts.{Parts}
use Rattle.system_parts.specs.Resting.{RestsFor}
use Rattle.system_parts.specs.SystemStanding.{StandsFor}
use Rattle.system_parts.specs.Performing.{MovesOn, StopsAt, ComesTo, WouldPass}

-- with one more move of the master, by which it sent out this number of bytes
abbrev pub with_move : {P V : Type 0} → ℕ → Option ℕ → ℕ → Parts P V → Parts P V
with_move t answer bytes y = record y {
  schedule = y.schedule ++ (record { thread = t; answer = answer }) ∷ [];
  moves = y.moves + 1;
  bytes = y.bytes + bytes;
}

-- The move passes no limit, and is noted.
pub record NotesMove {P V : Type 0} (t : ℕ) (answer : Option ℕ) (bytes : ℕ) (old new : Parts P V) : Type 0 where
  pub within : limit_passed (old.moves + 1) (old.bytes + bytes) ≡ None
  pub new_is : new ≡ with_move t answer bytes old

-- the same, and the links are left so
pub record NotesSending {P V : Type 0} (t : ℕ) (answer : Option ℕ) (bytes : ℕ) (Sends : Sending → Sending → Type 0)
    (old new : Parts P V) : Type 0 where
  pub within : limit_passed (old.moves + 1) (old.bytes + bytes) ≡ None
  pub sends : Sends old.sent new.sent
  pub new_is : new ≡ record (with_move t answer bytes old) { sent = new.sent }

-- The move is noted, with this outcome; or it would pass a limit, and nothing changed. Of no memory nothing is said.
abbrev pub NotesAs : {P V : Type 0} → ℕ → Option ℕ → ℕ → Outcome → (Sending → Sending → Type 0) → Parts P V
    → Result Outcome Stop → Parts P V → Type 0
NotesAs t answer bytes to Sends old (Ok other) new = (other ≡ to) × NotesSending t answer bytes Sends old new
NotesAs t answer bytes to Sends old (Err (stop.Limit limit)) new =
    (limit_passed (old.moves + 1) (old.bytes + bytes) ≡ Some limit) × (new ≡ old)
NotesAs t answer bytes to Sends old (Err stop.NoMemory) new = Unit {0}

abbrev pub SendsNothing : Sending → Sending → Type 0
SendsNothing old new = new ≡ old

-- the entry, or the output, was sent as the next one of its thread, which is one of those there
abbrev pub AddsEntry : StampedEntry → Sending → Sending → Type 0
AddsEntry e old new = (e.thread < length old.entries) × SendsEntry old new e

abbrev pub AddsOutput : Output → Sending → Sending → Type 0
AddsOutput o old new = (o.thread < length old.outputs) × SendsOutput old new o

-- The master made no move, with this outcome.
abbrev pub NotesNone : {P V : Type 0} → Outcome → Parts P V → Result Outcome Stop → Parts P V → Type 0
NotesNone to old r new = (r ≡ Ok to) × (new ≡ old)

-- what is noted of a master's answer
abbrev pub Notes : {P V : Type 0} → ℕ → Option ℕ → Stepped → Parts P V → Result Outcome Stop → Parts P V → Type 0
Notes t answer (stepped.Took k) old r new = NotesAs t answer 0 (outcome.Take k) SendsNothing old r new
Notes t answer (stepped.Did e) old r new = NotesAs t answer 0 (entry_outcome e.number e.what) (AddsEntry e) old r new
Notes t answer (stepped.Emitted o) old r new =
    NotesAs t answer (length o.packet.bytes) (outcome.Emitted o.number) (AddsOutput o) old r new
Notes t answer (stepped.Ended k) old r new = NotesAs t answer 0 (outcome.Ended k) SendsNothing old r new
Notes t answer stepped.Idle old r new = NotesNone outcome.Idle old r new
Notes t answer (stepped.NotTurn u n) old r new = NotesNone (outcome.Waits u n) old r new
Notes t answer stepped.NoMemory old r new = r ≡ Err stop.NoMemory

-- what was logged or sent out has a frame, on links of this epoch and number of threads
abbrev pub CanSend : ℕ → ℕ → Stepped → Type 0
CanSend epoch threads (stepped.Took k) = Unit {0}
CanSend epoch threads (stepped.Did e) = CanPutEntry epoch threads e
CanSend epoch threads (stepped.Emitted o) = CanPutOutput epoch threads o
CanSend epoch threads (stepped.Ended k) = Unit {0}
CanSend epoch threads stepped.Idle = Unit {0}
CanSend epoch threads (stepped.NotTurn u n) = Unit {0}
CanSend epoch threads stepped.NoMemory = Unit {0}

abbrev pub CanNote : {P V : Type 0} → Parts P V → Stepped → Type 0
CanNote y r = CanSend y.sent.epoch y.sent.threads r

-- The move that is noted is what the event of its thread and answer makes in the world, with this outcome, within the
-- limits; and all parts but the master stand for the world after it.
abbrev pub NotesFor : {P V : Type 0} → Meaning V → Setting V → World V → ℕ → Option ℕ → Stepped → Step V → Outcome
    → Parts P V → Parts P V → Type 0
NotesFor m s w t answer stepped step to old new =
    RestsFor m s w old → w.up ≡ true → CanMake s w t answer step → Shows w.past stepped step
    → (to ≡ move_outcome step.act)
    × OnWithin s w (event.Step t answer) to [] (after_made w step)
    × RestsFor m s (after_made w step) new

-- The event would pass this limit.
abbrev pub PassesFor : {P V : Type 0} → Meaning V → Setting V → World V → ℕ → Option ℕ → Stepped → Step V → Limit
    → Parts P V → Type 0
PassesFor m s w t answer stepped step limit old =
    RestsFor m s w old → w.up ≡ true → CanMake s w t answer step → Shows w.past stepped step
    → Passes s w (event.Step t answer) limit

-- The master made the next move of the thread, or none, which is not noted yet. Whatever comes of noting it is what the
-- event makes of the world, or stops at its limit; and what was logged is an entry of the past then.
pub record MakesNext {P V : Type 0} (m : Meaning V) (t : ℕ) (given answer : Option ℕ) (r : Stepped)
    (old new : Parts P V) : Type 0 where
  pub goes : (result : Result Outcome Stop) (noted : Parts P V) → Notes t answer r new result noted
      → IfOk result (λ (to : Outcome). MovesOn m (ComesTo (event.Step t given) to) old noted)
  pub stops : (result : Result Outcome Stop) (noted : Parts P V) → Notes t answer r new result noted → (limit : Limit)
      → result ≡ Err (stop.Limit limit) → StopsAt m (WouldPass (event.Step t given) limit) old noted
  pub logs : (e : StampedEntry) → r ≡ stepped.Did e → (s : Setting V) (w : World V) → StandsFor m s w old
      → (to : Outcome) (next : World V) → ComesTo (event.Step t given) to s w next
      → (log_of next.past ≡ plain_entry e ∷ log_of w.past) × (next.waiting ≡ w.waiting)
      × IsStamp (log_of next.past) (plain_entry e) (λ u. slice_index e.stamp u)
