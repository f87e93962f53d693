-- An entry that arrives as soon as it is made: what that makes of the parts of a system, and of the world.
use Rattle.std.specs.Prelude.{◌≡◌, ◌≢◌, ℕ, ◌+◌, ◌<◌, ◌⊎◌, List, ◌++◌, length, Option, None, Result, Ok, Err}
use Rattle.access_log.specs.declared.entry.StampedEntry.{StampedEntry}
use Rattle.access_log.specs.declared.entry.Output.{Output}
use Rattle.access_log.specs.Held.{Lane, lane, IsFrontier}
use Rattle.access_log.specs.Lanes.{PutsEntry}
use Rattle.master_core.specs.declared.step.Stepped.{Stepped}
use Rattle.master_core.specs.declared.step.Stepped.TheVariants as stepped
use Rattle.output_logger.specs.Logger.{IsDue, ReleasesOnce, Parts as LoggerParts}
use Rattle.recovery_world.specs.declared.event.Event.TheVariants as event
use Rattle.recovery_world.specs.declared.event.Outcome.{Outcome}
use Rattle.recovery_world.specs.World.{Setting, World}
use Rattle.recovery_world.specs.Events.{entry_outcome}
use Rattle.event_replies.specs.declared.reply.Stop.{Stop}
use Rattle.event_replies.specs.declared.reply.Stop.TheVariants as stop
use Rattle.early_arrivals.specs.Early.{MayArrive}
use Rattle.link_store.specs.Sending.{Sending, CountsEntry, ForgetsEntries}
use Rattle.system_parts.specs.Parts.{Parts}
use Rattle.system_parts.specs.Performing.{ComesTo}
use Rattle.thread_steps.specs.Stepping.{Notes, NotesMove}

-- The thread makes its next move, and the entry that it logged, if it logged one, has arrived or has not.
abbrev pub StepsHeld : {V : Type 0} → ℕ → Outcome → Setting V → World V → World V → Type 0
StepsHeld {V} t to s w next = (mid : World V) × ComesTo (event.Step t None) to s w mid × MayArrive s w mid next

-- The entries of its thread before it are known, and it is not.
abbrev pub IsNextHeld : List Lane → StampedEntry → Type 0
IsNextHeld held e = (f : ℕ) × IsFrontier (lane held e.thread) f × (e.number ≡ f + 1)

-- An entry that was made arrives at once: it counts as sent, its frame is not there, and the outputs that are due then
-- are put behind those of a list.
pub record HoldsMade {P V : Type 0} (e : StampedEntry) (before out : List Output) (old new : Parts P V) : Type 0 where
  pub counted : Sending
  pub counts : CountsEntry old.sent counted e
  pub there : e.thread < length old.sent.entries
  pub next : IsNextHeld old.logger.held e
  pub known : ℕ
  pub frontier : IsFrontier (lane new.logger.held e.thread) known
  pub forgets : ForgetsEntries counted new.sent e.thread known
  pub puts : PutsEntry (lane old.logger.held e.thread) (lane new.logger.held e.thread) e.number e
  pub others : (u : ℕ) → u ≢ e.thread → lane new.logger.held u ≡ lane old.logger.held u
  pub go : List Output
  pub appends : out ≡ before ++ go
  pub parts : LoggerParts (IsDue new.logger.held) old.logger.waiting go new.logger.waiting
  pub once : ReleasesOnce old.logger.released new.logger.released go
  pub epoch : new.logger.epoch ≡ old.logger.epoch
  pub new_is : new ≡ record old { sent = new.sent; logger = new.logger }

-- The move is noted, and then the entry that it logged is held at once.
pub record NotesMade {P V : Type 0} (t : ℕ) (answer : Option ℕ) (r : Stepped) (before out : List Output)
    (old : Parts P V) (result : Result Outcome Stop) (new : Parts P V) : Type 0 where
  pub e : StampedEntry
  pub did : r ≡ stepped.Did e
  pub result_is : result ≡ Ok (entry_outcome e.number e.what)
  pub noted : Parts P V
  pub notes : NotesMove t answer 0 old noted
  pub holds : HoldsMade e before out noted new

-- What is noted of a master's answer, where the entry that it made may be held at once. Of no memory nothing is said.
abbrev pub NotesHeld : {P V : Type 0} → ℕ → Option ℕ → Stepped → List Output → List Output → Parts P V
    → Result Outcome Stop → Parts P V → Type 0
NotesHeld {P} {V} t answer r before out old result new =
    (Notes t answer r old result new × (out ≡ before))
    ⊎ (NotesMade t answer r before out old result new ⊎ (result ≡ Err stop.NoMemory))
