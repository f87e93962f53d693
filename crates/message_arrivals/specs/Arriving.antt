-- What arrives at the output logger, and which frames are forgotten then.
use Rattle.std.specs.Prelude.{◌≡◌, ℕ, ◌+◌, ◌-◌, ◌≤◌, List, [], length, slice_get, slice_index_or, Some, None}
use Rattle.plain_text.specs.declared.kind.Kind.{Kind}
use Rattle.plain_text.specs.declared.kind.Kind.TheVariants as kind
use Rattle.access_log.specs.declared.entry.Output.{Output}
use Rattle.access_log.specs.Held.{Lane, lane, IsFrontier}
use Rattle.dup_filter.specs.Numbers.{numbers}
use Rattle.link_store.specs.Links.{frame_at}
use Rattle.master_core.specs.declared.parts.Counts.{Counts}
use Rattle.recovery_world.specs.declared.event.Event.{Event}
use Rattle.recovery_world.specs.declared.event.Event.TheVariants as event
use Rattle.recovery_world.specs.declared.event.Outcome.TheVariants as outcome
use Rattle.output_releases.specs.FromEventReplies.{Reply}
use Rattle.link_store.specs.Sending.{Sending, entry_address, output_address, HasOutputFrame}
use Rattle.output_logger.specs.Logger.{Logger, IsDue, HasArrived}
use Rattle.output_releases.specs.FromSystemParts.{Parts}
use Rattle.output_releases.specs.Released.{AreForgotten}

-- entry or output n of thread t arrives
abbrev pub arrival_of : Kind → ℕ → ℕ → Event
arrival_of kind.Log t n = event.Log t n
arrival_of kind.Out t n = event.Out t n

-- how many entries, or outputs, a thread had
abbrev pub counted : Kind → Counts → ℕ
counted kind.Log c = c.entries
counted kind.Out c = c.outputs

-- The master of this epoch had such an entry or output, by what its threads did until its end.
pub record HadSent (ended : List (List Counts)) (epoch : ℕ) (k : Kind) (t n : ℕ) : Type 0 where
  pub from : 1 ≤ epoch
  pub counts : Counts
  pub there : slice_get (slice_index_or ended (epoch - 1) []) t ≡ Some counts
  pub first : 1 ≤ n
  pub last : n ≤ counted k counts

-- Output n of the thread is the next one of it to be released: all before it were. It has not arrived yet, and none of
-- the log entries that it depends on is missing.
pub record GoesNext (sent : Sending) (l : Logger) (t n : ℕ) : Type 0 where
  pub next : n ≡ (numbers l.released t).floor + 1
  pub fresh : HasArrived l t n → ⊥
  pub due : (x : Output) → HasOutputFrame sent x → x.thread ≡ t → x.number ≡ n → IsDue l.held x

-- No frame is on the links of an entry of the thread that is held or covered, and all before it too.
abbrev pub KnownAreForgotten : Sending → List Lane → ℕ → Type 0
KnownAreForgotten sent held t =
    (f n : ℕ) → IsFrontier (lane held t) f → n ≤ f → frame_at sent.frames (entry_address sent t n) ≡ None

-- What is forgotten once an entry or an output of the thread was taken. After a new entry no such frame of the thread's
-- entries is on the links; where it released outputs, none of any thread's outputs up to the number up to which all of
-- them are released. After an output that is released as it arrives, none of its thread's outputs up to that number.
pub record ForgetsTaken {P V : Type 0} (t : ℕ) (reply : Reply) (now : Parts P V) : Type 0 where
  pub entries : reply.outcome ≡ outcome.New → KnownAreForgotten now.sent now.logger.held t
  pub freed : reply.outcome ≡ outcome.New → 1 ≤ length reply.released
      → AreForgotten now.sent now.logger.released now.inputs.threads
  pub outputs : reply.outcome ≡ outcome.Released → (n : ℕ) → n ≤ (numbers now.logger.released t).floor
      → frame_at now.sent.frames (output_address now.sent t n) ≡ None
