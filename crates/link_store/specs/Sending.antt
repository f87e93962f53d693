-- What a master sent on its links: the frames of its entries and outputs that are not forgotten, and how long each was.
use Rattle.std.specs.Prelude.{◌≡◌, ◌≢◌, ℕ, zero, suc, ◌+◌, ◌*◌, ◌≤◌, ◌⊎◌, List, [], ◌∷◌, ◌++◌, length, replicate}
use Rattle.std.specs.Prelude.{slice_get, slice_index, slice_index_or, slice_set, take, Option, Some, None}
use Rattle.plain_text.specs.declared.kind.Kind.TheVariants.{Log, Out}
use Rattle.wire_frames.specs.FromAccessLog.{StampedEntry}
use Rattle.wire_frames.specs.FromAccessLog.{Output}
use Rattle.link_store.specs.declared.address.Address.{Address}
use Rattle.link_store.specs.Links.{address, frame_at, Sends, Forgets, IsUpTo, IsPast, IsOutputOf}
use Rattle.wire_frames.specs.declared.frame.Frame.TheVariants as frame_of
use Rattle.wire_frames.specs.Layout.{nonzero, IsFrame}
use Rattle.wire_frames.specs.Writing.{CanPutEntry, CanPutOutput}

-- The epoch and the number of threads that each frame says; the frames on the links; and the lengths of all frames of
-- this epoch, thread by thread, in the order of their numbers.
pub record Sending : Type 0 where
  pub epoch : ℕ
  pub threads : ℕ
  pub frames : List (Address × List ℕ)
  pub entries : List (List ℕ)
  pub outputs : List (List ℕ)

-- the lengths of a thread's frames
abbrev pub lengths_of : List (List ℕ) → ℕ → List ℕ
lengths_of lengths t = slice_index_or lengths t []

-- the length of the frame of this number, from 1
abbrev pub length_at : List (List ℕ) → ℕ → ℕ → Option ℕ
length_at lengths t zero = None
length_at lengths t (suc n) = slice_get (lengths_of lengths t) n

-- one more frame of the thread, of this length
abbrev pub one_longer : List (List ℕ) → ℕ → ℕ → List (List ℕ)
one_longer lengths t size = slice_set lengths t (lengths_of lengths t ++ size ∷ [])

abbrev pub entry_size : StampedEntry → ℕ
entry_size e = 39 + 8 * length (nonzero e.stamp)

abbrev pub output_size : Output → ℕ
output_size o = 47 + 8 * length (nonzero o.stamp) + length o.packet.bytes

-- where the frame of entry n, or of output n, of the thread stands
abbrev pub entry_address : Sending → ℕ → ℕ → Address
entry_address sent t n = address sent.epoch Log t n

abbrev pub output_address : Sending → ℕ → ℕ → Address
output_address sent t n = address sent.epoch Out t n

-- the frame of this entry, or of this output, is on the links
pub record HasEntryFrame (sent : Sending) (e : StampedEntry) : Type 0 where
  pub can : CanPutEntry sent.epoch sent.threads e
  pub bytes : List ℕ
  pub is : IsFrame bytes (frame_of.Entry sent.epoch sent.threads e)
  pub there : frame_at sent.frames (entry_address sent e.thread e.number) ≡ Some bytes

pub record HasOutputFrame (sent : Sending) (o : Output) : Type 0 where
  pub can : CanPutOutput sent.epoch sent.threads o
  pub bytes : List ℕ
  pub is : IsFrame bytes (frame_of.Output sent.epoch sent.threads o)
  pub there : frame_at sent.frames (output_address sent o.thread o.number) ≡ Some bytes

-- One more entry, or output, was sent.
pub record SendsEntry (old new : Sending) (e : StampedEntry) : Type 0 where
  pub frame : HasEntryFrame new e
  pub sends : Sends old.frames new.frames (entry_address old e.thread e.number) frame.bytes
  pub entries : new.entries ≡ one_longer old.entries e.thread (entry_size e)
  pub outputs : new.outputs ≡ old.outputs
  pub epoch : new.epoch ≡ old.epoch
  pub threads : new.threads ≡ old.threads

-- One more entry counts as sent: it has a frame, which is not there.
pub record CountsEntry (old new : Sending) (e : StampedEntry) : Type 0 where
  pub can : CanPutEntry old.epoch old.threads e
  pub bytes : List ℕ
  pub is : IsFrame bytes (frame_of.Entry old.epoch old.threads e)
  pub frames : new.frames ≡ old.frames
  pub entries : new.entries ≡ one_longer old.entries e.thread (entry_size e)
  pub outputs : new.outputs ≡ old.outputs
  pub epoch : new.epoch ≡ old.epoch
  pub threads : new.threads ≡ old.threads

pub record SendsOutput (old new : Sending) (o : Output) : Type 0 where
  pub frame : HasOutputFrame new o
  pub sends : Sends old.frames new.frames (output_address old o.thread o.number) frame.bytes
  pub outputs : new.outputs ≡ one_longer old.outputs o.thread (output_size o)
  pub entries : new.entries ≡ old.entries
  pub epoch : new.epoch ≡ old.epoch
  pub threads : new.threads ≡ old.threads

-- The frames of a thread's first entries are forgotten; their lengths are not.
pub record ForgetsEntries (old new : Sending) (t up_to : ℕ) : Type 0 where
  pub forgets : Forgets (IsUpTo (entry_address old t up_to)) old.frames new.frames
  pub entries : new.entries ≡ old.entries
  pub outputs : new.outputs ≡ old.outputs
  pub epoch : new.epoch ≡ old.epoch
  pub threads : new.threads ≡ old.threads

-- Frames of entries up to these counts may be forgotten, and no others.
pub record ForgetsCovered (old new : Sending) (counts : List ℕ) : Type 0 where
  pub each : (a : Address)
      → (frame_at new.frames a ≡ frame_at old.frames a)
      ⊎ ((frame_at new.frames a ≡ None) × (a.epoch ≡ old.epoch) × (a.kind ≡ Log)
      × (a.number ≤ slice_index counts a.thread))
  pub entries : new.entries ≡ old.entries
  pub outputs : new.outputs ≡ old.outputs
  pub epoch : new.epoch ≡ old.epoch
  pub threads : new.threads ≡ old.threads

-- So are those of its first outputs.
pub record ForgetsOutputs (old new : Sending) (t up_to : ℕ) : Type 0 where
  pub forgets : Forgets (IsUpTo (output_address old t up_to)) old.frames new.frames
  pub entries : new.entries ≡ old.entries
  pub outputs : new.outputs ≡ old.outputs
  pub epoch : new.epoch ≡ old.epoch
  pub threads : new.threads ≡ old.threads

-- The frame of this output may be off the links, and no other.
pub record TakesOutput (old new : Sending) (t n : ℕ) : Type 0 where
  pub frames : (a : Address) → a ≢ output_address old t n → frame_at new.frames a ≡ frame_at old.frames a
  pub entries : new.entries ≡ old.entries
  pub outputs : new.outputs ≡ old.outputs
  pub epoch : new.epoch ≡ old.epoch
  pub threads : new.threads ≡ old.threads

-- The next epoch begins. The outputs on the links stay there, as frames of this epoch, and nothing else does.
pub record BeginsEpoch (old new : Sending) : Type 0 where
  pub stay : (o : Output) → HasOutputFrame old o → HasOutputFrame new o
  pub only : (a : Address) → (frame_at new.frames a ≡ None)
      ⊎ (IsOutputOf new.epoch a × (frame_at old.frames (output_address old a.thread a.number) ≢ None))
  pub entries : new.entries ≡ old.entries
  pub outputs : new.outputs ≡ old.outputs
  pub epoch : new.epoch ≡ old.epoch + 1
  pub threads : new.threads ≡ old.threads

-- Of this thread only the first ones count as sent: this number of entries, and this number of outputs. The frames of
-- its outputs past them are forgotten.
pub record TurnsBack (old new : Sending) (t logged emitted : ℕ) : Type 0 where
  pub forgets : Forgets (IsPast (output_address old t emitted)) old.frames new.frames
  pub entries : new.entries ≡ slice_set old.entries t (take logged (lengths_of old.entries t))
  pub outputs : new.outputs ≡ slice_set old.outputs t (take emitted (lengths_of old.outputs t))
  pub epoch : new.epoch ≡ old.epoch
  pub threads : new.threads ≡ old.threads

-- a list of lengths for each thread, of 1 to 16
pub record IsSending (sent : Sending) : Type 0 where
  pub epoch_from : 1 ≤ sent.epoch
  pub some_threads : 1 ≤ sent.threads
  pub few_threads : sent.threads ≤ 16
  pub entries : length sent.entries ≡ sent.threads
  pub outputs : length sent.outputs ≡ sent.threads

-- nothing was sent, in epoch 1
pub record IsUnsent (threads : ℕ) (sent : Sending) : Type 0 where
  pub epoch : sent.epoch ≡ 1
  pub threads_are : sent.threads ≡ threads
  pub frames : (a : Address) → frame_at sent.frames a ≡ None
  pub entries : sent.entries ≡ replicate threads []
  pub outputs : sent.outputs ≡ replicate threads []
