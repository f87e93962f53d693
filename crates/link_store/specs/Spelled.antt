-- Frames that were made before they are sent.
use Rattle.std.specs.Prelude.{◌≡◌, ℕ, ◌<◌, ◌^◌, List, length}
use Rattle.wire_frames.specs.FromAccessLog.{StampedEntry}
use Rattle.wire_frames.specs.FromAccessLog.{Output}
use Rattle.wire_frames.specs.declared.frame.Frame.TheVariants as frame_of
use Rattle.wire_frames.specs.Layout.{IsFrame}
use Rattle.wire_frames.specs.Writing.{CanPutEntry, CanPutOutput}
use Rattle.link_store.specs.Sending.{entry_size, output_size}

-- the bytes are the frame of the entry, or of the output, by a sender of this epoch and number of threads, in the form
-- that is written

pub record IsEntryFrame (epoch threads : ℕ) (e : StampedEntry) (bytes : List ℕ) : Type 0 where
  pub can : CanPutEntry epoch threads e
  pub is : IsFrame bytes (frame_of.Entry epoch threads e)
  pub size : length bytes ≡ entry_size e
  pub small : length bytes < 2 ^ 32

pub record IsOutputFrame (epoch threads : ℕ) (o : Output) (bytes : List ℕ) : Type 0 where
  pub can : CanPutOutput epoch threads o
  pub is : IsFrame bytes (frame_of.Output epoch threads o)
  pub size : length bytes ≡ output_size o
  pub small : length bytes < 2 ^ 32
