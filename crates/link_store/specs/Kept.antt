-- A frame that is kept as its bytes, or as the output that it tells.
use Rattle.std.specs.Prelude.{◌≡◌, ℕ, ◌<◌, List, length, slice_index_or}
use Rattle.plain_text.specs.declared.packet.Packet.{Packet}
use Rattle.wire_frames.specs.FromAccessLog.{Output}
use Rattle.wire_frames.specs.declared.frame.Frame.TheVariants as frame
use Rattle.wire_frames.specs.Layout.{written, IsFrame}
use Rattle.link_store.specs.declared.kept.Form.{Form}
use Rattle.link_store.specs.declared.kept.Form.TheVariants.{Spelled, Told}

-- the bytes of the frame, where it stands in this epoch
abbrev pub bytes_of : ℕ → Form → List ℕ
bytes_of epoch (Spelled bytes) = bytes
bytes_of epoch (Told threads output) = written (frame.Output epoch threads output)

-- the output of a sender with this number of threads has a frame: in the first epoch, and so in each
abbrev pub HasFrame : ℕ → Output → Type 0
HasFrame threads o = let f = frame.Output 1 threads o in IsFrame (written f) f

-- an output is kept in place of its frame only where it has one
abbrev pub IsWell : Form → Type 0
IsWell (Spelled bytes) = Unit {0}
IsWell (Told threads output) = HasFrame threads output

-- the frame is kept as an output
abbrev pub IsTold : Form → Type 0
IsTold (Spelled bytes) = ⊥
IsTold (Told threads output) = HasFrame threads output

-- the frame of an output with these parts, which is kept as the output
abbrev pub told_of : ℕ → ℕ → ℕ → ℕ → List ℕ → Packet → Form
told_of threads thread number input stamp packet =
    Told threads (record { thread = thread; number = number; input = input; stamp = stamp; packet = packet })

-- where the one is a frame of an output in this epoch, the other is this output
abbrev pub Tells : ℕ → Form → Form → Type 0
Tells epoch old new =
    (threads : ℕ) (o : Output) → IsFrame (bytes_of epoch old) (frame.Output epoch threads o) → new ≡ Told threads o

-- of these frames the first are kept as outputs, this number of them
abbrev pub AreTold : ℕ → List Form → Type 0
AreTold n frames = (i : ℕ) (d : Form) → i < n → i < length frames → IsTold (slice_index_or frames i d)

-- Each frame is kept as an output now, and as the one that it told in this epoch.
pub record TellsEach (epoch : ℕ) (old new : List Form) : Type 0 where
  pub as_many : length new ≡ length old
  pub told : AreTold (length new) new
  pub same : (i : ℕ) (d : Form) → i < length old → Tells epoch (slice_index_or old i d) (slice_index_or new i d)
