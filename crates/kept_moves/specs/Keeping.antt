-- What kept moves show, and which frames they are kept as.
use Rattle.std.specs.Prelude.{◌≡◌, ℕ, List, length}
use Rattle.plain_text.specs.declared.kind.Kind.TheVariants.{Log, Out}
use Rattle.entry_order.specs.declared.what.What.{What}
use Rattle.access_log.specs.declared.entry.StampedEntry.{StampedEntry}
use Rattle.access_log.specs.declared.entry.Output.{Output}
use Rattle.master_core.specs.declared.step.Stepped.{Stepped}
use Rattle.master_core.specs.declared.step.Stepped.TheVariants as stepped
use Rattle.wire_frames.specs.declared.frame.Frame.{Frame}
use Rattle.wire_frames.specs.declared.frame.Frame.TheVariants as frame_of
use Rattle.wire_frames.specs.Places.{subject_at, stamp_at, packet_at, version_at}
use Rattle.link_store.specs.Spelled.{IsEntryFrame, IsOutputFrame}
use Rattle.kept_moves.specs.declared.form.Form.{Form}
use Rattle.kept_moves.specs.declared.form.Form.TheVariants as form

-- the entry of this thread and number that did this, of which the rest stands in its frame
abbrev pub entry_in : ℕ → ℕ → What → List ℕ → StampedEntry
entry_in thread number what frame = record {
  thread = thread;
  number = number;
  what = what;
  stamp = stamp_at Log (version_at frame) frame;
}

-- the output of this thread and number, of which the rest stands in its frame
abbrev pub output_in : ℕ → ℕ → List ℕ → Output
output_in thread number frame = record {
  thread = thread;
  number = number;
  input = subject_at frame;
  stamp = stamp_at Out (version_at frame) frame;
  packet = packet_at (version_at frame) frame;
}

-- what the call of the move showed
abbrev pub shown : Form → Stepped
shown (form.Took k) = stepped.Took k
shown (form.Logged thread number what frame) = stepped.Did (entry_in thread number what frame)
shown (form.Sent thread number captured frame) = stepped.Emitted (output_in thread number frame)
shown (form.Ended k) = stepped.Ended k
shown (form.Whole r) = r.value

-- what the call of the move showed that this frame tells of
abbrev pub shown_by : Frame → Stepped
shown_by (frame_of.Entry epoch threads e) = stepped.Did e
shown_by (frame_of.Output epoch threads o) = stepped.Emitted o

-- the frame is that of a sender of this epoch and number of threads
abbrev pub IsFor : ℕ → ℕ → Form → Type 0
IsFor epoch threads (form.Took k) = Unit {0}
IsFor epoch threads (form.Logged thread number what frame) =
    IsEntryFrame epoch threads (entry_in thread number what frame) frame
IsFor epoch threads (form.Sent thread number captured frame) =
    IsOutputFrame epoch threads (output_in thread number frame) frame
    × (captured ≡ length (output_in thread number frame).packet.bytes)
IsFor epoch threads (form.Ended k) = Unit {0}
IsFor epoch threads (form.Whole r) = Unit {0}
