-- The parts of a frame, as its reader finds them and its writer puts them.
use Rattle.std.specs.Prelude.{◌≡◌, ℕ, ◌^◌, ◌<◌, ◌≤◌, List, [], ◌∷◌, ◌++◌, All, Some, None, option_map}
use Rattle.access_log.specs.FromEntryOrder.{What}
use Rattle.access_log.specs.FromEntryOrder.{Access, Read, Clock, Draw}
use Rattle.access_log.specs.declared.entry.StampedEntry.{StampedEntry}
use Rattle.access_log.specs.declared.entry.Output.{Output}
use Rattle.plain_text.specs.declared.kind.Kind.{Kind}
use Rattle.plain_text.specs.declared.kind.Kind.TheVariants.{Log, Out}
use Rattle.wire_frames.specs.declared.version.Version.{Version}
use Rattle.wire_frames.specs.declared.version.Version.TheVariants.{Two}
use Rattle.wire_frames.specs.declared.layout.Layout.{Layout}
use Rattle.wire_frames.specs.declared.values.Common.{Common}
use Rattle.wire_frames.specs.declared.frame.Frame.{Frame}
use Rattle.wire_frames.specs.declared.frame.FrameError.{FrameError}
use Rattle.wire_frames.specs.declared.frame.FrameError.TheVariants as error
use Rattle.wire_frames.specs.Layout.{Field, field, head, code_of, subject_of, place_field, mask_of}
use Rattle.wire_frames.specs.Places.{kind_at, version_at, length_at, threads_at, mask_at, stamp_end, epoch_at}
use Rattle.wire_frames.specs.Places.{thread_at, count_at, stamp_at, what_at, entry_at, output_at}
use Rattle.wire_frames.specs.Faults.{first_failure, field_tests}

abbrev pub layout_of : List ℕ → Layout
layout_of bytes = record {
  kind = kind_at bytes;
  version = version_at bytes;
  length = length_at bytes;
  threads = threads_at (kind_at bytes) bytes;
  mask = mask_at (kind_at bytes) (version_at bytes) bytes;
  end = stamp_end (kind_at bytes) (version_at bytes) bytes;
}

abbrev pub common_at : Kind → Version → List ℕ → Common
common_at kind version bytes = record {
  epoch = epoch_at bytes;
  thread = thread_at bytes;
  number = count_at bytes;
  stamp = stamp_at kind version bytes;
}

-- why the fields of a frame were not read, whose lengths agree
abbrev pub IsFieldCause : Kind → Version → List ℕ → FrameError → Type 0
IsFieldCause kind version bytes (error.Fault fault) = first_failure (field_tests kind version bytes) ≡ Some fault
IsFieldCause kind version bytes error.NoMemory = first_failure (field_tests kind version bytes) ≡ None

-- the bytes tell this frame, where their fields are in range
abbrev pub IsTold : Kind → Version → List ℕ → Frame → Type 0
IsTold Log version bytes f = option_map (entry_at version bytes) (what_at version bytes) ≡ Some f
IsTold Out version bytes f = f ≡ output_at version bytes

-- memory is wanted only for an output
abbrev pub IsReadingCause : Kind → Version → List ℕ → FrameError → Type 0
IsReadingCause Log version bytes (error.Fault fault) = first_failure (field_tests Log version bytes) ≡ Some fault
IsReadingCause Log version bytes error.NoMemory = ⊥
IsReadingCause Out version bytes e = IsFieldCause Out version bytes e

-- the fields in front of the components
abbrev pub entry_front : ℕ → ℕ → ℕ → StampedEntry → List Field
entry_front size epoch threads e =
    head Log Two size epoch e.thread (code_of e.what) e.number (subject_of e.what)
    ++ field 8 (place_field e.what)
    ∷ field 1 threads
    ∷ field 2 (mask_of e.stamp)
    ∷ []

abbrev pub output_front : ℕ → ℕ → ℕ → Output → List Field
output_front size epoch threads o =
    head Out Two size epoch o.thread 0 o.number o.input
    ++ field 1 threads
    ∷ field 2 (mask_of o.stamp)
    ∷ []

-- no field is wider than a number of 64 bits
abbrev pub AreNarrow : List Field → Type 0
AreNarrow fields = All (λ (f : Field). f.width ≤ 8) fields

-- its numbers are of 64 bits
abbrev pub FitsWord : What → Type 0
FitsWord (Access var place) = place < 2 ^ 64
FitsWord (Read var after) = after < 2 ^ 64
FitsWord (Clock value) = value < 2 ^ 64
FitsWord (Draw value) = value < 2 ^ 64
