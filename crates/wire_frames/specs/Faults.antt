-- Where no frame stands at the front of bytes: the first test that fails, and its answer.
use Rattle.std.specs.Prelude.{◌≡◌, ℕ, ◌+◌, ◌^◌, ◌==◌, ◌&&◌, ◌||◌, Bool, false, not, nat_lt, nat_le, if◌then◌else◌, List}
use Rattle.std.specs.Prelude.{[], ◌∷◌, ◌++◌, length, Option, Some, None, is_none, Result, Ok, Err}
use Rattle.plain_text.specs.declared.limit.TheConstants.{MOST_CAPTURED}
use Rattle.plain_text.specs.declared.kind.Kind.{Kind}
use Rattle.plain_text.specs.declared.kind.Kind.TheVariants.{Log, Out}
use Rattle.wire_frames.specs.declared.version.Version.{Version}
use Rattle.wire_frames.specs.declared.version.Version.TheVariants.{One, Two}
use Rattle.wire_frames.specs.declared.frame.Frame.{Frame}
use Rattle.wire_frames.specs.declared.frame.FrameFault.{FrameFault}
use Rattle.wire_frames.specs.declared.frame.FrameFault.TheVariants.{Short, BadKind, BadVersion, BadLength, OutOfRange}
use Rattle.wire_frames.specs.declared.frame.FrameError.{FrameError}
use Rattle.wire_frames.specs.declared.frame.FrameError.TheVariants as error
use Rattle.wire_frames.specs.Layout.{mask_of}
use Rattle.wire_frames.specs.Places.{number_at, kind_at, version_at, length_at, epoch_at, thread_at, code_at, count_at}
use Rattle.wire_frames.specs.Places.{subject_at, threads_at, mask_at, stamp_at, stamp_end, what_at, captured_at}

-- the least and the most bytes of a frame
abbrev pub least : Kind → Version → ℕ
least Log One = 45
least Out One = 53
least Log Two = 39
least Out Two = 47

abbrev pub most : Version → ℕ
most One = 262317
most Two = 262319

-- of an output, with the bytes that describe its packet and without those that were captured
abbrev pub lacks_room : Kind → Version → List ℕ → Bool
lacks_room Log version bytes = false
lacks_room Out version bytes = nat_lt (length_at bytes) (stamp_end Out version bytes + 16)

abbrev pub captures_too_much : Kind → Version → List ℕ → Bool
captures_too_much Log version bytes = false
captures_too_much Out version bytes = nat_lt MOST_CAPTURED (captured_at version bytes)

-- the bytes that the fields need
abbrev pub needed : Kind → Version → List ℕ → ℕ
needed Log version bytes = stamp_end Log version bytes
needed Out version bytes = stamp_end Out version bytes + 16 + captured_at version bytes

-- a component of version 2 is 0, so that the mask is not that of the stamp
abbrev pub has_zero_component : Kind → Version → List ℕ → Bool
has_zero_component kind One bytes = false
has_zero_component kind Two bytes = not (mask_of (stamp_at kind Two bytes) == mask_at kind Two bytes)

abbrev pub is_not_sent : Kind → Version → List ℕ → Bool
is_not_sent kind version bytes =
    epoch_at bytes == 0
    || nat_le (threads_at kind bytes) (thread_at bytes)
    || count_at bytes == 0
    || has_zero_component kind version bytes

abbrev pub has_no_content : Kind → Version → List ℕ → Bool
has_no_content Log version bytes = is_none (what_at version bytes)
has_no_content Out version bytes = not (code_at bytes == 0) || subject_at bytes == 0

-- The tests in order, each with where it fails, and the answer that it gives

abbrev pub form_tests : List ℕ → List (Bool × FrameFault)
form_tests bytes =
    (nat_lt (length bytes) 6, Short)
    ∷ (not (number_at 1 0 bytes == 1) && not (number_at 1 0 bytes == 2), BadKind)
    ∷ (not (number_at 1 1 bytes == 1) && not (number_at 1 1 bytes == 2), BadVersion)
    ∷ []

abbrev pub length_tests : Kind → Version → List ℕ → List (Bool × FrameFault)
length_tests kind version bytes =
    (nat_lt (length_at bytes) (least kind version) || nat_lt (most version) (length_at bytes), BadLength)
    ∷ (nat_lt (length bytes) (length_at bytes), Short)
    ∷ []

abbrev pub stamp_tests : Kind → Version → List ℕ → List (Bool × FrameFault)
stamp_tests kind version bytes = (
  threads_at kind bytes == 0
      || nat_lt 16 (threads_at kind bytes)
      || nat_le (2 ^ threads_at kind bytes) (mask_at kind version bytes),
  OutOfRange,
)
    ∷ []

abbrev pub size_tests : Kind → Version → List ℕ → List (Bool × FrameFault)
size_tests kind version bytes =
    (lacks_room kind version bytes, BadLength)
    ∷ (captures_too_much kind version bytes, OutOfRange)
    ∷ (not (length_at bytes == needed kind version bytes), BadLength)
    ∷ []

abbrev pub field_tests : Kind → Version → List ℕ → List (Bool × FrameFault)
field_tests kind version bytes =
    (is_not_sent kind version bytes || has_no_content kind version bytes, OutOfRange)
    ∷ []

-- the tests up to the lengths, by which the parts of a frame are found, and all
abbrev pub part_tests : Kind → Version → List ℕ → List (Bool × FrameFault)
part_tests kind version bytes =
    length_tests kind version bytes ++ (stamp_tests kind version bytes ++ size_tests kind version bytes)

abbrev pub found_tests : List ℕ → List (Bool × FrameFault)
found_tests bytes = form_tests bytes ++ part_tests (kind_at bytes) (version_at bytes) bytes

abbrev pub frame_tests : List ℕ → List (Bool × FrameFault)
frame_tests bytes = found_tests bytes ++ field_tests (kind_at bytes) (version_at bytes) bytes

abbrev pub first_failure : List (Bool × FrameFault) → Option FrameFault
first_failure [] = None
first_failure (test ∷ later) = if test.0 then Some test.1 else first_failure later

abbrev pub frame_fault : List ℕ → Option FrameFault
frame_fault bytes = first_failure (frame_tests bytes)

-- why no frame was read; memory is wanted only for an output
abbrev pub IsCauseIn : List ℕ → FrameError → Type 0
IsCauseIn bytes (error.Fault fault) = frame_fault bytes ≡ Some fault
IsCauseIn bytes error.NoMemory = (frame_fault bytes ≡ None) × (number_at 1 0 bytes ≡ 2)

-- the answer gives this frame and its length, or there is no memory
abbrev pub Gives : Result (Frame × ℕ) FrameError → Frame → ℕ → Type 0
Gives (Ok taken) f size = (taken.0 ≡ f) × (taken.1 ≡ size)
Gives (Err (error.Fault fault)) f size = ⊥
Gives (Err error.NoMemory) f size = Unit {0}
