-- Frames, tests and values together.
use Rattle.std.proofs.Common.{◌≡◌, ℕ, ◌+◌, ◌<◌, ◌∙◌, List, ◌++◌, length, take, drop, Option, Some, None, option_map}
use Rattle.std.proofs.Common.{Result, Ok, Err, IfOk, IfErr, is_none, false, [], refl, sym, ap, subst, arith}
use Rattle.std.proofs.Common.{length-append}
use Rattle.std.proofs.lemmas.List.{append-nil, take-append-drop, length-take}
use Rattle.plain_text.specs.Octets.{AreBytes}
use Rattle.access_log.specs.FromEntryOrder.{What}
use Rattle.plain_text.specs.declared.kind.Kind.{Kind}
use Rattle.plain_text.specs.declared.kind.Kind.TheVariants.{Log, Out}
use Rattle.wire_frames.specs.declared.version.Version.{Version}
use Rattle.wire_frames.specs.declared.version.Version.TheVariants.{Two}
use Rattle.wire_frames.specs.declared.frame.Frame.{Frame}
use Rattle.wire_frames.specs.declared.frame.Frame.TheVariants as frame
use Rattle.wire_frames.specs.declared.frame.FrameFault.{FrameFault}
use Rattle.wire_frames.specs.declared.frame.FrameError.{FrameError}
use Rattle.wire_frames.specs.declared.frame.FrameError.TheVariants as error
use Rattle.wire_frames.specs.Layout.{kind_code, spelled, output_fields, bytes_of, written, written_length, IsOfRange}
use Rattle.wire_frames.specs.Layout.{IsFrame, BeginsWith}
use Rattle.wire_frames.specs.Places.{number_at, kind_at, version_at, length_at, what_at, entry_at, output_at}
use Rattle.wire_frames.specs.Faults.{found_tests, field_tests, first_failure, frame_fault, IsCauseIn, Gives}
use Rattle.wire_frames.specs.Parts.{IsTold, IsFieldCause, IsReadingCause}
use Rattle.wire_frames.proofs.FirstFailure.{first_failure-append, first_failure-earlier}
use Rattle.wire_frames.proofs.Facts.{Facts, facts_from, no_failure, kind_of_facts, version_of_facts}
use Rattle.wire_frames.proofs.Sound.{log_begins, out_begins}
use Rattle.wire_frames.proofs.Told.{log_what, log_value, log_length, log_facts, log_size, out_value, out_length}
use Rattle.wire_frames.proofs.Told.{out_facts, out_size}

-- what bytes that begin with a frame tell
pub record Tells (bytes : List ℕ) (f : Frame) (size : ℕ) : Type 0 where
  pub kind : Kind
  pub version : Version
  pub facts : Facts kind version bytes
  pub sized : length_at bytes ≡ size
  pub told : IsTold kind version bytes f

pub tells : (bytes : List ℕ) (f : Frame) (size : ℕ) → BeginsWith bytes f size → Tells bytes f size
tells bytes (frame.Entry epoch threads e) size begins =
    let is = begins.is in
    let n = length begins.first in
    let parts = begins.parts ∙ ap (λ (l : List ℕ). l ++ begins.rest) is.parts in
    let sized = ap length is.parts in
    let range = is.range in
    record {
      kind = Log;
      version = is.version;
      facts = log_facts is.version bytes begins.rest n epoch threads e range.0 range.1 parts sized;
      sized = log_length is.version bytes begins.rest n epoch threads e range.0 range.1 parts sized ∙ begins.sized;
      told =
          ap (option_map (entry_at is.version bytes))
          (log_what is.version bytes begins.rest n epoch threads e range.0 range.1 parts sized)
          ∙ ap Some (log_value is.version bytes begins.rest n epoch threads e range.0 range.1 parts sized);
    }
tells bytes (frame.Output epoch threads o) size begins =
    let is = begins.is in
    let n = length begins.first in
    let parts = begins.parts ∙ ap (λ (l : List ℕ). l ++ begins.rest) is.parts in
    let sized = ap length is.parts in
    let range = is.range in
    record {
      kind = Out;
      version = is.version;
      facts = out_facts is.version bytes begins.rest n epoch threads o range.0 range.1 range.2 range.3 parts sized;
      sized =
          out_length is.version bytes begins.rest n epoch threads o range.0 range.1 range.2 range.3 parts sized
          ∙ begins.sized;
      told = sym (out_value is.version bytes begins.rest n epoch threads o range.0 range.1 range.2 range.3 parts sized);
    }

told_at : (bytes : List ℕ) (f : Frame) (size : ℕ) → Tells bytes f size
    → IsTold (kind_at bytes) (version_at bytes) bytes f
told_at bytes f size t =
    let K : Kind → Type 0 = λ k. IsTold k (version_at bytes) bytes f in
    let V : Version → Type 0 = λ v. IsTold t.kind v bytes f in
    subst K (sym (kind_of_facts t.kind t.version bytes t.facts))
    (subst V (sym (version_of_facts t.kind t.version bytes t.facts)) t.told)

one_told : (kind : Kind) (version : Version) (bytes : List ℕ) (f g : Frame) → IsTold kind version bytes f
    → IsTold kind version bytes g → f ≡ g
one_told Log version bytes f g first second =
    let same : ◌≡◌ {A = Option Frame} (Some f) (Some g) = sym first ∙ second in cc
one_told Out version bytes f g first second = first ∙ sym second

pub same_frame : (bytes : List ℕ) (f g : Frame) (n m : ℕ) → BeginsWith bytes f n → BeginsWith bytes g m
    → (f ≡ g) × (n ≡ m)
same_frame bytes f g n m first second =
    let a = tells bytes f n first in
    let b = tells bytes g m second in (
      one_told (kind_at bytes) (version_at bytes) bytes f g (told_at bytes f n a) (told_at bytes g m b),
      sym a.sized ∙ b.sized,
    )

pub begins_whole : (bytes : List ℕ) (f : Frame) → IsFrame bytes f → BeginsWith bytes f (length bytes)
begins_whole bytes f is = record { first = bytes; rest = []; parts = sym (append-nil bytes); sized = refl; is = is }

pub no_shorter : (bytes : List ℕ) (f g : Frame) (n : ℕ) → IsFrame bytes f → n < length bytes
    → IsFrame (take n bytes) g → ⊥
no_shorter bytes f g n is less other =
    let begins : BeginsWith bytes g (length (take n bytes)) = record {
      first = take n bytes;
      rest = drop n bytes;
      parts = sym (take-append-drop n bytes);
      sized = refl;
      is = other;
    } in
    let same = same_frame bytes f g (length bytes) (length (take n bytes)) (begins_whole bytes f is) begins in
    let size_is = same.1 in
    omega (arith, length-take n bytes)

pub no_fault : (bytes : List ℕ) (f : Frame) (n : ℕ) → BeginsWith bytes f n → frame_fault bytes ≡ None
no_fault bytes f n begins = let t = tells bytes f n begins in no_failure t.kind t.version bytes t.facts

-- a value that the bytes tell, where every test passes, is that of a frame
told_begins : (kind : Kind) (version : Version) (bytes : List ℕ) (f : Frame) → AreBytes bytes → Facts kind version bytes
    → IsTold kind version bytes f → BeginsWith bytes f (length_at bytes)
told_begins Log version bytes f are facts told = go (what_at version bytes) refl told
  where
    go : (o : Option What) → what_at version bytes ≡ o → option_map (entry_at version bytes) o ≡ Some f
        → BeginsWith bytes f (length_at bytes)
    go None is told = cc
    go (Some w) is told =
        let same : entry_at version bytes w ≡ f = cc in
        let P : Frame → Type 0 = λ g. BeginsWith bytes g (length_at bytes) in
        subst P same (log_begins bytes are w version facts is)
told_begins Out version bytes f are facts told =
    let P : Frame → Type 0 = λ g. BeginsWith bytes g (length_at bytes) in
    subst P (sym told) (out_begins bytes are version facts)

-- where every test passes there is a value
some_told : (kind : Kind) (version : Version) (bytes : List ℕ) → Facts kind version bytes
    → (f : Frame) × IsTold kind version bytes f
some_told Log version bytes facts = go (what_at version bytes) refl facts.content
  where
    go : (o : Option What) → what_at version bytes ≡ o → is_none o ≡ false
        → (f : Frame) × (option_map (entry_at version bytes) (what_at version bytes) ≡ Some f)
    go None is some = cc
    go (Some w) is some = (entry_at version bytes w, ap (option_map (entry_at version bytes)) is)
some_told Out version bytes facts = (output_at version bytes, refl)

pub some_frame : (bytes : List ℕ) → AreBytes bytes → frame_fault bytes ≡ None
    → (f : Frame) × (n : ℕ) × BeginsWith bytes f n
some_frame bytes are none =
    let facts = facts_from bytes none in
    let some = some_told (kind_at bytes) (version_at bytes) bytes facts in
    (some.0, length_at bytes, told_begins (kind_at bytes) (version_at bytes) bytes some.0 are facts some.1)

-- of what a reader found
module _ (bytes : List ℕ) where
  abbrev pub Fields : Option FrameFault
  Fields = first_failure (field_tests (kind_at bytes) (version_at bytes) bytes)

  pub none_in_all : first_failure (found_tests bytes) ≡ None → Fields ≡ None → frame_fault bytes ≡ None
  none_in_all found fields =
      first_failure-append (found_tests bytes) (field_tests (kind_at bytes) (version_at bytes) bytes) found ∙ fields

  pub found_begins : (f : Frame) → AreBytes bytes → first_failure (found_tests bytes) ≡ None → Fields ≡ None
      → IsTold (kind_at bytes) (version_at bytes) bytes f → BeginsWith bytes f (length_at bytes)
  found_begins f are found fields told =
      told_begins (kind_at bytes) (version_at bytes) bytes f are (facts_from bytes (none_in_all found fields)) told

  pub earlier_cause : (fault : FrameFault) → first_failure (found_tests bytes) ≡ Some fault
      → frame_fault bytes ≡ Some fault
  earlier_cause fault fails =
      first_failure-earlier (found_tests bytes) (field_tests (kind_at bytes) (version_at bytes) bytes) fault fails

  out_cause : (e : FrameError) → kind_at bytes ≡ Out → first_failure (found_tests bytes) ≡ None
      → IsFieldCause (kind_at bytes) (version_at bytes) bytes e → IsCauseIn bytes e
  out_cause (error.Fault fault) kind found cause =
      first_failure-append (found_tests bytes) (field_tests (kind_at bytes) (version_at bytes) bytes) found ∙ cause
  out_cause error.NoMemory kind found cause =
      let all = none_in_all found cause in
      let facts = facts_from bytes all in
      let K : Kind → Type 0 = λ k. number_at 1 0 bytes ≡ kind_code k in
      (all, subst K kind facts.kind_is)

  later_cause_of : (kind : Kind) (e : FrameError) → kind_at bytes ≡ kind → first_failure (found_tests bytes) ≡ None
      → IsReadingCause kind (version_at bytes) bytes e → IsCauseIn bytes e
  later_cause_of Log (error.Fault fault) is found cause =
      let K : Kind → Type 0 = λ k. first_failure (field_tests k (version_at bytes) bytes) ≡ Some fault in
      first_failure-append (found_tests bytes) (field_tests (kind_at bytes) (version_at bytes) bytes) found
      ∙ subst K (sym is) cause
  later_cause_of Log error.NoMemory is found cause = absurd cause
  later_cause_of Out e is found cause =
      let K : Kind → Type 0 = λ k. IsFieldCause k (version_at bytes) bytes e in
      out_cause e is found (subst K (sym is) cause)

  pub later_cause : (e : FrameError) → first_failure (found_tests bytes) ≡ None
      → IsReadingCause (kind_at bytes) (version_at bytes) bytes e → IsCauseIn bytes e
  later_cause e found cause = later_cause_of (kind_at bytes) e refl found cause

-- an answer that is right gives the frame
pub gives : (bytes : List ℕ) (answer : Result (Frame × ℕ) FrameError)
    → IfOk answer (λ taken. BeginsWith bytes taken.0 taken.1) → IfErr answer (IsCauseIn bytes) → (f : Frame) (size : ℕ)
    → BeginsWith bytes f size → Gives answer f size
gives bytes (Ok taken) frame fault f size begins = same_frame bytes taken.0 f taken.1 size frame begins
gives bytes (Err (error.Fault said)) frame fault f size begins =
    let none = no_fault bytes f size begins in
    let same : ◌≡◌ {A = Option FrameFault} None (Some said) = sym none ∙ fault in
    cc
gives bytes (Err error.NoMemory) frame fault f size begins = tt

-- what is written
pub written_size : (f : Frame) → length (written f) ≡ written_length f
written_size (frame.Entry epoch threads e) = log_size Two (written_length (frame.Entry epoch threads e)) epoch threads e
written_size (frame.Output epoch threads o) =
    let n = written_length (frame.Output epoch threads o) in
    length-append (spelled (output_fields Two n epoch threads o)) o.packet.bytes
    ∙ ap (λ (k : ℕ). k + length o.packet.bytes) (out_size Two n epoch threads o ∙ omega arith)

pub is_written : (f : Frame) → IsOfRange Two f → IsFrame (written f) f
is_written f range = record {
  version = Two;
  parts = ap (λ (n : ℕ). bytes_of Two n f) (sym (written_size f));
  range = range;
}

pub begins_written : (f : Frame) (rest : List ℕ) → IsOfRange Two f
    → BeginsWith (written f ++ rest) f (length (written f))
begins_written f rest range =
    record { first = written f; rest = rest; parts = refl; sized = refl; is = is_written f range }
