-- What the tests of a frame say, as facts on its numbers.
use Rattle.std.proofs.Common.{◌≡◌, ℕ, ◌^◌, ◌<◌, ◌≤◌, ◌==◌, ◌&&◌, ◌∙◌, Bool, true, false, not, if◌then◌else◌, List, ◌++◌}
use Rattle.std.proofs.Common.{length, None, refl, sym, subst, arith, inl, inr}
use Rattle.std.proofs.lemmas.Bool.{ltb-false, leb-false, eqb-true, eqb-false, le-ltb, lt-leb, eq-eqb, ne_eqb, or_parts}
use Rattle.std.proofs.lemmas.Bool.{or_from, and_cases, not-false, not_from_true, true≢false}
use Rattle.plain_text.specs.declared.kind.Kind.{Kind}
use Rattle.plain_text.specs.declared.kind.Kind.TheVariants.{Log, Out}
use Rattle.wire_frames.specs.declared.version.Version.{Version}
use Rattle.wire_frames.specs.declared.version.Version.TheVariants.{One, Two}
use Rattle.wire_frames.specs.Layout.{kind_code, version_code}
use Rattle.wire_frames.specs.Places.{number_at, kind_at, version_at, length_at, epoch_at, thread_at, count_at}
use Rattle.wire_frames.specs.Places.{threads_at, mask_at}
use Rattle.wire_frames.specs.Faults.{least, most, lacks_room, captures_too_much, needed, has_zero_component}
use Rattle.wire_frames.specs.Faults.{has_no_content, form_tests, part_tests, found_tests, field_tests, frame_tests}
use Rattle.wire_frames.specs.Faults.{first_failure}
use Rattle.wire_frames.proofs.FirstFailure.{Pass, pass, passed, first_failure-append, passed_first}

pub record Facts (kind : Kind) (version : Version) (bytes : List ℕ) : Type 0 where
  pub kind_is : number_at 1 0 bytes ≡ kind_code kind
  pub version_is : number_at 1 1 bytes ≡ version_code version
  pub least : least kind version ≤ length_at bytes
  pub most : length_at bytes ≤ most version
  pub whole : length_at bytes ≤ length bytes
  pub threads_from : 1 ≤ threads_at kind bytes
  pub threads_to : threads_at kind bytes ≤ 16
  pub mask : mask_at kind version bytes < 2 ^ threads_at kind bytes
  pub room : lacks_room kind version bytes ≡ false
  pub captured : captures_too_much kind version bytes ≡ false
  pub sized : length_at bytes ≡ needed kind version bytes
  pub epoch : 1 ≤ epoch_at bytes
  pub thread : thread_at bytes < threads_at kind bytes
  pub count : 1 ≤ count_at bytes
  pub zero : has_zero_component kind version bytes ≡ false
  pub content : has_no_content kind version bytes ≡ false

two_codes : (n : ℕ) → not (n == 1) && not (n == 2) ≡ false → (n == 1) ≡ false → n ≡ 2
two_codes n either other = elim (and_cases _ _ either) [
  | inl first ↦ let one : (n == 1) ≡ true = not-false _ first in absurd (true≢false (sym one ∙ other))
  | inr second ↦ eqb-true n 2 (not-false _ second)
]

kind_from : (n : ℕ) → not (n == 1) && not (n == 2) ≡ false → n ≡ kind_code (if n == 1 then Log else Out)
kind_from n either = go (n == 1) refl
  where
    go : (b : Bool) → (n == 1) ≡ b → n ≡ kind_code (if b then Log else Out)
    go true is = eqb-true n 1 is
    go false is = two_codes n either is

version_from : (n : ℕ) → not (n == 1) && not (n == 2) ≡ false → n ≡ version_code (if n == 1 then One else Two)
version_from n either = go (n == 1) refl
  where
    go : (b : Bool) → (n == 1) ≡ b → n ≡ version_code (if b then One else Two)
    go true is = eqb-true n 1 is
    go false is = two_codes n either is

positive : (n : ℕ) → (n == 0) ≡ false → 1 ≤ n
positive n other = let some = eqb-false n 0 other in omega arith

-- where every test passes
pub facts_from : (bytes : List ℕ) → first_failure (frame_tests bytes) ≡ None
    → Facts (kind_at bytes) (version_at bytes) bytes
facts_from bytes none =
    let kind = kind_at bytes in
    let version = version_at bytes in
    let found_none = passed_first (found_tests bytes) (field_tests kind version bytes) none in
    let form_none = passed_first (form_tests bytes) (part_tests kind version bytes) found_none in
    let form = pass (form_tests bytes) form_none in
    let part = pass (part_tests kind version bytes)
    (sym (first_failure-append (form_tests bytes) (part_tests kind version bytes) form_none) ∙ found_none) in
    let fields = pass (field_tests kind version bytes)
    (sym (first_failure-append (found_tests bytes) (field_tests kind version bytes) found_none) ∙ none) in
    let lengths = or_parts _ _ part.0 in
    let stamp = or_parts _ _ part.1.1.0 in
    let counted = or_parts _ _ stamp.0 in
    let last = or_parts _ _ fields.0 in
    let sent = or_parts _ _ last.0 in
    let known = or_parts _ _ sent.0 in
    let there = or_parts _ _ known.0 in
    record {
      kind_is = kind_from (number_at 1 0 bytes) form.1.0;
      version_is = version_from (number_at 1 1 bytes) form.1.1.0;
      least = ltb-false _ _ lengths.0;
      most = ltb-false _ _ lengths.1;
      whole = ltb-false _ _ part.1.0;
      threads_from = positive _ counted.0;
      threads_to = ltb-false _ _ counted.1;
      mask = leb-false _ _ stamp.1;
      room = part.1.1.1.0;
      captured = part.1.1.1.1.0;
      sized = eqb-true _ _ (not-false _ part.1.1.1.1.1.0);
      epoch = positive _ there.0;
      thread = leb-false _ _ there.1;
      count = positive _ known.1;
      zero = sent.1;
      content = last.1;
    }

kind_known : (n : ℕ) (kind : Kind) → n ≡ kind_code kind
    → (not (n == 1) && not (n == 2) ≡ false) × ((if n == 1 then Log else Out) ≡ kind)
kind_known n Log is = subst (λ (m : ℕ). (not (m == 1) && not (m == 2) ≡ false) × ((if m == 1 then Log else Out) ≡ Log))
    (sym is) (refl, refl)
kind_known n Out is = subst (λ (m : ℕ). (not (m == 1) && not (m == 2) ≡ false) × ((if m == 1 then Log else Out) ≡ Out))
    (sym is) (refl, refl)

version_known : (n : ℕ) (version : Version) → n ≡ version_code version
    → (not (n == 1) && not (n == 2) ≡ false) × ((if n == 1 then One else Two) ≡ version)
version_known n One is = subst
    (λ (m : ℕ). (not (m == 1) && not (m == 2) ≡ false) × ((if m == 1 then One else Two) ≡ One)) (sym is) (refl, refl)
version_known n Two is = subst
    (λ (m : ℕ). (not (m == 1) && not (m == 2) ≡ false) × ((if m == 1 then One else Two) ≡ Two)) (sym is) (refl, refl)

pub kind_of_facts : (kind : Kind) (version : Version) (bytes : List ℕ) → Facts kind version bytes → kind_at bytes ≡ kind
kind_of_facts kind version bytes facts = (kind_known _ kind facts.kind_is).1

pub version_of_facts : (kind : Kind) (version : Version) (bytes : List ℕ) → Facts kind version bytes
    → version_at bytes ≡ version
version_of_facts kind version bytes facts = (version_known _ version facts.version_is).1

least_of_all : (kind : Kind) (version : Version) → 39 ≤ least kind version
least_of_all Log One = omega arith
least_of_all Log Two = omega arith
least_of_all Out One = omega arith
least_of_all Out Two = omega arith

not_zero : (n : ℕ) → 1 ≤ n → (n == 0) ≡ false
not_zero n some = ne_eqb n 0 (λ is. omega arith)

-- where the facts hold every test passes
pub no_failure : (kind : Kind) (version : Version) (bytes : List ℕ) → Facts kind version bytes
    → first_failure (frame_tests bytes) ≡ None
no_failure kind version bytes facts =
    let floor = least_of_all kind version in
    let at_least : least kind version ≤ length_at bytes = facts.least in
    let all : length_at bytes ≤ length bytes = facts.whole in
    let kind_is = kind_known _ kind facts.kind_is in
    let version_is = version_known _ version facts.version_is in
    let form : Pass (form_tests bytes) = (le-ltb _ _ (omega arith), (kind_is.0, (version_is.0, tt))) in
    let part : Pass (part_tests kind version bytes) = (
      or_from _ _ (le-ltb _ _ facts.least) (le-ltb _ _ facts.most),
      (
        le-ltb _ _ facts.whole,
        (
          or_from _ _ (or_from _ _ (not_zero _ facts.threads_from) (le-ltb _ _ facts.threads_to))
              (lt-leb _ _ facts.mask),
          (facts.room, (facts.captured, (not_from_true _ (eq-eqb _ _ facts.sized), tt))),
        ),
      ),
    ) in
    let fields : Pass (field_tests kind version bytes) = (
      or_from _ _
          (or_from _ _
          (or_from _ _ (or_from _ _ (not_zero _ facts.epoch) (lt-leb _ _ facts.thread)) (not_zero _ facts.count))
          facts.zero) facts.content,
      tt,
    ) in
    let form_none = passed (form_tests bytes) form in
    rw (kind_is.1, version_is.1)
    (first_failure-append (form_tests bytes ++ part_tests kind version bytes) (field_tests kind version bytes)
    (first_failure-append (form_tests bytes) (part_tests kind version bytes) form_none
    ∙ passed (part_tests kind version bytes) part)
    ∙ passed (field_tests kind version bytes) fields)
