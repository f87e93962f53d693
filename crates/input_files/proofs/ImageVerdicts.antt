-- What the reader of images answers, of the front of a file, is so of the file; and a file decides the answer to it.
use Rattle.std.proofs.Common.{◌≡◌, ℕ, ◌<◌, ◌≤◌, ◌⊎◌, inl, inr, List, length, refl, sym, ap, ◌∙◌, subst, arith, Result}
use Rattle.std.proofs.Common.{Ok, Err}
use Rattle.plain_text.specs.declared.fault.LineCause.{LineCause}
use Rattle.plain_text.specs.declared.fault.LineCause.TheVariants.{MissingLine}
use Rattle.plain_text.specs.declared.fault.LineFault.{LineFault}
use Rattle.plain_text.specs.declared.limit.Limit.{Limit}
use Rattle.plain_text.specs.declared.limit.Limit.TheVariants as limit
use Rattle.plain_text.specs.declared.limit.TheConstants.{MOST_EVENTS}
use Rattle.world_io.specs.declared.beginning.Front.TheVariants.{All, More}
use Rattle.world_io.specs.World.{Shown}
use Rattle.handover.specs.declared.image.Image.{Image}
use Rattle.handover.specs.Images.{image_form, lines_of, IsImage, FirstFault, HasTooMany}
use Rattle.handover_seal.specs.Seals.{unsealed}
use Rattle.handover.proofs.OneLine.{lines_are_decisive}
use Rattle.handover.proofs.StagedTexts as staged
use Rattle.handover.proofs.WholeImages as images
use Rattle.input_files.specs.declared.errors.InputError.{InputError}
use Rattle.input_files.specs.declared.errors.InputError.TheVariants as error
use Rattle.input_files.specs.declared.image_file.ImageFile.{ImageFile}
use Rattle.input_files.specs.Answers.{ImageMayGoOn, ImagePasses, SaysImage}
use Rattle.input_files.specs.Judging.{IsToldOf, Judges}
use Rattle.input_files.specs.Texts.{IsFrontOf, judged_text, whole_lines}
use Rattle.input_files.proofs.JudgedTexts.{within}
use Rattle.input_files.proofs.Verdicts.{all_judged, cut_judged}
use Rattle.input_files.proofs.OneAnswer.{OfBytes, same_fault, no_room}

-- Of the front of a file

few_lines : (text : List ℕ) (image : Image) → IsImage text image → length (lines_of image) ≤ 4000000 → HasTooMany text
    → ⊥
few_lines text image is few many =
    over ((staged.too_many image_form lines_are_decisive MOST_EVENTS text (lines_of image) is).0 many) few
  where
    over : {n : ℕ} → 4000000 < n → n ≤ 4000000 → ⊥
    over high low = omega (arith, high, low)

-- a text has not both an image and a fault
both : (text : List ℕ) (image : Image) (number : ℕ) (cause : LineCause) → IsImage text image
    → FirstFault text number cause → ⊥
both text image = staged.not_both image_form lines_are_decisive text (lines_of image)

pub image_accepted : (front bytes : List ℕ) (image : Image) → IsImage (unsealed front) image
    → length (lines_of image) ≤ 4000000 → IsFrontOf (All front) bytes
    → SaysImage bytes (Ok (record { text = front; image = image }))
image_accepted front bytes image is few all =
    let Is : List ℕ → Type 0 = λ text. IsImage (unsealed text) image in
    let here = subst Is (sym all.0) is in
    (all.1, sym all.0, here, few_lines (unsealed bytes) image here few)

pub image_faulty : (front bytes : List ℕ) (fault : LineFault) → FirstFault (unsealed front) fault.line fault.cause
    → (HasTooMany (unsealed front) → ⊥) → IsFrontOf (All front) bytes → SaysImage bytes (Err (error.Fault fault))
image_faulty front bytes fault is few all = (
  all_judged (λ text. FirstFault (unsealed text) fault.line fault.cause) front bytes is all,
  all_judged (λ text. HasTooMany (unsealed text) → ⊥) front bytes few all,
  λ large. absurd (omega (arith, large, all.1)),
)

pub image_long : (front bytes : List ℕ) → HasTooMany (unsealed front) → IsFrontOf (All front) bytes
    → SaysImage bytes (Err (error.TooLarge limit.Events))
image_long front bytes many all = all_judged (λ text. HasTooMany (unsealed text)) front bytes many all

pub cut_image_whole : (front bytes : List ℕ) (image : Image) → IsImage (unsealed (whole_lines front)) image
    → length (lines_of image) ≤ 4000000 → IsFrontOf (More front) bytes
    → SaysImage bytes (Err (error.TooLarge limit.File))
cut_image_whole front bytes image is few cut =
    let judged = cut_judged (λ text. IsImage (unsealed text) image) front bytes is cut in (
      cut.1,
      (
        (λ number cause first. absurd (both (unsealed (judged_text bytes)) image number cause judged first)),
        few_lines (unsealed (judged_text bytes)) image judged few,
      ),
    )

pub cut_image_missing : (front bytes : List ℕ) (line : ℕ) → FirstFault (unsealed (whole_lines front)) line MissingLine
    → (HasTooMany (unsealed (whole_lines front)) → ⊥) → IsFrontOf (More front) bytes
    → SaysImage bytes (Err (error.TooLarge limit.File))
cut_image_missing front bytes line is few cut =
    let judged = cut_judged (λ text. FirstFault (unsealed text) line MissingLine) front bytes is cut in (
      cut.1,
      (
        (λ number cause first.
            (staged.one_fault image_form lines_are_decisive (unsealed (judged_text bytes)) number line cause MissingLine
            first judged).1),
        cut_judged (λ text. HasTooMany (unsealed text) → ⊥) front bytes few cut,
      ),
    )

pub cut_image_faulty : (front bytes : List ℕ) (fault : LineFault)
    → FirstFault (unsealed (whole_lines front)) fault.line fault.cause → (HasTooMany (unsealed (whole_lines front)) → ⊥)
    → ¬ (fault.cause ≡ MissingLine) → IsFrontOf (More front) bytes → SaysImage bytes (Err (error.Fault fault))
cut_image_faulty front bytes fault is few other cut = (
  cut_judged (λ text. FirstFault (unsealed text) fault.line fault.cause) front bytes is cut,
  cut_judged (λ text. HasTooMany (unsealed text) → ⊥) front bytes few cut,
  λ large. other,
)

pub cut_image_long : (front bytes : List ℕ) → HasTooMany (unsealed (whole_lines front)) → IsFrontOf (More front) bytes
    → SaysImage bytes (Err (error.TooLarge limit.Events))
cut_image_long front bytes many cut = cut_judged (λ text. HasTooMany (unsealed text)) front bytes many cut

-- One answer

-- the two ways to pass a limit
abbrev Passes : List ℕ → Limit → Type 0
Passes bytes passed =
    ((passed ≡ limit.Events) × HasTooMany (unsealed (judged_text bytes)))
    ⊎ ((passed ≡ limit.File) × (67108864 < length bytes) × ImageMayGoOn (unsealed (judged_text bytes)))

image_limit : (bytes : List ℕ) (passed : Limit) → ImagePasses bytes passed → Passes bytes passed
image_limit bytes limit.File h = inr (refl, h.0, h.1)
image_limit bytes limit.Packets h = absurd h
image_limit bytes limit.Events h = inl (refl, h)
image_limit bytes limit.Moves h = absurd h
image_limit bytes limit.OutputBytes h = absurd h

file_eq : (a b : ImageFile) → a.text ≡ b.text → a.image ≡ b.image → a ≡ b
file_eq a b text image =
    ap (λ (t : List ℕ). let f : ImageFile = record { text = t; image = a.image } in f) text
    ∙ ap (λ (i : Image). let f : ImageFile = record { text = b.text; image = i } in f) image

image_both : (bytes : List ℕ) (file : ImageFile) (fault : LineFault) → SaysImage bytes (Ok file)
    → SaysImage bytes (Err (error.Fault fault)) → ⊥
image_both bytes file fault a b =
    let First : List ℕ → Type 0 = λ text. FirstFault (unsealed text) fault.line fault.cause in
    both (unsealed bytes) file.image fault.line fault.cause a.2 (subst First (within bytes a.0) b.0)

image_fits : (bytes : List ℕ) (file : ImageFile) (passed : Limit) → SaysImage bytes (Ok file)
    → ImagePasses bytes passed → ⊥
image_fits bytes file passed a b = by_limit (image_limit bytes passed b)
  where
    by_limit : Passes bytes passed → ⊥
    by_limit (inl h) = a.3 (subst (λ (text : List ℕ). HasTooMany (unsealed text)) (within bytes a.0) h.1)
    by_limit (inr h) = no_room (length bytes) a.0 h.1

image_fault_fits : (bytes : List ℕ) (fault : LineFault) (passed : Limit) → SaysImage bytes (Err (error.Fault fault))
    → ImagePasses bytes passed → ⊥
image_fault_fits bytes fault passed a b = by_limit (image_limit bytes passed b)
  where
    by_limit : Passes bytes passed → ⊥
    by_limit (inl h) = a.1 h.1
    by_limit (inr h) = a.2 h.1 (h.2.0 fault.line fault.cause a.0)

one_limit : (bytes : List ℕ) (l m : Limit) → ImagePasses bytes l → ImagePasses bytes m → l ≡ m
one_limit bytes l m x y = by_limits (image_limit bytes l x) (image_limit bytes m y)
  where
    by_limits : Passes bytes l → Passes bytes m → l ≡ m
    by_limits (inl a) (inl b) = a.0 ∙ sym b.0
    by_limits (inl a) (inr b) = absurd (b.2.1 a.1)
    by_limits (inr a) (inl b) = absurd (a.2.1 b.1)
    by_limits (inr a) (inr b) = a.0 ∙ sym b.0

pub one_image : (bytes : List ℕ) (a b : Result ImageFile (InputError LineFault)) → OfBytes a → OfBytes b
    → SaysImage bytes a → SaysImage bytes b → a ≡ b
one_image bytes (Ok a) (Ok b) d e x y =
    ap (λ (f : ImageFile). Ok f)
    (file_eq a b (x.1 ∙ sym y.1) (images.one_image (unsealed bytes) a.image b.image x.2 y.2))
one_image bytes (Ok a) (Err (error.Fault f)) d e x y = absurd (image_both bytes a f x y)
one_image bytes (Ok a) (Err (error.TooLarge l)) d e x y = absurd (image_fits bytes a l x y)
one_image bytes (Ok a) (Err error.ReadFault) d e x y = absurd e
one_image bytes (Ok a) (Err error.NoMemory) d e x y = absurd e
one_image bytes (Err (error.Fault f)) (Ok b) d e x y = absurd (image_both bytes b f y x)
one_image bytes (Err (error.Fault f)) (Err (error.Fault g)) d e x y =
    ap (λ (h : LineFault). Err (error.Fault h)) (same_fault f g (staged.one_fault image_form lines_are_decisive
    (unsealed (judged_text bytes)) f.line g.line f.cause g.cause x.0 y.0))
one_image bytes (Err (error.Fault f)) (Err (error.TooLarge l)) d e x y = absurd (image_fault_fits bytes f l x y)
one_image bytes (Err (error.Fault f)) (Err error.ReadFault) d e x y = absurd e
one_image bytes (Err (error.Fault f)) (Err error.NoMemory) d e x y = absurd e
one_image bytes (Err (error.TooLarge l)) (Ok b) d e x y = absurd (image_fits bytes b l y x)
one_image bytes (Err (error.TooLarge l)) (Err (error.Fault f)) d e x y = absurd (image_fault_fits bytes f l y x)
one_image bytes (Err (error.TooLarge l)) (Err (error.TooLarge m)) d e x y =
    ap (λ (n : Limit). Err (error.TooLarge n)) (one_limit bytes l m x y)
one_image bytes (Err (error.TooLarge l)) (Err error.ReadFault) d e x y = absurd e
one_image bytes (Err (error.TooLarge l)) (Err error.NoMemory) d e x y = absurd e
one_image bytes (Err error.ReadFault) b d e x y = absurd d
one_image bytes (Err error.NoMemory) b d e x y = absurd d

-- what is said of the bytes of a file is said of the file of its name
pub error_judged : (healthy : Type 0) (name : List ℕ) (shown : Shown) (e : InputError LineFault)
    → IsToldOf name (λ bytes. SaysImage bytes (Err e)) shown → Judges SaysImage healthy name (Err e) shown
error_judged healthy name shown (error.Fault fault) told = told
error_judged healthy name shown (error.TooLarge passed) told = told
error_judged healthy name shown error.ReadFault told = absurd told.2
error_judged healthy name shown error.NoMemory told = tt
