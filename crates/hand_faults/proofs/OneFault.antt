-- A text of a handover has one fault at most.
use Rattle.std.proofs.Common.{◌≡◌, ◌≢◌, ℕ, ◌+◌, List, length, sym, ap, ◌∙◌, subst, inl, inr, arith}
use Rattle.std.proofs.Common.{Some}
use Rattle.plain_text.specs.declared.fault.LineCause.{LineCause}
use Rattle.recovery_world.specs.World.{Setting}
use Rattle.handover.specs.declared.image.Image.{Image}
use Rattle.handover.specs.Images.{IsImage, FirstFault, image_form, lines_of}
use Rattle.handover.proofs.OneLine.{lines_are_decisive}
use Rattle.handover.proofs.StagedTexts.{not_both, one_fault}
use Rattle.handover.proofs.WholeImages.{one_image}
use Rattle.handover_world.specs.declared.fault.ResumeError.{ResumeError}
use Rattle.handover_world.specs.declared.fault.ResumeError.TheVariants as error
use Rattle.handover_world.specs.Faults.{HasNoFault, IsFault}
use Rattle.handover_world.proofs.OneFault as of_image
use Rattle.hand_faults.specs.declared.fault.HandCause.{HandCause}
use Rattle.hand_faults.specs.declared.fault.HandCause.TheVariants.{Line, Count, Move, Released}
use Rattle.hand_faults.specs.declared.fault.HandFault.{HandFault}
use Rattle.hand_faults.specs.HandFaults.{IsLineAt, IsRowLine, IsRefusedAt, IsImageFault, IsHandFault}

same_number : (p q : ℕ × List ℕ) → Some p ≡ Some q → p.0 ≡ q.0
same_number p q e = let same : p ≡ q = cc in ap (λ (r : ℕ × List ℕ). r.0) same

pub one_line : (text : List ℕ) (place a b : ℕ) → IsLineAt text place a → IsLineAt text place b → a ≡ b
one_line text place a b x y = same_number (a, x.0) (b, y.0) (sym x.1 ∙ y.1)

same_fault : (a b : HandFault) → a.line ≡ b.line → a.cause ≡ b.cause → a ≡ b
same_fault a b line cause =
    let first : a ≡ record { line = b.line; cause = a.cause } = ap (λ (n : ℕ). record a { line = n }) line in
    first ∙ ap (λ (c : HandCause). record b { cause = c }) cause

one_row : (text : List ℕ) (rows row a b : ℕ) → IsRowLine text rows row a → IsRowLine text rows row b → a ≡ b
one_row text rows row a b (inl x) (inl y) = one_line text (row + 1) a b x.1 y.1
one_row text rows row a b (inl x) (inr y) = let few = x.0 in let many = y.0 in absurd (omega (arith, few, many))
one_row text rows row a b (inr x) (inl y) = let many = x.0 in let few = y.0 in absurd (omega (arith, few, many))
one_row text rows row a b (inr x) (inr y) =
    let last = one_line text row x.1 y.1 x.2 y.2 in
    let here = x.3 in
    let there = y.3 in
    omega (arith, last, here, there)

one_place : (text : List ℕ) (image : Image) (e : ResumeError) (a b : HandFault) → IsRefusedAt text image e a
    → IsRefusedAt text image e b → a ≡ b
one_place text image (error.Count row) a b x y =
    same_fault a b (one_row text (length image.ended) row a.line b.line x.0 y.0) (x.1 ∙ sym y.1)
one_place text image (error.Move play) a b x y =
    same_fault a b (one_line text (1 + length image.ended + length image.released + play.number) a.line b.line x.0 y.0)
    (x.1 ∙ sym y.1)
one_place text image (error.Released place) a b x y =
    same_fault a b (one_line text (1 + length image.ended + place) a.line b.line x.0 y.0) (x.1 ∙ sym y.1)
one_place text image error.NoMemory a b x y = absurd x

-- a fault that has a place is no want of memory
has_place : (text : List ℕ) (image : Image) (e : ResumeError) (fault : HandFault) → IsRefusedAt text image e fault
    → e ≢ error.NoMemory
has_place text image e fault at same = subst (λ (r : ResumeError). IsRefusedAt text image r fault) same at

-- a text that is one of an image has no fault of a line
no_line_fault : (text : List ℕ) (image : Image) (number : ℕ) (cause : LineCause) → IsImage text image
    → FirstFault text number cause → ⊥
no_line_fault text image = not_both image_form lines_are_decisive text (lines_of image)

same_line : (text : List ℕ) (a b : HandFault) (c d : LineCause) → a.cause ≡ Line c → b.cause ≡ Line d
    → FirstFault text a.line c → FirstFault text b.line d → a ≡ b
same_line text a b c d p q f g =
    let same = one_fault image_form lines_are_decisive text a.line b.line c d f g in
    same_fault a b same.0 (p ∙ ap Line same.1 ∙ sym q)

-- an image is refused at one place, and where it has a fault alone
module _ {V : Type 0} (s : Setting V) (text : List ℕ) (image : Image) where
  pub one_refused : (e f : ResumeError) (a b : HandFault) → IsFault s image e → IsFault s image f
      → IsRefusedAt text image e a → IsRefusedAt text image f b → a ≡ b
  one_refused e f a b fault other at there =
      let same : f ≡ e =
      of_image.one_fault s image f e other fault (has_place text image f b there) (has_place text image e a at) in
      one_place text image e a b at (subst (λ (r : ResumeError). IsRefusedAt text image r b) same there)

  pub none_refused : (e : ResumeError) (a : HandFault) → HasNoFault s image → IsFault s image e
      → IsRefusedAt text image e a → ⊥
  none_refused e a none fault at = of_image.not_both s image e none fault (has_place text image e a at)

module _ {V : Type 0} (s : Setting V) (text : List ℕ) where
  same_image : (a b : HandFault) → IsImageFault s text a → IsImageFault s text b → a ≡ b
  same_image a b (image, is, e, fault, at) (other, is_too, f, fault_too, at_too) =
      let same : other ≡ image = one_image text other image is_too is in
      one_refused s text image e f a b fault (subst (λ (i : Image). IsFault s i f) same fault_too) at
      (subst (λ (i : Image). IsRefusedAt text i f b) same at_too)

  pub one_hand_fault : (a b : HandFault) → IsHandFault s text a → IsHandFault s text b → a ≡ b
  one_hand_fault a b (inl (c, p, f)) (inl (d, q, g)) = same_line text a b c d p q f g
  one_hand_fault a b (inl (c, p, f)) (inr (image, is, e, wrong, at)) = absurd (no_line_fault text image a.line c is f)
  one_hand_fault a b (inr (image, is, e, wrong, at)) (inl (d, q, g)) = absurd (no_line_fault text image b.line d is g)
  one_hand_fault a b (inr x) (inr y) = same_image a b x y

  pub no_hand_fault : (image : Image) (fault : HandFault) → IsImage text image → HasNoFault s image
      → IsHandFault s text fault → ⊥
  no_hand_fault image fault is none (inl (c, p, f)) = no_line_fault text image fault.line c is f
  no_hand_fault image fault is none (inr (other, is_too, e, wrong, at)) =
      let same : other ≡ image = one_image text other image is_too is in
      none_refused s text image e fault none (subst (λ (i : Image). IsFault s i e) same wrong)
      (subst (λ (i : Image). IsRefusedAt text i e fault) same at)
