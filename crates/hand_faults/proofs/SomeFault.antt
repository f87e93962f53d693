-- A text of a handover is that of an image without a fault, or it has a fault.
use Rattle.std.proofs.Common.{◌≢◌, ◌⊎◌, ℕ, List, refl, inl, inr}
use Rattle.plain_text.specs.declared.fault.LineCause.{LineCause}
use Rattle.recovery_world.specs.World.{Setting}
use Rattle.handover.specs.declared.image.Image.{Image}
use Rattle.handover.specs.Images.{IsImage, FirstFault}
use Rattle.handover.proofs.WholeImages.{one_or_fault}
use Rattle.handover_world.specs.declared.fault.ResumeError.{ResumeError}
use Rattle.handover_world.specs.declared.fault.ResumeError.TheVariants.{NoMemory}
use Rattle.handover_world.specs.Faults.{HasNoFault, IsFault}
use Rattle.handover_world.proofs.OneFault.{judged}
use Rattle.hand_faults.specs.declared.fault.HandCause.TheVariants.{Line}
use Rattle.hand_faults.specs.declared.fault.HandFault.{HandFault}
use Rattle.hand_faults.specs.HandFaults.{IsHandFault}
use Rattle.hand_faults.proofs.Places.{place_there}

module _ {V : Type 0} (s : Setting V) (text : List ℕ) where
  abbrev Either : Type 0
  Either =
      ((image : Image) × IsImage text image × HasNoFault s image) ⊎ ((fault : HandFault) × IsHandFault s text fault)

  of_image : (image : Image) → IsImage text image
      → HasNoFault s image ⊎ ((e : ResumeError) × (e ≢ NoMemory) × IsFault s image e) → Either
  of_image image is (inl none) = inl (image, is, none)
  of_image image is (inr (e, some, wrong)) =
      let at = place_there s text image is e some wrong in inr (at.0, inr (image, is, e, wrong, at.1))

  of_text : ((image : Image) × IsImage text image)
      ⊎ ((number : ℕ) × (cause : LineCause) × FirstFault text number cause) → Either
  of_text (inl (image, is)) = of_image image is (judged s image)
  of_text (inr (number, cause, first)) =
      inr (record { line = number; cause = Line cause }, inl (cause, refl, first))

  pub hand_fault_or_none : Either
  hand_fault_or_none = of_text (one_or_fault text)
