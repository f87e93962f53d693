-- The image that a system is handed over as has no fault.
use Rattle.std.proofs.Common.{◌≡◌, ◌+◌, ◌^◌, ◌<◌, List, arith, ap, refl, None, Ok}
use Rattle.recovery_world.specs.declared.event.Event.{Event}
use Rattle.recovery_world.specs.declared.event.Event.TheVariants.{Snap, Store, Crash, Recover}
use Rattle.recovery_world.specs.declared.event.Outcome.{Outcome}
use Rattle.recovery_world.specs.World.{Setting, Sent, World}
use Rattle.recovery_world.specs.Limits.{IsWithin}
use Rattle.recovery_world.specs.Many.{begins, OnAny, Single, Several}
use Rattle.recovery_laws.specs.Sound.{Sound}
use Rattle.recovery_laws.proofs.KeptWorlds.{any_sound}
use Rattle.handover.specs.declared.image.Image.{Image}
use Rattle.handover_world.specs.Counted.{IsCounted}
use Rattle.handover_world.specs.Faults.{HasNoFault}
use Rattle.handover_world.specs.Handing.{LeadsTo, ComesToRest}
use Rattle.handover_world.specs.Images.{IsImageOf}
use Rattle.handover_world.specs.Ready.{IsReadiness}
use Rattle.handover_world.proofs.Counting.{any_counted}
use Rattle.handover_world.proofs.Resting.{rested, comes_to_rest}
use Rattle.handover_world.proofs.WorldImages.{no_fault}

single_within : {V : Type 0} (s : Setting V) (w : World V) (ev : Event) (to : Outcome) (freed : List Sent)
    (new : World V) → begins s w ev ≡ None → OnAny s w ev to freed new → IsWithin new
single_within s w ev to freed new alone (Single e o f n on) = on.1
single_within s w ev to freed new alone (Several e q o n at f is) = absurd (cc)

module _ {V : Type 0} (s : Setting V) where
  leads_sound : (w new : World V) (ev : Event) → LeadsTo s w ev new → Sound s w → Sound s new
  leads_sound w new ev leads h = any_sound s w h ev leads.0 leads.1 new leads.2

  leads_counted : (w new : World V) (ev : Event) → LeadsTo s w ev new → Sound s w → IsCounted w → IsCounted new
  leads_counted w new ev leads h k = any_counted s w ev leads.0 leads.1 new h k leads.2

  -- the world at rest is sound, counted and within the limits
  record RestsWell (new : World V) : Type 0 where
    sound : Sound s new
    counted : IsCounted new
    within : IsWithin new

  rests_well : (w new : World V) → Sound s w → IsCounted w → ComesToRest s w new → RestsWell new
  rests_well w new h k c =
      let one = leads_sound w c.copied Snap c.snap h in
      let two = leads_sound c.copied c.stored Store c.store one in
      let three = leads_sound c.stored c.down Crash c.crash two in
      let first = leads_counted w c.copied Snap c.snap h k in
      let second = leads_counted c.copied c.stored Store c.store one first in
      let third = leads_counted c.stored c.down Crash c.crash two second in
      record {
        sound = leads_sound c.down new Recover c.recover three;
        counted = leads_counted c.down new Recover c.recover three third;
        within = single_within s c.down Recover c.recover.0 c.recover.1 new refl c.recover.2;
      }

  pub handed_fine : (w new : World V) (image : Image) → Sound s w → IsCounted w → IsReadiness w (Ok tt)
      → ComesToRest s w new → IsImageOf s new image → new.epoch < 2 ^ 32 → HasNoFault s image
  handed_fine w new image h k ready c is few =
      let well = rests_well w new h k c in
      let epoch : new.epoch ≡ w.epoch + 1 = ap (λ (z : World V). z.epoch) (rested s w new c ready.0).new_is in
      let epochs = k.epochs in
      no_fault s new well.sound well.counted well.within (comes_to_rest s w h ready new c) image is
      (omega (arith, epoch, epochs)) few
