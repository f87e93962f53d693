-- A system that goes on from an image has what was released.
use Rattle.std.proofs.Common.{◌≡◌, ℕ, ◌≤◌, List, [], length, refl, sym, ap, ◌∙◌, subst, arith, drop}
use Rattle.std.proofs.lemmas.List.{drop_all}
use Rattle.plain_machine.specs.Program.{Meaning}
use Rattle.recovery_world.specs.World.{Setting, Sent, World}
use Rattle.recovery_world.specs.Files.{packets_of, sent_names}
use Rattle.recovery_laws.specs.Sound.{Sound}
use Rattle.handover.specs.declared.image.Image.{Image}
use Rattle.handover_world.specs.Images.{IsAtRest, IsImageOf}
use Rattle.system_parts.specs.Parts.{Parts}
use Rattle.system_parts.specs.SystemStanding.{StandsFor, StandsForSome}
use Rattle.system_parts.proofs.ReadLemmas.{names_length}
use Rattle.system_parts.specs.Performing.{packets_in}
use Rattle.recovery_core.specs.Systems.{Systemed, SystemStands}

-- the system of an image stands for the worlds of the image
pub handed_on : {P V : Type 0} (m : Meaning V) (s : Setting V) (w : World V) (image : Image) (y : Systemed P V)
    → StandsFor m s w y.parts → IsImageOf s w image → y.handed ≡ length image.released → y.fresh ≡ []
    → SystemStands m s w y
handed_on {P} {V} m s w image y st is handed fresh = record {
  parts = st;
  released = record {
    names = st.released;
    handed = omega (arith, all);
    fresh =
        ap (λ l. packets_in l) fresh
        ∙ sym (ap (λ (l : List Sent). packets_of l) (drop_all y.handed w.released (omega (arith, all))));
  };
}
  where
    all : y.handed ≡ length w.released
    all = handed ∙ (ap (λ (l : List (ℕ × ℕ)). length l) is.released ∙ names_length w.released)

-- it stands for one
pub stands_for_one : {P V : Type 0} (m : Meaning V) (s : Setting V) (image : Image) (y : Parts P V)
    → ((w : World V) → Sound s w → IsAtRest w → IsImageOf s w image → StandsFor m s w y)
    → ((w : World V) × Sound s w × IsAtRest w × IsImageOf s w image) → StandsForSome m y
stands_for_one m s image y stands some = (s, some.0, stands some.0 some.1 some.2 some.3)
