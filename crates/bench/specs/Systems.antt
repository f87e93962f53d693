-- A recovering system that stands for some world.
use Rattle.std.specs.Prelude.{◌≡◌, List, length}
use Rattle.rand_pcg.specs.Lcg.{Lcg}
use Rattle.plain_machine.specs.Program.{Meaning}
use Rattle.recovery_world.specs.World.{Setting, World}
use Rattle.recovery_core.specs.Systems.{Systemed, SystemStands}

abbrev pub StandsSomewhere : {P V : Type 0} → Meaning V → Systemed P V → Type 0
StandsSomewhere {P} {V} m y = (s : Setting V) × (w : World V) × SystemStands m s w y

-- and that has a generator for each thread
abbrev pub CanRace : {P V : Type 0} → (P → Meaning V) → Systemed P V → List Lcg → Type 0
CanRace meaning y draws = StandsSomewhere (meaning y.parts.program) y × (length draws ≡ y.parts.inputs.threads)
