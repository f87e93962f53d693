-- A system is taken apart, and put together again.
use Rattle.std.proofs.Common.{◌≡◌, sym, subst}
use Rattle.plain_machine.specs.Program.{Meaning}
use Rattle.master_core.specs.Mastered.{Mastered}
use Rattle.master_core.specs.MasterStanding.{Stands}
use Rattle.recovery_world.specs.World.{Setting, World}
use Rattle.system_parts.specs.Parts.{Parts}
use Rattle.system_parts.specs.Resting.{RestsFor}
use Rattle.system_parts.specs.SystemStanding.{StandsFor, StandsForSome}
use Rattle.recovery_core.specs.Partings.{PartsStandForSome}

-- The rest and the master stand for each world for which the parts do.
abbrev ArePartsOf : {P V : Type 0} → (P → Meaning V) → Parts P V → Parts P V → Mastered V → Type 0
ArePartsOf {P} {V} meaning y rest master =
    (s : Setting V) (w : World V) → StandsFor (meaning y.program) s w y
    → RestsFor (meaning y.program) s w rest × Stands s.meaning s.threads w.past master

-- the same, of a system as it was and as its code has it
pub parted_from : {P V : Type 0} (meaning : P → Meaning V) {y old : Parts P V} (rest : Parts P V) (master : Mastered V)
    → y ≡ old → ArePartsOf meaning y rest master → ArePartsOf meaning old rest master
parted_from {P} {V} meaning rest master is parted =
    subst (λ (q : Parts P V). ArePartsOf meaning q rest master) is parted

pub parted_for_some : {P V : Type 0} (meaning : P → Meaning V) {y old : Parts P V} (rest : Parts P V)
    (master : Mastered V) → y ≡ old → ArePartsOf meaning y rest master → StandsForSome (meaning y.program) y
    → PartsStandForSome (meaning old.program) rest master
parted_for_some {P} {V} meaning {y} rest master is parted some =
    let k = parted some.0 some.1 some.2 in
    subst (λ (q : Parts P V). PartsStandForSome (meaning q.program) rest master) is (some.0, some.1, k.0, k.1)

-- What was put together stands for some world, with the meaning of its program.
pub joined_for_some : {P V : Type 0} (meaning : P → Meaning V) (rest core : Parts P V) (master : Mastered V)
    → core.program ≡ rest.program
    → ((s : Setting V) (w : World V) → RestsFor (meaning rest.program) s w rest
    → Stands s.meaning s.threads w.past master → StandsFor (meaning rest.program) s w core)
    → PartsStandForSome (meaning rest.program) rest master → StandsForSome (meaning core.program) core
joined_for_some {P} {V} meaning rest core master same joined some =
    subst (λ (p : P). StandsForSome (meaning p) core) (sym same)
    (some.0, some.1, joined some.0 some.1 some.2 some.3)
