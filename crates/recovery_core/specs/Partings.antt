-- What a system is that was taken apart for a round.
use Rattle.std.specs.Prelude.{ℕ, List}
use Rattle.access_log.specs.declared.entry.Output.{Output}
use Rattle.plain_machine.specs.Program.{Meaning}
use Rattle.master_core.specs.Mastered.{Mastered}
use Rattle.master_core.specs.MasterStanding.{Stands}
use Rattle.recovery_world.specs.World.{Setting, World}
use Rattle.system_parts.specs.Parts.{Parts}
use Rattle.system_parts.specs.Resting.{RestsFor}

-- how many of the released outputs were handed over, and the others
pub record KeptOutputs : Type 0 where
  pub handed : ℕ
  pub fresh : List Output

-- The rest of a system and a master stand for some world.
abbrev pub PartsStandForSome : {P V : Type 0} → Meaning V → Parts P V → Mastered V → Type 0
PartsStandForSome {P} {V} m rest master =
    (s : Setting V) × (w : World V) × RestsFor m s w rest × Stands s.meaning s.threads w.past master
