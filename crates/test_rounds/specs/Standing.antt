-- What a test keeps of a system: that it stands for some world.
use Rattle.std.specs.Prelude.{◌≡◌, ℕ}
use Rattle.plain_machine.specs.Program.{Meaning}
use Rattle.recovery_world.specs.World.{Setting, World}
use Rattle.recovery_core.specs.Systems.{Systemed, SystemStands}

-- the system stands for some world of this many threads
abbrev pub HasThreads : {P V : Type 0} → (P → Meaning V) → ℕ → Systemed P V → Type 0
HasThreads {P} {V} meaning threads y =
    (s : Setting V) × (w : World V) × SystemStands (meaning y.parts.program) s w y × (s.threads ≡ threads)

-- where the one stands for some world of so many threads, the other does too
abbrev pub KeepsThreads : {P V : Type 0} → (P → Meaning V) → Systemed P V → Systemed P V → Type 0
KeepsThreads meaning old new = (threads : ℕ) → HasThreads meaning threads old → HasThreads meaning threads new
