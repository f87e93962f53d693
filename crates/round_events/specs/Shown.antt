-- What the answer to a call shows of a move.
use Rattle.std.specs.Prelude.{◌≡◌, ℕ}
use Rattle.plain_machine.specs.Program.{Meaning}
use Rattle.master_core.specs.declared.step.Trace.TheVariants as trace
use Rattle.master_core.specs.declared.step.Stepped.{Stepped}
use Rattle.master_core.specs.declared.step.Stepped.TheVariants as stepped
use Rattle.var_locks.specs.declared.view.Note.{Note}
use Rattle.var_locks.specs.Plain.{IsSent}

-- the note that a seat has of a move is the one that the answer shows
abbrev pub IsShown : {V : Type 0} → Meaning V → ℕ → Note V → Stepped → Type 0
IsShown m t n (stepped.Took k) = n.trace ≡ trace.Took k
IsShown m t n (stepped.Did e) = n.trace ≡ trace.Did e
IsShown m t n (stepped.Emitted o) = (n.trace ≡ trace.Emitted o.number) × IsSent m t n.before n.packet o
IsShown m t n (stepped.Ended k) = n.trace ≡ trace.Ended k
IsShown m t n stepped.Idle = ⊥
IsShown m t n (stepped.NotTurn u k) = ⊥
IsShown m t n stepped.NoMemory = ⊥
