use Rattle.std.proofs.Common.{◌≡◌, take}
use Rattle.master_core.specs.Deltas.{changed_parts}
use Rattle.master_core.proofs.master.copies.changed_vars.Given as goal

-- of the first variables
abbrev pub invariant-loop-var : goal.invariant-loop-var
invariant-loop-var g l = l.changes.items ≡ changed_parts (take l.var l.base) (take l.var l.now)
