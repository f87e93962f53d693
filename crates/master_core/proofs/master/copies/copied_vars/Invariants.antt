use Rattle.std.proofs.Common.{◌≡◌, take}
use Rattle.master_core.proofs.master.copies.copied_vars.Given as goal

-- the first variables are copied
abbrev pub invariant-loop-var : goal.invariant-loop-var
invariant-loop-var g l = l.copies.items ≡ take l.var l.parts
