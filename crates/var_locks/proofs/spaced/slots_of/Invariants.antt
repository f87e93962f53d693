use Rattle.std.proofs.Common.{◌≡◌}
use Rattle.var_locks.proofs.spaced.slots_of.Given as goal

-- each variable so far has its slot
abbrev pub invariant-loop-part : goal.invariant-loop-part
invariant-loop-part g l = l.slots.items ≡ l.yielded
