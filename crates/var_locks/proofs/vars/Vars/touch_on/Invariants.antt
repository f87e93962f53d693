use Rattle.std.proofs.Common.{◌≡◌}
use Rattle.var_locks.proofs.vars.Vars.touch_on.Given as goal

-- between two tries the seat is as it was
abbrev pub invariant-loop : goal.invariant-loop
invariant-loop g l =
    (l.token.table_id ≡ l.initial.token.table_id) × (l.token.id ≡ l.initial.token.id)
    × (l.token.me ≡ l.initial.token.me) × (l.part ≡ l.initial.part)
