use Rattle.std.proofs.Common.{◌≡◌, ℕ, ◌<◌, ◌≤◌}
use Rattle.dup_filter.specs.Numbers.{numbers, GivesUpRooms}
use Rattle.dup_filter.proofs.released.give_up_each.Given as goal

abbrev pub invariant-loop-i : goal.invariant-loop-i
invariant-loop-i l = record {
  done : (t : ℕ) → t < l.i → GivesUpRooms (numbers l.initial.threads t) (numbers l.threads t);
  left : (t : ℕ) → l.i ≤ t → numbers l.threads t ≡ numbers l.initial.threads t;
}
