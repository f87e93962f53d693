use Rattle.std.proofs.Common.{◌≡◌, replicate}
use Rattle.dup_filter.specs.Numbers.{no_numbers}
use Rattle.dup_filter.proofs.released.Released.new.Given as goal

abbrev pub invariant-loop : goal.invariant-loop
invariant-loop l = l.each.items ≡ replicate l.counter no_numbers
