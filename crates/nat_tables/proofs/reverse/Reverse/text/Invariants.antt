use Rattle.std.proofs.Common.{◌≡◌, ◌++◌}
use Rattle.std.specs.String.{string_bytes}
use Rattle.std.specs.Slice.Iter.{iter_rest}
use Rattle.nat_tables.specs.Shown.{further_bound, all_bound_text}
use Rattle.nat_tables.proofs.reverse.Reverse.text.Given as goal

-- the text so far, and that of what is left, are the whole
abbrev pub invariant-loop-port : goal.invariant-loop-port
invariant-loop-port l = string_bytes l.text ++ further_bound (iter_rest l.port-iterator) ≡ all_bound_text l.fn.self
