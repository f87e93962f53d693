use Rattle.std.proofs.Common.{◌≡◌, ◌++◌}
use Rattle.std.specs.String.{string_bytes}
use Rattle.std.specs.Slice.Iter.{iter_rest}
use Rattle.nat_tables.specs.Shown.{further_mappings, mappings_text}
use Rattle.nat_tables.proofs.forward.Forward.text.Given as goal

-- the text so far, and that of what is left, are the whole
abbrev pub invariant-loop-key : goal.invariant-loop-key
invariant-loop-key l = string_bytes l.text ++ further_mappings (iter_rest l.key-iterator) ≡ mappings_text l.fn.self
