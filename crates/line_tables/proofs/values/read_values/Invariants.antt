use Rattle.std.proofs.Common.{◌≡◌, length, map, take, drop}
use Rattle.line_tables.specs.Parts.{grammar_place, values_at}
use Rattle.line_tables.proofs.ValuesRead.{behind}
use Rattle.line_tables.proofs.values.read_values.Given as goal

-- the values so far, and those of the words left at the places left, are what the words come to
abbrev pub invariant-loop-index : goal.invariant-loop-index
invariant-loop-index l = record {
  four : length l.values ≡ 4;
  comes : behind (take l.index l.values) (values_at (map grammar_place (drop l.index l.parts)) l.words)
      ≡ values_at (map grammar_place l.parts) l.fn.words;
}
