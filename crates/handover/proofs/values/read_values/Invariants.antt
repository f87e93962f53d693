use Rattle.std.proofs.Common.{◌≡◌, length, map, take, drop}
use Rattle.line_tables.specs.Parts.{values_at}
use Rattle.handover.specs.Table.{place_of}
use Rattle.handover.proofs.ValuesRead.{behind}
use Rattle.handover.proofs.values.read_values.Given as goal

-- the values so far, and those of the words left at the places left, are what the words come to
abbrev pub invariant-loop-index : goal.invariant-loop-index
invariant-loop-index l = record {
  six : length l.values ≡ 6;
  comes : behind (take l.index l.values) (values_at (map place_of (drop l.index l.parts)) l.words)
      ≡ values_at (map place_of l.parts) l.fn.words;
}
