use Rattle.std.proofs.Common.{◌≡◌, ◌≤◌, length}
use Rattle.std.specs.Prelude.{IfSome}
use Rattle.plain_text.specs.Lines.{counted_lines}
use Rattle.box_conf.specs.Names.{named_in, names_after, names_fault, fault_of_names}
use Rattle.box_conf.specs.Settings.{IsWithin}
use Rattle.box_conf.specs.declared.table.BoxLine.TheVariants.{Inside}
use Rattle.box_conf.proofs.names.read_names.Given as goal

-- the names so far, and the lines left, come to what the text comes to
abbrev pub invariant-loop-line : goal.invariant-loop-line
invariant-loop-line l = record {
  names : named_in (counted_lines l.text) ≡ names_after l.names l.line-iterator;
  fault : fault_of_names (counted_lines l.text) ≡ names_fault l.inside l.names l.line-iterator;
  inside : IfSome l.inside (IsWithin Inside);
  few : length l.names.backends ≤ 64;
}
