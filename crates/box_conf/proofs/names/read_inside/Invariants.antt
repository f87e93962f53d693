use Rattle.std.proofs.Common.{◌≡◌}
use Rattle.plain_text.specs.Lines.{counted_lines}
use Rattle.box_conf.specs.Names.{inside_in}
use Rattle.box_conf.proofs.names.read_inside.Given as goal

-- the lines left have the network that the text has
abbrev pub invariant-loop-line : goal.invariant-loop-line
invariant-loop-line l = record { inside : inside_in (counted_lines l.text) ≡ inside_in l.line-iterator }
