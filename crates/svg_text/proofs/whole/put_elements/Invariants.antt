use Rattle.std.proofs.Common.{◌≡◌, ◌++◌, take}
use Rattle.std.specs.List.{flat_map}
use Rattle.svg_text.specs.Drawing.{element_text}
use Rattle.svg_text.proofs.whole.put_elements.Given as goal

-- the elements so far stand there
abbrev pub invariant-loop-element : goal.invariant-loop-element
invariant-loop-element l = l.out ≡ l.fn.out ++ flat_map element_text (take l.element-index l.elements)
