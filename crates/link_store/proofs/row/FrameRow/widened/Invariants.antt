use Rattle.std.proofs.Common.{◌≡◌, take}
use Rattle.link_store.specs.Rows.{forms_of}
use Rattle.link_store.proofs.row.FrameRow.widened.Given as goal

abbrev pub invariant-loop-i : goal.invariant-loop-i
invariant-loop-i l = l.whole.items ≡ take l.i (forms_of l.self)
