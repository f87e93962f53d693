use Rattle.std.proofs.Common.{◌<◌, ◌+◌, ◌/◌, length, rules}
use Rattle.run_drawing.proofs.Pieces.{slices_next}
use Rattle.run_drawing.proofs.slices.take_slices.Goals as goal

pub cut-preserved : goal.cut-preserved
cut-preserved c =
    let some : 0 < length c.cut.rest.now = search rules in
    slices_next c.args.thread (length c.args.notes.now / 50 + 1) c.cut.left c.cut.first c.in_ok-first.first
    c.min-many.result c.cut.rest.now c.in_ok-slice_of.field-0 c.cut.slices c.push.new.self _ c.cut-test.true some
    c.min-many.ensures c.cut.invariant c.in_ok-slice_of.ensures c.in_ok-first.ensures c.in_ok-push.ensures.ok
