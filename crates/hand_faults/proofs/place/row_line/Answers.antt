use Rattle.std.proofs.Common.{arith}
use Rattle.hand_faults.proofs.TextLines.{counted_few}
use Rattle.hand_faults.proofs.place.row_line.Goals as goal

pub overflow_add-row : goal.overflow_add-row
overflow_add-row c =
    let few = counted_few c.args.text.now in
    let there = c.requires.there c.if-row-rows.true in
    omega (arith, few, there)
