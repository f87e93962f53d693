use Rattle.std.proofs.Common.{arith, None}
use Rattle.plain_machine.specs.declared.plain_move.PlainMove.{PlainMove}
use Rattle.system_images.proofs.BuildingLemmas.{makes_all, makes_more}
use Rattle.system_images.proofs.building.make_moves.Goals as goal

-- a move for a place that is not there
abbrev none_move : PlainMove
none_move = record { thread = 0; answer = None }

pub loop-index-preserved : goal.loop-index-preserved
loop-index-preserved g c =
    let long = c.len-index-end.ensures in
    let low = c.loop-index-test.true in
    makes_more g.P.Program.meaning c.args.moves.now c.loop-index.index none_move c.at.result
    (omega (arith, low, long)) (c.at.ensures none_move) c.args.core.now c.loop-index.core c.make_one.new.core
    c.loop-index.invariant c.in_ok-make_one.ensures

pub returns : goal.returns
returns g c =
    let long = c.len-index-end.ensures in
    let high = c.loop-index-test.false in
    makes_all g.P.Program.meaning c.args.moves.now c.loop-index.index c.args.core.now c.loop-index.core
    (omega (arith, high, long)) c.loop-index.invariant
