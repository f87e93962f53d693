use Rattle.std.proofs.Common.{arith}
use Rattle.plain_player.proofs.WrittenSchedules.{fits_more, line_more}
use Rattle.handover.specs.declared.line.ImageLine.TheVariants as line
use Rattle.handover.specs.Images.{FitsLine, line_text}
use Rattle.handover.proofs.written.put_moves.Goals as goal

pub loop-index-preserved : goal.loop-index-preserved
loop-index-preserved c =
    let low = c.loop-index-test.true in
    let long = c.len-index-end.ensures in
    record {
      text =
          line_more (λ plain. line_text (line.Move plain)) c.args.moves.now c.loop-index.index c.at.result
          c.loop-index.text c.put_line.new.text c.push.new.self (omega (arith, low, long)) c.at.ensures
          c.loop-index.invariant.text c.in_ok-put_line.ensures.line c.in_ok-push.ensures.ok;
      fits =
          fits_more (λ plain. FitsLine (line.Move plain)) c.args.moves.now c.loop-index.index c.at.result
          (omega (arith, low, long)) c.at.ensures c.loop-index.invariant.fits c.in_ok-put_line.ensures.fits;
    }
