use Rattle.std.proofs.Common.{arith}
use Rattle.plain_player.specs.ScheduleText.{move_line}
use Rattle.plain_player.specs.Schedules.{FitsLine}
use Rattle.plain_player.proofs.WrittenSchedules.{fits_more, line_more}
use Rattle.plain_player.proofs.schedule.put_schedule.Goals as goal

pub loop-index-preserved : goal.loop-index-preserved
loop-index-preserved c =
    let low = c.loop-index-test.true in
    let long = c.len-index-end.ensures in
    record {
      text =
          line_more move_line c.args.schedule.now c.loop-index.index c.at.result c.loop-index.text c.put_move.new.text
          c.push.new.self (omega (arith, low, long)) c.at.ensures c.loop-index.invariant.text c.in_ok-put_move.ensures.text
          c.in_ok-push.ensures.ok;
      fits =
          fits_more FitsLine c.args.schedule.now c.loop-index.index c.at.result (omega (arith, low, long)) c.at.ensures
          c.loop-index.invariant.fits c.in_ok-put_move.ensures.fits;
    }
