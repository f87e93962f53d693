use Rattle.std.proofs.Common.{◌∙◌, refl}
use Rattle.live_command.proofs.AllMessages.{numbered_more}
use Rattle.live_command.proofs.settling.add_numbered.Goals as goal

pub loop-earlier-preserved : goal.loop-earlier-preserved
loop-earlier-preserved c =
    c.in_ok-push.ensures.items
    ∙ numbered_more c.args.kind c.args.thread c.loop-earlier.earlier _ c.args.frames.now.items _ refl
    c.loop-earlier.invariant
