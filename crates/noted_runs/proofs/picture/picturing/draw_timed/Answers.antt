use Rattle.std.proofs.Common.{◌≡◌, ap}
use Rattle.run_writes.specs.Run.{setting_of}
use Rattle.event_replies.specs.declared.reply.Stop.{Stop}
use Rattle.event_replies.specs.declared.reply.Stop.TheVariants as stop
use Rattle.plain_text.specs.declared.limit.Limit.{Limit}
use Rattle.noted_runs.proofs.Drawn.{drawn, halted_comes}
use Rattle.noted_runs.proofs.PicturePerformed.{failed}
use Rattle.noted_runs.proofs.picture.picturing.draw_timed.Goals as goal

pub returns-in_ok-texts-in-Ok : goal.returns-in_ok-texts-in-Ok
returns-in_ok-texts-in-Ok g c =
    drawn c.args.title.now (setting_of (g.P.Program.meaning c.args.program.now) c.args.run) c.args.run.events
    c.in-Ok.gone c.in-Ok.ensures.gone c.args.times.now c.in_ok-texts-in-Ok.texts c.requires.times
    c.in_ok-texts-in-Ok.ensures.picture
    c.in_ok-texts-in-Ok.ensures.report

pub returns-in-Err : goal.returns-in-Err
returns-in-Err g c =
    halted_comes c.args.title.now (setting_of (g.P.Program.meaning c.args.program.now) c.args.run) c.args.run.events
    c.halt.result c.in-Err.stop c.halt.ensures
    (λ (limit : Limit) (e : c.in-Err.stop ≡ stop.Limit limit).
    c.in-Err.ensures.limit limit (ap (λ (x : Stop). failed x) e))
