use Rattle.std.proofs.Common.{◌≡◌, Err, rules}
use Rattle.live_writes.specs.Outputs.{holding}
use Rattle.run_writes.specs.Run.{writes_of}
use Rattle.live_command.proofs.WritingSteps.{err_keeps, lines_kept}
use Rattle.live_command.proofs.writing.flush.Goals as goal

pub returns-in_err-write_script-clause-told : goal.returns-in_err-write_script-clause-told
returns-in_err-write_script-clause-told g c p honest s names events scripted w before apart is h =
    let made : c.from_residual.result ≡ Err c.in_err-write_script.field-0.0 = search rules in
    err_keeps _ c.in_err-write_script.field-0.0 s names events scripted w _ _ before _ made
    (c.in_err-write_script.ensures.told p honest s names events scripted w _ before apart is h)

pub returns-clause-told : goal.returns-clause-told
returns-clause-told g c p honest s names events scripted w before apart is h =
    let k = c.in_ok-write_script.ensures.told p (c.write_lines.ensures.before p honest) s names events scripted w _
    before apart is h in
    lines_kept s names apart events scripted w _ _ before _ k c.in_ok-write_script.ensures.none _ _ _
    (c.write_lines.ensures.shows p honest (holding names.script k.written before)
    (writes_of names.outputs s.fractions k.replies) k.gathered) c.write_lines.ensures.none
