use Rattle.std.proofs.Common.{◌≡◌, ◌∷◌, [], List, Err, Ok, length, refl, rules, subst, arith}
use Rattle.recovery_world.specs.World.{Sent}
use Rattle.recovery_world.specs.Files.{reply_line, sent_names}
use Rattle.run_writes.specs.declared.error.RunError.TheVariants as run
use Rattle.run_writes.specs.Errors.{run_error_of}
use Rattle.run_writes.specs.Run.{writes_of}
use Rattle.run_command.specs.Running.{ComesTo}
use Rattle.live_writes.specs.Outputs.{holding}
use Rattle.live_command.proofs.WritingSteps.{fails_begun, still_begun}
use Rattle.live_command.proofs.TellingSteps.{err_goes, is_quiet, no_outputs, performed_told, quiet_goes}
use Rattle.live_command.proofs.performing.leave.Goals as goal

pub returns-in_err-line-in-Ok-clause-told : goal.returns-in_err-line-in-Ok-clause-told
returns-in_err-line-in-Ok-clause-told g c p honest m s names events w old new before apart opened h comes at few =
    let made : c.from_residual.result ≡ Err run.NoMemory = search rules in
    let ev = c.args.event.now in
    err_goes _ run.NoMemory m s names w events (ev ∷ []) (ev ∷ []) new _ _ before _ made ([], refl)
    (still_begun s names apart events _ w _ _ before _ h)

pub returns-in_err-write_script-in_default-clause-told : goal.returns-in_err-write_script-in_default-clause-told
returns-in_err-write_script-in_default-clause-told g c p honest m s names events w old new before apart opened h comes
    at few =
    let e = c.in_err-write_script-in_default.field-0.0 in
    let made : c.from_residual-in_err-write_script-in_default.result ≡ Err (run_error_of e) = search rules in
    let ev = c.args.event.now in
    err_goes _ (run_error_of e) m s names w events (ev ∷ []) (ev ∷ []) new _ _ before _ made ([], refl)
    (fails_begun e s names _ before _
    (c.in_err-write_script-in_default.ensures.told p honest s names events _ w _ before apart opened.script h))

pub returns-in_ok-line-in-Ok-clause-told : goal.returns-in_ok-line-in-Ok-clause-told
returns-in_ok-line-in-Ok-clause-told g c p honest m s names events w old new before apart opened h comes at few =
    let ev = c.args.event.now in
    let outputs = c.args.performed.now.outputs in
    let line = c.as_bytes-line.result.now in
    let came : ComesTo m ev (Ok c.in-Ok.reply) outputs old new =
    subst (λ r. ComesTo m ev r outputs old new) c.in-Ok.is comes in
    let empty : length outputs ≡ 0 = grind arith in
    let said : (freed : List Sent) → c.in-Ok.reply.released ≡ sent_names freed
    → line ≡ reply_line ev c.in-Ok.reply.outcome freed =
    λ freed names. search rules in
    let q = is_quiet m s w ev c.in-Ok.reply outputs old new line came at (no_outputs outputs empty) said in
    quiet_goes c.gather.result _ m s names w q.0 events ev line new _ _ before _ c.written.ensures q.1 q.2 few
    (c.gather.ensures.told p honest s names events ev w q.0 before apart opened.script h q.1)

pub returns-in_ok-write_script-in_default-clause-told : goal.returns-in_ok-write_script-in_default-clause-told
returns-in_ok-write_script-in_default-clause-told g c p honest m s names events w old new before apart opened h comes at
    few =
    let wrote = c.in_ok-write_script-in_default.ensures in
    let earlier = c.write_performed.ensures.before p honest in
    let k = wrote.told p earlier s names events _ w _ before apart opened.script h in
    performed_told s names events w _ _ before _ c.args.event.now k wrote.none m few old new at _ _
    c.args.performed.now.reply c.args.performed.now.outputs _ comes
    (c.write_performed.ensures.shows p honest (holding names.script k.written before)
    (writes_of names.outputs s.fractions k.replies) names.outputs.released
    (wrote.keeps p earlier _ _ opened.released) k.gathered)
