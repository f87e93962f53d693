use Rattle.std.proofs.Common.{◌≡◌, ◌∷◌, [], Err, refl, rules}
use Rattle.run_command.proofs.Going.{on_ended, somewhere_again}
use Rattle.live_command.proofs.TellingSteps.{err_goes, open_still, threads_kept}
use Rattle.live_command.proofs.MovesTold.{moves_again}
use Rattle.live_command.proofs.performing.tell.Goals as goal

pub leave-requires-clause-short : goal.leave-requires-clause-short
leave-requires-clause-short g c κs within =
    let here = c.requires.somewhere in
    c.perform-performed.ensures.short here.0 here.1 here.2 here.3

pub returns-in_err-add_line-clause-told : goal.returns-in_err-add_line-clause-told
returns-in_err-add_line-clause-told g c p honest s names events w before apart opened lived =
    let made : c.from_residual.result ≡ Err c.in_err-add_line.field-0.0 = search rules in
    let ev = c.args.event.now in
    err_goes _ c.in_err-add_line.field-0.0 _ s names w events (ev ∷ []) (ev ∷ []) _ _ _ before _ made ([], refl)
    (c.in_err-add_line.ensures.told p honest s names events w before apart opened.script lived.told)

pub returns-clause-told : goal.returns-clause-told
returns-clause-told g c p honest s names events w before apart opened lived =
    let earlier = c.leave.ensures.before p honest in
    c.leave.ensures.told p honest _ s names events w c.args.system.now c.perform-performed.new.system before apart
    (open_still names _ _ _ _ _ opened (c.in_ok-add_line.ensures.keeps p earlier))
    (c.in_ok-add_line.ensures.told p earlier s names events w before apart opened.script lived.told)
    c.perform-performed.ensures.comes lived.at lived.few

pub returns-clause-somewhere : goal.returns-clause-somewhere
returns-clause-somewhere g c =
    somewhere_again _ (g.P.Program.meaning c.args.system.now.parts.program) c.args.event.now _ _ c.args.system.now
    c.perform-performed.new.system c.leave.ensures.ended c.perform-performed.ensures.comes c.requires.somewhere

pub returns-clause-threads : goal.returns-clause-threads
returns-clause-threads g c =
    threads_kept _ (g.P.Program.meaning c.args.system.now.parts.program) c.args.event.now _ _ c.args.system.now
    c.perform-performed.new.system c.leave.ensures.ended c.perform-performed.ensures.comes c.requires.somewhere

pub returns-clause-runs : goal.returns-clause-runs
returns-clause-runs g c = on_ended _ _ _ c.leave.ensures.ended c.perform-performed.ensures.goes_on

pub returns-clause-program : goal.returns-clause-program
returns-clause-program g c = on_ended _ _ _ c.leave.ensures.ended c.perform-performed.ensures.program

pub returns-clause-moves : goal.returns-clause-moves
returns-clause-moves g c =
    moves_again _ (g.P.Program.meaning c.args.system.now.parts.program) c.args.event.now _ _ c.args.system.now
    c.perform-performed.new.system c.leave.ensures.ended c.perform-performed.ensures.comes
