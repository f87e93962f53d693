use Rattle.std.proofs.Common.{◌≡◌, ap, sym, rules, Err, refl}
use Rattle.output_files.proofs.OnlyWriting.{OnlyWrites-failed, OnlyWrites-trans}
use Rattle.live_command.proofs.EventsGone.{lived_same, still_open}
use Rattle.live_command.proofs.RunsTold.{opened, runs_to_end}
use Rattle.live_command.proofs.running.run_standing.Goals as goal

pub returns-in_err-system-clause-told : goal.returns-in_err-system-clause-told
returns-in_err-system-clause-told g c p honest s names before draws apart is at few w =
    let e : c.from_residual.result ≡ Err c.in_err-system.field-0.0 = search rules in
    rw e (c.in_err-system.ensures.told p honest s names before draws apart is
    (opened _ s names c.args.standing.system _ _ before _ apart c.new-lines.ensures c.new-script.ensures at few w))

pub returns-clause-told : goal.returns-clause-told
returns-clause-told g c p honest s names before draws apart is at few w =
    let earlier = c.close.ensures.before p honest in
    let went = c.in_ok-system.ensures.told p earlier s names before draws apart is
    (opened _ s names c.args.standing.system _ _ before _ apart c.new-lines.ensures c.new-script.ensures at few w) in
    let ended = c.close.ensures.told p honest s names went.0 went.1 before apart
    (still_open names _ _ _ _ _ (c.in_ok-system.ensures.keeps p earlier) is)
    (lived_same _ _ s names went.0 went.0 went.1 _ _ _ before _
    (ap g.P.Program.meaning (sym c.in_ok-system.ensures.program)) refl went.3) in
    runs_to_end s (g.C.Clock.may c.args.clock.now) c.args.plan.now names before _ c.close.result
    c.close.ensures.no_limit went.0 went.1 _ went.2 ended

pub returns-clause-only_writes : goal.returns-clause-only_writes
returns-clause-only_writes g c =
    OnlyWrites-trans _ _ _ _ _ c.in_ok-system.ensures.only_writes c.close.ensures.only_writes

pub returns-clause-cause : goal.returns-clause-cause
returns-clause-cause g c fault =
    OnlyWrites-failed _ _ _ _ _ c.in_ok-system.ensures.only_writes (c.close.ensures.cause fault)

pub returns-clause-before : goal.returns-clause-before
returns-clause-before g c p honest = c.in_ok-system.ensures.before p (c.close.ensures.before p honest)
