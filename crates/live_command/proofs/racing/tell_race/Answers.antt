use Rattle.std.proofs.Common.{◌≡◌, ◌++◌, Err, rules}
use Rattle.live_workers.specs.FromRoundJoin.{events_noted}
use Rattle.live_command.proofs.RoundsTold.{race_arrived, race_failed}
use Rattle.live_command.proofs.TellingSteps.{open_still}
use Rattle.live_command.proofs.racing.tell_race.Goals as goal

pub returns-in_err-tell_steps-clause-told : goal.returns-in_err-tell_steps-clause-told
returns-in_err-tell_steps-clause-told g c p honest s names events w there before apart opened h performs at few =
    let e = c.in_err-tell_steps.field-0.0 in
    let made : c.from_residual.result ≡ Err e = search rules in
    let failed = c.in_err-tell_steps.ensures.told p honest s names events w there before apart opened.script h performs
    in
    race_failed _ e _ s names there events _ failed.0 c.args.arriving.now _ _ _ before _ made failed.1 failed.2

pub returns-clause-told : goal.returns-clause-told
returns-clause-told g c p honest s names events w there before apart opened h performs at few =
    let earlier = c.arrive.ensures.before p honest in
    let part = events_noted c.args.steps.now in
    let here = c.in_ok-tell_steps.ensures.told p earlier s names events w there before apart opened.script h performs in
    race_arrived _ _ s names there events part c.args.arriving.now _ _ _ before _
    (c.arrive.ensures.told p honest s names (events ++ part) there before apart
    (open_still names _ _ _ _ _ opened (c.in_ok-tell_steps.ensures.keeps p earlier))
    (record { told = here; at = at; few = few }))
