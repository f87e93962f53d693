use Rattle.std.proofs.Common.{◌≡◌, ◌∙◌, [], Err, List, ap, append-nil, inl, rules, subst, sym}
use Rattle.frame_intake.specs.Orders.{orders_of}
use Rattle.plain_machine.specs.Program.{Meaning}
use Rattle.run_command.proofs.Going.{somewhere_same}
use Rattle.run_command.specs.Running.{IsSystemAt}
use Rattle.live_workers.specs.FromRoundJoin.{events_noted}
use Rattle.live_writes.specs.Told.{HasBegunLive}
use Rattle.live_workers.specs.FromRoundJoin.{Noted}
use Rattle.live_workers.specs.Rounds.{StopsRound}
use Rattle.live_workers.specs.declared.rounds.RoundStop.{RoundStop}
use Rattle.live_command.specs.Going.{GoesRace, StopsAtStep, standing_in}
use Rattle.live_command.proofs.RoundsTold.{drawn_on, none_round, round_at, round_draws, round_threads, round_told}
use Rattle.live_command.proofs.RoundsTold.{somewhere_on, stopped_round, threads_on}
use Rattle.live_command.proofs.WritingSteps.{still_begun}
use Rattle.live_command.proofs.racing.race.Goals as goal

pub tell_round-requires-clause-somewhere : goal.tell_round-requires-clause-somewhere
tell_round-requires-clause-somewhere g c κs within =
    let here = c.requires.somewhere in
    let end = c.in-Ok.ensures in
    let rounds = end.on here.0 here.1 here.2.stands in
    somewhere_same _ _ c.in-Ok.done.system (sym (ap g.P.Program.meaning end.program)) (
      here.0,
      rounds.0,
      round_at _ here.0 here.1 _ _ _ _ _ _ c.args.standing.system _ here.2 end.handed end.fresh rounds,
      here.3,
    )

pub tell_round-requires-clause-draws : goal.tell_round-requires-clause-draws
tell_round-requires-clause-draws g c κs within =
    let here = c.requires.somewhere in
    round_draws _ here.0 here.1 _ _ _ _ _ _ c.args.standing.system _ (c.in-Ok.ensures.on here.0 here.1 here.2.stands)

pub returns-in-Ok-clause-somewhere : goal.returns-in-Ok-clause-somewhere
returns-in-Ok-clause-somewhere g c =
    somewhere_on c.tell_round.result _ _ (ap g.P.Program.meaning c.in-Ok.ensures.program)
    c.tell_round.ensures.somewhere

pub returns-in-Ok-clause-threads : goal.returns-in-Ok-clause-threads
returns-in-Ok-clause-threads g c =
    let here = c.requires.somewhere in
    threads_on c.tell_round.result _ _ (round_threads _ here.0 here.1 _ _ _ _ _ _ c.args.standing.system _ here.2
    (c.in-Ok.ensures.on here.0 here.1 here.2.stands)) c.tell_round.ensures.threads

pub returns-in-Ok-clause-told : goal.returns-in-Ok-clause-told
returns-in-Ok-clause-told g c p honest s names events w asked before same apart opened lived =
    let end = c.in-Ok.ensures in
    let done = c.in-Ok.done in
    let rounds = end.on s w lived.at.stands in
    let is = ap g.P.Program.meaning end.program in
    let at = round_at _ s w _ _ _ _ _ _ c.args.standing.system _ lived.at end.handed end.fresh rounds in
    round_told _ s w _ asked (orders_of c.args.orders.now) c.args.standing.draws done.draws done.steps.items
    done.arriving.items c.args.standing.system done.system lived.at.stands lived.few same rounds names events
    c.requires.up c.tell_round.result c.tell_round.new.lines c.tell_round.new.script before
    (g.W.World.shows p c.tell_round.new.world) (drawn_on c.tell_round.result _ c.tell_round.ensures.given)
    (subst (λ (k : Meaning _). GoesRace c.tell_round.result k s names rounds.0 events (events_noted done.steps.items)
    done.arriving.items (standing_in c.tell_round.result done.system) c.tell_round.new.lines c.tell_round.new.script
    before (g.W.World.shows p c.tell_round.new.world)) is
    (c.tell_round.ensures.told p honest s names events w rounds.0 before apart opened lived.told rounds.1.performs
    (subst (λ (k : Meaning _). IsSystemAt k s rounds.0 done.system) (sym is) at) lived.few))

pub returns-in_err-tell_stop-in-Err-Limit-clause-told : goal.returns-in_err-tell_stop-in-Err-Limit-clause-told
returns-in_err-tell_stop-in-Err-Limit-clause-told g c p honest s names events w asked before same apart opened lived =
    let e = c.in_err-tell_stop-in-Err-Limit.field-0.0 in
    let made : c.from_residual.result ≡ Err e = search rules in
    stopped_round _ s names _ w asked _ events _ e _ _ before _ made
    (sym lived.at.stands.parts.master.up ∙ c.requires.up)
    (c.in_err-tell_stop-in-Err-Limit.ensures.told p honest s names events w c.in-Err-Limit.limit before apart
    opened.script lived.told
    (subst (λ (l : List Noted). StopsAtStep s w c.in-Err-Limit.limit l c.in-Err-Limit.next)
    (sym c.as_slice-steps.ensures.value)
    (subst (λ (stop : RoundStop). StopsRound s w stop) c.in-Err-Limit.field-0-is
    (c.in-Err-Limit.ensures.stops s w lived.at.stands))))

pub returns-in_ok-tell_stop-in-Err-Limit-clause-told : goal.returns-in_ok-tell_stop-in-Err-Limit-clause-told
returns-in_ok-tell_stop-in-Err-Limit-clause-told g c p honest s names events w asked before same apart opened lived =
    let limit = c.in-Err-Limit.limit in
    let stopped = c.in_ok-tell_stop-in-Err-Limit.ensures.told p honest s names events w limit before apart
    opened.script lived.told
    (subst (λ (l : List Noted). StopsAtStep s w limit l c.in-Err-Limit.next) (sym c.as_slice-steps.ensures.value)
    (subst (λ (stop : RoundStop). StopsRound s w stop) c.in-Err-Limit.field-0-is
    (c.in-Err-Limit.ensures.stops s w lived.at.stands))) in
    (stopped.0, (sym lived.at.stands.parts.master.up ∙ c.requires.up, inl stopped.1), inl stopped.2)

pub returns-in-Err-NoMemory-clause-told : goal.returns-in-Err-NoMemory-clause-told
returns-in-Err-NoMemory-clause-told g c p honest s names events w asked before same apart opened lived = (
  [],
  none_round s w asked (sym lived.at.stands.parts.master.up ∙ c.requires.up),
  subst (λ (l : List _). HasBegunLive s names l before (g.W.World.shows p c.args.world.now)) (sym (append-nil events))
      (still_begun s names apart events _ w _ _ before _ lived.told),
)
