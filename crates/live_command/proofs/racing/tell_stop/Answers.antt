use Rattle.std.proofs.Common.{◌≡◌, ◌∷◌, ◌++◌, [], Err, ap, rules, subst}
use Rattle.recovery_world.specs.declared.event.Event.{Event}
use Rattle.recovery_world.specs.declared.event.Event.TheVariants as event
use Rattle.live_workers.specs.FromRoundJoin.{events_noted}
use Rattle.live_writes.specs.Told.{FailsLive, HasTold}
use Rattle.live_command.proofs.RoundsTold.{flushed, last_failed, steps_failed}
use Rattle.live_command.proofs.racing.tell_stop.Goals as goal

pub returns-in_err-tell_steps-clause-told : goal.returns-in_err-tell_steps-clause-told
returns-in_err-tell_steps-clause-told g c p honest s names events w limit before apart is h stops =
    let steps = c.args.steps.now in
    let e = c.in_err-tell_steps.field-0.0 in
    let made : c.from_residual.result ≡ Err e = search rules in
    let failed = c.in_err-tell_steps.ensures.told p honest s names events w stops.2.there before apart is h
    stops.2.performs in
    steps_failed s names w limit events steps c.args.next stops.0 stops.1 stops.2 before _ _ e made failed.0 failed.1
    failed.2

pub returns-in_err-add_line-clause-told : goal.returns-in_err-add_line-clause-told
returns-in_err-add_line-clause-told g c p honest s names events w limit before apart is h stops =
    let earlier = c.in_err-add_line.ensures.before p honest in
    let steps = c.args.steps.now in
    let next = c.args.next in
    let e = c.in_err-add_line.field-0.0 in
    let made : c.from_residual-in_err-add_line.result ≡ Err e = search rules in
    let same : event.Step c.from.result next.answer ≡ event.Step next.thread next.answer =
    ap (λ t. event.Step t next.answer) c.from.ensures in
    let now = g.W.World.shows p c.add_line.new.world in
    let here = c.in_ok-tell_steps.ensures.told p earlier s names events w stops.2.there before apart is h
    stops.2.performs in
    last_failed s names w limit events steps next stops.0 stops.1 stops.2 before now _ e made
    (subst (λ (ev : Event). FailsLive e s names ((events ++ events_noted steps) ++ ev ∷ []) before now) same
    (c.in_err-add_line.ensures.told p honest s names (events ++ events_noted steps) stops.2.there before apart
    (c.in_ok-tell_steps.ensures.keeps p earlier _ _ is) here))

pub returns-clause-told : goal.returns-clause-told
returns-clause-told g c p honest s names events w limit before apart is h stops =
    let later = c.flush-files.ensures.before p honest in
    let earlier = c.in_ok-add_line.ensures.before p later in
    let steps = c.args.steps.now in
    let next = c.args.next in
    let same : event.Step c.from.result next.answer ≡ event.Step next.thread next.answer =
    ap (λ t. event.Step t next.answer) c.from.ensures in
    let mid = g.W.World.shows p c.add_line.new.world in
    let part = events ++ events_noted steps in
    let opened = c.in_ok-tell_steps.ensures.keeps p earlier _ _ is in
    let here = c.in_ok-tell_steps.ensures.told p earlier s names events w stops.2.there before apart is h
    stops.2.performs in
    let added : HasTold s names part (part ++ event.Step next.thread next.answer ∷ []) stops.2.there
    c.add_line.new.lines c.add_line.new.script before mid =
    subst (λ (ev : Event).
    HasTold s names part (part ++ ev ∷ []) stops.2.there c.add_line.new.lines c.add_line.new.script before mid) same
    (c.in_ok-add_line.ensures.told p later s names part stops.2.there before apart opened here) in
    flushed s names w limit events steps next stops.0 stops.1 stops.2 before _ c.flush-files.result _ _ _
    c.written.ensures
    (c.flush-files.ensures.told p honest s names part _ stops.2.there before apart
    (c.in_ok-add_line.ensures.keeps p later _ _ opened) added) c.flush-files.ensures.no_lines
    c.flush-files.ensures.no_text
