use Rattle.std.proofs.Common.{◌≡◌, ◌∷◌, ◌++◌, ◌∙◌, [], Err, ap, refl, rules, subst}
use Rattle.recovery_world.specs.declared.event.Event.{Event}
use Rattle.recovery_world.specs.declared.event.Event.TheVariants as event
use Rattle.recovery_world.specs.Files.{reply_line}
use Rattle.live_workers.specs.FromRoundJoin.{event_noted}
use Rattle.run_writes.specs.declared.error.RunError.TheVariants as run
use Rattle.live_writes.specs.Told.{FailsLive, HasTold}
use Rattle.live_command.proofs.WritingSteps.{still_begun}
use Rattle.live_command.proofs.StepsTold.{note_failed, note_kept, step_quiet}
use Rattle.live_command.proofs.stepping.tell_step.Goals as goal

pub returns-in_err-add_line-clause-told : goal.returns-in_err-add_line-clause-told
returns-in_err-add_line-clause-told g c p honest s names events w next before apart is h on =
    let step = c.args.step.now in
    let same : event.Step c.from.result step.answer ≡ event_noted step =
    ap (λ t. event.Step t step.answer) c.from.ensures in
    let e = c.in_err-add_line.field-0.0 in
    let made : c.from_residual.result ≡ Err e = search rules in
    let now = g.W.World.shows p c.add_line.new.world in
    note_failed _ e s names events (event_noted step ∷ []) (event_noted step ∷ []) next _ _ before now made ([], refl)
    (subst (λ (ev : Event). FailsLive e s names (events ++ ev ∷ []) before now) same
    (c.in_err-add_line.ensures.told p honest s names events w before apart is h))

pub returns-in_err-line-clause-told : goal.returns-in_err-line-clause-told
returns-in_err-line-clause-told g c p honest s names events w next before apart is h on =
    let step = c.args.step.now in
    let same : event.Step c.from.result step.answer ≡ event_noted step =
    ap (λ t. event.Step t step.answer) c.from.ensures in
    let made : c.from_residual-in_err-line.result ≡ Err run.NoMemory = search rules in
    let now = g.W.World.shows p c.add_line.new.world in
    let here : HasTold s names events (events ++ event_noted step ∷ []) w c.add_line.new.lines c.add_line.new.script
    before now =
    subst (λ (ev : Event). HasTold s names events (events ++ ev ∷ []) w c.add_line.new.lines c.add_line.new.script
    before now) same (c.in_ok-add_line.ensures.told p honest s names events w before apart is h) in
    note_failed _ run.NoMemory s names events (event_noted step ∷ []) (event_noted step ∷ []) next _ _ before now made
    ([], refl) (still_begun s names apart events _ w _ _ before now here)

pub returns-clause-told : goal.returns-clause-told
returns-clause-told g c p honest s names events w next before apart is h on =
    let earlier = c.gather.ensures.before p honest in
    let step = c.args.step.now in
    let same : event.Step c.from.result step.answer ≡ event_noted step =
    ap (λ t. event.Step t step.answer) c.from.ensures in
    let now = g.W.World.shows p c.add_line.new.world in
    let here : HasTold s names events (events ++ event_noted step ∷ []) w c.add_line.new.lines c.add_line.new.script
    before now =
    subst (λ (ev : Event). HasTold s names events (events ++ ev ∷ []) w c.add_line.new.lines c.add_line.new.script
    before now) same (c.in_ok-add_line.ensures.told p earlier s names events w before apart is h) in
    let line = c.as_bytes-line.result.now in
    let said : line ≡ reply_line (event_noted step) step.outcome [] =
    c.as_bytes-line.ensures.value ∙ c.in_ok-line.ensures
    ∙ ap (λ (ev : Event). reply_line ev step.outcome []) same in
    note_kept c.gather.result _ s names events (event_noted step) next _ _ before _ c.written.ensures
    (c.gather.ensures.told p honest s names events (event_noted step) w next before apart
    (c.in_ok-add_line.ensures.keeps p earlier _ _ is) here (step_quiet s w next step line said on))
