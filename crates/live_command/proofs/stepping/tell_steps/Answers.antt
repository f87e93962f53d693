use Rattle.std.proofs.Common.{◌≡◌, ◌<◌, ◌++◌, Err, List, add-one, append-nil, append_assoc, arith, length}
use Rattle.std.proofs.Common.{rules, subst, sym, take}
use Rattle.recovery_world.specs.declared.event.Event.{Event}
use Rattle.output_files.proofs.OnlyWriting.{OnlyWrites-same, OnlyWrites-trans}
use Rattle.live_workers.specs.FromRoundJoin.{events_noted}
use Rattle.live_writes.specs.Told.{FailsLive, HasTold}
use Rattle.live_command.proofs.StepsTold.{all_told, first_noted, from_first, note_failed, noted_take}
use Rattle.live_command.proofs.StepsTold.{step_on}
use Rattle.live_command.proofs.stepping.tell_steps.Goals as goal

pub loop-step-init : goal.loop-step-init
loop-step-init g c = record {
  few = c.requires.few;
  short = c.requires.short;
  only_writes = OnlyWrites-same _ _ _;
  before = λ p honest. honest;
  keeps = λ p honest file name is. is;
  told = λ p honest s names events w there before apart is h performs. (
    w,
    subst (λ (l : List Event). HasTold s names l l w c.args.lines.now c.args.script.now before
        (g.W.World.shows p c.args.world.now)) (sym (append-nil events)) h,
    from_first s w there c.args.steps.now performs,
  );
}

pub loop-step-preserved : goal.loop-step-preserved
loop-step-preserved g c =
    let inv = c.loop-step.invariant in
    let steps = c.args.steps.now in
    let i = c.loop-step.step-index in
    let x = c.step-item.result in
    let low : i < length steps = omega arith in
    let item = c.step-item.is in
    record {
      few = c.in_ok-tell_step.ensures.few;
      short = c.in_ok-tell_step.ensures.short;
      only_writes = OnlyWrites-trans _ _ _ _ _ inv.only_writes c.in_ok-tell_step.ensures.only_writes;
      before = λ p honest. inv.before p (c.in_ok-tell_step.ensures.before p honest);
      keeps = λ p honest file name is.
          c.in_ok-tell_step.ensures.keeps p honest file name
          (inv.keeps p (c.in_ok-tell_step.ensures.before p honest) file name is);
      told = λ p honest s names events w there before apart is h performs.
          let earlier = c.in_ok-tell_step.ensures.before p honest in
          let k = inv.told p earlier s names events w there before apart is h performs in
          let on = step_on s k.0 there steps i x low item k.2 in
          let now = g.W.World.shows p c.tell_step.new.world in
          let done = c.in_ok-tell_step.ensures.told p honest s names (events ++ events_noted
          (take i steps)) k.0 on.0 before
          apart (inv.keeps p earlier _ _ is) k.1 on.1 in
          rw add-one (
            on.0,
            subst (λ (l : List Event). HasTold s names (events ++ l) (events ++ l) on.0 c.tell_step.new.lines
                c.tell_step.new.script before now) (sym (noted_take steps i x low item))
                (subst (λ (l : List Event). HasTold s names l l on.0 c.tell_step.new.lines c.tell_step.new.script before
                now) (append_assoc events (events_noted (take i steps)) _) done),
            on.2,
          );
    }

pub returns-in_err-tell_step-clause-told : goal.returns-in_err-tell_step-clause-told
returns-in_err-tell_step-clause-told g c p honest s names events w there before apart is h performs =
    let inv = c.loop-step.invariant in
    let steps = c.args.steps.now in
    let i = c.loop-step.step-index in
    let x = c.step-item.result in
    let low : i < length steps = omega arith in
    let item = c.step-item.is in
    let earlier = c.in_err-tell_step.ensures.before p honest in
    let k = inv.told p earlier s names events w there before apart is h performs in
    let on = step_on s k.0 there steps i x low item k.2 in
    let e = c.in_err-tell_step.field-0.0 in
    let made : c.from_residual.result ≡ Err e = search rules in
    let now = g.W.World.shows p c.tell_step.new.world in
    let failed = c.in_err-tell_step.ensures.told p honest s names (events ++ events_noted
    (take i steps)) k.0 on.0 before
    apart (inv.keeps p earlier _ _ is) k.1 on.1 in
    note_failed _ e s names events (events_noted steps) (events_noted (take i steps) ++ failed.0) there _ _ before now
    made (first_noted steps i x failed.0 low item failed.1)
    (subst (λ (l : List Event). FailsLive e s names l before now)
    (append_assoc events (events_noted (take i steps)) failed.0) failed.2)

pub returns-clause-told : goal.returns-clause-told
returns-clause-told g c p honest s names events w there before apart is h performs =
    let k = c.loop-step.invariant.told p honest s names events w there before apart is h performs in
    all_told s names events c.args.steps.now c.loop-step.step-index k.0 there _ _ before _ (omega arith) k.1 k.2
