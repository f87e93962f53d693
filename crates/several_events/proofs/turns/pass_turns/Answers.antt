use Rattle.std.proofs.Common.{◌<◌, ◌≤◌, ◌∙◌, ap, arith, length}
use Rattle.recovery_world.specs.declared.event.Outcome.TheVariants as outcome
use Rattle.several_events.specs.declared.progress.Progress.TheVariants as progress
use Rattle.several_events.specs.Progressing.{after_turn}
use Rattle.several_events.proofs.IdleTurns.{goes_on_idle, idle_falls}
use Rattle.several_events.proofs.turns.pass_turns.Goals as goal

pub turns-smaller : goal.turns-smaller
turns-smaller g c =
    let value = c.threads-threads.ensures.value ∙ ap (λ y. y.inputs.threads) c.core.view_is in
    let few = c.threads-threads.ensures.few in
    let test = c.turns-test.true in
    idle_falls c.args.core.now.inputs.threads c.args.left c.turns.turn (length c.args.core.now.left)
    c.args.core.now.moves c.turns.has_moved
    (progress.Steps c.args.left c.next_turn-next.result.0 c.next_turn-next.result.1) (omega (arith, value, test))
    (omega (arith, value, few))
    (c.next_turn-next.ensures c.args.left
    ∙ ap (λ n. after_turn n c.args.left c.turns.turn c.turns.has_moved outcome.Idle) value)

pub turns-preserved : goal.turns-preserved
turns-preserved g c =
    let value = c.threads-threads.ensures.value ∙ ap (λ y. y.inputs.threads) c.core.view_is in
    let few = c.threads-threads.ensures.few in
    let test = c.turns-test.true in
    let low : c.turns.turn < c.args.core.now.inputs.threads = omega (arith, value, test) in
    let all : c.args.core.now.inputs.threads ≤ 16 = omega (arith, value, few) in
    let is = c.next_turn-next.ensures c.args.left
    ∙ ap (λ n. after_turn n c.args.left c.turns.turn c.turns.has_moved outcome.Idle) value in
    let less = idle_falls c.args.core.now.inputs.threads c.args.left c.turns.turn (length c.args.core.now.left)
    c.args.core.now.moves c.turns.has_moved
    (progress.Steps c.args.left c.next_turn-next.result.0 c.next_turn-next.result.1) low all is in
    let before = c.turns.invariant.less in
    record {
      goes = goes_on_idle (g.P.Program.meaning c.args.core.now.program) c.args.core.now
          (progress.Steps c.args.left c.args.thread c.args.moved) c.args.left c.turns.turn c.turns.has_moved
          (progress.Steps c.args.left c.next_turn-next.result.0 c.next_turn-next.result.1) low all is
          (c.is_idle.ensures c.if-is_idle.true) c.turns.invariant.goes;
      less = omega (arith, less, before);
    }
