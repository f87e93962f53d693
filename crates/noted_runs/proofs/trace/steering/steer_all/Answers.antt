use Rattle.std.proofs.Common.{◌∙◌, ◌+◌, ◌<◌, ◌++◌, ◌∷◌, [], List, ℕ, length, ap, sym, subst}
use Rattle.input_logger.specs.Inputs.{Fed, inputs_of, thread_of, with_packet}
use Rattle.noted_runs.specs.Turns.{AreTurns}
use Rattle.noted_runs.proofs.SteeringLemmas.{steered_on}
use Rattle.noted_runs.proofs.trace.steering.steer_all.Goals as goal

pub loop-packet-preserved : goal.loop-packet-preserved
loop-packet-preserved c =
    let inv = c.loop-packet.invariant in
    let packet = c.in-Some.packet in
    let turn = c.in_ok-turn.turn in
    let of = c.in_ok-turn.ensures in
    record {
      inputs = of.ok ∙ ap (λ (log : Fed). with_packet log packet) inv.inputs;
      turns = subst
          (λ (l : List (ℕ × ℕ)). AreTurns c.args.threads c.args.tags (c.loop-packet.yielded ++ packet ∷ []) l)
          (sym c.in_ok-push.ensures.ok)
          (steered_on c.args.threads c.args.tags c.loop-packet.yielded c.loop-packet.turns inv.turns packet turn
          (of.thread ∙ ap (λ (log : Fed). thread_of log.tags packet log.threads) inv.inputs)
          (subst (λ (log : Fed). turn.0 < log.threads) inv.inputs of.below)
          (of.number ∙ ap (λ (log : Fed). length (inputs_of log turn.0) + 1) inv.inputs));
    }
