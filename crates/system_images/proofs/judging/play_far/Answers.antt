use Rattle.std.proofs.Common.{rules, ◌≡◌, ◌+◌, ◌<◌, ◌∙◌, arith, ap, subst, length, None, Ok, Err}
use Rattle.std.specs.Prelude.{◌^◌, ◌-◌, [], min}
use Rattle.plain_player.specs.Playing.{Stands as StandsPlayer}
use Rattle.std.proofs.lemmas.Result.{IfOk-weaker}
use Rattle.input_logger.specs.Inputs.{input_at}
use Rattle.plain_machine.specs.declared.plain_move.PlainMove.{PlainMove}
use Rattle.plain_player.proofs.NextInputs.{input_there}
use Rattle.plain_player.proofs.PlayedOn.{history_of}
use Rattle.system_images.proofs.FarLemmas.{far_all, far_more, far_none, far_stops}
use Rattle.system_images.proofs.judging.play_far.Goals as goal

-- a move for a place that is not there
abbrev none_move : PlainMove
none_move = record { thread = 0; answer = None }

pub loop-index-init : goal.loop-index-init
loop-index-init g c = record {
  fits = search rules;
  made = let k = (c.in_ok-player.ensures.stands).made in k;
  far = far_none (g.P.Program.meaning c.args.program.now) c.args.inputs.now c.args.moves.now _
      (subst (λ n. StandsPlayer (g.P.Program.meaning c.args.program.now) n [] c.in_ok-player.player)
      c.threads.ensures.value c.in_ok-player.ensures.stands);
}

pub step-requires-clause-input : goal.step-requires-clause-input
step-requires-clause-input g c κs within =
    let m = g.P.Program.meaning c.args.program.now in
    let fed = c.args.inputs.now in
    let so = c.loop-index.invariant.far.so_far in
    input_there m fed fed.threads so.steps c.loop-index.player _ _ c.input-input.result
    (history_of m fed c.args.moves.now c.loop-index.index c.loop-index.player c.loop-index.invariant.far.sent so)
    so.stands (c.input-input.ensures ∙ ap (input_at fed _) c.next_input.ensures)

pub returns-in-Err : goal.returns-in-Err
returns-in-Err g c =
    let m = g.P.Program.meaning c.args.program.now in
    let fed = c.args.inputs.now in
    let less : c.loop-index.index < length c.args.moves.now =
    omega (arith, c.loop-index-test.true, c.len-index-end.ensures) in
    let bad : c.step.result ≡ Err c.in-Err.error = search rules in
    IfOk-weaker c.far_at.result _ _
    (λ far at. far_stops m fed c.args.moves.now c.loop-index.index less c.at-plain.result none_move
    (c.at-plain.ensures none_move) c.loop-index.player c.step.new.self c.loop-index.bytes c.loop-index.invariant.far c.step.result
    (λ inputs threads steps stands given. c.step.ensures.follows inputs threads steps stands
    ((c.input-input.ensures ∙ ap (input_at fed _) c.next_input.ensures) ∙ given)) c.in-Err.error bad far at)
    c.far_at.ensures

pub loop-index-preserved : goal.loop-index-preserved
loop-index-preserved g c =
    let m = g.P.Program.meaning c.args.program.now in
    let fed = c.args.inputs.now in
    let less : c.loop-index.index < length c.args.moves.now =
    omega (arith, c.loop-index-test.true, c.len-index-end.ensures) in
    let good : c.step.result ≡ Ok c.in-Ok.sent = search rules in
    record {
      fits = search rules;
      made = search rules;
      far = far_more m fed c.args.moves.now c.loop-index.index less c.at-plain.result none_move
          (c.at-plain.ensures none_move) c.loop-index.player c.step.new.self c.loop-index.bytes
          c.loop-index.invariant.far c.step.result
          (λ inputs threads steps stands given. c.step.ensures.follows inputs threads steps stands
          ((c.input-input.ensures ∙ ap (input_at fed _) c.next_input.ensures) ∙ given)) c.in-Ok.sent good _
          (c.saturating_add-bytes.ensures ∙ ap (λ n. min (c.loop-index.bytes + n) (2 ^ 64 - 1)) c.size_of.ensures);
    }

pub returns : goal.returns
returns g c =
    let long = c.len-index-end.ensures in
    let high = c.loop-index-test.false in
    far_all (g.P.Program.meaning c.args.program.now) c.args.inputs.now c.args.moves.now c.loop-index.index
    c.loop-index.player c.loop-index.bytes (omega (arith, high, long)) c.loop-index.invariant.far
