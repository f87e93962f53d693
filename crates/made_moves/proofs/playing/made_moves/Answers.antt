use Rattle.std.proofs.Common.{rules, ◌≡◌, ◌∙◌, List, ℕ, Option, None, ap, arith, length, length-append}
use Rattle.std.proofs.Common.{Ok, Err}
use Rattle.input_logger.specs.Inputs.{input_at}
use Rattle.plain_machine.specs.declared.local.Local.{Local}
use Rattle.plain_machine.specs.declared.plain_move.PlainMove.{PlainMove}
use Rattle.plain_player.specs.Playing.{next_input, place_in_hand}
use Rattle.plain_player.proofs.NextInputs.{input_there}
use Rattle.plain_player.proofs.PlayedOn.{history_of}
use Rattle.made_moves.specs.declared.made.Made.{Made}
use Rattle.made_moves.specs.Made.{next_did}
use Rattle.made_moves.proofs.SoFar.{noted_more, none_there, played_so}
use Rattle.made_moves.proofs.playing.made_moves.Goals as goal

-- a move for a place that is not there
abbrev none_move : PlainMove
none_move = record { thread = 0; answer = None }

pub step-requires-clause-input : goal.step-requires-clause-input
step-requires-clause-input g c κs within =
    let m = g.P.Program.meaning c.args.program.now in
    let fed = c.args.inputs.now in
    let so = c.loop-index.invariant.so_far in
    input_there m fed fed.threads so.steps c.loop-index.player _ _ c.input-input.result
    (history_of m fed c.args.moves.now c.loop-index.index c.loop-index.player _
    (played_so m fed c.args.moves.now c.loop-index.index c.loop-index.player c.loop-index.made so)) so.stands
    (c.input-input.ensures ∙ ap (input_at fed _) c.next_input-next.ensures)

pub returns-in-Err : goal.returns-in-Err
returns-in-Err g c =
    let m = g.P.Program.meaning c.args.program.now in
    let fed = c.args.inputs.now in
    let bad : c.step.result ≡ Err c.in-Err.error = search rules in
    none_there m fed c.args.moves.now c.loop-index.index
    (omega (arith, c.loop-index-test.true, c.len-index-end.ensures)) c.at-plain.result none_move
    (c.at-plain.ensures none_move) c.loop-index.player c.step.new.self
    c.loop-index.made c.loop-index.invariant.so_far c.step.result
    (λ inputs threads steps stands given. c.step.ensures.follows inputs threads steps stands
    ((c.input-input.ensures ∙ ap (input_at fed _) c.next_input-next.ensures) ∙ given)) c.in-Err.error bad
    c.none_of.result c.none_of.ensures.none c.none_of.ensures.illegal

pub loop-index-preserved : goal.loop-index-preserved
loop-index-preserved g c =
    let m = g.P.Program.meaning c.args.program.now in
    let fed = c.args.inputs.now in
    let plain = c.at-plain.result in
    let good : c.step.result ≡ Ok c.in-Ok.sent = search rules in
    let p = c.loop-index.player in
    let does : c.next_of-did.result
    ≡ next_did m c.loop-index.made plain.thread (next_input p plain.thread) plain.answer
    (place_in_hand p plain.thread) =
    c.next_of-did.ensures
    ∙ ap (λ (l : List Made). next_did m l plain.thread c.next_input-next.result plain.answer c.place-place.result)
    c.as_slice.ensures
    ∙ ap (λ (n : ℕ). next_did m c.loop-index.made plain.thread n plain.answer c.place-place.result)
    c.next_input-next.ensures
    ∙ ap (λ (o : Option Local). next_did m c.loop-index.made plain.thread (next_input p plain.thread) plain.answer o)
    c.place-place.ensures in
    record {
      fits = search rules;
      moves = search rules;
      as_many = let grows = ap length c.in_ok-push.ensures.ok in grind (arith, length-append);
      so_far = noted_more m fed c.args.moves.now c.loop-index.index
          (omega (arith, c.loop-index-test.true, c.len-index-end.ensures)) plain none_move (c.at-plain.ensures none_move) p
          c.step.new.self c.loop-index.made c.loop-index.invariant.so_far c.step.result
          (λ inputs threads steps stands given. c.step.ensures.follows inputs threads steps stands
          ((c.input-input.ensures ∙ ap (input_at fed _) c.next_input-next.ensures) ∙ given)) c.in-Ok.sent
          c.next_of-did.result c.push.new.self good does c.in_ok-push.ensures.ok;
    }
