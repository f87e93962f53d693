use Rattle.std.proofs.Common.{rules, ◌≡◌, ◌<◌, ◌∙◌, [], ℕ, arith, ap, subst, length, None, Ok, replicate}
use Rattle.std.specs.Prelude.{slice_index_or, slice_set}
use Rattle.input_logger.specs.Inputs.{input_at}
use Rattle.plain_machine.specs.declared.plain_move.PlainMove.{PlainMove}
use Rattle.plain_player.specs.Playing.{Stands}
use Rattle.plain_player.proofs.NextInputs.{input_there}
use Rattle.plain_player.proofs.PlayedOn.{history_of}
use Rattle.noted_runs.specs.declared.trace.following.Made.{Made}
use Rattle.noted_runs.specs.Following.{after_made}
use Rattle.noted_runs.proofs.Followed.{followed_all, followed_on, none_followed}
use Rattle.noted_runs.proofs.trace.following.follow_schedule.Goals as goal

-- a move for a place that is not there
abbrev none_move : PlainMove
none_move = record { thread = 0; answer = None }

pub loop-index-init : goal.loop-index-init
loop-index-init g c =
    let m = g.P.Program.meaning c.args.program.now in
    let stands = subst (λ (n : ℕ). Stands m n [] c.in_ok-player.player) c.threads.ensures.value
    c.in_ok-player.ensures.stands in
    record {
      fits = c.in_ok-player.ensures.fits;
      made = stands.made;
      followed = none_followed c.args.register m c.args.inputs.now c.args.schedule.now c.in_ok-player.player
          c.in_ok-lists.lists.items stands
          (c.in_ok-lists.ensures ∙ ap (λ (n : ℕ). replicate n []) c.threads-2.ensures.value);
    }

pub step-requires-clause-input : goal.step-requires-clause-input
step-requires-clause-input g c κs within =
    let m = g.P.Program.meaning c.args.program.now in
    let fed = c.args.inputs.now in
    let h = c.loop-index.invariant.followed in
    input_there m fed fed.threads h.so.steps c.loop-index.player _ _ c.input-input.result
    (history_of m fed c.args.schedule.now c.loop-index.index c.loop-index.player h.sent h.so) h.so.stands
    (c.input-input.ensures ∙ ap (input_at fed _) c.next_input.ensures)

pub loop-index-preserved : goal.loop-index-preserved
loop-index-preserved g c =
    let m = g.P.Program.meaning c.args.program.now in
    let fed = c.args.inputs.now in
    let less : c.loop-index.index < length c.args.schedule.now =
    omega (arith, c.loop-index-test.true, c.len-index-end.ensures) in
    let good : c.step.result ≡ Ok c.in-Ok.sent = search rules in
    let move = c.at-plain.result in
    record {
      fits = search rules;
      made = search rules;
      followed = followed_on c.args.register m fed c.args.schedule.now c.loop-index.index less move none_move
          (c.at-plain.ensures none_move) c.loop-index.player c.step.new.self
          c.loop-index.lists.items c.loop-index.invariant.followed c.step.result
          (λ inputs threads steps stands given. c.step.ensures.follows inputs threads steps stands
          ((c.input-input.ensures ∙ ap (input_at fed _) c.next_input.ensures) ∙ given)) c.in-Ok.sent good
          c.place-before.result c.place.result c.note_thread.new.lists.items c.place-before.ensures c.place.ensures
          (c.in_ok-note_thread.ensures.lists
          ∙ ap (λ (x : Made). slice_set c.loop-index.lists.items move.thread
          (after_made x (slice_index_or c.loop-index.lists.items move.thread []))) c.made_by-made.ensures);
    }

pub returns : goal.returns
returns g c steps plays =
    followed_all c.args.register (g.P.Program.meaning c.args.program.now) c.args.inputs.now c.args.schedule.now
    c.loop-index.index c.loop-index.player c.loop-index.lists.items
    (omega (arith, c.loop-index-test.false, c.len-index-end.ensures)) c.loop-index.invariant.followed steps plays
