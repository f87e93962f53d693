use Rattle.std.proofs.Common.{rules, ◌+◌, reverse, drop, refl, sym, ◌∙◌, subst, arith}
use Rattle.std.specs.Prelude.{slice_index_or, slice_set}
use Rattle.std.proofs.lemmas.List.{drop_all}
use Rattle.round_join.specs.NotedMoves.{NotesMade, StopsBefore}
use Rattle.round_join.proofs.DrawingLemmas.{turns_left}
use Rattle.round_join.proofs.NotingLemmas.{CanDraw, Went, can_now, none_taken, one_taken, turn_in}
use Rattle.round_join.proofs.NotingLemmas.{went_all, went_more, went_none, went_stops}
use Rattle.round_join.proofs.noting.note_turns.Goals as goal

pub loop-turn-init : goal.loop-turn-init
loop-turn-init g c = record {
  program = refl;
  can = c.requires.draws;
  went = λ s w new drawn draws rests up pending.
      subst (λ l. Went (g.P.Program.meaning c.args.rest.now.program) s w c.args.moves.now.items
      (reverse c.args.turns.now) drawn new l c.args.rest.now) (sym c.requires.none)
      (went_none (g.P.Program.meaning c.args.rest.now.program) s w c.args.moves.now.items (reverse c.args.turns.now)
      drawn new c.args.rest.now draws rests up pending);
}

pub index_mut-requires : goal.index_mut-requires
index_mut-requires g c =
    let low = turn_in c.loop-turn.rest.sent.epoch c.loop-turn.rest.sent.threads c.loop-turn.moves.items c.args.turns.now
    c.loop-turn.turn-index c.loop-turn-test.true c.loop-turn.invariant.can in omega (arith, low, c.loop-turn.moves.ok)

pub unreachable-requires : goal.unreachable-requires
unreachable-requires g c =
    none_taken c.loop-turn.rest.sent.epoch c.loop-turn.rest.sent.threads c.loop-turn.moves.items c.args.turns.now
    c.loop-turn.turn-index c.index_mut.result.now c.loop-turn-test.true c.loop-turn.invariant.can
    c.index_mut.ensures.value c.in_default.ensures.none

pub note_one-requires-clause-can : goal.note_one-requires-clause-can
note_one-requires-clause-can g c κs within =
    let taken = one_taken c.loop-turn.rest.sent.epoch c.loop-turn.rest.sent.threads c.loop-turn.moves.items
    c.args.turns.now c.loop-turn.turn-index c.index_mut.result.now c.take_oldest.new.self c.in-Some.made
    c.loop-turn-test.true c.loop-turn.invariant.can c.index_mut.ensures.value c.in-Some.ensures.oldest in
    (can_now c.loop-turn.rest.sent.epoch c.loop-turn.rest.sent.threads c.loop-turn.moves.items c.args.turns.now
    c.loop-turn.turn-index c.take_oldest.new.self c.in-Some.made c.loop-turn-test.true c.loop-turn.invariant.can
    taken).0

pub returns-in_err-note_one-clause-limit : goal.returns-in_err-note_one-clause-limit
returns-in_err-note_one-clause-limit g c limit next is s w new drawn draws rests up pending =
    let taken = one_taken c.loop-turn.rest.sent.epoch c.loop-turn.rest.sent.threads c.loop-turn.moves.items
    c.args.turns.now c.loop-turn.turn-index c.index_mut.result.now c.take_oldest.new.self c.in-Some.made
    c.loop-turn-test.true c.loop-turn.invariant.can c.index_mut.ensures.value c.in-Some.ensures.oldest in
    let went = subst (λ l. Went (g.P.Program.meaning c.args.rest.now.program) s w c.loop-turn.moves.items l drawn new
    c.loop-turn.noted.items c.loop-turn.rest) (turns_left c.args.turns.now c.loop-turn.turn-index c.loop-turn-test.true)
    (c.loop-turn.invariant.went s w new drawn draws rests up pending) in
    let stops = subst (λ q. StopsBefore (g.P.Program.meaning q) c.in-Some.made limit next c.loop-turn.rest)
    c.loop-turn.invariant.program (c.in_err-note_one.ensures.limit limit next (search rules)) in
    went_stops (g.P.Program.meaning c.args.rest.now.program) s w c.loop-turn.moves.items
    (reverse (drop (c.loop-turn.turn-index + 1) c.args.turns.now))
    (slice_index_or c.args.turns.now c.loop-turn.turn-index 0) drawn c.take_oldest.new.self c.in-Some.made new
    c.loop-turn.noted.items c.loop-turn.rest taken went limit next c.note_one.new.noted.items stops
    c.in_err-note_one.ensures.same

pub loop-turn-preserved : goal.loop-turn-preserved
loop-turn-preserved g c =
    let taken = one_taken c.loop-turn.rest.sent.epoch c.loop-turn.rest.sent.threads c.loop-turn.moves.items
    c.args.turns.now c.loop-turn.turn-index c.index_mut.result.now c.take_oldest.new.self c.in-Some.made
    c.loop-turn-test.true c.loop-turn.invariant.can c.index_mut.ensures.value c.in-Some.ensures.oldest in
    let can = (can_now c.loop-turn.rest.sent.epoch c.loop-turn.rest.sent.threads c.loop-turn.moves.items
    c.args.turns.now c.loop-turn.turn-index c.take_oldest.new.self c.in-Some.made c.loop-turn-test.true
    c.loop-turn.invariant.can taken).1 in
    let left = slice_set c.loop-turn.moves.items (slice_index_or c.args.turns.now c.loop-turn.turn-index 0)
    c.take_oldest.new.self in
    let turns = reverse (drop (c.loop-turn.turn-index + 1) c.args.turns.now) in
    let on = c.in_ok-note_one.ensures.on in
    record {
      program = c.in_ok-note_one.ensures.program ∙ c.loop-turn.invariant.program;
      can =
          subst (λ e. CanDraw e c.note_one.new.rest.sent.threads left turns) (sym c.in_ok-note_one.ensures.epoch)
          (subst (λ n. CanDraw c.loop-turn.rest.sent.epoch n left turns) (sym c.in_ok-note_one.ensures.threads) can);
      went = λ s w new drawn draws rests up pending.
          let went = subst (λ l. Went (g.P.Program.meaning c.args.rest.now.program) s w c.loop-turn.moves.items l drawn
          new c.loop-turn.noted.items c.loop-turn.rest)
          (turns_left c.args.turns.now c.loop-turn.turn-index c.loop-turn-test.true)
          (c.loop-turn.invariant.went s w new drawn draws rests up pending) in
          let notes = subst (λ q.
          NotesMade (g.P.Program.meaning q) c.in-Some.made on.0 c.loop-turn.rest c.note_one.new.rest)
          c.loop-turn.invariant.program on.2 in
          went_more (g.P.Program.meaning c.args.rest.now.program) s w c.loop-turn.moves.items turns
          (slice_index_or c.args.turns.now c.loop-turn.turn-index 0) drawn c.take_oldest.new.self c.in-Some.made new
          c.loop-turn.noted.items c.loop-turn.rest taken went c.note_one.new.rest on.0 c.note_one.new.noted.items notes
          on.1;
    }

pub returns-clause-on : goal.returns-clause-on
returns-clause-on g c s w new drawn draws rests up pending =
    went_all (g.P.Program.meaning c.args.rest.now.program) s w c.loop-turn.moves.items drawn new c.loop-turn.noted.items
    c.loop-turn.rest
    (subst (λ l. Went (g.P.Program.meaning c.args.rest.now.program) s w c.loop-turn.moves.items (reverse l) drawn new
    c.loop-turn.noted.items c.loop-turn.rest)
    (drop_all c.loop-turn.turn-index c.args.turns.now c.loop-turn-test.false)
    (c.loop-turn.invariant.went s w new drawn draws rests up pending))
