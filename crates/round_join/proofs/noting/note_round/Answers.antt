use Rattle.std.proofs.Common.{reverse, sym, subst}
use Rattle.std.proofs.lemmas.Result.{on_ok_weaker}
use Rattle.round_order.specs.Turns.{AreTurns, lengths}
use Rattle.round_join.proofs.RacedRounds.{raced_in_order}
use Rattle.round_join.proofs.RoundNotes.{round_came, round_stopped}
use Rattle.round_join.proofs.noting.note_round.Goals as goal

pub note_turns-requires-clause-draws : goal.note_turns-requires-clause-draws
note_turns-requires-clause-draws g c κs within =
    let program = c.args.rest.now.program in
    let are = subst (λ l. AreTurns c.args.marks.now (lengths c.args.marks.now) (reverse l)) (sym c.as_slice.ensures)
    c.in_ok-turns.ensures in
    let r = c.requires.raced in
    let i = raced_in_order (g.P.Program.meaning program) (g.P.Program.fits program) r.s r.w r.p r.round r.seats r.q
    c.args.marks.now c.args.moves.now.items (reverse c.as_slice.result.now) c.args.rest.now
    (g.met.P.Program.lawful program) c.has_parts.ensures r.raced are in (i.drawn, i.draws, i.can)

pub returns-clause-came : goal.returns-clause-came
returns-clause-came g c =
    let program = c.args.rest.now.program in
    let are = subst (λ l. AreTurns c.args.marks.now (lengths c.args.marks.now) (reverse l)) (sym c.as_slice.ensures)
    c.in_ok-turns.ensures in
    on_ok_weaker c.note_turns.result
    (λ notes s w p round seats q raced.
    let i = raced_in_order (g.P.Program.meaning program) (g.P.Program.fits program) s w p round seats q
    c.args.marks.now c.args.moves.now.items (reverse c.as_slice.result.now) c.args.rest.now
    (g.met.P.Program.lawful program) c.has_parts.ensures raced are in
    round_came (g.P.Program.meaning program) s w seats q c.args.moves.now.items (reverse c.as_slice.result.now)
    c.note_turns.new.noted.items c.args.rest.now c.note_turns.new.rest raced.rests.inputs.meaning i
    (notes s w i.there i.drawn i.draws raced.rests raced.up i.pending)) c.note_turns.ensures.on

pub returns-clause-limit : goal.returns-clause-limit
returns-clause-limit g c limit next is s w p round seats q raced =
    let program = c.args.rest.now.program in
    let are = subst (λ l. AreTurns c.args.marks.now (lengths c.args.marks.now) (reverse l)) (sym c.as_slice.ensures)
    c.in_ok-turns.ensures in
    let i = raced_in_order (g.P.Program.meaning program) (g.P.Program.fits program) s w p round seats q
    c.args.marks.now c.args.moves.now.items (reverse c.as_slice.result.now) c.args.rest.now
    (g.met.P.Program.lawful program) c.has_parts.ensures raced are in
    round_stopped s w seats q c.args.moves.now.items (reverse c.as_slice.result.now) c.args.rest.now
    c.note_turns.new.noted.items limit next i
    (c.note_turns.ensures.limit limit next is s w i.there i.drawn i.draws raced.rests raced.up i.pending)
