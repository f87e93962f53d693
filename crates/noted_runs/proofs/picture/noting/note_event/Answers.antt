use Rattle.std.proofs.Common.{◌∙◌}
use Rattle.noted_runs.proofs.MovesNoted.{fed_so, long_so, movers_so, note_is, released_so}
use Rattle.noted_runs.proofs.picture.noting.note_event.Goals as goal

pub returns : goal.returns
returns g c = λ s w freed are stands same.
    let schedule = c.moves-moves.ensures s w stands.parts in
    note_is c.args.event.now c.args.reply.outcome freed w c.in_ok-line.line c.saturating_sub-kept.result
    c.count_moves.result c.in_ok-made.made c.in_ok-movers.movers c.len-many.result c.saturating_sub.result c.len.result
    c.waiting.result c.up.result c.epoch.result
    (c.in_ok-line.ensures freed same) c.saturating_sub-kept.ensures c.count_moves.ensures
    (c.in_ok-made.ensures s w are stands.parts.sound schedule)
    (movers_so w c.moves-moves.result.now c.saturating_sub-kept.result c.in_ok-movers.movers schedule
    c.in_ok-movers.ensures)
    (long_so w c.moves-moves.result.now c.len-many.result c.len-many.ensures schedule)
    (c.saturating_sub.ensures ∙ fed_so (g.P.Program.meaning c.args.program.now) c.args.inputs.now s w c.fed.result
    c.left.result are stands.parts.sound c.fed.ensures (c.left.ensures s w stands.parts))
    (released_so w c.released.result.now c.len.result c.len.ensures (c.released.ensures w stands.released))
    (c.waiting.ensures s w stands.parts) (c.up.ensures c.requires s w stands.parts) (c.epoch.ensures s w stands.parts)
