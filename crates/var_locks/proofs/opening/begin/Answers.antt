use Rattle.std.proofs.Common.{refl, ap, length, ◌∙◌}
use Rattle.master_core.specs.Mastered.{master_of}
use Rattle.var_locks.proofs.FirstWords.{round_of, vars_of}
use Rattle.var_locks.proofs.opening.begin.Goals as goal

pub open_round-requires-clause-opens : goal.open_round-requires-clause-opens
open_round-requires-clause-opens g c κs within =
    rw c.in_ok-slots.ensures (master_of c.args.parts.vars.items c.args.parts.threads.items, c.requires.opens)

pub seat_all-requires-clause-of : goal.seat_all-requires-clause-of
seat_all-requires-clause-of g c κs within = round_of g.P.Program.meaning g.P.Program.fits g.row.P.coded
    g.row.P-Value.coded g.J.Round.program g.J.Round.opening g.J.Round.threads g.J.Round.places c.args.program.now
    c.requires.of c.args.parts.vars.items c.args.parts.threads.items c.args.words.now c.requires.opens
    c.in-Ok.table.shared.table_id.words c.in-Ok.ensures.same.1

pub returns-clause-vars : goal.returns-clause-vars
returns-clause-vars g c =
    vars_of g.P.Program.meaning g.P.Program.fits g.row.P.coded g.row.P-Value.coded g.J.Round.program g.J.Round.opening
    g.J.Round.threads g.J.Round.places c.args.program.now c.requires.of c.args.parts.vars.items
    c.args.parts.threads.items c.args.words.now c.requires.opens c.in-Ok.table.shared.table_id.words
    c.in-Ok.ensures.same.1 c.in-Ok.table.shared.table_id refl c.args.vars c.len-threads.result
    (c.in-Ok.ensures.same.2 ∙ ap length c.in_ok-slots.ensures)
    c.requires.vars.0 c.requires.vars.1 (c.len-threads.ensures ∙ c.args.parts.threads.ok.0) c.requires.some
