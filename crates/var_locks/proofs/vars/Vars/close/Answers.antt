use Rattle.std.proofs.Common.{List, length, sym, ap, ◌∙◌, subst}
use Rattle.std.specs.Mem.Slots.{slots_items}
use Rattle.master_core.specs.declared.parts.VarPart.{VarPart}
use Rattle.master_core.specs.declared.parts.ThreadPart.{ThreadPart}
use Rattle.master_core.specs.Mastered.{Mastered, IsBounded}
use Rattle.var_locks.specs.Rounds.{Opened, AreVarsOf}
use Rattle.var_locks.specs.Closing.{IsClosed, AreSeats}
use Rattle.var_locks.proofs.Ending.{final_closed}
use Rattle.var_locks.proofs.vars.Vars.close.Goals as goal

pub of_parts-master-requires-after_bounds : goal.of_parts-master-requires-after_bounds
of_parts-master-requires-after_bounds g c κs within =
    let are =
    subst (λ (x : Opened). AreVarsOf g.P.Program.meaning g.row.P.coded g.row.P-Value.coded c.args.program.now x)
    (sym c.self.view_is) c.requires.of in
    let of = are.of in
    let all = c.in_ok-all.all in
    let token = c.in_ok-all.ensures.token in
    let closed = final_closed g.P.Program.meaning g.P.Program.fits g.row.P.coded g.row.P-Value.coded g.J.Round.program
    g.J.Round.opening g.J.Round.guide c.args.program.now of.is of.master of.opens all.token.id all.token.me.0
    (slots_items c.close_with-closed.result.words) (slots_items c.close_with-closed.result.slots)
    c.close_with-closed.ensures.values.2 token.1 c.self.inside.table.shared.table_id c.args.seats.items
    (subst (λ (x : Opened). AreSeats x.round 0 c.args.seats.items) (sym c.self.view_is) c.requires.seats) token.2
    (c.requires.count
    ∙ (sym (ap (λ (x : Opened). x.threads) c.self.view_is)
    ∙ (are.threads_are ∙ ap (λ (l : List ThreadPart). length l) (sym of.threads)))) in
    subst (λ (l : List (VarPart g.row.P-Value.Denot)). IsBounded l all.parts.items) (sym c.take_out-vars.ensures)
    (subst (λ (l : List ThreadPart). IsBounded (slots_items c.close_with-closed.result.slots) l)
    (sym c.in_ok-all.ensures.parts) closed.bounded)

pub returns-clause-closed : goal.returns-clause-closed
returns-clause-closed g c p code threads =
    let are =
    subst (λ (x : Opened). AreVarsOf g.P.Program.meaning g.row.P.coded g.row.P-Value.coded c.args.program.now x)
    (sym c.self.view_is) c.requires.of in
    let of = are.of in
    let all = c.in_ok-all.all in
    let token = c.in_ok-all.ensures.token in
    let closed = final_closed g.P.Program.meaning g.P.Program.fits g.row.P.coded g.row.P-Value.coded g.J.Round.program
    g.J.Round.opening g.J.Round.guide c.args.program.now of.is p code all.token.id all.token.me.0
    (slots_items c.close_with-closed.result.words) (slots_items c.close_with-closed.result.slots)
    c.close_with-closed.ensures.values.2 token.1 c.self.inside.table.shared.table_id c.args.seats.items
    (subst (λ (x : Opened). AreSeats x.round 0 c.args.seats.items) (sym c.self.view_is) c.requires.seats) token.2
    (c.requires.count
    ∙ (sym (ap (λ (x : Opened). x.threads) c.self.view_is)
    ∙ (are.threads_are ∙ ap (λ (l : List ThreadPart). length l) (sym threads)))) in
    subst (λ (q : Mastered g.row.P-Value.Denot). IsClosed (g.P.Program.meaning c.args.program.now)
    (g.P.Program.fits c.args.program.now) g.J.Round.guide p c.args.seats.items q) (sym c.of_parts-master.ensures)
    (subst (λ (l : List (VarPart g.row.P-Value.Denot)).
    IsClosed (g.P.Program.meaning c.args.program.now) (g.P.Program.fits c.args.program.now) g.J.Round.guide p
    c.args.seats.items (record { vars = l; threads = all.parts.items })) (sym c.take_out-vars.ensures)
    (subst (λ (l : List ThreadPart).
    IsClosed (g.P.Program.meaning c.args.program.now) (g.P.Program.fits c.args.program.now) g.J.Round.guide p
    c.args.seats.items (record { vars = slots_items c.close_with-closed.result.slots; threads = l }))
    (sym c.in_ok-all.ensures.parts) closed))
