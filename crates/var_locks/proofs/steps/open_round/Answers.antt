use Rattle.std.proofs.Common.{subst, List}
use Rattle.master_core.specs.declared.parts.VarPart.{VarPart}
use Rattle.master_core.specs.declared.parts.ThreadPart.{ThreadPart}
use Rattle.atomic_table.specs.Table.{opening}
use Rattle.var_locks.specs.Views.{first_view}
use Rattle.var_locks.specs.Told.{IsTold}
use Rattle.var_locks.proofs.Naming.{told_of}
use Rattle.var_locks.proofs.Beginning.{told_opens}
use Rattle.var_locks.proofs.steps.open_round.Goals as goal

pub new-requires : goal.new-requires
new-requires g c =
    let p = c.requires.opens.0 in
    let h = c.requires.opens.1 in
    told_of g.P.Program.meaning g.P.Program.fits g.row.P.coded g.row.P-Value.coded g.J.Round.program g.J.Round.opening
    g.J.Round.guide c.args.program.now p c.requires.of h.code _
    (subst (λ (l : List (VarPart g.row.P-Value.Denot)).
    IsTold (g.P.Program.meaning c.args.program.now) (g.P.Program.fits c.args.program.now) g.J.Round.guide p
    (opening c.args.words.now l (first_view g.J.Round.threads g.J.Round.places))) h.vars_are
    (subst (λ (l : List ThreadPart).
    IsTold (g.P.Program.meaning c.args.program.now) (g.P.Program.fits c.args.program.now) g.J.Round.guide p
    (opening c.args.words.now p.vars (first_view l g.J.Round.places))) h.threads_are
    (told_opens (g.P.Program.meaning c.args.program.now) (g.P.Program.fits c.args.program.now) g.J.Round.guide p
    h.bounded h.fit c.args.words.now g.J.Round.places h.first h.places_are)))
