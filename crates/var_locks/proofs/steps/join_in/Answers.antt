use Rattle.std.proofs.Common.{rules}
use Rattle.var_locks.specs.Views.{joined_view, spent_view}
use Rattle.var_locks.proofs.Seating.{joins}
use Rattle.var_locks.proofs.Naming.{joins_of}
use Rattle.var_locks.proofs.steps.join_in.Goals as goal

pub join_seat-requires : goal.join_seat-requires
join_seat-requires g c =
    let q = c.args.program.now in
    let of = c.requires.of in (
      search rules,
      search rules,
      search rules,
      search rules,
      joins_of g.P.Program.meaning g.P.Program.fits g.row.P.coded g.row.P-Value.coded g.J.Round.program
          g.J.Round.opening g.J.Round.guide q of.master of.is of.opens c.args.token.now.id c.args.token.now.me.0
          c.args.other.id c.args.other.me.0 (joined_view c.args.token.now.me.0 c.args.other.me.0) spent_view
          (joins (g.P.Program.meaning q) (g.P.Program.fits q) g.J.Round.guide of.master c.args.token.now.id
          c.args.other.id c.args.token.now.me.0 c.args.other.me.0 c.requires.empty c.requires.other.0),
    )
