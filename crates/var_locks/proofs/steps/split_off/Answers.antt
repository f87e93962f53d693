use Rattle.std.proofs.Common.{rules}
use Rattle.var_locks.specs.Views.{first_share, other_shares}
use Rattle.var_locks.proofs.Seating.{splits}
use Rattle.var_locks.proofs.Naming.{splits_of}
use Rattle.var_locks.proofs.steps.split_off.Goals as goal

pub split_seat-requires : goal.split_seat-requires
split_seat-requires g c =
    let q = c.args.program.now in
    let of = c.requires.of in
    let h = c.requires.first in (
      search rules,
      search rules,
      splits_of g.P.Program.meaning g.P.Program.fits g.row.P.coded g.row.P-Value.coded g.J.Round.program
          g.J.Round.opening g.J.Round.guide q of.master of.is of.opens c.args.token.now.id c.args.token.now.me.0
          (other_shares c.args.token.now.me.0) (first_share c.args.token.now.me.0)
          (splits (g.P.Program.meaning q) (g.P.Program.fits q) g.J.Round.guide of.master c.args.token.now.id
          c.args.token.now.me.0 h.0 h.1 h.2 h.3),
    )
