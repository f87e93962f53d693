use Rattle.std.proofs.Common.{◌≡◌, ◌<◌, sym, ap, subst, arith}
use Rattle.system_parts.proofs.ReadLemmas.{part_with, shown_moves}
use Rattle.single_events.proofs.showing.show.Goals as goal

pub show-requires : goal.show-requires
show-requires g c =
    subst (λ x. g.P.Program.fits c.core.inside.program c.args.var x)
    (sym (c.value-value.ensures (part_with c.value-value.result.now)))
    (c.core.invariant.fits.fit c.args.var (part_with c.value-value.result.now) (omega arith))

pub returns : goal.returns
returns g c = record {
  on =
      let program = ap (λ q. q.program) c.core.view_is in
      let low : c.args.var < (g.P.Program.meaning c.core.inside.program).vars = omega arith in
      shown_moves (g.P.Program.meaning c.args.core.now.program) c.args.var c.value-value.result.now c.in_ok-show.field-0
      (part_with c.value-value.result.now) c.core.view_is
      (subst (λ p. c.args.var < (g.P.Program.meaning p).vars) program low)
      (c.value-value.ensures (part_with c.value-value.result.now)) c.if-not-core.false
      (subst (λ p. c.in_ok-show.field-0 ≡ (g.P.Program.meaning p).shown c.args.var c.value-value.result.now) program
      c.in_ok-show.ensures);
}
