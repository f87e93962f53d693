use Rattle.std.proofs.Common.{List, ℕ, sym, subst, arith, refl, ◌∙◌}
use Rattle.std.proofs.lemmas.Grind.{common_steps}
use Rattle.world_io.proofs.Filling.{take-put_mid_more, take-put_mid}
use Rattle.world_io.proofs.GoingOn.{GoesOn-trans}
use Rattle.world_io.proofs.piece.fill_piece.Goals as goal

pub loop-done-preserved : goal.loop-done-preserved
loop-done-preserved g c =
    let inv = c.loop-done.invariant in
    let source = g.S.Source in
    record {
      taken =
          rw (take-put_mid_more c.loop-done.done _ c.in-Got.count c.loop-done.piece c.fill.new.piece inv.within
          (grind (arith, common_steps, c.fill.auto.piece, c.in-Got.ensures.count)))
          (g.met.S.Source.reads_more _ _ _ _ _ inv.taken c.in-Got.ensures.reads);
      within = grind (arith, common_steps, c.fill.auto.piece, c.in-Got.ensures.count);
      bytes = λ k. omega (arith, c.type_inv.piece k);
      goes_on = GoesOn-trans g.S.Source.faults g.S.Source.healthy _ _ _ inv.goes_on c.in-Got.ensures.goes_on;
    }

pub returns-in-End-clause-taken : goal.returns-in-End-clause-taken
returns-in-End-clause-taken g c =
    let inv = c.loop-done.invariant in
    let Taken : List ℕ → Type 0 = λ taken. g.S.Source.reads c.args.source.now taken c.fill.new.self in
    subst Taken (sym (take-put_mid c.loop-done.done _ c.loop-done.piece c.fill.new.piece inv.within))
    (g.met.S.Source.reads_more _ _ _ _ _ inv.taken c.in-End.ensures.reads)

pub returns-in-Failed-clause-taken : goal.returns-in-Failed-clause-taken
returns-in-Failed-clause-taken g c =
    (_, g.met.S.Source.reads_more _ _ _ _ _ c.loop-done.invariant.taken c.in-Failed.ensures.reads)

pub returns-in-End-clause-runs_out : goal.returns-in-End-clause-runs_out
returns-in-End-clause-runs_out g c p h short =
    sym (g.met.S.Source.reads_shown p _ _ _ h c.in-End.ensures.reads) ∙ c.in-End.ensures.ends p h refl
