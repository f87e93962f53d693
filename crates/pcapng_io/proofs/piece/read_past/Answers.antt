use Rattle.std.proofs.Common.{[], ◌++◌, take, arith, length-append, sym, ◌∙◌, refl}
use Rattle.std.proofs.lemmas.Grind.{common_steps}
use Rattle.std.proofs.lemmas.List.{length-take}
use Rattle.world_io.proofs.GoingOn.{GoesOn-trans}
use Rattle.pcapng_io.proofs.piece.read_past.Goals as goal

pub loop-done-preserved : goal.loop-done-preserved
loop-done-preserved g c =
    let inv = c.loop-done.invariant in
    let source = g.S.Source in
    record {
      taken = (
        inv.taken.0 ++ take c.in-Got.got c.fill.new.piece,
        g.met.S.Source.reads_more _ _ _ _ _ inv.taken.1 c.in-Got.ensures.reads,
        omega (
          arith,
          inv.taken.2,
          length-append inv.taken.0 (take c.in-Got.got c.fill.new.piece),
          length-take c.in-Got.got c.fill.new.piece,
          c.in-Got.ensures.count.0,
          c.fill.auto.piece,
        ),
      );
      within = grind (arith, common_steps, c.fill.auto.piece, c.in-Got.ensures.count);
      goes_on = GoesOn-trans g.S.Source.faults g.S.Source.healthy _ _ _ inv.goes_on c.in-Got.ensures.goes_on;
    }

pub returns-in-End-clause-taken : goal.returns-in-End-clause-taken
returns-in-End-clause-taken g c =
    let inv = c.loop-done.invariant in (
      _,
      g.met.S.Source.reads_more _ _ _ _ _ inv.taken.1 c.in-End.ensures.reads,
      omega (arith, inv.taken.2, length-append inv.taken.0 []),
    )

pub returns-in-Failed-clause-taken : goal.returns-in-Failed-clause-taken
returns-in-Failed-clause-taken g c =
    (_, g.met.S.Source.reads_more _ _ _ _ _ c.loop-done.invariant.taken.1 c.in-Failed.ensures.reads)

pub returns-in-End-clause-runs_out : goal.returns-in-End-clause-runs_out
returns-in-End-clause-runs_out g c p h fewer =
    sym (g.met.S.Source.reads_shown p _ _ _ h c.in-End.ensures.reads) ∙ c.in-End.ensures.ends p h refl
