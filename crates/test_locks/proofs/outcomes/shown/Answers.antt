use Rattle.std.proofs.Common.{[], sym, subst, arith}
use Rattle.master_core.specs.declared.parts.VarPart.{VarPart}
use Rattle.test_locks.proofs.outcomes.shown.Goals as goal

-- a variable's part with this value
abbrev part_with : {V : Type 0} → V → VarPart V
part_with value = record { value = value; places = 0; stamp = []; readers = [] }

pub show-requires : goal.show-requires
show-requires g c =
    let part = part_with c.value.result.now in
    subst (λ x. g.P.Program.fits c.args.program.now c.args.var x) (sym (c.value.ensures part))
    (c.requires.fits.fit c.args.var part (omega arith))
