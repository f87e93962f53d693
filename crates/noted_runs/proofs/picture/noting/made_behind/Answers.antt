use Rattle.std.proofs.Common.{◌<◌, ◌≤◌, ◌⊎◌, arith, length, inl, inr}
use Rattle.noted_runs.proofs.MovesNoted.{behind_known, nothing_noted}
use Rattle.noted_runs.proofs.picture.noting.made_behind.Goals as goal
use Rattle.noted_runs.proofs.picture.noting.made_behind.Goals.{then-many-gt-MOST_NOTED-via-then-many-gt-MOST_NOTED}
use Rattle.noted_runs.proofs.picture.noting.made_behind.Goals.{then-many-gt-MOST_NOTED-via-else-many-gt-MOST_NOTED+then-kept-many}

pub returns-then-many-gt-MOST_NOTED : goal.returns-then-many-gt-MOST_NOTED
returns-then-many-gt-MOST_NOTED g c = λ s w are sound same.
    nothing_noted w c.args.moves.now c.args.kept c.new.result same
    (elim c.then-many-gt-MOST_NOTED.branch as
    (λ _. (400 < length c.args.moves.now) ⊎ (length c.args.moves.now ≤ c.args.kept)) [
      | then-many-gt-MOST_NOTED-via-then-many-gt-MOST_NOTED k ↦
          inl (omega (arith, c.len-many.ensures, k.if-many-gt-MOST_NOTED.true))
      | then-many-gt-MOST_NOTED-via-else-many-gt-MOST_NOTED+then-kept-many k ↦
          inr (omega (arith, c.len-many.ensures, k.if-kept-many.true))
    ]) c.new.ensures

pub returns : goal.returns
returns g c =
    behind_known (g.P.Program.meaning c.args.program.now) c.args.inputs.now c.args.moves.now c.args.kept
    (omega (arith, c.len-many.ensures, c.if-many-gt-MOST_NOTED.false)) c.in_ok-made.made c.in_ok-made.ensures
    c.as_slice.result.now c.as_slice.ensures c.behind.result c.behind.ensures
