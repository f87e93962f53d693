use Rattle.std.proofs.Common.{◌≡◌, [], ◌∷◌, arith, length}
use Rattle.output_files.specs.Writes.{Appends}
use Rattle.output_files.proofs.Effects.{err_gathers, begun_before, nothing_gathered, gathers_behind, keeps_all}
use Rattle.output_files.proofs.Effects.{keeps_both, appends_to}
use Rattle.run_writes.proofs.OutputRecords.{none_fit, no_records}
use Rattle.run_writes.proofs.replying.write_outputs.Goals as goal

pub returns-then-is_empty-clause-fit_records : goal.returns-then-is_empty-clause-fit_records
returns-then-is_empty-clause-fit_records g c =
    let none : length c.args.outputs.now ≡ 0 = grind arith in
    none_fit _ none

pub returns-then-is_empty-clause-shows : goal.returns-then-is_empty-clause-shows
returns-then-is_empty-clause-shows g c p h before writes name is gathered =
    let none : length c.args.outputs.now ≡ 0 = grind arith in
    nothing_gathered writes _ name _ before _ (no_records _ none) gathered

pub returns-in_err-write_lines-clause-shows : goal.returns-in_err-write_lines-clause-shows
returns-in_err-write_lines-clause-shows g c p h before writes name is gathered =
    err_gathers _ _ _ before _ c.from_residual.ensures.0 (begun_before writes (Appends name _ ∷ [])
    before _ (c.in_err-write_lines.ensures.shows p h before writes gathered))

pub returns-clause-shows : goal.returns-clause-shows
returns-clause-shows g c p h before writes name is gathered =
    let lines = c.append_outputs.ensures.before p h in
    gathers_behind _ writes _ _ before _ _ c.in_ok-write_lines.ensures.none
    (c.in_ok-write_lines.ensures.shows p lines before writes gathered)
    (appends_to _ _ name _ _ _ (c.in_ok-write_lines.ensures.keeps p lines _ name is)
    (c.append_outputs.ensures.shows p h))

pub returns-clause-keeps : goal.returns-clause-keeps
returns-clause-keeps g c p h =
    keeps_both _ _ _ (c.in_ok-write_lines.ensures.keeps p (c.append_outputs.ensures.before p h))
    (keeps_all _ _ _ _ _ (c.append_outputs.ensures.shows p h))
