use Rattle.std.proofs.Common.{◌≡◌, ◌<◌, ◌≤◌, ◌+◌, ℕ, length, ap, ◌∙◌, subst, arith, true, false}
use Rattle.std.specs.Prelude.{slice_index_or}
use Rattle.handover_world.specs.declared.fault.ResumeError.{ResumeError}
use Rattle.handover_world.specs.declared.fault.ResumeError.TheVariants.{Released}
use Rattle.system_parts.specs.Performing.{MovesOn}
use Rattle.system_images.specs.Building.{IsWrongBy, ReleasesOne}
use Rattle.system_images.proofs.BuildingLemmas.{releases_all, releases_more, releases_wrong}
use Rattle.system_images.proofs.building.release_all.Goals as goal

-- an output for a place that is not there
abbrev no_output : ℕ × ℕ
no_output = (0, 0)

pub returns-then-not-branch-clause-faults : goal.returns-then-not-branch-clause-faults
returns-then-not-branch-clause-faults g c = λ error is s w st fed epoch past h.
    let same = c.as_slice-output-items.ensures in
    let long = ap length same in
    let low = c.loop-index-test.true in
    let output = slice_index_or c.as_slice-output-items.result.now c.loop-index.index no_output in
    let e : Released (c.loop-index.index + 1) ≡ error = cc in
    subst (λ (x : ResumeError). IsWrongBy c.args.outputs.now past x) e
    (releases_wrong g.P.Program.meaning c.args.outputs.now c.loop-index.index no_output output
    (omega (arith, low, long)) (ap (λ l. slice_index_or l c.loop-index.index no_output) same) c.args.core.now
    c.loop-index.core c.release_one.new.core c.loop-index.invariant
    (subst (λ b. MovesOn (g.P.Program.meaning c.loop-index.core.program) (ReleasesOne output.0 output.1 b)
    c.loop-index.core c.release_one.new.core) c.if-not-branch.true c.in_ok-release_one.ensures) s w st fed epoch past h)

pub loop-index-preserved : goal.loop-index-preserved
loop-index-preserved g c =
    let same = c.as_slice-output-items.ensures in
    let long = ap length same in
    let low = c.loop-index-test.true in
    let output = slice_index_or c.as_slice-output-items.result.now c.loop-index.index no_output in
    releases_more g.P.Program.meaning c.args.outputs.now c.loop-index.index no_output output
    (omega (arith, low, long)) (ap (λ l. slice_index_or l c.loop-index.index no_output) same) c.args.core.now
    c.loop-index.core c.release_one.new.core c.loop-index.invariant
    (subst (λ b. MovesOn (g.P.Program.meaning c.loop-index.core.program) (ReleasesOne output.0 output.1 b)
    c.loop-index.core c.release_one.new.core) c.if-not-branch.false c.in_ok-release_one.ensures)

pub returns-clause-good : goal.returns-clause-good
returns-clause-good g c =
    let long = ap length c.as_slice-output-items.ensures in
    let high = c.loop-index-test.false in
    releases_all g.P.Program.meaning c.args.outputs.now c.loop-index.index c.args.core.now c.loop-index.core
    (omega (arith, high, long)) c.loop-index.invariant
