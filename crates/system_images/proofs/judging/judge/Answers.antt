use Rattle.std.proofs.Common.{◌≡◌, sym, subst, ◌∙◌}
use Rattle.handover_world.specs.Faults.{IsFault}
use Rattle.handover_world.specs.declared.fault.ResumeError.TheVariants.{Count, Move}
use Rattle.system_images.proofs.FarLemmas.{far_on_fed, first_illegal, first_row, plays_whole, row_of_setting}
use Rattle.system_images.proofs.FarLemmas.{too_many_bytes}
use Rattle.system_images.proofs.judging.judge.Goals as goal

pub returns-then-far-image-clause-faults : goal.returns-then-far-image-clause-faults
returns-then-far-image-clause-faults g c = λ error is s w st fed counts.
    let e : Count 0 ≡ error = cc in
    subst (λ x. IsFault s c.args.image.now x) e
    (too_many_bytes s c.args.image.now c.in_ok-far.far
    (far_on_fed g.P.Program.meaning _ c.args.core.now c.core.view_is s w st c.args.image.now fed c.in_ok-far.far
    c.in_ok-far.ensures) counts c.if-far-image.true)

pub returns-in-Some-clause-faults : goal.returns-in-Some-clause-faults
returns-in-Some-clause-faults g c = λ error is s w st fed counts.
    let e : Count c.in-Some.place ≡ error = cc in
    subst (λ x. IsFault s c.args.image.now x) e
    (first_row s c.args.image.now c.in_ok-far.far
    (far_on_fed g.P.Program.meaning _ c.args.core.now c.core.view_is s w st c.args.image.now fed c.in_ok-far.far
    c.in_ok-far.ensures) counts c.if-far-image.false c.in-Some.place
    (row_of_setting g.P.Program.meaning _ c.args.core.now c.core.view_is s w st c.args.image.now fed c.threads.result
    c.wrong_row.result c.threads.ensures.value c.wrong_row.ensures ∙ c.in-Some.is))

pub returns-in-Some-fault-clause-faults : goal.returns-in-Some-fault-clause-faults
returns-in-Some-fault-clause-faults g c = λ error is s w st fed counts.
    let e : Move c.in-Some-fault.fault ≡ error = cc in
    subst (λ x. IsFault s c.args.image.now x) e
    (first_illegal s c.args.image.now c.in_ok-far.far
    (far_on_fed g.P.Program.meaning _ c.args.core.now c.core.view_is s w st c.args.image.now fed c.in_ok-far.far
    c.in_ok-far.ensures) counts c.if-far-image.false
    (row_of_setting g.P.Program.meaning _ c.args.core.now c.core.view_is s w st c.args.image.now fed c.threads.result
    c.wrong_row.result c.threads.ensures.value c.wrong_row.ensures ∙ c.in_default.is) c.in-Some-fault.fault
    c.in-Some-fault.is)

pub returns-clause-good : goal.returns-clause-good
returns-clause-good g c = λ s w st fed counts.
    plays_whole s c.args.image.now c.in_ok-far.far
    (far_on_fed g.P.Program.meaning _ c.args.core.now c.core.view_is s w st c.args.image.now fed c.in_ok-far.far
    c.in_ok-far.ensures) counts c.if-far-image.false
    (row_of_setting g.P.Program.meaning _ c.args.core.now c.core.view_is s w st c.args.image.now fed c.threads.result
    c.wrong_row.result c.threads.ensures.value c.wrong_row.ensures ∙ c.in_default.is) c.in_default-fault.is
