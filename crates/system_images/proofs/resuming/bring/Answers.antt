use Rattle.std.proofs.lemmas.Result.{err_from_is_err_and}
use Rattle.system_parts.proofs.EventChains.{exits_as}
use Rattle.system_images.specs.Building.{Prepares}
use Rattle.system_images.proofs.BuildingLemmas.{some_then}
use Rattle.system_images.proofs.ResumingLemmas.{brings, brings_wrong}
use Rattle.system_images.proofs.resuming.bring.Goals as goal

pub build-requires-clause-stands : goal.build-requires-clause-stands
build-requires-clause-stands g c κs within =
    some_then g.P.Program.meaning (Prepares c.args.image.now) c.args.core.now c.prepare.new.core
    c.in_ok-prepare.ensures.good c.requires.stands

pub returns-in_err-build-clause-faults : goal.returns-in_err-build-clause-faults
returns-in_err-build-clause-faults g c = λ error is s st.
    let p = err_from_is_err_and c.from_residual-in_err-build.result c.from_residual-in_err-build.ensures.1 in
    let made = exits_as c.build.result c.from_residual-in_err-build.result c.in_err-build.field-0.0 p.0 error
    c.in_err-build.was p.1 p.2 is in
    brings_wrong g.P.Program.meaning c.args.image.now c.args.core.now c.prepare.new.core c.in_ok-prepare.ensures.good
    error (c.build.ensures.faults error made) s st

pub returns-clause-resumes : goal.returns-clause-resumes
returns-clause-resumes g c = λ s st same.
    brings g.P.Program.meaning c.args.image.now c.args.seed c.args.core.now c.prepare.new.core c.build.new.core
    c.set_counts.new.core c.in_ok-prepare.ensures.good c.in_ok-build.ensures.good c.in_ok-set_counts.ensures.sets s st
    same
