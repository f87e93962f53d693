use Rattle.std.proofs.Common.{sym, subst}
use Rattle.system_parts.specs.Views.{parts_in}
use Rattle.system_images.specs.Building.{Resumes}
use Rattle.system_images.proofs.ResumingLemmas.{counts_set, with_counts}
use Rattle.system_images.proofs.resuming.set_counts.Goals as goal

pub returns-clause-sets : goal.returns-clause-sets
returns-clause-sets g c = λ s w st same played h released.
    subst (λ z. Resumes {P = g.row.P.Denot} (g.P.Program.meaning c.args.core.now.program) s c.args.image.now
    (with_counts c.in_ok-ended.ended.items z c.args.image.now (parts_in c.core.inside)))
    (sym c.words_behind-core-inside.ensures)
    (counts_set (g.P.Program.meaning c.args.core.now.program) (parts_in c.core.inside) c.args.core.now c.core.view_is s
    w st c.args.image.now played h c.args.seed same c.threads.result c.threads.ensures.value
    c.in_ok-ended.ended.items c.in_ok-ended.ensures released)
