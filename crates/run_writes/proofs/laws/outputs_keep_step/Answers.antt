use Rattle.std.proofs.Common.{List, [], append-nil, sym, ◌∙◌, subst}
use Rattle.output_files.specs.Writes.{Write, IsCut}
use Rattle.run_writes.proofs.KeepingStep.{keeps_step, have_lines}
use Rattle.run_writes.proofs.laws.outputs_keep_step.Goals as goal

pub returns-clause-some : goal.returns-clause-some
returns-clause-some g c = λ s names events writes done apart w cut.
    keeps_step names s.fractions apart w.replies [] done (have_lines s w.before w.replies w.world w.answers) tt
    (subst (λ (ws : List Write). IsCut done ws) (w.writes_are ∙ sym (append-nil _)) cut)

pub returns-clause-until : goal.returns-clause-until
returns-clause-until g c = λ s names events limit writes done apart w cut.
    keeps_step names s.fractions apart w.replies _ done (have_lines s w.before w.replies w.there w.answers) tt
    (subst (λ (ws : List Write). IsCut done ws) w.writes_are cut)

pub returns-clause-all : goal.returns-clause-all
returns-clause-all g c = λ s names events writes done apart w cut.
    keeps_step names s.fractions apart w.replies _ done (have_lines s events w.replies w.world w.answers) tt
    (subst (λ (ws : List Write). IsCut done ws) w.writes_are cut)
