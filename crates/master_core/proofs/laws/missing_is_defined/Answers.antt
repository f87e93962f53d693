use Rattle.std.proofs.Common.{slice_index, sym, ◌∙◌}
use Rattle.plain_machine.specs.History.{log_of}
use Rattle.plain_machine.proofs.Histories.{history_log, earlier_log}
use Rattle.entry_order.proofs.Missing.{due_within, within_due, first_missing}
use Rattle.master_core.specs.Holding.{held_entries}
use Rattle.master_core.proofs.Frontiers.{frontier_of, frontier_is, within_frontiers, frontiers_within}
use Rattle.master_core.proofs.Frontiers.{frontiers_are_defined}
use Rattle.master_core.proofs.Moments.{moment_log}
use Rattle.master_core.proofs.laws.missing_is_defined.Goals as goal

pub returns-clause-due : goal.returns-clause-due
returns-clause-due g c = λ m inputs threads steps earlier held t n stamp h before holds st.
    let good = history_log m inputs threads steps h in
    let fr = frontiers_are_defined (log_of steps) (log_of earlier) held good
    (moment_log m inputs threads steps earlier h before) (λ e here. earlier_log earlier steps e before here) holds in (
      λ within. due_within (log_of steps) (log_of earlier) (held_entries held) t n (λ u. slice_index stamp u)
          (frontier_of held) good st fr (within_frontiers held stamp within),
      λ due. frontiers_within held stamp (within_due (log_of steps) (log_of earlier) (held_entries held) t n
          (λ u. slice_index stamp u) (frontier_of held) good st fr due),
    )

pub returns-clause-named : goal.returns-clause-named
returns-clause-named g c = λ m inputs threads steps earlier held t n stamp u k h before holds st first.
    let good = history_log m inputs threads steps h in
    let fr = frontiers_are_defined (log_of steps) (log_of earlier) held good
    (moment_log m inputs threads steps earlier h before) (λ e here. earlier_log earlier steps e before here) holds in
    let above = first.above (frontier_of held u) (frontier_is held u) in
    let r = first_missing (log_of steps) (log_of earlier) (held_entries held) t n (λ u. slice_index stamp u)
    (frontier_of held) u good st fr above.0 (λ w low. first.least w (frontier_of held w) low (frontier_is held w)) in
    (r.0, r.1, r.2, r.3 ∙ sym above.1)
