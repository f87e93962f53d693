use Rattle.std.proofs.Common.{◌<◌, ◌↔◌, ℕ, List, length, refl, subst}
use Rattle.plain_text.specs.declared.limit.TheConstants.{MOST_EVENTS}
use Rattle.plain_text.specs.LineFiles.{count_of}
use Rattle.plain_text.proofs.WholeFiles.{count_is_length, either, not_both, one_file, one_fault, too_many}
use Rattle.plain_text.proofs.WholeFiles.{too_many_before}
use Rattle.plain_machine.specs.declared.plain_move.PlainMove.{PlainMove}
use Rattle.plain_player.specs.Schedules.{schedule_form, HasTooMany}
use Rattle.plain_player.proofs.OneMove.{moves_are_decisive}
use Rattle.plain_player.proofs.laws.a_text_is_one_schedule_or_has_a_fault.Goals as goal

-- each move counts as one
by_length : (text : List ℕ) (moves : List PlainMove) → HasTooMany text ↔ (MOST_EVENTS < count_of schedule_form moves)
    → HasTooMany text ↔ (MOST_EVENTS < length moves)
by_length text moves by_count =
    subst (λ (n : ℕ). HasTooMany text ↔ (MOST_EVENTS < n))
    (count_is_length schedule_form (λ plain. refl) moves) by_count

pub returns-clause-either : goal.returns-clause-either
returns-clause-either c = either schedule_form moves_are_decisive

pub returns-clause-not_both : goal.returns-clause-not_both
returns-clause-not_both c = not_both schedule_form moves_are_decisive

pub returns-clause-one_schedule : goal.returns-clause-one_schedule
returns-clause-one_schedule c = one_file schedule_form moves_are_decisive

pub returns-clause-one_fault : goal.returns-clause-one_fault
returns-clause-one_fault c = one_fault schedule_form moves_are_decisive

pub returns-clause-too_many : goal.returns-clause-too_many
returns-clause-too_many c = λ text moves is.
    by_length text moves (too_many schedule_form moves_are_decisive MOST_EVENTS text moves is)

pub returns-clause-too_many_before : goal.returns-clause-too_many_before
returns-clause-too_many_before c = λ text number cause first.
    by_length text first.things (too_many_before schedule_form moves_are_decisive MOST_EVENTS text number cause first)
