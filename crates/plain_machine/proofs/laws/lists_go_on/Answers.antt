use Rattle.std.proofs.Common.{[], ◌∷◌, Ok, ap, ◌∙◌, refl}
use Rattle.plain_machine.specs.History.{and_move}
use Rattle.plain_machine.proofs.Histories.{earlier_history}
use Rattle.plain_machine.proofs.PlayedLists.{play_append, play_prefix}
use Rattle.plain_machine.proofs.laws.lists_go_on.Goals as goal

pub returns-clause-appended : goal.returns-clause-appended
returns-clause-appended g c = λ m inputs threads moves more. play_append m inputs threads (Ok []) moves more

pub returns-clause-first_moves : goal.returns-clause-first_moves
returns-clause-first_moves g c = λ m inputs threads moves more steps e. play_prefix m inputs threads moves more steps e

pub returns-clause-one_more : goal.returns-clause-one_more
returns-clause-one_more g c = λ m inputs threads moves steps next move e n.
    play_append m inputs threads (Ok []) moves (move ∷ []) ∙ (ap (λ r. and_move m inputs threads r move) e ∙ rw n refl)

pub returns-clause-earlier_moment : goal.returns-clause-earlier_moment
returns-clause-earlier_moment g c =
    λ m inputs threads steps earlier h e. earlier_history m inputs threads earlier steps e h
