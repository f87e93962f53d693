use Rattle.std.specs.Prelude.{slice_index_or}
use Rattle.round_order.proofs.OpenedRounds.{home_opens, seat_opens, round_begins}
use Rattle.round_order.proofs.laws.rounds_open.Goals as goal

pub returns-clause-parts : goal.returns-clause-parts
returns-clause-parts g c = λ m threads past p stands. (
  (λ v d low. home_opens m past stands.log v (slice_index_or p.vars v d) (stands.var v d low)),
  λ t d low. seat_opens m past stands.log t (slice_index_or p.threads t d) (stands.thread t d low),
)

pub returns-clause-begins : goal.returns-clause-begins
returns-clause-begins g c = λ m inputs threads past log. round_begins m past log inputs threads
