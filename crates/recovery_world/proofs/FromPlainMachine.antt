-- Lemmas of the crate plain_machine that crates above this one name, passed on.
pub use Rattle.plain_machine.proofs.Arrangements.{arranged_log, next_past, tail_log}
pub use Rattle.plain_machine.proofs.Hands.{all_taken, taken_within}
pub use Rattle.plain_machine.proofs.OneLine.{closed_stamp, either_later, led_unique}
pub use Rattle.plain_machine.proofs.QuietMoves.{comes_again, quiet_later, quiet_same_log, sends_later}
pub use Rattle.plain_machine.proofs.Runs.{history_more}
pub use Rattle.plain_machine.proofs.SortedEntries.{precedes_moves, sorted, sorted_once, weight_moves, weight_one}
pub use Rattle.plain_machine.proofs.WeightOrder.{by_weight_arranged, not_next}
