-- Lemmas of the crate system_parts that crates above this one name, passed on.
pub use Rattle.system_parts.proofs.LineLemmas.{frontiers, holds_log, holds_moves, known_there, line_log, past_good}
pub use Rattle.system_parts.proofs.LineLemmas.{past_in, past_of_line, past_stamp, there_known}
pub use Rattle.system_parts.proofs.OutputNumbers.{output_from_one, output_there}
pub use Rattle.system_parts.proofs.OutputsSent.{there_sent}
pub use Rattle.system_parts.proofs.SentLemmas.{entry_frame_stays, output_frame_stays}
pub use Rattle.system_parts.proofs.SnapshotLemmas.{covers_more, covers_none, marks_stay}
