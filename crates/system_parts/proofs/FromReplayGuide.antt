-- Lemmas of the crate replay_guide that crates above this one name, passed on.
pub use Rattle.replay_guide.proofs.WorldAnswers.{tells_clock, tells_draw, tells_free_clock, tells_free_draw}
pub use Rattle.replay_guide.proofs.WorldTurns.{awaited_waits, closed_can, followed_kept, held_follows, line_good}
pub use Rattle.replay_guide.proofs.WorldTurns.{line_log, past_good, past_kept, waits_are_awaited}
