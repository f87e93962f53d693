-- Definitions of the crate replay_guide that crates above this one name, passed on.
pub use Rattle.replay_guide.specs.Following.{CanBeFollowed, recorded}
pub use Rattle.replay_guide.specs.Turns.{WaitsFor}
pub use Rattle.replay_guide.specs.Worlds.{Guides}
