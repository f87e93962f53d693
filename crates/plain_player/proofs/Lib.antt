pub mod HandMoves
pub mod NextInputs
pub mod PlayedOn
pub mod OneMove
pub mod WrittenSchedules
