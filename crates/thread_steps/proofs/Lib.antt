pub mod HandLemmas
pub mod TurnLemmas
pub mod NoteLemmas
pub mod MoveLemmas
pub mod NotedMoves
pub mod StepLemmas
pub mod FromRunEnd
