pub mod MadeMoves
pub mod OnceEach
pub mod BoxMoves
pub mod Numbers
