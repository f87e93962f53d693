-- What playing a whole schedule comes to: what a legal one sends out, or the first illegal move.
use Rattle.std.specs.Prelude.{◌≡◌, ℕ, List, Result, Ok, Err}
use Rattle.plain_machine.specs.declared.plain_move.PlayFault.{PlayFault}
use Rattle.plain_machine.specs.History.{Step, emissions}
use Rattle.plain_player.specs.declared.hand.MoveError.{MoveError}
use Rattle.plain_player.specs.declared.hand.MoveError.TheVariants as move
use Rattle.plain_player.specs.declared.whole.Played.{Played}
use Rattle.plain_player.specs.declared.whole.PlayError.{PlayError}
use Rattle.plain_player.specs.declared.whole.PlayError.TheVariants as error

-- the answer to a list of moves that comes to a history, or to a fault
abbrev pub IsPlayed : {V : Type 0} → Result (List (Step V)) PlayFault → Result Played PlayError → Type 0
IsPlayed (Ok steps) (Ok played) = played.emissions ≡ emissions steps
IsPlayed (Err fault) (Err (error.Fault named)) = named ≡ fault
IsPlayed (Ok steps) (Err (error.Fault named)) = ⊥
IsPlayed (Err fault) (Ok played) = ⊥
IsPlayed outcome (Err error.NoMemory) = Unit {0}

-- the answer where the move with this number was not made
abbrev pub play_error : ℕ → MoveError → PlayError
play_error number (move.Illegal cause) = error.Fault (record { number = number; cause = cause })
play_error number move.NoMemory = error.NoMemory
