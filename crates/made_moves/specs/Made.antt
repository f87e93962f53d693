-- What the moves of a run did, with their numbers, oldest first.
use Rattle.std.specs.Prelude.{◌≡◌, ℕ, ◌+◌, ◌&&◌, nat_eq, Bool, true, false, List, [], ◌∷◌, ◌++◌, filter, length}
use Rattle.std.specs.Prelude.{unwrap_or}
use Rattle.std.specs.Prelude.{Option, Some, None, Result, Ok, Err}
use Rattle.entry_order.specs.declared.what.What.{What}
use Rattle.entry_order.specs.declared.what.What.TheVariants as what
use Rattle.plain_machine.specs.declared.local.Local.{Local}
use Rattle.plain_machine.specs.declared.local.Move.{Move}
use Rattle.plain_machine.specs.declared.local.Move.TheVariants as move
use Rattle.plain_machine.specs.declared.plain_move.PlayFault.{PlayFault}
use Rattle.plain_machine.specs.Program.{Meaning}
use Rattle.plain_machine.specs.History.{Act, Took, Did, Emitted, Ended, Step}
use Rattle.plain_machine.specs.declared.plain_move.PlayCause.{PlayCause}
use Rattle.plain_player.specs.declared.hand.MoveError.{MoveError}
use Rattle.plain_player.specs.declared.hand.MoveError.TheVariants as error
use Rattle.made_moves.specs.declared.made.Did as did_type
use Rattle.made_moves.specs.declared.made.Did.TheVariants as did
use Rattle.made_moves.specs.declared.made.Made.{Made}

abbrev pub did_of : {V : Type 0} → Act V → did_type.Did
did_of (Took k) = did.Took k
did_of (Did e left) = did.Logged e.number e.what
did_of (Emitted o) = did.Sent o.number
did_of (Ended k) = did.Ended k

abbrev pub made_by : {V : Type 0} → Step V → Made
made_by x = record { thread = x.thread; did = did_of x.act }

abbrev pub made_in : {V : Type 0} → List (Step V) → List Made
made_in [] = []
made_in (x ∷ earlier) = made_in earlier ++ made_by x ∷ []

-- where a list of moves was played: none where it is illegal
abbrev pub made_where : {V : Type 0} → Result (List (Step V)) PlayFault → List Made
made_where (Ok steps) = made_in steps
made_where (Err fault) = []

-- the machine may not make the move
abbrev pub IsIllegal : MoveError → Type 0
IsIllegal e = (cause : PlayCause) × (e ≡ error.Illegal cause)

-- Numbers

-- it made a log entry
abbrev pub is_logged : did_type.Did → Bool
is_logged (did.Took k) = false
is_logged (did.Logged n w) = true
is_logged (did.Sent j) = false
is_logged (did.Ended k) = false

abbrev pub is_sent : did_type.Did → Bool
is_sent (did.Took k) = false
is_sent (did.Logged n w) = false
is_sent (did.Sent j) = true
is_sent (did.Ended k) = false

-- it touched this variable
abbrev pub touched_by : ℕ → What → Bool
touched_by v (what.Access w place) = nat_eq w v
touched_by v (what.Read w after) = false
touched_by v (what.Clock a) = false
touched_by v (what.Draw a) = false

abbrev pub touches_in : ℕ → did_type.Did → Bool
touches_in v (did.Took k) = false
touches_in v (did.Logged n w) = touched_by v w
touches_in v (did.Sent j) = false
touches_in v (did.Ended k) = false

abbrev pub is_entry_of : ℕ → Made → Bool
is_entry_of t m = nat_eq m.thread t && is_logged m.did

abbrev pub is_output_of : ℕ → Made → Bool
is_output_of t m = nat_eq m.thread t && is_sent m.did

abbrev pub is_touch_of : ℕ → Made → Bool
is_touch_of v m = touches_in v m.did

-- The next move of a thread, which has this input in hand or takes it, and is told this

abbrev pub entry_next : List Made → ℕ → What → did_type.Did
entry_next made t w = did.Logged (length (filter (is_entry_of t) made) + 1) w

abbrev pub did_by : List Made → ℕ → ℕ → Option ℕ → Move → did_type.Did
did_by made t input answer (move.Access v) =
    entry_next made t (what.Access v (length (filter (is_touch_of v) made) + 1))
did_by made t input answer (move.Read v) = entry_next made t (what.Read v (length (filter (is_touch_of v) made)))
did_by made t input answer move.Clock = entry_next made t (what.Clock (unwrap_or answer 0))
did_by made t input answer move.Draw = entry_next made t (what.Draw (unwrap_or answer 0))
did_by made t input answer move.Emit = did.Sent (length (filter (is_output_of t) made) + 1)
did_by made t input answer move.End = did.Ended input

abbrev pub next_did : {V : Type 0} → Meaning V → List Made → ℕ → ℕ → Option ℕ → Option Local → did_type.Did
next_did m made t input answer None = did.Took input
next_did m made t input answer (Some place) = did_by made t input answer (m.next place)
