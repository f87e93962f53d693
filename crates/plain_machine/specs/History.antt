-- A run of the plain machine, as its history: what each move did, NEWEST FIRST. The state after a run, its log and what
-- it sent out are read off its history, in which what stands behind a step is what came before it.
use Rattle.std.specs.Prelude.{◌≡◌, ℕ, ◌+◌, ◌<◌, List, [], ◌∷◌, length, cond, nat_eq, nat_lt, if◌then◌else◌, Option}
use Rattle.std.specs.Prelude.{Some, None, Result, Ok, Err, reverse}
use Rattle.plain_text.specs.declared.packet.Packet.{Packet}
use Rattle.entry_order.specs.declared.what.What.{What}
use Rattle.entry_order.specs.declared.what.What.TheVariants.{Access, Read, Clock, Draw}
use Rattle.entry_order.specs.Log.{Entry, entries, places}
use Rattle.plain_machine.specs.declared.emission.Emission.{Emission}
use Rattle.plain_machine.specs.declared.plain_move.PlainMove.{PlainMove}
use Rattle.plain_machine.specs.declared.plain_move.PlayCause.{PlayCause}
use Rattle.plain_machine.specs.declared.plain_move.PlayCause.TheVariants.{NoSuchThread}
use Rattle.plain_machine.specs.declared.plain_move.PlayFault.{PlayFault}
use Rattle.plain_machine.specs.Program.{Meaning}
use Rattle.plain_machine.specs.Machine.{Thread, Effect, Takes, Touches, Looks, HearsClock, HearsDraw, Sends, Ends}
use Rattle.plain_machine.specs.Machine.{Moved, Moves, Illegal, thread_move}

-- what a move did, with its numbers
pub data Act (V : Type 0) : Type 0 where
  Took : (input : ℕ) → Act V
  -- a logged move, and for a touch the value that it left
  Did : (entry : Entry) (left : Option V) → Act V
  Emitted : (emission : Emission) → Act V
  Ended : (input : ℕ) → Act V

pub record Step (V : Type 0) : Type 0 where
  pub thread : ℕ
  pub act : Act V
  -- the thread after the move
  pub after : Thread

-- The log and what was sent out, newest first

abbrev pub log_more : {V : Type 0} → Act V → List Entry → List Entry
log_more (Took k) log = log
log_more (Did entry left) log = entry ∷ log
log_more (Emitted emission) log = log
log_more (Ended k) log = log

abbrev pub log_of : {V : Type 0} → List (Step V) → List Entry
log_of [] = []
log_of (x ∷ earlier) = log_more x.act (log_of earlier)

abbrev pub sent_more : {V : Type 0} → Act V → List Emission → List Emission
sent_more (Took k) sent = sent
sent_more (Did entry left) sent = sent
sent_more (Emitted emission) sent = emission ∷ sent
sent_more (Ended k) sent = sent

abbrev pub sent_of : {V : Type 0} → List (Step V) → List Emission
sent_of [] = []
sent_of (x ∷ earlier) = sent_more x.act (sent_of earlier)

-- the packets sent out, in order
abbrev pub emissions : {V : Type 0} → List (Step V) → List Emission
emissions steps = reverse (sent_of steps)

-- how many packets the thread sent out
abbrev pub outputs : ℕ → List Emission → ℕ
outputs t [] = 0
outputs t (o ∷ sent) = cond (nat_eq o.thread t) (outputs t sent + 1) (outputs t sent)

-- how many moves the thread made
abbrev pub moves_of : {V : Type 0} → ℕ → List (Step V) → ℕ
moves_of t [] = 0
moves_of t (x ∷ earlier) = cond (nat_eq x.thread t) (moves_of t earlier + 1) (moves_of t earlier)

-- The state after a history

abbrev pub start_thread : Thread
start_thread = record { taken = 0; hand = None }

-- a thread is where its last move left it
abbrev pub thread_after : {V : Type 0} → List (Step V) → ℕ → Thread
thread_after [] t = start_thread
thread_after (x ∷ earlier) t = cond (nat_eq x.thread t) x.after (thread_after earlier t)

-- the value of a variable after an entry, where it was x before
abbrev pub left_by_entry : {V : Type 0} → ℕ → What → Option V → V → V
left_by_entry v (Access w place) (Some left) x = cond (nat_eq w v) left x
left_by_entry v (Access w place) None x = x
left_by_entry v (Read w after) left x = x
left_by_entry v (Clock a) left x = x
left_by_entry v (Draw a) left x = x

abbrev pub left_by : {V : Type 0} → ℕ → Act V → V → V
left_by v (Took k) x = x
left_by v (Did entry left) x = left_by_entry v entry.what left x
left_by v (Emitted emission) x = x
left_by v (Ended k) x = x

-- a variable has the value that its last touch left, and its fresh value where there is none
abbrev pub value_after : {V : Type 0} → Meaning V → List (Step V) → ℕ → V
value_after m [] v = m.fresh v
value_after m (x ∷ earlier) v = left_by v x.act (value_after m earlier v)

-- Moves

abbrev pub entry_of : ℕ → List Entry → What → Entry
entry_of t log what = record { thread = t; number = entries t log + 1; what = what }

abbrev pub emission_of : ℕ → List Emission → ℕ → Packet → Emission
emission_of t sent input packet = record { thread = t; number = outputs t sent + 1; input = input; packet = packet }

-- an effect of the thread, which has this number of inputs taken now, with the numbers that it gets after the earlier
-- steps
abbrev pub act_of : {V : Type 0} → ℕ → List (Step V) → ℕ → Effect V → Act V
act_of t earlier taken Takes = Took taken
act_of t earlier taken (Touches v left) =
    Did (entry_of t (log_of earlier) (Access v (places v (log_of earlier) + 1))) (Some left)
act_of t earlier taken (Looks v) = Did (entry_of t (log_of earlier) (Read v (places v (log_of earlier)))) None
act_of t earlier taken (HearsClock a) = Did (entry_of t (log_of earlier) (Clock a)) None
act_of t earlier taken (HearsDraw a) = Did (entry_of t (log_of earlier) (Draw a)) None
act_of t earlier taken (Sends packet) = Emitted (emission_of t (sent_of earlier) taken packet)
act_of t earlier taken Ends = Ended taken

abbrev pub step_of : {V : Type 0} → ℕ → List (Step V) → Thread → Effect V → Step V
step_of t earlier after effect = record { thread = t; act = act_of t earlier after.taken effect; after = after }

abbrev pub after_moved : {V : Type 0} → List (Step V) → ℕ → Moved V → Result (List (Step V)) PlayCause
after_moved steps t (Illegal cause) = Err cause
after_moved steps t (Moves after effect) = Ok (step_of t steps after effect ∷ steps)

-- one move after a history, of a machine with this number of threads, where each thread has its inputs
abbrev pub plain_move : {V : Type 0} → Meaning V → (ℕ → List Packet) → ℕ → List (Step V) → PlainMove
    → Result (List (Step V)) PlayCause
plain_move m inputs threads steps move =
    if nat_lt move.thread threads
    then after_moved steps move.thread
    (thread_move m (inputs move.thread) (value_after m steps) (thread_after steps move.thread) move.answer)
    else Err NoSuchThread

-- the number of a move is one more than the moves before it
abbrev pub numbered : {V : Type 0} → ℕ → Result (List (Step V)) PlayCause → Result (List (Step V)) PlayFault
numbered before (Ok steps) = Ok steps
numbered before (Err cause) = Err (record { number = before + 1; cause = cause })

abbrev pub and_move : {V : Type 0} → Meaning V → (ℕ → List Packet) → ℕ → Result (List (Step V)) PlayFault → PlainMove
    → Result (List (Step V)) PlayFault
and_move m inputs threads (Ok steps) move = numbered (length steps) (plain_move m inputs threads steps move)
and_move m inputs threads (Err fault) move = Err fault

abbrev pub and_moves : {V : Type 0} → Meaning V → (ℕ → List Packet) → ℕ → Result (List (Step V)) PlayFault
    → List PlainMove → Result (List (Step V)) PlayFault
and_moves m inputs threads so_far [] = so_far
and_moves m inputs threads so_far (move ∷ moves) =
    and_moves m inputs threads (and_move m inputs threads so_far move) moves

-- Playing a list of moves from the start gives its history, or the first move that is illegal. The list is legal where
-- it gives a history.
abbrev pub play : {V : Type 0} → Meaning V → (ℕ → List Packet) → ℕ → List PlainMove → Result (List (Step V)) PlayFault
play m inputs threads moves = and_moves m inputs threads (Ok []) moves

-- The step is a legal one after the earlier steps.
abbrev pub IsStep : {V : Type 0} → Meaning V → (ℕ → List Packet) → ℕ → List (Step V) → Step V → Type 0
IsStep {V} m inputs threads earlier x =
    (x.thread < threads) × (answer : Option ℕ) × (effect : Effect V)
    × (thread_move m (inputs x.thread) (value_after m earlier) (thread_after earlier x.thread) answer
    ≡ Moves x.after effect) × (x.act ≡ act_of x.thread earlier x.after.taken effect)

-- Each step is a legal one after those behind it.
abbrev pub IsHistory : {V : Type 0} → Meaning V → (ℕ → List Packet) → ℕ → List (Step V) → Type 0
IsHistory m inputs threads [] = Unit {0}
IsHistory m inputs threads (x ∷ earlier) = IsStep m inputs threads earlier x × IsHistory m inputs threads earlier
