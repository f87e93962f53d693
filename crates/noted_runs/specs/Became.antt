-- What the steps of a run did with an input: input k of thread t, counted from 1.
use Rattle.std.specs.Prelude.{ℕ, nat_eq, if◌then◌else◌, List, [], ◌∷◌, Option, Some, None, slice_index_or}
use Rattle.plain_machine.specs.declared.local.Local.{Local}
use Rattle.plain_machine.specs.History.{Act, Took, Did, Emitted, Ended as EndedIt, Step, thread_after}
use Rattle.box_program.specs.Hands.{local_in}
use Rattle.noted_runs.specs.declared.trace.rows.Became.{Became}
use Rattle.noted_runs.specs.declared.trace.rows.Became.TheVariants.{Untaken, InHand, Sent, Ended}

-- the number in the register of reasons at a place; 0 where a box has no such register
abbrev pub reason_at : Option ℕ → Local → ℕ
reason_at None place = 0
reason_at (Some register) place = slice_index_or place.regs register 0

abbrev pub reason_in : Option ℕ → Option Local → ℕ
reason_in register None = 0
reason_in register (Some place) = reason_at register place

-- the first output that is sent out for it counts
abbrev pub with_output : ℕ → Became → Became
with_output number Untaken = Sent number
with_output number InHand = Sent number
with_output number (Sent first) = Sent first
with_output number (Ended reason) = Sent number

-- an end counts where nothing was sent out for it
abbrev pub with_end : ℕ → Became → Became
with_end reason Untaken = Ended reason
with_end reason InHand = Ended reason
with_end reason (Sent first) = Sent first
with_end reason (Ended before) = Ended reason

-- by a move of its thread, which was at this place with its packet in hand
abbrev pub became_by : {V : Type 0} → Option ℕ → Option Local → ℕ → Act V → Became → Became
became_by register place k (Took j) before = if nat_eq j k then InHand else before
became_by register place k (Did e left) before = before
became_by register place k (Emitted o) before = if nat_eq o.input k then with_output o.number before else before
became_by register place k (EndedIt j) before =
    if nat_eq j k then with_end (reason_in register place) before else before

-- by all steps, of which the newest comes first
abbrev pub became : {V : Type 0} → Option ℕ → List (Step V) → ℕ → ℕ → Became
became register [] t k = Untaken
became register (x ∷ earlier) t k =
    if nat_eq x.thread t
    then became_by register (local_in (thread_after earlier t).hand) k x.act (became register earlier t k)
    else became register earlier t k
