-- How a schedule is followed: what each move did with its input, by where the thread is before it and behind it.
use Rattle.std.specs.Prelude.{◌≡◌, ℕ, ◌+◌, ◌-◌, ◌<◌, List, [], ◌∷◌, ◌++◌, length, take, drop, map, Option, Some, None}
use Rattle.std.specs.Prelude.{slice_index_or}
use Rattle.plain_machine.specs.declared.emission.Emission.{Emission}
use Rattle.plain_machine.specs.declared.local.Local.{Local}
use Rattle.plain_machine.specs.History.{Step, thread_after}
use Rattle.noted_runs.specs.declared.trace.following.Made.{Made}
use Rattle.noted_runs.specs.declared.trace.following.Made.TheVariants as made
use Rattle.noted_runs.specs.declared.trace.rows.Became.{Became}
use Rattle.noted_runs.specs.declared.trace.rows.Became.TheVariants.{Untaken, InHand}
use Rattle.noted_runs.specs.Became.{became, reason_at, with_end, with_output}

-- of a thread that was here with its packet in hand, sent this out, and is there
abbrev pub made_of : Option ℕ → Option Local → Option Emission → Option Local → Made
made_of register None sent after = made.Took
made_of register (Some place) (Some o) after = made.Sent o.number
made_of register (Some place) None (Some next) = made.Went
made_of register (Some place) None None = made.Ended (reason_at register place)

-- the list with another last element
abbrev pub with_last : (Became → Became) → List Became → List Became
with_last change list = take (length list - 1) list ++ map change (drop (length list - 1) list)

-- what became of the inputs of a thread, one after another, behind a move of it
abbrev pub after_made : Made → List Became → List Became
after_made made.Took list = list ++ InHand ∷ []
after_made made.Went list = list
after_made (made.Sent number) list = with_last (with_output number) list
after_made (made.Ended reason) list = with_last (with_end reason) list

-- The list has what became of each input that the thread took.
pub record ListsInputs {V : Type 0} (register : Option ℕ) (steps : List (Step V)) (t : ℕ) (list : List Became)
    : Type 0 where
  pub long : length list ≡ (thread_after steps t).taken
  pub each : (k : ℕ) → slice_index_or list k Untaken ≡ became register steps t (k + 1)

-- there is such a list for each thread
pub record HasBecome {V : Type 0} (register : Option ℕ) (threads : ℕ) (steps : List (Step V))
    (lists : List (List Became)) : Type 0 where
  pub count : length lists ≡ threads
  pub each : (t : ℕ) → t < threads → ListsInputs register steps t (slice_index_or lists t [])
