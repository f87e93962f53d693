-- A row from what was noted: what became of its input, and where its output stands or what it lacks.
use Rattle.std.specs.Prelude.{◌≡◌, ℕ, zero, suc, ◌+◌, List, [], length, Option, Some, None, slice_get, slice_index_or}
use Rattle.recovery_core.specs.declared.lacking.Lacks.{Lacks}
use Rattle.recovery_core.specs.declared.lacking.Lacks.TheVariants as lacks
use Rattle.noted_runs.specs.declared.trace.rows.Became.{Became}
use Rattle.noted_runs.specs.declared.trace.rows.Became.TheVariants.{Untaken, InHand, Sent, Ended}
use Rattle.noted_runs.specs.declared.trace.rows.Departure.{Departure}
use Rattle.noted_runs.specs.declared.trace.rows.Fate.{Fate}
use Rattle.noted_runs.specs.declared.trace.rows.Fate.TheVariants as fate
use Rattle.noted_runs.specs.declared.trace.rows.Row.{Row}
use Rattle.noted_runs.specs.Fates.{dropped_for}
use Rattle.noted_runs.specs.Rows.{left_by}

abbrev pub lacks_or_none : Option Lacks → Lacks
lacks_or_none None = lacks.NotSent
lacks_or_none (Some x) = x

abbrev pub fate_of_lack : Lacks → Fate
fate_of_lack (lacks.Entry u n) = fate.Waiting u n
fate_of_lack lacks.Arrival = fate.UnderWay
fate_of_lack lacks.NotSent = fate.InHand

abbrev pub fate_at : ℕ → Lacks → Fate
fate_at zero x = fate_of_lack x
fate_at (suc n) x = fate.Released (suc n)

-- the place of output j of thread t, and what it lacks
abbrev pub place_noted : List (List ℕ) → ℕ → ℕ → ℕ
place_noted places t j = slice_index_or (slice_index_or places t []) j 0

abbrev pub lacks_noted : List (List Lacks) → ℕ → ℕ → Lacks
lacks_noted lists t j = lacks_or_none (slice_get (slice_index_or lists t []) j)

abbrev pub fate_from : List (List ℕ) → List (List Lacks) → ℕ → Became → Fate
fate_from places lists t Untaken = fate.NotTaken
fate_from places lists t InHand = fate.InHand
fate_from places lists t (Sent j) = fate_at (place_noted places t j) (lacks_noted lists t j)
fate_from places lists t (Ended reason) = dropped_for reason

-- what became of input k of thread t; of what is not noted, no thread took it
abbrev pub became_noted : List (List Became) → ℕ → ℕ → Became
became_noted lists t zero = Untaken
became_noted lists t (suc k) = slice_index_or (slice_index_or lists t []) k Untaken

-- The row that follows i others, of a packet of this thread and number.
pub record IsFilled (departures : List Departure) (places : List (List ℕ)) (lists : List (List Lacks))
    (inputs : List (List Became)) (i : ℕ) (turn : ℕ × ℕ) (row : Row) : Type 0 where
  pub packet : row.packet ≡ i + 1
  pub thread : row.thread ≡ turn.0
  pub input : row.input ≡ turn.1
  pub fate : row.fate ≡ fate_from places lists turn.0 (became_noted inputs turn.0 turn.1)
  pub left : row.left ≡ left_by departures row.fate

-- there is such a row for each packet
pub record AreFilled (departures : List Departure) (places : List (List ℕ)) (lists : List (List Lacks))
    (inputs : List (List Became)) (turns : List (ℕ × ℕ)) (rows : List Row) : Type 0 where
  pub long : length rows ≡ length turns
  pub each : (i : ℕ) (row : Row) → slice_get rows i ≡ Some row
      → (turn : ℕ × ℕ) × (slice_get turns i ≡ Some turn) × IsFilled departures places lists inputs i turn row
