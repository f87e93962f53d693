-- How the log finds a thread's inputs among all packets.
use Rattle.std.specs.Prelude.{◌≡◌, ℕ, ◌≤◌, List, length, map, slice_get, Some}
use Rattle.input_logger.specs.Inputs.{Fed, inputs_of}

-- these are the places of the thread's inputs, in order
abbrev pub ArePlacesOf : Fed → ℕ → List ℕ → Type 0
ArePlacesOf log thread places = map (slice_get log.packets) places ≡ map Some (inputs_of log thread)

-- there is a list of places for each thread
pub record IsIndexed (log : Fed) (lists : List (List ℕ)) : Type 0 where
  pub some_thread : 1 ≤ log.threads
  pub few_threads : log.threads ≤ 16
  pub one_each : length lists ≡ log.threads
  pub places : (thread : ℕ) (list : List ℕ) → slice_get lists thread ≡ Some list → ArePlacesOf log thread list
