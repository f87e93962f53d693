-- The words of the command `chain`, which names the files of two systems in a chain.
use Rattle.std.specs.Prelude.{ℕ, Bool, ◌&&◌, not, List, [], ◌∷◌, codes, if◌then◌else◌, Option, Some, None}
use Rattle.std.specs.Str.{bytes_eq}
use Rattle.job_commands.specs.declared.chain_words.ChainWords.{ChainWords}

-- the names of the files of a chain: two boxes, the capture of the first, and the script; then what the first releases
-- and what the second does, and the schedule of each
pub record ChainNames : Type 0 where
  pub first_box : List ℕ
  pub second_box : List ℕ
  pub capture : List ℕ
  pub script : List ℕ
  pub middle : List ℕ
  pub released : List ℕ
  pub first_schedule : List ℕ
  pub second_schedule : List ℕ

abbrev pub chain_names_of : ChainWords → ChainNames
chain_names_of w = record {
  first_box = w.first_box.now;
  second_box = w.second_box.now;
  capture = w.capture.now;
  script = w.script.now;
  middle = w.middle.now;
  released = w.released.now;
  first_schedule = w.first_schedule.now;
  second_schedule = w.second_schedule.now;
}

-- no two of the four outputs are one
abbrev pub all_apart : ChainNames → Bool
all_apart names =
    not (bytes_eq names.middle names.released) && not (bytes_eq names.middle names.first_schedule)
    && not (bytes_eq names.middle names.second_schedule) && not (bytes_eq names.released names.first_schedule)
    && not (bytes_eq names.released names.second_schedule)
    && not (bytes_eq names.first_schedule names.second_schedule)

abbrev pub chain_with : List ℕ → ChainNames → Option ChainNames
chain_with command names = if bytes_eq command (codes "chain") && all_apart names then Some names else None

-- `chain` with eight names, of which the four outputs differ
abbrev pub chain_names : List (List ℕ) → Option ChainNames
chain_names [] = None
chain_names (a ∷ []) = None
chain_names (a ∷ b ∷ []) = None
chain_names (a ∷ b ∷ c ∷ []) = None
chain_names (a ∷ b ∷ c ∷ d ∷ []) = None
chain_names (a ∷ b ∷ c ∷ d ∷ e ∷ []) = None
chain_names (a ∷ b ∷ c ∷ d ∷ e ∷ f ∷ []) = None
chain_names (a ∷ b ∷ c ∷ d ∷ e ∷ f ∷ g ∷ []) = None
chain_names (a ∷ b ∷ c ∷ d ∷ e ∷ f ∷ g ∷ h ∷ []) = None
chain_names (command ∷ first_box ∷ second_box ∷ capture ∷ script ∷ middle ∷ released ∷ first ∷ second ∷ []) =
    chain_with command (record {
      first_box = first_box;
      second_box = second_box;
      capture = capture;
      script = script;
      middle = middle;
      released = released;
      first_schedule = first;
      second_schedule = second;
    })
chain_names (a ∷ b ∷ c ∷ d ∷ e ∷ f ∷ g ∷ h ∷ i ∷ j ∷ more) = None

-- the names of its inputs, in the order of its words
abbrev pub chain_inputs : ChainNames → List (List ℕ)
chain_inputs names = names.first_box ∷ names.second_box ∷ names.capture ∷ names.script ∷ []
