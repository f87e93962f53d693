-- The words of the command `watch`.
use Rattle.std.specs.Prelude.{ℕ, List, [], ◌∷◌, codes, if◌then◌else◌, Option, Some, None}
use Rattle.std.specs.Str.{bytes_eq}
use Rattle.plain_text.specs.Lines.{number_of}
use Rattle.packet_taps.specs.declared.words.WatchWords.{WatchWords}

-- the name of a capture, and the numbers of a window
pub record WatchNames : Type 0 where
  pub capture : List ℕ
  pub skip : ℕ
  pub quota : ℕ

abbrev pub watched_by : WatchWords → WatchNames
watched_by w = record { capture = w.capture.now; skip = w.skip; quota = w.quota }

-- a name and two numbers
abbrev pub of_window : List ℕ → Option ℕ → Option ℕ → Option WatchNames
of_window capture None quota = None
of_window capture (Some skip) None = None
of_window capture (Some skip) (Some quota) = Some (record { capture = capture; skip = skip; quota = quota })

-- `watch` with a name and two numbers
abbrev pub watch_names : List (List ℕ) → Option WatchNames
watch_names [] = None
watch_names (a ∷ []) = None
watch_names (a ∷ b ∷ []) = None
watch_names (a ∷ b ∷ c ∷ []) = None
watch_names (command ∷ capture ∷ skip ∷ quota ∷ []) =
    if bytes_eq command (codes "watch") then of_window capture (number_of skip) (number_of quota) else None
watch_names (a ∷ b ∷ c ∷ d ∷ e ∷ more) = None
