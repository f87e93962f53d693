-- The words of released outputs, by their threads and numbers.
use Rattle.std.proofs.Common.{◌≡◌, ℕ, List, [], ◌∷◌, ◌++◌, refl, ap}
use Rattle.std.specs.Prelude.{codes}
use Rattle.recovery_world.specs.World.{Sent}
use Rattle.plain_text.specs.NumberedWords.{two}
use Rattle.recovery_world.specs.Files.{freed_words, sent_names}

abbrev pub names_words : List (ℕ × ℕ) → List ℕ
names_words [] = []
names_words (x ∷ names) = two (codes " ") x.0 (codes ":") x.1 ++ names_words names

-- they are those of the outputs
pub words_of_names : (freed : List Sent) → names_words (sent_names freed) ≡ freed_words freed
words_of_names [] = refl
words_of_names (o ∷ freed) =
    ap (λ rest. two (codes " ") o.emission.thread (codes ":") o.emission.number ++ rest) (words_of_names freed)
