-- The words of the command line.
use Rattle.std.specs.Prelude.{◌≡◌, ◌≢◌, ℕ, List, [], ◌∷◌, codes, drop, if◌then◌else◌, map}
use Rattle.std.specs.Str.{bytes_eq}
use Rattle.std.specs.String.{string_bytes}
use Rattle.std.specs.Vec.Iter.{into_iter_items}
use Rattle.std.specs.declared.string.String.{String}
use Rattle.std.specs.declared.vec.IntoIter.{IntoIter}
use Rattle.std.specs.declared.io.ErrorKind.{ErrorKind}
use Rattle.std.specs.declared.io.ErrorKind.TheVariants as kind
use Rattle.job_commands.specs.declared.status.Status.{Status}
use Rattle.job_commands.specs.declared.status.Status.TheVariants.{BadWords, NoMemory}

-- the words without a first one that is `--`
abbrev pub unmarked : List (List ℕ) → List (List ℕ)
unmarked [] = []
unmarked (word ∷ more) = if bytes_eq word (codes "--") then more else word ∷ more

-- the bytes of each argument after the program's name and a mark `--` after it, in order
abbrev pub words_of : {Y Z : Type 0} → IntoIter (String Y) Z → List (List ℕ)
words_of arguments = unmarked (drop 1 (map string_bytes (into_iter_items arguments)))

-- the status where std gives no arguments: one of them is not UTF-8, unless memory ran out
pub record Refuses (error : ErrorKind) (status : Status) : Type 0 where
  pub memory : error ≡ kind.OutOfMemory → status ≡ NoMemory
  pub not_text : error ≢ kind.OutOfMemory → status ≡ BadWords
