-- What reading the front of a file says of it, from what it did to its source.
use Rattle.std.proofs.Common.{◌≡◌, ℕ, ◌≤◌, ◌<◌, List, ◌++◌, length, refl, sym, ◌∙◌, subst, Result, Ok, Err, Some}
use Rattle.std.specs.Prelude.{take}
use Rattle.plain_text.specs.declared.limit.TheConstants.{MOST_FILE_BYTES}
use Rattle.world_io.specs.Beginning.{ReadsFront, IsFront}
use Rattle.world_io.specs.Taking.{TakesSome}
use Rattle.world_io.specs.World.{Shown}
use Rattle.world_io.specs.declared.beginning.Front.{Front}
use Rattle.world_io.specs.declared.beginning.Front.TheVariants.{All, More}
use Rattle.world_io.specs.declared.beginning.FrontError.{FrontError}
use Rattle.world_io.specs.declared.beginning.FrontError.TheVariants as fault
use Rattle.input_files.specs.declared.errors.InputError.{InputError}
use Rattle.input_files.specs.declared.errors.InputError.TheVariants as error
use Rattle.input_files.specs.Files.{ReadsFrontOf}
use Rattle.input_files.specs.Judging.{IsToldOf, Judges}

module _ {S : Type 0} (reads : S → List ℕ → S → Type 0) where
  -- whatever came of it, some bytes were taken
  pub some_taken : (result : Result Front FrontError) (limit : ℕ) (old new : S)
      → ReadsFront reads result limit old new → TakesSome reads old new
  some_taken (Ok (All bytes)) limit old new read = (bytes, read.0)
  some_taken (Ok (More bytes)) limit old new read = (bytes ++ read.0, read.1)
  some_taken (Err error) limit old new read = read

  -- what was left at first was what stood under the name
  pub front_judged : (healthy : Type 0) (name : List ℕ) (shown : Shown) (result : Result Front FrontError)
      (old new : S) (bytes first left : List ℕ) → ReadsFront reads result MOST_FILE_BYTES old new
      → IsFront result MOST_FILE_BYTES first left → first ≡ bytes → shown.names name ≡ Some bytes
      → (result ≡ Err fault.Failed → healthy → ⊥) → ReadsFrontOf healthy name result shown
  front_judged healthy name shown (Ok (All front)) old new bytes first left read is same there never =
      let all : bytes ≡ front = sym same ∙ is.0 in
      (bytes, there, (all, subst (λ (l : List ℕ). length l ≤ MOST_FILE_BYTES) (sym all) read.1))
  front_judged healthy name shown (Ok (More front)) old new bytes first left read is same there never =
      (bytes, there, subst (λ (l : List ℕ). (front ≡ take MOST_FILE_BYTES l) × (MOST_FILE_BYTES < length l)) same is)
  front_judged healthy name shown (Err fault.Failed) old new bytes first left read is same there never =
      λ well. absurd (never refl well)
  front_judged healthy name shown (Err fault.NoMemory) old new bytes first left read is same there never = tt

-- an answer that is no fault of reading, and is said of the bytes
pub told_judged : {A F : Type 0} (says : List ℕ → Result A (InputError F) → Type 0) (healthy : Type 0) (name : List ℕ)
    (shown : Shown) (answer : Result A (InputError F)) → ¬ (answer ≡ Err error.ReadFault)
    → IsToldOf name (λ bytes. says bytes answer) shown → Judges says healthy name answer shown
told_judged says healthy name shown (Ok value) quiet told = told
told_judged says healthy name shown (Err (error.Fault fault)) quiet told = told
told_judged says healthy name shown (Err (error.TooLarge limit)) quiet told = told
told_judged says healthy name shown (Err error.ReadFault) quiet told = absurd (quiet refl)
told_judged says healthy name shown (Err error.NoMemory) quiet told = tt
