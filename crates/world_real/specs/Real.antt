-- What the real world shows: the numbers that it gave, the names that it opened and its counts of faults, and no bytes.
use Rattle.std.specs.Prelude.{◌≡◌, ℕ, zero, suc, Bool, true, false, List, [], length, Option, Some, None, slice_get}
use Rattle.world_real.specs.declared.real_file.RealFile.{RealFile}
use Rattle.world_real.specs.declared.real_file.RealFile.TheVariants.{Reading, Ended, Writing}
use Rattle.world_io.specs.World.{Shown, Ledger}

-- the file that has this number, if it was given
abbrev pub file_at : {F : Type 0} → List (RealFile F) → ℕ → Option (RealFile F)
file_at files zero = None
file_at files (suc place) = slice_get files place

abbrev pub is_opened : {F : Type 0} → Option (RealFile F) → Bool
is_opened None = false
is_opened (Some (Reading f)) = true
is_opened (Some Ended) = true
is_opened (Some (Writing f)) = false

abbrev pub is_ended : {F : Type 0} → Option (RealFile F) → Bool
is_ended None = false
is_ended (Some (Reading f)) = false
is_ended (Some Ended) = true
is_ended (Some (Writing f)) = false

abbrev pub is_writing : {F : Type 0} → Option (RealFile F) → Bool
is_writing None = false
is_writing (Some (Reading f)) = false
is_writing (Some Ended) = false
is_writing (Some (Writing f)) = true

abbrev pub left_in : {F : Type 0} → (F → Option (List ℕ)) → Option (RealFile F) → Option (List ℕ)
left_in remaining None = None
left_in remaining (Some (Reading f)) = remaining f
left_in remaining (Some Ended) = Some []
left_in remaining (Some (Writing f)) = None

abbrev pub held_in : {F : Type 0} → (F → Option (List ℕ)) → Option (RealFile F) → Option (List ℕ)
held_in contents None = None
held_in contents (Some (Reading f)) = None
held_in contents (Some Ended) = None
held_in contents (Some (Writing f)) = contents f

-- the files in the order of their numbers, which count from 1, the names of the opened ones in the order of opening,
-- and how often reading and writing failed
pub record Real (F : Type 0) : Type 0 where
  pub files : List (RealFile F)
  pub opened_names : List (List ℕ)
  pub read_faults : ℕ
  pub write_faults : ℕ

abbrev pub real_ledger : {F : Type 0} → Real F → Ledger
real_ledger w = record {
  opened = λ k. is_opened (file_at w.files k);
  ended = λ k. is_ended (file_at w.files k);
  created = λ k. is_writing (file_at w.files k);
  given = length w.files;
  opened_names = w.opened_names;
  orderly = true;
  read_faults = w.read_faults;
  write_faults = w.write_faults;
}

-- what the opened file of this number has left, where files of this kind tell it
abbrev pub left_at : {F : Type 0} → (F → Option (List ℕ)) → Real F → ℕ → Option (List ℕ)
left_at remaining w file = left_in remaining (file_at w.files file)

-- what the created file of this number holds, where files of this kind tell it
abbrev pub held_at : {F : Type 0} → (F → Option (List ℕ)) → Real F → ℕ → Option (List ℕ)
held_at contents w file = held_in contents (file_at w.files file)

abbrev pub nothing_shown : Shown
nothing_shown = record { names = λ _. None; left = λ _. []; sent = λ _. []; name_of = λ _. [] }

-- no number was given, no name was opened, and nothing failed
pub record IsUnused (ledger : Ledger) : Type 0 where
  pub opened : (k : ℕ) → ledger.opened k ≡ false
  pub created : (k : ℕ) → ledger.created k ≡ false
  pub given : ledger.given ≡ 0
  pub opened_names : ledger.opened_names ≡ []
  pub read_faults : ledger.read_faults ≡ 0
  pub write_faults : ledger.write_faults ≡ 0
