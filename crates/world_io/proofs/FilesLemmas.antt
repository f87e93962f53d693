-- The file of a number, after a change of one file and after one more file.
use Rattle.std.proofs.Common.{◌≡◌, ◌≢◌, ℕ, zero, suc, ◌+◌, ◌-◌, ◌⊎◌, inl, inr, List, [], ◌∷◌, ◌++◌, Option, Some, None}
use Rattle.std.proofs.Common.{true, false, length, get_or, set, take, slice_get, arith, ap, ◌∙◌, sym, refl, add-one}
use Rattle.std.specs.Prelude.{Result, Ok, Err, OnOk, OnErr, is_err}
use mathlib.Core.Path.{fun_ext}
use Rattle.std.proofs.lemmas.List.{set-get_or, set-set, take_at}
use Rattle.world_io.specs.declared.memory_file.CreatedFile.{CreatedFile}
use Rattle.world_io.specs.declared.memory_file.MemoryFile.{MemoryFile}
use Rattle.world_io.specs.declared.memory_file.MemoryFile.TheVariants.{Opened, Created}
use Rattle.world_io.specs.Files.{file_of, name_in, TakesFromFile, SendsToFile, CutsFile}

-- sending nothing to a file leaves the files as they were
pub send_nothing : (files : List MemoryFile) (place : ℕ) (x : MemoryFile) (f : CreatedFile) (sent : List ℕ)
    → x ≡ get_or files place x → x ≡ Created f → sent ≡ f.sent
    → set files place (Created (record { name = f.name; sent = sent })) ≡ files
send_nothing files place x f sent read is same =
    ap (λ s. set files place (Created (record { name = f.name; sent = s }))) same ∙ sym (ap (set files place) is)
    ∙ ap (set files place) read ∙ set-get_or files place x

slice_get-set_same : {X : Type 0} (xs : List X) (i : ℕ) (x y : X) → slice_get xs i ≡ Some x
    → slice_get (set xs i y) i ≡ Some y
slice_get-set_same [] i x y there = cc
slice_get-set_same (z ∷ zs) zero x y there = refl
slice_get-set_same (z ∷ zs) (suc i) x y there = slice_get-set_same zs i x y there

slice_get-set_other : {X : Type 0} (xs : List X) (i j : ℕ) (y : X) → j ≢ i → slice_get (set xs i y) j ≡ slice_get xs j
slice_get-set_other [] i j y differ = refl
slice_get-set_other (z ∷ zs) zero zero y differ = absurd (differ refl)
slice_get-set_other (z ∷ zs) zero (suc j) y differ = refl
slice_get-set_other (z ∷ zs) (suc i) zero y differ = refl
slice_get-set_other (z ∷ zs) (suc i) (suc j) y differ = slice_get-set_other zs i j y (λ e. differ (ap suc e))

slice_get-push_last : {X : Type 0} (xs : List X) (y : X) → slice_get (xs ++ y ∷ []) (length xs) ≡ Some y
slice_get-push_last [] y = refl
slice_get-push_last (x ∷ xs) y = slice_get-push_last xs y

slice_get-push_other : {X : Type 0} (xs : List X) (y : X) (j : ℕ) → j ≢ length xs
    → slice_get (xs ++ y ∷ []) j ≡ slice_get xs j
slice_get-push_other [] y zero differ = absurd (differ refl)
slice_get-push_other [] y (suc j) differ = refl
slice_get-push_other (x ∷ xs) y zero differ = refl
slice_get-push_other (x ∷ xs) y (suc j) differ = slice_get-push_other xs y j (λ e. differ (ap suc e))

slice_get-past : {X : Type 0} (xs : List X) → slice_get xs (length xs) ≡ None
slice_get-past [] = refl
slice_get-past (x ∷ xs) = slice_get-past xs

pub file_of-push_new : (files : List MemoryFile) (f : MemoryFile)
    → file_of (files ++ f ∷ []) (length files + 1) ≡ Some f
file_of-push_new files f = rw add-one (slice_get-push_last files f)

pub file_of-push_old : (files : List MemoryFile) → file_of files (length files + 1) ≡ None
file_of-push_old files = rw add-one (slice_get-past files)

pub file_of-push_other : (files : List MemoryFile) (f : MemoryFile) (k : ℕ) → k ≢ length files + 1
    → file_of (files ++ f ∷ []) k ≡ file_of files k
file_of-push_other files f zero differ = refl
file_of-push_other files f (suc k) differ = slice_get-push_other files f k (λ e. differ (ap suc e ∙ omega arith))

pub file_of-set_same : (files : List MemoryFile) (n : ℕ) (f g : MemoryFile) → file_of files n ≡ Some f
    → file_of (set files (n - 1) g) n ≡ Some g
file_of-set_same files zero f g there = cc
file_of-set_same files (suc n) f g there =
    let e : suc n - 1 ≡ n = omega arith in
    rw e (slice_get-set_same files n f g there)

pub file_of-set_other : (files : List MemoryFile) (n k : ℕ) (f g : MemoryFile) → file_of files n ≡ Some f → k ≢ n
    → file_of (set files (n - 1) g) k ≡ file_of files k
file_of-set_other files n zero f g there differ = refl
file_of-set_other files zero (suc k) f g there differ = cc
file_of-set_other files (suc n) (suc k) f g there differ =
    let e : suc n - 1 ≡ n = omega arith in
    rw e (slice_get-set_other files n k g (λ same. differ (ap suc same)))

same_or_other : (k n : ℕ) → (k ≡ n) ⊎ (k ≢ n)
same_or_other zero zero = inl refl
same_or_other zero (suc n) = inr (λ e. omega arith)
same_or_other (suc k) zero = inr (λ e. omega arith)
same_or_other (suc k) (suc n) =
    elim (same_or_other k n) [ inl e ↦ inl (ap suc e) | inr differ ↦ inr (λ e. differ (omega arith)) ]

-- what is seen alike of a file before and after its change is seen alike of every file
pub seen_alike-set : {X : Type 0} (see : Option MemoryFile → X) (files : List MemoryFile) (n : ℕ) (f g : MemoryFile)
    → file_of files n ≡ Some f → see (Some g) ≡ see (Some f)
    → ◌≡◌ {A = ℕ → X} (λ k. see (file_of (set files (n - 1) g) k)) (λ k. see (file_of files k))
seen_alike-set see files n f g there alike = fun_ext (λ k. elim (same_or_other k n) [
  | inl same ↦
      ap (λ j. see (file_of (set files (n - 1) g) j)) same ∙ ap see (file_of-set_same files n f g there) ∙ alike
      ∙ sym (ap see there) ∙ sym (ap (λ j. see (file_of files j)) same)
  | inr differ ↦ ap see (file_of-set_other files n k f g there differ)
])

-- what is seen alike of a new file and of no file is seen alike of every file
pub seen_alike-push : {X : Type 0} (see : Option MemoryFile → X) (files : List MemoryFile) (f : MemoryFile)
    → see (Some f) ≡ see None → ◌≡◌ {A = ℕ → X} (λ k. see (file_of (files ++ f ∷ []) k)) (λ k. see (file_of files k))
seen_alike-push see files f alike = fun_ext (λ k. elim (same_or_other k (length files + 1)) [
  | inl same ↦ ap (λ j. see (file_of (files ++ f ∷ []) j)) same ∙ ap see (file_of-push_new files f) ∙ alike
      ∙ sym (ap see (file_of-push_old files)) ∙ sym (ap (λ j. see (file_of files j)) same)
  | inr differ ↦ ap see (file_of-push_other files f k differ)
])

set-there : {X : Type 0} (xs : List X) (i : ℕ) (x : X) → slice_get xs i ≡ Some x → set xs i x ≡ xs
set-there [] i x there = refl
set-there (z ∷ zs) zero x there =
    let e : z ≡ x = cc in
    ap (λ w. w ∷ zs) (sym e)
set-there (z ∷ zs) (suc i) x there = ap (λ ws. z ∷ ws) (set-there zs i x there)

set-file_of : (files : List MemoryFile) (n : ℕ) (f : MemoryFile) → file_of files n ≡ Some f
    → set files (n - 1) f ≡ files
set-file_of files zero f there = cc
set-file_of files (suc n) f there =
    let e : suc n - 1 ≡ n = omega arith in
    rw e (set-there files n f there)

-- taking nothing from a file leaves the files as they were
pub TakesFromFile-nothing : (n : ℕ) (old new : List MemoryFile) → TakesFromFile n [] old new → new ≡ old
TakesFromFile-nothing n old new t = t.after ∙ set-file_of old n (Opened t.rest) t.had

-- what was sent is cut away again
pub CutsFile-sent : (n count : ℕ) (bytes : List ℕ) (f : CreatedFile) (a b c : List MemoryFile)
    → file_of a n ≡ Some (Created f) → count ≡ length f.sent → SendsToFile n bytes a b → CutsFile n count b c → c ≡ a
CutsFile-sent n count bytes f a b c had size sends cuts =
    let file : sends.file ≡ f = let h = sends.had in cc in
    let whole : CreatedFile = record f { sent = f.sent ++ bytes } in
    let sent : b ≡ set a (n - 1) (Created whole) =
    sends.after ∙ ap (λ g. set a (n - 1) (Created (record g { sent = g.sent ++ bytes }))) file in
    let now : file_of b n ≡ Some (Created whole) =
    ap (λ l. file_of l n) sent ∙ file_of-set_same a n (Created f) (Created whole) had in
    let cut : cuts.file ≡ whole = let h = cuts.had in cc in
    let back : take count (f.sent ++ bytes) ≡ f.sent = take_at f.sent bytes count (sym size) in
    cuts.after ∙ ap (λ g. set b (n - 1) (Created (record g { sent = take count g.sent }))) cut
    ∙ ap (λ l. set b (n - 1) (Created (record f { sent = l }))) back ∙ ap (λ l. set l (n - 1) (Created f)) sent
    ∙ set-set a (n - 1) (Created whole) (Created f) ∙ set-file_of a n (Created f) had

-- sending to a file leaves its name
pub SendsToFile-name : (n : ℕ) (bytes : List ℕ) (g : CreatedFile) (a b : List MemoryFile) → SendsToFile n bytes a b
    → file_of b n ≡ Some (Created g) → g.name ≡ name_in (file_of a n)
SendsToFile-name n bytes g a b sends there =
    sym (ap name_in there) ∙ ap (λ l. name_in (file_of l n)) sends.after
    ∙ ap name_in (file_of-set_same a n _ _ sends.had) ∙ sym (ap name_in sends.had)

pub at_ok : {T E P : Type 0} (r : Result T E) → false ≡ is_err r → OnOk r P → P
at_ok (Ok x) e h = h
at_ok (Err y) e h = cc

pub at_err : {T E P : Type 0} (r : Result T E) → true ≡ is_err r → OnErr r P → P
at_err (Ok x) e h = cc
at_err (Err y) e h = h
