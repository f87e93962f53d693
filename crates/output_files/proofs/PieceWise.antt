-- Bytes that are appended by pieces.
use Rattle.std.proofs.Common.{◌≡◌, ℕ, ◌+◌, ◌-◌, ◌≤◌, ◌⊎◌, List, [], ◌++◌, take, length, refl, sym, ap, ◌∙◌, append-nil}
use Rattle.std.proofs.Common.{append_assoc, subst, inl, inr, Bool, true, false, nat_le, arith, Result, Ok, Err}
use Rattle.std.proofs.lemmas.Bool.Decides.{nat_tests}
use Rattle.std.proofs.lemmas.List.{take-append-le, take_all, take_at}
use Rattle.std.proofs.Math.Seq.{take-append-add}
use Rattle.std.specs.Result.{IsErr}
use Rattle.std.specs.Prelude.{OnOk}
use Rattle.world_io.specs.World.{Shown, WritesFile}
use Rattle.world_io.specs.OneFile.{WritesFile-nothing, WritesFile-more}
use Rattle.output_files.specs.declared.error.OutputError.{OutputError}
use Rattle.output_files.specs.Written.{AppendsTo, AppendsSome, HasAppended}

-- a first part of a first part is one of the whole
take_of : (n : ℕ) (part rest : List ℕ) → (m : ℕ) × (take m (part ++ rest) ≡ take n part)
take_of n part rest = go (nat_le n (length part)) refl
  where
    go : (b : Bool) → nat_le n (length part) ≡ b → (m : ℕ) × (take m (part ++ rest) ≡ take n part)
    go true e = (n, take-append-le n part rest (grind (arith, nat_tests)))
    go false e =
        let above : length part ≤ n = grind (arith, nat_tests) in
        (length part, take_at part rest (length part) refl ∙ sym (take_all n part above))

pub nothing_appended : (file : ℕ) (a : Shown) → HasAppended file [] [] a a
nothing_appended file a = record { first = []; bytes_are = refl; written = WritesFile-nothing file a }

-- more is gathered
pub more_gathered : (file : ℕ) (bytes gathered more all now : List ℕ) (a b : Shown)
    → HasAppended file bytes gathered a b → all ≡ bytes ++ more → now ≡ gathered ++ more → HasAppended file all now a b
more_gathered file bytes gathered more all now a b h all_is now_is = record {
  first = h.first;
  bytes_are = all_is ∙ ap (λ l. l ++ more) h.bytes_are ∙ append_assoc h.first gathered more
      ∙ ap (λ l. h.first ++ l) (sym now_is);
  written = h.written;
}

-- what is gathered is appended too
pub last_appended : (file : ℕ) (bytes gathered piece : List ℕ) (a b c : Shown) → piece ≡ gathered
    → HasAppended file bytes gathered a b → WritesFile file piece b c → WritesFile file bytes a c
last_appended file bytes gathered piece a b c same h w =
    subst (λ (l : List ℕ). WritesFile file l a c) (ap (λ l. h.first ++ l) same ∙ sym h.bytes_are)
    (WritesFile-more file h.first piece a b c h.written w)

-- a part of what is gathered is appended
pub last_begun : (file : ℕ) (bytes gathered piece : List ℕ) (a b c : Shown) → piece ≡ gathered
    → HasAppended file bytes gathered a b → ((n : ℕ) × WritesFile file (take n piece) b c)
    → (n : ℕ) × WritesFile file (take n bytes) a c
last_begun file bytes gathered piece a b c same h w = (
  length h.first + w.0,
  subst (λ (l : List ℕ). WritesFile file l a c)
      (ap (λ l. h.first ++ take w.0 l) same
      ∙ sym (ap (λ l. take (length h.first + w.0) l) h.bytes_are ∙ take-append-add h.first gathered w.0))
      (WritesFile-more file h.first (take w.0 piece) a b c h.written w.1),
)

-- what was appended is a first part of a longer whole
pub some_begun : (file : ℕ) (bytes gathered rest all : List ℕ) (a b : Shown) → HasAppended file bytes gathered a b
    → all ≡ bytes ++ rest → (n : ℕ) × WritesFile file (take n all) a b
some_begun file bytes gathered rest all a b h all_is =
    let whole : all ≡ h.first ++ (gathered ++ rest) = all_is ∙ ap (λ l. l ++ rest) h.bytes_are
    ∙ append_assoc h.first gathered rest in
    let first : take (length h.first) all ≡ h.first =
    ap (take (length h.first)) whole ∙ take_at h.first (gathered ++ rest) (length h.first) refl in
    (length h.first, subst (λ (l : List ℕ). WritesFile file l a b) (sym first) h.written)

pub part_begun : (file : ℕ) (bytes rest all : List ℕ) (a b : Shown) → ((n : ℕ) × WritesFile file (take n bytes) a b)
    → all ≡ bytes ++ rest → (n : ℕ) × WritesFile file (take n all) a b
part_begun file bytes rest all a b w all_is =
    let part = take_of w.0 bytes rest in
    (part.0, subst (λ (l : List ℕ). WritesFile file l a b) (sym (ap (take part.0) all_is ∙ part.1)) w.1)

-- What calls answer

pub err_appends : {A : Type 0} (r : Result A OutputError) (file : ℕ) (bytes : List ℕ) (a b : Shown) → IsErr r
    → ((n : ℕ) × WritesFile file (take n bytes) a b) → AppendsTo r file bytes a b
err_appends (Ok done) file bytes a b err w = absurd (cc)
err_appends (Err error) file bytes a b err w = w

-- none is gathered where all was appended
pub none_left : {A : Type 0} (r : Result A OutputError) (file : ℕ) (bytes gathered : List ℕ) (a b : Shown)
    → OnOk r (gathered ≡ []) → AppendsTo r file bytes a b → AppendsSome r file bytes gathered a b
none_left (Ok done) file bytes gathered a b none w =
    record { first = bytes; bytes_are = sym (append-nil bytes) ∙ ap (λ l. bytes ++ l) (sym none); written = w }
none_left (Err error) file bytes gathered a b none w = w
