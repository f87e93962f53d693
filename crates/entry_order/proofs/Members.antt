-- Membership in a list of entries, place by place.
use Rattle.std.proofs.Common.{◌≡◌, ℕ, zero, suc, ◌+◌, ◌≤◌, ◌<◌, List, [], ◌∷◌, ◌++◌, refl, sym, ◌∙◌, subst, inl, inr}
use Rattle.std.proofs.Common.{◌⊎◌, arith, length, get_or, drop, drop-cons, add-one, Some}
use Rattle.std.proofs.Math.Seq.{drop-nil}
use Rattle.std.specs.Prelude.{slice_get, remove}
use Rattle.entry_order.specs.Log.{Entry, IsIn}

-- the entry at a place is a member
pub at_in : (xs : List Entry) (i : ℕ) (x : Entry) → i < length xs → x ≡ get_or xs i x → IsIn x xs
at_in [] i x low is = absurd (omega arith)
at_in (y ∷ xs) zero x low is = inl (sym is)
at_in (y ∷ xs) (suc i) x low is = inr (at_in xs i x (omega arith) is)

-- what is found at a place stands there
pub get_there : (xs : List Entry) (i : ℕ) (x : Entry) → slice_get xs i ≡ Some x → i < length xs
get_there [] i x h = absurd (cc)
get_there (y ∷ xs) zero x h = omega arith
get_there (y ∷ xs) (suc i) x h = let k : i < length xs = get_there xs i x h in omega arith

pub get_in : (xs : List Entry) (i : ℕ) (x : Entry) → slice_get xs i ≡ Some x → IsIn x xs
get_in [] i x h = absurd (cc)
get_in (y ∷ xs) zero x h = inl (cc)
get_in (y ∷ xs) (suc i) x h = inr (get_in xs i x h)

-- what is removed at a place is what was found there
pub get_is : (xs : List Entry) (i : ℕ) (x y : Entry) → slice_get xs i ≡ Some x → y ≡ get_or xs i y → x ≡ y
get_is [] i x y h is = absurd (cc)
get_is (z ∷ xs) zero x y h is = let k : z ≡ x = cc in sym k ∙ sym is
get_is (z ∷ xs) (suc i) x y h is = get_is xs i x y h is

-- removing one entry leaves the others
pub removed_or : (xs : List Entry) (i : ℕ) (x e : Entry) → slice_get xs i ≡ Some x → IsIn e xs
    → (x ≡ e) ⊎ IsIn e (remove xs i)
removed_or [] i x e h here = absurd here
removed_or (y ∷ xs) zero x e h (inl same) = let k : y ≡ x = cc in inl (sym k ∙ same)
removed_or (y ∷ xs) zero x e h (inr here) = inr here
removed_or (y ∷ xs) (suc i) x e h (inl same) = inr (inl same)
removed_or (y ∷ xs) (suc i) x e h (inr here) = go (removed_or xs i x e h here)
  where
    go : (x ≡ e) ⊎ IsIn e (remove xs i) → (x ≡ e) ⊎ IsIn e (y ∷ remove xs i)
    go (inl k) = inl k
    go (inr k) = inr (inr k)

-- and adds none
pub removed_in : (xs : List Entry) (i : ℕ) (e : Entry) → IsIn e (remove xs i) → IsIn e xs
removed_in [] zero e here = here
removed_in [] (suc i) e here = here
removed_in (y ∷ xs) zero e here = inr here
removed_in (y ∷ xs) (suc i) e (inl same) = inl same
removed_in (y ∷ xs) (suc i) e (inr here) = inr (removed_in xs i e here)

-- an entry at the end is one more member
pub pushed_old : (xs : List Entry) (x e : Entry) → IsIn e xs → IsIn e (xs ++ x ∷ [])
pushed_old [] x e here = absurd here
pushed_old (y ∷ xs) x e (inl same) = inl same
pushed_old (y ∷ xs) x e (inr here) = inr (pushed_old xs x e here)

pub pushed_new : (xs : List Entry) (x : Entry) → IsIn x (xs ++ x ∷ [])
pushed_new [] x = inl refl
pushed_new (y ∷ xs) x = inr (pushed_new xs x)

pub pushed_or : (xs : List Entry) (x e : Entry) → IsIn e (xs ++ x ∷ []) → IsIn e xs ⊎ (x ≡ e)
pushed_or [] x e (inl same) = inr same
pushed_or [] x e (inr here) = absurd here
pushed_or (y ∷ xs) x e (inl same) = inl (inl same)
pushed_or (y ∷ xs) x e (inr here) = go (pushed_or xs x e here)
  where
    go : IsIn e xs ⊎ (x ≡ e) → IsIn e (y ∷ xs) ⊎ (x ≡ e)
    go (inl k) = inl (inr k)
    go (inr k) = inr k

-- each member up to a place is done with: it has the property, or stands from that place on
abbrev pub SoFar : (Entry → Type 0) → List Entry → ℕ → Type 0
SoFar Q xs i = (e : Entry) → IsIn e xs → IsIn e (drop i xs) ⊎ Q e

pub so_far_start : (Q : Entry → Type 0) (xs : List Entry) → SoFar Q xs 0
so_far_start Q xs e here = inl here

pub so_far_step : (Q : Entry → Type 0) (xs : List Entry) (i : ℕ) (x : Entry) → i < length xs → x ≡ get_or xs i x
    → SoFar Q xs i → Q x → SoFar Q xs (i + 1)
so_far_step Q xs i x low is done new e here = go (done e here)
  where
    more : drop i xs ≡ get_or xs i x ∷ drop (suc i) xs
    more = drop-cons xs i x low

    go : IsIn e (drop i xs) ⊎ Q e → IsIn e (drop (i + 1) xs) ⊎ Q e
    go (inr q) = inr q
    go (inl h) = first (subst (λ (l : List Entry). IsIn e l) more h)
      where
        first : IsIn e (get_or xs i x ∷ drop (suc i) xs) → IsIn e (drop (i + 1) xs) ⊎ Q e
        first (inl same) = inr (subst Q (is ∙ same) new)
        first (inr k) = inl (rw add-one k)

none_past : (xs : List Entry) (i : ℕ) (e : Entry) → length xs ≤ i → IsIn e (drop i xs) → ⊥
none_past [] i e low here = subst (λ (l : List Entry). IsIn e l) (drop-nil i) here
none_past (x ∷ xs) zero e low here = absurd (omega arith)
none_past (x ∷ xs) (suc i) e low here = none_past xs i e (omega arith) here

pub so_far_end : (Q : Entry → Type 0) (xs : List Entry) (i : ℕ) → length xs ≤ i → SoFar Q xs i → (e : Entry)
    → IsIn e xs → Q e
so_far_end Q xs i low done e here = go (done e here)
  where
    go : IsIn e (drop i xs) ⊎ Q e → Q e
    go (inl h) = absurd (none_past xs i e low h)
    go (inr q) = q
