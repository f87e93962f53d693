-- One list that is split at two places, and what it contains.
use Rattle.std.proofs.Common.{◌≡◌, ℕ, zero, suc, ◌+◌, ◌≤◌, ◌<◌, ◌≢◌, List, [], ◌∷◌, ◌++◌, length, refl, sym, ap, ◌∙◌}
use Rattle.std.proofs.Common.{inl, inr, ◌⊎◌, arith, Contains}
use Rattle.std.proofs.lemmas.Bool.{cases_lt}
use Rattle.entry_order.proofs.Order.{is_or}
use Rattle.entry_order.proofs.ClosedParts.{Or}

pub front_same : {X : Type 0} (x y : X) (xs ys : List X) → x ≡ y → xs ≡ ys → x ∷ xs ≡ y ∷ ys
front_same x y xs ys a b = cc

-- The first list ends before the second: this is next then, and this is what the second has behind it.
pub record IsShorter {X : Type 0} (xs r ys q : List X) : Type 0 where
  pub next : X
  pub later : List X
  pub longer : ys ≡ xs ++ next ∷ later
  pub rest : r ≡ next ∷ (later ++ q)

abbrev pub Splits : {X : Type 0} → List X → List X → List X → List X → Type 0
Splits xs r ys q = ((xs ≡ ys) × (r ≡ q)) ⊎ (IsShorter xs r ys q ⊎ IsShorter ys q xs r)

pub splits : {X : Type 0} (xs r ys q : List X) → xs ++ r ≡ ys ++ q → Splits xs r ys q
splits [] r [] q e = inl (refl, e)
splits [] r (y ∷ ys) q e = inr (inl (record { next = y; later = ys; longer = refl; rest = e }))
splits (x ∷ xs) r [] q e = inr (inr (record { next = x; later = xs; longer = refl; rest = sym e }))
splits {X} (x ∷ xs) r (y ∷ ys) q e = go (splits xs r ys q rest)
  where
    first : x ≡ y
    first = let k : x ∷ (xs ++ r) ≡ y ∷ (ys ++ q) = e in cc

    rest : xs ++ r ≡ ys ++ q
    rest = let k : x ∷ (xs ++ r) ≡ y ∷ (ys ++ q) = e in cc

    go : Splits xs r ys q → Splits (x ∷ xs) r (y ∷ ys) q
    go (inl (a, b)) = inl (ap (λ (z : X). z ∷ xs) first ∙ ap (λ (l : List X). y ∷ l) a, b)
    go (inr (inl a)) = inr (inl (record {
      next = a.next;
      later = a.later;
      longer = ap (λ (z : X). z ∷ ys) (sym first) ∙ ap (λ (l : List X). x ∷ l) a.longer;
      rest = a.rest;
    }))
    go (inr (inr a)) = inr (inr (record {
      next = a.next;
      later = a.later;
      longer = ap (λ (z : X). z ∷ xs) first ∙ ap (λ (l : List X). y ∷ l) a.longer;
      rest = a.rest;
    }))

-- two lists of one length, before two others
pub same_parts : {X : Type 0} (xs r ys q : List X) → length xs ≡ length ys → xs ++ r ≡ ys ++ q → (xs ≡ ys) × (r ≡ q)
same_parts [] r [] q long e = (refl, e)
same_parts [] r (y ∷ ys) q long e = absurd (omega (arith, long))
same_parts (x ∷ xs) r [] q long e = absurd (omega (arith, long))
same_parts {X} (x ∷ xs) r (y ∷ ys) q long e =
    let k : x ∷ (xs ++ r) ≡ y ∷ (ys ++ q) = e in
    let first : x ≡ y = cc in
    let rest : xs ++ r ≡ ys ++ q = cc in
    let both = same_parts xs r ys q (omega (arith, long)) rest in
    (ap (λ (z : X). z ∷ xs) first ∙ ap (λ (l : List X). y ∷ l) both.0, both.1)

-- Whether a fact holds

pub or_both : {A B : Type 0} → Or A → Or B → Or (A × B)
or_both (inl a) (inl b) = inl (a, b)
or_both (inl a) (inr b) = inr (λ k. b k.1)
or_both (inr a) b = inr (λ k. a k.0)

pub or_like : {A B : Type 0} → (A → B) → (B → A) → Or A → Or B
or_like f g (inl a) = inl (f a)
or_like f g (inr n) = inr (λ b. n (g b))

pub at_most_or : (a b : ℕ) → Or (a ≤ b)
at_most_or a b = go (cases_lt b a)
  where
    go : (b < a) ⊎ (a ≤ b) → Or (a ≤ b)
    go (inl high) = inr (λ k. omega (arith, high, k))
    go (inr low) = inl low

pub pair_or : (p q : ℕ × ℕ) → Or (p ≡ q)
pair_or p q = go (is_or p.0 q.0) (is_or p.1 q.1)
  where
    go : (p.0 ≡ q.0) ⊎ (p.0 ≢ q.0) → (p.1 ≡ q.1) ⊎ (p.1 ≢ q.1) → Or (p ≡ q)
    go (inl a) (inl b) =
        inl (ap (λ (n : ℕ). let z : ℕ × ℕ = (n, p.1) in z) a ∙ ap (λ (n : ℕ). let z : ℕ × ℕ = (q.0, n) in z) b)
    go (inr a) b = inr (λ e. a (ap (λ (z : ℕ × ℕ). z.0) e))
    go (inl a) (inr b) = inr (λ e. b (ap (λ (z : ℕ × ℕ). z.1) e))

pub contains_or : {X : Type 0} → ((x y : X) → Or (x ≡ y)) → (xs : List X) (x : X) → Or (Contains xs x)
contains_or {X} same_or [] x = inr none
  where
    none : Contains [] x → ⊥
    none (k, low, is) = omega (arith, low)
contains_or {X} same_or (y ∷ xs) x = go (same_or y x) (contains_or same_or xs x)
  where
    go : Or (y ≡ x) → Or (Contains xs x) → Or (Contains (y ∷ xs) x)
    go (inl same) b = inl (0, omega arith, same)
    go (inr n) (inl (k, low, is)) = inl (suc k, omega (arith, low), is)
    go (inr n) (inr none) = inr out
      where
        out : Contains (y ∷ xs) x → ⊥
        out (zero, low, is) = n is
        out (suc k, low, is) = none (k, omega (arith, low), is)
