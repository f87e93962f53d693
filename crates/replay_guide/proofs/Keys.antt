-- The keys of the guide's indexes: equal to themselves alone, and in order by their parts.
use Rattle.std.proofs.Common.{◌≡◌, ◌≢◌, ℕ, ◌+◌, ◌<◌, ◌≤◌, ◌⊎◌, true, false, List, [], ◌∷◌, IsTrue, IfSome, slice_get}
use Rattle.std.proofs.Common.{Less, Equal, Greater, refl, sym, subst, inl, inr, ⊎_elim, arith}
use Rattle.std.specs.declared.cmp.Ordering.{Ordering}
use Rattle.std.specs.declared.ops.Bound.TheVariants.{Excluded}
use Rattle.std.specs.Ordering.{nat_cmp, ordering_then, is_eq, is_gt}
use Rattle.std.specs.List.{list_any}
use Rattle.std.specs.BTreeMap.Range.{IsInRange, IsLeBy}
use Rattle.std.specs.BTreeSet.{BTreeSet, IsKeyRangeOf, IsKeyInRange, contains}
use Rattle.std.proofs.lemmas.Map.Keys.{le_from_not_gt}
use Rattle.std.specs.BTreeMap.{is_at}
use Rattle.std.proofs.lemmas.Bool.{cases_lt, cases_eq}
use Rattle.std.proofs.lemmas.Bool.Decides.{nat_tests}
use Rattle.replay_guide.specs.Indexes.{touch_cmp, read_cmp, HasRead}
use Rattle.replay_guide.specs.Walks.{weighed_cmp}

pub nat_same : (a : ℕ) → nat_cmp a a ≡ Equal
nat_same a = grind (arith, nat_tests)

pub nat_less : (a b : ℕ) → a < b → nat_cmp a b ≡ Less
nat_less a b h = grind (arith, nat_tests)

nat_greater : (a b : ℕ) → b < a → nat_cmp a b ≡ Greater
nat_greater a b h = grind (arith, nat_tests)

less_nat : (a b : ℕ) → nat_cmp a b ≡ Less → a < b
less_nat a b h = ⊎_elim (λ k. k)
    (λ k. ⊎_elim
    (λ (q : a ≡ b).
    let same = nat_same a in
    let both : nat_cmp a a ≡ Less = subst (λ (x : ℕ). nat_cmp a x ≡ Less) (sym q) h in absurd cc)
    (λ (q : a ≢ b). let more = nat_greater a b (grind arith) in absurd cc) (cases_eq a b)) (cases_lt a b)

equal_nat : (a b : ℕ) → nat_cmp a b ≡ Equal → a ≡ b
equal_nat a b h = ⊎_elim (λ q. q)
    (λ (q : a ≢ b). ⊎_elim (λ k. let less = nat_less a b k in absurd cc)
    (λ k. let more = nat_greater a b (grind arith) in absurd cc) (cases_lt a b)) (cases_eq a b)

is_equal : (o : Ordering) → is_eq o ≡ true → o ≡ Equal
is_equal Less h = absurd cc
is_equal Equal h = refl
is_equal Greater h = absurd cc

then_equal : (o p : Ordering) → ordering_then o p ≡ Equal → (o ≡ Equal) × (p ≡ Equal)
then_equal Less p h = absurd cc
then_equal Equal p h = (refl, h)
then_equal Greater p h = absurd cc

then_less : (o p : Ordering) → ordering_then o p ≡ Less → (o ≡ Less) ⊎ ((o ≡ Equal) × (p ≡ Less))
then_less Less p h = inl refl
then_less Equal p h = inr (refl, h)
then_less Greater p h = absurd cc

-- touches

pub touch_same : (v s : ℕ) → is_at (touch_cmp (v, s)) (v, s) ≡ true
touch_same v s = rw (nat_same v, nat_same s) refl

pub touch_equal : (k q : ℕ × ℕ) → is_at (touch_cmp k) q ≡ true → (k.0 ≡ q.0) × (k.1 ≡ q.1)
touch_equal k q h =
    let both = then_equal (nat_cmp k.0 q.0) (nat_cmp k.1 q.1) (is_equal _ h) in
    (equal_nat k.0 q.0 both.0, equal_nat k.1 q.1 both.1)

-- reads

pub read_same : (k : ℕ × ℕ × ℕ × ℕ) → is_at (read_cmp k) k ≡ true
read_same k = rw (nat_same k.0, nat_same k.1, nat_same k.2, nat_same k.3) refl

pub read_equal : (k q : ℕ × ℕ × ℕ × ℕ) → is_at (read_cmp k) q ≡ true
    → (k.0 ≡ q.0) × (k.1 ≡ q.1) × (k.2 ≡ q.2) × (k.3 ≡ q.3)
read_equal k q h =
    let last = then_equal (ordering_then (ordering_then (nat_cmp k.0 q.0) (nat_cmp k.1 q.1)) (nat_cmp k.2 q.2))
    (nat_cmp k.3 q.3) (is_equal _ h) in
    let third = then_equal (ordering_then (nat_cmp k.0 q.0) (nat_cmp k.1 q.1)) (nat_cmp k.2 q.2) last.0 in
    let first = then_equal (nat_cmp k.0 q.0) (nat_cmp k.1 q.1) third.0 in
    (equal_nat k.0 q.0 first.0, equal_nat k.1 q.1 first.1, equal_nat k.2 q.2 third.1, equal_nat k.3 q.3 last.1)

-- the keys of a thread's reads above a number lie between two keys, and only these
pub read_after : (v s t n m : ℕ) → n < m → read_cmp (v, s, t, n) (v, s, t, m) ≡ Less
read_after v s t n m h = rw (nat_same v, nat_same s, nat_same t, nat_less n m h) refl

pub read_before : (v s t m : ℕ) → read_cmp (v, s, t, m) (v, s, t + 1, 0) ≡ Less
read_before v s t m = rw (nat_same v, nat_same s, nat_less t (t + 1) (omega arith)) refl

read_steps : (k q : ℕ × ℕ × ℕ × ℕ) → read_cmp k q ≡ Less
    → (k.0 < q.0) ⊎ ((k.0 ≡ q.0) × ((k.1 < q.1) ⊎ ((k.1 ≡ q.1) × ((k.2 < q.2) ⊎ ((k.2 ≡ q.2) × (k.3 < q.3))))))
read_steps k q h = go3 (then_less (ordering_then (ordering_then (nat_cmp k.0 q.0) (nat_cmp k.1 q.1)) (nat_cmp k.2 q.2))
    (nat_cmp k.3 q.3) h)
  where
    go1 : (nat_cmp k.0 q.0 ≡ Less) ⊎ ((nat_cmp k.0 q.0 ≡ Equal) × (nat_cmp k.1 q.1 ≡ Less))
        → (k.0 < q.0) ⊎ ((k.0 ≡ q.0) × ((k.1 < q.1) ⊎ ((k.1 ≡ q.1) × ((k.2 < q.2) ⊎ ((k.2 ≡ q.2) × (k.3 < q.3))))))
    go1 (inl a) = inl (less_nat k.0 q.0 a)
    go1 (inr a) = inr (equal_nat k.0 q.0 a.0, inl (less_nat k.1 q.1 a.1))

    go2 : (ordering_then (nat_cmp k.0 q.0) (nat_cmp k.1 q.1) ≡ Less)
        ⊎ ((ordering_then (nat_cmp k.0 q.0) (nat_cmp k.1 q.1) ≡ Equal) × (nat_cmp k.2 q.2 ≡ Less))
        → (k.0 < q.0) ⊎ ((k.0 ≡ q.0) × ((k.1 < q.1) ⊎ ((k.1 ≡ q.1) × ((k.2 < q.2) ⊎ ((k.2 ≡ q.2) × (k.3 < q.3))))))
    go2 (inl a) = go1 (then_less (nat_cmp k.0 q.0) (nat_cmp k.1 q.1) a)
    go2 (inr a) =
        let both = then_equal (nat_cmp k.0 q.0) (nat_cmp k.1 q.1) a.0 in
        inr (equal_nat k.0 q.0 both.0, inr (equal_nat k.1 q.1 both.1, inl (less_nat k.2 q.2 a.1)))

    go3 : (ordering_then (ordering_then (nat_cmp k.0 q.0) (nat_cmp k.1 q.1)) (nat_cmp k.2 q.2) ≡ Less)
        ⊎ ((ordering_then (ordering_then (nat_cmp k.0 q.0) (nat_cmp k.1 q.1)) (nat_cmp k.2 q.2) ≡ Equal)
        × (nat_cmp k.3 q.3 ≡ Less))
        → (k.0 < q.0) ⊎ ((k.0 ≡ q.0) × ((k.1 < q.1) ⊎ ((k.1 ≡ q.1) × ((k.2 < q.2) ⊎ ((k.2 ≡ q.2) × (k.3 < q.3))))))
    go3 (inl a) = go2 (then_less (ordering_then (nat_cmp k.0 q.0) (nat_cmp k.1 q.1)) (nat_cmp k.2 q.2) a)
    go3 (inr a) =
        let third = then_equal (ordering_then (nat_cmp k.0 q.0) (nat_cmp k.1 q.1)) (nat_cmp k.2 q.2) a.0 in
        let both = then_equal (nat_cmp k.0 q.0) (nat_cmp k.1 q.1) third.0 in
        inr (
          equal_nat k.0 q.0 both.0,
          inr (equal_nat k.1 q.1 both.1, inr (equal_nat k.2 q.2 third.1, less_nat k.3 q.3 a.1)),
        )

-- a key between those two is of the thread's reads, and above the number
pub read_between : (v s t n : ℕ) (q : ℕ × ℕ × ℕ × ℕ) → read_cmp (v, s, t, n) q ≡ Less
    → read_cmp q (v, s, t + 1, 0) ≡ Less → (q.0 ≡ v) × (q.1 ≡ s) × (q.2 ≡ t) × (n < q.3)
read_between v s t n q low high = go (read_steps (v, s, t, n) q low) (read_steps q (v, s, t + 1, 0) high)
  where
    go : (v < q.0) ⊎ ((v ≡ q.0) × ((s < q.1) ⊎ ((s ≡ q.1) × ((t < q.2) ⊎ ((t ≡ q.2) × (n < q.3))))))
        → (q.0 < v) ⊎ ((q.0 ≡ v) × ((q.1 < s) ⊎ ((q.1 ≡ s) × ((q.2 < t + 1) ⊎ ((q.2 ≡ t + 1) × (q.3 < 0))))))
        → (q.0 ≡ v) × (q.1 ≡ s) × (q.2 ≡ t) × (n < q.3)
    go (inl a) (inl b) = absurd (omega arith)
    go (inl a) (inr b) = absurd (omega (arith, b.0))
    go (inr a) (inl b) = absurd (omega (arith, a.0))
    go (inr (v_is, inl a)) (inr (_, inl b)) = absurd (omega arith)
    go (inr (v_is, inl a)) (inr (_, inr b)) = absurd (omega (arith, b.0))
    go (inr (v_is, inr a)) (inr (_, inl b)) = absurd (omega (arith, a.0))
    go (inr (v_is, inr (s_is, inl a))) (inr (_, inr (_, inl b))) = absurd (omega arith)
    go (inr (v_is, inr (s_is, inl a))) (inr (_, inr (_, inr b))) = absurd (omega (arith, b.1))
    go (inr (v_is, inr (s_is, inr a))) (inr (_, inr (_, inl b))) = (sym v_is, sym s_is, sym a.0, a.1)
    go (inr (v_is, inr (s_is, inr a))) (inr (_, inr (_, inr b))) = absurd (omega (arith, b.1))

-- weighed entries

pub weighed_same : (k : ℕ × ℕ × ℕ) → is_at (weighed_cmp k) k ≡ true
weighed_same k = rw (nat_same k.0, nat_same k.1, nat_same k.2) refl

pub weighed_equal : (k q : ℕ × ℕ × ℕ) → is_at (weighed_cmp k) q ≡ true → (k.0 ≡ q.0) × (k.1 ≡ q.1) × (k.2 ≡ q.2)
weighed_equal k q h =
    let third = then_equal (ordering_then (nat_cmp k.0 q.0) (nat_cmp k.1 q.1)) (nat_cmp k.2 q.2) (is_equal _ h) in
    let first = then_equal (nat_cmp k.0 q.0) (nat_cmp k.1 q.1) third.0 in
    (equal_nat k.0 q.0 first.0, equal_nat k.1 q.1 first.1, equal_nat k.2 q.2 third.1)

pub weighed_less : (k q : ℕ × ℕ × ℕ) → weighed_cmp k q ≡ Less
    → (k.0 < q.0) ⊎ ((k.0 ≡ q.0) × ((k.1 < q.1) ⊎ ((k.1 ≡ q.1) × (k.2 < q.2))))
weighed_less k q h = go2 (then_less (ordering_then (nat_cmp k.0 q.0) (nat_cmp k.1 q.1)) (nat_cmp k.2 q.2) h)
  where
    go1 : (nat_cmp k.0 q.0 ≡ Less) ⊎ ((nat_cmp k.0 q.0 ≡ Equal) × (nat_cmp k.1 q.1 ≡ Less))
        → (k.0 < q.0) ⊎ ((k.0 ≡ q.0) × ((k.1 < q.1) ⊎ ((k.1 ≡ q.1) × (k.2 < q.2))))
    go1 (inl a) = inl (less_nat k.0 q.0 a)
    go1 (inr a) = inr (equal_nat k.0 q.0 a.0, inl (less_nat k.1 q.1 a.1))

    go2 : (ordering_then (nat_cmp k.0 q.0) (nat_cmp k.1 q.1) ≡ Less)
        ⊎ ((ordering_then (nat_cmp k.0 q.0) (nat_cmp k.1 q.1) ≡ Equal) × (nat_cmp k.2 q.2 ≡ Less))
        → (k.0 < q.0) ⊎ ((k.0 ≡ q.0) × ((k.1 < q.1) ⊎ ((k.1 ≡ q.1) × (k.2 < q.2))))
    go2 (inl a) = go1 (then_less (nat_cmp k.0 q.0) (nat_cmp k.1 q.1) a)
    go2 (inr a) =
        let both = then_equal (nat_cmp k.0 q.0) (nat_cmp k.1 q.1) a.0 in
        inr (equal_nat k.0 q.0 both.0, inr (equal_nat k.1 q.1 both.1, less_nat k.2 q.2 a.1))

-- the first key of a range of reads: the thread's least number above
abbrev pub ReadKey : Type 0
ReadKey = ℕ × ℕ × ℕ × ℕ

abbrev pub RangeOf : BTreeSet ReadKey → ℕ → ℕ → ℕ → ℕ → List ReadKey → Type 0
RangeOf set v s t n r = IsKeyRangeOf read_cmp (Excluded (v, s, t, n)) (Excluded (v, s, t + 1, 0)) set r

pub none_of_range : (set : BTreeSet ReadKey) (v s t n : ℕ) (r : List ReadKey) → RangeOf set v s t n r → r ≡ [] → (m : ℕ)
    → n < m → HasRead set.keys v s t m → ⊥
none_of_range set v s t n r is empty m above has =
    let no : list_any (is_at (read_cmp (v, s, t, m))) set.keys ≡ false =
    is.5 empty (v, s, t, m) (read_after v s t n m above, read_before v s t m) in
    cc

read_key : (x : ReadKey) (v s t : ℕ) → x.0 ≡ v → x.1 ≡ s → x.2 ≡ t → x ≡ (v, s, t, x.3)
read_key x v s t a b c = made x.0 v x.1 s x.2 t x.3 a b c
  where
    made : (i j k l m n p : ℕ) → i ≡ j → k ≡ l → m ≡ n → Path ReadKey (i, k, m, p) (j, l, n, p)
    made i j k l m n p a b c = rw (a, b, c) refl

not_greater : (v s t m k : ℕ) → is_gt (read_cmp (v, s, t, m) (v, s, t, k)) ≡ false → m ≤ k
not_greater v s t m k h = le_from_not_gt m k (rw (sym (steps v s t m k)) h)
  where
    steps : (v s t m k : ℕ) → read_cmp (v, s, t, m) (v, s, t, k) ≡ nat_cmp m k
    steps v s t m k = rw (nat_same v, nat_same s, nat_same t) refl

pub first_of_range : (set : BTreeSet ReadKey) (v s t n : ℕ) (r rest : List ReadKey) (x : ReadKey)
    → RangeOf set v s t n r → r ≡ x ∷ rest
    → HasRead set.keys v s t x.3 × ((k : ℕ) → n < k → HasRead set.keys v s t k → x.3 ≤ k)
first_of_range set v s t n r rest x is first =
    let here :
    IfSome (slice_get (x ∷ rest) 0) (IsKeyInRange read_cmp (Excluded (v, s, t, n)) (Excluded (v, s, t + 1, 0)) set) =
    subst (λ (l : List ReadKey).
    IfSome (slice_get l 0) (IsKeyInRange read_cmp (Excluded (v, s, t, n)) (Excluded (v, s, t + 1, 0)) set))
    first is.1 in
    let parts = read_between v s t n x here.0.0 here.0.1 in
    let key : x ≡ (v, s, t, x.3) = read_key x v s t parts.0 parts.1 parts.2 in
    let has : list_any (is_at (read_cmp x)) set.keys ≡ true = here.1 in
    let least : (q : ReadKey) → IsInRange read_cmp (Excluded (v, s, t, n)) (Excluded (v, s, t + 1, 0)) q
    → IsTrue (contains read_cmp set q) → IfSome (slice_get (x ∷ rest) 0) (λ k. IsLeBy read_cmp k q) =
    subst (λ (l : List ReadKey).
    (q : ReadKey) → IsInRange read_cmp (Excluded (v, s, t, n)) (Excluded (v, s, t + 1, 0)) q
    → IsTrue (contains read_cmp set q) → IfSome (slice_get l 0) (λ k. IsLeBy read_cmp k q)) first is.2 in (
      subst (λ (q : ReadKey). list_any (is_at (read_cmp q)) set.keys ≡ true) key has,
      λ k above other. not_greater v s t x.3 k (subst (λ (q : ReadKey). is_gt (read_cmp q (v, s, t, k)) ≡ false) key
          (least (v, s, t, k) (read_after v s t n k above, read_before v s t k) other)),
    )
