-- Keys of the index, and numbers of arrival in sets.
use Rattle.std.proofs.Common.{◌≡◌, ◌≢◌, ℕ, ◌≤◌, ◌<◌, ◌⊎◌, Bool, true, false, cond, ◌||◌, List, [], ◌∷◌, ◌++◌, map, Bor}
use Rattle.std.proofs.Common.{Less, refl, sym, ap, ◌∙◌, subst, inl, inr, ⊎_elim, arith}
use Rattle.std.specs.declared.cmp.Ordering.{Ordering}
use Rattle.std.specs.declared.cmp.Ordering.TheVariants.{Equal, Greater}
use Rattle.std.specs.declared.ops.Bound.TheVariants.{Included, Excluded}
use Rattle.std.specs.Ordering.{nat_cmp, ordering_then, is_eq}
use Rattle.std.specs.List.{list_any, filter}
use Rattle.std.specs.BTreeMap.{is_at}
use Rattle.std.specs.BTreeMap.Range.{range_contains}
use Rattle.std.specs.Map.Iter.{deref}
use Rattle.std.proofs.lemmas.Bool.{cases_lt, cases_eq}
use Rattle.std.proofs.lemmas.Bool.Decides.{nat_tests}
use Rattle.std.proofs.lemmas.Grind.{common_steps}
use Rattle.std.proofs.lemmas.Map.Views.{any-filter_same}
use Rattle.output_logger.specs.Kept.{key_cmp, IsIndexed, IsReady}

abbrev Key : Type 0
Key = ℕ × ℕ × ℕ

nat_same : (a : ℕ) → nat_cmp a a ≡ Equal
nat_same a = grind (arith, nat_tests)

nat_less : (a b : ℕ) → a < b → nat_cmp a b ≡ Less
nat_less a b h = grind (arith, nat_tests)

nat_greater : (a b : ℕ) → b < a → nat_cmp a b ≡ Greater
nat_greater a b h = grind (arith, nat_tests)

pub at_same : (n : ℕ) → is_at (nat_cmp n) n ≡ true
at_same n = ap is_eq (nat_same n)

pub at_apart : (a b : ℕ) → b ≢ a → is_at (nat_cmp a) b ≡ false
at_apart a b h = grind (arith, common_steps, nat_tests)

pub at_equal : (a b : ℕ) → is_at (nat_cmp a) b ≡ true → a ≡ b
at_equal a b h = ⊎_elim (λ q. sym q) (λ (q : b ≢ a). let none = at_apart a b q in absurd cc) (cases_eq b a)

-- keys

key_same : (k : Key) → is_at (key_cmp k) k ≡ true
key_same k = rw (nat_same k.0, nat_same k.1, nat_same k.2) refl

then_apart : (o p : Ordering) → is_eq p ≡ false → is_eq (ordering_then o p) ≡ false
then_apart Less p h = refl
then_apart Equal p h = h
then_apart Greater p h = refl

key_apart : (k q : Key) → q.2 ≢ k.2 → is_at (key_cmp k) q ≡ false
key_apart k q h = then_apart (ordering_then (nat_cmp k.0 q.0) (nat_cmp k.1 q.1)) (nat_cmp k.2 q.2) (at_apart k.2 q.2 h)

then_equal : (o p : Ordering) → is_eq (ordering_then o p) ≡ true → (is_eq o ≡ true) × (is_eq p ≡ true)
then_equal Less p h = absurd cc
then_equal Equal p h = (refl, h)
then_equal Greater p h = absurd cc

key_equal : (k q : Key) → is_at (key_cmp k) q ≡ true → (k.0 ≡ q.0) × (k.1 ≡ q.1) × (k.2 ≡ q.2)
key_equal k q h =
    let last = then_equal (ordering_then (nat_cmp k.0 q.0) (nat_cmp k.1 q.1)) (nat_cmp k.2 q.2) h in
    let first = then_equal (nat_cmp k.0 q.0) (nat_cmp k.1 q.1) last.0 in
    (at_equal k.0 q.0 first.0, at_equal k.1 q.1 first.1, at_equal k.2 q.2 last.1)

-- the key of an output under entry n is between those of its thread's entries that the frontier passes
key_between : (t from to most n a : ℕ) → from < n → n ≤ to → a < most
    → range_contains key_cmp (Included (t, from, most)) (Excluded (t, to, most)) (t, n, a) ≡ true
key_between t from to most n a above below small =
    ⊎_elim (λ (under : n < to). rw (nat_same t, nat_less from n above, nat_greater to n under) refl)
    (λ over.
    let same : n ≡ to = omega arith in
    rw same (rw (nat_same t, nat_less from to (omega arith), nat_same to, nat_greater most a small) refl))
    (cases_lt n to)

either : (b x : Bool) → x ≡ true → cond b true x ≡ true
either true x h = refl
either false x h = h

unless : (b x : Bool) → b ≡ false → x ≡ true → cond b false x ≡ true
unless true x h k = absurd cc
unless false x h k = k

-- The index has one more key, or one less.

pub indexed_more : (old new : List Key) (k : Key)
    → ((q : Key)
    → list_any (is_at (key_cmp q)) new ≡ cond (is_at (key_cmp k) q) true (list_any (is_at (key_cmp q)) old))
    → (u n a : ℕ) → IsIndexed old u n a → IsIndexed new u n a
indexed_more old new k h u n a was = h (u, n, a) ∙ either (is_at (key_cmp k) (u, n, a)) _ was

pub indexed_here : (old new : List Key) (k : Key)
    → ((q : Key)
    → list_any (is_at (key_cmp q)) new ≡ cond (is_at (key_cmp k) q) true (list_any (is_at (key_cmp q)) old))
    → IsIndexed new k.0 k.1 k.2
indexed_here old new k h = h k ∙ ap (λ b. cond b true (list_any (is_at (key_cmp k)) old)) (key_same k)

pub indexed_less : (old new : List Key) (k : Key)
    → ((q : Key)
    → list_any (is_at (key_cmp q)) new ≡ cond (is_at (key_cmp k) q) false (list_any (is_at (key_cmp q)) old))
    → (u n a : ℕ) → a ≢ k.2 → IsIndexed old u n a → IsIndexed new u n a
indexed_less old new k h u n a apart was =
    h (u, n, a) ∙ unless (is_at (key_cmp k) (u, n, a)) _ (key_apart k (u, n, a) apart) was

pub indexed_only : (old new : List Key) (k : Key)
    → ((q : Key)
    → list_any (is_at (key_cmp q)) new ≡ cond (is_at (key_cmp k) q) true (list_any (is_at (key_cmp q)) old))
    → (u n a : ℕ) → IsIndexed new u n a → IsIndexed old u n a ⊎ ((k.0 ≡ u) × (k.1 ≡ n) × (k.2 ≡ a))
indexed_only old new k h u n a is =
    let both : cond (is_at (key_cmp k) (u, n, a)) true (list_any (is_at (key_cmp (u, n, a))) old) ≡ true =
    sym (h (u, n, a)) ∙ is in
    elim (is_at (key_cmp k) (u, n, a)) as
    (λ b.
    is_at (key_cmp k) (u, n, a) ≡ b → cond b true (list_any (is_at (key_cmp (u, n, a))) old) ≡ true
    → IsIndexed old u n a ⊎ ((k.0 ≡ u) × (k.1 ≡ n) × (k.2 ≡ a)))
    [ true ↦ λ e q. inr (key_equal k (u, n, a) e) | false ↦ λ e q. inl q ] refl both

pub indexed_was : (old new : List Key) (k : Key)
    → ((q : Key)
    → list_any (is_at (key_cmp q)) new ≡ cond (is_at (key_cmp k) q) false (list_any (is_at (key_cmp q)) old))
    → (u n a : ℕ) → IsIndexed new u n a → IsIndexed old u n a
indexed_was old new k h u n a is =
    let both : cond (is_at (key_cmp k) (u, n, a)) false (list_any (is_at (key_cmp (u, n, a))) old) ≡ true =
    sym (h (u, n, a)) ∙ is in
    elim (is_at (key_cmp k) (u, n, a)) as
    (λ b. cond b false (list_any (is_at (key_cmp (u, n, a))) old) ≡ true → IsIndexed old u n a)
    [ true ↦ λ q. absurd cc | false ↦ λ q. q ] both

pub indexed_not : (old new : List Key) (k : Key)
    → ((q : Key)
    → list_any (is_at (key_cmp q)) new ≡ cond (is_at (key_cmp k) q) false (list_any (is_at (key_cmp q)) old))
    → IsIndexed new k.0 k.1 k.2 → ⊥
indexed_not old new k h is =
    let none : list_any (is_at (key_cmp k)) new ≡ false =
    h k ∙ ap (λ b. cond b false (list_any (is_at (key_cmp k)) old)) (key_same k) in
    cc

key_is : (t n a : ℕ) (k : Key) → t ≡ k.0 → n ≡ k.1 → a ≡ k.2 → (t, n, a) ≡ k
key_is t n a k p q r = rw (p, q, r) refl

-- the keys of a range
pub indexed_between : (index : List Key) (t from to most n a : ℕ) → IsIndexed index t n a → from < n → n ≤ to → a < most
    → IsIndexed (filter (range_contains key_cmp (Included (t, from, most)) (Excluded (t, to, most))) index) t n a
indexed_between index t from to most n a is above below small =
    let inside : (k : Key) → is_at (key_cmp (t, n, a)) k ≡ true
    → range_contains key_cmp (Included (t, from, most)) (Excluded (t, to, most)) k ≡ true = λ k h.
    let same = key_equal (t, n, a) k h in
    let eq : (t, n, a) ≡ k = key_is t n a k same.0 same.1 same.2 in
    subst (λ (q : Key). range_contains key_cmp (Included (t, from, most)) (Excluded (t, to, most)) q ≡ true) eq
    (key_between t from to most n a above below small) in
    any-filter_same (is_at (key_cmp (t, n, a)))
    (range_contains key_cmp (Included (t, from, most)) (Excluded (t, to, most))) true inside index
    ∙ is

-- the keys so far, and one more
pub indexed_turn : (xs : List (Bor Key)) (x : Bor Key) (u n a : ℕ) → IsIndexed (map deref (xs ++ x ∷ [])) u n a
    → IsIndexed (map deref xs) u n a ⊎ (x.now.2 ≡ a)
indexed_turn [] x u n a h = elim (is_at (key_cmp (u, n, a)) x.now) as
    (λ b. is_at (key_cmp (u, n, a)) x.now ≡ b → (b || false) ≡ true → (false ≡ true) ⊎ (x.now.2 ≡ a))
    [ true ↦ λ e k. inr (sym (key_equal (u, n, a) x.now e).2) | false ↦ λ e k. absurd cc ] refl h
indexed_turn (y ∷ xs) x u n a h =
    let rest = indexed_turn xs x u n a in
    elim (is_at (key_cmp (u, n, a)) y.now) as
    (λ b.
    (b || list_any (is_at (key_cmp (u, n, a))) (map deref (xs ++ x ∷ []))) ≡ true
    → ((b || list_any (is_at (key_cmp (u, n, a))) (map deref xs)) ≡ true) ⊎ (x.now.2 ≡ a))
    [ true ↦ λ k. inl refl | false ↦ λ k. rest k ] h

-- A set of arrival numbers has one more.

pub ready_more : (old new : List ℕ) (k : ℕ)
    → ((q : ℕ) → list_any (is_at (nat_cmp q)) new ≡ cond (is_at (nat_cmp k) q) true (list_any (is_at (nat_cmp q)) old))
    → (a : ℕ) → IsReady old a → IsReady new a
ready_more old new k h a was = h a ∙ either (is_at (nat_cmp k) a) _ was

pub ready_here : (old new : List ℕ) (k : ℕ)
    → ((q : ℕ) → list_any (is_at (nat_cmp q)) new ≡ cond (is_at (nat_cmp k) q) true (list_any (is_at (nat_cmp q)) old))
    → IsReady new k
ready_here old new k h = h k ∙ ap (λ b. cond b true (list_any (is_at (nat_cmp k)) old)) (at_same k)

pub ready_only : (old new : List ℕ) (k : ℕ)
    → ((q : ℕ) → list_any (is_at (nat_cmp q)) new ≡ cond (is_at (nat_cmp k) q) true (list_any (is_at (nat_cmp q)) old))
    → (a : ℕ) → IsReady new a → IsReady old a ⊎ (k ≡ a)
ready_only old new k h a is =
    let both : cond (is_at (nat_cmp k) a) true (list_any (is_at (nat_cmp a)) old) ≡ true = sym (h a) ∙ is in
    elim (is_at (nat_cmp k) a) as
    (λ b. is_at (nat_cmp k) a ≡ b → cond b true (list_any (is_at (nat_cmp a)) old) ≡ true → IsReady old a ⊎ (k ≡ a))
    [ true ↦ λ e q. inr (at_equal k a e) | false ↦ λ e q. inl q ] refl both
