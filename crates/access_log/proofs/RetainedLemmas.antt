-- What a map has left, after each entry was kept or dropped by a test of its value.
use Rattle.std.proofs.Common.{◌≡◌, ℕ, zero, suc, ◌≤◌, ◌↔◌, Bool, true, false, cond, leb, ◌&&◌, List, [], ◌∷◌, Option}
use Rattle.std.proofs.Common.{Some, None, IsTrue, refl, sym, ap, ◌∙◌, arith}
use Rattle.std.specs.Map.{lookup, keys_of}
use Rattle.std.specs.Map.Calls.{RetainsPairs}
use Rattle.std.specs.BTreeMap.{is_at}
use Rattle.std.specs.Ordering.{nat_cmp}
use Rattle.std.specs.Cmp.{nat_cmp_total, eq_by_cmp_equiv}
use Rattle.std.specs.List.Sorted.{IsStrictlySortedBy}
use Rattle.std.proofs.lemmas.Map.Made.{filter_same_pairs}
use Rattle.std.proofs.lemmas.Map.Entries.{option_filter, lookup-filter-values}
use Rattle.std.proofs.lemmas.Map.Keys.{IsDistinct-from_sorted}
use Rattle.std.proofs.lemmas.Bool.Decides.{nat_tests}
use Rattle.thread_clock.specs.Clock.{AtMost}

-- whether no component of the first stamp is above that of the second
abbrev pub at_most : List ℕ → List ℕ → Bool
at_most [] other = true
at_most (x ∷ stamp) [] = leb x 0 && at_most stamp []
at_most (x ∷ stamp) (y ∷ other) = leb x y && at_most stamp other

AtMost-tail : (x y : ℕ) (s r : List ℕ) → AtMost (x ∷ s) (y ∷ r) → AtMost s r
AtMost-tail x y s r h u = h (suc u)

AtMost-tail_of_none : (x : ℕ) (s : List ℕ) → AtMost (x ∷ s) [] → AtMost s []
AtMost-tail_of_none x s h u = h (suc u)

AtMost-cons : (x y : ℕ) (s r : List ℕ) → x ≤ y → AtMost s r → AtMost (x ∷ s) (y ∷ r)
AtMost-cons x y s r first rest zero = first
AtMost-cons x y s r first rest (suc u) = rest u

AtMost-cons_of_none : (x : ℕ) (s : List ℕ) → x ≤ 0 → AtMost s [] → AtMost (x ∷ s) []
AtMost-cons_of_none x s first rest zero = first
AtMost-cons_of_none x s first rest (suc u) = rest u

AtMost-none : (r : List ℕ) → AtMost [] r
AtMost-none r u = omega arith

pub AtMost-true : (s r : List ℕ) → at_most s r ≡ true → AtMost s r
AtMost-true [] r e = AtMost-none r
AtMost-true (x ∷ s) [] e =
    let p : (x ≤ 0) × (at_most s [] ≡ true) = grind (arith, nat_tests) in
    AtMost-cons_of_none x s p.0 (AtMost-true s [] p.1)
AtMost-true (x ∷ s) (y ∷ r) e =
    let p : (x ≤ y) × (at_most s r ≡ true) = grind (arith, nat_tests) in
    AtMost-cons x y s r p.0 (AtMost-true s r p.1)

pub at_most-true : (s r : List ℕ) → AtMost s r → at_most s r ≡ true
at_most-true [] r h = refl
at_most-true (x ∷ s) [] h =
    let first = h 0 in
    let rest = at_most-true s [] (AtMost-tail_of_none x s h) in
    grind (arith, nat_tests)
at_most-true (x ∷ s) (y ∷ r) h =
    let first = h 0 in
    let rest = at_most-true s r (AtMost-tail x y s r h) in
    grind (arith, nat_tests)

-- an answer that is true exactly then is that test
pub at_most-answer : (b : Bool) (s r : List ℕ) → IsTrue b ↔ AtMost s r → b ≡ at_most s r
at_most-answer true s r h = sym (at_most-true s r (h.0 refl))
at_most-answer false s r h = elim (at_most s r) as (λ v. at_most s r ≡ v → false ≡ v)
    [ true ↦ λ e. h.1 (AtMost-true s r e) | false ↦ λ e. refl ] refl

option_filter-Some : {X : Type 0} (p : X → Bool) (o : Option X) (x : X)
    → (option_filter p o ≡ Some x) ↔ ((o ≡ Some x) × (p x ≡ true))
option_filter-Some p None x = (λ e. cc, λ e. cc)
option_filter-Some p (Some y) x =
    elim (p y) as (λ b. p y ≡ b → (cond b (Some y) None ≡ Some x) ↔ ((Some y ≡ Some x) × (p x ≡ true))) [
      | true ↦ λ q. (λ e. (e, let same : y ≡ x = cc in cc), λ e. e.0)
      | false ↦ λ q. (λ e. cc, λ e. let same : y ≡ x = cc in let apart : true ≡ false = cc in cc)
    ] refl

-- of a map whose entries were kept exactly where the test says so
pub lookup-retained : {F X : Type 0} (T : F → ℕ → X → Bool → X → F → Type 0) (p : X → Bool) (f : F)
    → ((k : ℕ) (v : X) (b : Bool) (w : X) (f' : F) → T f k v b w f' → (b ≡ p v) × (w ≡ v) × (f' ≡ f))
    → (es kept : List (ℕ × X)) → IsStrictlySortedBy nat_cmp (keys_of es) → RetainsPairs T f es kept → (n : ℕ) (x : X)
    → (lookup (is_at (nat_cmp n)) kept ≡ Some x) ↔ ((lookup (is_at (nat_cmp n)) es ≡ Some x) × (p x ≡ true))
lookup-retained T p f answers es kept sorted ran n x =
    let e = filter_same_pairs T (λ q. p q.1) f answers es kept ran in
    let looked =
    lookup-filter-values (eq_by_cmp_equiv nat_cmp_total) p n es (IsDistinct-from_sorted nat_cmp (keys_of es) sorted) in
    let same : lookup (is_at (nat_cmp n)) kept ≡ option_filter p (lookup (is_at (nat_cmp n)) es) =
    ap (lookup (is_at (nat_cmp n))) e ∙ looked in
    let cases = option_filter-Some p (lookup (is_at (nat_cmp n)) es) x in
    (λ h. cases.0 (sym same ∙ h), λ h. same ∙ cases.1 h)

-- of a map whose entries were kept exactly where their stamps are at most this one
pub retained : {F X : Type 0} (T : F → ℕ → X → Bool → X → F → Type 0) (stamp : X → List ℕ) (frontiers : List ℕ) (f : F)
    → ((k : ℕ) (v : X) (b : Bool) (w : X) (f' : F) → T f k v b w f'
    → (IsTrue b ↔ AtMost (stamp v) frontiers) × (w ≡ v) × (f' ≡ f)) → (es kept : List (ℕ × X))
    → IsStrictlySortedBy nat_cmp (keys_of es) → RetainsPairs T f es kept → (n : ℕ) (x : X)
    → (lookup (is_at (nat_cmp n)) kept ≡ Some x)
    ↔ ((lookup (is_at (nat_cmp n)) es ≡ Some x) × AtMost (stamp x) frontiers)
retained T stamp frontiers f answers es kept sorted ran n x =
    let cases = lookup-retained T (λ v. at_most (stamp v) frontiers) f
    (λ k v b w f' t. let a = answers k v b w f' t in (at_most-answer b (stamp v) frontiers a.0, a.1, a.2)) es kept
    sorted ran n x in
    (λ h. let p = cases.0 h in (p.0, AtMost-true _ _ p.1), λ h. cases.1 (h.0, at_most-true _ _ h.1))
