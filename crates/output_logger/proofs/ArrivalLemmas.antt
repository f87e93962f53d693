-- Outputs by their arrival numbers.
use Rattle.std.proofs.Common.{◌≡◌, ◌≢◌, ℕ, zero, suc, ◌≤◌, ◌<◌, ◌⊎◌, ◌↔◌, true, false, cond, ◌||◌, List, [], ◌∷◌, ◌++◌}
use Rattle.std.proofs.Common.{Option, Some, None, IsSome, Result, Ok, Err, OnOk, length, slice_index, Less, refl, sym}
use Rattle.std.proofs.Common.{ap, ◌∙◌, subst, inl, inr, ⊎_elim, arith}
use Rattle.std.specs.Result.{is_err}
use Rattle.std.specs.declared.cmp.Ordering.TheVariants.{Greater}
use Rattle.std.specs.Ordering.{nat_cmp, match_ordering}
use Rattle.std.specs.List.{list_any, AllByRecursion}
use Rattle.std.specs.List.Sorted.{IsStrictlySortedBy}
use Rattle.std.specs.Map.{keys_of, remove_entry}
use Rattle.std.specs.BTreeMap.{is_at, insert_entry}
use Rattle.std.proofs.lemmas.Bool.{cases_lt, cases_eq}
use Rattle.std.proofs.lemmas.Bool.Decides.{nat_tests}
use Rattle.std.proofs.lemmas.Map.Keys.{sorted_head, sorted_tail}
use Rattle.thread_clock.specs.Clock.{AtMost}
use Rattle.access_log.specs.declared.entry.Output.{Output}
use Rattle.output_logger.specs.Kept.{arrived, IsReady, PartsBy}
use Rattle.output_logger.proofs.KeyLemmas.{at_same, at_apart, at_equal}

abbrev Arrivals : Type 0
Arrivals = List (ℕ × Output)

pub ok_of : {A E : Type 0} {P : Type 0} (r : Result A E) → is_err r ≡ false → OnOk r P → P
ok_of (Ok x) e h = h
ok_of (Err x) e h = absurd cc

pub some_of : {X : Type 0} (o : Option X) (x : X) → o ≡ Some x → IsSome o
some_of o x h = subst (λ p. IsSome p) (sym h) refl

pub some_is : {X : Type 0} (o : Option X) → IsSome o → (x : X) × (o ≡ Some x)
some_is None h = absurd cc
some_is (Some x) h = (x, refl)

pub arrived_head : (e : ℕ × Output) (es : Arrivals) → arrived (e ∷ es) e.0 ≡ Some e.1
arrived_head e es = ap (λ b. cond b (Some e.1) (arrived es e.0)) (at_same e.0)

pub arrived_tail : (e : ℕ × Output) (es : Arrivals) (a : ℕ) → a ≢ e.0 → arrived (e ∷ es) a ≡ arrived es a
arrived_tail e es a apart =
    let other : e.0 ≢ a = λ q. apart (sym q) in ap (λ b. cond b (Some e.1) (arrived es a)) (at_apart a e.0 other)

-- an output that arrives last stands last
pub insert_last : (es : Arrivals) (a : ℕ) (o : Output) → ((b : ℕ) → IsSome (arrived es b) → b < a)
    → insert_entry nat_cmp es a o ≡ es ++ (a, o) ∷ []
insert_last [] a o last = refl
insert_last (e ∷ es) a o last =
    let above : e.0 < a = last e.0 (some_of _ e.1 (arrived_head e es)) in
    let order : nat_cmp a e.0 ≡ Greater = grind (arith, nat_tests) in
    let rest = insert_last es a o (λ b h. ⊎_elim (λ (same : b ≡ e.0). omega arith)
    (λ apart. last b (subst (λ p. IsSome p) (sym (arrived_tail e es b apart)) h)) (cases_eq b e.0)) in
    ap (λ r. match_ordering r ((a, o) ∷ e ∷ es) ((e.0, o) ∷ es) (e ∷ insert_entry nat_cmp es a o)) order
    ∙ ap (λ l. e ∷ l) rest

-- keys in order are above the first

pub above_head : (k : ℕ) (es : Arrivals) → AllByRecursion (λ y. nat_cmp k y ≡ Less) (keys_of es) → (a : ℕ) (o : Output)
    → arrived es a ≡ Some o → k < a
above_head k [] all a o h = absurd cc
above_head k (e ∷ es) all a o h =
    ⊎_elim (λ (same : a ≡ e.0). let first = all.0 in let below : k < e.0 = grind (arith, nat_tests) in omega arith)
    (λ apart. above_head k es all.1 a o (sym (arrived_tail e es a apart) ∙ h)) (cases_eq a e.0)

pub arrived_above : (e : ℕ × Output) (es : Arrivals) → IsStrictlySortedBy nat_cmp (keys_of (e ∷ es)) → (a : ℕ)
    (o : Output) → arrived es a ≡ Some o → e.0 < a
arrived_above e es sorted a o h = above_head e.0 es (sorted_head nat_cmp e.0 (keys_of es) sorted) a o h

-- a stamp is at most another, or has a component above it

AtMost-none : (r : List ℕ) → AtMost [] r
AtMost-none r u = omega arith

AtMost-cons : (x y : ℕ) (s r : List ℕ) → x ≤ y → AtMost s r → AtMost (x ∷ s) (y ∷ r)
AtMost-cons x y s r h all zero = h
AtMost-cons x y s r h all (suc u) = all u

AtMost-cons_of_none : (x : ℕ) (s : List ℕ) → x ≤ 0 → AtMost s [] → AtMost (x ∷ s) []
AtMost-cons_of_none x s h all zero = h
AtMost-cons_of_none x s h all (suc u) = all u

pub at_most_or_above : (s r : List ℕ) → AtMost s r ⊎ ((u : ℕ) × (slice_index r u < slice_index s u))
at_most_or_above [] r = inl (AtMost-none r)
at_most_or_above (x ∷ s) [] =
    ⊎_elim (λ above. inr (zero, above))
    (λ low.
    ⊎_elim (λ all. inl (AtMost-cons_of_none x s low all)) (λ some. inr (suc some.0, some.1)) (at_most_or_above s []))
    (cases_lt 0 x)
at_most_or_above (x ∷ s) (y ∷ r) =
    ⊎_elim (λ above. inr (zero, above))
    (λ low. ⊎_elim (λ all. inl (AtMost-cons x y s r low all)) (λ some. inr (suc some.0, some.1)) (at_most_or_above s r))
    (cases_lt y x)

pub some_above : (s r : List ℕ) → (AtMost s r → ⊥) → (u : ℕ) × (slice_index r u < slice_index s u)
some_above s r not_all = ⊎_elim (λ all. absurd (not_all all)) (λ some. some) (at_most_or_above s r)

pub positive_in : (s : List ℕ) (u : ℕ) → 0 < slice_index s u → u < length s
positive_in [] u h = absurd (omega arith)
positive_in (x ∷ s) zero h = omega arith
positive_in (x ∷ s) (suc u) h = let rest = positive_in s u h in omega arith

-- numbers that are ready, one after another

pub ready_append : (xs : List ℕ) (k a : ℕ) → IsReady (xs ++ k ∷ []) a ↔ (IsReady xs a ⊎ (a ≡ k))
ready_append [] k a = (
  λ h. elim (is_at (nat_cmp a) k) as (λ b. is_at (nat_cmp a) k ≡ b → (b || false) ≡ true → (false ≡ true) ⊎ (a ≡ k))
      [ true ↦ λ e q. inr (at_equal a k e) | false ↦ λ e q. absurd cc ] refl h,
  λ h. ⊎_elim (λ none. absurd cc)
      (λ same. subst (λ (x : ℕ). IsReady (x ∷ []) a) same (ap (λ b. b || false) (at_same a))) h,
)
ready_append (x ∷ xs) k a =
    let rest = ready_append xs k a in (
      λ h. elim (is_at (nat_cmp a) x) as
          (λ b.
          (b || list_any (is_at (nat_cmp a)) (xs ++ k ∷ [])) ≡ true
          → ((b || list_any (is_at (nat_cmp a)) xs) ≡ true) ⊎ (a ≡ k))
          [ true ↦ λ q. inl refl | false ↦ λ q. rest.0 q ] h,
      λ h. elim (is_at (nat_cmp a) x) as
          (λ b.
          ((b || list_any (is_at (nat_cmp a)) xs) ≡ true) ⊎ (a ≡ k)
          → (b || list_any (is_at (nat_cmp a)) (xs ++ k ∷ [])) ≡ true) [ true ↦ λ q. refl | false ↦ λ q. rest.1 q ] h,
    )

pub ready_in : (xs : List ℕ) (k : ℕ) (ys : List ℕ) → IsReady (xs ++ k ∷ ys) k
ready_in [] k ys = ap (λ b. b || list_any (is_at (nat_cmp k)) ys) (at_same k)
ready_in (x ∷ xs) k ys = elim (is_at (nat_cmp k) x) as (λ b. (b || list_any (is_at (nat_cmp k)) (xs ++ k ∷ ys)) ≡ true)
    [ true ↦ refl | false ↦ ready_in xs k ys ]

less_in : (x : ℕ) (xs : List ℕ) (k : ℕ) (ys : List ℕ) → AllByRecursion (λ y. nat_cmp x y ≡ Less) (xs ++ k ∷ ys) → x < k
less_in x [] k ys all = let first = all.0 in grind (arith, nat_tests)
less_in x (y ∷ xs) k ys all = less_in x xs k ys all.1

pub ready_below : (xs : List ℕ) (k : ℕ) (ys : List ℕ) → IsStrictlySortedBy nat_cmp (xs ++ k ∷ ys) → (a : ℕ)
    → IsReady xs a → a < k
ready_below [] k ys sorted a h = absurd cc
ready_below (x ∷ xs) k ys sorted a h =
    let first = less_in x xs k ys (sorted_head nat_cmp x (xs ++ k ∷ ys) sorted) in
    elim (is_at (nat_cmp a) x) as
    (λ b. is_at (nat_cmp a) x ≡ b → (b || list_any (is_at (nat_cmp a)) xs) ≡ true → a < k) [
      | true ↦ λ e q. let same = at_equal a x e in omega arith
      | false ↦ λ e q. ready_below xs k ys (sorted_tail nat_cmp x (xs ++ k ∷ ys) sorted) a q
    ] refl h

-- Parts by arrival numbers

pub parts_none : (Q : ℕ → Type 0) → ((a : ℕ) → Q a → ⊥) → (es : Arrivals) → PartsBy Q es [] es
parts_none Q none [] = (refl, refl)
parts_none Q none (e ∷ es) = inr (none e.0, es, refl, parts_none Q none es)

-- where none of the later ones goes, none goes
none_goes : (Q P : ℕ → Type 0) (k : ℕ) (es : Arrivals) (go : List Output) (stay : Arrivals)
    → AllByRecursion (λ y. nat_cmp k y ≡ Less) (keys_of es) → ((a : ℕ) → k < a → Q a → ⊥) → ((a : ℕ) → k < a → P a → ⊥)
    → PartsBy Q es go stay → (go ≡ []) × PartsBy P es [] stay
none_goes Q P k [] go stay all no_q no_p parts = (parts.0, (refl, parts.1))
none_goes Q P k (e ∷ es) go stay all no_q no_p parts =
    let first = all.0 in
    let above : k < e.0 = grind (arith, nat_tests) in
    ⊎_elim
    (λ h. absurd (no_q e.0 above h.0))
    (λ h. let rest = none_goes Q P k es go h.1 all.1 no_q no_p h.3 in (rest.0, inr (no_p e.0 above, h.1, h.2, rest.1)))
    parts

-- one more goes, which arrived after those that went
pub parts_more : (Q P : ℕ → Type 0) (k : ℕ) (o : Output) (es : Arrivals) (go : List Output) (stay : Arrivals)
    → IsStrictlySortedBy nat_cmp (keys_of es) → ((a : ℕ) → Q a → a < k) → ((a : ℕ) → Q a → P a) → P k
    → ((a : ℕ) → P a → Q a ⊎ (a ≡ k)) → PartsBy Q es go stay → arrived stay k ≡ Some o
    → PartsBy P es (go ++ o ∷ []) (remove_entry (is_at (nat_cmp k)) stay)
parts_more Q P k o [] go stay sorted below more here only parts at = let none = parts.1 in absurd cc
parts_more Q P k o (e ∷ es) go stay sorted below more here only parts at =
    let tail = sorted_tail nat_cmp e.0 (keys_of es) sorted in
    ⊎_elim (λ h. inl (
      more e.0 h.0,
      h.1 ++ o ∷ [],
      ap (λ l. l ++ o ∷ []) h.2,
      parts_more Q P k o es h.1 stay tail below more here only h.3 at,
    ))
    (λ h. ⊎_elim
    (λ (same : k ≡ e.0).
    let whole : arrived (e ∷ h.1) k ≡ Some o = ap (λ l. arrived l k) (sym h.2) ∙ at in
    let first : arrived (e ∷ h.1) k ≡ Some e.1 =
    subst (λ (x : ℕ). arrived (e ∷ h.1) x ≡ Some e.1) (sym same) (arrived_head e h.1) in
    let is : e.1 ≡ o = let both : Some e.1 ≡ Some o = sym first ∙ whole in cc in
    let all = subst (λ (x : ℕ). AllByRecursion (λ y. nat_cmp x y ≡ Less) (keys_of es)) (sym same)
    (sorted_head nat_cmp e.0 (keys_of es) sorted) in
    let rest = none_goes Q P k es go h.1 all (λ a above q. let low = below a q in omega arith)
    (λ a above p. ⊎_elim (λ q. let low = below a q in omega arith) (λ s. omega arith) (only a p)) h.3 in
    let removed : remove_entry (is_at (nat_cmp k)) stay ≡ h.1 =
    ap (remove_entry (is_at (nat_cmp k))) h.2
    ∙ ap (λ b. cond b h.1 (e ∷ remove_entry (is_at (nat_cmp k)) h.1))
    (subst (λ (x : ℕ). is_at (nat_cmp k) x ≡ true) same (at_same k)) in
    inl (
      subst P same here,
      [],
      ap (λ l. l ++ o ∷ []) rest.0 ∙ ap (λ x. x ∷ []) (sym is),
      subst (λ (l : Arrivals). PartsBy P es [] l) (sym removed) rest.1,
    ))
    (λ (apart : k ≢ e.0).
    let other : e.0 ≢ k = λ q. apart (sym q) in
    let later : arrived h.1 k ≡ Some o = sym (arrived_tail e h.1 k apart) ∙ ap (λ l. arrived l k) (sym h.2) ∙ at in
    let removed : remove_entry (is_at (nat_cmp k)) stay ≡ e ∷ remove_entry (is_at (nat_cmp k)) h.1 =
    ap (remove_entry (is_at (nat_cmp k))) h.2
    ∙ ap (λ b. cond b h.1 (e ∷ remove_entry (is_at (nat_cmp k)) h.1)) (at_apart k e.0 other) in
    inr (
      λ p. ⊎_elim h.0 other (only e.0 p),
      remove_entry (is_at (nat_cmp k)) h.1,
      removed,
      parts_more Q P k o es go h.1 tail below more here only h.3 later,
    )) (cases_eq k e.0)) parts
