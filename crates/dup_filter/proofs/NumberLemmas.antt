-- What is marked and what has room, as one number or all change.
use Rattle.std.proofs.Common.{◌≡◌, ℕ, zero, suc, ◌+◌, ◌≤◌, ◌<◌, ◌≢◌, ◌↔◌, ◌⊎◌, Bool, true, false, cond, List, [], ◌∷◌}
use Rattle.std.proofs.Common.{Option, Some, None, IsSome, Result, Ok, Err, OnOk, OnErr, max, length, refl, sym, ap, ◌∙◌}
use Rattle.std.proofs.Common.{subst, inl, inr, ⊎_elim, arith}
use Rattle.std.specs.Map.{lookup, keys_of}
use Rattle.std.specs.List.{filter}
use Rattle.std.specs.List.Sorted.{IsStrictlySortedBy}
use Rattle.std.specs.BTreeMap.{is_at}
use Rattle.std.specs.Ordering.{nat_cmp}
use Rattle.std.specs.Cmp.{nat_cmp_total}
use Rattle.std.proofs.lemmas.Grind.{common_steps}
use Rattle.std.proofs.lemmas.Bool.{cases_lt, cases_eq}
use Rattle.std.proofs.lemmas.Bool.Decides.{nat_tests}
use Rattle.std.proofs.lemmas.Cmp.{eq_by_cmp_equiv}
use Rattle.std.proofs.lemmas.Map.Keys.{IsDistinct-from_sorted}
use Rattle.std.proofs.lemmas.Map.Entries.{lookup-filter-values, option_filter}
use Rattle.dup_filter.specs.Numbers.{Numbers, no_numbers, numbers, above_at, IsMarked, HasRoom, IsGreatest, Marks}
use Rattle.dup_filter.specs.Numbers.{KeepsRoom, GivesUpRooms, AreNumbers, IsTight}

is_at-same : (n : ℕ) → is_at (nat_cmp n) n ≡ true
is_at-same n = grind (arith, common_steps, nat_tests)

is_at-apart : (a b : ℕ) → b ≢ a → is_at (nat_cmp a) b ≡ false
is_at-apart a b h = grind (arith, common_steps, nat_tests)

-- The second numbers are the first, where this stands at this number.
pub record Puts (old new : Numbers) (number : ℕ) (b : Bool) : Type 0 where
  pub floor : new.floor ≡ old.floor
  pub here : above_at new number ≡ Some b
  pub others : (n : ℕ) → n ≢ number → above_at new n ≡ above_at old n

pub puts : (floor : ℕ) (above inserted : List (ℕ × Bool)) (number : ℕ) (b : Bool)
    → ((q : ℕ)
    → lookup (is_at (nat_cmp q)) inserted ≡ cond (is_at (nat_cmp number) q) (Some b) (lookup (is_at (nat_cmp q)) above))
    → Puts (record { floor = floor; above = above }) (record { floor = floor; above = inserted }) number b
puts floor above inserted number b h = record {
  floor = refl;
  here = h number ∙ ap (λ t. cond t (Some b) (lookup (is_at (nat_cmp number)) above)) (is_at-same number);
  others = λ n apart. h n ∙ ap (λ t. cond t (Some b) (lookup (is_at (nat_cmp n)) above)) (is_at-apart number n apart);
}

-- a number that is new, or that room is kept for, is above the floor
pub fresh_past : (s : Numbers) (number : ℕ) → 1 ≤ number → (IsMarked s number → ⊥) → s.floor < number
fresh_past s number some fresh = ⊎_elim (λ h. h) (λ h. absurd (fresh (inl (some, h)))) (cases_lt s.floor number)

pub room_past : (s : Numbers) (top number : ℕ) → AreNumbers s top → HasRoom s number → s.floor < number
room_past s top number is room = is.past number (subst (λ (o : Option Bool). IsSome o) (sym room) refl)

pub room_fresh : (s : Numbers) (top number : ℕ) → AreNumbers s top → HasRoom s number → IsMarked s number → ⊥
room_fresh s top number is room (inl h) = let past = room_past s top number is room in omega arith
room_fresh s top number is room (inr h) = cc

put_marked : (old new : Numbers) (number : ℕ) → Puts old new number true → (n : ℕ)
    → IsMarked new n ↔ ((n ≡ number) ⊎ IsMarked old n)
put_marked old new number p n = (
  λ m. ⊎_elim (λ same. inl same)
      (λ apart. inr (⊎_elim (λ low. inl (subst (λ (f : ℕ). (1 ≤ n) × (n ≤ f)) p.floor low))
      (λ at. inr (sym (p.others n apart) ∙ at)) m)) (cases_eq n number),
  λ m. ⊎_elim (λ same. inr (subst (λ (k : ℕ). above_at new k ≡ Some true) (sym same) p.here))
      (λ old_one. ⊎_elim (λ same. inr (subst (λ (k : ℕ). above_at new k ≡ Some true) (sym same) p.here))
      (λ apart. ⊎_elim (λ low. inl (subst (λ (f : ℕ). (1 ≤ n) × (n ≤ f)) (sym p.floor) low))
      (λ at. inr (p.others n apart ∙ at)) old_one) (cases_eq n number)) m,
)

put_room : (old new : Numbers) (number : ℕ) → Puts old new number true → (n : ℕ)
    → HasRoom new n ↔ (HasRoom old n × (n ≢ number))
put_room old new number p n = (
  λ m. ⊎_elim (λ same. absurd (let here = subst (λ (k : ℕ). above_at new k ≡ Some true) (sym same) p.here in cc))
      (λ apart. (sym (p.others n apart) ∙ m, apart)) (cases_eq n number),
  λ m. p.others n m.1 ∙ m.0,
)

-- the floor is raised after a number was put
pub marks : (old put new : Numbers) (number : ℕ) → Puts old put number true
    → ((n : ℕ) → IsMarked new n ↔ IsMarked put n) → ((n : ℕ) → HasRoom new n ↔ HasRoom put n) → Marks old new number
marks old put new number p marked room = record {
  marked = λ n. let b = put_marked old put number p n in (λ m. b.0 ((marked n).0 m), λ m. (marked n).1 (b.1 m));
  room = λ n. let b = put_room old put number p n in (λ m. b.0 ((room n).0 m), λ m. (room n).1 (b.1 m));
}

pub puts_past : (old new : Numbers) (top number : ℕ) (b : Bool) → AreNumbers old top → Puts old new number b
    → old.floor < number → (n : ℕ) → IsSome (above_at new n) → new.floor < n
puts_past old new top number b is p past n some =
    ⊎_elim (λ same. let f = p.floor in omega arith)
    (λ apart.
    let f = p.floor in let q = is.past n (subst (λ (o : Option Bool). IsSome o) (p.others n apart) some) in omega arith)
    (cases_eq n number)

pub greatest_after : (old new : Numbers) (top number : ℕ) → IsGreatest old top → Marks old new number
    → IsGreatest new (max top number)
greatest_after old new top number g m = record {
  most = λ k marked. ⊎_elim (λ same. omega arith) (λ was. let q = g.most k was in omega arith) ((m.marked k).0 marked);
  marked = ⊎_elim
      (λ above.
      let is : number ≡ max top number = omega arith in
      inr (subst (λ (k : ℕ). IsMarked new k) is ((m.marked number).1 (inl refl))))
      (λ below.
      let is : top ≡ max top number = omega arith in
      ⊎_elim (λ zero. inl (sym is ∙ zero))
      (λ was. inr (subst (λ (k : ℕ). IsMarked new k) is ((m.marked top).1 (inr was)))) g.marked) (cases_lt top number);
}

-- room is kept for one more number
pub keeps_marked : (old new : Numbers) (number : ℕ) → Puts old new number false → (IsMarked old number → ⊥) → (n : ℕ)
    → IsMarked new n ↔ IsMarked old n
keeps_marked old new number p fresh n = (
  λ m. ⊎_elim (λ low. inl (subst (λ (f : ℕ). (1 ≤ n) × (n ≤ f)) p.floor low))
      (λ at. ⊎_elim (λ same. absurd (let here = subst (λ (k : ℕ). above_at new k ≡ Some false) (sym same) p.here in cc))
      (λ apart. inr (sym (p.others n apart) ∙ at)) (cases_eq n number)) m,
  λ m. ⊎_elim (λ low. inl (subst (λ (f : ℕ). (1 ≤ n) × (n ≤ f)) (sym p.floor) low))
      (λ at. ⊎_elim (λ same. absurd (fresh (subst (λ (k : ℕ). IsMarked old k) same m)))
      (λ apart. inr (p.others n apart ∙ at)) (cases_eq n number)) m,
)

pub keeps_room : (old new : Numbers) (number : ℕ) → Puts old new number false → (IsMarked old number → ⊥)
    → KeepsRoom old new number
keeps_room old new number p fresh = record {
  marked = keeps_marked old new number p fresh;
  room = λ n. (
    λ m. ⊎_elim (λ same. inl same) (λ apart. inr (sym (p.others n apart) ∙ m)) (cases_eq n number),
    λ m. ⊎_elim (λ same. subst (λ (k : ℕ). above_at new k ≡ Some false) (sym same) p.here)
        (λ was. ⊎_elim (λ same. subst (λ (k : ℕ). above_at new k ≡ Some false) (sym same) p.here)
        (λ apart. p.others n apart ∙ was) (cases_eq n number)) m,
  );
}

pub greatest_same : (old new : Numbers) (top : ℕ) → IsGreatest old top → ((n : ℕ) → IsMarked new n ↔ IsMarked old n)
    → IsGreatest new top
greatest_same old new top g same =
    record { most = λ k m. g.most k ((same k).0 m); marked = ⊎_elim (λ z. inl z) (λ m. inr ((same top).1 m)) g.marked }

-- with the same floor, and the same numbers marked, the one behind the floor is still not marked
pub tight_same : (old new : Numbers) → new.floor ≡ old.floor → ((n : ℕ) → IsMarked new n ↔ IsMarked old n)
    → IsTight old → IsTight new
tight_same old new floor same tight m =
    tight (subst (λ (f : ℕ). IsMarked old (f + 1)) floor ((same (new.floor + 1)).0 m))

-- The marked ones above the floor are kept, and no others.
abbrev is_marked : ℕ × Bool → Bool
is_marked e = e.1

kept_of : (o : Option Bool) → (option_filter (λ b. b) o ≡ Some true) ↔ (o ≡ Some true)
kept_of None = (λ h. h, λ h. h)
kept_of (Some true) = (λ h. h, λ h. h)
kept_of (Some false) = (λ h. absurd cc, λ h. absurd cc)

no_room_of : (o : Option Bool) → option_filter (λ b. b) o ≡ Some false → ⊥
no_room_of None h = cc
no_room_of (Some true) h = cc
no_room_of (Some false) h = cc

some_of : (o : Option Bool) → IsSome (option_filter (λ b. b) o) → IsSome o
some_of None h = h
some_of (Some b) h = refl

pub record Sifts (old new : Numbers) : Type 0 where
  pub floor : new.floor ≡ old.floor
  pub each : (n : ℕ) → above_at new n ≡ option_filter (λ b. b) (above_at old n)

pub sifts : (floor : ℕ) (above kept : List (ℕ × Bool)) → IsStrictlySortedBy nat_cmp (keys_of above)
    → kept ≡ filter is_marked above
    → Sifts (record { floor = floor; above = above }) (record { floor = floor; above = kept })
sifts floor above kept sorted is = record {
  floor = refl;
  each = λ n.
      ap (λ es. lookup (is_at (nat_cmp n)) es) is
      ∙ lookup-filter-values (eq_by_cmp_equiv nat_cmp_total) (λ b. b) n above
      (IsDistinct-from_sorted nat_cmp (keys_of above) sorted);
}

pub gives_up : (old new : Numbers) → Sifts old new → GivesUpRooms old new
gives_up old new s = record {
  marked = λ n. (
    λ m. ⊎_elim (λ low. inl (subst (λ (f : ℕ). (1 ≤ n) × (n ≤ f)) s.floor low))
        (λ at. inr ((kept_of (above_at old n)).0 (sym (s.each n) ∙ at))) m,
    λ m. ⊎_elim (λ low. inl (subst (λ (f : ℕ). (1 ≤ n) × (n ≤ f)) (sym s.floor) low))
        (λ at. inr (s.each n ∙ (kept_of (above_at old n)).1 at)) m,
  );
  room = λ n h. no_room_of (above_at old n) (sym (s.each n) ∙ h);
}

pub sifts_past : (old new : Numbers) (top : ℕ) → AreNumbers old top → Sifts old new → (n : ℕ) → IsSome (above_at new n)
    → new.floor < n
sifts_past old new top is s n some =
    let f = s.floor in
    let q = is.past n (some_of (above_at old n) (subst (λ (o : Option Bool). IsSome o) (s.each n) some)) in omega arith

-- Threads

pub numbers_past : (released : List Numbers) (t : ℕ) → length released ≤ t → numbers released t ≡ no_numbers
numbers_past [] t h = refl
numbers_past (x ∷ released) zero h = absurd (omega arith)
numbers_past (x ∷ released) (suc t) h = numbers_past released t (omega arith)

pub gives_up_none : GivesUpRooms no_numbers no_numbers
gives_up_none = record { marked = λ n. (λ h. h, λ h. h); room = λ n h. cc }

pub gives_up_all : (old new : List Numbers) (i : ℕ) → length old ≤ i → length new ≡ length old
    → ((t : ℕ) → t < i → GivesUpRooms (numbers old t) (numbers new t)) → (t : ℕ)
    → GivesUpRooms (numbers old t) (numbers new t)
gives_up_all old new i past same each t =
    ⊎_elim (λ h. each t (omega arith))
    (λ h. let o = numbers_past old t h in let n = numbers_past new t (omega arith) in rw (o, n) gives_up_none)
    (cases_lt t (length old))

-- an insertion at a number that stands there takes no memory
pub at_present : {A E : Type 0} {P : Type 0} (r : Result A E) (o : Option Bool) (b : Bool) → o ≡ Some b → OnOk r P
    → OnErr r (o ≡ None) → P
at_present (Ok x) o b some ok err = ok
at_present (Err e) o b some ok err = absurd cc
