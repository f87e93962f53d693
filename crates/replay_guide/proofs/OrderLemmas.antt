-- Weighed entries in order.
use Rattle.std.proofs.Common.{◌≡◌, ◌≢◌, ℕ, ◌+◌, ◌-◌, ◌<◌, ◌≤◌, ◌⊎◌, ◌↔◌, ◌||◌, true, false, cond, List, [], ◌∷◌, Option}
use Rattle.std.proofs.Common.{Some, None, IsSome, Less, length, map, sum, slice_get, slice_index, refl, sym, ap, ◌∙◌}
use Rattle.std.proofs.Common.{subst, inl, inr, ⊎_elim, arith}
use Rattle.std.specs.List.{list_any, AllByRecursion}
use Rattle.std.specs.List.Sorted.{IsStrictlySortedBy}
use Rattle.std.specs.BTreeMap.{is_at}
use Rattle.std.proofs.lemmas.Map.Keys.{sorted_head, sorted_tail}
use Rattle.std.proofs.lemmas.Bool.{cases_lt}
use Rattle.std.proofs.lemmas.Option.{slice_get_within}
use Rattle.entry_order.specs.Stamps.{sum_below}
use Rattle.entry_order.proofs.Order.{is_or}
use Rattle.entry_order.proofs.Weights.{sum_below_list}
use Rattle.access_log.specs.declared.entry.StampedEntry.{StampedEntry}
use Rattle.access_log.specs.Held.{Lane, lane, entry_at}
use Rattle.access_log.specs.Lanes.{IsHeldSet}
use Rattle.access_log.proofs.LaneLemmas.{lane_past}
use Rattle.replay_guide.specs.Orders.{weight_of, IsNamed, ComesBefore, IsInOrder}
use Rattle.replay_guide.specs.Walks.{numbered, weighed_cmp, WeighsBelow, IsWeighed}
use Rattle.replay_guide.proofs.Keys.{weighed_same, weighed_equal, weighed_less}
use Rattle.replay_guide.proofs.LaneLists.{lane_of, at-numbered, at-numbered_before}
use Rattle.replay_guide.proofs.IndexLemmas.{cond_true, true_cond}

pub weight_is_sum : (e : StampedEntry) → length e.stamp ≡ 16 → weight_of e ≡ sum e.stamp
unfolding weight_of
weight_is_sum e all = subst (λ n. sum_below n (λ u. slice_index e.stamp u) ≡ sum e.stamp) all (sum_below_list e.stamp)

abbrev pub Weighed : Type 0
Weighed = ℕ × ℕ × ℕ

-- the list has the key
abbrev KeyIn : Weighed → List Weighed → Type 0
KeyIn k [] = ⊥
KeyIn k (x ∷ rest) = (x ≡ k) ⊎ KeyIn k rest

key_is : (k q : Weighed) → k.0 ≡ q.0 → k.1 ≡ q.1 → k.2 ≡ q.2 → k ≡ q
key_is k q a b c = made k.0 q.0 k.1 q.1 k.2 q.2 a b c
  where
    made : (i j m n p r : ℕ) → i ≡ j → m ≡ n → p ≡ r → Path Weighed (i, m, p) (j, n, r)
    made i j m n p r a b c = rw (a, b, c) refl

weighed_in : (keys : List Weighed) (k : Weighed) → list_any (is_at (weighed_cmp k)) keys ≡ true → KeyIn k keys
weighed_in [] k h = absurd cc
weighed_in (x ∷ rest) k h =
    let later = weighed_in rest k in
    elim (is_at (weighed_cmp k) x) as
    (λ b. is_at (weighed_cmp k) x ≡ b → (b || list_any (is_at (weighed_cmp k)) rest) ≡ true → (x ≡ k) ⊎ KeyIn k rest) [
      | true ↦ λ e q. let same = weighed_equal k x e in inl (key_is x k (sym same.0) (sym same.1) (sym same.2))
      | false ↦ λ e q. inr (later q)
    ] refl h

in_weighed : (keys : List Weighed) (k : Weighed) → KeyIn k keys → list_any (is_at (weighed_cmp k)) keys ≡ true
in_weighed [] k h = absurd h
in_weighed (x ∷ rest) k (inl same) =
    let here : is_at (weighed_cmp k) x ≡ true =
    subst (λ (y : Weighed). is_at (weighed_cmp k) y ≡ true) (sym same) (weighed_same k) in
    ap (λ b. b || list_any (is_at (weighed_cmp k)) rest) here
in_weighed (x ∷ rest) k (inr h) =
    let later = in_weighed rest k h in
    elim (is_at (weighed_cmp k) x) as (λ b. (b || list_any (is_at (weighed_cmp k)) rest) ≡ true)
    [ true ↦ refl | false ↦ later ]

-- names

abbrev pub name_of : Weighed → ℕ × ℕ
name_of k = (k.1, k.2)

named_key : (keys : List Weighed) (t n : ℕ) → IsNamed t n (map name_of keys) → (w : ℕ) × KeyIn (w, t, n) keys
named_key [] t n h = absurd h
named_key (x ∷ rest) t n (inl both) = (x.0, inl (key_is x (x.0, t, n) refl both.0 both.1))
named_key (x ∷ rest) t n (inr h) = let r = named_key rest t n h in (r.0, inr r.1)

key_named : (keys : List Weighed) (w t n : ℕ) → KeyIn (w, t, n) keys → IsNamed t n (map name_of keys)
key_named [] w t n h = absurd h
key_named (x ∷ rest) w t n (inl same) = inl (ap (λ (k : Weighed). k.1) same, ap (λ (k : Weighed). k.2) same)
key_named (x ∷ rest) w t n (inr h) = inr (key_named rest w t n h)

all_less : (x y : Weighed) (rest : List Weighed) → AllByRecursion (λ k. weighed_cmp x k ≡ Less) rest → KeyIn y rest
    → weighed_cmp x y ≡ Less
all_less x y [] all h = absurd h
all_less x y (k ∷ rest) all (inl same) = subst (λ (q : Weighed). weighed_cmp x q ≡ Less) same all.0
all_less x y (k ∷ rest) all (inr h) = all_less x y rest all.1 h

-- each key is of a followed entry, with its weight
abbrev AreOf : List Lane → List Weighed → Type 0
AreOf guide keys =
    (w t n : ℕ) → KeyIn (w, t, n) keys → (e : StampedEntry) × (entry_at (lane guide t) n ≡ Some e) × (weight_of e ≡ w)

comes_before : (guide : List Lane) (x y : Weighed) (a b : StampedEntry) → entry_at (lane guide x.1) x.2 ≡ Some a
    → weight_of a ≡ x.0 → entry_at (lane guide y.1) y.2 ≡ Some b → weight_of b ≡ y.0 → weighed_cmp x y ≡ Less
    → ComesBefore guide x.1 x.2 y.1 y.2
comes_before guide x y a b at_a weight_a at_b weight_b less e f at_e at_f =
    let same_a : a ≡ e = cc in
    let same_b : b ≡ f = cc in
    let first : weight_of e ≡ x.0 = ap weight_of (sym same_a) ∙ weight_a in
    let second : weight_of f ≡ y.0 = ap weight_of (sym same_b) ∙ weight_b in
    ⊎_elim (λ h. inl (omega arith)) (λ h. let equal = h.0 in inr (omega arith, h.1)) (weighed_less x y less)

in_order : (guide : List Lane) (keys : List Weighed) → IsStrictlySortedBy weighed_cmp keys → AreOf guide keys
    → IsInOrder guide (map name_of keys)
in_order guide [] sorted of = tt
in_order guide (x ∷ rest) sorted of = (
  (λ u m named.
      let k = named_key rest u m named in
      let a = of x.0 x.1 x.2 (inl refl) in
      let b = of k.0 u m (inr k.1) in
      comes_before guide x (k.0, u, m) a.0 b.0 a.1 a.2 b.1 b.2
      (all_less x (k.0, u, m) rest (sorted_head weighed_cmp x rest sorted) k.1)),
  in_order guide rest (sorted_tail weighed_cmp x rest sorted) (λ w t n h. of w t n (inr h)),
)

-- the order of all that the lanes hold
module _ (guide : List Lane) (keys : List Weighed) (is : IsHeldSet guide)
    (all : (w t n : ℕ) → IsWeighed keys w t n ↔ WeighsBelow guide (length guide) w t n) where
  of_lanes : AreOf guide keys
  of_lanes w t n h = go ((all w t n).0 (in_weighed keys (w, t, n) h))
    where
      go : WeighsBelow guide (length guide) w t n
          → (e : StampedEntry) × (entry_at (lane guide t) n ≡ Some e) × (weight_of e ≡ w)
      go (u, k, e, low, here, weight, thread, number) =
          let names = is.named u k e here in
          let u_is : u ≡ t = sym names.0 ∙ thread in
          let k_is : k ≡ n = sym names.1 ∙ number in (
            e,
            subst (λ (x : ℕ). entry_at (lane guide x) n ≡ Some e) u_is
                (subst (λ (x : ℕ). entry_at (lane guide u) x ≡ Some e) k_is here),
            weight,
          )

  has_lane : (t n : ℕ) (e : StampedEntry) → entry_at (lane guide t) n ≡ Some e → t < length guide
  has_lane t n e here = ⊎_elim (λ (h : t < length guide). h)
      (λ h. let fresh = lane_past guide t h in let none : entry_at (lane guide t) n ≡ None = rw fresh refl in absurd cc)
      (cases_lt t (length guide))

  found : (t n : ℕ) (o : Option StampedEntry) → entry_at (lane guide t) n ≡ o → IsSome o
      → IsNamed t n (map name_of keys)
  found t n None here some = absurd cc
  found t n (Some e) here some =
      let names = is.named t n e here in
      key_named keys (weight_of e) t n (weighed_in keys (weight_of e, t, n)
      ((all (weight_of e) t n).1 (t, n, e, has_lane t n e here, here, refl, names.0, names.1)))

  pub each_named : (t n : ℕ) → IsNamed t n (map name_of keys) ↔ IsSome (entry_at (lane guide t) n)
  each_named t n = (
    (λ h.
        let k = named_key keys t n h in
        let r = of_lanes k.0 t n k.1 in subst (λ (o : Option StampedEntry). IsSome o) (sym r.1) refl),
    (λ some. found t n (entry_at (lane guide t) n) refl some),
  )

  pub all_in_order : IsStrictlySortedBy weighed_cmp keys → IsInOrder guide (map name_of keys)
  all_in_order sorted = in_order guide keys sorted of_lanes

-- One more entry is weighed

abbrev pub Inserts : List Weighed → List Weighed → Weighed → Type 0
Inserts old new k =
    (q : Weighed)
    → list_any (is_at (weighed_cmp q)) new ≡ cond (is_at (weighed_cmp k) q) true (list_any (is_at (weighed_cmp q)) old)

inserted : (old new : List Weighed) (k q : Weighed) → Inserts old new k → IsWeighed new q.0 q.1 q.2
    → IsWeighed old q.0 q.1 q.2 ⊎ (k ≡ q)
inserted old new k q ins h =
    ⊎_elim (λ a. inl a) (λ b. let same = weighed_equal k q b in inr (key_is k q same.0 same.1 same.2))
    (cond_true (is_at (weighed_cmp k) q) _ (sym (ins q) ∙ h))

kept : (old new : List Weighed) (k q : Weighed) → Inserts old new k → IsWeighed old q.0 q.1 q.2
    → IsWeighed new q.0 q.1 q.2
kept old new k q ins h = ins q ∙ true_cond (is_at (weighed_cmp k) q) _ h

here_now : (old new : List Weighed) (k : Weighed) → Inserts old new k → IsWeighed new k.0 k.1 k.2
here_now old new k ins = ins k ∙ ap (λ b. cond b true (list_any (is_at (weighed_cmp k)) old)) (weighed_same k)

-- one of the first entries of the list has this weight and this name
abbrev pub WeighsUpTo : List StampedEntry → ℕ → ℕ → ℕ → ℕ → Type 0
WeighsUpTo es i weight t n =
    (j : ℕ) × (e : StampedEntry) × (j < i) × (slice_get es j ≡ Some e) × (weight_of e ≡ weight) × (e.thread ≡ t)
    × (e.number ≡ n)

pub weighs_more : (first old new : List Weighed) (es : List StampedEntry) (i : ℕ) (e : StampedEntry) (weight : ℕ)
    → slice_get es i ≡ Some e → weight_of e ≡ weight → Inserts old new (weight, e.thread, e.number)
    → ((w t n : ℕ) → IsWeighed old w t n ↔ (IsWeighed first w t n ⊎ WeighsUpTo es i w t n)) → (w t n : ℕ)
    → IsWeighed new w t n ↔ (IsWeighed first w t n ⊎ WeighsUpTo es (i + 1) w t n)
weighs_more first old new es i e weight here weight_is ins all w t n =
    (λ h. to (inserted old new (weight, e.thread, e.number) (w, t, n) ins h), λ h. from h)
  where
    up : IsWeighed first w t n ⊎ WeighsUpTo es i w t n → IsWeighed first w t n ⊎ WeighsUpTo es (i + 1) w t n
    up (inl h) = inl h
    up (inr (j, f, low, at, weight, thread, number)) = inr (j, f, omega arith, at, weight, thread, number)

    to : IsWeighed old w t n ⊎ (Path Weighed (weight, e.thread, e.number) (w, t, n))
        → IsWeighed first w t n ⊎ WeighsUpTo es (i + 1) w t n
    to (inl h) = up ((all w t n).0 h)
    to (inr q) = inr (
      i,
      e,
      omega arith,
      here,
      weight_is ∙ ap (λ (k : Weighed). k.0) q,
      ap (λ (k : Weighed). k.1) q,
      ap (λ (k : Weighed). k.2) q,
    )

    old_one : IsWeighed old w t n → IsWeighed new w t n
    old_one h = kept old new (weight, e.thread, e.number) (w, t, n) ins h

    new_one : (f : StampedEntry) → e ≡ f → weight_of f ≡ w → f.thread ≡ t → f.number ≡ n → IsWeighed new w t n
    new_one f same weight_f thread number =
        let k : Path Weighed (weight, e.thread, e.number) (w, t, n) =
        key_is (weight, e.thread, e.number) (w, t, n) (sym weight_is ∙ ap weight_of same ∙ weight_f)
        (ap (λ (g : StampedEntry). g.thread) same ∙ thread) (ap (λ (g : StampedEntry). g.number) same ∙ number) in
        subst (λ (q : Weighed). IsWeighed new q.0 q.1 q.2) k (here_now old new (weight, e.thread, e.number) ins)

    from : IsWeighed first w t n ⊎ WeighsUpTo es (i + 1) w t n → IsWeighed new w t n
    from (inl h) = old_one ((all w t n).1 (inl h))
    from (inr (j, f, low, at, weight_f, thread, number)) =
        ⊎_elim
        (λ (q : j ≡ i).
        let there : slice_get es i ≡ Some f = subst (λ (x : ℕ). slice_get es x ≡ Some f) q at in
        let same : e ≡ f = cc in new_one f same weight_f thread number)
        (λ (q : j ≢ i). old_one ((all w t n).1 (inr (j, f, grind arith, at, weight_f, thread, number)))) (is_or j i)

-- all entries of a lane are weighed
pub weighs_lane : (first new : List Weighed) (covered : ℕ) (es : List StampedEntry) (i : ℕ) → length es ≤ i
    → ((w t n : ℕ) → IsWeighed new w t n ↔ (IsWeighed first w t n ⊎ WeighsUpTo es i w t n)) → (w t n : ℕ)
    → IsWeighed new w t n
    ↔ (IsWeighed first w t n
    ⊎ ((k : ℕ) × (e : StampedEntry) × (entry_at (lane_of covered (numbered covered es)) k ≡ Some e) × (weight_of e ≡ w)
    × (e.thread ≡ t) × (e.number ≡ n)))
weighs_lane first new covered es i long all w t n = (λ h. to ((all w t n).0 h), λ h. (all w t n).1 (from h))
  where
    to : IsWeighed first w t n ⊎ WeighsUpTo es i w t n
        → IsWeighed first w t n
        ⊎ ((k : ℕ) × (e : StampedEntry) × (entry_at (lane_of covered (numbered covered es)) k ≡ Some e)
        × (weight_of e ≡ w) × (e.thread ≡ t) × (e.number ≡ n))
    to (inl h) = inl h
    to (inr (j, e, low, at, weight, thread, number)) =
        inr (covered + j + 1, e, at-numbered covered es (covered + j + 1) j refl ∙ at, weight, thread, number)

    from : IsWeighed first w t n
        ⊎ ((k : ℕ) × (e : StampedEntry) × (entry_at (lane_of covered (numbered covered es)) k ≡ Some e)
        × (weight_of e ≡ w) × (e.thread ≡ t) × (e.number ≡ n)) → IsWeighed first w t n ⊎ WeighsUpTo es i w t n
    from (inl h) = inl h
    from (inr (k, e, at, weight, thread, number)) =
        ⊎_elim
        (λ (above : covered < k).
        let there : slice_get es (k - covered - 1) ≡ Some e =
        sym (at-numbered covered es k (k - covered - 1) (omega arith)) ∙ at in
        let within = slice_get_within es (k - covered - 1) e there in
        inr (k - covered - 1, e, omega arith, there, weight, thread, number))
        (λ low. let none = at-numbered_before covered es k low in absurd cc) (cases_lt covered k)

-- one more lane is weighed
pub weighs_next : (old new : List Weighed) (guide : List Lane) (i : ℕ)
    → ((w t n : ℕ) → IsWeighed old w t n ↔ WeighsBelow guide i w t n)
    → ((w t n : ℕ)
    → IsWeighed new w t n
    ↔ (IsWeighed old w t n
    ⊎ ((k : ℕ) × (e : StampedEntry) × (entry_at (lane guide i) k ≡ Some e) × (weight_of e ≡ w) × (e.thread ≡ t)
    × (e.number ≡ n)))) → (w t n : ℕ) → IsWeighed new w t n ↔ WeighsBelow guide (i + 1) w t n
weighs_next old new guide i was adds w t n = (λ h. to ((adds w t n).0 h), λ h. (adds w t n).1 (from h))
  where
    up : WeighsBelow guide i w t n → WeighsBelow guide (i + 1) w t n
    up (u, k, e, low, here, weight, thread, number) = (u, k, e, omega arith, here, weight, thread, number)

    to : IsWeighed old w t n
        ⊎ ((k : ℕ) × (e : StampedEntry) × (entry_at (lane guide i) k ≡ Some e) × (weight_of e ≡ w) × (e.thread ≡ t)
        × (e.number ≡ n)) → WeighsBelow guide (i + 1) w t n
    to (inl h) = up ((was w t n).0 h)
    to (inr (k, e, here, weight, thread, number)) = (i, k, e, omega arith, here, weight, thread, number)

    from : WeighsBelow guide (i + 1) w t n
        → IsWeighed old w t n
        ⊎ ((k : ℕ) × (e : StampedEntry) × (entry_at (lane guide i) k ≡ Some e) × (weight_of e ≡ w) × (e.thread ≡ t)
        × (e.number ≡ n))
    from (u, k, e, low, here, weight, thread, number) =
        ⊎_elim
        (λ (q : u ≡ i).
        inr (k, e, subst (λ (x : ℕ). entry_at (lane guide x) k ≡ Some e) q here, weight, thread, number))
        (λ (q : u ≢ i). inl ((was w t n).1 (u, k, e, grind arith, here, weight, thread, number))) (is_or u i)
