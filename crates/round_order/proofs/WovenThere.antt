-- Receipts that rise in weight in each thread have a woven list: the heaviest of the threads' newest logged receipts is
-- the newest of it, with the unlogged ones that lead to it, and then the heaviest of what is left.
use Rattle.std.proofs.Common.{◌≡◌, ℕ, zero, suc, ◌+◌, ◌≤◌, ◌<◌, ◌≢◌, le_refl, Bool, true, false, List, [], ◌∷◌, ◌++◌}
use Rattle.std.proofs.Common.{append-nil, length, length-append, refl, sym, ap, ◌∙◌, subst, inl, inr, ◌⊎◌, arith, cond}
use Rattle.std.specs.Prelude.{nat_eq}
use Rattle.std.proofs.lemmas.Bool.{cases_lt}
use Rattle.entry_order.specs.Log.{Entry}
use Rattle.entry_order.specs.Stamps.{sum_below}
use Rattle.entry_order.proofs.Order.{is_or}
use Rattle.plain_machine.proofs.Histories.{not_eq, is_eq}
use Rattle.round_order.specs.Receipts.{Receipt, Receipts, Among, own, IsLogged, IsUnlogged, weight}
use Rattle.round_order.specs.Woven.{GoesBefore, IsByWeight, LeadsTo, IsLedUp, IsByThread, IsWoven}
use Rattle.round_order.specs.Growth.{update}
use Rattle.round_order.proofs.SeatLemmas.{one_or_none}
use Rattle.round_order.proofs.WeightLemmas.{sum_less}

-- none is logged; all are of one thread
abbrev pub AreUnlogged : {V : Type 0} → List (Receipt V) → Type 0
AreUnlogged {V} xs = (x : Receipt V) → Among x xs → IsUnlogged x

abbrev pub AreOf : {V : Type 0} → ℕ → List (Receipt V) → Type 0
AreOf {V} t xs = (x : Receipt V) → Among x xs → x.step.thread ≡ t

-- the newest is logged
abbrev IsTopped : {V : Type 0} → List (Receipt V) → Type 0
IsTopped [] = Unit {0}
IsTopped (r ∷ earlier) = (e : Entry) × IsLogged r e

-- the unlogged ones at the end, and those up to the last logged one
record Cut {V : Type 0} (xs : List (Receipt V)) : Type 0 where
  left : List (Receipt V)
  led : List (Receipt V)
  parts : xs ≡ left ++ led
  unlogged : AreUnlogged left
  topped : IsTopped led

cut : {V : Type 0} (xs : List (Receipt V)) → Cut xs
cut [] = record { left = []; led = []; parts = refl; unlogged = λ x a. absurd a; topped = tt }
cut {V} (r ∷ xs) = go (one_or_none r) (cut xs)
  where
    go : ((e : Entry) × IsLogged r e) ⊎ IsUnlogged r → Cut xs → Cut (r ∷ xs)
    go (inl logged) c = record { left = []; led = r ∷ xs; parts = refl; unlogged = λ x a. absurd a; topped = logged }
    go (inr none) c = record {
      left = r ∷ c.left;
      led = c.led;
      parts = ap (λ (l : List (Receipt V)). r ∷ l) c.parts;
      unlogged = each;
      topped = c.topped;
    }
      where
        each : (x : Receipt V) → Among x (r ∷ c.left) → IsUnlogged x
        each x (inl same) = subst (λ (z : Receipt V). IsUnlogged z) same none
        each x (inr a) = c.unlogged x a

among_left : {V : Type 0} (xs ys : List (Receipt V)) (x : Receipt V) → Among x xs → Among x (xs ++ ys)
among_left [] ys x h = absurd h
among_left (r ∷ xs) ys x (inl same) = inl same
among_left (r ∷ xs) ys x (inr h) = inr (among_left xs ys x h)

pub among_right : {V : Type 0} (xs ys : List (Receipt V)) (x : Receipt V) → Among x ys → Among x (xs ++ ys)
among_right [] ys x h = h
among_right (r ∷ xs) ys x h = inr (among_right xs ys x h)

pub among_either : {V : Type 0} (xs ys : List (Receipt V)) (x : Receipt V) → Among x (xs ++ ys)
    → Among x xs ⊎ Among x ys
among_either [] ys x h = inr h
among_either (r ∷ xs) ys x (inl same) = inl (inl same)
among_either (r ∷ xs) ys x (inr h) = go (among_either xs ys x h)
  where
    go : Among x xs ⊎ Among x ys → Among x (r ∷ xs) ⊎ Among x ys
    go (inl a) = inl (inr a)
    go (inr a) = inr a

own_append : {V : Type 0} (t : ℕ) (xs ys : List (Receipt V)) → own t (xs ++ ys) ≡ own t xs ++ own t ys
own_append t [] ys = refl
own_append {V} t (r ∷ xs) ys = go (nat_eq r.step.thread t) (own_append t xs ys)
  where
    go : (b : Bool) → own t (xs ++ ys) ≡ own t xs ++ own t ys
        → cond b (r ∷ own t (xs ++ ys)) (own t (xs ++ ys)) ≡ cond b (r ∷ own t xs) (own t xs) ++ own t ys
    go true k = ap (λ (l : List (Receipt V)). r ∷ l) k
    go false k = k

own_all : {V : Type 0} (t : ℕ) (xs : List (Receipt V)) → AreOf t xs → own t xs ≡ xs
own_all t [] h = refl
own_all {V} t (r ∷ xs) h = rw (is_eq r.step.thread t (h r (inl refl)))
    (ap (λ (l : List (Receipt V)). r ∷ l) (own_all t xs (λ x a. h x (inr a))))

own_none : {V : Type 0} (t u : ℕ) (xs : List (Receipt V)) → AreOf t xs → u ≢ t → own u xs ≡ []
own_none t u [] h apart = refl
own_none t u (r ∷ xs) h apart =
    rw (not_eq r.step.thread u (λ e. apart (sym e ∙ h r (inl refl)))) (own_none t u xs (λ x a. h x (inr a)) apart)

-- unlogged ones before a list that stands by weight
unlogged_by_weight : {V : Type 0} (xs ys : List (Receipt V)) → AreUnlogged xs → IsByWeight ys → IsByWeight (xs ++ ys)
unlogged_by_weight [] ys none h = h
unlogged_by_weight (r ∷ xs) ys none h =
    ((λ e d x re a xd. absurd (none r (inl refl) e re)), unlogged_by_weight xs ys (λ x a. none x (inr a)) h)

pub rest_by_weight : {V : Type 0} (xs ys : List (Receipt V)) → IsByWeight (xs ++ ys) → IsByWeight ys
rest_by_weight [] ys h = h
rest_by_weight (r ∷ xs) ys h = rest_by_weight xs ys h.1

pub before_trans : {V : Type 0} (x y z : Receipt V) → GoesBefore x y → GoesBefore y z → GoesBefore x z
before_trans x y z (inl a) (inl b) = inl (omega arith)
before_trans x y z (inl a) (inr b) = inl (omega (arith, b.0))
before_trans x y z (inr a) (inl b) = inl (omega (arith, a.0))
before_trans x y z (inr a) (inr b) = inr (a.0 ∙ b.0, omega (arith, a.1, b.1))

-- of two receipts of different threads one goes before the other
before_or : {V : Type 0} (x y : Receipt V) → x.step.thread ≢ y.step.thread → GoesBefore x y ⊎ GoesBefore y x
before_or x y apart =
    go (is_or (weight x) (weight y)) (cases_lt (weight x) (weight y)) (cases_lt x.step.thread y.step.thread)
  where
    go : (weight x ≡ weight y) ⊎ (weight x ≢ weight y) → (weight x < weight y) ⊎ (weight y ≤ weight x)
        → (x.step.thread < y.step.thread) ⊎ (y.step.thread ≤ x.step.thread) → GoesBefore x y ⊎ GoesBefore y x
    go (inl same) w (inl low) = inl (inr (same, low))
    go (inl same) w (inr high) = inr (inr (sym same, omega (arith, apart)))
    go (inr differ) (inl less) t = inl (inl less)
    go (inr differ) (inr more) t = inr (inl (omega (arith, differ)))

-- The logged ones

-- the receipts of the first threads, of which the newest are logged
record Heads {V : Type 0} (n : ℕ) (hs : Receipts V) : Type 0 where
  own : (t : ℕ) → t < n → AreOf t (hs t)
  topped : (t : ℕ) → t < n → IsTopped (hs t)
  sorted : (t : ℕ) → t < n → IsByWeight (hs t)

-- the one that all others go before, if there is one
abbrev HasHeaviest : {V : Type 0} → ℕ → Receipts V → Type 0
HasHeaviest {V} n hs =
    ((t : ℕ) → t < n → hs t ≡ [])
    ⊎ ((t : ℕ) × (r : Receipt V) × (rest : List (Receipt V)) × (t < n) × (hs t ≡ r ∷ rest)
    × ((u : ℕ) (x : Receipt V) (more : List (Receipt V)) → u < n → u ≢ t → hs u ≡ x ∷ more → GoesBefore x r))

heaviest : {V : Type 0} (n : ℕ) (hs : Receipts V) → ((t : ℕ) → t < n → AreOf t (hs t)) → HasHeaviest n hs
heaviest zero hs of_t = inl (λ t low. absurd (omega arith))
heaviest {V} (suc n) hs of_t = go (hs n) refl (heaviest n hs (λ t low. of_t t (omega arith)))
  where
    below : (t : ℕ) → t < suc n → t ≢ n → t < n
    below t low apart = omega arith

    go : (l : List (Receipt V)) → hs n ≡ l → HasHeaviest n hs → HasHeaviest (suc n) hs
    go [] is (inl none) = inl each
      where
        each : (t : ℕ) → t < suc n → hs t ≡ []
        each t low = pick (is_or t n)
          where
            pick : (t ≡ n) ⊎ (t ≢ n) → hs t ≡ []
            pick (inl e) = ap hs e ∙ is
            pick (inr e) = none t (below t low e)
    go [] is (inr (t, r, rest, low, here, most)) = inr (t, r, rest, omega arith, here, each)
      where
        each : (u : ℕ) (x : Receipt V) (more : List (Receipt V)) → u < suc n → u ≢ t → hs u ≡ x ∷ more → GoesBefore x r
        each u x more under apart there = pick (is_or u n)
          where
            pick : (u ≡ n) ⊎ (u ≢ n) → GoesBefore x r
            pick (inl e) = let k : [] ≡ x ∷ more = sym is ∙ (sym (ap hs e) ∙ there) in absurd (cc)
            pick (inr e) = most u x more (below u under e) apart there
    go (y ∷ ys) is (inl none) = inr (n, y, ys, omega arith, is, each)
      where
        each : (u : ℕ) (x : Receipt V) (more : List (Receipt V)) → u < suc n → u ≢ n → hs u ≡ x ∷ more → GoesBefore x y
        each u x more under apart there =
            let k : [] ≡ x ∷ more = sym (none u (below u under apart)) ∙ there in absurd (cc)
    go (y ∷ ys) is (inr (t, r, rest, low, here, most)) = choose (before_or y r differ)
      where
        y_of : y.step.thread ≡ n
        y_of = of_t n (omega arith) y (subst (λ (l : List (Receipt V)). Among y l) (sym is) (inl refl))

        r_of : r.step.thread ≡ t
        r_of = of_t t (omega arith) r (subst (λ (l : List (Receipt V)). Among r l) (sym here) (inl refl))

        differ : y.step.thread ≢ r.step.thread
        differ e = absurd (omega (arith, y_of, r_of))

        same_head : {x : Receipt V} {more : List (Receipt V)} → y ∷ ys ≡ x ∷ more → y ≡ x
        same_head e = cc

        same_first : {x : Receipt V} {more : List (Receipt V)} → r ∷ rest ≡ x ∷ more → r ≡ x
        same_first e = cc

        choose : GoesBefore y r ⊎ GoesBefore r y → HasHeaviest (suc n) hs
        choose (inl before) = inr (t, r, rest, omega arith, here, each)
          where
            each : (u : ℕ) (x : Receipt V) (more : List (Receipt V)) → u < suc n → u ≢ t → hs u ≡ x ∷ more
                → GoesBefore x r
            each u x more under apart there = pick (is_or u n)
              where
                pick : (u ≡ n) ⊎ (u ≢ n) → GoesBefore x r
                pick (inl e) =
                    subst (λ (z : Receipt V). GoesBefore z r) (same_head (sym is ∙ (sym (ap hs e) ∙ there))) before
                pick (inr e) = most u x more (below u under e) apart there
        choose (inr before) = inr (n, y, ys, omega arith, is, each)
          where
            each : (u : ℕ) (x : Receipt V) (more : List (Receipt V)) → u < suc n → u ≢ n → hs u ≡ x ∷ more
                → GoesBefore x y
            each u x more under apart there = pick (is_or u t)
              where
                pick : (u ≡ t) ⊎ (u ≢ t) → GoesBefore x y
                pick (inl e) =
                    subst (λ (z : Receipt V). GoesBefore z y) (same_first (sym here ∙ (sym (ap hs e) ∙ there))) before
                pick (inr e) = before_trans x r y (most u x more (below u under apart) e there) before

-- the receipts of the heads in one list
record Led {V : Type 0} (n : ℕ) (hs : Receipts V) : Type 0 where
  order : List (Receipt V)
  each : (t : ℕ) → t < n → own t order ≡ hs t
  of_heads : (x : Receipt V) → Among x order → (x.step.thread < n) × Among x (hs x.step.thread)
  sorted : IsByWeight order
  leads : IsLedUp order

led_to : {V : Type 0} (r : Receipt V) (order : List (Receipt V)) → IsLedUp order → LeadsTo r order
led_to r [] h = tt
led_to r (x ∷ earlier) h = (inl h.0, h.1)

pub leads_on : {V : Type 0} (r : Receipt V) (q order : List (Receipt V)) → AreUnlogged q → AreOf r.step.thread q
    → IsLedUp order → LeadsTo r (q ++ order)
leads_on r [] order none of_t h = led_to r order h
leads_on {V} r (x ∷ q) order none of_t h = (
  inr (none x (inl refl), of_t x (inl refl)),
  leads_on x q order (λ z a. none z (inr a)) (λ z a. of_t z (inr a) ∙ sym (of_t x (inl refl))) h,
)

among_led : {V : Type 0} (n : ℕ) (hs : Receipts V) → Heads n hs → (x : Receipt V) (d : Entry) (r : Receipt V) (u : ℕ)
    → u < n → Among x (hs u) → IsLogged x d
    → ((y : Receipt V) (more : List (Receipt V)) → hs u ≡ y ∷ more → GoesBefore y r) → GoesBefore x r
among_led {V} n hs heads x d r u low here xd top = go (hs u) refl here (heads.sorted u low) (heads.topped u low)
  where
    go : (l : List (Receipt V)) → hs u ≡ l → Among x l → IsByWeight l → IsTopped l → GoesBefore x r
    go [] is a s t = absurd a
    go (y ∷ more) is (inl same) s t = subst (λ (z : Receipt V). GoesBefore z r) same (top y more is)
    go (y ∷ more) is (inr a) s t = before_trans x y r (s.0 t.0 d x t.1 a xd) (top y more is)

module _ {V : Type 0} (n : ℕ) (hs : Receipts V) (heads : Heads n hs) (t : ℕ) (r : Receipt V) (rest : List (Receipt V))
    (low : t < n) (here : hs t ≡ r ∷ rest)
    (most : (u : ℕ) (x : Receipt V) (more : List (Receipt V)) → u < n → u ≢ t → hs u ≡ x ∷ more → GoesBefore x r)
    (c : Cut rest) where
  -- what is left to be put in order
  abbrev less : Receipts V
  less = update t c.led hs

  whole : hs t ≡ (r ∷ c.left) ++ c.led
  whole = here ∙ ap (λ (l : List (Receipt V)). r ∷ l) c.parts

  in_whole : (x : Receipt V) → Among x ((r ∷ c.left) ++ c.led) → Among x (hs t)
  in_whole x a = subst (λ (l : List (Receipt V)). Among x l) (sym whole) a

  group : AreOf t (r ∷ c.left)
  group x a = heads.own t low x (in_whole x (among_left (r ∷ c.left) c.led x a))

  heads_less : Heads n (update t c.led hs)
  heads_less = record {
    own = λ u under. own_of u under (is_or u t);
    topped = λ u under. topped u under (is_or u t);
    sorted = λ u under. sorted u under (is_or u t);
  }
    where
      own_of : (u : ℕ) → u < n → (u ≡ t) ⊎ (u ≢ t) → AreOf u (update t c.led hs u)
      own_of u under (inl e) =
          rw (is_eq u t e) (λ x a. heads.own t low x (in_whole x (among_right (r ∷ c.left) c.led x a)) ∙ sym e)
      own_of u under (inr e) = rw (not_eq u t e) (heads.own u under)

      topped : (u : ℕ) → u < n → (u ≡ t) ⊎ (u ≢ t) → IsTopped (update t c.led hs u)
      topped u under (inl e) = rw (is_eq u t e) c.topped
      topped u under (inr e) = rw (not_eq u t e) (heads.topped u under)

      sorted : (u : ℕ) → u < n → (u ≡ t) ⊎ (u ≢ t) → IsByWeight (update t c.led hs u)
      sorted u under (inl e) = rw (is_eq u t e) (rest_by_weight (r ∷ c.left) c.led
          (subst (λ (l : List (Receipt V)). IsByWeight l) whole (heads.sorted t low)))
      sorted u under (inr e) = rw (not_eq u t e) (heads.sorted u under)

  shorter : sum_below n (λ u. length (update t c.led hs u)) < sum_below n (λ u. length (hs u))
  shorter = sum_less n t (λ u. length (update t c.led hs u)) (λ u. length (hs u)) low at (λ u. one u (is_or u t))
    where
      size : length (hs t) ≡ length (r ∷ c.left) + length c.led
      size = ap (λ (l : List (Receipt V)). length l) whole ∙ length-append (r ∷ c.left) c.led

      at : length (update t c.led hs t) < length (hs t)
      at = rw (is_eq t t refl) (omega (arith, size))

      one : (u : ℕ) → (u ≡ t) ⊎ (u ≢ t) → length (update t c.led hs u) ≤ length (hs u)
      one u (inl e) = subst (λ (w : ℕ). length (update t c.led hs w) ≤ length (hs w)) (sym e) (omega (arith, at))
      one u (inr e) = rw (not_eq u t e) (le_refl (length (hs u)))

  logged_top : (e : Entry) × IsLogged r e
  logged_top = subst (λ (l : List (Receipt V)). IsTopped l) here (heads.topped t low)

  put_before : Led n (update t c.led hs) → Led n hs
  put_before l = record {
    order = (r ∷ c.left) ++ l.order;
    each = λ u under. own_append u (r ∷ c.left) l.order ∙ each u under (is_or u t);
    of_heads = λ x a. of_heads x (among_either (r ∷ c.left) l.order x a);
    sorted = (before, unlogged_by_weight c.left l.order c.unlogged l.sorted);
    leads =
        (logged_top, leads_on r c.left l.order c.unlogged (λ x a. group x (inr a) ∙ sym (group r (inl refl))) l.leads);
  }
    where
      each : (u : ℕ) → u < n → (u ≡ t) ⊎ (u ≢ t) → own u (r ∷ c.left) ++ own u l.order ≡ hs u
      each u under (inl e) =
          let a : own u (r ∷ c.left) ≡ r ∷ c.left = own_all u (r ∷ c.left) (λ x k. group x k ∙ sym e) in
          let b : own u l.order ≡ c.led = l.each u under ∙ rw (is_eq u t e) refl in
          ap (λ (z : List (Receipt V)). z ++ own u l.order) a
          ∙ (ap (λ (z : List (Receipt V)). (r ∷ c.left) ++ z) b ∙ (sym whole ∙ ap hs (sym e)))
      each u under (inr e) =
          let a : own u (r ∷ c.left) ≡ [] = own_none t u (r ∷ c.left) group e in
          let b : own u l.order ≡ hs u = l.each u under ∙ rw (not_eq u t e) refl in
          ap (λ (z : List (Receipt V)). z ++ own u l.order) a ∙ b

      of_heads : (x : Receipt V) → Among x (r ∷ c.left) ⊎ Among x l.order
          → (x.step.thread < n) × Among x (hs x.step.thread)
      of_heads x (inl a) =
          let k : x.step.thread ≡ t = group x a in
          (omega (arith, k), subst (λ (u : ℕ). Among x (hs u)) (sym k) (in_whole x (among_left (r ∷ c.left) c.led x a)))
      of_heads x (inr a) = let k = l.of_heads x a in (k.0, back (is_or x.step.thread t) k.1)
        where
          back : (x.step.thread ≡ t) ⊎ (x.step.thread ≢ t) → Among x (update t c.led hs x.step.thread)
              → Among x (hs x.step.thread)
          back (inl e) b = subst (λ (u : ℕ). Among x (hs u)) (sym e)
              (in_whole x (among_right (r ∷ c.left) c.led x (rw (is_eq x.step.thread t e) at b)))
          back (inr e) b = rw (not_eq x.step.thread t e) at b

      before : (e d : Entry) (x : Receipt V) → IsLogged r e → Among x (c.left ++ l.order) → IsLogged x d
          → GoesBefore x r
      before e d x re a xd = go (among_either c.left l.order x a)
        where
          go : Among x c.left ⊎ Among x l.order → GoesBefore x r
          go (inl b) = absurd (c.unlogged x b d xd)
          go (inr b) = let k = l.of_heads x b in pick k.0 (is_or x.step.thread t) k.1
            where
              pick : x.step.thread < n → (x.step.thread ≡ t) ⊎ (x.step.thread ≢ t)
                  → Among x (update t c.led hs x.step.thread) → GoesBefore x r
              pick under (inl same) h =
                  let s : IsByWeight (r ∷ (c.left ++ c.led)) =
                  subst (λ (z : List (Receipt V)). IsByWeight z) whole (heads.sorted t low) in
                  s.0 e d x re (among_right c.left c.led x (rw (is_eq x.step.thread t same) at h)) xd
              pick under (inr apart) h = among_led n hs heads x d r x.step.thread under
                  (rw (not_eq x.step.thread t apart) at h) xd (λ y more is. most x.step.thread y more under apart is)

led_empty : {V : Type 0} (n : ℕ) (hs : Receipts V) → ((t : ℕ) → t < n → hs t ≡ []) → Led n hs
led_empty n hs none =
    record { order = []; each = λ t low. sym (none t low); of_heads = λ x a. absurd a; sorted = tt; leads = tt }

led_there : {V : Type 0} (fuel n : ℕ) (hs : Receipts V) → Heads n hs
    → sum_below n (λ t. length (hs t)) ≤ fuel → Led n hs
led_there {V} zero n hs heads enough = go (heaviest n hs heads.own)
  where
    go : HasHeaviest n hs → Led n hs
    go (inl none) = led_empty n hs none
    go (inr (t, r, rest, low, here, most)) =
        let s = shorter n hs heads t r rest low here most (cut rest) in absurd (omega arith)
led_there {V} (suc k) n hs heads enough =
    go (heaviest n hs heads.own) (λ less under fewer. led_there k n less under fewer)
  where
    go : HasHeaviest n hs
        → ((less : Receipts V) → Heads n less → sum_below n (λ t. length (less t)) ≤ k → Led n less) → Led n hs
    go (inl none) rest_led = led_empty n hs none
    go (inr (t, r, rest, low, here, most)) rest_led =
        let c : Cut rest = cut rest in
        put_before n hs heads t r rest low here most c
        (rest_led (update t c.led hs) (heads_less n hs heads t r rest low here most c)
        (let s = shorter n hs heads t r rest low here most c in omega arith))

-- The unlogged ones that are left

abbrev lefts : {V : Type 0} → Receipts V → ℕ → List (Receipt V)
lefts ls zero = []
lefts ls (suc t) = ls t ++ lefts ls t

module _ {V : Type 0} (ls : Receipts V) where
  lefts_of : (n : ℕ) → ((t : ℕ) → t < n → AreOf t (ls t)) → (x : Receipt V) → Among x (lefts ls n)
      → (x.step.thread < n) × Among x (ls x.step.thread)
  lefts_of zero of_t x a = absurd a
  lefts_of (suc n) of_t x a =
      go (among_either (ls n) (lefts ls n) x a) (λ b. lefts_of n (λ t low. of_t t (omega arith)) x b)
    where
      go : Among x (ls n) ⊎ Among x (lefts ls n)
          → (Among x (lefts ls n) → (x.step.thread < n) × Among x (ls x.step.thread))
          → (x.step.thread < suc n) × Among x (ls x.step.thread)
      go (inl b) older =
          let k : x.step.thread ≡ n = of_t n (omega arith) x b in
          (omega (arith, k), subst (λ (u : ℕ). Among x (ls u)) (sym k) b)
      go (inr b) older = let k = older b in (omega (arith, k.0), k.1)

  lefts_own : (n : ℕ) → ((t : ℕ) → t < n → AreOf t (ls t)) → (u : ℕ) → u < n → own u (lefts ls n) ≡ ls u
  lefts_own zero of_t u low = absurd (omega arith)
  lefts_own (suc n) of_t u low =
      own_append u (ls n) (lefts ls n) ∙ go (is_or u n) (λ k. lefts_own n (λ t under. of_t t (omega arith)) u k)
    where
      older : (k : ℕ) → k ≤ n → n ≤ u → own u (lefts ls k) ≡ []
      older zero few high = refl
      older (suc k) few high =
          own_append u (ls k) (lefts ls k)
          ∙ (ap (λ (z : List (Receipt V)). z ++ own u (lefts ls k))
          (own_none k u (ls k) (of_t k (omega arith)) (λ e. absurd (omega (arith, e))))
          ∙ older k (omega arith) high)

      go : (u ≡ n) ⊎ (u ≢ n) → (u < n → own u (lefts ls n) ≡ ls u) → own u (ls n) ++ own u (lefts ls n) ≡ ls u
      go (inl e) rest =
          ap (λ (z : List (Receipt V)). z ++ own u (lefts ls n))
          (own_all u (ls n) (λ x a. of_t n (omega arith) x a ∙ sym e))
          ∙ (ap (λ (z : List (Receipt V)). ls n ++ z) (older n (le_refl n) (omega (arith, e)))
          ∙ (append-nil (ls n) ∙ ap ls (sym e)))
      go (inr e) rest =
          ap (λ (z : List (Receipt V)). z ++ own u (lefts ls n)) (own_none n u (ls n) (of_t n (omega arith)) e)
          ∙ rest (omega (arith, e))

  thread_first : (n : ℕ) (xs older : List (Receipt V)) → AreOf n xs → AreUnlogged xs
      → ((x : Receipt V) → Among x older → x.step.thread < n) → IsByThread older → IsByThread (xs ++ older)
  thread_first n [] older of_n none low h = h
  thread_first n (r ∷ xs) older of_n none low h =
      (none r (inl refl), each, thread_first n xs older (λ x a. of_n x (inr a)) (λ x a. none x (inr a)) low h)
    where
      each : (x : Receipt V) → Among x (xs ++ older) → x.step.thread ≤ r.step.thread
      each x a = go (among_either xs older x a)
        where
          go : Among x xs ⊎ Among x older → x.step.thread ≤ r.step.thread
          go (inl b) = omega (arith, of_n x (inr b), of_n r (inl refl))
          go (inr b) = let k : x.step.thread < n = low x b in omega (arith, of_n r (inl refl))

  lefts_by_thread : (n : ℕ) → ((t : ℕ) → t < n → AreOf t (ls t)) → ((t : ℕ) → t < n → AreUnlogged (ls t))
      → IsByThread (lefts ls n)
  lefts_by_thread zero of_t none = tt
  lefts_by_thread (suc n) of_t none = thread_first n (ls n) (lefts ls n) (of_t n (omega arith)) (none n (omega arith))
      (λ x a. (lefts_of n (λ t low. of_t t (omega arith)) x a).0)
      (lefts_by_thread n (λ t low. of_t t (omega arith)) (λ t low. none t (omega arith)))

  lefts_unlogged : (n : ℕ) → ((t : ℕ) → t < n → AreUnlogged (ls t)) → AreUnlogged (lefts ls n)
  lefts_unlogged zero none x a = absurd a
  lefts_unlogged (suc n) none x a =
      go (among_either (ls n) (lefts ls n) x a) (λ b. lefts_unlogged n (λ t low. none t (omega arith)) x b)
    where
      go : Among x (ls n) ⊎ Among x (lefts ls n) → (Among x (lefts ls n) → IsUnlogged x) → IsUnlogged x
      go (inl b) older = none n (omega arith) x b
      go (inr b) older = older b

-- the receipts of so many threads, each of which stands by weight, have a woven list
pub woven_there : {V : Type 0} (n : ℕ) (rs : Receipts V) → ((t : ℕ) → AreOf t (rs t)) → ((t : ℕ) → n ≤ t → rs t ≡ [])
    → ((t : ℕ) → IsByWeight (rs t)) → (order : List (Receipt V)) × IsWoven rs order
woven_there {V} n rs of_t none sorted = (
  lefts ls n ++ led.order,
  record {
    each = λ t. each t (cases_lt t n);
    by_weight =
        unlogged_by_weight (lefts ls n) led.order (lefts_unlogged ls n (λ t low. (cut (rs t)).unlogged)) led.sorted;
    left = lefts ls n;
    led = led.order;
    parts = refl;
    leads = led.leads;
    rest = lefts_by_thread ls n (λ t low. left_of t) (λ t low. (cut (rs t)).unlogged);
  },
)
  where
    ls : Receipts V
    ls t = (cut (rs t)).left

    hs : Receipts V
    hs t = (cut (rs t)).led

    left_of : (t : ℕ) → AreOf t (ls t)
    left_of t x a =
        of_t t x (subst (λ (l : List (Receipt V)). Among x l) (sym (cut (rs t)).parts) (among_left (ls t) (hs t) x a))

    heads : Heads n hs
    heads = record {
      own = λ t low x a. of_t t x (subst (λ (l : List (Receipt V)). Among x l) (sym (cut (rs t)).parts)
          (among_right (ls t) (hs t) x a));
      topped = λ t low. (cut (rs t)).topped;
      sorted = λ t low.
          rest_by_weight (ls t) (hs t) (subst (λ (l : List (Receipt V)). IsByWeight l) (cut (rs t)).parts (sorted t));
    }

    led : Led n hs
    led = led_there (sum_below n (λ t. length (hs t))) n hs heads (le_refl (sum_below n (λ t. length (hs t))))

    past_all : (t : ℕ) (xs : List (Receipt V)) → n ≤ t → ((x : Receipt V) → Among x xs → x.step.thread < n)
        → own t xs ≡ []
    past_all t [] high low = refl
    past_all t (r ∷ xs) high low =
        rw (not_eq r.step.thread t (λ e. let k : r.step.thread < n = low r (inl refl) in absurd (omega (arith, e))))
        (past_all t xs high (λ x a. low x (inr a)))

    each : (t : ℕ) → (t < n) ⊎ (n ≤ t) → own t (lefts ls n ++ led.order) ≡ rs t
    each t (inl low) =
        own_append t (lefts ls n) led.order
        ∙ (ap (λ (z : List (Receipt V)). z ++ own t led.order) (lefts_own ls n (λ u k. left_of u) t low)
        ∙ (ap (λ (z : List (Receipt V)). ls t ++ z) (led.each t low) ∙ sym (cut (rs t)).parts))
    each t (inr high) =
        past_all t (lefts ls n ++ led.order) high (λ x a. under x (among_either (lefts ls n) led.order x a))
        ∙ sym (none t high)
      where
        under : (x : Receipt V) → Among x (lefts ls n) ⊎ Among x led.order → x.step.thread < n
        under x (inl a) = (lefts_of ls n (λ u k. left_of u) x a).0
        under x (inr a) = (led.of_heads x a).0
