-- Receipts that are drawn in turn are woven.
use Rattle.std.proofs.Common.{◌≡◌, ℕ, zero, suc, ◌+◌, ◌≤◌, ◌<◌, ◌≢◌, List, [], ◌∷◌, ◌++◌, length, length-set, refl, sym}
use Rattle.std.proofs.Common.{ap, ◌∙◌, subst, inl, inr, ◌⊎◌, arith, Option, Some, None}
use Rattle.std.specs.Prelude.{slice_index, slice_index_or, slice_set}
use Rattle.std.proofs.lemmas.List.{get_or-set_same, get_or-set_other}
use Rattle.std.proofs.lemmas.Bool.{cases_lt}
use Rattle.entry_order.specs.Log.{Entry}
use Rattle.entry_order.proofs.Order.{is_or}
use Rattle.plain_machine.specs.History.{Act, Took, Did, Emitted, Ended}
use Rattle.plain_machine.proofs.Histories.{not_eq, is_eq}
use Rattle.round_order.specs.Receipts.{Receipt, Receipts, Among, own, IsLogged, IsUnlogged, weight}
use Rattle.round_order.specs.Woven.{GoesBefore, IsByWeight, IsByThread, IsWoven}
use Rattle.round_order.specs.Growth.{update}
use Rattle.round_order.specs.Turns.{mark_of, AreMarked, AreMarksOf, IsLighter, last_mark, newest, IsLatest, AreTurns}
use Rattle.round_order.specs.Turns.{lengths, AreInTurn}
use Rattle.round_order.proofs.OwnReceipts.{among_own}
use Rattle.round_order.proofs.SeatLemmas.{one_or_none}
use Rattle.round_order.proofs.MoreReceipts.{not_updated}
use Rattle.round_order.proofs.WovenThere.{AreUnlogged, AreOf, before_trans, leads_on}

-- What a mark tells

logged_mark : {V : Type 0} (r : Receipt V) (e : Entry) → IsLogged r e → mark_of r ≡ Some (weight r)
logged_mark r e (left, is) = rw is refl

unlogged_mark : {V : Type 0} (r : Receipt V) → IsUnlogged r → mark_of r ≡ None
unlogged_mark {V} r none = go r.step.act refl
  where
    go : (a : Act V) → r.step.act ≡ a → mark_of r ≡ None
    go (Took k) is = rw is refl
    go (Did e left) is = absurd (none e (left, is))
    go (Emitted o) is = rw is refl
    go (Ended k) is = rw is refl

-- a mark of a logged receipt is none that is heavier than all
some_none : {a : ℕ} → Some a ≡ None → ⊥
some_none e = cc

-- what is left is at least what its receipts are
marked_none : {V : Type 0} (xs : List (Receipt V)) (marks : List (Option ℕ)) → AreMarked xs marks 0 → xs ≡ []
marked_none [] marks h = refl
marked_none (r ∷ xs) marks (k, e, at, h) = absurd (omega (arith, e))

marked_some : {V : Type 0} (xs : List (Receipt V)) (marks : List (Option ℕ)) (n : ℕ) → AreMarked xs marks (n + 1)
    → (r : Receipt V) × (rest : List (Receipt V)) × (xs ≡ r ∷ rest) × (slice_index_or marks n None ≡ mark_of r)
    × AreMarked rest marks n
marked_some [] marks n h = absurd (omega (arith, h))
marked_some {V} (r ∷ xs) marks n (k, e, is, h) =
    let same : k ≡ n = omega (arith, e) in (
      r,
      xs,
      refl,
      subst (λ (z : ℕ). slice_index_or marks z None ≡ mark_of r) same is,
      subst (λ (z : ℕ). AreMarked xs marks z) same h,
    )

-- What is known while receipts are drawn

record Drawing {V : Type 0} (lists : List (List (Option ℕ))) (left : List ℕ) (hs : Receipts V) : Type 0 where
  sized : length left ≡ length lists
  own_of : (t : ℕ) → AreOf t (hs t)
  sorted : (t : ℕ) → IsByWeight (hs t)
  marked : (t : ℕ) → AreMarked (hs t) (slice_index_or lists t []) (slice_index left t)
  beyond : (t : ℕ) → length lists ≤ t → hs t ≡ []

module _ {V : Type 0} (lists : List (List (Option ℕ))) (left : List ℕ) (hs : Receipts V)
    (d : Drawing lists left hs) where
  -- the mark of the newest receipt of a thread
  newest_is : (u : ℕ) (x : Receipt V) (more : List (Receipt V)) → hs u ≡ x ∷ more
      → (0 < slice_index left u) × (newest lists left u ≡ mark_of x)
  newest_is u x more is = go (slice_index left u) refl
      (subst (λ (l : List (Receipt V)). AreMarked l (slice_index_or lists u []) (slice_index left u)) is (d.marked u))
    where
      go : (n : ℕ) → slice_index left u ≡ n → AreMarked (x ∷ more) (slice_index_or lists u []) (slice_index left u)
          → (0 < slice_index left u) × (newest lists left u ≡ mark_of x)
      go zero same (k, e, at, h) = absurd (omega (arith, e, same))
      go (suc n) same (k, e, at, h) =
          let kn : k ≡ n = omega (arith, e, same) in (
            omega (arith, same),
            ap (λ (z : ℕ). last_mark (slice_index_or lists u []) z) same
                ∙ subst (λ (z : ℕ). slice_index_or (slice_index_or lists u []) z None ≡ mark_of x) kn at,
          )

  module _ (t n : ℕ) (r : Receipt V) (rest : List (Receipt V)) (low : t < length lists)
      (latest : IsLatest lists left (length lists) t) (here : hs t ≡ r ∷ rest)
      (rest_marked : AreMarked rest (slice_index_or lists t []) n) where
    -- what is left after it is drawn
    drawn : Drawing lists (slice_set left t n) (update t rest hs)
    drawn = record {
      sized = length-set left t n ∙ d.sized;
      own_of = λ u. own_of u (is_or u t);
      sorted = λ u. sorted u (is_or u t);
      marked = λ u. marked u (is_or u t);
      beyond = λ u high. not_updated t u rest hs (λ e. absurd (omega (arith, e))) ∙ d.beyond u high;
    }
      where
        own_of : (u : ℕ) → (u ≡ t) ⊎ (u ≢ t) → AreOf u (update t rest hs u)
        own_of u (inl e) = rw (is_eq u t e)
            (λ x a. d.own_of t x (subst (λ (l : List (Receipt V)). Among x l) (sym here) (inr a)) ∙ sym e)
        own_of u (inr e) = rw (not_eq u t e) (d.own_of u)

        sorted : (u : ℕ) → (u ≡ t) ⊎ (u ≢ t) → IsByWeight (update t rest hs u)
        sorted u (inl e) = rw (is_eq u t e)
            (let s : IsByWeight (r ∷ rest) = subst (λ (l : List (Receipt V)). IsByWeight l) here (d.sorted t) in s.1)
        sorted u (inr e) = rw (not_eq u t e) (d.sorted u)

        marked : (u : ℕ) → (u ≡ t) ⊎ (u ≢ t)
            → AreMarked (update t rest hs u) (slice_index_or lists u []) (slice_index (slice_set left t n) u)
        marked u (inl e) = rw (is_eq u t e)
            (subst (λ (k : ℕ). AreMarked rest (slice_index_or lists k []) (slice_index (slice_set left t n) k)) (sym e)
            (subst (λ (k : ℕ). AreMarked rest (slice_index_or lists t []) k)
            (sym (get_or-set_same left t n 0 (omega (arith, d.sized)))) rest_marked))
        marked u (inr e) = rw (not_eq u t e) (subst (λ (k : ℕ). AreMarked (hs u) (slice_index_or lists u []) k)
            (sym (get_or-set_other left t u n 0 e)) (d.marked u))

    of_t : r.step.thread ≡ t
    of_t = d.own_of t r (subst (λ (l : List (Receipt V)). Among r l) (sym here) (inl refl))

    mark_is : newest lists left t ≡ mark_of r
    mark_is = (newest_is t r rest here).1

    -- a receipt of another thread, and the newest one of its thread
    other : (u : ℕ) (x : Receipt V) (more : List (Receipt V)) → hs u ≡ x ∷ more → u ≢ t → u < length lists
        → IsLighter (mark_of x) (mark_of r) ⊎ ((mark_of x ≡ mark_of r) × (u < t))
    other u x more is apart under =
        let k = newest_is u x more is in
        subst (λ (a : Option ℕ). IsLighter a (mark_of r) ⊎ ((a ≡ mark_of r) × (u < t))) k.1
        (subst (λ (b : Option ℕ). IsLighter (newest lists left u) b ⊎ ((newest lists left u ≡ b) × (u < t))) mark_is
        (latest.1 u under apart k.0))

    under_all : (u : ℕ) (x : Receipt V) → Among x (hs u) → u < length lists
    under_all u x a = go (cases_lt u (length lists))
      where
        go : (u < length lists) ⊎ (length lists ≤ u) → u < length lists
        go (inl h) = h
        go (inr h) = absurd (subst (λ (l : List (Receipt V)). Among x l) (d.beyond u h) a)

    -- where it is logged, so are the newest receipts of the others, and they go before it
    first_before : (e : Entry) → IsLogged r e → (u : ℕ) (x : Receipt V) (more : List (Receipt V)) → hs u ≡ x ∷ more
        → u ≢ t → ((c : Entry) × IsLogged x c) × GoesBefore x r
    first_before e l u x more is apart = go (one_or_none x)
        (other u x more is apart (under_all u x (subst (λ (z : List (Receipt V)). Among x z) (sym is) (inl refl))))
      where
        of_u : x.step.thread ≡ u
        of_u = d.own_of u x (subst (λ (z : List (Receipt V)). Among x z) (sym is) (inl refl))

        weights : (c : Entry) → IsLogged x c
            → IsLighter (Some (weight x)) (Some (weight r)) ⊎ ((Some (weight x) ≡ Some (weight r)) × (u < t))
            → GoesBefore x r
        weights c xc (inl less) = inl less
        weights c xc (inr (same, lower)) = inr ((cc), omega (arith, of_u, of_t, lower))

        go : ((c : Entry) × IsLogged x c) ⊎ IsUnlogged x
            → IsLighter (mark_of x) (mark_of r) ⊎ ((mark_of x ≡ mark_of r) × (u < t))
            → ((c : Entry) × IsLogged x c) × GoesBefore x r
        go (inl (c, xc)) h = ((c, xc), weights c xc (rw (logged_mark x c xc, logged_mark r e l) at h))
        go (inr none) (inl less) = absurd (rw (unlogged_mark x none) at less)
        go (inr none) (inr (same, lower)) =
            absurd (some_none (sym (logged_mark r e l) ∙ (sym same ∙ unlogged_mark x none)))

    -- where it is not logged, an unlogged newest one of another thread is of a lesser thread
    lesser_thread : IsUnlogged r → (u : ℕ) (x : Receipt V) (more : List (Receipt V)) → hs u ≡ x ∷ more → u ≢ t
        → IsUnlogged x → u < t
    lesser_thread none u x more is apart quiet =
        go (other u x more is apart (under_all u x (subst (λ (z : List (Receipt V)). Among x z) (sym is) (inl refl))))
      where
        go : IsLighter (mark_of x) (mark_of r) ⊎ ((mark_of x ≡ mark_of r) × (u < t)) → u < t
        go (inl less) = absurd (rw (unlogged_mark x quiet) at less)
        go (inr k) = k.1

    module _ (order : List (Receipt V)) (w : IsWoven (update t rest hs) order) where
      each : (u : ℕ) → own u (r ∷ order) ≡ hs u
      each u = go (is_or u t)
        where
          go : (u ≡ t) ⊎ (u ≢ t) → own u (r ∷ order) ≡ hs u
          go (inl e) = rw (is_eq r.step.thread u (of_t ∙ sym e))
              (ap (λ (l : List (Receipt V)). r ∷ l) (w.each u ∙ rw (is_eq u t e) refl) ∙ (sym here ∙ ap hs (sym e)))
          go (inr e) = rw (not_eq r.step.thread u (λ k. e (sym k ∙ of_t))) (w.each u ∙ not_updated t u rest hs e)

      -- a receipt that stands behind it is one of those that are left
      left_of : (x : Receipt V) → Among x order → Among x (update t rest hs x.step.thread)
      left_of x a = subst (λ (l : List (Receipt V)). Among x l) (w.each x.step.thread) (among_own order x a)

      behind : (e : Entry) → IsLogged r e → (x : Receipt V) (c : Entry) → Among x order → IsLogged x c → GoesBefore x r
      behind e l x c a xc = go (is_or x.step.thread t) (left_of x a)
        where
          deeper : (u : ℕ) (z : List (Receipt V)) → hs u ≡ z → Among x z → IsByWeight z → u ≢ t → GoesBefore x r
          deeper u [] is b s apart = absurd b
          deeper u (y ∷ more) is (inl same) s apart =
              subst (λ (z : Receipt V). GoesBefore z r) same (first_before e l u y more is apart).1
          deeper u (y ∷ more) is (inr b) s apart =
              let f = first_before e l u y more is apart in before_trans x y r (s.0 f.0.0 c x f.0.1 b xc) f.1

          go : (x.step.thread ≡ t) ⊎ (x.step.thread ≢ t) → Among x (update t rest hs x.step.thread) → GoesBefore x r
          go (inl same) b =
              let s : IsByWeight (r ∷ rest) = subst (λ (z : List (Receipt V)). IsByWeight z) here (d.sorted t) in
              s.0 e c x l (rw (is_eq x.step.thread t same) at b) xc
          go (inr apart) b = deeper x.step.thread (hs x.step.thread) refl (rw (not_eq x.step.thread t apart) at b)
              (d.sorted x.step.thread) apart

      -- the newest receipt of a thread that has an unlogged one among those left at the end is unlogged
      left_newest : (ls older : List (Receipt V)) → IsByThread ls → (x : Receipt V) → Among x ls
          → (y : Receipt V) × (more : List (Receipt V)) × (own x.step.thread (ls ++ older) ≡ y ∷ more) × IsUnlogged y
      left_newest [] older by x a = absurd a
      left_newest (y ∷ ls) older by x (inl same) = (
        y,
        own x.step.thread (ls ++ older),
        rw (is_eq y.step.thread x.step.thread (ap (λ (z : Receipt V). z.step.thread) same)) refl,
        by.0,
      )
      left_newest (y ∷ ls) older by x (inr a) = go (is_or y.step.thread x.step.thread) (left_newest ls older by.2 x a)
        where
          go : (y.step.thread ≡ x.step.thread) ⊎ (y.step.thread ≢ x.step.thread)
              → (z : Receipt V) × (more : List (Receipt V)) × (own x.step.thread (ls ++ older) ≡ z ∷ more)
              × IsUnlogged z
              → (z : Receipt V) × (more : List (Receipt V)) × (own x.step.thread (y ∷ (ls ++ older)) ≡ z ∷ more)
              × IsUnlogged z
          go (inl same) k = (y, own x.step.thread (ls ++ older), rw (is_eq y.step.thread x.step.thread same) refl, by.0)
          go (inr apart) (z, more, is, quiet) = (z, more, rw (not_eq y.step.thread x.step.thread apart) is, quiet)

      newest_left : (x : Receipt V) → Among x w.left → x.step.thread ≢ t
          → (y : Receipt V) × (more : List (Receipt V)) × (hs x.step.thread ≡ y ∷ more) × IsUnlogged y
      newest_left x a apart =
          let k = left_newest w.left w.led w.rest x a in (
            k.0,
            k.1,
            sym (not_updated t x.step.thread rest hs apart)
                ∙ (sym (w.each x.step.thread) ∙ (ap (λ (l : List (Receipt V)). own x.step.thread l) w.parts ∙ k.2)),
            k.3,
          )

      put_unlogged : IsUnlogged r → IsWoven hs (r ∷ order)
      put_unlogged none = record {
        each = each;
        by_weight = ((λ e c x re a xc. absurd (none e re)), w.by_weight);
        left = r ∷ w.left;
        led = w.led;
        parts = ap (λ (l : List (Receipt V)). r ∷ l) w.parts;
        leads = w.leads;
        rest = (none, (λ x a. lesser x a (is_or x.step.thread t)), w.rest);
      }
        where
          lesser : (x : Receipt V) → Among x w.left → (x.step.thread ≡ t) ⊎ (x.step.thread ≢ t)
              → x.step.thread ≤ r.step.thread
          lesser x a (inl same) = omega (arith, same, of_t)
          lesser x a (inr apart) =
              let k = newest_left x a apart in
              let less : x.step.thread < t = lesser_thread none x.step.thread k.0 k.1 k.2 apart k.3 in
              omega (arith, of_t)

      put_logged : (e : Entry) → IsLogged r e → IsWoven hs (r ∷ order)
      put_logged e l = record {
        each = each;
        by_weight = ((λ f c x rf a xc. behind f rf x c a xc), w.by_weight);
        left = [];
        led = r ∷ (w.left ++ w.led);
        parts = ap (λ (z : List (Receipt V)). r ∷ z) w.parts;
        leads = (
          (e, l),
          leads_on r w.left w.led (unlogged w.left w.rest) (λ x a. of_thread x a (is_or x.step.thread t)) w.leads,
        );
        rest = tt;
      }
        where
          unlogged : (ls : List (Receipt V)) → IsByThread ls → AreUnlogged ls
          unlogged [] by x a = absurd a
          unlogged (y ∷ ls) by x (inl same) = subst (λ (z : Receipt V). IsUnlogged z) same by.0
          unlogged (y ∷ ls) by x (inr a) = unlogged ls by.2 x a

          of_thread : (x : Receipt V) → Among x w.left → (x.step.thread ≡ t) ⊎ (x.step.thread ≢ t)
              → x.step.thread ≡ r.step.thread
          of_thread x a (inl same) = same ∙ sym of_t
          of_thread x a (inr apart) =
              let k = newest_left x a apart in
              let f = first_before e l x.step.thread k.0 k.1 k.2 apart in absurd (k.3 f.0.0 f.0.1)

      put : IsWoven hs (r ∷ order)
      put = go (one_or_none r)
        where
          go : ((e : Entry) × IsLogged r e) ⊎ IsUnlogged r → IsWoven hs (r ∷ order)
          go (inl (e, l)) = put_logged e l
          go (inr none) = put_unlogged none

-- so all are woven
turns_draw : {V : Type 0} (lists : List (List (Option ℕ))) (turns left : List ℕ) (hs : Receipts V)
    → Drawing lists left hs → AreTurns lists left turns
    → (order : List (Receipt V)) × AreInTurn hs turns order × IsWoven hs order
turns_draw {V} lists [] left hs d none = (
  [],
  refl,
  record {
    each = λ t. sym (empty t (cases_lt t (length lists)));
    by_weight = tt;
    left = [];
    led = [];
    parts = refl;
    leads = tt;
    rest = tt;
  },
)
  where
    empty : (t : ℕ) → (t < length lists) ⊎ (length lists ≤ t) → hs t ≡ []
    empty t (inl low) = marked_none (hs t) (slice_index_or lists t [])
        (subst (λ (n : ℕ). AreMarked (hs t) (slice_index_or lists t []) n) (none t low) (d.marked t))
    empty t (inr high) = d.beyond t high
turns_draw {V} lists (t ∷ turns) left hs d (low, latest, n, is, more) =
    let k = marked_some (hs t) (slice_index_or lists t []) n
    (subst (λ (z : ℕ). AreMarked (hs t) (slice_index_or lists t []) z) is (d.marked t)) in
    let rest = turns_draw lists turns (slice_set left t n) (update t k.1 hs)
    (drawn lists left hs d t n k.0 k.1 low latest k.2 k.4) more in
    (k.0 ∷ rest.0, (k.1, k.2, rest.1), put lists left hs d t n k.0 k.1 low latest k.2 k.4 rest.0 rest.2)

pub length_is : (lists : List (List (Option ℕ))) (t : ℕ)
    → slice_index (lengths lists) t ≡ length (slice_index_or lists t [])
length_is [] t = refl
length_is (marks ∷ lists) zero = refl
length_is (marks ∷ lists) (suc t) = length_is lists t

pub lengths_count : (lists : List (List (Option ℕ))) → length (lengths lists) ≡ length lists
lengths_count [] = refl
lengths_count (marks ∷ lists) = ap suc (lengths_count lists)

beyond_none : (lists : List (List (Option ℕ))) (t : ℕ) → length lists ≤ t → slice_index_or lists t [] ≡ []
beyond_none [] t high = refl
beyond_none (marks ∷ lists) zero high = absurd (omega arith)
beyond_none (marks ∷ lists) (suc t) high = beyond_none lists t (omega arith)

-- receipts with these marks, each thread's by weight, are woven in the turns of the marks
pub turns_weave : {V : Type 0} (rs : Receipts V) (lists : List (List (Option ℕ))) (turns : List ℕ)
    → ((t : ℕ) → AreOf t (rs t)) → ((t : ℕ) → IsByWeight (rs t)) → AreMarksOf rs lists
    → AreTurns lists (lengths lists) turns → (order : List (Receipt V)) × AreInTurn rs turns order × IsWoven rs order
turns_weave {V} rs lists turns of_t sorted marks are = turns_draw lists turns (lengths lists) rs (record {
  sized = lengths_count lists;
  own_of = of_t;
  sorted = sorted;
  marked = λ t. subst (λ (n : ℕ). AreMarked (rs t) (slice_index_or lists t []) n) (sym (length_is lists t)) (marks t);
  beyond = λ t high. marked_none (rs t) (slice_index_or lists t []) (subst
      (λ (n : ℕ). AreMarked (rs t) (slice_index_or lists t []) n) (ap length (beyond_none lists t high)) (marks t));
}) are
