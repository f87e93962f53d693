-- A thread has one turn.
use Rattle.std.proofs.Common.{◌≡◌, ℕ, ◌+◌, ◌<◌, ◌≤◌, ◌⊎◌, ◌↔◌, Bool, false, List, slice_index, Option, Some, None}
use Rattle.std.proofs.Common.{IsSome, IfSome, IfNone, length, refl, sym, ap, ◌∙◌, subst, inl, inr, ⊎_elim, arith}
use Rattle.std.proofs.lemmas.Bool.{cases_lt}
use Rattle.entry_order.specs.declared.what.What.{What}
use Rattle.entry_order.specs.declared.what.What.TheVariants.{Access, Read}
use Rattle.access_log.specs.declared.entry.StampedEntry.{StampedEntry}
use Rattle.access_log.specs.declared.entry.Turn.{Turn}
use Rattle.access_log.specs.declared.entry.Turn.TheVariants.{Follow, Free, Wait}
use Rattle.access_log.specs.Held.{Lane, lane, entry_at, IsRising}
use Rattle.access_log.specs.Lanes.{IsHeldSet}
use Rattle.access_log.proofs.LaneLemmas.{lane_past}
use Rattle.replay_guide.specs.Following.{Follows, CanBeFollowed}
use Rattle.replay_guide.specs.Turns.{GoesFirst, IsFirstPending, NoneIsPending, WaitsFor, IsFollowed, IsFree}
use Rattle.replay_guide.specs.Indexes.{touch_after, HasRead, IsIndexOf}
use Rattle.replay_guide.specs.Walks.{IsTurn, IsGuide, FollowsBelow}
use Rattle.replay_guide.proofs.IndexLemmas.{IsIndexOf-same}

abbrev pub PlacesApart : List Lane → Type 0
PlacesApart guide =
    (v place t n u m : ℕ) → Follows guide t n (Access v place) → Follows guide u m (Access v place) → (t ≡ u) × (n ≡ m)

-- an entry that is followed is of one of the lanes
pub follows_low : (guide : List Lane) (t n : ℕ) (what : What) → IsHeldSet guide → Follows guide t n what → t < 16
follows_low guide t n what is (e, here, same) =
    let few = is.few in
    ⊎_elim (λ (h : t < 16). h)
    (λ h.
    let fresh = lane_past guide t (omega arith) in
    let none : entry_at (lane guide t) n ≡ None = rw fresh refl in absurd cc) (cases_lt t 16)

read_or_touch : (guide : List Lane) (t n v s w r : ℕ) → Follows guide t n (Read v s)
    → Follows guide t n (Access w r) → ⊥
read_or_touch guide t n v s w r (e, here, what) (f, there, other) =
    let same : e ≡ f = cc in
    let both : Read v s ≡ Access w r = sym what ∙ ap (λ (g : StampedEntry). g.what) same ∙ other in
    cc

first_of_both : (u m w k : ℕ) → GoesFirst u m w k → GoesFirst w k u m → (u ≡ w) × (m ≡ k)
first_of_both u m w k (inl a) (inl b) = absurd (omega arith)
first_of_both u m w k (inl a) (inr b) = absurd (omega (arith, b.0))
first_of_both u m w k (inr a) (inl b) = absurd (omega (arith, a.0))
first_of_both u m w k (inr a) (inr b) = (a.0, omega (arith, a.1, b.1))

same_wait : (u m w k : ℕ) → (u ≡ w) × (m ≡ k) → Wait u m ≡ Wait w k
same_wait u m w k both = let thread = both.0 in let number = both.1 in rw (thread, number) refl

module _ (guide : List Lane) (t n v : ℕ) (read : Bool) (places : ℕ) (readers : List ℕ) (apart : PlacesApart guide) where
  wait_once : (u m w k : ℕ) → WaitsFor guide t n v read places readers u m
      → WaitsFor guide t n v read places readers w k → (u ≡ w) × (m ≡ k)
  wait_once u m w k a b = go a.which b.which
    where
      go : ((read ≡ false) × IsFirstPending guide v places readers u m)
          ⊎ (NoneIsPending guide v read places readers
          × Follows guide u m (Access v (places + 1))
          × ((u ≡ t) × (m ≡ n) → ⊥))
          → ((read ≡ false) × IsFirstPending guide v places readers w k)
          ⊎ (NoneIsPending guide v read places readers
          × Follows guide w k (Access v (places + 1))
          × ((w ≡ t) × (k ≡ n) → ⊥)) → (u ≡ w) × (m ≡ k)
      go (inl p) (inl q) = first_of_both u m w k (p.1.first w k q.1.pending) (q.1.first u m p.1.pending)
      go (inl p) (inr q) = absurd (q.0 p.0 u m p.1.pending)
      go (inr p) (inl q) = absurd (p.0 q.0 w k q.1.pending)
      go (inr p) (inr q) = apart v (places + 1) u m w k p.1 q.1

  wait_or_follow : (u m : ℕ) → WaitsFor guide t n v read places readers u m
      → IsFollowed guide t n v read places readers → ⊥
  wait_or_follow u m a (inl own) = a.not_own_read own
  wait_or_follow u m a (inr (none, own)) = go a.which
    where
      go : ((read ≡ false) × IsFirstPending guide v places readers u m)
          ⊎ (NoneIsPending guide v read places readers
          × Follows guide u m (Access v (places + 1))
          × ((u ≡ t) × (m ≡ n) → ⊥)) → ⊥
      go (inl p) = none p.0 u m p.1.pending
      go (inr p) = p.2 (apart v (places + 1) u m t n p.1 own)

  wait_or_free : (u m : ℕ) → WaitsFor guide t n v read places readers u m → IsFree guide t n v read places readers → ⊥
  wait_or_free u m a free = go a.which
    where
      go : ((read ≡ false) × IsFirstPending guide v places readers u m)
          ⊎ (NoneIsPending guide v read places readers
          × Follows guide u m (Access v (places + 1))
          × ((u ≡ t) × (m ≡ n) → ⊥)) → ⊥
      go (inl p) = free.none_pending p.0 u m p.1.pending
      go (inr p) = free.no_touch u m p.1

  follow_or_free : IsFollowed guide t n v read places readers → IsFree guide t n v read places readers → ⊥
  follow_or_free (inl own) free = free.not_own_read own
  follow_or_free (inr own) free = free.no_touch t n own.1

  pub turn_once : (a b : Turn) → IsTurn guide t n v read places readers a
      → IsTurn guide t n v read places readers b → a ≡ b
  turn_once (Wait u m) (Wait w k) p q = same_wait u m w k (wait_once u m w k p q)
  turn_once (Wait u m) Follow p q = absurd (wait_or_follow u m p q)
  turn_once (Wait u m) Free p q = absurd (wait_or_free u m p q)
  turn_once Follow (Wait w k) p q = absurd (wait_or_follow w k q p)
  turn_once Follow Follow p q = refl
  turn_once Follow Free p q = absurd (follow_or_free p q)
  turn_once Free (Wait w k) p q = absurd (wait_or_free w k q p)
  turn_once Free Follow p q = absurd (follow_or_free q p)
  turn_once Free Free p q = refl

  -- so a turn is that one which it is
  pub turn_is : (a b : Turn) → IsTurn guide t n v read places readers a
      → (a ≡ b) ↔ IsTurn guide t n v read places readers b
  turn_is a b p = (λ q. subst (λ (x : Turn). IsTurn guide t n v read places readers x) q p, λ q. turn_once a b p q)

-- the touch that the index has
pub next_of_index : (guide : List Lane) (touches : List ((ℕ × ℕ) × (ℕ × ℕ))) (reads : List (ℕ × ℕ × ℕ × ℕ))
    (v places : ℕ) (o : Option (ℕ × ℕ)) → IsGuide guide touches reads → o ≡ touch_after touches v places
    → IfSome o (λ x. Follows guide x.0 x.1 (Access v (places + 1)))
next_of_index guide touches reads v places None is found = tt
next_of_index guide touches reads v places (Some x) is found = is.indexed.touch v places x.0 x.1 (sym found)

pub none_of_index : (guide : List Lane) (touches : List ((ℕ × ℕ) × (ℕ × ℕ))) (reads : List (ℕ × ℕ × ℕ × ℕ))
    (v places : ℕ) (o : Option (ℕ × ℕ)) → IsGuide guide touches reads → o ≡ touch_after touches v places
    → IfNone o ((u m : ℕ) → Follows guide u m (Access v (places + 1)) → ⊥)
none_of_index guide touches reads v places None is found = λ u m follows.
    let some = is.indexed.has_touch v places u m follows in
    let none = subst (λ (o : Option (ℕ × ℕ)). IsSome o) (sym found) some in cc
none_of_index guide touches reads v places (Some x) is found = tt

-- the pending read that the index finds first
pub first_of_index : (guide : List Lane) (touches : List ((ℕ × ℕ) × (ℕ × ℕ))) (reads : List (ℕ × ℕ × ℕ × ℕ))
    (v places : ℕ) (read : Bool) (readers : List ℕ) (o : Option (ℕ × ℕ)) → IsGuide guide touches reads → read ≡ false
    → IfSome o (λ x. slice_index readers x.0 < x.1) → IfSome o (λ x. HasRead reads v places x.0 x.1)
    → IfSome o (λ x.
    (w k : ℕ) → w < 16 → slice_index readers w < k → HasRead reads v places w k → GoesFirst x.0 x.1 w k)
    → IfSome o (λ x. (read ≡ false) × IsFirstPending guide v places readers x.0 x.1)
first_of_index guide touches reads v places read readers None is no_read above there first = tt
first_of_index guide touches reads v places read readers (Some x) is no_read above there first = (
  no_read,
  record {
    pending = ((is.indexed.read v places x.0 x.1).0 there, above);
    first = λ w k pending. first w k (follows_low guide w k (Read v places) is.held pending.0) pending.1
        ((is.indexed.read v places w k).1 pending.0);
  },
)

pub nothing_in_index : (guide : List Lane) (touches : List ((ℕ × ℕ) × (ℕ × ℕ))) (reads : List (ℕ × ℕ × ℕ × ℕ))
    (v places : ℕ) (read : Bool) (readers : List ℕ) (o : Option (ℕ × ℕ)) → IsGuide guide touches reads
    → IfNone o ((u m : ℕ) → u < 16 → slice_index readers u < m → HasRead reads v places u m → ⊥)
    → IfNone o (NoneIsPending guide v read places readers)
nothing_in_index guide touches reads v places read readers None is none = λ no_read u m pending. none u m
    (follows_low guide u m (Read v places) is.held pending.0) pending.1 ((is.indexed.read v places u m).1 pending.0)
nothing_in_index guide touches reads v places read readers (Some x) is none = tt

-- the guide that follows a held set
pub guide_of : (followed lanes : List Lane) (touches : List ((ℕ × ℕ) × (ℕ × ℕ))) (reads : List (ℕ × ℕ × ℕ × ℕ)) (i : ℕ)
    → 16 ≤ i → i ≤ 16 → length lanes ≡ i → ((t : ℕ) → t < i → lane lanes t ≡ lane followed t) → IsHeldSet followed
    → CanBeFollowed followed → IsIndexOf (FollowsBelow followed i) touches reads → IsGuide lanes touches reads
guide_of followed lanes touches reads i high low long same is can indexed = record {
  held = record {
    few = omega arith;
    named = λ t n e here. is.named t n e (subst (λ (l : Lane). entry_at l n ≡ Some e) (lanes_same t) here);
    rising = λ t. subst (λ (l : Lane). IsRising l.covered l.entries) (sym (lanes_same t)) (is.rising t);
  };
  apart = λ v place t n u m a b. can.apart v place t n u m (to t n (Access v place) a) (to u m (Access v place) b);
  indexed = IsIndexOf-same (FollowsBelow followed i) (Follows lanes) touches reads
      (λ t n w.
      (λ h. from t n w h.1, λ h. let up = follows_low followed t n w is (to t n w h) in (omega arith, to t n w h)))
      indexed;
}
  where
    lanes_same : (t : ℕ) → lane lanes t ≡ lane followed t
    lanes_same t = ⊎_elim (λ (h : t < i). same t h)
        (λ h. let few = is.few in lane_past lanes t (omega arith) ∙ sym (lane_past followed t (omega arith)))
        (cases_lt t i)

    to : (t n : ℕ) (w : What) → Follows lanes t n w → Follows followed t n w
    to t n w (e, here, what) = (e, subst (λ (l : Lane). entry_at l n ≡ Some e) (lanes_same t) here, what)

    from : (t n : ℕ) (w : What) → Follows followed t n w → Follows lanes t n w
    from t n w (e, here, what) = (e, subst (λ (l : Lane). entry_at l n ≡ Some e) (sym (lanes_same t)) here, what)

-- where no touch and no read is indexed for which the move might wait, it is free
pub free_past : (guide : List Lane) (touches : List ((ℕ × ℕ) × (ℕ × ℕ))) (reads : List (ℕ × ℕ × ℕ × ℕ)) (t n v : ℕ)
    (read : Bool) (places : ℕ) (readers : List ℕ) → IsGuide guide touches reads
    → ((x : ℕ × ℕ) → touch_after touches v places ≡ Some x → ⊥) → ((u m : ℕ) → HasRead reads v places u m → ⊥)
    → IsFree guide t n v read places readers
free_past guide touches reads t n v read places readers is no_touches no_reads = record {
  not_own_read = λ h. no_reads t n ((is.indexed.read v places t n).1 h);
  none_pending = λ touch u m pending. no_reads u m ((is.indexed.read v places u m).1 pending.0);
  no_touch = λ u m h. none (touch_after touches v places) no_touches (is.indexed.has_touch v places u m h);
}
  where
    none : (o : Option (ℕ × ℕ)) → ((x : ℕ × ℕ) → o ≡ Some x → ⊥) → IsSome o → ⊥
    none None never some = cc
    none (Some x) never some = never x refl
