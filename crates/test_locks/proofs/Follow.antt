-- Entries that are held one after the other can be followed.
use Rattle.std.proofs.Common.{◌≡◌, ◌≢◌, ℕ, ◌+◌, ◌<◌, ◌≤◌, ◌⊎◌, inl, inr, ⊎_elim, List, length, replicate, Option, Some}
use Rattle.std.proofs.Common.{None, IsSome, Result, slice_index, slice_set, Ok, refl, sym, ap, ◌∙◌, subst, arith}
use Rattle.std.proofs.lemmas.List.{get_or-set_same, get_or-set_other}
use Rattle.entry_order.specs.declared.what.What.{What}
use Rattle.entry_order.specs.declared.what.What.TheVariants as what
use Rattle.entry_order.proofs.Order.{is_or}
use Rattle.access_log.specs.declared.entry.StampedEntry.{StampedEntry}
use Rattle.plain_text.specs.declared.memory.NoMemory.{NoMemory}
use Rattle.access_log.specs.declared.entry.Added.{Added}
use Rattle.access_log.specs.declared.entry.Added.TheVariants as added
use Rattle.access_log.specs.Held.{Lane, lane, entry_at, fresh_lane, IsKnown, IsFrontier}
use Rattle.access_log.specs.Lanes.{PutsEntry}
use Rattle.access_log.proofs.LaneLemmas.{lane_of_replicate}
use Rattle.replay_guide.specs.Following.{Follows}
use Rattle.test_locks.specs.Followed.{IsLater, IsNextHeld, AreFollowed, noted}

-- nothing is held
pub none_followed : AreFollowed (replicate 16 fresh_lane) (replicate 16 0)
none_followed = record {
  threads = refl;
  can = record {
    gapless = λ t n some. absurd (not_some (entry_at (lane (replicate 16 fresh_lane) t) (n + 1)) (none t (n + 1)) some);
    apart = λ v place t n u m a b. absurd (not_here t n (what.Access v place) a);
  };
  below = λ t n v place a. absurd (not_here t n (what.Access v place) a);
}
  where
    none : (t n : ℕ) → entry_at (lane (replicate 16 fresh_lane) t) n ≡ None
    none t n = ap (λ (l : Lane). entry_at l n) (lane_of_replicate 16 t)

    not_some : (o : Option StampedEntry) → o ≡ None → IsSome o → ⊥
    not_some None is some = cc
    not_some (Some e) is some = cc

    not_here : (t n : ℕ) (w : What) → Follows (replicate 16 fresh_lane) t n w → ⊥
    not_here t n w (e, here, same) = let is : entry_at (lane (replicate 16 fresh_lane) t) n ≡ None = none t n in cc

-- the last places only rise
noted_rises : (last : List ℕ) (w : What) (v : ℕ) → IsLater last w → slice_index last v ≤ slice_index (noted last w) v
noted_rises last (what.Access x place) v later =
    ⊎_elim
    (λ (q : v ≡ x).
    let now : slice_index (slice_set last x place) x ≡ place = get_or-set_same last x place 0 later.0 in
    let high : slice_index last x < place = later.1 in
    subst (λ (u : ℕ). slice_index last u ≤ slice_index (slice_set last x place) u) (sym q) (omega (arith, now, high)))
    (λ (q : v ≢ x).
    let same : slice_index (slice_set last x place) v ≡ slice_index last v = get_or-set_other last x v place 0 q in
    omega (arith, same)) (is_or v x)
noted_rises last (what.Read x after) v later = omega arith
noted_rises last (what.Clock a) v later = omega arith
noted_rises last (what.Draw a) v later = omega arith

-- one more entry, the next of its thread, is held
module _ (old new : List Lane) (last : List ℕ) (e : StampedEntry) (f : ℕ) (are : AreFollowed old last)
    (frontier : IsFrontier (lane old e.thread) f) (next : e.number ≡ f + 1) (later : IsLater last e.what)
    (puts : PutsEntry (lane old e.thread) (lane new e.thread) e.number e)
    (others : (t : ℕ) → t ≢ e.thread → lane new t ≡ lane old t) (all : length new ≡ length old) where
  abbrev Put : ℕ → ℕ → StampedEntry → Type 0
  Put t n g = (t ≡ e.thread) × (n ≡ e.number) × (e ≡ g)

  -- what is held is the new entry, or was held
  place_of : (t n : ℕ) (g : StampedEntry) → entry_at (lane new t) n ≡ Some g
      → Put t n g ⊎ (entry_at (lane old t) n ≡ Some g)
  place_of t n g here =
      ⊎_elim
      (λ (q : t ≡ e.thread).
      let there : entry_at (lane new e.thread) n ≡ Some g =
      subst (λ (u : ℕ). entry_at (lane new u) n ≡ Some g) q here in
      ⊎_elim
      (λ (r : n ≡ e.number).
      let put : Some e ≡ Some g = sym puts.put ∙ subst (λ (k : ℕ). entry_at (lane new e.thread) k ≡ Some g) r there in
      inl (q, r, cc))
      (λ (r : n ≢ e.number).
      inr (subst (λ (u : ℕ). entry_at (lane old u) n ≡ Some g) (sym q) (sym (puts.others n r) ∙ there)))
      (is_or n e.number)) (λ (q : t ≢ e.thread). inr (subst (λ (l : Lane). entry_at l n ≡ Some g) (others t q) here))
      (is_or t e.thread)

  -- what was known is known
  known : (t n : ℕ) → IsKnown (lane old t) n → IsKnown (lane new t) n
  known t n is =
      ⊎_elim
      (λ (q : t ≡ e.thread).
      subst (λ (u : ℕ). IsKnown (lane new u) n) (sym q) (own (subst (λ (u : ℕ). IsKnown (lane old u) n) q is)))
      (λ (q : t ≢ e.thread). subst (λ (l : Lane). IsKnown l n) (sym (others t q)) is) (is_or t e.thread)
    where
      own : IsKnown (lane old e.thread) n → IsKnown (lane new e.thread) n
      own (inl low) =
          let same : (lane new e.thread).covered ≡ (lane old e.thread).covered = puts.covered in
          inl (subst (λ (c : ℕ). n ≤ c) (sym same) low)
      own (inr some) =
          ⊎_elim
          (λ (r : n ≡ e.number). inr (subst (λ (k : ℕ). IsSome (entry_at (lane new e.thread) k)) (sym r)
          (subst (λ (o : Option StampedEntry). IsSome o) (sym puts.put) refl)))
          (λ (r : n ≢ e.number). inr (subst (λ (o : Option StampedEntry). IsSome o) (sym (puts.others n r)) some))
          (is_or n e.number)

  -- the touch that is put is above all of its variable
  above : (t n v place : ℕ) (g : StampedEntry) → e.what ≡ what.Access v place → entry_at (lane old t) n ≡ Some g
      → g.what ≡ what.Access v place → ⊥
  above t n v place g is here same =
      let low : place ≤ slice_index last v = are.below t n v place (g, here, same) in
      let high : IsLater last (what.Access v place) = subst (λ (w : What). IsLater last w) is later in
      let over : slice_index last v < place = high.1 in
      omega (arith, low, over)

  gap : (t n : ℕ) (o : Option StampedEntry) → entry_at (lane new t) (n + 1) ≡ o → IsSome o → IsKnown (lane new t) n
  gap t n None here some = absurd (cc)
  gap t n (Some g) here some =
      ⊎_elim
      (λ (p : Put t (n + 1) g).
      let low : n ≤ f = omega (arith, p.1, next) in
      known t n (subst (λ (u : ℕ). IsKnown (lane old u) n) (sym p.0) (frontier.reached n low)))
      (λ (p : entry_at (lane old t) (n + 1) ≡ Some g).
      known t n (are.can.gapless t n (subst (λ (o : Option StampedEntry). IsSome o) (sym p) refl)))
      (place_of t (n + 1) g here)

  apart : (v place t n u m : ℕ) → Follows new t n (what.Access v place) → Follows new u m (what.Access v place)
      → (t ≡ u) × (n ≡ m)
  apart v place t n u m (g, here, same) (h, there, alike) =
      ⊎_elim
      (λ (p : Put t n g).
      ⊎_elim (λ (q : Put u m h). (p.0 ∙ sym q.0, p.1 ∙ sym q.1))
      (λ (q : entry_at (lane old u) m ≡ Some h).
      absurd (above u m v place h (ap (λ (x : StampedEntry). x.what) p.2 ∙ same) q alike)) (place_of u m h there))
      (λ (p : entry_at (lane old t) n ≡ Some g).
      ⊎_elim (λ (q : Put u m h). absurd (above t n v place g (ap (λ (x : StampedEntry). x.what) q.2 ∙ alike) p same))
      (λ (q : entry_at (lane old u) m ≡ Some h). are.can.apart v place t n u m (g, p, same) (h, q, alike))
      (place_of u m h there)) (place_of t n g here)

  below : (t n v place : ℕ) → Follows new t n (what.Access v place) → place ≤ slice_index (noted last e.what) v
  below t n v place (g, here, same) =
      ⊎_elim
      (λ (p : Put t n g).
      let is : e.what ≡ what.Access v place = ap (λ (x : StampedEntry). x.what) p.2 ∙ same in
      let high : IsLater last (what.Access v place) = subst (λ (w : What). IsLater last w) is later in
      let now : slice_index (slice_set last v place) v ≡ place = get_or-set_same last v place 0 high.0 in
      subst (λ (w : What). place ≤ slice_index (noted last w) v) (sym is) (omega (arith, now)))
      (λ (p : entry_at (lane old t) n ≡ Some g).
      let low : place ≤ slice_index last v = are.below t n v place (g, p, same) in
      let rise : slice_index last v ≤ slice_index (noted last e.what) v = noted_rises last e.what v later in
      omega (arith, low, rise)) (place_of t n g here)

  pub one_more : AreFollowed new (noted last e.what)
  one_more = record {
    threads = all ∙ are.threads;
    can = record { gapless = λ t n some. gap t n (entry_at (lane new t) (n + 1)) refl some; apart = apart };
    below = below;
  }

-- the entries stay, and the last places rise
pub noted_stays : (held : List Lane) (last : List ℕ) (w : What) → AreFollowed held last → IsLater last w
    → AreFollowed held (noted last w)
noted_stays held last w are later = record {
  threads = are.threads;
  can = are.can;
  below = λ t n v place a.
      let low : place ≤ slice_index last v = are.below t n v place a in
      let rise : slice_index last v ≤ slice_index (noted last w) v = noted_rises last w v later in
      omega (arith, low, rise);
}

-- the entry was added, or was known
pub added_followed : (old new : List Lane) (last after : List ℕ) (e : StampedEntry) (a : Added) → AreFollowed old last
    → IsNextHeld old e → IsLater last e.what → after ≡ noted last e.what
    → ((x : Result Added NoMemory) → x ≡ Ok a → x ≡ Ok added.New
    → PutsEntry (lane old e.thread) (lane new e.thread) e.number e)
    → ((x : Result Added NoMemory) → x ≡ Ok a → x ≢ Ok added.New → new ≡ old)
    → ((t : ℕ) → t ≢ e.thread → lane new t ≡ lane old t) → length new ≡ length old → AreFollowed new after
added_followed old new last after e added.New are n later is puts same others all =
    subst (λ (l : List ℕ). AreFollowed new l) (sym is)
    (one_more old new last e n.frontier are n.is n.next later (puts (Ok added.New) refl refl) others all)
added_followed old new last after e added.Known are n later is puts same others all =
    let unchanged : new ≡ old = same (Ok added.Known) refl (λ q. cc) in
    subst (λ (l : List ℕ). AreFollowed new l) (sym is)
    (subst (λ (held : List Lane). AreFollowed held (noted last e.what)) (sym unchanged)
    (noted_stays old last e.what are later))
