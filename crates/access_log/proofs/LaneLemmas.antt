-- Frontiers and lanes that are fresh.
use Rattle.std.proofs.Common.{◌≡◌, ℕ, zero, suc, ◌+◌, ◌≤◌, ◌<◌, List, [], ◌∷◌, Option, Some, None, IfSome, replicate}
use Rattle.std.proofs.Common.{length, slice_index, slice_set, ◌≢◌, ◌↔◌, refl, sym, inl, inr, ⊎_elim}
use Rattle.std.proofs.Common.{arith}
use Rattle.access_log.specs.declared.entry.StampedEntry.{StampedEntry}
use Rattle.access_log.specs.Held.{Lane, lane, fresh_lane, entry_at, IsKnown, IsFrontier, IsWithin, IsRising, held_count}
use Rattle.access_log.specs.Lanes.{RetainsAtMost, IsHeldSet}
use Rattle.thread_clock.specs.Clock.{AtMost}
use Rattle.std.proofs.lemmas.Bool.{cases_lt}
use Rattle.std.proofs.lemmas.List.{get_or-set_same, get_or-set_other}
use Rattle.std.proofs.lemmas.List.Sums.{sum_by-set}

not_above : (l : Lane) (f g : ℕ) → IsFrontier l f → IsFrontier l g → f < g → ⊥
not_above l f g p q h = p.ends (q.reached (f + 1) (omega arith))

-- a lane has one frontier
pub one_frontier : (l : Lane) (f g : ℕ) → IsFrontier l f → IsFrontier l g → f ≡ g
one_frontier l f g p q =
    let below : f < g → ⊥ = not_above l f g p q in
    let above : g < f → ⊥ = not_above l g f q p in
    grind arith

known_fresh : IsKnown fresh_lane 1 → ⊥
known_fresh (inl h) = omega arith
known_fresh (inr h) = cc

pub frontier_of_fresh : IsFrontier fresh_lane 0
frontier_of_fresh = record { reached = λ k h. inl h; ends = known_fresh }

pub lane_of_replicate : (n t : ℕ) → lane (replicate n fresh_lane) t ≡ fresh_lane
lane_of_replicate zero t = refl
lane_of_replicate (suc n) zero = refl
lane_of_replicate (suc n) (suc t) = lane_of_replicate n t

pub lane_past : (held : List Lane) (t : ℕ) → length held ≤ t → lane held t ≡ fresh_lane
lane_past [] t h = refl
lane_past (x ∷ held) zero h = absurd (omega arith)
lane_past (x ∷ held) (suc t) h = lane_past held t (omega arith)

pub lane-slice_set : (held : List Lane) (i : ℕ) (l : Lane) → i < length held → lane (slice_set held i l) i ≡ l
lane-slice_set held i l h = get_or-set_same held i l _ h

pub lane-slice_set_other : (held : List Lane) (i : ℕ) (l : Lane) (t : ℕ) → t ≢ i
    → lane (slice_set held i l) t ≡ lane held t
lane-slice_set_other held i l t h = get_or-set_other held i t l _ h

RetainsAtMost-fresh : (frontiers : List ℕ) → RetainsAtMost fresh_lane fresh_lane frontiers
RetainsAtMost-fresh frontiers = record { covered = refl; held = λ n e. (λ h. cc, λ h. h.0) }

-- lanes past the last are fresh, and retain all that they hold
pub RetainsAtMost-all : (old new : List Lane) (frontiers : List ℕ) (i : ℕ) → length old ≤ i → length new ≡ length old
    → ((t : ℕ) → t < i → RetainsAtMost (lane old t) (lane new t) frontiers) → (t : ℕ)
    → RetainsAtMost (lane old t) (lane new t) frontiers
RetainsAtMost-all old new frontiers i past same kept t =
    ⊎_elim (λ h. kept t (omega arith))
    (λ h.
    let o = lane_past old t h in let n = lane_past new t (omega arith) in rw (o, n) (RetainsAtMost-fresh frontiers))
    (cases_lt t (length old))

-- the counts of what is held, as one lane is replaced
pub held_count-slice_set : (held : List Lane) (i : ℕ) (l : Lane) → i < length held
    → held_count (slice_set held i l) + length (lane held i).entries ≡ held_count held + length l.entries
held_count-slice_set held i l h = sum_by-set (λ (x : Lane). length x.entries) held i l fresh_lane h

-- the components of the stamp are at most the frontiers exactly where it is within them
pub AtMost-IsWithin : (held : List Lane) (frontiers stamp : List ℕ)
    → ((t : ℕ) → IsFrontier (lane held t) (slice_index frontiers t)) → AtMost stamp frontiers ↔ IsWithin held stamp
AtMost-IsWithin held frontiers stamp are = (
  λ h u f p. let same = one_frontier (lane held u) (slice_index frontiers u) f (are u) p in let at = h u in omega arith,
  λ h u. h u (slice_index frontiers u) (are u),
)

pub closed_from_retained : (old new : List Lane) (frontiers : List ℕ)
    → ((t : ℕ) → RetainsAtMost (lane old t) (lane new t) frontiers)
    → ((t : ℕ) → IsFrontier (lane old t) (slice_index frontiers t)) → (t n : ℕ) (e : StampedEntry)
    → (entry_at (lane new t) n ≡ Some e) ↔ ((entry_at (lane old t) n ≡ Some e) × IsWithin old e.stamp)
closed_from_retained old new frontiers kept are t n e =
    let both = (kept t).held n e in
    let within = AtMost-IsWithin old frontiers e.stamp are in
    (λ h. let p = both.0 h in (p.0, within.0 p.1), λ h. both.1 (h.0, within.1 h.1))

-- lanes past the last are fresh, and hold nothing
pub rising_all : (held : List Lane) → ((t : ℕ) → t < length held → IsRising (lane held t).covered (lane held t).entries)
    → (t : ℕ) → IsRising (lane held t).covered (lane held t).entries
rising_all held rising t =
    ⊎_elim (λ h. rising t h) (λ h. let fresh = lane_past held t h in rw fresh tt) (cases_lt t (length held))

pub IsHeldSet-retained : (old new : List Lane) (frontiers : List ℕ) → IsHeldSet old
    → ((t : ℕ) → RetainsAtMost (lane old t) (lane new t) frontiers) → length new ≡ length old
    → ((t : ℕ) → t < length old → IsRising (lane new t).covered (lane new t).entries) → IsHeldSet new
IsHeldSet-retained old new frontiers is kept same rising = record {
  few = let few = is.few in omega arith;
  named = λ t n e h. is.named t n e (((kept t).held n e).0 h).0;
  rising = rising_all new (λ t h. rising t (omega arith));
}

pub entry_named : (held : List Lane) (t n : ℕ) (o : Option StampedEntry) → IsHeldSet held
    → o ≡ entry_at (lane held t) n → IfSome o (λ e. (e.thread ≡ t) × (e.number ≡ n))
entry_named held t n None is h = tt
entry_named held t n (Some e) is h = is.named t n e (sym h)
