-- The frontiers once entries are covered.
use Rattle.std.proofs.Common.{◌≡◌, ℕ, ◌≤◌, ◌<◌, false, cond, List, None, leb, length, slice_index, ap, ⊎_elim, arith}
use Rattle.std.proofs.lemmas.Bool.{cases_lt}
use Rattle.std.proofs.lemmas.Bool.Decides.{nat_tests}
use Rattle.std.proofs.Math.ListN.{get_or-eq_default}
use Rattle.access_log.specs.Held.{Lane, lane, entry_at, IsFrontier}
use Rattle.access_log.specs.Lanes.{CoversUpTo}
use Rattle.access_log.proofs.LaneLemmas.{lane_past, frontier_of_fresh}
use Rattle.output_logger.specs.Reach.{AreFrontiers, WithCover}

past_list : (s : List ℕ) (t : ℕ) → length s ≤ t → slice_index s t ≡ 0
past_list s t h = get_or-eq_default s 0 h

-- threads past the last have frontier 0
frontier_past : (held : List Lane) (s : List ℕ) (t : ℕ) → length held ≤ t → slice_index s t ≡ 0
    → IsFrontier (lane held t) (slice_index s t)
frontier_past held s t past zero = rw (lane_past held t past, zero) frontier_of_fresh

pub not_covered : (old : Lane) (count k : ℕ) → count < k → cond (leb k count) None (entry_at old k) ≡ entry_at old k
not_covered old count k past =
    let b : leb k count ≡ false = grind (arith, nat_tests) in ap (λ v. cond v None (entry_at old k)) b

pub frontiers_over_all : (old new : List Lane) (s counts : List ℕ) (threads : ℕ) → threads ≡ length old
    → ((t : ℕ) → t < threads → (l : Lane) → CoversUpTo (lane old t) l (slice_index counts t)
    → IsFrontier l (slice_index s t)) → ((t : ℕ) → threads ≤ t → slice_index s t ≡ 0) → WithCover old new counts
    → AreFrontiers new s
frontiers_over_all old new s counts threads all each rest w t =
    let same = w.threads in
    ⊎_elim (λ h. each t h (lane new t) (w.covers t (omega arith))) (λ h. frontier_past new s t (omega arith) (rest t h))
    (cases_lt t threads)
