-- The frontiers of the lanes are those of the log.
use Rattle.std.proofs.Common.{◌≡◌, ℕ, zero, suc, ◌+◌, ◌≤◌, ◌<◌, ◌≢◌, cond, max, List, [], ◌∷◌, Option, Some, None}
use Rattle.std.proofs.Common.{IsSome, refl, ap, ◌∙◌, subst, inl, inr, ◌⊎◌, arith, slice_index}
use Rattle.std.proofs.lemmas.Bool.{cases_lt}
use Rattle.std.specs.Map.{lookup}
use Rattle.std.specs.BTreeMap.{is_at}
use Rattle.std.specs.Ordering.{nat_cmp}
use Rattle.entry_order.specs.Log.{Entry, entries, IsLog, IsIn}
use Rattle.entry_order.specs.Closed.{IsFrontier as IsFrontierOf}
use Rattle.entry_order.proofs.Order.{number_within, entry_there, same_number}
use Rattle.access_log.specs.declared.entry.StampedEntry.{StampedEntry}
use Rattle.access_log.specs.Held.{Lane, lane, entry_at, IsKnown, IsFrontier, IsWithin}
use Rattle.access_log.proofs.SlotLemmas.{is_at-apart}
use Rattle.access_log.proofs.LaneLemmas.{one_frontier}
use Rattle.master_core.specs.Holding.{held_entries, HoldsOf}
use Rattle.master_core.specs.Stepping.{plain_entry}
use Rattle.master_core.proofs.HeldEntries.{at_held, held_named}

-- Each lane has a frontier

-- past some number there is no entry
numbers_end : (xs : List (ℕ × StampedEntry)) → (last : ℕ) × ((n : ℕ) → last < n → lookup (is_at (nat_cmp n)) xs ≡ None)
numbers_end [] = (0, λ n h. refl)
numbers_end (x ∷ xs) = go (numbers_end xs)
  where
    go : (last : ℕ) × ((n : ℕ) → last < n → lookup (is_at (nat_cmp n)) xs ≡ None)
        → (last : ℕ) × ((n : ℕ) → last < n → lookup (is_at (nat_cmp n)) (x ∷ xs) ≡ None)
    go (last, none) = (
      max x.0 last,
      λ n h.
          let apart : n ≢ x.0 = λ q. omega arith in
          ap (λ b. cond b (Some x.1) (lookup (is_at (nat_cmp n)) xs)) (is_at-apart n x.0 apart) ∙ none n (omega arith),
    )

none_or_some : (o : Option StampedEntry) → (o ≡ None) ⊎ IsSome o
none_or_some None = inl refl
none_or_some (Some s) = inr refl

not_some : (o : Option StampedEntry) → o ≡ None → IsSome o → ⊥
not_some None q h = cc
not_some (Some s) q h = cc

some_is : (o : Option StampedEntry) → IsSome o → (s : StampedEntry) × (o ≡ Some s)
some_is None h = absurd (cc)
some_is (Some s) h = (s, refl)

is_some : (o : Option StampedEntry) (s : StampedEntry) → o ≡ Some s → IsSome o
is_some None s q = absurd (cc)
is_some (Some x) s q = refl

-- one number further
known_on : (l : Lane) (k : ℕ) → ((n : ℕ) → n ≤ k → IsKnown l n) → IsSome (entry_at l (k + 1)) → (n : ℕ) → n ≤ k + 1
    → IsKnown l n
known_on l k known some n h = pick (cases_lt k n)
  where
    pick : (k < n) ⊎ (n ≤ k) → IsKnown l n
    pick (inl past) = let same : k + 1 ≡ n = omega arith in inr (subst (λ (i : ℕ). IsSome (entry_at l i)) same some)
    pick (inr up) = known n up

frontier_at : (l : Lane) (k : ℕ) → l.covered ≤ k → ((n : ℕ) → n ≤ k → IsKnown l n) → entry_at l (k + 1) ≡ None
    → (f : ℕ) × IsFrontier l f
frontier_at l k low known none = (k, record { reached = known; ends = unknown })
  where
    unknown : IsKnown l (k + 1) → ⊥
    unknown (inl h) = omega arith
    unknown (inr h) = not_some (entry_at l (k + 1)) none h

-- upwards from a number up to which all are known, through at most this number
frontier_from : (l : Lane) (more k : ℕ) → l.covered ≤ k → ((n : ℕ) → k + more < n → entry_at l n ≡ None)
    → ((n : ℕ) → n ≤ k → IsKnown l n) → (f : ℕ) × IsFrontier l f
frontier_from l zero k low ends known = frontier_at l k low known (ends (k + 1) (omega arith))
frontier_from l (suc more) k low ends known =
    go (none_or_some (entry_at l (k + 1)))
    (λ some. frontier_from l more (k + 1) (omega arith) (λ n h. ends n (omega arith)) (known_on l k known some))
  where
    go : (entry_at l (k + 1) ≡ None) ⊎ IsSome (entry_at l (k + 1))
        → (IsSome (entry_at l (k + 1)) → (f : ℕ) × IsFrontier l f) → (f : ℕ) × IsFrontier l f
    go (inl none) on = frontier_at l k low known none
    go (inr some) on = on some

pub frontier_there : (l : Lane) → (f : ℕ) × IsFrontier l f
frontier_there l =
    let last = numbers_end l.entries in
    frontier_from l last.0 l.covered (omega arith) (λ n h. last.1 n (omega arith)) (λ n h. inl h)

-- the frontier of each thread
pub frontier_of : List Lane → ℕ → ℕ
frontier_of held t = (frontier_there (lane held t)).0

pub frontier_is : (held : List Lane) (t : ℕ) → IsFrontier (lane held t) (frontier_of held t)
unfolding frontier_of
frontier_is held t = (frontier_there (lane held t)).1

-- A stamp is within the held set where no component is above the frontier.
pub within_frontiers : (held : List Lane) (stamp : List ℕ) → IsWithin held stamp → (u : ℕ)
    → slice_index stamp u ≤ frontier_of held u
within_frontiers held stamp within u = within u (frontier_of held u) (frontier_is held u)

pub frontiers_within : (held : List Lane) (stamp : List ℕ) → ((u : ℕ) → slice_index stamp u ≤ frontier_of held u)
    → IsWithin held stamp
frontiers_within held stamp low u f is =
    let same : frontier_of held u ≡ f = one_frontier (lane held u) (frontier_of held u) f (frontier_is held u) is in
    let at : slice_index stamp u ≤ frontier_of held u = low u in
    omega arith

-- Known to the lanes

pub known_is_there : (log stored : List Entry) (held : List Lane) (e : Entry) → IsLog log → IsLog stored
    → ((f : Entry) → IsIn f stored → IsIn f log) → HoldsOf log stored held → IsIn e log
    → IsKnown (lane held e.thread) e.number → IsIn e (held_entries held) ⊎ IsIn e stored
known_is_there log stored held e good good_stored kept holds here (inl low) =
    let covered : (lane held e.thread).covered ≡ entries e.thread stored = holds.covered e.thread in
    let within = number_within log e good here in
    let r = entry_there stored e.thread e.number good_stored within.0 (omega arith) in
    inr (subst (λ (f : Entry). IsIn f stored) (same_number log r.0 e good (kept r.0 r.1) here r.2 r.3) r.1)
known_is_there log stored held e good good_stored kept holds here (inr some) =
    let r = some_is (entry_at (lane held e.thread) e.number) some in
    let of = holds.of_log e.thread e.number r.0 r.1 in
    inl (at_held held e e.thread e.number r.0 r.1 (same_number log (plain_entry r.0) e good of.2 here of.0 of.1))

pub there_is_known : (log stored : List Entry) (held : List Lane) (e : Entry) → IsLog stored → HoldsOf log stored held
    → IsIn e (held_entries held) ⊎ IsIn e stored → IsKnown (lane held e.thread) e.number
there_is_known log stored held e good_stored holds (inl h) =
    let r = held_named log stored held e holds h in inr (is_some (entry_at (lane held e.thread) e.number) r.0 r.1)
there_is_known log stored held e good_stored holds (inr h) =
    let covered : (lane held e.thread).covered ≡ entries e.thread stored = holds.covered e.thread in
    let within = number_within stored e good_stored h in
    inl (omega (arith, within))

-- The frontiers of the lanes are those of the log.
pub frontiers_are_defined : (log stored : List Entry) (held : List Lane) → IsLog log → IsLog stored
    → ((e : Entry) → IsIn e stored → IsIn e log) → HoldsOf log stored held
    → IsFrontierOf log stored (held_entries held) (frontier_of held)
frontiers_are_defined log stored held good good_stored kept holds = record {
  below = λ e here low. known_is_there log stored held e good good_stored kept holds here
      ((frontier_is held e.thread).reached e.number low);
  next = λ e here is h. (frontier_is held e.thread).ends
      (subst (λ (n : ℕ). IsKnown (lane held e.thread) n) is (there_is_known log stored held e good_stored holds h));
}
