-- Names in order are entries by weight, then thread.
use Rattle.std.proofs.Common.{◌≡◌, ℕ, ◌<◌, ◌⊎◌, ◌↔◌, List, [], ◌∷◌, Option, Some, None, IsSome, slice_index, refl, sym}
use Rattle.std.proofs.Common.{subst, inl, inr, ⊎_elim, arith}
use Rattle.entry_order.specs.Log.{Entry, IsLog, IsIn}
use Rattle.entry_order.specs.Stamps.{IsWeight}
use Rattle.entry_order.proofs.Order.{thread_by_number}
use Rattle.entry_order.proofs.Weights.{weight_is_sum, weight_falls}
use Rattle.recovery_laws.specs.FromPlainMachine.{GoesBefore, IsByWeight}
use Rattle.recovery_laws.proofs.FromPlainMachine.{weight_one}
use Rattle.access_log.specs.declared.entry.StampedEntry.{StampedEntry}
use Rattle.access_log.specs.Held.{Lane, lane, entry_at}
use Rattle.master_core.specs.Holding.{and_found, held_entries, HoldsOf}
use Rattle.master_core.specs.Stepping.{plain_entry}
use Rattle.master_core.proofs.HeldEntries.{held_at, at_held, and_found_old, and_found_new}
use Rattle.replay_guide.specs.Orders.{weight_of, IsNamed, ComesBefore, IsInOrder}
use Rattle.replay_guide.specs.Worlds.{put_before, entries_named}

module _ (log stored : List Entry) (guide : List Lane) (good : IsLog log)
    (low : (e : Entry) → IsIn e log → e.thread < 16) (holds : HoldsOf log stored guide) where
  has_weight : (t n : ℕ) (s : StampedEntry) → entry_at (lane guide t) n ≡ Some s
      → IsWeight log (plain_entry s) (weight_of s)
  unfolding weight_of
  has_weight t n s here =
      let of = holds.of_log t n s here in
      weight_is_sum log 16 (plain_entry s) (λ u. slice_index s.stamp u) good low of.3

  goes_before : (t n u m : ℕ) (a b : StampedEntry) → entry_at (lane guide t) n ≡ Some a
      → entry_at (lane guide u) m ≡ Some b → ComesBefore guide t n u m → GoesBefore log (plain_entry a) (plain_entry b)
  goes_before t n u m a b at_a at_b before k j weight_k weight_j =
      let of_a = holds.of_log t n a at_a in
      let of_b = holds.of_log u m b at_b in
      let is_k : k ≡ weight_of a = weight_one log (plain_entry a) k (weight_of a) weight_k (has_weight t n a at_a) in
      let is_j : j ≡ weight_of b = weight_one log (plain_entry b) j (weight_of b) weight_j (has_weight u m b at_b) in
      go is_k is_j of_a.0 of_a.1 of_b.0 of_b.1 of_a.2 of_b.2 (before a b at_a at_b)
    where
      go : k ≡ weight_of a → j ≡ weight_of b → a.thread ≡ t → a.number ≡ n → b.thread ≡ u → b.number ≡ m
          → IsIn (plain_entry a) log → IsIn (plain_entry b) log
          → (weight_of a < weight_of b) ⊎ ((weight_of a ≡ weight_of b) × ((t < u) ⊎ ((t ≡ u) × (n < m))))
          → (k < j) ⊎ ((k ≡ j) × (a.thread < b.thread))
      go is_k is_j ta na tb nb in_a in_b (inl less) = inl (omega arith)
      go is_k is_j ta na tb nb in_a in_b (inr (same, inl thread)) = inr (omega arith, omega arith)
      go is_k is_j ta na tb nb in_a in_b (inr (same, inr (thread, number))) =
          let one : a.thread ≡ b.thread = omega arith in
          let less : a.number < b.number = omega arith in
          inl (weight_falls log (plain_entry a) (plain_entry b) k j good in_b
          (thread_by_number log (plain_entry a) (plain_entry b) good in_a in_b one less) weight_k weight_j)

  -- all of the older ones go before the named ones
  abbrev AllBefore : List Entry → List (ℕ × ℕ) → Type 0
  AllBefore older names =
      (f : Entry) → IsIn f older → (u m : ℕ) (b : StampedEntry) → IsNamed u m names → entry_at (lane guide u) m ≡ Some b
      → GoesBefore log f (plain_entry b)

  one_more : (x : ℕ × ℕ) (names : List (ℕ × ℕ)) (older : List Entry) (o : Option StampedEntry)
      → entry_at (lane guide x.0) x.1 ≡ o → IsInOrder guide (x ∷ names) → AllBefore older (x ∷ names)
      → IsByWeight log older → IsByWeight log (and_found o older) × AllBefore (and_found o older) names
  one_more x names older None here order before by = (by, λ f h u m b named. before f h u m b (inr named))
  one_more x names older (Some s) here order before by = (
    ((λ f h. before f h x.0 x.1 s (inl (refl, refl)) here), by),
    (λ f h u m b named at_b. ⊎_elim
        (λ (same : plain_entry s ≡ f). subst (λ (g : Entry). GoesBefore log g (plain_entry b)) same
        (goes_before x.0 x.1 u m s b here at_b (order.0 u m named))) (λ k. before f k u m b (inr named) at_b) h),
  )

  all_by_weight : (names : List (ℕ × ℕ)) (older : List Entry) → IsInOrder guide names → AllBefore older names
      → IsByWeight log older → IsByWeight log (put_before guide names older)
  all_by_weight [] older order before by = by
  all_by_weight (x ∷ names) older order before by =
      let more = one_more x names older (entry_at (lane guide x.0) x.1) refl order before by in
      all_by_weight names (and_found (entry_at (lane guide x.0) x.1) older) order.1 more.1 more.0

  pub names_by_weight : (names : List (ℕ × ℕ)) → IsInOrder guide names → IsByWeight log (entries_named guide names)
  names_by_weight names order = all_by_weight names [] order (λ f h. absurd h) tt

-- the entries that are named

abbrev IsEntryOf : List Lane → List (ℕ × ℕ) → Entry → Type 0
IsEntryOf guide names e =
    (t n : ℕ) × (s : StampedEntry) × IsNamed t n names × (entry_at (lane guide t) n ≡ Some s) × (plain_entry s ≡ e)

found_one : (o : Option StampedEntry) (older : List Entry) (e : Entry) → IsIn e (and_found o older)
    → IsIn e older ⊎ ((s : StampedEntry) × (o ≡ Some s) × (plain_entry s ≡ e))
found_one None older e h = inl h
found_one (Some s) older e (inl same) = inr (s, refl, same)
found_one (Some s) older e (inr h) = inl h

put_from : (guide : List Lane) (names : List (ℕ × ℕ)) (older : List Entry) (e : Entry)
    → IsIn e (put_before guide names older) → IsIn e older ⊎ IsEntryOf guide names e
put_from guide [] older e h = inl h
put_from guide (x ∷ names) older e h = go (put_from guide names (and_found (entry_at (lane guide x.0) x.1) older) e h)
  where
    here : IsIn e older ⊎ ((s : StampedEntry) × (entry_at (lane guide x.0) x.1 ≡ Some s) × (plain_entry s ≡ e))
        → IsIn e older ⊎ IsEntryOf guide (x ∷ names) e
    here (inl k) = inl k
    here (inr (s, at, same)) = inr (x.0, x.1, s, inl (refl, refl), at, same)

    go : IsIn e (and_found (entry_at (lane guide x.0) x.1) older) ⊎ IsEntryOf guide names e
        → IsIn e older ⊎ IsEntryOf guide (x ∷ names) e
    go (inl k) = here (found_one (entry_at (lane guide x.0) x.1) older e k)
    go (inr (t, n, s, named, at, same)) = inr (t, n, s, inr named, at, same)

put_to : (guide : List Lane) (names : List (ℕ × ℕ)) (older : List Entry) (e : Entry)
    → IsIn e older ⊎ IsEntryOf guide names e → IsIn e (put_before guide names older)
put_to guide [] older e (inl h) = h
put_to guide [] older e (inr (t, n, s, named, at, same)) = absurd named
put_to guide (x ∷ names) older e (inl h) = put_to guide names (and_found (entry_at (lane guide x.0) x.1) older) e
    (inl (and_found_old (entry_at (lane guide x.0) x.1) older e h))
put_to guide (x ∷ names) older e (inr (t, n, s, inl (thread, number), at, same)) =
    let there : entry_at (lane guide x.0) x.1 ≡ Some s = subst (λ (u : ℕ). entry_at (lane guide u) x.1 ≡ Some s)
    (sym thread) (subst (λ (m : ℕ). entry_at (lane guide t) m ≡ Some s) (sym number) at) in
    put_to guide names (and_found (entry_at (lane guide x.0) x.1) older) e
    (inl (and_found_new (entry_at (lane guide x.0) x.1) older e s there same))
put_to guide (x ∷ names) older e (inr (t, n, s, inr named, at, same)) =
    put_to guide names (and_found (entry_at (lane guide x.0) x.1) older) e (inr (t, n, s, named, at, same))

pub all_named : (guide : List Lane) (names : List (ℕ × ℕ)) (e : Entry)
    → ((t n : ℕ) → IsNamed t n names ↔ IsSome (entry_at (lane guide t) n))
    → IsIn e (entries_named guide names) ↔ IsIn e (held_entries guide)
all_named guide names e each = (
  λ h. to (put_from guide names [] e h),
  λ h.
      let r = held_at guide e h in
      put_to guide names [] e
      (inr (r.0, r.1, r.2, (each r.0 r.1).1 (subst (λ (o : Option StampedEntry). IsSome o) (sym r.3) refl), r.3, r.4)),
)
  where
    to : IsIn e [] ⊎ IsEntryOf guide names e → IsIn e (held_entries guide)
    to (inl h) = absurd h
    to (inr (t, n, s, named, at, same)) = at_held guide e t n s at same
