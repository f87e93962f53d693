-- The held entries are those that are looked up.
use Rattle.std.proofs.Common.{◌≡◌, ℕ, zero, suc, ◌≢◌, cond, List, [], ◌∷◌, Option, Some, None, refl, sym, ap, ◌∙◌}
use Rattle.std.proofs.Common.{subst, inl, inr, ◌⊎◌}
use Rattle.std.specs.Map.{lookup}
use Rattle.std.specs.BTreeMap.{is_at}
use Rattle.std.specs.Ordering.{nat_cmp}
use Rattle.entry_order.specs.Log.{Entry, IsIn}
use Rattle.entry_order.proofs.Order.{is_or}
use Rattle.entry_order.proofs.KeptEntries.{in_left, in_right, in_either}
use Rattle.access_log.specs.declared.entry.StampedEntry.{StampedEntry}
use Rattle.access_log.specs.Held.{Lane, lane, fresh_lane, entry_at}
use Rattle.access_log.proofs.SlotLemmas.{is_at-apart}
use Rattle.master_core.specs.Holding.{and_found, found, held_entries, HoldsOf}
use Rattle.master_core.specs.Stepping.{plain_entry}

-- Found in one lane

and_found_in : (o : Option StampedEntry) (rest : List Entry) (e : Entry) → IsIn e (and_found o rest)
    → ((s : StampedEntry) × (o ≡ Some s) × (plain_entry s ≡ e)) ⊎ IsIn e rest
and_found_in None rest e h = inr h
and_found_in (Some s) rest e (inl p) = inl (s, refl, p)
and_found_in (Some s) rest e (inr h) = inr h

pub and_found_old : (o : Option StampedEntry) (rest : List Entry) (e : Entry) → IsIn e rest → IsIn e (and_found o rest)
and_found_old None rest e h = h
and_found_old (Some s) rest e h = inr h

pub and_found_new : (o : Option StampedEntry) (rest : List Entry) (e : Entry) (s : StampedEntry) → o ≡ Some s
    → plain_entry s ≡ e → IsIn e (and_found o rest)
and_found_new None rest e s q p = absurd (cc)
and_found_new (Some x) rest e s q p = inl (let same : x ≡ s = cc in ap plain_entry same ∙ p)

found_at : (l : Lane) (xs : List (ℕ × StampedEntry)) (e : Entry) → IsIn e (found l xs)
    → (n : ℕ) × (s : StampedEntry) × (entry_at l n ≡ Some s) × (plain_entry s ≡ e)
found_at l [] e h = absurd h
found_at l (x ∷ xs) e h = go (and_found_in (entry_at l x.0) (found l xs) e h) (found_at l xs e)
  where
    go : ((s : StampedEntry) × (entry_at l x.0 ≡ Some s) × (plain_entry s ≡ e)) ⊎ IsIn e (found l xs)
        → (IsIn e (found l xs) → (n : ℕ) × (s : StampedEntry) × (entry_at l n ≡ Some s) × (plain_entry s ≡ e))
        → (n : ℕ) × (s : StampedEntry) × (entry_at l n ≡ Some s) × (plain_entry s ≡ e)
    go (inl (s, q, p)) rest = (x.0, s, q, p)
    go (inr k) rest = rest k

at_found : (l : Lane) (xs : List (ℕ × StampedEntry)) (e : Entry) (n : ℕ) (o s : StampedEntry)
    → lookup (is_at (nat_cmp n)) xs ≡ Some o → entry_at l n ≡ Some s → plain_entry s ≡ e → IsIn e (found l xs)
at_found l [] e n o s there q p = absurd (cc)
at_found l (x ∷ xs) e n o s there q p = go (is_or n x.0) (λ found_later. at_found l xs e n o s found_later q p)
  where
    go : (n ≡ x.0) ⊎ (n ≢ x.0) → (lookup (is_at (nat_cmp n)) xs ≡ Some o → IsIn e (found l xs))
        → IsIn e (found l (x ∷ xs))
    go (inl same) rest = and_found_new (entry_at l x.0) (found l xs) e s (ap (λ (k : ℕ). entry_at l k) (sym same) ∙ q) p
    go (inr apart) rest =
        let past : cond (is_at (nat_cmp n) x.0) (Some x.1) (lookup (is_at (nat_cmp n)) xs)
        ≡ lookup (is_at (nat_cmp n)) xs =
        ap (λ b. cond b (Some x.1) (lookup (is_at (nat_cmp n)) xs)) (is_at-apart n x.0 apart) in
        and_found_old (entry_at l x.0) (found l xs) e (rest (sym past ∙ there))

-- Found in the lanes

none_in_fresh : (n : ℕ) (s : StampedEntry) → entry_at fresh_lane n ≡ Some s → ⊥
none_in_fresh n s q = cc

pub held_at : (held : List Lane) (e : Entry) → IsIn e (held_entries held)
    → (t n : ℕ) × (s : StampedEntry) × (entry_at (lane held t) n ≡ Some s) × (plain_entry s ≡ e)
held_at [] e h = absurd h
held_at (l ∷ held) e h = go (in_either e (found l l.entries) (held_entries held) h) (held_at held e)
  where
    go : IsIn e (found l l.entries) ⊎ IsIn e (held_entries held)
        → (IsIn e (held_entries held)
        → (t n : ℕ) × (s : StampedEntry) × (entry_at (lane held t) n ≡ Some s) × (plain_entry s ≡ e))
        → (t n : ℕ) × (s : StampedEntry) × (entry_at (lane (l ∷ held) t) n ≡ Some s) × (plain_entry s ≡ e)
    go (inl k) older = let r = found_at l l.entries e k in (zero, r.0, r.1, r.2, r.3)
    go (inr k) older = let r = older k in (suc r.0, r.1, r.2, r.3, r.4)

pub at_held : (held : List Lane) (e : Entry) (t n : ℕ) (s : StampedEntry) → entry_at (lane held t) n ≡ Some s
    → plain_entry s ≡ e → IsIn e (held_entries held)
at_held [] e t n s q p = absurd (none_in_fresh n s q)
at_held (l ∷ held) e zero n s q p =
    in_left e (found l l.entries) (held_entries held) (at_found l l.entries e n s s q q p)
at_held (l ∷ held) e (suc t) n s q p = in_right e (found l l.entries) (held_entries held) (at_held held e t n s q p)

-- a held entry is in the lane of its thread, under its number
pub held_named : (log stored : List Entry) (held : List Lane) (e : Entry) → HoldsOf log stored held
    → IsIn e (held_entries held)
    → (s : StampedEntry) × (entry_at (lane held e.thread) e.number ≡ Some s) × (plain_entry s ≡ e)
held_named log stored held e holds h = go (held_at held e h)
  where
    go : ((t n : ℕ) × (s : StampedEntry) × (entry_at (lane held t) n ≡ Some s) × (plain_entry s ≡ e))
        → (s : StampedEntry) × (entry_at (lane held e.thread) e.number ≡ Some s) × (plain_entry s ≡ e)
    go (t, n, s, q, p) =
        let of = holds.of_log t n s q in
        let thread : e.thread ≡ t = ap (λ (f : Entry). f.thread) (sym p) ∙ of.0 in
        let number : e.number ≡ n = ap (λ (f : Entry). f.number) (sym p) ∙ of.1 in
        (s, rw (thread, number) q, p)

-- and it is in the log
pub held_in_log : (log stored : List Entry) (held : List Lane) (e : Entry) → HoldsOf log stored held
    → IsIn e (held_entries held) → IsIn e log
held_in_log log stored held e holds h =
    let r = held_named log stored held e holds h in
    subst (λ (f : Entry). IsIn f log) r.2 (holds.of_log e.thread e.number r.0 r.1).2
