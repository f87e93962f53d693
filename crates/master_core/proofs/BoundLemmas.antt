-- The counts of a master stay within 64 bits after a move.
use Rattle.std.proofs.Common.{◌≡◌, ℕ, ◌+◌, ◌*◌, ◌^◌, ◌<◌, ◌≤◌, ◌≢◌, suc, List, [], ◌∷◌, length, length-set, refl, sym}
use Rattle.std.proofs.Common.{ap, ◌∙◌, subst, inl, inr, ◌⊎◌, arith, Some}
use Rattle.std.specs.Prelude.{sum_by, slice_index_or, slice_set}
use Rattle.std.proofs.lemmas.List.{get_or-set_same, get_or-set_other, get_or_default}
use Rattle.std.proofs.lemmas.List.Sums.{sum_by-set, sum_by-cons}
use Rattle.entry_order.proofs.Order.{is_or}
use Rattle.plain_machine.specs.declared.local.Local.{Local}
use Rattle.master_core.specs.declared.parts.VarPart.{VarPart}
use Rattle.master_core.specs.declared.parts.ThreadPart.{ThreadPart}
use Rattle.master_core.specs.Mastered.{IsBounded, in_hand_count, moves_made}
use Rattle.master_core.specs.Effects.{after_entry, after_emit}

-- no variable has more than this number of places more
abbrev pub AddsPlaces : {V : Type 0} → List (VarPart V) → List (VarPart V) → ℕ → Type 0
AddsPlaces {V} vars new more =
    (v : ℕ) (x : VarPart V) → v < length vars
    → (slice_index_or new v x).places ≤ (slice_index_or vars v x).places + more

pub adds_set : {V : Type 0} (vars : List (VarPart V)) (v more : ℕ) (x y : VarPart V) → v < length vars
    → x ≡ slice_index_or vars v x → y.places ≤ x.places + more → AddsPlaces vars (slice_set vars v y) more
adds_set {V} vars v more x y below x_is high = λ w z low. go w z low (is_or v w)
  where
    go : (w : ℕ) (z : VarPart V) → w < length vars → (v ≡ w) ⊎ (v ≢ w)
        → (slice_index_or (slice_set vars v y) w z).places ≤ (slice_index_or vars w z).places + more
    go w z low (inl same) =
        let a : slice_index_or (slice_set vars v y) v z ≡ y = get_or-set_same vars v y z below in
        let b : slice_index_or vars v z ≡ slice_index_or vars v x = get_or_default vars v z x below in
        subst (λ (n : ℕ). (slice_index_or (slice_set vars v y) n z).places ≤ (slice_index_or vars n z).places + more)
        same
        (let c : (slice_index_or (slice_set vars v y) v z).places ≡ y.places = ap (λ (p : VarPart V). p.places) a in
        let d : (slice_index_or vars v z).places ≡ x.places = ap (λ (p : VarPart V). p.places) (b ∙ sym x_is) in
        omega arith)
    go w z low (inr apart) =
        let a : slice_index_or (slice_set vars v y) w z ≡ slice_index_or vars w z =
        get_or-set_other vars v w y z (λ q. apart (sym q)) in
        let c : (slice_index_or (slice_set vars v y) w z).places ≡ (slice_index_or vars w z).places =
        ap (λ (p : VarPart V). p.places) a in
        omega arith

pub bounded_on : {V : Type 0} (vars new : List (VarPart V)) (threads : List ThreadPart) (t more : ℕ)
    (old part : ThreadPart) → IsBounded vars threads → t < length threads → old ≡ slice_index_or threads t old
    → part.counts.entries ≡ old.counts.entries + more → moves_made part ≤ 2 ^ 56
    → in_hand_count part.hand ≤ part.counts.taken → length new ≡ length vars → AddsPlaces vars new more
    → IsBounded new (slice_set threads t part)
bounded_on {V} vars new threads t more old part bound below old_is entries made taken len adds = record {
  few =
      let n : length (slice_set threads t part) ≡ length threads = length-set threads t part in
      let k : length threads ≤ 16 = bound.few in omega arith;
  made = λ u d low. each (λ (p : ThreadPart). moves_made p ≤ 2 ^ 56) made bound.made u d (shorter low) (is_or t u);
  taken = λ u d low.
      each (λ (p : ThreadPart). in_hand_count p.hand ≤ p.counts.taken) taken bound.taken u d (shorter low) (is_or t u);
  places = λ v x low.
      let k : (slice_index_or new v x).places ≤ (slice_index_or vars v x).places + more =
      adds v x (omega (arith, len)) in
      let n : (slice_index_or vars v x).places ≤ sum_by (λ p. p.counts.entries) threads =
      bound.places v x (omega (arith, len)) in
      let sums : sum_by (λ p. p.counts.entries) (slice_set threads t part)
      + (slice_index_or threads t old).counts.entries
      ≡ sum_by (λ p. p.counts.entries) threads + part.counts.entries =
      sum_by-set (λ p. p.counts.entries) threads t part old below in
      let same : (slice_index_or threads t old).counts.entries ≡ old.counts.entries =
      ap (λ (p : ThreadPart). p.counts.entries) (sym old_is) in
      omega arith;
}
  where
    shorter : {u : ℕ} → u < length (slice_set threads t part) → u < length threads
    shorter {u} low =
        let n : length (slice_set threads t part) ≡ length threads = length-set threads t part in omega arith

    each : (P : ThreadPart → Type 0) → P part
        → ((u : ℕ) (d : ThreadPart) → u < length threads → P (slice_index_or threads u d)) → (u : ℕ) (d : ThreadPart)
        → u < length threads → (t ≡ u) ⊎ (t ≢ u) → P (slice_index_or (slice_set threads t part) u d)
    each P new all u d low (inl same) = subst (λ (n : ℕ). P (slice_index_or (slice_set threads t part) n d)) same
        (subst P (sym (get_or-set_same threads t part d below)) new)
    each P new all u d low (inr apart) =
        subst P (sym (get_or-set_other threads t u part d (λ q. apart (sym q)))) (all u d low)

-- the master after an entry
pub entry_bounded : {V : Type 0} (vars new : List (VarPart V)) (threads : List ThreadPart) (t : ℕ)
    (old part : ThreadPart) (place place' : Local) (stamp : List ℕ) → IsBounded vars threads → t < length threads
    → old ≡ slice_index_or threads t old → ((d : ThreadPart) → moves_made (slice_index_or threads t d) < 2 ^ 56)
    → ((d : ThreadPart) → (slice_index_or threads t d).hand ≡ Some place) → part ≡ after_entry old place' stamp
    → length new ≡ length vars → AddsPlaces vars new 1 → IsBounded new (slice_set threads t part)
entry_bounded {V} vars new threads t old part place place' stamp bound below old_is room hand part_is len adds =
    subst (λ (p : ThreadPart). IsBounded new (slice_set threads t p)) (sym part_is)
    (bounded_on vars new threads t 1 old (after_entry old place' stamp) bound below old_is refl
    (let k : moves_made old < 2 ^ 56 = subst (λ (p : ThreadPart). moves_made p < 2 ^ 56) (sym old_is) (room old) in
    omega (arith, one))
    (let k : in_hand_count old.hand ≤ old.counts.taken =
    subst (λ (p : ThreadPart). in_hand_count p.hand ≤ p.counts.taken) (sym old_is) (bound.taken t old below) in
    omega (arith, one)) len adds)
  where
    one : in_hand_count old.hand ≡ 1
    one = ap in_hand_count (ap (λ (p : ThreadPart). p.hand) old_is ∙ hand old)

-- and after an emission
pub emit_bounded : {V : Type 0} (vars : List (VarPart V)) (threads : List ThreadPart) (t : ℕ) (old : ThreadPart)
    (place place' : Local) → IsBounded vars threads → t < length threads → old ≡ slice_index_or threads t old
    → ((d : ThreadPart) → moves_made (slice_index_or threads t d) < 2 ^ 56)
    → ((d : ThreadPart) → (slice_index_or threads t d).hand ≡ Some place)
    → IsBounded vars (slice_set threads t (after_emit old place'))
emit_bounded {V} vars threads t old place place' bound below old_is room hand =
    bounded_on vars vars threads t 0 old (after_emit old place') bound below old_is (omega arith)
    (let k : moves_made old < 2 ^ 56 = subst (λ (p : ThreadPart). moves_made p < 2 ^ 56) (sym old_is) (room old) in
    omega (arith, one))
    (let k : in_hand_count old.hand ≤ old.counts.taken =
    subst (λ (p : ThreadPart). in_hand_count p.hand ≤ p.counts.taken) (sym old_is) (bound.taken t old below) in
    omega (arith, one)) refl (λ v x low. omega arith)
  where
    one : in_hand_count old.hand ≡ 1
    one = ap in_hand_count (ap (λ (p : ThreadPart). p.hand) old_is ∙ hand old)

-- 16 threads of at most 2^56 entries make fewer than 2^64
pub sum_small : (threads : List ThreadPart)
    → ((t : ℕ) (d : ThreadPart) → t < length threads → moves_made (slice_index_or threads t d) ≤ 2 ^ 56)
    → sum_by (λ p. p.counts.entries) threads ≤ length threads * 2 ^ 56
sum_small [] each = omega arith
sum_small (p ∷ threads) each =
    let k : sum_by (λ q. q.counts.entries) threads ≤ length threads * 2 ^ 56 =
    sum_small threads (λ t d low. each (suc t) d (omega arith)) in
    let n : moves_made p ≤ 2 ^ 56 = each 0 p (omega arith) in
    let c : sum_by (λ q. q.counts.entries) (p ∷ threads) ≡ p.counts.entries + sum_by (λ q. q.counts.entries) threads =
    sum_by-cons (λ q. q.counts.entries) p threads in
    omega arith

-- so a variable has room for one place more
pub place_fits : {V : Type 0} (vars : List (VarPart V)) (threads : List ThreadPart) (v : ℕ) (x : VarPart V)
    → IsBounded vars threads → v < length vars → x ≡ slice_index_or vars v x → x.places + 1 < 2 ^ 64
place_fits {V} vars threads v x bound below x_is =
    let k : x.places ≤ sum_by (λ p. p.counts.entries) threads =
    subst (λ (y : VarPart V). y.places ≤ sum_by (λ p. p.counts.entries) threads) (sym x_is) (bound.places v x below) in
    let s : sum_by (λ p. p.counts.entries) threads ≤ length threads * 2 ^ 56 = sum_small threads bound.made in
    let f : length threads ≤ 16 = bound.few in
    omega arith
