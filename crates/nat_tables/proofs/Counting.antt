-- How the operations of the tables change the sums over them.
use Rattle.std.proofs.Common.{◌≡◌, ℕ, zero, suc, ◌+◌, ◌%◌, ◌<◌, ◌≤◌, Bool, true, false, List, [], ◌∷◌, ◌++◌, length}
use Rattle.std.proofs.Common.{refl, sym, subst, take, drop, arith, Some}
use Rattle.std.specs.Prelude.{◌&&◌, ◌==◌, nat_lt, slice_index, if◌then◌else◌}
use Rattle.std.specs.List.{remove}
use Rattle.std.proofs.lemmas.Bool.{eqb-true}
use Rattle.std.proofs.lemmas.Bool.Decides.{nat_tests}
use Rattle.nat_tables.specs.declared.entries.Endpoint.{Endpoint}
use Rattle.nat_tables.specs.declared.entries.PortKey.{PortKey}
use Rattle.nat_tables.specs.declared.slot.Slot.{Slot}
use Rattle.nat_tables.specs.declared.phase.Segment.{Segment}
use Rattle.nat_tables.specs.Ports.{chosen, with_port, one_if, count_port}
use Rattle.nat_tables.specs.Keys.{same_endpoint, same_port}
use Rattle.nat_tables.specs.Forwards.{Forwards, is_idle, slot_of, refresh, mark, without, first_idle, without_idle}
use Rattle.nat_tables.specs.Forwards.{total}
use Rattle.nat_tables.specs.Reverses.{Reverses, bind, unbind, total_bound}

and_left : (a b : Bool) → (a && b) ≡ true → a ≡ true
and_left true b e = refl
and_left false b e = absurd (cc)

and_right : (a b : Bool) → (a && b) ≡ true → b ≡ true
and_right true b e = e
and_right false b e = absurd (cc)

pub same_is : (a b : Endpoint) → same_endpoint a b ≡ true → a ≡ b
same_is a b e =
    let two = and_left _ _ e in
    let p : a.protocol ≡ b.protocol = eqb-true _ _ (and_left _ _ two) in
    let q : a.address ≡ b.address = eqb-true _ _ (and_right _ _ two) in
    let r : a.port ≡ b.port = eqb-true _ _ (and_right _ _ e) in
    λ i. record { protocol = p i; address = q i; port = r i }

pub port_is : (a b : PortKey) → same_port a b ≡ true → a ≡ b
port_is a b e =
    let p : a.protocol ≡ b.protocol = eqb-true _ _ (and_left _ _ e) in
    let q : a.port ≡ b.port = eqb-true _ _ (and_right _ _ e) in
    λ i. record { protocol = p i; port = q i }

-- Forward tables

pub total_refresh : (w : Endpoint → ℕ → ℕ) (key : Endpoint) (now : ℕ) (es : Forwards)
    → total w (refresh key now es) ≡ total w es
total_refresh w key now [] = refl
total_refresh w key now (e ∷ es) = by (same_endpoint key e.0) refl (total_refresh w key now es)
  where
    by : (b : Bool) → same_endpoint key e.0 ≡ b → total w (refresh key now es) ≡ total w es
        → total w (refresh key now (e ∷ es)) ≡ total w (e ∷ es)
    by true q behind = rw q refl
    by false q behind = rw q (omega arith)

pub total_marked : (w : Endpoint → ℕ → ℕ) (key : Endpoint) (seconds : ℕ) (segment : Segment) (es : Forwards)
    → total w (mark key seconds segment es) ≡ total w es
total_marked w key seconds segment [] = refl
total_marked w key seconds segment (e ∷ es) = by (same_endpoint key e.0) refl (total_marked w key seconds segment es)
  where
    by : (b : Bool) → same_endpoint key e.0 ≡ b → total w (mark key seconds segment es) ≡ total w es
        → total w (mark key seconds segment (e ∷ es)) ≡ total w (e ∷ es)
    by true q behind = rw q refl
    by false q behind = rw q (omega arith)

pub total_without : (w : Endpoint → ℕ → ℕ) (key : Endpoint) (slot : Slot) (es : Forwards) → slot_of key es ≡ Some slot
    → total w (without key es) + w key slot.port ≡ total w es
total_without w key slot [] is = absurd (cc)
total_without w key slot (e ∷ es) is = by (same_endpoint key e.0) refl is (total_without w key slot es)
  where
    by : (b : Bool) → same_endpoint key e.0 ≡ b → (if b then Some e.1 else slot_of key es) ≡ Some slot
        → (slot_of key es ≡ Some slot → total w (without key es) + w key slot.port ≡ total w es)
        → total w (without key (e ∷ es)) + w key slot.port ≡ total w (e ∷ es)
    by true q is behind =
        let k : key ≡ e.0 = same_is key e.0 q in
        let s : e.1 ≡ slot = cc in
        let a : w e.0 e.1.port ≡ w key slot.port = rw (sym k, s) refl in
        rw q (omega arith)
    by false q is behind = let a = behind is in rw q (omega arith)

pub total_without_idle : (w : Endpoint → ℕ → ℕ) (now : ℕ) (idle : Endpoint × Slot) (es : Forwards)
    → first_idle now es ≡ Some idle → total w (without_idle now es) + w idle.0 idle.1.port ≡ total w es
total_without_idle w now idle [] is = absurd (cc)
total_without_idle w now idle (e ∷ es) is = by (is_idle now e) refl is (total_without_idle w now idle es)
  where
    by : (b : Bool) → is_idle now e ≡ b → (if b then Some e else first_idle now es) ≡ Some idle
        → (first_idle now es ≡ Some idle → total w (without_idle now es) + w idle.0 idle.1.port ≡ total w es)
        → total w (without_idle now (e ∷ es)) + w idle.0 idle.1.port ≡ total w (e ∷ es)
    by true q is behind =
        let s : e ≡ idle = cc in
        let a : w e.0 e.1.port ≡ w idle.0 idle.1.port = rw s refl in
        rw q (omega arith)
    by false q is behind = let a = behind is in rw q (omega arith)

pub total_append : (w : Endpoint → ℕ → ℕ) (key : Endpoint) (slot : Slot) (es : Forwards)
    → total w (es ++ (key, slot) ∷ []) ≡ total w es + w key slot.port
total_append w key slot [] = omega arith
total_append w key slot (e ∷ es) = let a = total_append w key slot es in omega arith

pub total_below : (w v : Endpoint → ℕ → ℕ) (es : Forwards) → ((key : Endpoint) (port : ℕ) → w key port ≤ v key port)
    → total w es ≤ total v es
total_below w v [] low = omega arith
total_below w v (e ∷ es) low = let a = total_below w v es low in let b = low e.0 e.1.port in omega arith

-- Reverse tables

-- a bind of a port that none of these numbers counts yet
pub total_bind : (w : PortKey → Endpoint → ℕ) (port : PortKey) (key : Endpoint) (bs : Reverses)
    → total_bound (λ k _. one_if (same_port port k)) bs ≡ 0
    → total_bound w (bind port key bs) ≡ total_bound w bs + w port key
total_bind w port key [] none = omega arith
total_bind w port key (b ∷ bs) none = by (same_port port b.0) refl (total_bind w port key bs)
  where
    by : (t : Bool) → same_port port b.0 ≡ t
        → (total_bound (λ k _. one_if (same_port port k)) bs ≡ 0
        → total_bound w (bind port key bs) ≡ total_bound w bs + w port key)
        → total_bound w (bind port key (b ∷ bs)) ≡ total_bound w (b ∷ bs) + w port key
    by true q behind =
        let a : one_if (same_port port b.0) + total_bound (λ k _. one_if (same_port port k)) bs ≡ 0 = none in
        let c : one_if (same_port port b.0) ≡ 1 = rw q refl in absurd (omega arith)
    by false q behind =
        let a : one_if (same_port port b.0) + total_bound (λ k _. one_if (same_port port k)) bs ≡ 0 = none in
        let c = behind (omega arith) in rw q (omega arith)

-- a bind and an unbind change no number that does not look at their port
pub total_bind_other : (w : PortKey → Endpoint → ℕ) (port : PortKey) (key : Endpoint) (bs : Reverses)
    → ((e : Endpoint) → w port e ≡ 0) → total_bound w (bind port key bs) ≡ total_bound w bs
total_bind_other w port key [] none = let a = none key in omega arith
total_bind_other w port key (b ∷ bs) none = by (same_port port b.0) refl (total_bind_other w port key bs none)
  where
    by : (t : Bool) → same_port port b.0 ≡ t → total_bound w (bind port key bs) ≡ total_bound w bs
        → total_bound w (bind port key (b ∷ bs)) ≡ total_bound w (b ∷ bs)
    by true q behind =
        let k : port ≡ b.0 = port_is port b.0 q in
        let a : w b.0 key ≡ 0 = rw (sym k) (none key) in
        let c : w b.0 b.1 ≡ 0 = rw (sym k) (none b.1) in
        rw q (omega arith)
    by false q behind = rw q (omega arith)

pub total_unbind_other : (w : PortKey → Endpoint → ℕ) (port : PortKey) (bs : Reverses) → ((e : Endpoint) → w port e ≡ 0)
    → total_bound w (unbind port bs) ≡ total_bound w bs
total_unbind_other w port [] none = refl
total_unbind_other w port (b ∷ bs) none = by (same_port port b.0) refl (total_unbind_other w port bs none)
  where
    by : (t : Bool) → same_port port b.0 ≡ t → total_bound w (unbind port bs) ≡ total_bound w bs
        → total_bound w (unbind port (b ∷ bs)) ≡ total_bound w (b ∷ bs)
    by true q behind =
        let k : port ≡ b.0 = port_is port b.0 q in
        let c : w b.0 b.1 ≡ 0 = rw (sym k) (none b.1) in
        rw q (omega arith)
    by false q behind = rw q (omega arith)

-- a port that is bound is bound once less
pub total_unbind : (port : PortKey) (bs : Reverses) → 1 ≤ total_bound (λ k _. one_if (same_port port k)) bs
    → total_bound (λ k _. one_if (same_port port k)) (unbind port bs) + 1
    ≡ total_bound (λ k _. one_if (same_port port k)) bs
total_unbind port [] some = absurd (omega arith)
total_unbind port (b ∷ bs) some = by (same_port port b.0) refl (total_unbind port bs)
  where
    by : (t : Bool) → same_port port b.0 ≡ t
        → (1 ≤ total_bound (λ k _. one_if (same_port port k)) bs
        → total_bound (λ k _. one_if (same_port port k)) (unbind port bs) + 1
        ≡ total_bound (λ k _. one_if (same_port port k)) bs)
        → total_bound (λ k _. one_if (same_port port k)) (unbind port (b ∷ bs)) + 1
        ≡ total_bound (λ k _. one_if (same_port port k)) (b ∷ bs)
    by true q behind = rw q (omega arith)
    by false q behind =
        let a : 1 ≤ one_if (same_port port b.0) + total_bound (λ k _. one_if (same_port port k)) bs = some in
        let c : one_if (same_port port b.0) ≡ 0 = rw q refl in
        let d = behind (omega arith) in rw q (omega arith)

-- The pool

pub count_removed : (k i : ℕ) (ps : List ℕ) → i < length ps
    → count_port k (take i ps ++ drop (suc i) ps) + one_if (slice_index ps i == k) ≡ count_port k ps
count_removed k i [] low = absurd (omega arith)
count_removed k zero (p ∷ ps) low = omega arith
count_removed k (suc i) (p ∷ ps) low = let a = count_removed k i ps (omega arith) in omega arith

pub count_chosen : (k draw : ℕ) (ps : List ℕ) (c : ℕ × List ℕ) → chosen draw ps ≡ Some c
    → count_port k c.1 + one_if (c.0 == k) ≡ count_port k ps
count_chosen k draw [] c is = absurd (cc)
count_chosen k draw (p ∷ ps) c is =
    let at : ℕ = draw % length (p ∷ ps) in
    let low : at < length (p ∷ ps) = omega arith in
    let same : (slice_index (p ∷ ps) at, remove (p ∷ ps) at) ≡ c = cc in
    let a = count_removed k at (p ∷ ps) low in
    subst (λ (c : ℕ × List ℕ). count_port k c.1 + one_if (c.0 == k) ≡ count_port k (p ∷ ps)) same a

pub count_with : (k p : ℕ) (qs : List ℕ) → count_port p qs ≡ 0
    → count_port k (with_port p qs) ≡ count_port k qs + one_if (p == k)
count_with k p [] none = omega arith
count_with k p (q ∷ qs) none = by (nat_lt p q) refl (count_with k p qs)
  where
    by_same : (b : Bool) → nat_lt p q ≡ false → (p == q) ≡ b
        → (count_port p qs ≡ 0 → count_port k (with_port p qs) ≡ count_port k qs + one_if (p == k))
        → count_port k (with_port p (q ∷ qs)) ≡ count_port k (q ∷ qs) + one_if (p == k)
    by_same true c e behind =
        let a : one_if (q == p) + count_port p qs ≡ 0 = none in
        let d : p ≡ q = eqb-true _ _ e in
        let f : one_if (q == p) ≡ 1 = grind (arith, nat_tests) in absurd (omega arith)
    by_same false c e behind =
        let a : one_if (q == p) + count_port p qs ≡ 0 = none in
        let d = behind (omega arith) in rw (c, e) (omega arith)

    by : (b : Bool) → nat_lt p q ≡ b
        → (count_port p qs ≡ 0 → count_port k (with_port p qs) ≡ count_port k qs + one_if (p == k))
        → count_port k (with_port p (q ∷ qs)) ≡ count_port k (q ∷ qs) + one_if (p == k)
    by true c behind = rw c (omega arith)
    by false c behind = by_same (p == q) c refl behind
