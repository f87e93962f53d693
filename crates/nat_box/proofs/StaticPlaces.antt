-- Where the static ports stand: each in its forward table, from the start and after each move.
use Rattle.std.proofs.Common.{◌≡◌, ◌≢◌, ℕ, zero, suc, ◌+◌, ◌*◌, ◌<◌, ◌≤◌, Bool, true, false, List, [], ◌∷◌, refl}
use Rattle.std.proofs.Common.{sym, ap, ◌∙◌}
use Rattle.std.proofs.Common.{arith, inl, inr, Some}
use Rattle.std.specs.Prelude.{nat_lt, ◌==◌, if◌then◌else◌}
use Rattle.std.proofs.lemmas.Bool.{eqb-true}
use Rattle.std.proofs.lemmas.Bool.Decides.{nat_tests}
use Rattle.entry_order.specs.Stamps.{sum_below}
use Rattle.nat_tables.specs.declared.entries.Endpoint.{Endpoint}
use Rattle.nat_tables.specs.declared.entries.PortKey.{PortKey}
use Rattle.nat_tables.specs.declared.slot.Slot.{Slot}
use Rattle.nat_tables.specs.Ports.{one_if, of_range, has_port}
use Rattle.nat_tables.specs.Keys.{same_port}
use Rattle.nat_tables.specs.Forwards.{Forwards, slot_of, total, HasKept}
use Rattle.nat_tables.specs.Reverses.{total_bound}
use Rattle.nat_tables.proofs.Counting.{port_is, total_without}
use Rattle.nat_tables.proofs.Pooling.{free_without}
use Rattle.flow_boxes.proofs.Summing.{one_changes, sum_of_none, term_of_sum, one_term}
use Rattle.nat_box.specs.declared.settings.StaticPort.{StaticPort}
use Rattle.nat_box.specs.declared.value.NatValue.{NatValue}
use Rattle.nat_box.specs.declared.value.NatValue.TheVariants.{Dropped, Free, Mapped, Taken}
use Rattle.nat_box.specs.Statics.{inside_of, outside_of, kept, outside_ports, IsStatic}
use Rattle.nat_box.specs.StaticLaws.{IsApart, AreApart}
use Rattle.nat_box.specs.Settings.{Settings, AreSettings}
use Rattle.nat_box.specs.Nat.{forward_table, reverse_table, kept_mappings, kept_bound, fresh_value, Fits}
use Rattle.nat_box.specs.PortStanding.{free_at, maps, mapped_at, taken_at, in_values}
use Rattle.nat_box.specs.PortStanding.{places_of}
use Rattle.nat_box.proofs.Effects.{of_range_one}

pub places_one : (s : Settings) (k : PortKey) → places_of s k ≤ 1
places_one s k = by (has_port k (outside_ports (kept s.statics))) refl
  where
    by : (b : Bool) → has_port k (outside_ports (kept s.statics)) ≡ b → places_of s k ≤ 1
    by true e = rw e (omega arith)
    by false e = rw e (of_range_one s.low s.high k)

pub same_port_is : (k : PortKey) → same_port k k ≡ true
same_port_is k =
    let a : (k.protocol == k.protocol) ≡ true = grind (arith, nat_tests) in
    let b : (k.port == k.port) ≡ true = grind (arith, nat_tests) in rw (a, b) refl

-- a port of the list is that of a static port
pub static_of : (k : PortKey) (ps : List StaticPort) → has_port k (outside_ports ps) ≡ true
    → (p : StaticPort) × IsStatic p ps × (k ≡ outside_of p)
static_of k [] is = absurd (cc)
static_of k (p ∷ ps) is = by (same_port k (outside_of p)) refl is (λ h. static_of k ps h)
  where
    by : (b : Bool) → same_port k (outside_of p) ≡ b → (if b then true else has_port k (outside_ports ps)) ≡ true
        → (has_port k (outside_ports ps) ≡ true → (q : StaticPort) × IsStatic q ps × (k ≡ outside_of q))
        → (q : StaticPort) × IsStatic q (p ∷ ps) × (k ≡ outside_of q)
    by true e is rest = (p, inl refl, port_is k (outside_of p) e)
    by false e is rest = let r = rest is in (r.0, inr r.1, r.2)

-- and each static port has its port there
pub static_in : (p : StaticPort) (ps : List StaticPort) → IsStatic p ps
    → has_port (outside_of p) (outside_ports ps) ≡ true
static_in p [] is = absurd is
static_in p (q ∷ ps) (inl same) =
    let e : same_port (outside_of p) (outside_of q) ≡ true =
    ap (λ (x : StaticPort). same_port (outside_of p) (outside_of x)) same ∙ same_port_is (outside_of p) in
    rw e refl
static_in p (q ∷ ps) (inr is) = by (same_port (outside_of p) (outside_of q)) refl (static_in p ps is)
  where
    by : (b : Bool) → same_port (outside_of p) (outside_of q) ≡ b
        → has_port (outside_of p) (outside_ports ps) ≡ true
        → has_port (outside_of p) (outside_ports (q ∷ ps)) ≡ true
    by true e rest = rw e refl
    by false e rest = rw e rest

-- The mapping of a static port, in the value of its forward table

pub table_below : (s : Settings) (key : Endpoint) → 1 ≤ s.shards → forward_table s key < 2 + s.shards
table_below s key some = omega arith

pub kept_there : (s : Settings) → 1 ≤ s.shards → (p : StaticPort) → IsStatic p (kept s.statics) → (v : ℕ)
    → v ≡ forward_table s (inside_of p) → (x : NatValue) → Fits s v x
    → (es : Forwards) × (x ≡ Mapped es) × HasKept (inside_of p) p.outside es
kept_there s some p is v at (Dropped d) fits = absurd (omega (arith, at, fits))
kept_there s some p is v at (Free pool) fits = absurd (omega (arith, at, fits.0))
kept_there s some p is v at (Mapped es) fits = (es, refl, fits.3 p is at)
kept_there s some p is v at (Taken bs) fits =
    let low = table_below s (inside_of p) some in absurd (omega (arith, at, fits.0, low))

slot_counts : (w : Endpoint → ℕ → ℕ) (key : Endpoint) (slot : Slot) (es : Forwards) → slot_of key es ≡ Some slot
    → w key slot.port ≤ total w es
slot_counts w key slot es is = let a = total_without w key slot es is in omega arith

counts_in : (w : Endpoint → ℕ → ℕ) (key : Endpoint) (port : ℕ) (x : NatValue)
    → ((es : Forwards) × (x ≡ Mapped es) × HasKept key port es) → w key port ≤ mapped_at w x
counts_in w key port x (es, same, (slot, there, is, phase)) =
    let a = slot_counts w key slot es there in
    let b : mapped_at w x ≡ total w es = ap (mapped_at w) same in
    let c : w key slot.port ≡ w key port = ap (w key) is in omega arith

module _ (s : Settings) (is : AreSettings s) (value : ℕ → NatValue)
    (fits : (v : ℕ) → v < 2 + 2 * s.shards → Fits s v (value v)) where
  pub static_mapped : (k : PortKey) → has_port k (outside_ports (kept s.statics)) ≡ true
      → 1 ≤ in_values s (mapped_at (maps k)) value
  static_mapped k there =
      let r = static_of k (kept s.statics) there in
      let p : StaticPort = r.0 in
      let v : ℕ = forward_table s (inside_of p) in
      let low : v < 2 + s.shards = table_below s (inside_of p) is.some in
      let below : v < 2 + 2 * s.shards = omega arith in
      let kept = kept_there s is.some p r.1 v refl (value v) (fits v below) in
      let a = counts_in (maps k) (inside_of p) p.outside (value v) kept in
      let one : maps k (inside_of p) p.outside ≡ 1 =
      ap one_if (ap (same_port k) (sym r.2) ∙ same_port_is k) in
      let b : mapped_at (maps k) (value v) ≤ in_values s (mapped_at (maps k)) value =
      term_of_sum (2 + 2 * s.shards) v (λ u. mapped_at (maps k) (value u)) below in
      omega arith

  -- a port that no forward entry has is not static
  pub range_left : (k : PortKey) → in_values s (mapped_at (maps k)) value ≡ 0
      → of_range s.low s.high k ≡ places_of s k
  range_left k none = by (has_port k (outside_ports (kept s.statics))) refl
    where
      by : (b : Bool) → has_port k (outside_ports (kept s.statics)) ≡ b → of_range s.low s.high k ≡ places_of s k
      by true e = let a = static_mapped k e in absurd (omega (arith, none, a))
      by false e = rw e refl

-- The counts at the start

-- the sum of a number of each static port
abbrev pub sum_static : (StaticPort → ℕ) → List StaticPort → ℕ
sum_static number [] = 0
sum_static number (p ∷ ps) = number p + sum_static number ps

module _ (s : Settings) (some : 1 ≤ s.shards) (w : Endpoint → ℕ → ℕ) where
  one_more : (p : StaticPort) (ps : List StaticPort) (v : ℕ) → v ≢ forward_table s (inside_of p)
      → total w (kept_mappings s v (p ∷ ps)) ≡ total w (kept_mappings s v ps)
  one_more p ps v other =
      let e : (forward_table s (inside_of p) == v) ≡ false =
      by (forward_table s (inside_of p) == v) refl in rw e refl
    where
      by : (b : Bool) → (forward_table s (inside_of p) == v) ≡ b → (forward_table s (inside_of p) == v) ≡ false
      by true e = absurd (other (sym (eqb-true _ _ e)))
      by false e = e

  sum_mapped : (ps : List StaticPort)
      → sum_below (2 + 2 * s.shards) (λ v. total w (kept_mappings s v ps))
      ≡ sum_static (λ p. w (inside_of p) p.outside) ps
  sum_mapped [] = sum_of_none (2 + 2 * s.shards) (λ v. 0) (λ v. refl)
  sum_mapped (p ∷ ps) =
      let f : ℕ → ℕ = λ v. total w (kept_mappings s v (p ∷ ps)) in
      let g : ℕ → ℕ = λ v. total w (kept_mappings s v ps) in
      let u : ℕ = forward_table s (inside_of p) in
      let low : u < 2 + s.shards = table_below s (inside_of p) some in
      let one : sum_below (2 + 2 * s.shards) f + g u ≡ sum_below (2 + 2 * s.shards) g + f u =
      one_changes (2 + 2 * s.shards) u f g (omega arith) (λ v other. one_more p ps v other) in
      let here : (u == u) ≡ true = grind (arith, nat_tests) in
      let new : f u ≡ w (inside_of p) p.outside + g u = rw here refl in
      let rest = sum_mapped ps in
      omega arith

  none_there : (ps : List StaticPort) (v : ℕ) → ((key : Endpoint) → v ≢ forward_table s key)
      → total w (kept_mappings s v ps) ≡ 0
  none_there [] v none = refl
  none_there (p ∷ ps) v none = one_more p ps v (none (inside_of p)) ∙ none_there ps v none

  fresh_total : (v : ℕ) → mapped_at w (fresh_value s v) ≡ total w (kept_mappings s v (kept s.statics))
  fresh_total v = by (v == 0) (v == 1) (nat_lt v (2 + s.shards)) refl refl refl
    where
      by : (a b c : Bool) → (v == 0) ≡ a → (v == 1) ≡ b → nat_lt v (2 + s.shards) ≡ c
          → mapped_at w (fresh_value s v) ≡ total w (kept_mappings s v (kept s.statics))
      by true b c x y z =
          let q : v ≡ 0 = eqb-true _ _ x in
          rw x (sym (none_there (kept s.statics) v (λ key same. omega arith)))
      by false true c x y z =
          let q : v ≡ 1 = eqb-true _ _ y in
          rw (x, y) (sym (none_there (kept s.statics) v (λ key same. omega arith)))
      by false false true x y z = rw (x, y, z) refl
      by false false false x y z =
          let q : 2 + s.shards ≤ v = grind (arith, nat_tests) in
          rw (x, y, z) (sym (none_there (kept s.statics) v
          (λ key same. let low = table_below s key some in omega arith)))

  pub fresh_mapped : in_values s (mapped_at w) (fresh_value s)
      ≡ sum_static (λ p. w (inside_of p) p.outside) (kept s.statics)
  fresh_mapped =
      same_sums (2 + 2 * s.shards) (λ v. mapped_at w (fresh_value s v))
      (λ v. total w (kept_mappings s v (kept s.statics))) fresh_total
      ∙ sum_mapped (kept s.statics)
    where
      same_sums : (n : ℕ) (f g : ℕ → ℕ) → ((v : ℕ) → f v ≡ g v) → sum_below n f ≡ sum_below n g
      same_sums zero f g same = refl
      same_sums (suc n) f g same =
          let a = same_sums n f g same in let b = same n in omega arith

module _ (s : Settings) (k : PortKey) (w : PortKey → Endpoint → ℕ)
    (own : (port : PortKey) (key : Endpoint) → same_port k port ≡ false → w port key ≡ 0) where
  sum_bound : (ps : List StaticPort)
      → total_bound w (kept_bound s (reverse_table s k) ps)
      ≡ sum_static (λ p. w (outside_of p) (inside_of p)) ps
  sum_bound [] = refl
  sum_bound (p ∷ ps) = by (reverse_table s (outside_of p) == reverse_table s k) refl (sum_bound ps)
    where
      apart : (reverse_table s (outside_of p) == reverse_table s k) ≡ false → (b : Bool)
          → same_port k (outside_of p) ≡ b → same_port k (outside_of p) ≡ false
      apart e true q =
          let same : reverse_table s k ≡ reverse_table s (outside_of p) =
          ap (reverse_table s) (port_is k (outside_of p) q) in
          let t : (reverse_table s (outside_of p) == reverse_table s k) ≡ true = grind (arith, nat_tests) in
          absurd (cc)
      apart e false q = q

      by : (b : Bool) → (reverse_table s (outside_of p) == reverse_table s k) ≡ b
          → total_bound w (kept_bound s (reverse_table s k) ps)
          ≡ sum_static (λ p. w (outside_of p) (inside_of p)) ps
          → total_bound w (kept_bound s (reverse_table s k) (p ∷ ps))
          ≡ sum_static (λ p. w (outside_of p) (inside_of p)) (p ∷ ps)
      by true e rest = rw e (ap (λ n. w (outside_of p) (inside_of p) + n) rest)
      by false e rest =
          let z = own (outside_of p) (inside_of p) (apart e (same_port k (outside_of p)) refl) in
          rw e (omega arith)

  bound_in_it : (v : ℕ) → 2 + s.shards ≤ v
      → taken_at w (fresh_value s v) ≡ total_bound w (kept_bound s v (kept s.statics))
  bound_in_it v high = by (v == 0) (v == 1) (nat_lt v (2 + s.shards)) refl refl refl
    where
      by : (a b c : Bool) → (v == 0) ≡ a → (v == 1) ≡ b → nat_lt v (2 + s.shards) ≡ c
          → taken_at w (fresh_value s v) ≡ total_bound w (kept_bound s v (kept s.statics))
      by true b c x y z = let q : v ≡ 0 = eqb-true _ _ x in absurd (omega arith)
      by false true c x y z = let q : v ≡ 1 = eqb-true _ _ y in absurd (omega arith)
      by false false true x y z = absurd (grind (arith, nat_tests))
      by false false false x y z = rw (x, y, z) refl

  pub fresh_taken : taken_at w (fresh_value s (reverse_table s k))
      ≡ sum_static (λ p. w (outside_of p) (inside_of p)) (kept s.statics)
  fresh_taken = bound_in_it (reverse_table s k) (omega arith) ∙ sum_bound (kept s.statics)

-- so many static ports have the port: one, or none

other_port : (a b : PortKey) → same_port a b ≡ false → same_port b a ≡ false
other_port a b q = by (same_port b a) refl
  where
    by : (t : Bool) → same_port b a ≡ t → same_port b a ≡ false
    by true e =
        let k : b ≡ a = port_is b a e in let j : same_port a b ≡ true = rw k (same_port_is a) in absurd (cc)
    by false e = e

none_later : (k : PortKey) (p : StaticPort) (ps : List StaticPort) → k ≡ outside_of p → IsApart p ps
    → sum_static (λ q. one_if (same_port k (outside_of q))) ps ≡ 0
none_later k p [] same apart = refl
none_later k p (q ∷ qs) same apart =
    let e : same_port k (outside_of q) ≡ false =
    rw same (other_port (outside_of q) (outside_of p) apart.1) in
    let rest = none_later k p qs same apart.2 in rw e (omega (arith, rest))

pub ports_once : (k : PortKey) (ps : List StaticPort) → AreApart ps
    → sum_static (λ p. one_if (same_port k (outside_of p))) ps ≡ one_if (has_port k (outside_ports ps))
ports_once k [] apart = refl
ports_once k (p ∷ ps) apart = by (same_port k (outside_of p)) refl (ports_once k ps apart.1)
  where
    by : (b : Bool) → same_port k (outside_of p) ≡ b
        → sum_static (λ p. one_if (same_port k (outside_of p))) ps ≡ one_if (has_port k (outside_ports ps))
        → sum_static (λ p. one_if (same_port k (outside_of p))) (p ∷ ps)
        ≡ one_if (has_port k (outside_ports (p ∷ ps)))
    by true e rest =
        let none = none_later k p ps (port_is k (outside_of p) e) apart.0 in rw e (ap (λ n. 1 + n) none)
    by false e rest = rw e (omega (arith, rest))

pub fresh_free : (s : Settings) (k : PortKey) → AreSettings s
    → in_values s (free_at k) (fresh_value s) + one_if (has_port k (outside_ports (kept s.statics))) ≡ places_of s k
fresh_free s k is =
    let one : in_values s (free_at k) (fresh_value s) ≡ free_at k (fresh_value s 1) =
    one_term (2 + 2 * s.shards) 1 (λ v. free_at k (fresh_value s v)) (omega (arith, is.some)) other in
    let pool = free_without (outside_ports (kept s.statics)) k s.low s.high is.order in
    by (has_port k (outside_ports (kept s.statics))) refl (one ∙ pool)
  where
    other : (v : ℕ) → v ≢ 1 → free_at k (fresh_value s v) ≡ 0
    other v not_one = by (v == 0) (v == 1) (nat_lt v (2 + s.shards)) refl refl refl
      where
        by : (a b c : Bool) → (v == 0) ≡ a → (v == 1) ≡ b → nat_lt v (2 + s.shards) ≡ c
            → free_at k (fresh_value s v) ≡ 0
        by true b c x y z = rw x refl
        by false true c x y z = absurd (not_one (eqb-true _ _ y))
        by false false true x y z = rw (x, y, z) refl
        by false false false x y z = rw (x, y, z) refl

    by : (b : Bool) → has_port k (outside_ports (kept s.statics)) ≡ b
        → in_values s (free_at k) (fresh_value s)
        ≡ (if has_port k (outside_ports (kept s.statics)) then 0 else of_range s.low s.high k)
        → in_values s (free_at k) (fresh_value s) + one_if (has_port k (outside_ports (kept s.statics)))
        ≡ places_of s k
    by true e sum = let z = rw e at sum in rw e (omega (arith, z))
    by false e sum = let z = rw e at sum in rw e (omega (arith, z))
