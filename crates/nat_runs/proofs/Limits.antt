-- No host has more mappings than it may have.
use Rattle.std.proofs.Common.{◌≡◌, ◌≢◌, ℕ, ◌+◌, ◌*◌, ◌%◌, ◌<◌, ◌≤◌, Bool, true, false, List, [], ◌∷◌, refl, sym, ap}
use Rattle.std.proofs.Common.{◌∙◌}
use Rattle.std.proofs.Common.{subst, arith, Option, Some}
use Rattle.std.specs.Prelude.{◌==◌, ◌&&◌, nat_lt, max, if◌then◌else◌}
use Rattle.std.proofs.lemmas.Bool.{eqb-true}
use Rattle.std.proofs.lemmas.Bool.Decides.{nat_tests}
use Rattle.entry_order.specs.Stamps.{sum_below}
use Rattle.entry_order.proofs.Weights.{sum_below_same}
use Rattle.plain_machine.specs.History.{value_after}
use Rattle.plain_machine.proofs.Bounds.{values_fit}
use Rattle.nat_tables.specs.declared.entries.Endpoint.{Endpoint}
use Rattle.nat_tables.specs.Forwards.{Forwards, AreMappings}
use Rattle.nat_tables.specs.Hosts.{is_of_host, count_of}
use Rattle.flow_boxes.proofs.Summing.{one_term}
use Rattle.nat_box.specs.declared.settings.StaticPort.{StaticPort}
use Rattle.nat_box.specs.declared.value.NatValue.{NatValue}
use Rattle.nat_box.specs.declared.value.NatValue.TheVariants.{Dropped, Free, Mapped, Taken}
use Rattle.nat_box.specs.Places.{place_numbered, noted}
use Rattle.nat_box.specs.Statics.{inside_of, kept}
use Rattle.nat_box.specs.Settings.{Settings}
use Rattle.nat_box.specs.Nat.{table_sum, forward_table, kept_mappings, touched_by, followed, local_at}
use Rattle.nat_box.specs.Nat.{nat_meaning, MayMap, AreWithin, Fits}
use Rattle.nat_box.specs.Lawful.{nat_lawful}
use Rattle.nat_box.specs.Sentences.{mappings_in}
use Rattle.nat_runs.specs.Limits.{mappings_of, statics_of, HostsKeepWithin, TouchesWithoutLimit, TablesWithoutLimit}

pub touches_without_limit : TouchesWithoutLimit
touches_without_limit s v x l none =
    ap
    (λ (limit : Option ℕ).
    let r = touched_by limit (place_numbered l.at) x (noted l) in (followed s (noted l) r.0, local_at r.1)) none

pub tables_without_limit : TablesWithoutLimit
tables_without_limit s key none = ap (λ (limit : Option ℕ). 2 + table_sum limit key % s.shards) none

-- The static ports of a host in one table are not more than all of them.
statics_there : (s : Settings) (v protocol address : ℕ) (ps : List StaticPort)
    → count_of protocol address (kept_mappings s v ps) ≤ statics_of protocol address ps
statics_there s v protocol address [] = omega arith
statics_there s v protocol address (p ∷ ps) =
    by (forward_table s (inside_of p) == v) (is_of_host protocol address (inside_of p)) refl refl
    (statics_there s v protocol address ps)
  where
    by : (a b : Bool) → (forward_table s (inside_of p) == v) ≡ a → is_of_host protocol address (inside_of p) ≡ b
        → count_of protocol address (kept_mappings s v ps) ≤ statics_of protocol address ps
        → count_of protocol address (kept_mappings s v (p ∷ ps)) ≤ statics_of protocol address (p ∷ ps)
    by true true x y rest = rw (x, y) (omega (arith, rest))
    by true false x y rest = rw (x, y) rest
    by false true x y rest = rw (x, y) (omega (arith, rest))
    by false false x y rest = rw (x, y) rest

-- a sum with one term, where each other one below is 0
one_term_below : (n u : ℕ) (f : ℕ → ℕ) → u < n → ((k : ℕ) → k < n → k ≢ u → f k ≡ 0) → sum_below n f ≡ f u
one_term_below n u f low none =
    sum_below_same n f g (λ k below. same k below (nat_lt k n) refl)
    ∙ one_term n u g low (λ k other. by_lower k other (nat_lt k n) refl)
    ∙ sym (same u low (nat_lt u n) refl)
  where
    g : ℕ → ℕ
    g k = if nat_lt k n then f k else 0

    same : (k : ℕ) → k < n → (b : Bool) → nat_lt k n ≡ b → f k ≡ g k
    same k below true q = rw q refl
    same k below false q = absurd (grind (arith, nat_tests))

    by_lower : (k : ℕ) → k ≢ u → (b : Bool) → nat_lt k n ≡ b → g k ≡ 0
    by_lower k other true q = let below : k < n = grind (arith, nat_tests) in rw q (none k below other)
    by_lower k other false q = rw q refl

module _ (s : Settings) (most protocol address : ℕ) (limit : s.limit ≡ Some most) where
  abbrev own_table : ℕ
  own_table = (protocol + address) % s.shards

  host_table : (key : Endpoint) → is_of_host protocol address key ≡ true → forward_table s key ≡ 2 + own_table
  host_table key is = by (key.protocol == protocol) (key.address == address) refl refl is
    where
      by : (a b : Bool) → (key.protocol == protocol) ≡ a → (key.address == address) ≡ b → (a && b) ≡ true
          → forward_table s key ≡ 2 + own_table
      by true true x y is =
          let p : key.protocol ≡ protocol = eqb-true _ _ x in
          let q : key.address ≡ address = eqb-true _ _ y in
          ap (λ (o : Option ℕ). 2 + table_sum o key % s.shards) limit ∙ (λ i. 2 + (p i + q i) % s.shards)
      by true false x y is = absurd (cc)
      by false b x y is = absurd (cc)

  none_elsewhere : (v : ℕ) → v ≢ 2 + own_table → (es : Forwards) → AreMappings (MayMap s v) es
      → count_of protocol address es ≡ 0
  none_elsewhere v other [] all = refl
  none_elsewhere v other (e ∷ es) all =
      by (is_of_host protocol address e.0) refl (none_elsewhere v other es all.2)
    where
      by : (b : Bool) → is_of_host protocol address e.0 ≡ b → count_of protocol address es ≡ 0
          → count_of protocol address (e ∷ es) ≡ 0
      by true q rest = absurd (other (all.0.0 ∙ host_table e.0 q))
      by false q rest = rw q rest

  none_of_value : (v : ℕ) → v ≢ 2 + own_table → (x : NatValue) → Fits s v x
      → count_of protocol address (mappings_in x) ≡ 0
  none_of_value v other (Dropped d) fits = refl
  none_of_value v other (Free pool) fits = refl
  none_of_value v other (Mapped es) fits = none_elsewhere v other es fits.2
  none_of_value v other (Taken bs) fits = refl

  few_of_value : (v : ℕ) (x : NatValue) → Fits s v x
      → count_of protocol address (mappings_in x) ≤ max most (statics_of protocol address (kept s.statics))
  few_of_value v (Dropped d) fits = omega arith
  few_of_value v (Free pool) fits = omega arith
  few_of_value v (Mapped es) fits =
      let within : AreWithin (Some most) (kept_mappings s v (kept s.statics)) es =
      subst (λ (o : Option ℕ). AreWithin o (kept_mappings s v (kept s.statics)) es) limit fits.4 in
      let few = within protocol address in
      let there = statics_there s v protocol address (kept s.statics) in
      omega (arith, few, there)
  few_of_value v (Taken bs) fits = omega arith

  module _ (some : 1 ≤ s.shards) (value : ℕ → NatValue)
      (fits : (v : ℕ) → v < 2 + 2 * s.shards → Fits s v (value v)) where
    few_in_all : mappings_of s value protocol address ≤ max most (statics_of protocol address (kept s.statics))
    few_in_all =
        let term : ℕ → ℕ = λ table. count_of protocol address (mappings_in (value (2 + table))) in
        let low : own_table < s.shards = omega (arith, some) in
        let one : sum_below s.shards term ≡ term own_table =
        one_term_below s.shards own_table term low
        (λ k below other. none_of_value (2 + k) (λ q. other (omega (arith, q))) (value (2 + k)) (fits (2 + k)
        (omega (arith, below)))) in
        let few = few_of_value (2 + own_table) (value (2 + own_table)) (fits (2 + own_table) (omega (arith, low))) in
        subst (λ (n : ℕ). n ≤ max most (statics_of protocol address (kept s.statics))) (sym one) few

pub hosts_keep_within : HostsKeepWithin
hosts_keep_within s threads inputs steps most protocol address is h limit =
    few_in_all s most protocol address limit is.some (value_after (nat_meaning s) steps)
    (values_fit (nat_meaning s) (Fits s) (nat_lawful s is) inputs threads steps h)
