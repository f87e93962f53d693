-- The static ports that came into an empty table, one after another, are its static ports.
use Rattle.std.proofs.Common.{◌≡◌, ℕ, Bool, true, false, List, [], ◌∷◌, ◌++◌, refl, sym, ap, ◌∙◌, Option, Some, None}
use Rattle.std.specs.Prelude.{◌==◌, if◌then◌else◌}
use Rattle.std.proofs.lemmas.List.{append_assoc}
use Rattle.nat_tables.specs.declared.entries.Endpoint.{Endpoint}
use Rattle.nat_tables.specs.declared.entries.PortKey.{PortKey}
use Rattle.nat_tables.specs.declared.slot.Slot.{Slot}
use Rattle.nat_tables.specs.Keys.{same_endpoint, same_port}
use Rattle.nat_tables.specs.Forwards.{Forwards, slot_of, kept_slot, keep}
use Rattle.nat_tables.specs.Reverses.{Reverses, endpoint_of, bind}
use Rattle.nat_box.specs.declared.settings.StaticPort.{StaticPort}
use Rattle.nat_box.specs.Statics.{inside_of, outside_of, kept}
use Rattle.nat_box.specs.StaticLaws.{IsApart, AreApart, kept_apart}
use Rattle.nat_box.specs.Starting.{mapped_one, mapped_all, bound_one, bound_all}
use Rattle.nat_box.specs.Settings.{Settings}
use Rattle.nat_box.specs.Nat.{forward_table, reverse_table, kept_mappings, kept_bound}

-- the endpoints have no mappings yet
abbrev AreNew : List StaticPort → Forwards → Type 0
AreNew [] es = Unit {0}
AreNew (p ∷ ps) es = (slot_of (inside_of p) es ≡ None) × AreNew ps es

absent_more : (key other : Endpoint) (slot : Slot) (es : Forwards) → slot_of key es ≡ None
    → same_endpoint key other ≡ false → slot_of key (es ++ (other, slot) ∷ []) ≡ None
absent_more key other slot [] none apart = rw apart refl
absent_more key other slot (e ∷ es) none apart =
    by (same_endpoint key e.0) refl none (λ h. absent_more key other slot es h apart)
  where
    by : (b : Bool) → same_endpoint key e.0 ≡ b → (if b then Some e.1 else slot_of key es) ≡ None
        → (slot_of key es ≡ None → slot_of key (es ++ (other, slot) ∷ []) ≡ None)
        → slot_of key ((e ∷ es) ++ (other, slot) ∷ []) ≡ None
    by true q none rest = absurd (cc)
    by false q none rest = rw q (rest none)

new_more : (p : StaticPort) (slot : Slot) (ps : List StaticPort) (es : Forwards) → IsApart p ps → AreNew ps es
    → AreNew ps (es ++ (inside_of p, slot) ∷ [])
new_more p slot [] es apart new = tt
new_more p slot (q ∷ qs) es apart new =
    (absent_more (inside_of q) (inside_of p) slot es new.0 apart.0, new_more p slot qs es apart.2 new.1)

kept_last : (key : Endpoint) (port : ℕ) (es : Forwards) → slot_of key es ≡ None
    → keep key port es ≡ es ++ (key, kept_slot port) ∷ []
kept_last key port es none = rw none refl

module _ (s : Settings) (v : ℕ) where
  mapped_behind : (ps : List StaticPort) (es : Forwards) → AreApart ps → AreNew ps es
      → mapped_all s v ps es ≡ es ++ kept_mappings s v ps
  mapped_behind [] es apart new = sym (append_none es)
    where
      append_none : (xs : Forwards) → xs ++ [] ≡ xs
      append_none [] = refl
      append_none (x ∷ xs) = ap (λ more. x ∷ more) (append_none xs)
  mapped_behind (p ∷ ps) es apart new =
      by (forward_table s (inside_of p) == v) refl (λ fs n. mapped_behind ps fs apart.1 n)
    where
      by : (b : Bool) → (forward_table s (inside_of p) == v) ≡ b
          → ((fs : Forwards) → AreNew ps fs → mapped_all s v ps fs ≡ fs ++ kept_mappings s v ps)
          → mapped_all s v (p ∷ ps) es ≡ es ++ kept_mappings s v (p ∷ ps)
      by true e rest =
          let slot : Slot = kept_slot p.outside in
          let last : keep (inside_of p) p.outside es ≡ es ++ (inside_of p, slot) ∷ [] =
          kept_last (inside_of p) p.outside es new.0 in
          rw e
          (ap (mapped_all s v ps) last
          ∙ rest (es ++ (inside_of p, slot) ∷ []) (new_more p slot ps es apart.0 new.1)
          ∙ append_assoc es ((inside_of p, slot) ∷ []) (kept_mappings s v ps))
      by false e rest = rw e (rest es new.1)

-- the ports are not bound yet
abbrev AreUnbound : List StaticPort → Reverses → Type 0
AreUnbound [] bs = Unit {0}
AreUnbound (p ∷ ps) bs = (endpoint_of (outside_of p) bs ≡ None) × AreUnbound ps bs

unbound_more : (port other : PortKey) (key : Endpoint) (bs : Reverses) → endpoint_of port bs ≡ None
    → same_port port other ≡ false → endpoint_of port (bs ++ (other, key) ∷ []) ≡ None
unbound_more port other key [] none apart = rw apart refl
unbound_more port other key (b ∷ bs) none apart =
    by (same_port port b.0) refl none (λ h. unbound_more port other key bs h apart)
  where
    by : (t : Bool) → same_port port b.0 ≡ t → (if t then Some b.1 else endpoint_of port bs) ≡ None
        → (endpoint_of port bs ≡ None → endpoint_of port (bs ++ (other, key) ∷ []) ≡ None)
        → endpoint_of port ((b ∷ bs) ++ (other, key) ∷ []) ≡ None
    by true q none rest = absurd (cc)
    by false q none rest = rw q (rest none)

all_unbound : (p : StaticPort) (key : Endpoint) (ps : List StaticPort) (bs : Reverses) → IsApart p ps
    → AreUnbound ps bs → AreUnbound ps (bs ++ (outside_of p, key) ∷ [])
all_unbound p key [] bs apart new = tt
all_unbound p key (q ∷ qs) bs apart new =
    (unbound_more (outside_of q) (outside_of p) key bs new.0 apart.1, all_unbound p key qs bs apart.2 new.1)

bound_last : (port : PortKey) (key : Endpoint) (bs : Reverses) → endpoint_of port bs ≡ None
    → bind port key bs ≡ bs ++ (port, key) ∷ []
bound_last port key [] none = refl
bound_last port key (b ∷ bs) none = by (same_port port b.0) refl none (bound_last port key bs)
  where
    by : (t : Bool) → same_port port b.0 ≡ t → (if t then Some b.1 else endpoint_of port bs) ≡ None
        → (endpoint_of port bs ≡ None → bind port key bs ≡ bs ++ (port, key) ∷ [])
        → bind port key (b ∷ bs) ≡ (b ∷ bs) ++ (port, key) ∷ []
    by true q none rest = absurd (cc)
    by false q none rest = rw q (ap (λ r. b ∷ r) (rest none))

module _ (s : Settings) (v : ℕ) where
  bound_behind : (ps : List StaticPort) (bs : Reverses) → AreApart ps → AreUnbound ps bs
      → bound_all s v ps bs ≡ bs ++ kept_bound s v ps
  bound_behind [] bs apart new = sym (append_none bs)
    where
      append_none : (xs : Reverses) → xs ++ [] ≡ xs
      append_none [] = refl
      append_none (x ∷ xs) = ap (λ more. x ∷ more) (append_none xs)
  bound_behind (p ∷ ps) bs apart new =
      by (reverse_table s (outside_of p) == v) refl (λ cs n. bound_behind ps cs apart.1 n)
    where
      by : (b : Bool) → (reverse_table s (outside_of p) == v) ≡ b
          → ((cs : Reverses) → AreUnbound ps cs → bound_all s v ps cs ≡ cs ++ kept_bound s v ps)
          → bound_all s v (p ∷ ps) bs ≡ bs ++ kept_bound s v (p ∷ ps)
      by true e rest =
          let key : Endpoint = inside_of p in
          let last : bind (outside_of p) key bs ≡ bs ++ (outside_of p, key) ∷ [] =
          bound_last (outside_of p) key bs new.0 in
          rw e
          (ap (bound_all s v ps) last
          ∙ rest (bs ++ (outside_of p, key) ∷ []) (all_unbound p key ps bs apart.0 new.1)
          ∙ append_assoc bs ((outside_of p, key) ∷ []) (kept_bound s v ps))
      by false e rest = rw e (rest bs new.1)

all_new : (ps : List StaticPort) → AreNew ps []
all_new [] = tt
all_new (p ∷ ps) = (refl, all_new ps)

none_bound : (ps : List StaticPort) → AreUnbound ps []
none_bound [] = tt
none_bound (p ∷ ps) = (refl, none_bound ps)

pub start_mappings : (s : Settings) (v : ℕ) (ports : List StaticPort)
    → mapped_all s v (kept ports) [] ≡ kept_mappings s v (kept ports)
start_mappings s v ports = mapped_behind s v (kept ports) [] (kept_apart ports) (all_new (kept ports))

pub start_bound : (s : Settings) (v : ℕ) (ports : List StaticPort)
    → bound_all s v (kept ports) [] ≡ kept_bound s v (kept ports)
start_bound s v ports = bound_behind s v (kept ports) [] (kept_apart ports) (none_bound (kept ports))
