-- What each touch changes in the places of a port.
use Rattle.std.proofs.Common.{◌≡◌, ℕ, ◌+◌, ◌≤◌, Bool, true, false, [], ◌∷◌, ◌++◌, refl, sym, ap, ◌∙◌, subst, arith}
use Rattle.std.proofs.Common.{Option, Some, None, inl, inr}
use Rattle.std.specs.Prelude.{◌&&◌, ◌==◌}
use Rattle.std.proofs.lemmas.Bool.Decides.{nat_tests}
use Rattle.nat_tables.specs.declared.entries.Endpoint.{Endpoint}
use Rattle.nat_tables.specs.declared.entries.PortKey.{PortKey}
use Rattle.nat_tables.specs.declared.slot.Slot.{Slot}
use Rattle.nat_tables.specs.declared.phase.Phase.TheVariants.{Plain}
use Rattle.nat_tables.specs.Ports.{PoolPorts, reserve, give_back, one_if, free_of, of_range}
use Rattle.nat_tables.specs.Keys.{same_endpoint, same_port, port_key}
use Rattle.nat_tables.specs.Forwards.{Forwards, is_idle, slot_of, refresh, without, first_idle, without_idle}
use Rattle.nat_tables.specs.Forwards.{found_there, found, bound, port_of, total}
use Rattle.nat_tables.specs.Reverses.{Reverses, bind, unbind, total_bound}
use Rattle.nat_tables.proofs.Counting.{port_is, total_refresh, total_without, total_without_idle, total_append}
use Rattle.nat_tables.proofs.Counting.{total_bind, total_bind_other, total_unbind, total_unbind_other}
use Rattle.nat_tables.proofs.Pooling.{if_key, free_reserved, free_given, free_given_other}
use Rattle.nat_box.specs.declared.place.Place.{Place}
use Rattle.nat_box.specs.declared.place.Place.TheVariants.{HearsTime, FindsMapping, UnbindsFreed, GivesBackFreed}
use Rattle.nat_box.specs.declared.place.Place.TheVariants.{DrawsWord, ReservesPort, BindsPort, FindsOrBinds}
use Rattle.nat_box.specs.declared.place.Place.TheVariants.{UnbindsLost, GivesBackLost, FindsEndpoint, AsksIfLives}
use Rattle.nat_box.specs.declared.place.Place.TheVariants.{CountsDrop, SendsOut, Ends, FindsPort}
use Rattle.nat_box.specs.declared.place.Class.{Class}
use Rattle.nat_box.specs.declared.place.Class.TheVariants.{Outbound, Hairpin, Inbound, OutboundError}
use Rattle.nat_box.specs.declared.place.Noted.{Noted}
use Rattle.nat_box.specs.declared.value.NatValue.{NatValue}
use Rattle.nat_box.specs.declared.value.NatValue.TheVariants.{Dropped, Free, Mapped, Taken}
use Rattle.nat_box.specs.Places.{source_key, drawn_word, no_port}
use Rattle.nat_box.specs.Settings.{Settings}
use Rattle.nat_box.specs.Nat.{reverse_table, mapped, after_find, after_reserve, after_bind, touched, Fits, goes}
use Rattle.nat_box.specs.Nat.{dropped, over_limit}
use Rattle.nat_box.specs.declared.place.Goes.{Goes}
use Rattle.nat_box.specs.LimitLaws.{Comes}
use Rattle.nat_box.specs.Ranks.{var_of}
use Rattle.nat_box.specs.PortStanding.{free_at, maps, maps_for, mapped_at, binds, binds_for, taken_at, bare, queued}
use Rattle.nat_box.specs.PortStanding.{queued_for, loose, Tally, IsSound}

-- a packet at this place has no port out
abbrev pub HoldsNone : Place → Type 0
HoldsNone UnbindsFreed = ⊥
HoldsNone GivesBackFreed = ⊥
HoldsNone BindsPort = ⊥
HoldsNone FindsOrBinds = ⊥
HoldsNone UnbindsLost = ⊥
HoldsNone GivesBackLost = ⊥
HoldsNone _ = Unit {0}

pub holds_none : (k : PortKey) (e : Endpoint) (p : Place) (n : Noted) → HoldsNone p
    → (bare k p n ≡ 0) × (queued k p n ≡ 0) × (queued_for k e p n ≡ 0) × (loose k p n ≡ 0)
holds_none k e HearsTime n h = (refl, refl, refl, refl)
holds_none k e FindsMapping n h = (refl, refl, refl, refl)
holds_none k e UnbindsFreed n h = absurd h
holds_none k e GivesBackFreed n h = absurd h
holds_none k e DrawsWord n h = (refl, refl, refl, refl)
holds_none k e ReservesPort n h = (refl, refl, refl, refl)
holds_none k e BindsPort n h = absurd h
holds_none k e FindsOrBinds n h = absurd h
holds_none k e UnbindsLost n h = absurd h
holds_none k e GivesBackLost n h = absurd h
holds_none k e FindsEndpoint n h = (refl, refl, refl, refl)
holds_none k e AsksIfLives n h = (refl, refl, refl, refl)
holds_none k e CountsDrop n h = (refl, refl, refl, refl)
holds_none k e SendsOut n h = (refl, refl, refl, refl)
holds_none k e Ends n h = (refl, refl, refl, refl)
holds_none k e FindsPort n h = (refl, refl, refl, refl)

pub mapped_none : (n : Noted) (c : Class) → HoldsNone (mapped n c).place
mapped_none n Outbound = tt
mapped_none n Hairpin = tt
mapped_none n Inbound = tt
mapped_none n OutboundError = tt

-- the places at which a variable is touched
abbrev pub Touches : Place → Type 0
Touches HearsTime = ⊥
Touches FindsMapping = Unit {0}
Touches UnbindsFreed = Unit {0}
Touches GivesBackFreed = Unit {0}
Touches DrawsWord = ⊥
Touches ReservesPort = Unit {0}
Touches BindsPort = Unit {0}
Touches FindsOrBinds = Unit {0}
Touches UnbindsLost = Unit {0}
Touches GivesBackLost = Unit {0}
Touches FindsEndpoint = ⊥
Touches AsksIfLives = ⊥
Touches CountsDrop = Unit {0}
Touches SendsOut = ⊥
Touches Ends = ⊥
Touches FindsPort = ⊥

abbrev IsKind : Place → NatValue → Type 0
IsKind HearsTime x = ⊥
IsKind FindsMapping (Dropped d) = Unit {0}
IsKind FindsMapping (Free pool) = Unit {0}
IsKind FindsMapping (Mapped es) = ⊥
IsKind FindsMapping (Taken bs) = Unit {0}
IsKind UnbindsFreed (Dropped d) = Unit {0}
IsKind UnbindsFreed (Free pool) = Unit {0}
IsKind UnbindsFreed (Mapped es) = Unit {0}
IsKind UnbindsFreed (Taken bs) = ⊥
IsKind GivesBackFreed (Dropped d) = Unit {0}
IsKind GivesBackFreed (Free pool) = ⊥
IsKind GivesBackFreed (Mapped es) = Unit {0}
IsKind GivesBackFreed (Taken bs) = Unit {0}
IsKind DrawsWord x = ⊥
IsKind ReservesPort (Dropped d) = Unit {0}
IsKind ReservesPort (Free pool) = ⊥
IsKind ReservesPort (Mapped es) = Unit {0}
IsKind ReservesPort (Taken bs) = Unit {0}
IsKind BindsPort (Dropped d) = Unit {0}
IsKind BindsPort (Free pool) = Unit {0}
IsKind BindsPort (Mapped es) = Unit {0}
IsKind BindsPort (Taken bs) = ⊥
IsKind FindsOrBinds (Dropped d) = Unit {0}
IsKind FindsOrBinds (Free pool) = Unit {0}
IsKind FindsOrBinds (Mapped es) = ⊥
IsKind FindsOrBinds (Taken bs) = Unit {0}
IsKind UnbindsLost (Dropped d) = Unit {0}
IsKind UnbindsLost (Free pool) = Unit {0}
IsKind UnbindsLost (Mapped es) = Unit {0}
IsKind UnbindsLost (Taken bs) = ⊥
IsKind GivesBackLost (Dropped d) = Unit {0}
IsKind GivesBackLost (Free pool) = ⊥
IsKind GivesBackLost (Mapped es) = Unit {0}
IsKind GivesBackLost (Taken bs) = Unit {0}
IsKind FindsEndpoint x = ⊥
IsKind AsksIfLives x = ⊥
IsKind CountsDrop (Dropped d) = ⊥
IsKind CountsDrop (Free pool) = Unit {0}
IsKind CountsDrop (Mapped es) = Unit {0}
IsKind CountsDrop (Taken bs) = Unit {0}
IsKind SendsOut x = ⊥
IsKind Ends x = ⊥
IsKind FindsPort x = ⊥

-- a variable has a value of its kind
module _ (s : Settings) (some : 1 ≤ s.shards) where
  wrong_kind : (p : Place) (x : NatValue) (n : Noted) (v : ℕ) → var_of s p n ≡ v → Fits s v x → IsKind p x → ⊥
  wrong_kind HearsTime x n v at fits wrong = absurd wrong
  wrong_kind FindsMapping (Dropped d) n v at fits wrong = omega (arith, at, fits, some)
  wrong_kind FindsMapping (Free pool) n v at fits wrong = omega (arith, at, fits.0, some)
  wrong_kind FindsMapping (Mapped es) n v at fits wrong = absurd wrong
  wrong_kind FindsMapping (Taken bs) n v at fits wrong = omega (arith, at, fits.0, some)
  wrong_kind UnbindsFreed (Dropped d) n v at fits wrong = omega (arith, at, fits, some)
  wrong_kind UnbindsFreed (Free pool) n v at fits wrong = omega (arith, at, fits.0, some)
  wrong_kind UnbindsFreed (Mapped es) n v at fits wrong = omega (arith, at, fits.0, fits.1, some)
  wrong_kind UnbindsFreed (Taken bs) n v at fits wrong = absurd wrong
  wrong_kind GivesBackFreed (Dropped d) n v at fits wrong = omega (arith, at, fits, some)
  wrong_kind GivesBackFreed (Free pool) n v at fits wrong = absurd wrong
  wrong_kind GivesBackFreed (Mapped es) n v at fits wrong = omega (arith, at, fits.0, fits.1, some)
  wrong_kind GivesBackFreed (Taken bs) n v at fits wrong = omega (arith, at, fits.0, some)
  wrong_kind DrawsWord x n v at fits wrong = absurd wrong
  wrong_kind ReservesPort (Dropped d) n v at fits wrong = omega (arith, at, fits, some)
  wrong_kind ReservesPort (Free pool) n v at fits wrong = absurd wrong
  wrong_kind ReservesPort (Mapped es) n v at fits wrong = omega (arith, at, fits.0, fits.1, some)
  wrong_kind ReservesPort (Taken bs) n v at fits wrong = omega (arith, at, fits.0, some)
  wrong_kind BindsPort (Dropped d) n v at fits wrong = omega (arith, at, fits, some)
  wrong_kind BindsPort (Free pool) n v at fits wrong = omega (arith, at, fits.0, some)
  wrong_kind BindsPort (Mapped es) n v at fits wrong = omega (arith, at, fits.0, fits.1, some)
  wrong_kind BindsPort (Taken bs) n v at fits wrong = absurd wrong
  wrong_kind FindsOrBinds (Dropped d) n v at fits wrong = omega (arith, at, fits, some)
  wrong_kind FindsOrBinds (Free pool) n v at fits wrong = omega (arith, at, fits.0, some)
  wrong_kind FindsOrBinds (Mapped es) n v at fits wrong = absurd wrong
  wrong_kind FindsOrBinds (Taken bs) n v at fits wrong = omega (arith, at, fits.0, some)
  wrong_kind UnbindsLost (Dropped d) n v at fits wrong = omega (arith, at, fits, some)
  wrong_kind UnbindsLost (Free pool) n v at fits wrong = omega (arith, at, fits.0, some)
  wrong_kind UnbindsLost (Mapped es) n v at fits wrong = omega (arith, at, fits.0, fits.1, some)
  wrong_kind UnbindsLost (Taken bs) n v at fits wrong = absurd wrong
  wrong_kind GivesBackLost (Dropped d) n v at fits wrong = omega (arith, at, fits, some)
  wrong_kind GivesBackLost (Free pool) n v at fits wrong = absurd wrong
  wrong_kind GivesBackLost (Mapped es) n v at fits wrong = omega (arith, at, fits.0, fits.1, some)
  wrong_kind GivesBackLost (Taken bs) n v at fits wrong = omega (arith, at, fits.0, some)
  wrong_kind FindsEndpoint x n v at fits wrong = absurd wrong
  wrong_kind AsksIfLives x n v at fits wrong = absurd wrong
  wrong_kind CountsDrop (Dropped d) n v at fits wrong = absurd wrong
  wrong_kind CountsDrop (Free pool) n v at fits wrong = omega (arith, at, fits.0, some)
  wrong_kind CountsDrop (Mapped es) n v at fits wrong = omega (arith, at, fits.0, fits.1, some)
  wrong_kind CountsDrop (Taken bs) n v at fits wrong = omega (arith, at, fits.0, some)
  wrong_kind SendsOut x n v at fits wrong = absurd wrong
  wrong_kind Ends x n v at fits wrong = absurd wrong
  wrong_kind FindsPort x n v at fits wrong = absurd wrong

-- what is counted in one value and of one packet in hand
abbrev pub seen : PortKey → Endpoint → NatValue → Place → Noted → Tally
seen k e x p n = record {
  free = free_at k x;
  mapped = mapped_at (maps k) x;
  mapped_for = mapped_at (maps_for k e) x;
  bare = bare k p n;
  queued = queued k p n;
  queued_for = queued_for k e p n;
  loose = loose k p n;
  taken = taken_at (binds k) x;
  taken_for = taken_at (binds_for k e) x;
}

-- the sums after one of their terms went from x to y
pub record Shifts (before after x y : Tally) : Type 0 where
  pub free : after.free + x.free ≡ before.free + y.free
  pub mapped : after.mapped + x.mapped ≡ before.mapped + y.mapped
  pub mapped_for : after.mapped_for + x.mapped_for ≡ before.mapped_for + y.mapped_for
  pub bare : after.bare + x.bare ≡ before.bare + y.bare
  pub queued : after.queued + x.queued ≡ before.queued + y.queued
  pub queued_for : after.queued_for + x.queued_for ≡ before.queued_for + y.queued_for
  pub loose : after.loose + x.loose ≡ before.loose + y.loose

pub record IsPart (x y : Tally) : Type 0 where
  pub free : x.free ≤ y.free
  pub mapped : x.mapped ≤ y.mapped
  pub bare : x.bare ≤ y.bare
  pub queued : x.queued ≤ y.queued
  pub loose : x.loose ≤ y.loose

pub record IsUnder (y : Tally) : Type 0 where
  pub mapped : y.mapped_for ≤ y.mapped
  pub queued : y.queued_for ≤ y.queued

-- the port's own reverse table was touched, or another variable
abbrev pub Own : Bool → Tally → Tally → Tally → Tally → Type 0
Own true before after x y =
    (before.taken ≡ x.taken) × (after.taken ≡ y.taken) × (before.taken_for ≡ x.taken_for)
    × (after.taken_for ≡ y.taken_for)
Own false before after x y = (after.taken ≡ before.taken) × (after.taken_for ≡ before.taken_for)

same_taken : (own : Bool) (before after x y : Tally) → Own own before after x y → y.taken ≡ x.taken
    → y.taken_for ≡ x.taken_for → (after.taken ≡ before.taken) × (after.taken_for ≡ before.taken_for)
same_taken true before after x y h a b = (h.1 ∙ a ∙ sym h.0, h.3 ∙ b ∙ sym h.2)
same_taken false before after x y h a b = h

pub of_range_one : (low high : ℕ) (k : PortKey) → of_range low high k ≤ 1
of_range_one low high k = grind arith

and_false : (b : Bool) → (false && b) ≡ false
and_false b = refl

module _ (s : Settings) (some : 1 ≤ s.shards) (k : PortKey) (e : Endpoint) (there : ℕ) (most : there ≤ 1) (own : Bool)
    (y z : Tally) (sound : IsSound there y) (under : IsUnder y) where
  -- nothing changes
  pub stays_sound : (a b : Tally) → Shifts y z a b
      → (b.free ≡ a.free) × (b.mapped ≡ a.mapped) × (b.mapped_for ≡ a.mapped_for) × (b.bare ≡ a.bare)
      × (b.queued ≡ a.queued) × (b.queued_for ≡ a.queued_for) × (b.loose ≡ a.loose)
      → (z.taken ≡ y.taken) × (z.taken_for ≡ y.taken_for) → IsSound there z
  stays_sound a b shift same taken =
      let f : z.free ≡ y.free = omega (arith, shift.free, same.0) in
      let m : z.mapped ≡ y.mapped = omega (arith, shift.mapped, same.1) in
      let mf : z.mapped_for ≡ y.mapped_for = omega (arith, shift.mapped_for, same.2) in
      let b : z.bare ≡ y.bare = omega (arith, shift.bare, same.3) in
      let q : z.queued ≡ y.queued = omega (arith, shift.queued, same.4) in
      let qf : z.queued_for ≡ y.queued_for = omega (arith, shift.queued_for, same.5) in
      let l : z.loose ≡ y.loose = omega (arith, shift.loose, same.6) in
      record {
        one = omega (arith, sound.one, f, m, b, q, l);
        bound = omega (arith, sound.bound, m, q, l, taken.0);
        same = omega (arith, sound.same, mf, qf, taken.1);
      }

  -- A mapping is removed, and its port is with the packet in hand
  module _ (n : Noted) (es : Forwards) where
    freed_sound : (gone : Endpoint × Slot) (left : Forwards)
        → ((number : Endpoint → ℕ → ℕ) → total number left + number gone.0 gone.1.port ≡ total number es)
        → Shifts y z (seen k e (Mapped es) FindsMapping n)
        (seen k e (Mapped left) UnbindsFreed (record n { freed = port_of gone }))
        → Own own y z (seen k e (Mapped es) FindsMapping n)
        (seen k e (Mapped left) UnbindsFreed (record n { freed = port_of gone })) → IsSound there z
    freed_sound gone left sums shift owns =
        let a : total (maps k) left + maps k gone.0 gone.1.port ≡ total (maps k) es = sums (maps k) in
        let c : total (maps_for k e) left + maps_for k e gone.0 gone.1.port ≡ total (maps_for k e) es =
        sums (maps_for k e) in
        let t = same_taken own y z (seen k e (Mapped es) FindsMapping n)
        (seen k e (Mapped left) UnbindsFreed (record n { freed = port_of gone })) owns refl refl in
        let f : z.free ≡ y.free = omega (arith, shift.free) in
        let m : z.mapped + maps k gone.0 gone.1.port ≡ y.mapped = omega (arith, shift.mapped, a) in
        let mf : z.mapped_for + maps_for k e gone.0 gone.1.port ≡ y.mapped_for = omega (arith, shift.mapped_for, c) in
        let b : z.bare ≡ y.bare = omega (arith, shift.bare) in
        let q : z.queued ≡ y.queued = omega (arith, shift.queued) in
        let qf : z.queued_for ≡ y.queued_for = omega (arith, shift.queued_for) in
        let l : z.loose ≡ y.loose + maps k gone.0 gone.1.port = omega (arith, shift.loose) in
        record {
          one = omega (arith, sound.one, f, m, b, q, l);
          bound = omega (arith, sound.bound, m, q, l, t.0);
          same = omega (arith, sound.same, mf, qf, t.1);
        }

    kept_sound : (p : Place) (m : Noted) (left : Forwards) → HoldsNone p
        → ((number : Endpoint → ℕ → ℕ) → total number left ≡ total number es)
        → Shifts y z (seen k e (Mapped es) FindsMapping n) (seen k e (Mapped left) p m)
        → Own own y z (seen k e (Mapped es) FindsMapping n) (seen k e (Mapped left) p m) → IsSound there z
    kept_sound p m left none sums shift owns =
        let h = holds_none k e p m none in
        stays_sound (seen k e (Mapped es) FindsMapping n) (seen k e (Mapped left) p m) shift
        (refl, sums (maps k), sums (maps_for k e), h.0, h.1, h.2, h.3)
        (same_taken own y z (seen k e (Mapped es) FindsMapping n) (seen k e (Mapped left) p m) owns refl refl)

    -- by what was found, and for a mapping that is there whether it is idle
    idle_or_not : (slot : Slot) (idle : Bool) → slot_of n.source es ≡ Some slot
        → (let r = found_there n.source n.time es slot idle in
        Shifts y z (seen k e (Mapped es) FindsMapping n)
        (seen k e (Mapped r.1) (after_find n r.0).place (after_find n r.0).noted))
        → (let r = found_there n.source n.time es slot idle in
        Own own y z (seen k e (Mapped es) FindsMapping n)
        (seen k e (Mapped r.1) (after_find n r.0).place (after_find n r.0).noted)) → IsSound there z
    idle_or_not slot true is shift owns = freed_sound (n.source, slot) (without n.source es)
        (λ number. total_without number n.source slot es is) shift owns
    idle_or_not slot false is shift owns =
        let m : Noted = record n { port = slot.port } in
        kept_sound (mapped m m.class).place (mapped m m.class).noted (refresh n.source n.time es)
        (mapped_none m m.class) (λ number. total_refresh number n.source n.time es) shift owns

    find_by : (a : Option Slot) (b : Option (Endpoint × Slot)) → slot_of n.source es ≡ a → first_idle n.time es ≡ b
        → (let r = found n.source n.time es a b in
        Shifts y z (seen k e (Mapped es) FindsMapping n)
        (seen k e (Mapped r.1) (after_find n r.0).place (after_find n r.0).noted))
        → (let r = found n.source n.time es a b in
        Own own y z (seen k e (Mapped es) FindsMapping n)
        (seen k e (Mapped r.1) (after_find n r.0).place (after_find n r.0).noted)) → IsSound there z
    find_by (Some slot) b is first shift owns = idle_or_not slot (is_idle n.time (n.source, slot)) is shift owns
    find_by None (Some gone) is first shift owns =
        freed_sound gone (without_idle n.time es) (λ number. total_without_idle number n.time gone es first) shift owns
    find_by None None is first shift owns = kept_sound DrawsWord n es tt (λ number. refl) shift owns

    -- the port in hand is lost: no mapping is made of it
    lost_sound : (port : ℕ) (left : Forwards) → ((number : Endpoint → ℕ → ℕ) → total number left ≡ total number es)
        → Shifts y z (seen k e (Mapped es) FindsOrBinds n)
        (seen k e (Mapped left) UnbindsLost (record n { port = port; freed = source_key n }))
        → Own own y z (seen k e (Mapped es) FindsOrBinds n)
        (seen k e (Mapped left) UnbindsLost (record n { port = port; freed = source_key n })) → IsSound there z
    lost_sound port left sums shift owns =
        let m : Noted = record n { port = port; freed = source_key n } in
        let a : total (maps k) left ≡ total (maps k) es = sums (maps k) in
        let c : total (maps_for k e) left ≡ total (maps_for k e) es = sums (maps_for k e) in
        let t = same_taken own y z (seen k e (Mapped es) FindsOrBinds n) (seen k e (Mapped left) UnbindsLost m) owns
        refl refl in
        let f : z.free ≡ y.free = omega (arith, shift.free) in
        let mm : z.mapped ≡ y.mapped = omega (arith, shift.mapped, a) in
        let mf : z.mapped_for ≡ y.mapped_for = omega (arith, shift.mapped_for, c) in
        let b : z.bare ≡ y.bare = omega (arith, shift.bare) in
        let q : z.queued + one_if (same_port k (source_key n)) ≡ y.queued = omega (arith, shift.queued) in
        let qf : z.queued_for ≤ y.queued_for = omega (arith, shift.queued_for) in
        let l : z.loose ≡ y.loose + one_if (same_port k (source_key n)) = omega (arith, shift.loose) in
        record {
          one = omega (arith, sound.one, f, mm, b, q, l);
          bound = omega (arith, sound.bound, mm, q, l, t.0);
          same = omega (arith, sound.same, mf, qf, t.1);
        }

    -- a mapping is made of the port in hand, or one is there and the port in hand is lost
    bind_by : (a : Option Slot) → slot_of n.source es ≡ a
        → (let r = bound n.source n.port n.time es a in
        Shifts y z (seen k e (Mapped es) FindsOrBinds n)
        (seen k e (Mapped r.1) (after_bind n r.0).place (after_bind n r.0).noted))
        → (let r = bound n.source n.port n.time es a in
        Own own y z (seen k e (Mapped es) FindsOrBinds n)
        (seen k e (Mapped r.1) (after_bind n r.0).place (after_bind n r.0).noted)) → IsSound there z
    bind_by (Some slot) is shift owns =
        lost_sound slot.port (refresh n.source n.time es) (λ number. total_refresh number n.source n.time es) shift owns
    bind_by None is shift owns =
        let slot : Slot = record { port = n.port; last = n.time; phase = Plain } in
        let left : Forwards = es ++ (n.source, slot) ∷ [] in
        let a : total (maps k) left ≡ total (maps k) es + one_if (same_port k (source_key n)) =
        total_append (maps k) n.source slot es in
        let c : total (maps_for k e) left
        ≡ total (maps_for k e) es + one_if (same_port k (source_key n) && same_endpoint e n.source) =
        total_append (maps_for k e) n.source slot es in
        let h = holds_none k e (mapped n n.class).place (mapped n n.class).noted (mapped_none n n.class) in
        let t = same_taken own y z (seen k e (Mapped es) FindsOrBinds n)
        (seen k e (Mapped left) (mapped n n.class).place (mapped n n.class).noted) owns refl refl in
        let f : z.free ≡ y.free = omega (arith, shift.free) in
        let mm : z.mapped ≡ y.mapped + one_if (same_port k (source_key n)) = omega (arith, shift.mapped, a) in
        let mf : z.mapped_for ≡ y.mapped_for + one_if (same_port k (source_key n) && same_endpoint e n.source) =
        omega (arith, shift.mapped_for, c) in
        let b : z.bare ≡ y.bare = omega (arith, shift.bare, h.0) in
        let q : z.queued + one_if (same_port k (source_key n)) ≡ y.queued = omega (arith, shift.queued, h.1) in
        let qf : z.queued_for + one_if (same_port k (source_key n) && same_endpoint e n.source) ≡ y.queued_for =
        omega (arith, shift.queued_for, h.2) in
        let l : z.loose ≡ y.loose = omega (arith, shift.loose, h.3) in
        record {
          one = omega (arith, sound.one, f, mm, b, q, l);
          bound = omega (arith, sound.bound, mm, q, l, t.0);
          same = omega (arith, sound.same, mf, qf, t.1);
        }

  -- a port is taken out of the pool, or none is free
  reserve_by : (n : Noted) (pool left : PoolPorts) (o : Option ℕ)
      → free_of k.protocol k.port left + if_key k n.source.protocol o ≡ free_of k.protocol k.port pool
      → Shifts y z (seen k e (Free pool) ReservesPort n)
      (seen k e (Free left) (after_reserve n o).place (after_reserve n o).noted)
      → Own own y z (seen k e (Free pool) ReservesPort n)
      (seen k e (Free left) (after_reserve n o).place (after_reserve n o).noted) → IsSound there z
  reserve_by n pool left None sum shift owns =
      stays_sound (seen k e (Free pool) ReservesPort n) (seen k e (Free left) CountsDrop (after_reserve n None).noted)
      shift (omega (arith, sum), refl, refl, refl, refl, refl, refl)
      (same_taken own y z (seen k e (Free pool) ReservesPort n)
      (seen k e (Free left) CountsDrop (after_reserve n None).noted) owns refl refl)
  reserve_by n pool left (Some port) sum shift owns =
      let m : Noted = record n { port = port } in
      let t =
      same_taken own y z (seen k e (Free pool) ReservesPort n) (seen k e (Free left) BindsPort m) owns refl refl in
      let f : z.free + one_if (same_port k (port_key n.source.protocol port)) ≡ y.free =
      omega (arith, shift.free, sum) in
      let mm : z.mapped ≡ y.mapped = omega (arith, shift.mapped) in
      let mf : z.mapped_for ≡ y.mapped_for = omega (arith, shift.mapped_for) in
      let b : z.bare ≡ y.bare + one_if (same_port k (port_key n.source.protocol port)) = omega (arith, shift.bare) in
      let q : z.queued ≡ y.queued = omega (arith, shift.queued) in
      let qf : z.queued_for ≡ y.queued_for = omega (arith, shift.queued_for) in
      let l : z.loose ≡ y.loose = omega (arith, shift.loose) in
      record {
        one = omega (arith, sound.one, f, mm, b, q, l);
        bound = omega (arith, sound.bound, mm, q, l, t.0);
        same = omega (arith, sound.same, mf, qf, t.1);
      }

  in_range : (low high : ℕ) (pool : PoolPorts) → low ≡ pool.low → high ≡ pool.high
      → (y.mapped ≡ 0 → of_range low high k ≡ there) → y.mapped ≡ 0 → of_range pool.low pool.high k ≡ there
  in_range low high pool a b range none =
      ap (λ (l : ℕ). of_range l pool.high k) (sym a) ∙ ap (λ (h : ℕ). of_range low h k) (sym b) ∙ range none

  -- a port goes back to the pool
  module _ (n : Noted) (pool : PoolPorts) (p : Place)
      (was : (bare k p n ≡ one_if (same_port k n.freed)) × (queued k p n ≡ 0) × (queued_for k e p n ≡ 0)
      × (loose k p n ≡ 0)) (q : Place) (m : Noted) (none : HoldsNone q)
      (range : y.mapped ≡ 0 → of_range pool.low pool.high k ≡ there) where
    abbrev left : PoolPorts
    left = give_back n.freed.protocol n.freed.port pool

    give_by : (same : Bool) → same_port k n.freed ≡ same → IsPart (seen k e (Free pool) p n) y
        → Shifts y z (seen k e (Free pool) p n) (seen k e (Free left) q m)
        → Own own y z (seen k e (Free pool) p n) (seen k e (Free left) q m) → IsSound there z
    give_by false other part shift owns =
        let h = holds_none k e q m none in
        let none_bare : bare k p n ≡ 0 = was.0 ∙ ap one_if other in
        stays_sound (seen k e (Free pool) p n) (seen k e (Free left) q m) shift (
          free_given_other k n.freed pool other,
          refl,
          refl,
          h.0 ∙ sym none_bare,
          h.1 ∙ sym was.1,
          h.2 ∙ sym was.2,
          h.3 ∙ sym was.3,
        ) (same_taken own y z (seen k e (Free pool) p n) (seen k e (Free left) q m) owns refl refl)
    give_by true same part shift owns =
        let h = holds_none k e q m none in
        let t = same_taken own y z (seen k e (Free pool) p n) (seen k e (Free left) q m) owns refl refl in
        let is : k ≡ n.freed = port_is k n.freed same in
        let one : bare k p n ≡ 1 = was.0 ∙ ap one_if same in
        let some : 1 ≤ y.bare = omega (arith, part.bare, one) in
        let full : there ≡ 1 = omega (arith, most, sound.one, some) in
        let unmapped : y.mapped ≡ 0 = omega (arith, sound.one, some, most) in
        let empty : free_of k.protocol k.port pool ≡ 0 = omega (arith, part.free, sound.one, some, most) in
        let new : free_of k.protocol k.port left ≡ 1 =
        subst (λ (f : PortKey). free_of k.protocol k.port (give_back f.protocol f.port pool) ≡ 1) is
        (free_given k pool (range unmapped ∙ full) empty) in
        let f : z.free ≡ y.free + 1 = omega (arith, shift.free, new, empty) in
        let mm : z.mapped ≡ y.mapped = omega (arith, shift.mapped) in
        let mf : z.mapped_for ≡ y.mapped_for = omega (arith, shift.mapped_for) in
        let b : z.bare + 1 ≡ y.bare = omega (arith, shift.bare, one, h.0) in
        let qq : z.queued ≡ y.queued = omega (arith, shift.queued, h.1, was.1) in
        let qf : z.queued_for ≡ y.queued_for = omega (arith, shift.queued_for, h.2, was.2) in
        let l : z.loose ≡ y.loose = omega (arith, shift.loose, h.3, was.3) in
        record {
          one = omega (arith, sound.one, f, mm, b, qq, l);
          bound = omega (arith, sound.bound, mm, qq, l, t.0);
          same = omega (arith, sound.same, mf, qf, t.1);
        }

  -- a port is unbound
  module _ (n : Noted) (bs : Reverses) (p : Place)
      (was : (bare k p n ≡ 0) × (queued k p n ≡ 0) × (queued_for k e p n ≡ 0)
      × (loose k p n ≡ one_if (same_port k n.freed))) (q : Place)
      (next : (bare k q n ≡ one_if (same_port k n.freed)) × (queued k q n ≡ 0) × (queued_for k e q n ≡ 0)
      × (loose k q n ≡ 0)) where
    unbind_by : (same : Bool) → same_port k n.freed ≡ same → (same_port k n.freed ≡ true → own ≡ true)
        → IsPart (seen k e (Taken bs) p n) y
        → Shifts y z (seen k e (Taken bs) p n) (seen k e (Taken (unbind n.freed bs)) q n)
        → Own own y z (seen k e (Taken bs) p n) (seen k e (Taken (unbind n.freed bs)) q n) → IsSound there z
    unbind_by false other its part shift owns =
        let x : Tally = seen k e (Taken bs) p n in
        let zero_loose : loose k p n ≡ 0 = was.3 ∙ ap one_if other in
        let zero_bare : bare k q n ≡ 0 = next.0 ∙ ap one_if other in
        let a : total_bound (binds k) (unbind n.freed bs) ≡ total_bound (binds k) bs =
        total_unbind_other (binds k) n.freed bs (λ d. ap one_if other) in
        let c : total_bound (binds_for k e) (unbind n.freed bs) ≡ total_bound (binds_for k e) bs =
        total_unbind_other (binds_for k e) n.freed bs (λ d. rw other refl) in
        stays_sound (seen k e (Taken bs) p n) (seen k e (Taken (unbind n.freed bs)) q n) shift
        (refl, refl, refl, zero_bare ∙ sym was.0, next.1 ∙ sym was.1, next.2 ∙ sym was.2, next.3 ∙ sym zero_loose)
        (same_taken own y z (seen k e (Taken bs) p n) (seen k e (Taken (unbind n.freed bs)) q n) owns a c)
    unbind_by true same its part shift owns =
        let is : k ≡ n.freed = port_is k n.freed same in
        let owned : Own true y z (seen k e (Taken bs) p n) (seen k e (Taken (unbind n.freed bs)) q n) =
        subst (λ (b : Bool). Own b y z (seen k e (Taken bs) p n) (seen k e (Taken (unbind n.freed bs)) q n))
        (its same) owns in
        let was_one : loose k p n ≡ 1 = was.3 ∙ ap one_if same in
        let next_one : bare k q n ≡ 1 = next.0 ∙ ap one_if same in
        let some : 1 ≤ y.loose = omega (arith, part.loose, was_one) in
        let there_is : 1 ≤ total_bound (binds k) bs = omega (arith, sound.bound, some, owned.0) in
        let gone : total_bound (binds k) (unbind n.freed bs) + 1 ≡ total_bound (binds k) bs =
        subst (λ (f : PortKey). total_bound (binds k) (unbind f bs) + 1 ≡ total_bound (binds k) bs) is
        (total_unbind k bs there_is) in
        let t : z.taken + 1 ≡ y.taken = omega (arith, owned.0, owned.1, gone) in
        let f : z.free ≡ y.free = omega (arith, shift.free) in
        let mm : z.mapped ≡ y.mapped = omega (arith, shift.mapped) in
        let mf : z.mapped_for ≡ y.mapped_for = omega (arith, shift.mapped_for) in
        let b : z.bare ≡ y.bare + 1 = omega (arith, shift.bare, was.0, next_one) in
        let qq : z.queued ≡ y.queued = omega (arith, shift.queued, was.1, next.1) in
        let qf : z.queued_for ≡ y.queued_for = omega (arith, shift.queued_for, was.2, next.2) in
        let l : z.loose + 1 ≡ y.loose = omega (arith, shift.loose, was_one, next.3) in
        let none : z.mapped_for + z.queued_for ≡ 0 =
        omega (arith, under.mapped, under.queued, sound.one, some, most, mf, qf) in
        record {
          one = omega (arith, sound.one, f, mm, b, qq, l);
          bound = omega (arith, sound.bound, mm, qq, l, t);
          same = omega (arith, none);
        }

  -- a port is bound
  bind_port_by : (n : Noted) (bs : Reverses) (same : Bool) → same_port k (source_key n) ≡ same
      → (same_port k (source_key n) ≡ true → own ≡ true) → IsPart (seen k e (Taken bs) BindsPort n) y
      → Shifts y z (seen k e (Taken bs) BindsPort n) (seen k e (Taken (bind (source_key n) n.source bs)) FindsOrBinds n)
      → Own own y z (seen k e (Taken bs) BindsPort n)
      (seen k e (Taken (bind (source_key n) n.source bs)) FindsOrBinds n) → IsSound there z
  bind_port_by n bs false other its part shift owns =
      let a : total_bound (binds k) (bind (source_key n) n.source bs) ≡ total_bound (binds k) bs =
      total_bind_other (binds k) (source_key n) n.source bs (λ d. ap one_if other) in
      let c : total_bound (binds_for k e) (bind (source_key n) n.source bs) ≡ total_bound (binds_for k e) bs =
      total_bind_other (binds_for k e) (source_key n) n.source bs (λ d. rw other refl) in
      let zero_if : one_if (same_port k (source_key n)) ≡ 0 = ap one_if other in
      let zero_for : one_if (same_port k (source_key n) && same_endpoint e n.source) ≡ 0 = rw other refl in
      stays_sound (seen k e (Taken bs) BindsPort n) (seen k e (Taken (bind (source_key n) n.source bs)) FindsOrBinds n)
      shift (refl, refl, refl, sym zero_if, zero_if, zero_for, refl)
      (same_taken own y z (seen k e (Taken bs) BindsPort n)
      (seen k e (Taken (bind (source_key n) n.source bs)) FindsOrBinds n) owns a c)
  bind_port_by n bs true same its part shift owns =
      let is : k ≡ source_key n = port_is k (source_key n) same in
      let owned : Own true y z (seen k e (Taken bs) BindsPort n)
      (seen k e (Taken (bind (source_key n) n.source bs)) FindsOrBinds n) =
      subst (λ (b : Bool).
      Own b y z (seen k e (Taken bs) BindsPort n) (seen k e (Taken (bind (source_key n) n.source bs)) FindsOrBinds n))
      (its same) owns in
      let one : one_if (same_port k (source_key n)) ≡ 1 = ap one_if same in
      let some : 1 ≤ y.bare = omega (arith, part.bare, one) in
      let unbound : total_bound (binds k) bs ≡ 0 = omega (arith, sound.bound, sound.one, some, most, owned.0) in
      let number : (w : PortKey → Endpoint → ℕ)
      → total_bound w (bind (source_key n) n.source bs) ≡ total_bound w bs + w (source_key n) n.source =
      λ w. total_bind w (source_key n) n.source bs (subst (λ (f : PortKey). total_bound (binds f) bs ≡ 0) is unbound) in
      let a : total_bound (binds k) (bind (source_key n) n.source bs)
      ≡ total_bound (binds k) bs + one_if (same_port k (source_key n)) = number (binds k) in
      let c : total_bound (binds_for k e) (bind (source_key n) n.source bs)
      ≡ total_bound (binds_for k e) bs + one_if (same_port k (source_key n) && same_endpoint e n.source) =
      number (binds_for k e) in
      let t : z.taken ≡ y.taken + 1 = omega (arith, owned.0, owned.1, a, one) in
      let tf : z.taken_for ≡ y.taken_for + one_if (same_port k (source_key n) && same_endpoint e n.source) =
      omega (arith, owned.2, owned.3, c) in
      let f : z.free ≡ y.free = omega (arith, shift.free) in
      let mm : z.mapped ≡ y.mapped = omega (arith, shift.mapped) in
      let mf : z.mapped_for ≡ y.mapped_for = omega (arith, shift.mapped_for) in
      let b : z.bare + 1 ≡ y.bare = omega (arith, shift.bare, one) in
      let q : z.queued ≡ y.queued + 1 = omega (arith, shift.queued, one) in
      let qf : z.queued_for ≡ y.queued_for + one_if (same_port k (source_key n) && same_endpoint e n.source) =
      omega (arith, shift.queued_for) in
      let l : z.loose ≡ y.loose = omega (arith, shift.loose) in
      record {
        one = omega (arith, sound.one, f, mm, b, q, l);
        bound = omega (arith, sound.bound, mm, q, l, t);
        same = omega (arith, sound.same, mf, qf, tf);
      }

  own_table : (f : PortKey) (v : ℕ) → reverse_table s f ≡ v → (v == reverse_table s k) ≡ own → same_port k f ≡ true
      → own ≡ true
  own_table f v at is same =
      let a : k ≡ f = port_is k f same in
      let b : reverse_table s k ≡ v = ap (reverse_table s) a ∙ at in
      let c : (v == reverse_table s k) ≡ true = grind (arith, nat_tests) in sym is ∙ c

  -- each touch
  touch_sound : (p : Place) (x : NatValue) (n : Noted) (v : ℕ) → var_of s p n ≡ v → (v == reverse_table s k) ≡ own
      → Fits s v x → (y.mapped ≡ 0 → of_range s.low s.high k ≡ there) → IsPart (seen k e x p n) y
      → Shifts y z (seen k e x p n) (seen k e (touched p x n).0 (touched p x n).1.place (touched p x n).1.noted)
      → Own own y z (seen k e x p n) (seen k e (touched p x n).0 (touched p x n).1.place (touched p x n).1.noted)
      → Touches p → IsSound there z
  touch_sound HearsTime x n v at is fits range part shift owns touches = absurd touches
  touch_sound FindsMapping (Dropped d) n v at is fits range part shift owns touches =
      absurd (wrong_kind s some FindsMapping (Dropped d) n v at fits tt)
  touch_sound FindsMapping (Free pool) n v at is fits range part shift owns touches =
      absurd (wrong_kind s some FindsMapping (Free pool) n v at fits tt)
  touch_sound FindsMapping (Mapped es) n v at is fits range part shift owns touches =
      find_by n es (slot_of n.source es) (first_idle n.time es) refl refl shift owns
  touch_sound FindsMapping (Taken bs) n v at is fits range part shift owns touches =
      absurd (wrong_kind s some FindsMapping (Taken bs) n v at fits tt)
  touch_sound UnbindsFreed (Dropped d) n v at is fits range part shift owns touches =
      absurd (wrong_kind s some UnbindsFreed (Dropped d) n v at fits tt)
  touch_sound UnbindsFreed (Free pool) n v at is fits range part shift owns touches =
      absurd (wrong_kind s some UnbindsFreed (Free pool) n v at fits tt)
  touch_sound UnbindsFreed (Mapped es) n v at is fits range part shift owns touches =
      absurd (wrong_kind s some UnbindsFreed (Mapped es) n v at fits tt)
  touch_sound UnbindsFreed (Taken bs) n v at is fits range part shift owns touches =
      unbind_by n bs UnbindsFreed (refl, refl, refl, refl) GivesBackFreed (refl, refl, refl, refl) (same_port k n.freed)
      refl (own_table n.freed v at is) part shift owns
  touch_sound GivesBackFreed (Dropped d) n v at is fits range part shift owns touches =
      absurd (wrong_kind s some GivesBackFreed (Dropped d) n v at fits tt)
  touch_sound GivesBackFreed (Free pool) n v at is fits range part shift owns touches = give_by n pool GivesBackFreed
      (refl, refl, refl, refl) DrawsWord n tt (in_range s.low s.high pool (sym fits.1) (sym fits.2) range)
      (same_port k n.freed) refl part shift owns
  touch_sound GivesBackFreed (Mapped es) n v at is fits range part shift owns touches =
      absurd (wrong_kind s some GivesBackFreed (Mapped es) n v at fits tt)
  touch_sound GivesBackFreed (Taken bs) n v at is fits range part shift owns touches =
      absurd (wrong_kind s some GivesBackFreed (Taken bs) n v at fits tt)
  touch_sound DrawsWord x n v at is fits range part shift owns touches = absurd touches
  touch_sound ReservesPort (Dropped d) n v at is fits range part shift owns touches =
      absurd (wrong_kind s some ReservesPort (Dropped d) n v at fits tt)
  touch_sound ReservesPort (Free pool) n v at is fits range part shift owns touches =
      let r = reserve n.source.protocol n.source.port (drawn_word n) pool in
      reserve_by n pool r.1 r.0 (free_reserved k n.source.protocol n.source.port (drawn_word n) pool) shift owns
  touch_sound ReservesPort (Mapped es) n v at is fits range part shift owns touches =
      absurd (wrong_kind s some ReservesPort (Mapped es) n v at fits tt)
  touch_sound ReservesPort (Taken bs) n v at is fits range part shift owns touches =
      absurd (wrong_kind s some ReservesPort (Taken bs) n v at fits tt)
  touch_sound BindsPort (Dropped d) n v at is fits range part shift owns touches =
      absurd (wrong_kind s some BindsPort (Dropped d) n v at fits tt)
  touch_sound BindsPort (Free pool) n v at is fits range part shift owns touches =
      absurd (wrong_kind s some BindsPort (Free pool) n v at fits tt)
  touch_sound BindsPort (Mapped es) n v at is fits range part shift owns touches =
      absurd (wrong_kind s some BindsPort (Mapped es) n v at fits tt)
  touch_sound BindsPort (Taken bs) n v at is fits range part shift owns touches =
      bind_port_by n bs (same_port k (source_key n)) refl (own_table (source_key n) v at is) part shift owns
  touch_sound FindsOrBinds (Dropped d) n v at is fits range part shift owns touches =
      absurd (wrong_kind s some FindsOrBinds (Dropped d) n v at fits tt)
  touch_sound FindsOrBinds (Free pool) n v at is fits range part shift owns touches =
      absurd (wrong_kind s some FindsOrBinds (Free pool) n v at fits tt)
  touch_sound FindsOrBinds (Mapped es) n v at is fits range part shift owns touches =
      bind_by n es (slot_of n.source es) refl shift owns
  touch_sound FindsOrBinds (Taken bs) n v at is fits range part shift owns touches =
      absurd (wrong_kind s some FindsOrBinds (Taken bs) n v at fits tt)
  touch_sound UnbindsLost (Dropped d) n v at is fits range part shift owns touches =
      absurd (wrong_kind s some UnbindsLost (Dropped d) n v at fits tt)
  touch_sound UnbindsLost (Free pool) n v at is fits range part shift owns touches =
      absurd (wrong_kind s some UnbindsLost (Free pool) n v at fits tt)
  touch_sound UnbindsLost (Mapped es) n v at is fits range part shift owns touches =
      absurd (wrong_kind s some UnbindsLost (Mapped es) n v at fits tt)
  touch_sound UnbindsLost (Taken bs) n v at is fits range part shift owns touches =
      unbind_by n bs UnbindsLost (refl, refl, refl, refl) GivesBackLost (refl, refl, refl, refl) (same_port k n.freed)
      refl (own_table n.freed v at is) part shift owns
  touch_sound GivesBackLost (Dropped d) n v at is fits range part shift owns touches =
      absurd (wrong_kind s some GivesBackLost (Dropped d) n v at fits tt)
  touch_sound GivesBackLost (Free pool) n v at is fits range part shift owns touches =
      give_by n pool GivesBackLost (refl, refl, refl, refl) (mapped n n.class).place (mapped n n.class).noted
      (mapped_none n n.class) (in_range s.low s.high pool (sym fits.1) (sym fits.2) range) (same_port k n.freed) refl
      part shift owns
  touch_sound GivesBackLost (Mapped es) n v at is fits range part shift owns touches =
      absurd (wrong_kind s some GivesBackLost (Mapped es) n v at fits tt)
  touch_sound GivesBackLost (Taken bs) n v at is fits range part shift owns touches =
      absurd (wrong_kind s some GivesBackLost (Taken bs) n v at fits tt)
  touch_sound FindsEndpoint x n v at is fits range part shift owns touches = absurd touches
  touch_sound AsksIfLives x n v at is fits range part shift owns touches = absurd touches
  touch_sound CountsDrop (Dropped d) n v at is fits range part shift owns touches = stays_sound
      (seen k e (Dropped d) CountsDrop n) (seen k e (Dropped d) Ends n) shift (refl, refl, refl, refl, refl, refl, refl)
      (same_taken own y z (seen k e (Dropped d) CountsDrop n) (seen k e (Dropped d) Ends n) owns refl refl)
  touch_sound CountsDrop (Free pool) n v at is fits range part shift owns touches =
      absurd (wrong_kind s some CountsDrop (Free pool) n v at fits tt)
  touch_sound CountsDrop (Mapped es) n v at is fits range part shift owns touches =
      absurd (wrong_kind s some CountsDrop (Mapped es) n v at fits tt)
  touch_sound CountsDrop (Taken bs) n v at is fits range part shift owns touches =
      absurd (wrong_kind s some CountsDrop (Taken bs) n v at fits tt)
  touch_sound SendsOut x n v at is fits range part shift owns touches = absurd touches
  touch_sound Ends x n v at is fits range part shift owns touches = absurd touches
  touch_sound FindsPort x n v at is fits range part shift owns touches = absurd touches

  -- what was counted before a touch, and how it changes
  abbrev Turns : Place → NatValue → Noted → NatValue × Goes → Type 0
  Turns p x n r =
      IsPart (seen k e x p n) y × Shifts y z (seen k e x p n) (seen k e r.0 r.1.place r.1.noted)
      × Own own y z (seen k e x p n) (seen k e r.0 r.1.place r.1.noted)

  turns_as : (n : Noted) (p q : Place) (x w : NatValue) (r t : NatValue × Goes) → p ≡ q → x ≡ w → r ≡ t → Turns p x n r
      → Turns q w n t
  turns_as n p q x w r t at value same turns =
      subst (λ (u : NatValue × Goes). Turns q w n u) same
      (subst (λ (u : NatValue). Turns q u n r) value (subst (λ (u : Place). Turns u x n r) at turns))

  -- each touch, where hosts have a limit or not
  pub limited_sound : (p : Place) (x : NatValue) (n : Noted) (v : ℕ) (r : NatValue × Goes) → var_of s p n ≡ v
      → (v == reverse_table s k) ≡ own → Fits s v x → (y.mapped ≡ 0 → of_range s.low s.high k ≡ there) → Turns p x n r
      → Touches p → Comes s.limit p x n r → IsSound there z
  limited_sound p x n v r at is fits range turns touches (inl agrees) =
      let t : Turns p x n (touched p x n) = turns_as n p p x x r (touched p x n) refl refl agrees.same turns in
      touch_sound p x n v at is fits range t.0 t.1 t.2 touches
  limited_sound p x n v r at is fits range turns touches (inr (inl (inl up))) =
      let left : Forwards = without up.gone.0 up.es in
      let t = turns_as n p FindsMapping x (Mapped up.es) r
      (Mapped left, goes UnbindsFreed (record n { freed = port_of up.gone })) up.at up.value up.goes_on turns in
      freed_sound n up.es up.gone left (λ number. total_without number up.gone.0 up.gone.1 up.es up.there) t.1 t.2
  limited_sound p x n v r at is fits range turns touches (inr (inl (inr full))) =
      let t = turns_as n p FindsMapping x (Mapped full.es) r (Mapped full.es, dropped n over_limit) full.at full.value
      full.goes_on turns in
      kept_sound n full.es CountsDrop (dropped n over_limit).noted full.es tt (λ number. refl) t.1 t.2
  limited_sound p x n v r at is fits range turns touches (inr (inr (inl refused))) =
      let t = turns_as n p FindsOrBinds x (Mapped refused.es) r
      (Mapped refused.es, goes UnbindsLost (record n { port = no_port; freed = source_key n })) refused.at refused.value
      refused.goes_on turns in
      lost_sound n refused.es 0 refused.es (λ number. refl) t.1 t.2
  limited_sound p x n v r at is fits range turns touches (inr (inr (inr late))) =
      let pool : PoolPorts = late.pool in
      let f : Fits s v (Free pool) = subst (Fits s v) late.value fits in
      let t = turns_as n p GivesBackLost x (Free pool) r
      (Free (give_back n.freed.protocol n.freed.port pool), dropped n over_limit) late.at late.value late.goes_on
      turns in
      give_by n pool GivesBackLost (refl, refl, refl, refl) CountsDrop (dropped n over_limit).noted tt
      (in_range s.low s.high pool (sym f.1) (sym f.2) range) (same_port k n.freed) refl t.0 t.1 t.2
