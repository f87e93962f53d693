-- What a find, and a find-or-bind, come to where hosts have a limit; and the ports of mappings, none of which is 0.
use Rattle.std.proofs.Common.{◌≡◌, ℕ, ◌+◌, ◌*◌, ◌≤◌, Bool, true, false, List, [], ◌∷◌, refl, sym, ap, ◌∙◌, subst}
use Rattle.std.proofs.Common.{inl, inr, arith, Option, Some, None}
use Rattle.std.specs.Prelude.{◌==◌, ◌&&◌, not, nat_lt, if◌then◌else◌}
use Rattle.std.proofs.lemmas.Bool.Decides.{nat_tests}
use Rattle.plain_text.specs.declared.packet.Packet.{Packet}
use Rattle.plain_machine.specs.History.{Step, value_after, IsHistory}
use Rattle.nat_tables.specs.declared.entries.Endpoint.{Endpoint}
use Rattle.nat_tables.specs.declared.entries.PortKey.{PortKey}
use Rattle.nat_tables.specs.declared.slot.Slot.{Slot}
use Rattle.nat_tables.specs.declared.phase.Segment.{Segment}
use Rattle.nat_tables.specs.declared.entries.Find.{Find}
use Rattle.nat_tables.specs.declared.entries.Find.TheVariants.{Absent}
use Rattle.nat_tables.specs.declared.entries.Bind.{Bind}
use Rattle.nat_tables.specs.Keys.{same_endpoint}
use Rattle.nat_tables.specs.Ports.{one_if, of_range, has_port, has_protocol}
use Rattle.nat_tables.specs.Forwards.{Forwards, is_idle, port_of, slot_of, without, found_there, found, find}
use Rattle.nat_tables.specs.Forwards.{find_or_bind, marked, mark, total}
use Rattle.nat_tables.specs.Hosts.{is_of_host, count_of, is_full, first_idle_of, given_up, found_within, find_within}
use Rattle.nat_tables.specs.Hosts.{bound_within, bind_within}
use Rattle.nat_box.specs.declared.place.Noted.{Noted}
use Rattle.nat_box.specs.declared.value.NatValue.{NatValue}
use Rattle.nat_box.specs.declared.value.NatValue.TheVariants.{Dropped, Free, Mapped, Taken}
use Rattle.nat_box.specs.Statics.{kept, outside_ports}
use Rattle.nat_box.specs.StaticLaws.{kept_whole, of_whole}
use Rattle.nat_box.specs.Settings.{Settings, AreSettings}
use Rattle.nat_box.specs.Nat.{followed_by, nat_meaning}
use Rattle.nat_box.specs.PortStanding.{maps, mapped_at, in_values, places_of}
use Rattle.nat_box.specs.Sentences.{Has, mappings_in, IsMapping}
use Rattle.nat_box.proofs.Standing.{ports_stand}
use Rattle.nat_box.proofs.StaticPlaces.{same_port_is, static_of}
use Rattle.flow_boxes.proofs.Summing.{term_of_sum}

-- The answers

module _ (most : ℕ) (key : Endpoint) (now : ℕ) (es : Forwards) where
  -- it finds what it finds without a limit, or its full host gives up one of its mappings, or has none to give up
  pub by_find : (P : Find × Forwards → Type 0) → P (find key now es)
      → ((e : Endpoint × Slot) → slot_of key es ≡ None → first_idle_of key now es ≡ Some e
      → P (Absent (Some (port_of e)), without e.0 es))
      → (slot_of key es ≡ None → is_full most key es ≡ true → P (Absent None, es)) → P (find_within most key now es)
  by_find P same gives stays = of_slot (slot_of key es) refl
    where
      of_idle : (b : Option (Endpoint × Slot)) → slot_of key es ≡ None → is_full most key es ≡ true
          → first_idle_of key now es ≡ b → P (given_up es b)
      of_idle None none full q = stays none full
      of_idle (Some e) none full q = gives e none q

      of_full : (full : Bool) → slot_of key es ≡ None → is_full most key es ≡ full
          → P (if full then given_up es (first_idle_of key now es) else find key now es)
      of_full true none full = of_idle (first_idle_of key now es) none full refl
      of_full false none full = same

      of_slot : (a : Option Slot) → slot_of key es ≡ a → P (found_within most key now es a)
      of_slot (Some slot) q = same
      of_slot None q = of_full (is_full most key es) q refl

  -- it binds as without a limit, or is refused
  pub by_bind : (port : ℕ) (P : Option Bind × Forwards → Type 0)
      → P (Some (find_or_bind key port now es).0, (find_or_bind key port now es).1)
      → (slot_of key es ≡ None → is_full most key es ≡ true → P (None, es)) → P (bind_within most key port now es)
  by_bind port P same refused = of_slot (slot_of key es) refl
    where
      of_full : (full : Bool) → slot_of key es ≡ None → is_full most key es ≡ full
          → P (if full then (None, es) else (let r = find_or_bind key port now es in (Some r.0, r.1)))
      of_full true none q = refused none q
      of_full false none q = same

      of_slot : (a : Option Slot) → slot_of key es ≡ a → P (bound_within most key port now es a)
      of_slot (Some slot) q = same
      of_slot None q = of_full (is_full most key es) q refl

pub full_has : (most : ℕ) (key : Endpoint) (es : Forwards) → is_full most key es ≡ true
    → most ≤ count_of key.protocol key.address es
full_has most key es full = grind (arith, nat_tests)

-- where a find has no answer, the table is as it was, and has no mapping of the endpoint
pub found_none : (key : Endpoint) (now : ℕ) (es : Forwards) (a : Option Slot) (b : Option (Endpoint × Slot))
    → slot_of key es ≡ a → (found key now es a b).0 ≡ Absent None → slot_of key (found key now es a b).1 ≡ None
found_none key now es (Some slot) b is e = there (is_idle now (key, slot)) e
  where
    there : (idle : Bool) → (found_there key now es slot idle).0 ≡ Absent None
        → slot_of key (found_there key now es slot idle).1 ≡ None
    there true e = absurd (cc)
    there false e = absurd (cc)
found_none key now es None (Some gone) is e = absurd (cc)
found_none key now es None None is e = is

pub idle_of_host : (key : Endpoint) (now : ℕ) (es : Forwards) (e : Endpoint × Slot)
    → first_idle_of key now es ≡ Some e → Has es e × (is_idle now e ≡ true)
idle_of_host key now [] e q = absurd (cc)
idle_of_host key now (x ∷ es) e q =
    by (is_of_host key.protocol key.address x.0) (is_idle now x) refl q (idle_of_host key now es e)
  where
    by : (a b : Bool) → is_idle now x ≡ b → (if a && b then Some x else first_idle_of key now es) ≡ Some e
        → (first_idle_of key now es ≡ Some e → Has es e × (is_idle now e ≡ true))
        → Has (x ∷ es) e × (is_idle now e ≡ true)
    by true true i q rest =
        let same : x ≡ e = cc in (inl same, subst (λ (z : Endpoint × Slot). is_idle now z ≡ true) same i)
    by true false i q rest = let r = rest q in (inr r.0, r.1)
    by false b i q rest = let r = rest q in (inr r.0, r.1)

-- After a segment was noted a host has as many mappings, and an endpoint none that had none.

count_marked : (protocol address : ℕ) (own : Endpoint) (seconds : ℕ) (segment : Segment) (es : Forwards)
    → count_of protocol address (mark own seconds segment es) ≡ count_of protocol address es
count_marked protocol address own seconds segment [] = refl
count_marked protocol address own seconds segment (x ∷ es) =
    by (same_endpoint own x.0) (count_marked protocol address own seconds segment es)
  where
    by : (b : Bool) → count_of protocol address (mark own seconds segment es) ≡ count_of protocol address es
        → count_of protocol address
        (if b then (x.0, marked seconds segment x.1) ∷ es else x ∷ mark own seconds segment es)
        ≡ count_of protocol address (x ∷ es)
    by true rest = refl
    by false rest = ap (λ (c : ℕ). if is_of_host protocol address x.0 then 1 + c else c) rest

none_marked : (key own : Endpoint) (seconds : ℕ) (segment : Segment) (es : Forwards) → slot_of key es ≡ None
    → slot_of key (mark own seconds segment es) ≡ None
none_marked key own seconds segment [] none = refl
none_marked key own seconds segment (x ∷ es) none =
    by (same_endpoint own x.0) (same_endpoint key x.0) refl none (none_marked key own seconds segment es)
  where
    by : (a b : Bool) → same_endpoint key x.0 ≡ b → (if b then Some x.1 else slot_of key es) ≡ None
        → (slot_of key es ≡ None → slot_of key (mark own seconds segment es) ≡ None)
        → slot_of key (if a then (x.0, marked seconds segment x.1) ∷ es else x ∷ mark own seconds segment es) ≡ None
    by a true q is rest = absurd (cc)
    by true false q is rest = rw q is
    by false false q is rest = rw q (rest is)

pub count_followed : (protocol address : ℕ) (c : Option ℕ) (n : Noted) (es : Forwards)
    → count_of protocol address (followed_by c n es) ≡ count_of protocol address es
count_followed protocol address None n es = refl
count_followed protocol address (Some seconds) n es = by (n.source.protocol == 6)
  where
    by : (b : Bool) → count_of protocol address (if b then mark n.source seconds n.segment es else es)
        ≡ count_of protocol address es
    by true = count_marked protocol address n.source seconds n.segment es
    by false = refl

pub none_followed_there : (key : Endpoint) (c : Option ℕ) (n : Noted) (es : Forwards) → slot_of key es ≡ None
    → slot_of key (followed_by c n es) ≡ None
none_followed_there key None n es none = none
none_followed_there key (Some seconds) n es none = by (n.source.protocol == 6)
  where
    by : (b : Bool) → slot_of key (if b then mark n.source seconds n.segment es else es) ≡ None
    by true = none_marked key n.source seconds n.segment es none
    by false = none

-- No mapping has port 0: its port is one of the range, or of a static port.

port_counts : (e : Endpoint × Slot) (es : Forwards) → Has es e → 1 ≤ total (maps (port_of e)) es
port_counts e [] h = absurd h
port_counts e (x ∷ es) (inl p) =
    let a : maps (port_of e) x.0 x.1.port ≡ 1 =
    ap (λ (z : Endpoint × Slot). maps (port_of e) z.0 z.1.port) p ∙ ap one_if (same_port_is (port_of e)) in
    omega (arith, a)
port_counts e (x ∷ es) (inr h) = let a = port_counts e es h in omega (arith, a)

mapping_counts : (e : Endpoint × Slot) (x : NatValue) → Has (mappings_in x) e → 1 ≤ mapped_at (maps (port_of e)) x
mapping_counts e (Dropped d) h = absurd h
mapping_counts e (Free pool) h = absurd h
mapping_counts e (Mapped es) h = port_counts e es h
mapping_counts e (Taken bs) h = absurd h

range_some : (low high : ℕ) (k : PortKey) → 1 ≤ low → 1 ≤ of_range low high k → 1 ≤ k.port
range_some low high k some there = by (has_protocol k.protocol) (nat_lt k.port low) (nat_lt high k.port) refl there
  where
    by : (a b c : Bool) → nat_lt k.port low ≡ b → 1 ≤ (if a then one_if (not b && not c) else 0) → 1 ≤ k.port
    by true true c q there = absurd (omega (arith, there))
    by true false c q there = let l : low ≤ k.port = grind (arith, nat_tests) in omega (arith, l, some)
    by false b c q there = absurd (omega (arith, there))

place_some : (s : Settings) → AreSettings s → (k : PortKey) → 1 ≤ places_of s k → 1 ≤ k.port
place_some s is k there = by (has_port k (outside_ports (kept s.statics))) refl there
  where
    by : (b : Bool) → has_port k (outside_ports (kept s.statics)) ≡ b → 1 ≤ (if b then 1 else of_range s.low s.high k)
        → 1 ≤ k.port
    by true e there =
        let r = static_of k (kept s.statics) e in
        let some = (of_whole r.0 (kept s.statics) (kept_whole s.statics) r.1).some in
        subst (λ (j : PortKey). 1 ≤ j.port) (sym r.2) some
    by false e there = range_some s.low s.high k is.low there

pub mapped_ports : (s : Settings) (threads : ℕ) (inputs : ℕ → List Packet) (steps : List (Step NatValue))
    → AreSettings s → IsHistory (nat_meaning s) inputs threads steps → (v : ℕ) (e : Endpoint × Slot)
    → IsMapping s (value_after (nat_meaning s) steps) v e → 1 ≤ e.1.port
mapped_ports s threads inputs steps is h v e m =
    let value : ℕ → NatValue = value_after (nat_meaning s) steps in
    let k : PortKey = port_of e in
    let sound = ports_stand s threads inputs steps is h k e.0 in
    let all : mapped_at (maps k) (value v) ≤ in_values s (mapped_at (maps k)) value =
    term_of_sum (2 + 2 * s.shards) v (λ (u : ℕ). mapped_at (maps k) (value u)) m.0 in
    let one : 1 ≤ mapped_at (maps k) (value v) = mapping_counts e (value v) m.1 in
    place_some s is k (omega (arith, sound.one, all, one))
