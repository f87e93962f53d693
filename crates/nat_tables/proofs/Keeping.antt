-- The operations of the tables keep what is said of each mapping and of each bound port.
use Rattle.std.proofs.Common.{◌≡◌, ℕ, Bool, true, false, [], ◌∷◌, ◌++◌, refl, sym, subst, Some, None}
use Rattle.std.specs.Prelude.{if◌then◌else◌}
use Rattle.nat_tables.specs.declared.entries.Endpoint.{Endpoint}
use Rattle.nat_tables.specs.declared.entries.PortKey.{PortKey}
use Rattle.nat_tables.specs.declared.slot.Slot.{Slot}
use Rattle.nat_tables.specs.declared.phase.Phase.{Phase}
use Rattle.nat_tables.specs.declared.phase.Segment.{Segment}
use Rattle.nat_tables.specs.Keys.{same_endpoint, same_port}
use Rattle.nat_tables.specs.Forwards.{Forwards, is_idle, slot_of, refresh, without, first_idle, without_idle, Misses}
use Rattle.nat_tables.specs.Forwards.{AreMappings, refreshed, marked, mark, in_phase, with_phase}
use Rattle.nat_tables.specs.Reverses.{Reverses, bind, unbind, IsUnbound, AreBound}
use Rattle.nat_tables.proofs.Counting.{same_is, port_is}

module _ (May : Endpoint → Slot → Type 0) where
  pub may_slot : (key : Endpoint) (slot : Slot) (es : Forwards) → slot_of key es ≡ Some slot → AreMappings May es
      → May key slot
  may_slot key slot [] is all = absurd (cc)
  may_slot key slot (e ∷ es) is all = by (same_endpoint key e.0) refl is (λ h. may_slot key slot es h all.2)
    where
      by : (b : Bool) → same_endpoint key e.0 ≡ b → (if b then Some e.1 else slot_of key es) ≡ Some slot
          → (slot_of key es ≡ Some slot → May key slot) → May key slot
      by true q is behind =
          let k : key ≡ e.0 = same_is key e.0 q in
          let s : e.1 ≡ slot = cc in
          rw (k, sym s) all.0
      by false q is behind = behind is

  pub may_idle : (now : ℕ) (idle : Endpoint × Slot) (es : Forwards) → first_idle now es ≡ Some idle → AreMappings May es
      → May idle.0 idle.1
  may_idle now idle [] is all = absurd (cc)
  may_idle now idle (e ∷ es) is all = by (is_idle now e) is (λ h. may_idle now idle es h all.2)
    where
      by : (b : Bool) → (if b then Some e else first_idle now es) ≡ Some idle
          → (first_idle now es ≡ Some idle → May idle.0 idle.1) → May idle.0 idle.1
      by true is behind = let s : e ≡ idle = cc in rw (sym s) all.0
      by false is behind = behind is

  misses_refreshed : (key other : Endpoint) (now : ℕ) (es : Forwards) → Misses es other
      → Misses (refresh key now es) other
  misses_refreshed key other now [] old = tt
  misses_refreshed key other now (e ∷ es) old =
      by (same_endpoint key e.0) refl (misses_refreshed key other now es old.1)
    where
      by : (b : Bool) → same_endpoint key e.0 ≡ b → (Misses (refresh key now es) other)
          → Misses (refresh key now (e ∷ es)) other
      by true q behind = rw q old
      by false q behind = rw q (old.0, behind)

  pub keeps_refreshed : (key : Endpoint) (now : ℕ) (es : Forwards)
      → ((slot : Slot) → May key slot → May key (refreshed now slot)) → AreMappings May es
      → AreMappings May (refresh key now es)
  keeps_refreshed key now [] may all = tt
  keeps_refreshed key now (e ∷ es) may all = by (same_endpoint key e.0) refl (keeps_refreshed key now es may all.2)
    where
      by : (b : Bool) → same_endpoint key e.0 ≡ b → (AreMappings May (refresh key now es))
          → AreMappings May (refresh key now (e ∷ es))
      by true q behind =
          let k : key ≡ e.0 = same_is key e.0 q in
          let here : May e.0 (refreshed now e.1) =
          subst (λ (x : Endpoint). May x (refreshed now e.1)) k
          (may e.1 (subst (λ (x : Endpoint). May x e.1) (sym k) all.0)) in
          rw q (here, all.1, all.2)
      by false q behind = rw q (all.0, misses_refreshed key e.0 now es all.1, behind)

  misses_marked : (key other : Endpoint) (seconds : ℕ) (segment : Segment) (es : Forwards) → Misses es other
      → Misses (mark key seconds segment es) other
  misses_marked key other seconds segment [] old = tt
  misses_marked key other seconds segment (e ∷ es) old =
      by (same_endpoint key e.0) refl (misses_marked key other seconds segment es old.1)
    where
      by : (b : Bool) → same_endpoint key e.0 ≡ b → (Misses (mark key seconds segment es) other)
          → Misses (mark key seconds segment (e ∷ es)) other
      by true q behind = rw q old
      by false q behind = rw q (old.0, behind)

  pub keeps_marked : (key : Endpoint) (seconds : ℕ) (segment : Segment) (es : Forwards)
      → ((slot : Slot) → May key slot → May key (marked seconds segment slot)) → AreMappings May es
      → AreMappings May (mark key seconds segment es)
  keeps_marked key seconds segment [] may all = tt
  keeps_marked key seconds segment (e ∷ es) may all =
      by (same_endpoint key e.0) refl (keeps_marked key seconds segment es may all.2)
    where
      by : (b : Bool) → same_endpoint key e.0 ≡ b → (AreMappings May (mark key seconds segment es))
          → AreMappings May (mark key seconds segment (e ∷ es))
      by true q behind =
          let k : key ≡ e.0 = same_is key e.0 q in
          let here : May e.0 (marked seconds segment e.1) =
          subst (λ (x : Endpoint). May x (marked seconds segment e.1)) k
          (may e.1 (subst (λ (x : Endpoint). May x e.1) (sym k) all.0)) in
          rw q (here, all.1, all.2)
      by false q behind = rw q (all.0, misses_marked key e.0 seconds segment es all.1, behind)

  misses_in_phase : (key other : Endpoint) (phase : Phase) (es : Forwards) → Misses es other
      → Misses (with_phase key phase es) other
  misses_in_phase key other phase [] old = tt
  misses_in_phase key other phase (e ∷ es) old =
      by (same_endpoint key e.0) refl (misses_in_phase key other phase es old.1)
    where
      by : (b : Bool) → same_endpoint key e.0 ≡ b → (Misses (with_phase key phase es) other)
          → Misses (with_phase key phase (e ∷ es)) other
      by true q behind = rw q old
      by false q behind = rw q (old.0, behind)

  pub keeps_in_phase : (key : Endpoint) (phase : Phase) (es : Forwards)
      → ((slot : Slot) → May key slot → May key (in_phase phase slot)) → AreMappings May es
      → AreMappings May (with_phase key phase es)
  keeps_in_phase key phase [] may all = tt
  keeps_in_phase key phase (e ∷ es) may all =
      by (same_endpoint key e.0) refl (keeps_in_phase key phase es may all.2)
    where
      by : (b : Bool) → same_endpoint key e.0 ≡ b → (AreMappings May (with_phase key phase es))
          → AreMappings May (with_phase key phase (e ∷ es))
      by true q behind =
          let k : key ≡ e.0 = same_is key e.0 q in
          let here : May e.0 (in_phase phase e.1) =
          subst (λ (x : Endpoint). May x (in_phase phase e.1)) k
          (may e.1 (subst (λ (x : Endpoint). May x e.1) (sym k) all.0)) in
          rw q (here, all.1, all.2)
      by false q behind = rw q (all.0, misses_in_phase key e.0 phase es all.1, behind)

  misses_without : (key other : Endpoint) (es : Forwards) → Misses es other → Misses (without key es) other
  misses_without key other [] old = tt
  misses_without key other (e ∷ es) old = by (same_endpoint key e.0) refl (misses_without key other es old.1)
    where
      by : (b : Bool) → same_endpoint key e.0 ≡ b → (Misses (without key es) other)
          → Misses (without key (e ∷ es)) other
      by true q behind = rw q old.1
      by false q behind = rw q (old.0, behind)

  pub keeps_without : (key : Endpoint) (es : Forwards) → AreMappings May es → AreMappings May (without key es)
  keeps_without key [] all = tt
  keeps_without key (e ∷ es) all = by (same_endpoint key e.0) refl (keeps_without key es all.2)
    where
      by : (b : Bool) → same_endpoint key e.0 ≡ b → (AreMappings May (without key es))
          → AreMappings May (without key (e ∷ es))
      by true q behind = rw q all.2
      by false q behind = rw q (all.0, misses_without key e.0 es all.1, behind)

  misses_without_idle : (now : ℕ) (other : Endpoint) (es : Forwards) → Misses es other
      → Misses (without_idle now es) other
  misses_without_idle now other [] old = tt
  misses_without_idle now other (e ∷ es) old = by (is_idle now e) refl (misses_without_idle now other es old.1)
    where
      by : (b : Bool) → is_idle now e ≡ b → (Misses (without_idle now es) other)
          → Misses (without_idle now (e ∷ es)) other
      by true q behind = rw q old.1
      by false q behind = rw q (old.0, behind)

  pub keeps_without_idle : (now : ℕ) (es : Forwards) → AreMappings May es → AreMappings May (without_idle now es)
  keeps_without_idle now [] all = tt
  keeps_without_idle now (e ∷ es) all = by (is_idle now e) refl (keeps_without_idle now es all.2)
    where
      by : (b : Bool) → is_idle now e ≡ b → (AreMappings May (without_idle now es))
          → AreMappings May (without_idle now (e ∷ es))
      by true q behind = rw q all.2
      by false q behind = rw q (all.0, misses_without_idle now e.0 es all.1, behind)

  -- a key that a table lacks goes last
  other_way : (a b : Endpoint) → same_endpoint a b ≡ false → same_endpoint b a ≡ false
  other_way a b q = by (same_endpoint b a) refl
    where
      by : (t : Bool) → same_endpoint b a ≡ t → same_endpoint b a ≡ false
      by true e = let k : b ≡ a = same_is b a e in let j : same_endpoint a b ≡ same_endpoint b a = rw k refl in cc
      by false e = e

  misses_more : (key other : Endpoint) (slot : Slot) (es : Forwards) → Misses es other → same_endpoint key other ≡ false
      → Misses (es ++ (key, slot) ∷ []) other
  misses_more key other slot [] old new = (new, tt)
  misses_more key other slot (e ∷ es) old new = (old.0, misses_more key other slot es old.1 new)

  pub keeps_bound : (key : Endpoint) (slot : Slot) (es : Forwards) → slot_of key es ≡ None → May key slot
      → AreMappings May es → AreMappings May (es ++ (key, slot) ∷ [])
  keeps_bound key slot [] is may all = (may, tt, tt)
  keeps_bound key slot (e ∷ es) is may all =
      by (same_endpoint key e.0) refl is (λ h. keeps_bound key slot es h may all.2)
    where
      by : (b : Bool) → same_endpoint key e.0 ≡ b → (if b then Some e.1 else slot_of key es) ≡ None
          → (slot_of key es ≡ None → AreMappings May (es ++ (key, slot) ∷ []))
          → AreMappings May ((e ∷ es) ++ (key, slot) ∷ [])
      by true q is behind = absurd (cc)
      by false q is behind = (all.0, misses_more key e.0 slot es all.1 q, behind is)

module _ (May : PortKey → Endpoint → Type 0) where
  unbound_bind : (port other : PortKey) (key : Endpoint) (bs : Reverses) → IsUnbound bs other
      → same_port port other ≡ false → IsUnbound (bind port key bs) other
  unbound_bind port other key [] old new = (new, tt)
  unbound_bind port other key (b ∷ bs) old new = by (same_port port b.0) refl (unbound_bind port other key bs old.1 new)
    where
      by : (t : Bool) → same_port port b.0 ≡ t → (IsUnbound (bind port key bs) other)
          → IsUnbound (bind port key (b ∷ bs)) other
      by true q behind = rw q old
      by false q behind = rw q (old.0, behind)

  pub keeps_bind : (port : PortKey) (key : Endpoint) (bs : Reverses) → May port key → AreBound May bs
      → AreBound May (bind port key bs)
  keeps_bind port key [] may all = (may, tt, tt)
  keeps_bind port key (b ∷ bs) may all = by (same_port port b.0) refl (keeps_bind port key bs may all.2)
    where
      by : (t : Bool) → same_port port b.0 ≡ t → (AreBound May (bind port key bs))
          → AreBound May (bind port key (b ∷ bs))
      by true q behind = rw q (subst (λ (k : PortKey). May k key) (port_is port b.0 q) may, all.1, all.2)
      by false q behind = rw q (all.0, unbound_bind port b.0 key bs all.1 q, behind)

  unbound_unbind : (port other : PortKey) (bs : Reverses) → IsUnbound bs other → IsUnbound (unbind port bs) other
  unbound_unbind port other [] old = tt
  unbound_unbind port other (b ∷ bs) old = by (same_port port b.0) refl (unbound_unbind port other bs old.1)
    where
      by : (t : Bool) → same_port port b.0 ≡ t → (IsUnbound (unbind port bs) other)
          → IsUnbound (unbind port (b ∷ bs)) other
      by true q behind = rw q old.1
      by false q behind = rw q (old.0, behind)

  pub keeps_unbind : (port : PortKey) (bs : Reverses) → AreBound May bs → AreBound May (unbind port bs)
  keeps_unbind port [] all = tt
  keeps_unbind port (b ∷ bs) all = by (same_port port b.0) refl (keeps_unbind port bs all.2)
    where
      by : (t : Bool) → same_port port b.0 ≡ t → (AreBound May (unbind port bs)) → AreBound May (unbind port (b ∷ bs))
      by true q behind = rw q all.2
      by false q behind = rw q (all.0, unbound_unbind port b.0 bs all.1, behind)
