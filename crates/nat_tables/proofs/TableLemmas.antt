-- Look-ups, insertions and removals of an indexed map are those of the tables.
use Rattle.std.proofs.Common.{◌≡◌, ◌==◌, ◌&&◌, ℕ, Bool, true, false, [], ◌∷◌, ◌++◌, refl, sym, ap, ◌∙◌, Some, None}
use Rattle.std.specs.Prelude.{if◌then◌else◌}
use Rattle.std.specs.Map.{lookup}
use Rattle.indexmap.specs.IndexMap.{insert_entry, shift_remove_entry}
use Rattle.nat_tables.specs.declared.entries.Endpoint.{Endpoint}
use Rattle.nat_tables.specs.declared.entries.PortKey.{PortKey}
use Rattle.nat_tables.specs.Keys.{same_port, same_endpoint}
use Rattle.nat_tables.specs.declared.slot.Slot.{Slot}
use Rattle.nat_tables.specs.declared.phase.Phase.{Phase}
use Rattle.nat_tables.specs.declared.phase.Segment.{Segment}
use Rattle.nat_tables.specs.Forwards.{Forwards, slot_of, refreshed, refresh, marked, mark, in_phase}
use Rattle.nat_tables.specs.Forwards.{with_phase, without}
use Rattle.nat_tables.specs.Reverses.{Reverses, endpoint_of, bind, unbind}
use Rattle.nat_tables.proofs.Counting.{same_is}

pub looked_up : (port : PortKey) (bs : Reverses) → lookup (same_port port) bs ≡ endpoint_of port bs
looked_up port [] = refl
looked_up port (b ∷ bs) = by (same_port port b.0) refl (looked_up port bs)
  where
    by : (t : Bool) → same_port port b.0 ≡ t → lookup (same_port port) bs ≡ endpoint_of port bs
        → lookup (same_port port) (b ∷ bs) ≡ endpoint_of port (b ∷ bs)
    by true q behind = rw q refl
    by false q behind = rw q behind

pub inserted : (port : PortKey) (key : Endpoint) (bs : Reverses) → insert_entry same_port bs port key ≡ bind port key bs
inserted port key [] = refl
inserted port key (b ∷ bs) = by (same_port port b.0) refl (inserted port key bs)
  where
    by : (t : Bool) → same_port port b.0 ≡ t → insert_entry same_port bs port key ≡ bind port key bs
        → insert_entry same_port (b ∷ bs) port key ≡ bind port key (b ∷ bs)
    by true q behind = rw q refl
    by false q behind = rw q (ap (λ rest. b ∷ rest) behind)

pub removed : (port : PortKey) (bs : Reverses) → shift_remove_entry (same_port port) bs ≡ unbind port bs
removed port [] = refl
removed port (b ∷ bs) = by (same_port port b.0) refl (removed port bs)
  where
    by : (t : Bool) → same_port port b.0 ≡ t → shift_remove_entry (same_port port) bs ≡ unbind port bs
        → shift_remove_entry (same_port port) (b ∷ bs) ≡ unbind port (b ∷ bs)
    by true q behind = rw q refl
    by false q behind = rw q (ap (λ rest. b ∷ rest) behind)

slot_found : (key : Endpoint) (es : Forwards) → lookup (same_endpoint key) es ≡ slot_of key es
slot_found key [] = refl
slot_found key (e ∷ es) = by (same_endpoint key e.0) refl (slot_found key es)
  where
    by : (t : Bool) → same_endpoint key e.0 ≡ t → lookup (same_endpoint key) es ≡ slot_of key es
        → lookup (same_endpoint key) (e ∷ es) ≡ slot_of key (e ∷ es)
    by true q behind = rw q refl
    by false q behind = rw q behind

and_grouped : (a b c : Bool) → (a && (b && c)) ≡ (a && b && c)
and_grouped false b c = refl
and_grouped true false c = refl
and_grouped true true c = refl

-- A use of a mapping that is there keeps its place; a new one goes last; a removal closes up.

used : (key : Endpoint) (now : ℕ) (slot : Slot) (es : Forwards) → slot_of key es ≡ Some slot
    → insert_entry same_endpoint es key (refreshed now slot) ≡ refresh key now es
used key now slot [] is = absurd (cc)
used key now slot (e ∷ es) is = by (same_endpoint key e.0) refl is (used key now slot es)
  where
    by : (t : Bool) → same_endpoint key e.0 ≡ t → (if t then Some e.1 else slot_of key es) ≡ Some slot
        → (slot_of key es ≡ Some slot → insert_entry same_endpoint es key (refreshed now slot) ≡ refresh key now es)
        → insert_entry same_endpoint (e ∷ es) key (refreshed now slot) ≡ refresh key now (e ∷ es)
    by true q is behind = let s : slot ≡ e.1 = cc in rw (q, s) refl
    by false q is behind = rw q (ap (λ rest. e ∷ rest) (behind is))

noted : (key : Endpoint) (seconds : ℕ) (segment : Segment) (slot : Slot) (es : Forwards) → slot_of key es ≡ Some slot
    → insert_entry same_endpoint es key (marked seconds segment slot) ≡ mark key seconds segment es
noted key seconds segment slot [] is = absurd (cc)
noted key seconds segment slot (e ∷ es) is =
    by (same_endpoint key e.0) refl is (noted key seconds segment slot es)
  where
    by : (t : Bool) → same_endpoint key e.0 ≡ t → (if t then Some e.1 else slot_of key es) ≡ Some slot
        → (slot_of key es ≡ Some slot
        → insert_entry same_endpoint es key (marked seconds segment slot) ≡ mark key seconds segment es)
        → insert_entry same_endpoint (e ∷ es) key (marked seconds segment slot) ≡ mark key seconds segment (e ∷ es)
    by true q is behind = let s : slot ≡ e.1 = cc in rw (q, s) refl
    by false q is behind = rw q (ap (λ rest. e ∷ rest) (behind is))

put_in_phase : (key : Endpoint) (phase : Phase) (slot : Slot) (es : Forwards) → slot_of key es ≡ Some slot
    → insert_entry same_endpoint es key (in_phase phase slot) ≡ with_phase key phase es
put_in_phase key phase slot [] is = absurd (cc)
put_in_phase key phase slot (e ∷ es) is = by (same_endpoint key e.0) refl is (put_in_phase key phase slot es)
  where
    by : (t : Bool) → same_endpoint key e.0 ≡ t → (if t then Some e.1 else slot_of key es) ≡ Some slot
        → (slot_of key es ≡ Some slot
        → insert_entry same_endpoint es key (in_phase phase slot) ≡ with_phase key phase es)
        → insert_entry same_endpoint (e ∷ es) key (in_phase phase slot) ≡ with_phase key phase (e ∷ es)
    by true q is behind = let s : slot ≡ e.1 = cc in rw (q, s) refl
    by false q is behind = rw q (ap (λ rest. e ∷ rest) (behind is))

appended : (key : Endpoint) (slot : Slot) (es : Forwards) → slot_of key es ≡ None
    → insert_entry same_endpoint es key slot ≡ es ++ (key, slot) ∷ []
appended key slot [] is = refl
appended key slot (e ∷ es) is = by (same_endpoint key e.0) refl is (appended key slot es)
  where
    by : (t : Bool) → same_endpoint key e.0 ≡ t → (if t then Some e.1 else slot_of key es) ≡ None
        → (slot_of key es ≡ None → insert_entry same_endpoint es key slot ≡ es ++ (key, slot) ∷ [])
        → insert_entry same_endpoint (e ∷ es) key slot ≡ (e ∷ es) ++ (key, slot) ∷ []
    by true q is behind = absurd (cc)
    by false q is behind = rw q (ap (λ rest. e ∷ rest) (behind is))

taken_out : (key : Endpoint) (es : Forwards) → shift_remove_entry (same_endpoint key) es ≡ without key es
taken_out key [] = refl
taken_out key (e ∷ es) = by (same_endpoint key e.0) refl (taken_out key es)
  where
    by : (t : Bool) → same_endpoint key e.0 ≡ t → shift_remove_entry (same_endpoint key) es ≡ without key es
        → shift_remove_entry (same_endpoint key) (e ∷ es) ≡ without key (e ∷ es)
    by true q behind = rw q refl
    by false q behind = rw q (ap (λ rest. e ∷ rest) behind)

-- the same by the derived equality
module _ (eq : Endpoint → Endpoint → Bool) (derived : (a b : Endpoint)
    → eq a b ≡ ((a.protocol == b.protocol) && ((a.address == b.address) && (a.port == b.port)))) where
  eqs : eq ≡ same_endpoint
  eqs = λ i a b. (derived a b ∙ and_grouped (a.protocol == b.protocol) (a.address == b.address) (a.port == b.port)) i

  pub same_by : (a b : Endpoint) → eq a b ≡ true → a ≡ b
  same_by a b e = same_is a b (sym (ap (λ (test : Endpoint → Endpoint → Bool). test a b) eqs) ∙ e)

  pub slot_found_by : (key : Endpoint) (es : Forwards) → lookup (eq key) es ≡ slot_of key es
  slot_found_by key es = ap (λ test. lookup (test key) es) eqs ∙ slot_found key es

  pub used_by : (key : Endpoint) (now : ℕ) (slot : Slot) (es : Forwards) → slot_of key es ≡ Some slot
      → insert_entry eq es key (refreshed now slot) ≡ refresh key now es
  used_by key now slot es is = ap (λ test. insert_entry test es key (refreshed now slot)) eqs ∙ used key now slot es is

  pub noted_by : (key : Endpoint) (seconds : ℕ) (segment : Segment) (slot : Slot) (es : Forwards)
      → slot_of key es ≡ Some slot
      → insert_entry eq es key (marked seconds segment slot) ≡ mark key seconds segment es
  noted_by key seconds segment slot es is =
      ap (λ test. insert_entry test es key (marked seconds segment slot)) eqs ∙ noted key seconds segment slot es is

  pub put_in_phase_by : (key : Endpoint) (phase : Phase) (slot : Slot) (es : Forwards) → slot_of key es ≡ Some slot
      → insert_entry eq es key (in_phase phase slot) ≡ with_phase key phase es
  put_in_phase_by key phase slot es is =
      ap (λ test. insert_entry test es key (in_phase phase slot)) eqs ∙ put_in_phase key phase slot es is

  pub appended_by : (key : Endpoint) (slot : Slot) (es : Forwards) → slot_of key es ≡ None
      → insert_entry eq es key slot ≡ es ++ (key, slot) ∷ []
  appended_by key slot es is = ap (λ test. insert_entry test es key slot) eqs ∙ appended key slot es is

  pub taken_out_by : (key : Endpoint) (es : Forwards) → shift_remove_entry (eq key) es ≡ without key es
  taken_out_by key es = ap (λ test. shift_remove_entry (test key) es) eqs ∙ taken_out key es
