-- What is small enough in a frame of bytes, and how an endpoint's slot is found after a refresh and after a bind.
use Rattle.std.proofs.Common.{◌≡◌, ℕ, ◌+◌, ◌^◌, ◌<◌, Bool, true, false, List, [], ◌∷◌, ◌++◌, refl, ap, arith}
use Rattle.std.proofs.Common.{Some, None}
use Rattle.std.specs.Prelude.{◌==◌, if◌then◌else◌}
use Rattle.std.proofs.lemmas.Bool.Decides.{nat_tests}
use Rattle.packet_headers.specs.declared.flow.Flow.{Flow}
use Rattle.packet_headers.specs.Fields.{AreBytes, word_at, long_at, header_end}
use Rattle.packet_headers.specs.View.{flow_of}
use Rattle.nat_tables.specs.declared.entries.Endpoint.{Endpoint}
use Rattle.nat_tables.specs.declared.slot.Slot.{Slot}
use Rattle.nat_tables.specs.Keys.{same_endpoint}
use Rattle.nat_tables.specs.Forwards.{Forwards, slot_of, refresh, refreshed}

-- the numbers of a flow are those of its fields
pub record IsWhole (flow : Flow) : Type 0 where
  pub protocol : flow.protocol < 2 ^ 8
  pub source : flow.source < 2 ^ 32
  pub source_port : flow.source_port < 2 ^ 16
  pub dest : flow.dest < 2 ^ 32
  pub dest_port : flow.dest_port < 2 ^ 16

pub word_fits : (frame : List ℕ) (place : ℕ) → AreBytes frame → word_at frame place < 2 ^ 16
word_fits frame place bytes = let a = bytes place in let b = bytes (place + 1) in omega arith

pub long_fits : (frame : List ℕ) (place : ℕ) → AreBytes frame → long_at frame place < 2 ^ 32
long_fits frame place bytes =
    let a = word_fits frame place bytes in let b = word_fits frame (place + 2) bytes in omega arith

pub whole : (frame : List ℕ) → AreBytes frame → IsWhole (flow_of frame)
whole frame bytes = record {
  protocol = bytes 23;
  source = long_fits frame 26 bytes;
  source_port = word_fits frame (header_end frame) bytes;
  dest = long_fits frame 30 bytes;
  dest_port = word_fits frame (header_end frame + 2) bytes;
}

pub same_self : (e : Endpoint) → same_endpoint e e ≡ true
same_self e =
    let a : (e.protocol == e.protocol) ≡ true = grind (arith, nat_tests) in
    let b : (e.address == e.address) ≡ true = grind (arith, nat_tests) in
    let c : (e.port == e.port) ≡ true = grind (arith, nat_tests) in rw (a, b, c) refl

pub slot_refreshed : (key : Endpoint) (now : ℕ) (slot : Slot) (es : Forwards) → slot_of key es ≡ Some slot
    → slot_of key (refresh key now es) ≡ Some (refreshed now slot)
slot_refreshed key now slot [] is = absurd (cc)
slot_refreshed key now slot (e ∷ es) is = by (same_endpoint key e.0) refl is (slot_refreshed key now slot es)
  where
    by : (b : Bool) → same_endpoint key e.0 ≡ b → (if b then Some e.1 else slot_of key es) ≡ Some slot
        → (slot_of key es ≡ Some slot → slot_of key (refresh key now es) ≡ Some (refreshed now slot))
        → slot_of key (refresh key now (e ∷ es)) ≡ Some (refreshed now slot)
    by true q is rest = let s : e.1 ≡ slot = cc in rw (q, q) (ap (λ (t : Slot). Some (refreshed now t)) s)
    by false q is rest = rw (q, q) (rest is)

pub slot_bound : (key : Endpoint) (slot : Slot) (es : Forwards) → slot_of key es ≡ None
    → slot_of key (es ++ (key, slot) ∷ []) ≡ Some slot
slot_bound key slot [] is = rw (same_self key) refl
slot_bound key slot (e ∷ es) is = by (same_endpoint key e.0) refl is (λ h. slot_bound key slot es h)
  where
    by : (b : Bool) → same_endpoint key e.0 ≡ b → (if b then Some e.1 else slot_of key es) ≡ None
        → (slot_of key es ≡ None → slot_of key (es ++ (key, slot) ∷ []) ≡ Some slot)
        → slot_of key ((e ∷ es) ++ (key, slot) ∷ []) ≡ Some slot
    by true q is rest = absurd (cc)
    by false q is rest = rw q (rest is)
