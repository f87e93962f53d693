-- Single entries of tables, before and after the moves that change them, and as the tests of tables find them.
use Rattle.std.proofs.Common.{◌≡◌, ℕ, ◌+◌, ◌<◌, ◌≤◌, Bool, true, false, List, [], ◌∷◌, ◌++◌, refl, sym, ap, ◌∙◌, subst}
use Rattle.std.proofs.Common.{◌⊎◌, inl, inr, arith, Option, Some, None}
use Rattle.std.specs.Prelude.{◌≢◌, ◌==◌, ◌&&◌, not, nat_lt, max, if◌then◌else◌}
use Rattle.std.proofs.lemmas.Bool.{eqb-true}
use Rattle.std.proofs.lemmas.Bool.Decides.{nat_tests}
use Rattle.nat_tables.specs.declared.entries.Endpoint.{Endpoint}
use Rattle.nat_tables.specs.declared.entries.PortKey.{PortKey}
use Rattle.nat_tables.specs.declared.slot.Slot.{Slot}
use Rattle.nat_tables.specs.Keys.{same_endpoint, same_port}
use Rattle.nat_tables.specs.Ports.{Ports, PoolPorts, chosen, of_even, of_odd, is_even, reserved_of, reserve, count_port}
use Rattle.nat_tables.specs.Ports.{free_in, free_of}
use Rattle.nat_tables.specs.Forwards.{Forwards, is_idle, refreshed, slot_of, refresh, without, without_idle, lives_at}
use Rattle.nat_tables.specs.Forwards.{lives}
use Rattle.nat_tables.specs.Forwards.{Misses, AreMappings}
use Rattle.nat_tables.specs.Reverses.{Reverses, endpoint_of, AreBound}
use Rattle.nat_tables.proofs.Counting.{same_is, port_is}
use Rattle.flow_boxes.proofs.Fitting.{same_self}
use Rattle.nat_box.specs.Sentences.{Has}
use Rattle.nat_tables.specs.declared.phase.Phase.{Phase}
use Rattle.nat_tables.specs.declared.phase.Phase.TheVariants.{Plain, Opening, Established, Closing}
use Rattle.nat_tables.specs.declared.phase.Phase.TheVariants.{EndedByClient, EndedByServer, Kept}
use Rattle.nat_tables.specs.Phases.{timer, is_kept}
use Rattle.flow_boxes.specs.Idle.{idle_after}
use Rattle.nat_runs.specs.Idle.{IsIdle, IsLive}

same_port_self : (k : PortKey) → same_port k k ≡ true
same_port_self k =
    let a : (k.protocol == k.protocol) ≡ true = grind (arith, nat_tests) in
    let b : (k.port == k.port) ≡ true = grind (arith, nat_tests) in rw (a, b) refl

-- Idle mappings

idle_in : (now last protocol : ℕ) (phase : Phase)
    → (not (is_kept phase) && not (nat_lt now (last + timer protocol phase))) ≡ true
    → (phase ≢ Kept) × (last + idle_after protocol phase ≤ now)
idle_in now last protocol Plain q = (λ k. absurd (cc), grind (arith, nat_tests))
idle_in now last protocol (Opening seconds) q = (λ k. absurd (cc), grind (arith, nat_tests))
idle_in now last protocol Established q = (λ k. absurd (cc), grind (arith, nat_tests))
idle_in now last protocol (Closing seconds) q = (λ k. absurd (cc), grind (arith, nat_tests))
idle_in now last protocol EndedByClient q = (λ k. absurd (cc), grind (arith, nat_tests))
idle_in now last protocol EndedByServer q = (λ k. absurd (cc), grind (arith, nat_tests))
idle_in now last protocol Kept q = absurd (cc)

live_in : (now last protocol : ℕ) (phase : Phase)
    → (not (is_kept phase) && not (nat_lt now (last + timer protocol phase))) ≡ false
    → (phase ≡ Kept) ⊎ (now < last + idle_after protocol phase)
live_in now last protocol Plain q = inr (grind (arith, nat_tests))
live_in now last protocol (Opening seconds) q = inr (grind (arith, nat_tests))
live_in now last protocol Established q = inr (grind (arith, nat_tests))
live_in now last protocol (Closing seconds) q = inr (grind (arith, nat_tests))
live_in now last protocol EndedByClient q = inr (grind (arith, nat_tests))
live_in now last protocol EndedByServer q = inr (grind (arith, nat_tests))
live_in now last protocol Kept q = inl refl

pub idle_is : (now : ℕ) (e : Endpoint × Slot) → is_idle now e ≡ true → IsIdle now e.0 e.1
idle_is now e q = idle_in now e.1.last e.0.protocol e.1.phase q

pub live_is : (now : ℕ) (e : Endpoint × Slot) → is_idle now e ≡ false → IsLive now e.0 e.1
live_is now e q = live_in now e.1.last e.0.protocol e.1.phase q

-- Entries as they are found

pub missed : (es : Forwards) (key : Endpoint) (f : Endpoint × Slot) → Misses es key → Has es f
    → same_endpoint f.0 key ≡ false
missed [] key f m h = absurd h
missed (y ∷ es) key f m (inl p) = subst (λ (z : Endpoint × Slot). same_endpoint z.0 key ≡ false) p m.0
missed (y ∷ es) key f m (inr h) = missed es key f m.1 h

pub slot_in : (key : Endpoint) (slot : Slot) (es : Forwards) → slot_of key es ≡ Some slot → Has es (key, slot)
slot_in key slot [] e = absurd (cc)
slot_in key slot (x ∷ es) e = by (same_endpoint key x.0) refl e (slot_in key slot es)
  where
    by : (b : Bool) → same_endpoint key x.0 ≡ b → (if b then Some x.1 else slot_of key es) ≡ Some slot
        → (slot_of key es ≡ Some slot → Has es (key, slot)) → Has (x ∷ es) (key, slot)
    by true q e rest =
        let k : x.0 ≡ key = sym (same_is key x.0 q) in let z : x.1 ≡ slot = cc in inl (λ i. (k i, z i))
    by false q e rest = inr (rest e)

pub not_there : (key : Endpoint) (es : Forwards) → slot_of key es ≡ None → (old : Slot) → Has es (key, old) → ⊥
not_there key [] none old h = absurd h
not_there key (x ∷ es) none old h = by (same_endpoint key x.0) refl none h (λ q. not_there key es q old)
  where
    by : (b : Bool) → same_endpoint key x.0 ≡ b → (if b then Some x.1 else slot_of key es) ≡ None
        → Has (x ∷ es) (key, old) → (slot_of key es ≡ None → Has es (key, old) → ⊥) → ⊥
    by true q none h rest = absurd (cc)
    by false q none (inl p) rest =
        let same : same_endpoint key x.0 ≡ true =
        subst (λ (z : Endpoint × Slot). same_endpoint key z.0 ≡ true) (sym p) (same_self key) in
        absurd (cc)
    by false q none (inr h) rest = rest none h

pub slot_there : (May : Endpoint → Slot → Type 0) (es : Forwards) (key : Endpoint) (slot : Slot) → AreMappings May es
    → Has es (key, slot) → slot_of key es ≡ Some slot
slot_there May [] key slot all h = absurd h
slot_there May (x ∷ es) key slot all (inl p) =
    let q : same_endpoint key x.0 ≡ true =
    subst (λ (z : Endpoint × Slot). same_endpoint key z.0 ≡ true) (sym p) (same_self key) in
    rw q (ap (λ (z : Endpoint × Slot). Some z.1) p)
slot_there May (x ∷ es) key slot all (inr h) =
    let q : same_endpoint key x.0 ≡ false = missed es x.0 (key, slot) all.1 h in
    rw q (slot_there May es key slot all.2 h)

and_left : (a b : Bool) → (a && b) ≡ true → a ≡ true
and_left true b e = refl
and_left false b e = absurd (cc)

and_right : (a b : Bool) → (a && b) ≡ true → b ≡ true
and_right true b e = e
and_right false b e = absurd (cc)

not_true : (b : Bool) → not b ≡ true → b ≡ false
not_true true e = absurd (cc)
not_true false e = refl

pub lives_is : (key : Endpoint) (port now : ℕ) (es : Forwards) → lives key port now es ≡ true
    → (slot : Slot) × Has es (key, slot) × (slot.port ≡ port) × IsLive now key slot
lives_is key port now es e = by (slot_of key es) refl e
  where
    by : (o : Option Slot) → slot_of key es ≡ o → lives_at key port now o ≡ true
        → (slot : Slot) × Has es (key, slot) × (slot.port ≡ port) × IsLive now key slot
    by None q e = absurd (cc)
    by (Some slot) q e = (
      slot,
      slot_in key slot es q,
      eqb-true _ _ (and_left (slot.port == port) (not (is_idle now (key, slot))) e),
      live_is now (key, slot) (not_true (is_idle now (key, slot))
          (and_right (slot.port == port) (not (is_idle now (key, slot))) e)),
    )

idle_at : (key : Endpoint) (port now : ℕ) (slot : Slot) → lives_at key port now (Some slot) ≡ false → slot.port ≡ port
    → is_idle now (key, slot) ≡ true
idle_at key port now slot e p =
    let a : (slot.port == port) ≡ true = grind (arith, nat_tests) in
    by (slot.port == port) a (is_idle now (key, slot)) e
  where
    by : (a : Bool) → a ≡ true → (b : Bool) → (a && not b) ≡ false → b ≡ true
    by true p true e = refl
    by true p false e = absurd (cc)
    by false p b e = absurd (cc)

-- the endpoint has no mapping to the port there, or an idle one
abbrev pub AreIdle : Forwards → Endpoint → ℕ → ℕ → Type 0
AreIdle es key port now = (slot : Slot) → Has es (key, slot) → slot.port ≡ port → IsIdle now key slot

pub lives_not : (May : Endpoint → Slot → Type 0) (key : Endpoint) (port now : ℕ) (es : Forwards) → AreMappings May es
    → lives key port now es ≡ false → AreIdle es key port now
lives_not May key port now es all e slot h p =
    let there : slot_of key es ≡ Some slot = slot_there May es key slot all h in
    let f : lives_at key port now (Some slot) ≡ false =
    subst (λ (o : Option Slot). lives_at key port now o ≡ false) there e in
    idle_is now (key, slot) (idle_at key port now slot f p)

pub endpoint_in : (port : PortKey) (key : Endpoint) (bs : Reverses) → endpoint_of port bs ≡ Some key
    → Has bs (port, key)
endpoint_in port key [] e = absurd (cc)
endpoint_in port key (x ∷ bs) e = by (same_port port x.0) refl e (endpoint_in port key bs)
  where
    by : (b : Bool) → same_port port x.0 ≡ b → (if b then Some x.1 else endpoint_of port bs) ≡ Some key
        → (endpoint_of port bs ≡ Some key → Has bs (port, key)) → Has (x ∷ bs) (port, key)
    by true q e rest =
        let k : x.0 ≡ port = sym (port_is port x.0 q) in let z : x.1 ≡ key = cc in inl (λ i. (k i, z i))
    by false q e rest = inr (rest e)

pub not_bound : (port : PortKey) (bs : Reverses) → endpoint_of port bs ≡ None → (key : Endpoint)
    → Has bs (port, key) → ⊥
not_bound port [] e key h = h
not_bound port (x ∷ bs) e key h = by (same_port port x.0) refl e h (λ r. not_bound port bs r key)
  where
    by : (b : Bool) → same_port port x.0 ≡ b → (if b then Some x.1 else endpoint_of port bs) ≡ None
        → Has (x ∷ bs) (port, key) → (endpoint_of port bs ≡ None → Has bs (port, key) → ⊥) → ⊥
    by true q e h rest = absurd (cc)
    by false q e (inl p) rest =
        let a : same_port port x.0 ≡ true =
        subst (λ (z : PortKey × Endpoint). same_port port z.0 ≡ true) (sym p) (same_port_self port) in
        absurd (cc)
    by false q e (inr h) rest = rest e h

-- what a reverse table may have of an endpoint
pub may_endpoint : (May : PortKey → Endpoint → Type 0) (port : PortKey) (key : Endpoint) (bs : Reverses)
    → AreBound May bs → Has bs (port, key) → May port key
may_endpoint May port key [] all h = absurd h
may_endpoint May port key (x ∷ bs) all (inl p) = subst (λ (z : PortKey × Endpoint). May z.0 z.1) p all.0
may_endpoint May port key (x ∷ bs) all (inr h) = may_endpoint May port key bs all.2 h

-- Entries as they are changed

abbrev pub IsLater : ℕ → Endpoint × Slot → Forwards → Type 0
IsLater now e es =
    (later : Slot) × Has es (e.0, later) × (later.port ≡ e.1.port) × (e.1.last ≤ later.last)
    × ((later.last ≡ e.1.last) ⊎ (now ≡ later.last))

max_is : (a b : ℕ) → (max a b ≡ a) ⊎ (b ≡ max a b)
max_is a b = by (nat_lt a b) refl
  where
    by : (t : Bool) → nat_lt a b ≡ t → (max a b ≡ a) ⊎ (b ≡ max a b)
    by true q = let l : a < b = grind (arith, nat_tests) in inr (omega arith)
    by false q = let l : b ≤ a = grind (arith, nat_tests) in inl (omega arith)

pub refreshed_in : (key : Endpoint) (now : ℕ) (es : Forwards) (e : Endpoint × Slot) → Has es e
    → IsLater now e (refresh key now es)
refreshed_in key now [] e h = absurd h
refreshed_in key now (x ∷ es) e h =
    by (same_endpoint key x.0) h (refreshed_in key now es e)
  where
    by : (b : Bool) → Has (x ∷ es) e → (Has es e → IsLater now e (refresh key now es))
        → IsLater now e (if b then (x.0, refreshed now x.1) ∷ es else x ∷ refresh key now es)
    by true (inl p) rest = (
      refreshed now e.1,
      inl (ap (λ (z : Endpoint × Slot). (z.0, refreshed now z.1)) p),
      refl,
      omega arith,
      max_is e.1.last now,
    )
    by true (inr h) rest = (e.1, inr h, refl, omega arith, inl refl)
    by false (inl p) rest = (e.1, inl p, refl, omega arith, inl refl)
    by false (inr h) rest = let r = rest h in (r.0, inr r.1, r.2, r.3, r.4)

-- what a change leaves was there, or is of the endpoint of the change
abbrev pub WasOr : Endpoint → Endpoint × Slot → Forwards → Type 0
WasOr key e es = Has es e ⊎ (key ≡ e.0)

pub refresh_was : (key : Endpoint) (now : ℕ) (es : Forwards) (e : Endpoint × Slot) → Has (refresh key now es) e
    → WasOr key e es
refresh_was key now [] e h = absurd h
refresh_was key now (x ∷ es) e h = by (same_endpoint key x.0) refl h (refresh_was key now es e)
  where
    by : (b : Bool) → same_endpoint key x.0 ≡ b
        → Has (if b then (x.0, refreshed now x.1) ∷ es else x ∷ refresh key now es) e
        → (Has (refresh key now es) e → WasOr key e es) → WasOr key e (x ∷ es)
    by true q (inl p) rest = inr (same_is key x.0 q ∙ ap (λ (z : Endpoint × Slot). z.0) p)
    by true q (inr h) rest = inl (inr h)
    by false q (inl p) rest = inl (inl p)
    by false q (inr h) rest = on (rest h)
      where
        on : WasOr key e es → WasOr key e (x ∷ es)
        on (inl k) = inl (inr k)
        on (inr k) = inr k

pub bound_was : (key : Endpoint) (slot : Slot) (es : Forwards) (e : Endpoint × Slot)
    → Has (es ++ (key, slot) ∷ []) e → WasOr key e es
bound_was key slot [] e (inl p) = inr (ap (λ (z : Endpoint × Slot). z.0) p)
bound_was key slot [] e (inr h) = absurd h
bound_was key slot (x ∷ es) e (inl p) = inl (inl p)
bound_was key slot (x ∷ es) e (inr h) = on (bound_was key slot es e h)
  where
    on : WasOr key e es → WasOr key e (x ∷ es)
    on (inl k) = inl (inr k)
    on (inr k) = inr k

pub without_was : (key : Endpoint) (es : Forwards) (e : Endpoint × Slot) → Has (without key es) e → Has es e
without_was key [] e h = absurd h
without_was key (x ∷ es) e h = by (same_endpoint key x.0) h (without_was key es e)
  where
    by : (b : Bool) → Has (if b then es else x ∷ without key es) e → (Has (without key es) e → Has es e)
        → Has (x ∷ es) e
    by true h rest = inr h
    by false (inl p) rest = inl p
    by false (inr h) rest = inr (rest h)

pub without_idle_was : (now : ℕ) (es : Forwards) (e : Endpoint × Slot) → Has (without_idle now es) e → Has es e
without_idle_was now [] e h = absurd h
without_idle_was now (x ∷ es) e h = by (is_idle now x) h (without_idle_was now es e)
  where
    by : (b : Bool) → Has (if b then es else x ∷ without_idle now es) e → (Has (without_idle now es) e → Has es e)
        → Has (x ∷ es) e
    by true h rest = inr h
    by false (inl p) rest = inl p
    by false (inr h) rest = inr (rest h)

pub may_mapping : (May : Endpoint → Slot → Type 0) (key : Endpoint) (slot : Slot) (es : Forwards) → AreMappings May es
    → Has es (key, slot) → May key slot
may_mapping May key slot [] all h = absurd h
may_mapping May key slot (x ∷ es) all (inl p) = subst (λ (z : Endpoint × Slot). May z.0 z.1) p all.0
may_mapping May key slot (x ∷ es) all (inr h) = may_mapping May key slot es all.2 h

pub in_front : (e : Endpoint × Slot) (es fs : Forwards) → Has es e → Has (es ++ fs) e
in_front e [] fs h = absurd h
in_front e (x ∷ es) fs (inl p) = inl p
in_front e (x ∷ es) fs (inr h) = inr (in_front e es fs h)

-- A removal of the first entry that passes a test: an entry is left, or it passes the test and its endpoint is gone.

abbrev without_first : (Endpoint × Slot → Bool) → Forwards → Forwards
without_first test [] = []
without_first test (e ∷ es) = if test e then es else e ∷ without_first test es

abbrev IsLeft : (Endpoint × Slot → Bool) → Endpoint × Slot → Forwards → Type 0
IsLeft test e es = Has es e ⊎ ((test e ≡ true) × ((later : Slot) → Has es (e.0, later) → ⊥))

left_first : (May : Endpoint → Slot → Type 0) (test : Endpoint × Slot → Bool) (es : Forwards) (e : Endpoint × Slot)
    → AreMappings May es → Has es e → IsLeft test e (without_first test es)
left_first May test [] e all h = absurd h
left_first May test (x ∷ es) e all h = by (test x) refl h (left_first May test es e all.2)
  where
    same_of : (later : Slot) → x ≡ (e.0, later) → same_endpoint e.0 x.0 ≡ true
    same_of later p = subst (λ (z : Endpoint × Slot). same_endpoint e.0 z.0 ≡ true) (sym p) (same_self e.0)

    on : Has es e → IsLeft test e (without_first test es) → IsLeft test e (x ∷ without_first test es)
    on h (inl k) = inl (inr k)
    on h (inr k) = inr (k.0, out)
      where
        out : (later : Slot) → Has (x ∷ without_first test es) (e.0, later) → ⊥
        out later (inl p) =
            let a : same_endpoint e.0 x.0 ≡ true = same_of later p in
            let b : same_endpoint e.0 x.0 ≡ false = missed es x.0 e all.1 h in absurd (cc)
        out later (inr g) = k.1 later g

    gone : x ≡ e → (later : Slot) → Has es (e.0, later) → ⊥
    gone p later g =
        let a : same_endpoint e.0 x.0 ≡ true = same_of e.1 p in
        let b : same_endpoint e.0 x.0 ≡ false = missed es x.0 (e.0, later) all.1 g in absurd (cc)

    by : (b : Bool) → test x ≡ b → Has (x ∷ es) e → (Has es e → IsLeft test e (without_first test es))
        → IsLeft test e (if b then es else x ∷ without_first test es)
    by true q (inl p) rest = inr (subst (λ (z : Endpoint × Slot). test z ≡ true) p q, gone p)
    by true q (inr h) rest = inl h
    by false q (inl p) rest = inl (inl p)
    by false q (inr h) rest = on h (rest h)

without_is : (key : Endpoint) (es : Forwards)
    → without_first (λ (e : Endpoint × Slot). same_endpoint key e.0) es ≡ without key es
without_is key [] = refl
without_is key (e ∷ es) =
    ap (λ (r : Forwards). if same_endpoint key e.0 then es else e ∷ r) (without_is key es)

without_idle_is : (now : ℕ) (es : Forwards) → without_first (is_idle now) es ≡ without_idle now es
without_idle_is now [] = refl
without_idle_is now (e ∷ es) = ap (λ (r : Forwards). if is_idle now e then es else e ∷ r) (without_idle_is now es)

abbrev pub IsLeftOr : Type 0 → Endpoint × Slot → Forwards → Type 0
IsLeftOr Why e es = Has es e ⊎ (Why × ((later : Slot) → Has es (e.0, later) → ⊥))

pub left_without : (May : Endpoint → Slot → Type 0) (key : Endpoint) (es : Forwards) (e : Endpoint × Slot)
    → AreMappings May es → Has es e → IsLeftOr (same_endpoint key e.0 ≡ true) e (without key es)
left_without May key es e all h =
    subst (IsLeftOr (same_endpoint key e.0 ≡ true) e) (without_is key es)
    (left_first May (λ (x : Endpoint × Slot). same_endpoint key x.0) es e all h)

pub left_without_idle : (May : Endpoint → Slot → Type 0) (now : ℕ) (es : Forwards) (e : Endpoint × Slot)
    → AreMappings May es → Has es e → IsLeftOr (is_idle now e ≡ true) e (without_idle now es)
left_without_idle May now es e all h =
    subst (IsLeftOr (is_idle now e ≡ true) e) (without_idle_is now es) (left_first May (is_idle now) es e all h)

-- the mapping that is found of its own endpoint
pub own_slot : (May : Endpoint → Slot → Type 0) (key : Endpoint) (slot : Slot) (es : Forwards) (e : Endpoint × Slot)
    → AreMappings May es → Has es e → slot_of key es ≡ Some slot → same_endpoint key e.0 ≡ true → (key, slot) ≡ e
own_slot May key slot es e all h found q =
    let k : key ≡ e.0 = same_is key e.0 q in
    let there : slot_of e.0 es ≡ Some e.1 = slot_there May es e.0 e.1 all h in
    let same : Some slot ≡ Some e.1 = sym found ∙ ap (λ (y : Endpoint). slot_of y es) k ∙ there in
    let z : slot ≡ e.1 = cc in
    λ i. (k i, z i)

-- A pool that gives no port

count_none : (p draw : ℕ) (ps : List ℕ) → chosen draw ps ≡ None → count_port p ps ≡ 0
count_none p draw [] e = refl
count_none p draw (q ∷ ps) e = absurd (cc)

even_none : (ports : Ports) (a b : Option (ℕ × List ℕ)) → (of_even ports a b).0 ≡ None → (a ≡ None) × (b ≡ None)
even_none ports (Some c) b e = absurd (cc)
even_none ports None (Some c) e = absurd (cc)
even_none ports None None e = (refl, refl)

odd_none : (ports : Ports) (a b : Option (ℕ × List ℕ)) → (of_odd ports a b).0 ≡ None → (a ≡ None) × (b ≡ None)
odd_none ports None (Some c) e = absurd (cc)
odd_none ports (Some d) (Some c) e = absurd (cc)
odd_none ports (Some c) None e = absurd (cc)
odd_none ports None None e = (refl, refl)

none_in : (port draw : ℕ) (ports : Ports) → (reserved_of port draw ports).0 ≡ None → (p : ℕ) → free_in p ports ≡ 0
none_in port draw ports e p = by (is_even port) refl
  where
    both : (chosen draw ports.even ≡ None) × (chosen draw ports.odd ≡ None) → free_in p ports ≡ 0
    both n =
        let a = count_none p draw ports.even n.0 in let b = count_none p draw ports.odd n.1 in omega arith

    by : (b : Bool) → is_even port ≡ b → free_in p ports ≡ 0
    by true q =
        let f : (of_even ports (chosen draw ports.even) (chosen draw ports.odd)).0 ≡ None = subst
        (λ (b : Bool). (if b then of_even ports (chosen draw ports.even) (chosen draw ports.odd)
        else of_odd ports (chosen draw ports.even) (chosen draw ports.odd)).0 ≡ None) q e in
        both (even_none ports (chosen draw ports.even) (chosen draw ports.odd) f)
    by false q =
        let f : (of_odd ports (chosen draw ports.even) (chosen draw ports.odd)).0 ≡ None = subst
        (λ (b : Bool). (if b then of_even ports (chosen draw ports.even) (chosen draw ports.odd)
        else of_odd ports (chosen draw ports.even) (chosen draw ports.odd)).0 ≡ None) q e in
        both (odd_none ports (chosen draw ports.even) (chosen draw ports.odd) f)

pub none_free : (protocol port draw : ℕ) (pool : PoolPorts) → (reserve protocol port draw pool).0 ≡ None → (p : ℕ)
    → free_of protocol p pool ≡ 0
none_free protocol port draw pool e p = by (protocol == 6) (protocol == 17) refl refl
  where
    by : (b c : Bool) → (protocol == 6) ≡ b → (protocol == 17) ≡ c → free_of protocol p pool ≡ 0
    by true c x y =
        let f : (reserved_of port draw pool.tcp).0 ≡ None = of_tcp in rw x (none_in port draw pool.tcp f p)
      where
        of_tcp : (reserved_of port draw pool.tcp).0 ≡ None
        of_tcp = sym (rw x refl) ∙ e
    by false true x y =
        let f : (reserved_of port draw pool.udp).0 ≡ None = of_udp in rw (x, y) (none_in port draw pool.udp f p)
      where
        of_udp : (reserved_of port draw pool.udp).0 ≡ None
        of_udp = sym (rw (x, y) refl) ∙ e
    by false false x y = rw (x, y) refl
