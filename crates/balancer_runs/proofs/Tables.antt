-- What becomes of each connection of a table: by a refresh, a removal, and a new connection.
use Rattle.std.proofs.Common.{◌≡◌, ℕ, ◌+◌, ◌<◌, ◌≤◌, Bool, true, false, [], ◌∷◌, ◌++◌, refl, sym, ap}
use Rattle.std.proofs.Common.{subst, ◌⊎◌, inl, inr, arith, Option, Some, None}
use Rattle.std.specs.Prelude.{max, nat_lt, not, ◌&&◌, if◌then◌else◌}
use Rattle.std.proofs.lemmas.Bool.Decides.{nat_tests}
use Rattle.nat_tables.specs.declared.entries.Endpoint.{Endpoint}
use Rattle.nat_tables.specs.declared.slot.Slot.{Slot}
use Rattle.nat_tables.specs.declared.phase.Phase.{Phase}
use Rattle.nat_tables.specs.declared.phase.Phase.TheVariants.{Plain, Opening, Established, Closing}
use Rattle.nat_tables.specs.declared.phase.Phase.TheVariants.{EndedByClient, EndedByServer, Kept}
use Rattle.nat_tables.specs.Keys.{same_endpoint}
use Rattle.nat_tables.specs.Forwards.{Forwards, is_idle, slot_of, refreshed, refresh, without, without_idle}
use Rattle.nat_tables.specs.Forwards.{in_phase, with_phase, Misses, AreMappings}
use Rattle.nat_tables.specs.Phases.{timer, is_kept}
use Rattle.nat_tables.proofs.Counting.{same_is}
use Rattle.balancer_box.specs.Balancer.{HasPhase}
use Rattle.balancer_box.proofs.ConnectionLemmas.{missed}
use Rattle.flow_boxes.specs.Idle.{idle_after}
use Rattle.balancer_runs.specs.Idle.{IsIdleAt, IsLiveAt}

-- Idle connections, in numbers

idle_in : (now last protocol : ℕ) (phase : Phase)
    → (not (is_kept phase) && not (nat_lt now (last + timer protocol phase))) ≡ true
    → last + idle_after protocol phase ≤ now
idle_in now last protocol Plain q = grind (arith, nat_tests)
idle_in now last protocol (Opening seconds) q = grind (arith, nat_tests)
idle_in now last protocol Established q = grind (arith, nat_tests)
idle_in now last protocol (Closing seconds) q = grind (arith, nat_tests)
idle_in now last protocol EndedByClient q = grind (arith, nat_tests)
idle_in now last protocol EndedByServer q = grind (arith, nat_tests)
idle_in now last protocol Kept q = absurd (cc)

-- no connection is kept for good
live_in : (closing : Option ℕ) (now last protocol : ℕ) (phase : Phase) → HasPhase closing protocol phase
    → (not (is_kept phase) && not (nat_lt now (last + timer protocol phase))) ≡ false
    → now < last + idle_after protocol phase
live_in closing now last protocol Plain has q = grind (arith, nat_tests)
live_in closing now last protocol (Opening seconds) has q = absurd has
live_in closing now last protocol Established has q = absurd has
live_in closing now last protocol (Closing seconds) has q = grind (arith, nat_tests)
live_in closing now last protocol EndedByClient has q = grind (arith, nat_tests)
live_in closing now last protocol EndedByServer has q = grind (arith, nat_tests)
live_in closing now last protocol Kept has q = absurd has

pub idle_is : (now : ℕ) (client : Endpoint) (slot : Slot) → is_idle now (client, slot) ≡ true → IsIdleAt now client slot
idle_is now client slot q = idle_in now slot.last client.protocol slot.phase q

pub live_is : (closing : Option ℕ) (now : ℕ) (client : Endpoint) (slot : Slot)
    → HasPhase closing client.protocol slot.phase → is_idle now (client, slot) ≡ false → IsLiveAt now client slot
live_is closing now client slot has q = live_in closing now slot.last client.protocol slot.phase has q

-- The slot of a client after a change

-- it has its backend and was used at its old time or now, or it is gone for a cause
abbrev pub Goes : (Endpoint → Slot → Type 0) → ℕ → Endpoint → Slot → Option Slot → Type 0
Goes Gone now client slot None = Gone client slot
Goes Gone now client slot (Some new) =
    (new.port ≡ slot.port) × ((new.last ≡ slot.last) ⊎ ((slot.last ≤ new.last) × (new.last ≡ now)))

abbrev pub GoAll : (Endpoint → Slot → Type 0) → ℕ → Forwards → Forwards → Type 0
GoAll Gone now old new = (client : Endpoint) (slot : Slot) → slot_of client old ≡ Some slot
    → Goes Gone now client slot (slot_of client new)

used : (last now : ℕ) → (max last now ≡ last) ⊎ ((last ≤ max last now) × (max last now ≡ now))
used last now = by (nat_lt last now) refl
  where
    by : (b : Bool) → nat_lt last now ≡ b → (max last now ≡ last) ⊎ ((last ≤ max last now) × (max last now ≡ now))
    by true q = let less : last < now = grind (arith, nat_tests) in inr (omega arith, omega arith)
    by false q = let more : now ≤ last = grind (arith, nat_tests) in inl (omega arith)

module _ (Gone : Endpoint → Slot → Type 0) (now : ℕ) where
  abbrev Becomes : Endpoint → Slot → Option Slot → Type 0
  Becomes = Goes Gone now

  stays : (client : Endpoint) (slot : Slot) (o : Option Slot) → o ≡ Some slot → Becomes client slot o
  stays client slot None is = absurd (cc)
  stays client slot (Some new) is =
      let e : new ≡ slot = cc in (ap (λ (x : Slot). x.port) e, inl (ap (λ (x : Slot). x.last) e))

  pub all_stay : (es : Forwards) → GoAll Gone now es es
  all_stay es client slot is = stays client slot (slot_of client es) is

  is_used : (client : Endpoint) (slot old : Slot) → old ≡ slot → Becomes client slot (Some (refreshed now old))
  is_used client slot old e =
      subst (λ (x : Slot). Becomes client x (Some (refreshed now old))) e (refl, used old.last now)

  pub all_used : (key : Endpoint) (es : Forwards) → GoAll Gone now es (refresh key now es)
  all_used key [] client slot is = absurd (cc)
  all_used key (e ∷ es) client slot is =
      by (same_endpoint key e.0) (same_endpoint client e.0) refl refl is (all_used key es client slot)
    where
      by : (a b : Bool) → same_endpoint key e.0 ≡ a → same_endpoint client e.0 ≡ b
          → (if b then Some e.1 else slot_of client es) ≡ Some slot
          → (slot_of client es ≡ Some slot → Becomes client slot (slot_of client (refresh key now es)))
          → Becomes client slot (slot_of client (refresh key now (e ∷ es)))
      by true true p q is rest = let s : e.1 ≡ slot = cc in rw (p, q) (is_used client slot e.1 s)
      by true false p q is rest = rw (p, q) (stays client slot (slot_of client es) is)
      by false true p q is rest = rw (p, q) (stays client slot (Some e.1) is)
      by false false p q is rest = rw (p, q) (rest is)

  -- another phase changes neither its backend nor its last use
  goes_in_phase : (client : Endpoint) (slot : Slot) (key : Endpoint) (phase : Phase) (es : Forwards)
      → Becomes client slot (slot_of client es) → Becomes client slot (slot_of client (with_phase key phase es))
  goes_in_phase client slot key phase [] goes = goes
  goes_in_phase client slot key phase (e ∷ es) goes =
      by (same_endpoint key e.0) (same_endpoint client e.0) refl refl goes (goes_in_phase client slot key phase es)
    where
      by : (a b : Bool) → same_endpoint key e.0 ≡ a → same_endpoint client e.0 ≡ b
          → Becomes client slot (if b then Some e.1 else slot_of client es)
          → (Becomes client slot (slot_of client es) → Becomes client slot (slot_of client (with_phase key phase es)))
          → Becomes client slot (slot_of client (with_phase key phase (e ∷ es)))
      by true true p q goes rest = rw (p, q) goes
      by true false p q goes rest = rw (p, q) goes
      by false true p q goes rest = rw (p, q) goes
      by false false p q goes rest = rw (p, q) (rest goes)

  pub all_in_phase : (key : Endpoint) (phase : Phase) (es left : Forwards) → GoAll Gone now es left
      → GoAll Gone now es (with_phase key phase left)
  all_in_phase key phase es left all client slot is = goes_in_phase client slot key phase left (all client slot is)

  -- one that stands in front of a table stays, or a connection behind it goes as it goes there
  in_front : (client : Endpoint) (slot : Slot) (e : Endpoint × Slot) (es left : Forwards) (b : Bool)
      → same_endpoint client e.0 ≡ b → (if b then Some e.1 else slot_of client es) ≡ Some slot
      → (slot_of client es ≡ Some slot → Becomes client slot (slot_of client left))
      → Becomes client slot (slot_of client (e ∷ left))
  in_front client slot e es left true same is rest = rw same (stays client slot (Some e.1) is)
  in_front client slot e es left false same is rest = rw same (rest is)

  -- the front one is removed, for a cause
  removed : (client : Endpoint) (slot : Slot) (e : Endpoint × Slot) (es : Forwards) (b : Bool)
      → same_endpoint client e.0 ≡ b → (if b then Some e.1 else slot_of client es) ≡ Some slot → Misses es e.0
      → Gone e.0 e.1 → Becomes client slot (slot_of client es)
  removed client slot e es false same is none gone = stays client slot (slot_of client es) is
  removed client slot e es true same is none gone =
      let k : client ≡ e.0 = same_is client e.0 same in
      let s : e.1 ≡ slot = cc in
      let there : Gone client slot = subst (λ (x : Endpoint). Gone x slot) (sym k) (subst (Gone e.0) s gone) in
      let nothing : slot_of client es ≡ None = missed client es (subst (Misses es) (sym k) none) in
      subst (Becomes client slot) (sym nothing) there

  module _ (May : Endpoint → Slot → Type 0) where
    pub all_without : (key : Endpoint) (es : Forwards) → AreMappings May es
        → ((slot : Slot) → slot_of key es ≡ Some slot → Gone key slot) → GoAll Gone now es (without key es)
    all_without key [] all gone client slot is = absurd (cc)
    all_without key (e ∷ es) all gone client slot is =
        by (same_endpoint key e.0) refl (λ h. all_without key es all.2 h client slot)
      where
        by : (b : Bool) → same_endpoint key e.0 ≡ b
            → (((slot : Slot) → slot_of key es ≡ Some slot → Gone key slot) → slot_of client es ≡ Some slot
            → Becomes client slot (slot_of client (without key es)))
            → Becomes client slot (slot_of client (without key (e ∷ es)))
        by true q rest =
            let k : key ≡ e.0 = same_is key e.0 q in
            let here : Gone e.0 e.1 = subst (λ (x : Endpoint). Gone x e.1) k (gone e.1 (rw q refl)) in
            rw q (removed client slot e es (same_endpoint client e.0) refl is all.1 here)
        by false q rest =
            rw q (in_front client slot e es (without key es) (same_endpoint client e.0) refl is
            (rest (λ there at. gone there (rw q at))))

    pub all_without_idle : (es : Forwards) → AreMappings May es
        → ((e : Endpoint × Slot) → May e.0 e.1 → is_idle now e ≡ true → Gone e.0 e.1)
        → GoAll Gone now es (without_idle now es)
    all_without_idle [] all gone client slot is = absurd (cc)
    all_without_idle (e ∷ es) all gone client slot is =
        by (is_idle now e) refl (all_without_idle es all.2 gone client slot)
      where
        by : (b : Bool) → is_idle now e ≡ b
            → (slot_of client es ≡ Some slot → Becomes client slot (slot_of client (without_idle now es)))
            → Becomes client slot (slot_of client (without_idle now (e ∷ es)))
        by true q rest = rw q (removed client slot e es (same_endpoint client e.0) refl is all.1 (gone e all.0 q))
        by false q rest =
            rw q (in_front client slot e es (without_idle now es) (same_endpoint client e.0) refl is rest)

  pub all_append : (es new : Forwards) → GoAll Gone now es (es ++ new)
  all_append [] new client slot is = absurd (cc)
  all_append (e ∷ es) new client slot is =
      in_front client slot e es (es ++ new) (same_endpoint client e.0) refl is (all_append es new client slot)

-- A client that has no connection has none after a refresh and a removal, and after a new one only where it is its own

abbrev pub NoneComes : Forwards → Forwards → Type 0
NoneComes old new = (client : Endpoint) → slot_of client old ≡ None → slot_of client new ≡ None

behind : (client : Endpoint) (e : Endpoint × Slot) (es : Forwards) (b : Bool) → same_endpoint client e.0 ≡ b
    → (if b then Some e.1 else slot_of client es) ≡ None → (b ≡ false) × (slot_of client es ≡ None)
behind client e es true same is = absurd (cc)
behind client e es false same is = (refl, is)

pub none_by_refresh : (key : Endpoint) (now : ℕ) (es : Forwards) → NoneComes es (refresh key now es)
none_by_refresh key now [] client is = refl
none_by_refresh key now (e ∷ es) client is =
    by (same_endpoint key e.0) refl (behind client e es (same_endpoint client e.0) refl is)
    (none_by_refresh key now es client)
  where
    by : (a : Bool) → same_endpoint key e.0 ≡ a → (same_endpoint client e.0 ≡ false) × (slot_of client es ≡ None)
        → (slot_of client es ≡ None → slot_of client (refresh key now es) ≡ None)
        → slot_of client (refresh key now (e ∷ es)) ≡ None
    by true p k rest = rw p (rw k.0 k.1)
    by false p k rest = rw p (rw k.0 (rest k.1))

pub none_by_in_phase : (key : Endpoint) (phase : Phase) (es : Forwards) → NoneComes es (with_phase key phase es)
none_by_in_phase key phase [] client is = refl
none_by_in_phase key phase (e ∷ es) client is =
    by (same_endpoint key e.0) refl (behind client e es (same_endpoint client e.0) refl is)
    (none_by_in_phase key phase es client)
  where
    by : (a : Bool) → same_endpoint key e.0 ≡ a → (same_endpoint client e.0 ≡ false) × (slot_of client es ≡ None)
        → (slot_of client es ≡ None → slot_of client (with_phase key phase es) ≡ None)
        → slot_of client (with_phase key phase (e ∷ es)) ≡ None
    by true p k rest = rw p (rw k.0 k.1)
    by false p k rest = rw p (rw k.0 (rest k.1))

-- a connection in a table after another phase was there before it
pub in_phase_had : (key : Endpoint) (phase : Phase) (client : Endpoint) (slot : Slot) (es : Forwards)
    → slot_of client (with_phase key phase es) ≡ Some slot
    → (old : Slot) × (slot_of client es ≡ Some old) × (slot.port ≡ old.port) × (slot.last ≡ old.last)
in_phase_had key phase client slot [] is = absurd (cc)
in_phase_had key phase client slot (e ∷ es) is =
    by (same_endpoint key e.0) (same_endpoint client e.0) refl refl is (in_phase_had key phase client slot es)
  where
    Had : Forwards → Type 0
    Had left = (old : Slot) × (slot_of client left ≡ Some old) × (slot.port ≡ old.port) × (slot.last ≡ old.last)

    by : (a b : Bool) → same_endpoint key e.0 ≡ a → same_endpoint client e.0 ≡ b
        → slot_of client (if a then (e.0, in_phase phase e.1) ∷ es else e ∷ with_phase key phase es) ≡ Some slot
        → (slot_of client (with_phase key phase es) ≡ Some slot → Had es) → Had (e ∷ es)
    by true true p q is rest =
        let s : in_phase phase e.1 ≡ slot = cc (rw q at is) in
        (e.1, rw q refl, ap (λ (x : Slot). x.port) (sym s), ap (λ (x : Slot). x.last) (sym s))
    by true false p q is rest = (slot, rw q (rw q at is), refl, refl)
    by false true p q is rest = (slot, rw q (rw q at is), refl, refl)
    by false false p q is rest =
        let k = rest (rw q at is) in (k.0, rw q k.1, k.2, k.3)

pub none_by_without : (key : Endpoint) (es : Forwards) → NoneComes es (without key es)
none_by_without key [] client is = refl
none_by_without key (e ∷ es) client is =
    by (same_endpoint key e.0) refl (behind client e es (same_endpoint client e.0) refl is)
    (none_by_without key es client)
  where
    by : (a : Bool) → same_endpoint key e.0 ≡ a → (same_endpoint client e.0 ≡ false) × (slot_of client es ≡ None)
        → (slot_of client es ≡ None → slot_of client (without key es) ≡ None)
        → slot_of client (without key (e ∷ es)) ≡ None
    by true p k rest = rw p k.1
    by false p k rest = rw p (rw k.0 (rest k.1))

pub none_by_without_idle : (now : ℕ) (es : Forwards) → NoneComes es (without_idle now es)
none_by_without_idle now [] client is = refl
none_by_without_idle now (e ∷ es) client is =
    by (is_idle now e) refl (behind client e es (same_endpoint client e.0) refl is) (none_by_without_idle now es client)
  where
    by : (a : Bool) → is_idle now e ≡ a → (same_endpoint client e.0 ≡ false) × (slot_of client es ≡ None)
        → (slot_of client es ≡ None → slot_of client (without_idle now es) ≡ None)
        → slot_of client (without_idle now (e ∷ es)) ≡ None
    by true p k rest = rw p k.1
    by false p k rest = rw p (rw k.0 (rest k.1))

pub new_appended : (key client : Endpoint) (slot new : Slot) (es : Forwards) → slot_of client es ≡ None
    → slot_of client (es ++ (key, new) ∷ []) ≡ Some slot → (client ≡ key) × (slot ≡ new)
new_appended key client slot new [] none is = by (same_endpoint client key) refl is
  where
    by : (b : Bool) → same_endpoint client key ≡ b → (if b then Some new else None) ≡ Some slot
        → (client ≡ key) × (slot ≡ new)
    by true q is = let e : new ≡ slot = cc in (same_is client key q, sym e)
    by false q is = absurd (cc)
new_appended key client slot new (e ∷ es) none is =
    by (behind client e es (same_endpoint client e.0) refl none) is (new_appended key client slot new es)
  where
    by : (same_endpoint client e.0 ≡ false) × (slot_of client es ≡ None)
        → (if same_endpoint client e.0 then Some e.1 else slot_of client (es ++ (key, new) ∷ [])) ≡ Some slot
        → (slot_of client es ≡ None → slot_of client (es ++ (key, new) ∷ []) ≡ Some slot
        → (client ≡ key) × (slot ≡ new)) → (client ≡ key) × (slot ≡ new)
    by k is rest = rest k.1 (rw k.0 at is)

-- A change at one client leaves the others

-- another client's connection is not the one of this key
not_there : (key client : Endpoint) (e : Endpoint × Slot) → same_endpoint key e.0 ≡ true
    → same_endpoint client key ≡ false → same_endpoint client e.0 ≡ false
not_there key client e p other = subst (λ (x : Endpoint). same_endpoint client x ≡ false) (same_is key e.0 p) other

pub other_refresh : (key : Endpoint) (now : ℕ) (client : Endpoint) (es : Forwards) → same_endpoint client key ≡ false
    → slot_of client (refresh key now es) ≡ slot_of client es
other_refresh key now client [] other = refl
other_refresh key now client (e ∷ es) other = by (same_endpoint key e.0) refl (other_refresh key now client es other)
  where
    by : (a : Bool) → same_endpoint key e.0 ≡ a → slot_of client (refresh key now es) ≡ slot_of client es
        → slot_of client (refresh key now (e ∷ es)) ≡ slot_of client (e ∷ es)
    by true p rest = let q = not_there key client e p other in rw (p, q) refl
    by false p rest = rw (p, rest) refl

pub other_in_phase : (key : Endpoint) (phase : Phase) (client : Endpoint) (es : Forwards)
    → same_endpoint client key ≡ false → slot_of client (with_phase key phase es) ≡ slot_of client es
other_in_phase key phase client [] other = refl
other_in_phase key phase client (e ∷ es) other =
    by (same_endpoint key e.0) refl (other_in_phase key phase client es other)
  where
    by : (a : Bool) → same_endpoint key e.0 ≡ a → slot_of client (with_phase key phase es) ≡ slot_of client es
        → slot_of client (with_phase key phase (e ∷ es)) ≡ slot_of client (e ∷ es)
    by true p rest = let q = not_there key client e p other in rw (p, q) refl
    by false p rest = rw (p, rest) refl

pub other_without : (key client : Endpoint) (es : Forwards) → same_endpoint client key ≡ false
    → slot_of client (without key es) ≡ slot_of client es
other_without key client [] other = refl
other_without key client (e ∷ es) other = by (same_endpoint key e.0) refl (other_without key client es other)
  where
    by : (a : Bool) → same_endpoint key e.0 ≡ a → slot_of client (without key es) ≡ slot_of client es
        → slot_of client (without key (e ∷ es)) ≡ slot_of client (e ∷ es)
    by true p rest = let q = not_there key client e p other in rw (p, q) refl
    by false p rest = rw (p, rest) refl

pub other_append : (key : Endpoint) (new : Slot) (client : Endpoint) (es : Forwards) → same_endpoint client key ≡ false
    → slot_of client (es ++ (key, new) ∷ []) ≡ slot_of client es
other_append key new client [] other = rw other refl
other_append key new client (e ∷ es) other = rw (other_append key new client es other) refl

-- a client whose connection was removed has none
pub none_without : (May : Endpoint → Slot → Type 0) (key : Endpoint) (es : Forwards) → AreMappings May es
    → slot_of key (without key es) ≡ None
none_without May key [] all = refl
none_without May key (e ∷ es) all = by (same_endpoint key e.0) refl (none_without May key es all.2)
  where
    by : (a : Bool) → same_endpoint key e.0 ≡ a → slot_of key (without key es) ≡ None
        → slot_of key (without key (e ∷ es)) ≡ None
    by true p rest =
        let k : key ≡ e.0 = same_is key e.0 p in
        rw p (missed key es (subst (Misses es) (sym k) all.1))
    by false p rest = rw (p, p) rest

pub without_idle_had : (May : Endpoint → Slot → Type 0) (now : ℕ) (client : Endpoint) (slot : Slot) (es : Forwards)
    → AreMappings May es → slot_of client (without_idle now es) ≡ Some slot → slot_of client es ≡ Some slot
without_idle_had May now client slot [] all is = is
without_idle_had May now client slot (e ∷ es) all is =
    by (is_idle now e) (same_endpoint client e.0) refl is (without_idle_had May now client slot es all.2)
  where
    by : (a b : Bool) → same_endpoint client e.0 ≡ b
        → slot_of client (if a then es else e ∷ without_idle now es) ≡ Some slot
        → (slot_of client (without_idle now es) ≡ Some slot → slot_of client es ≡ Some slot)
        → slot_of client (e ∷ es) ≡ Some slot
    by true true q is rest =
        let k : client ≡ e.0 = same_is client e.0 q in
        let nothing : slot_of client es ≡ None = missed client es (subst (Misses es) (sym k) all.1) in absurd (cc)
    by true false q is rest = rw q is
    by false true q is rest = rw q (rw q at is)
    by false false q is rest = rw q (rest (rw q at is))
