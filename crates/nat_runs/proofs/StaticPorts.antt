-- The static ports in all runs.
use Rattle.std.proofs.Common.{◌≡◌, ◌≢◌, ℕ, ◌+◌, ◌*◌, ◌<◌, ◌≤◌, Bool, true, false, List, [], ◌∷◌, refl, sym, ap, ◌∙◌}
use Rattle.std.proofs.Common.{subst, arith, inl, inr, ⊎_elim, Option, Some, None}
use Rattle.std.specs.Prelude.{cond, nat_eq, nat_lt, ◌==◌, Ok, Err, if◌then◌else◌}
use Rattle.std.proofs.lemmas.Bool.{cases_lt}
use Rattle.std.proofs.lemmas.Bool.Decides.{nat_tests}
use Rattle.plain_text.specs.declared.packet.Packet.{Packet}
use Rattle.packet_headers.specs.declared.flow.Flow.{Flow}
use Rattle.nat_box.proofs.SeenAs.{same_flow, class_is_seen}
use Rattle.entry_order.specs.declared.what.What.{What}
use Rattle.entry_order.specs.declared.what.What.TheVariants.{Access as Accessed, Read as WasRead, Clock as Heard}
use Rattle.entry_order.specs.declared.what.What.TheVariants.{Draw as Drew}
use Rattle.plain_machine.specs.declared.local.Move.TheVariants.{Access}
use Rattle.plain_machine.specs.Machine.{Hand, Thread, Effect, Moves, held_move}
use Rattle.plain_machine.specs.History.{Act, Took, Did, Emitted, Ended, Step, act_of, left_by, thread_after}
use Rattle.plain_machine.specs.History.{value_after, IsHistory}
use Rattle.plain_machine.proofs.Histories.{not_eq}
use Rattle.plain_machine.proofs.Bounds.{values_fit}
use Rattle.nat_tables.specs.declared.entries.Endpoint.{Endpoint}
use Rattle.nat_tables.specs.declared.entries.PortKey.{PortKey}
use Rattle.nat_tables.specs.declared.slot.Slot.{Slot}
use Rattle.nat_tables.specs.declared.phase.Phase.TheVariants.{Kept}
use Rattle.nat_tables.specs.Keys.{same_port, port_key}
use Rattle.nat_tables.specs.Ports.{pool_without}
use Rattle.nat_tables.specs.Forwards.{Forwards, port_of, HasKept}
use Rattle.nat_tables.specs.Reverses.{Reverses, endpoint_of, IsUnbound as IsFree, AreBound}
use Rattle.nat_tables.proofs.Pooling.{pool_with_all}
use Rattle.flow_boxes.specs.Flows.{endpoint}
use Rattle.flow_boxes.specs.Drops.{no_drops}
use Rattle.nat_box.specs.declared.settings.StaticPort.{StaticPort}
use Rattle.nat_box.specs.declared.place.Class.TheVariants.{Outbound, Hairpin, Inbound, OutboundError}
use Rattle.nat_box.specs.declared.value.NatValue.{NatValue}
use Rattle.nat_box.specs.declared.value.NatValue.TheVariants.{Dropped, Free, Mapped, Taken}
use Rattle.nat_box.specs.Places.{noted}
use Rattle.nat_box.specs.Statics.{inside_of, outside_of, static_port, kept, outside_ports, IsStatic}
use Rattle.nat_box.specs.StaticLaws.{fresh_bound}
use Rattle.nat_box.specs.Settings.{Settings, AreSettings}
use Rattle.nat_box.specs.Nat.{flow_seen, forward_table, reverse_table, kept_mappings, kept_bound}
use Rattle.nat_box.specs.Nat.{fresh_value, touched_by, followed, nat_meaning, MayMap, MayBind, Fits}
use Rattle.nat_box.specs.Lawful.{nat_lawful}
use Rattle.nat_box.specs.Sentences.{Has, mappings_in, bound_in, IsMapping}
use Rattle.nat_box.proofs.Making.{comes_to}
use Rattle.nat_box.proofs.Sentences.{entries_stand}
use Rattle.nat_box.proofs.StaticPlaces.{table_below, kept_there, same_port_is}
use Rattle.nat_runs.specs.Met.{Met, met_by_touch, met_by_read, met_by_what, met_by, met_of}
use Rattle.nat_runs.specs.Causes.{IsUnbound, FoundNoneLive, Cause}
use Rattle.nat_runs.specs.StaticPorts.{StaticPortsStay, ComesInTo, NoneIsDropped, OnlyTheyAreKept}
use Rattle.nat_runs.specs.StaticPorts.{MovesAreTheSame, empty_value, NoneStartsWithoutThem}
use Rattle.nat_runs.proofs.TableEntries.{slot_in, endpoint_in, may_mapping, may_endpoint}
use Rattle.nat_runs.proofs.ThreadMoves.{at, touched_below, by_move}
use Rattle.nat_runs.proofs.Causes.{drops_have_causes}

pub static_ports_stay : StaticPortsStay
static_ports_stay s threads inputs steps p is h static =
    let value : ℕ → NatValue = value_after (nat_meaning s) steps in
    let fits = values_fit (nat_meaning s) (Fits s) (nat_lawful s is) inputs threads steps h in
    let v : ℕ = forward_table s (inside_of p) in
    let low : v < 2 + s.shards = table_below s (inside_of p) is.some in
    let below : v < 2 + 2 * s.shards = omega arith in
    let there = kept_there s is.some p static v refl (value v) (fits v below) in
    let es : Forwards = there.0 in
    let has : HasKept (inside_of p) p.outside es = there.2 in
    let slot : Slot = has.0 in
    let same : mappings_in (value v) ≡ es = ap mappings_in there.1 in
    let e : Endpoint × Slot = (inside_of p, slot) in
    let m : IsMapping s value v e =
    (below, subst (λ (l : Forwards). Has l e) (sym same) (slot_in (inside_of p) slot es has.1)) in
    let port : port_of e ≡ outside_of p = ap (port_key p.protocol) has.2 in
    let all = entries_stand s threads inputs steps is h in
    let named : endpoint_of (port_of e) (bound_in (value (reverse_table s (port_of e)))) ≡ Some (inside_of p) =
    all.0 v e m in
    record {
      mapped = subst (HasKept (inside_of p) p.outside) (sym same) has;
      named = subst (λ (k : PortKey). endpoint_of k (bound_in (value (reverse_table s k))) ≡ Some (inside_of p)) port
          named;
      alone = λ w f o q. all.1 w v f e o m (q ∙ sym port);
    }

kept_phase : (s : Settings) (v : ℕ) (x : NatValue) (key : Endpoint) (slot : Slot) → Fits s v x
    → Has (mappings_in x) (key, slot) → slot.phase ≡ Kept → IsStatic (static_port key slot.port) (kept s.statics)
kept_phase s v (Dropped d) key slot fits h = absurd h
kept_phase s v (Free pool) key slot fits h = absurd h
kept_phase s v (Mapped es) key slot fits h = (may_mapping (MayMap s v) key slot es fits.2 h).4
kept_phase s v (Taken bs) key slot fits h = absurd h

pub only_they_are_kept : OnlyTheyAreKept
only_they_are_kept s threads inputs steps v key slot is h there phase =
    let fits = values_fit (nat_meaning s) (Fits s) (nat_lawful s is) inputs threads steps h in
    kept_phase s v (value_after (nat_meaning s) steps v) key slot (fits v there.0) there.1 phase

pub moves_are_the_same : MovesAreTheSame
moves_are_the_same s statics = refl

none_starts : (s : Settings) (ports : List StaticPort) → ports ≡ [] → (v : ℕ)
    → (if v == 0 then Dropped no_drops
    else if v == 1 then Free (pool_without (outside_ports (kept ports)) s.low s.high)
    else if nat_lt v (2 + s.shards) then Mapped (kept_mappings s v (kept ports))
    else Taken (kept_bound s v (kept ports)))
    ≡ empty_value s v
none_starts s ports none v =
    rw none
    (ap (λ pool. if v == 0 then Dropped no_drops else if v == 1 then Free pool
    else if nat_lt v (2 + s.shards) then Mapped [] else Taken []) (pool_with_all s.low s.high))

pub none_starts_without_them : NoneStartsWithoutThem
none_starts_without_them s none v = none_starts s s.statics none v

-- What a packet met is what the variables had before an earlier step

abbrev WereThere : Settings → ℕ → (ℕ → List Packet) → (ℕ → NatValue) → Type 0
WereThere s threads inputs value =
    (steps : List (Step NatValue)) × IsHistory (nat_meaning s) inputs threads steps
    × (value ≡ value_after (nat_meaning s) steps)

record AreOld (s : Settings) (threads : ℕ) (inputs : ℕ → List Packet) (m : Met) : Type 0 where
  pub reverse : (value : ℕ → NatValue) → m.at_reverse ≡ Some value → WereThere s threads inputs value
  pub forward : (value : ℕ → NatValue) → m.at_forward ≡ Some value → WereThere s threads inputs value

module _ (s : Settings) (threads : ℕ) (inputs : ℕ → List Packet) where
  old_same : (m n : Met) → AreOld s threads inputs m → n.at_reverse ≡ m.at_reverse → n.at_forward ≡ m.at_forward
      → AreOld s threads inputs n
  old_same m n old a b = record {
    reverse = λ value e. old.reverse value (sym a ∙ e);
    forward = λ value e. old.forward value (sym b ∙ e);
  }

  module _ (earlier : List (Step NatValue)) (h : IsHistory (nat_meaning s) inputs threads earlier) (m : Met)
      (old : AreOld s threads inputs m) where
    now_there : (value : ℕ → NatValue) → Some (value_after (nat_meaning s) earlier) ≡ Some value
        → WereThere s threads inputs value
    now_there value e = let q : value_after (nat_meaning s) earlier ≡ value = cc in (earlier, h, sym q)

    old_touch : (x : NatValue) (left : Option NatValue)
        → AreOld s threads inputs (met_by_touch (value_after (nat_meaning s) earlier) x left m)
    old_touch (Dropped d) left = old
    old_touch (Free pool) left = old_same m _ old refl refl
    old_touch (Mapped es) left = old_same m _ old refl refl
    old_touch (Taken bs) left = old

    old_read : (x : NatValue) → AreOld s threads inputs (met_by_read (value_after (nat_meaning s) earlier) x m)
    old_read (Dropped d) = old
    old_read (Free pool) = old
    old_read (Mapped es) = record { reverse = old.reverse; forward = now_there }
    old_read (Taken bs) = record { reverse = now_there; forward = old.forward }

    old_what : (left : Option NatValue) (w : What)
        → AreOld s threads inputs (met_by_what (value_after (nat_meaning s) earlier) left w m)
    old_what left (Accessed v place) = old_touch (value_after (nat_meaning s) earlier v) left
    old_what left (WasRead v after) = old_read (value_after (nat_meaning s) earlier v)
    old_what left (Heard a) = old_same m _ old refl refl
    old_what left (Drew a) = old_same m _ old refl refl

    old_act : (act : Act NatValue) → AreOld s threads inputs (met_by (value_after (nat_meaning s) earlier) act m)
    old_act (Took k) = record { reverse = λ value e. absurd (cc); forward = λ value e. absurd (cc) }
    old_act (Did entry left) = old_what left entry.what
    old_act (Emitted o) = old
    old_act (Ended k) = old

  met_old : (t : ℕ) (steps : List (Step NatValue)) → IsHistory (nat_meaning s) inputs threads steps
      → AreOld s threads inputs (met_of s t steps)
  met_old t [] h = record { reverse = λ value e. absurd (cc); forward = λ value e. absurd (cc) }
  met_old t (x ∷ earlier) h = by (nat_eq x.thread t) (met_old t earlier h.1)
    where
      by : (b : Bool) → AreOld s threads inputs (met_of s t earlier)
          → AreOld s threads inputs
          (cond b (met_by (value_after (nat_meaning s) earlier) x.act (met_of s t earlier)) (met_of s t earlier))
      by true old = old_act earlier h.1 (met_of s t earlier) old x.act
      by false old = old

-- No variable is past the last one, so nothing changes there

module _ (s : Settings) (is : AreSettings s) (v : ℕ) (past : 2 + 2 * s.shards ≤ v) where
  past_move : (packets : List Packet) (value : ℕ → NatValue) (t : ℕ) (earlier : List (Step NatValue))
      (taken taken_then : ℕ) (after : Thread) (d : Effect NatValue) (hand : Option Hand) (a : Option ℕ)
      → held_move (nat_meaning s) packets value taken a hand ≡ Moves after d
      → left_by v (act_of t earlier taken_then d) (value v) ≡ value v
  past_move packets value t earlier taken taken_then after d hand a move =
      by_move s packets value taken
      (λ before later d. left_by v (act_of t earlier taken_then d) (value v) ≡ value v) (λ p input. refl)
      (λ h w c. other h w c) (λ h w c. refl) (λ h x c. refl) (λ h x c. refl) (λ h c. refl) (λ h c. refl) after d hand a
      move
    where
      other : (h : Hand) (w : ℕ) → comes_to s h (Access w)
          → cond (nat_eq w v)
          (followed s (noted h.place) (touched_by s.limit (at h) (value w) (noted h.place)).0) (value v)
          ≡ value v
      other h w c =
          let below = touched_below s is h w c in
          let apart : w ≢ v = (λ q. omega (arith, below, past, q)) in rw (not_eq w v apart) refl

  past_fresh : (threads : ℕ) (inputs : ℕ → List Packet) (steps : List (Step NatValue))
      → IsHistory (nat_meaning s) inputs threads steps → value_after (nat_meaning s) steps v ≡ fresh_value s v
  past_fresh threads inputs [] h = refl
  past_fresh threads inputs (x ∷ earlier) h =
      rw h.0.4
      (past_move (inputs x.thread) (value_after (nat_meaning s) earlier) x.thread earlier
      (thread_after earlier x.thread).taken x.after.taken x.after h.0.2 (thread_after earlier x.thread).hand h.0.1 h.0.3
      ∙ past_fresh threads inputs earlier h.1)

  past_bound : bound_in (fresh_value s v) ≡ kept_bound s v (kept s.statics)
  past_bound =
      let some = is.some in
      let a : (v == 0) ≡ false = grind (arith, nat_tests) in
      let b : (v == 1) ≡ false = grind (arith, nat_tests) in
      let c : nat_lt v (2 + s.shards) ≡ false = grind (arith, nat_tests) in
      rw (a, b, c) refl

bound_at : (s : Settings) (v : ℕ) (x : NatValue) (port : PortKey) (key : Endpoint) → Fits s v x
    → Has (bound_in x) (port, key) → v ≡ reverse_table s port
bound_at s v (Dropped d) port key fits h = absurd h
bound_at s v (Free pool) port key fits h = absurd h
bound_at s v (Mapped es) port key fits h = absurd h
bound_at s v (Taken bs) port key fits h = (may_endpoint (MayBind s v) port key bs fits.1 h).0

-- a port is bound in its own reverse table alone
bound_here : (s : Settings) (threads : ℕ) (inputs : ℕ → List Packet) (steps : List (Step NatValue)) (v : ℕ)
    (port : PortKey) (key : Endpoint) → AreSettings s → IsHistory (nat_meaning s) inputs threads steps
    → Has (bound_in (value_after (nat_meaning s) steps v)) (port, key) → v ≡ reverse_table s port
bound_here s threads inputs steps v port key is h there = ⊎_elim inside outside (cases_lt v (2 + 2 * s.shards))
  where
    inside : v < 2 + 2 * s.shards → v ≡ reverse_table s port
    inside low =
        let fits = values_fit (nat_meaning s) (Fits s) (nat_lawful s is) inputs threads steps h in
        bound_at s v (value_after (nat_meaning s) steps v) port key (fits v low) there

    outside : 2 + 2 * s.shards ≤ v → v ≡ reverse_table s port
    outside past =
        let same : bound_in (value_after (nat_meaning s) steps v) ≡ kept_bound s v (kept s.statics) =
        ap bound_in (past_fresh s is v past threads inputs steps h) ∙ past_bound s is v past in
        (may_endpoint (MayBind s v) port key (kept_bound s v (kept s.statics)) (fresh_bound s v)
        (subst (λ (bs : Reverses). Has bs (port, key)) same there)).0

bound_fit : (s : Settings) (v : ℕ) (x : NatValue) → Fits s v x → AreBound (MayBind s v) (bound_in x)
bound_fit s v (Dropped d) fits = tt
bound_fit s v (Free pool) fits = tt
bound_fit s v (Mapped es) fits = tt
bound_fit s v (Taken bs) fits = fits.1

-- a port is bound once

free_not : (bs : Reverses) (port : PortKey) (key : Endpoint) → IsFree bs port → Has bs (port, key) → ⊥
free_not [] port key free h = h
free_not (b ∷ bs) port key free (inl q) =
    let a : same_port b.0 port ≡ true =
    subst (λ (c : PortKey × Endpoint). same_port c.0 port ≡ true) (sym q) (same_port_is port) in
    absurd (cc)
free_not (b ∷ bs) port key free (inr h) = free_not bs port key free.1 h

bound_once : (May : PortKey → Endpoint → Type 0) (bs : Reverses) (port : PortKey) (a b : Endpoint) → AreBound May bs
    → Has bs (port, a) → Has bs (port, b) → a ≡ b
bound_once May [] port a b all h g = absurd h
bound_once May (x ∷ bs) port a b all (inl p) (inl q) = ap (λ (z : PortKey × Endpoint). z.1) (sym p ∙ q)
bound_once May (x ∷ bs) port a b all (inl p) (inr g) =
    absurd (free_not bs x.0 b all.1
    (subst (λ (k : PortKey). Has bs (k, b)) (sym (ap (λ (z : PortKey × Endpoint). z.0) p)) g))
bound_once May (x ∷ bs) port a b all (inr h) (inl q) =
    absurd (free_not bs x.0 a all.1
    (subst (λ (k : PortKey). Has bs (k, a)) (sym (ap (λ (z : PortKey × Endpoint). z.0) q)) h))
bound_once May (x ∷ bs) port a b all (inr h) (inr g) = bound_once May bs port a b all.2 h g

module _ (s : Settings) (threads : ℕ) (inputs : ℕ → List Packet) (p : StaticPort) (is : AreSettings s)
    (static : IsStatic p (kept s.statics)) where
  -- the endpoint that the port of a static port is bound to
  bound_to : (value : ℕ → NatValue) → WereThere s threads inputs value → (v : ℕ) (key : Endpoint)
      → Has (bound_in (value v)) (outside_of p, key) → key ≡ inside_of p
  bound_to value (steps, h, same) v key has =
      let old : ℕ → NatValue = value_after (nat_meaning s) steps in
      let stands = static_ports_stay s threads inputs steps p is h static in
      let has_old : Has (bound_in (old v)) (outside_of p, key) =
      subst (λ (f : ℕ → NatValue). Has (bound_in (f v)) (outside_of p, key)) same has in
      let here : v ≡ reverse_table s (outside_of p) =
      bound_here s threads inputs steps v (outside_of p) key is h has_old in
      let r : ℕ = reverse_table s (outside_of p) in
      let has_here : Has (bound_in (old r)) (outside_of p, key) =
      subst (λ (u : ℕ). Has (bound_in (old u)) (outside_of p, key)) here has_old in
      let named : Has (bound_in (old r)) (outside_of p, inside_of p) =
      endpoint_in (outside_of p) (inside_of p) (bound_in (old r)) stands.named in
      let some = is.some in
      let low : r < 2 + 2 * s.shards = omega (arith, some) in
      let fits = values_fit (nat_meaning s) (Fits s) (nat_lawful s is) inputs threads steps h in
      bound_once (MayBind s r) (bound_in (old r)) (outside_of p) key (inside_of p) (bound_fit s r (old r) (fits r low))
      has_here named

  -- and its mapping is there, and is live
  module _ (value : ℕ → NatValue) (old : WereThere s threads inputs value) where
    it_is_bound : IsUnbound s value (outside_of p) → ⊥
    it_is_bound unbound =
        let now : ℕ → NatValue = value_after (nat_meaning s) old.0 in
        let stands = static_ports_stay s threads inputs old.0 p is old.1 static in
        let r : ℕ = reverse_table s (outside_of p) in
        let some = is.some in
        let low : r < 2 + 2 * s.shards = omega (arith, some) in
        unbound r (inside_of p) low
        (subst (λ (f : ℕ → NatValue). Has (bound_in (f r)) (outside_of p, inside_of p)) (sym old.2)
        (endpoint_in (outside_of p) (inside_of p) (bound_in (now r)) stands.named))

    it_is_mapped : (slot : Slot) × IsMapping s value (forward_table s (inside_of p)) (inside_of p, slot)
        × (slot.port ≡ p.outside) × (slot.phase ≡ Kept)
    it_is_mapped =
        let now : ℕ → NatValue = value_after (nat_meaning s) old.0 in
        let stands = static_ports_stay s threads inputs old.0 p is old.1 static in
        let has : HasKept (inside_of p) p.outside (mappings_in (now (forward_table s (inside_of p)))) = stands.mapped in
        let v : ℕ = forward_table s (inside_of p) in
        let low : v < 2 + s.shards = table_below s (inside_of p) is.some in
        let there : IsMapping s now v (inside_of p, has.0) =
        (omega arith, slot_in (inside_of p) has.0 (mappings_in (now v)) has.1) in (
          has.0,
          subst (λ (f : ℕ → NatValue). IsMapping s f v (inside_of p, has.0)) (sym old.2) there,
          has.2,
          has.3,
        )

-- the same flow
seen_twice : (s : Settings) (packet : Packet) (flow other : Flow) → flow_seen s packet ≡ Ok flow
    → flow_seen s packet ≡ Ok other → other ≡ flow
seen_twice s packet flow other a b = same_flow (flow_seen s packet) other flow b a

module _ (s : Settings) (threads : ℕ) (inputs : ℕ → List Packet) (p : StaticPort) (is : AreSettings s)
    (static : IsStatic p (kept s.statics)) (packet : Packet) (to : ComesInTo s p packet) (m : Met)
    (old : AreOld s threads inputs m) where
  its_port : (flow : Flow) → flow_seen s packet ≡ Ok flow
      → port_key flow.protocol flow.dest_port ≡ outside_of p
  its_port flow seen =
      ap (λ (f : Flow). port_key f.protocol f.dest_port) (seen_twice s packet to.0 flow to.1 seen) ∙ to.3

  none_live : (flow : Flow) (bound : ℕ → NatValue) → flow_seen s packet ≡ Ok flow
      → m.at_reverse ≡ Some bound → FoundNoneLive s flow m bound → ⊥
  none_live flow bound seen read (v, key, has, value, now, at, clock, none) =
      let port = its_port flow seen in
      let own : key ≡ inside_of p =
      bound_to s threads inputs p is static bound (old.reverse bound read) v key
      (subst (λ (k : PortKey). Has (bound_in (bound v)) (k, key)) port has) in
      let it = it_is_mapped s threads inputs p is static value (old.forward value at) in
      let protocol : flow.protocol ≡ p.protocol = ap (λ (k : PortKey). k.protocol) port in
      let outside : flow.dest_port ≡ p.outside = ap (λ (k : PortKey). k.port) port in
      let target : inside_of p ≡ endpoint flow.protocol key.address key.port =
      (λ i. endpoint (sym protocol i) (sym (ap (λ (e : Endpoint). e.address) own) i)
      (sym (ap (λ (e : Endpoint). e.port) own) i)) in
      let idle = none (forward_table s (inside_of p)) it.0
      (subst (λ (e : Endpoint). IsMapping s value (forward_table s (inside_of p)) (e, it.0)) target it.1)
      (it.2 ∙ sym outside) in
      idle.0 it.3

  no_cause : (reason : ℕ) → Cause s packet m reason → ⊥
  no_cause reason (inl (answer, seen, why)) = let both : Ok to.0 ≡ Err answer = sym to.1 ∙ seen in absurd (cc)
  no_cause reason (inr (inl (flow, seen, class, why))) =
      let both : Some Inbound ≡ None = sym to.2 ∙ class in absurd (cc)
  no_cause reason (inr (inr (inl (flow, seen, inl class, had, value, pool, none, why)))) =
      let both : Some Inbound ≡ Some Outbound = sym to.2 ∙ class_is_seen s packet flow seen ∙ class in absurd (cc)
  no_cause reason (inr (inr (inl (flow, seen, inr class, had, value, pool, none, why)))) =
      let both : Some Inbound ≡ Some Hairpin = sym to.2 ∙ class_is_seen s packet flow seen ∙ class in absurd (cc)
  no_cause reason (inr (inr (inr (inl (flow, seen, goes, bound, read, inl unbound, why))))) =
      it_is_bound s threads inputs p is static bound (old.reverse bound read)
      (subst (IsUnbound s bound) (its_port flow seen) unbound)
  no_cause reason (inr (inr (inr (inl (flow, seen, goes, bound, read, inr none, why))))) =
      none_live flow bound seen read none
  no_cause reason (inr (inr (inr (inr (inl (flow, seen, class, value, now, read, clock, none, why)))))) =
      let both : Some Inbound ≡ Some OutboundError = sym to.2 ∙ class in absurd (cc)
  no_cause reason (inr (inr (inr (inr (inr (flow, seen, inl class, most, limit, es, left, none, many, why)))))) =
      let both : Some Inbound ≡ Some Outbound = sym to.2 ∙ class_is_seen s packet flow seen ∙ class in absurd (cc)
  no_cause reason (inr (inr (inr (inr (inr (flow, seen, inr class, most, limit, es, left, none, many, why)))))) =
      let both : Some Inbound ≡ Some Hairpin = sym to.2 ∙ class_is_seen s packet flow seen ∙ class in absurd (cc)

pub none_is_dropped : NoneIsDropped
none_is_dropped s threads inputs x earlier entry left place h p is bytes hist hand static to act what =
    let c = drops_have_causes s threads inputs x earlier entry left place is bytes hist act what in
    let both : Some c.0 ≡ Some h = sym c.3 ∙ hand in
    let same : c.0 ≡ h = cc in
    let cause : Cause s h.packet (met_of s x.thread earlier) c.2 =
    subst (λ (g : Hand). Cause s g.packet (met_of s x.thread earlier) c.2) same c.6 in
    no_cause s threads inputs p is static h.packet to (met_of s x.thread earlier)
    (met_old s threads inputs x.thread earlier hist.1) c.2 cause
