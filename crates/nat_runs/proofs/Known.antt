-- What is known of a packet in hand, by where it is and by what its moves met.
use Rattle.std.proofs.Common.{◌≡◌, ◌≢◌, ℕ, ◌≤◌, Bool, true, false, [], refl, sym, ap, ◌∙◌, subst, ◌⊎◌, inl, inr, Option}
use Rattle.std.proofs.Common.{Some, None}
use Rattle.std.specs.Prelude.{Ok}
use Rattle.plain_text.specs.declared.packet.Packet.{Packet}
use Rattle.packet_headers.specs.declared.flow.Flow.{Flow}
use Rattle.packet_headers.specs.Fields.{AreBytes}
use Rattle.packet_headers.specs.View.{viewed}
use Rattle.plain_machine.specs.Machine.{Hand}
use Rattle.nat_tables.specs.declared.entries.Endpoint.{Endpoint}
use Rattle.nat_tables.specs.declared.entries.PortKey.{PortKey}
use Rattle.nat_tables.specs.declared.slot.Slot.{Slot}
use Rattle.nat_tables.specs.declared.entries.Find.{Find}
use Rattle.nat_tables.specs.declared.entries.Find.TheVariants.{Live, Absent}
use Rattle.nat_tables.specs.declared.entries.Bind.{Bind}
use Rattle.nat_tables.specs.declared.entries.Bind.TheVariants.{Bound, Other}
use Rattle.nat_tables.specs.Forwards.{Forwards, slot_of, lives}
use Rattle.nat_tables.specs.Hosts.{count_of}
use Rattle.nat_tables.specs.Reverses.{endpoint_of}
use Rattle.nat_box.specs.declared.place.Place.{Place}
use Rattle.nat_box.specs.declared.place.Place.TheVariants.{HearsTime, FindsMapping, UnbindsFreed, GivesBackFreed}
use Rattle.nat_box.specs.declared.place.Place.TheVariants.{DrawsWord, ReservesPort, BindsPort, FindsOrBinds}
use Rattle.nat_box.specs.declared.place.Place.TheVariants.{UnbindsLost, GivesBackLost, FindsEndpoint, AsksIfLives}
use Rattle.nat_box.specs.declared.place.Place.TheVariants.{CountsDrop, SendsOut, Ends, FindsPort}
use Rattle.nat_box.specs.declared.place.Class.{Class}
use Rattle.nat_box.specs.declared.place.Class.TheVariants.{Outbound, Hairpin, Inbound, OutboundError}
use Rattle.nat_box.specs.declared.place.Noted.{Noted}
use Rattle.nat_box.specs.declared.value.NatValue.{NatValue}
use Rattle.nat_box.specs.declared.value.NatValue.TheVariants.{Dropped, Free, Mapped, Taken}
use Rattle.flow_boxes.specs.Flows.{endpoint, source_of}
use Rattle.nat_box.specs.Places.{place_numbered, noted, dest_key, drop_reason, no_port}
use Rattle.nat_box.specs.declared.place.Goes.{Goes}
use Rattle.nat_box.specs.Settings.{Settings}
use Rattle.nat_box.specs.Nat.{forward_table, reverse_table, class_of_flow, flow_in, class_in, flow_seen, class_seen}
use Rattle.nat_box.specs.Nat.{live_port, segment_told, mapped, after_find, after_bind, after_endpoint, looked_by}
use Rattle.nat_box.specs.Nat.{looked, after_time, local_at, MayMap, MayBind, Fits}
use Rattle.nat_box.specs.Noting.{place_again, IsNoted, noted_again}
use Rattle.nat_box.specs.PortStanding.{free_at}
use Rattle.nat_box.specs.Sentences.{Has, mappings_in, bound_in}
use Rattle.nat_box.proofs.Making.{goes_on}
use Rattle.nat_runs.specs.Classes.{IsFromInside, GoesInside}
use Rattle.nat_runs.specs.Met.{Met}
use Rattle.nat_runs.specs.Causes.{HasNoneLive, Cause}
use Rattle.nat_runs.proofs.TableEntries.{endpoint_in, may_endpoint, may_mapping}
use Rattle.nat_box.proofs.SeenAs.{same_flow, seen_flow}
use Rattle.nat_box.proofs.Translations.{IsOutward, IsInward, IfOutward}
use Rattle.nat_box.proofs.Emissions.{worded, targeted, port_noted, small_live}
use Rattle.nat_runs.proofs.ThreadMoves.{LookKind, finds_endpoint, asks, finds_port}

pub record IsBase (s : Settings) (p : Packet) (n : Noted) : Type 0 where
  pub flow : Flow
  pub seen : flow_seen s p ≡ Ok flow
  pub class : class_seen s p ≡ Some n.class
  pub source : AreBytes p.bytes → n.source ≡ source_of flow
  pub dest_port : AreBytes p.bytes → n.dest_port ≡ flow.dest_port
  pub segment : AreBytes p.bytes → n.segment ≡ segment_told s.closing flow.flags

-- it knows the time
abbrev pub IsTold : Settings → Met → Packet → Noted → Type 0
IsTold s m p n = IsBase s p n × (m.clock ≡ Some n.time)

-- on its way to a mapping of its source
abbrev pub IsOnWay : Settings → Met → Packet → Noted → Type 0
IsOnWay s m p n = IsBase s p n × (m.clock ≡ Some n.time) × IsOutward n.class

-- its source had no live mapping
abbrev pub WasUnmapped : Settings → Met → Noted → Type 0
WasUnmapped s m n =
    (value : ℕ → NatValue) × (m.at_touch ≡ Some value) × ((port : ℕ) → HasNoneLive s value n.source port n.time)

-- and it takes a port for it
abbrev pub IsWanting : Settings → Met → Packet → Noted → Type 0
IsWanting s m p n = IsOnWay s m p n × WasUnmapped s m n

-- the mapping of its source was used at its time or later
abbrev pub Refreshed : Met → Noted → Type 0
Refreshed m n =
    (es : Forwards) × (slot : Slot) × (m.left ≡ Some es) × (slot_of n.source es ≡ Some slot) × (n.time ≤ slot.last)

-- its host had as many mappings as it may have, and its source none, in the table as its touch left it
abbrev pub IsRefused : Settings → Met → Noted → Type 0
IsRefused s m n =
    (most : ℕ) × (s.limit ≡ Some most) × (es : Forwards) × (m.left ≡ Some es) × (slot_of n.source es ≡ None)
    × (most ≤ count_of n.source.protocol n.source.address es)

-- it gives back the port that it bound: its source has another, or may have none, and then its port is 0
abbrev pub HasLost : Settings → Met → Noted → Type 0
HasLost s m n = (Refreshed m n × (1 ≤ n.port)) ⊎ (IsRefused s m n × (n.port ≡ no_port))

abbrev pub IsBoundTo : Met → Noted → Type 0
IsBoundTo m n =
    (value : ℕ → NatValue) × (v : ℕ) × (key : Endpoint) × (m.at_reverse ≡ Some value)
    × Has (bound_in (value v)) (dest_key n, key) × (n.target ≡ endpoint n.source.protocol key.address key.port)

abbrev pub IsToCount : Settings → Met → Packet → Noted → Type 0
IsToCount s m p n = (1 ≤ drop_reason n) × (drop_reason n ≤ 10) × (AreBytes p.bytes → Cause s p m (drop_reason n))

abbrev pub KnownAt : Settings → Met → Packet → Place → Noted → Type 0
KnownAt s m p HearsTime n = IsBase s p n
KnownAt s m p FindsMapping n = IsOnWay s m p n
KnownAt s m p UnbindsFreed n = IsWanting s m p n
KnownAt s m p GivesBackFreed n = IsWanting s m p n
KnownAt s m p DrawsWord n = IsWanting s m p n
KnownAt s m p ReservesPort n = IsWanting s m p n
KnownAt s m p BindsPort n = IsOnWay s m p n
KnownAt s m p FindsOrBinds n = IsOnWay s m p n
KnownAt s m p UnbindsLost n = IsOnWay s m p n × HasLost s m n
KnownAt s m p GivesBackLost n = IsOnWay s m p n × HasLost s m n
KnownAt s m p FindsEndpoint n = IsTold s m p n × IsInward n.class × IfOutward n.class (Refreshed m n)
KnownAt s m p AsksIfLives n = IsTold s m p n × IsInward n.class × IfOutward n.class (Refreshed m n) × IsBoundTo m n
KnownAt s m p CountsDrop n = IsToCount s m p n
KnownAt s m p SendsOut n = IsTold s m p n × IfOutward n.class (Refreshed m n)
KnownAt s m p Ends n = Unit {0}
KnownAt s m p FindsPort n = IsTold s m p n × (n.class ≡ OutboundError)

abbrev pub Known : Settings → Met → Option Hand → Type 0
Known s m None = Unit {0}
Known s m (Some h) = KnownAt s m h.packet (place_numbered h.place.at) (noted h.place)

pub known_on : (s : Settings) (m : Met) (h : Hand) (g : Goes) → IsNoted g.noted → KnownAt s m h.packet g.place g.noted
    → Known s m (goes_on h g)
known_on s m h g is k =
    let a : place_numbered (local_at g).at ≡ g.place = place_again g.place in
    let b : noted (local_at g) ≡ g.noted = noted_again g.place g.noted is in
    rw (a, b) k

-- Numbers fit

pub timed : (n : Noted) (a : ℕ) → IsNoted n → IsNoted (record n { time = a })
timed n a is = record {
  protocol = is.protocol;
  address = is.address;
  source_port = is.source_port;
  dest_port = is.dest_port;
  port = is.port;
  freed_protocol = is.freed_protocol;
  freed_port = is.freed_port;
  target_protocol = is.target_protocol;
  target_address = is.target_address;
  target_port = is.target_port;
}

pub time_noted : (n : Noted) (c : Class) → IsNoted n → IsNoted (after_time n c).noted
time_noted n Outbound is = is
time_noted n Hairpin is = is
time_noted n Inbound is = is
time_noted n OutboundError is = is

pub looked_noted : (s : Settings) (v : ℕ) (place : Place) (x : NatValue) (n : Noted) → LookKind place x → Fits s v x
    → IsNoted n → IsNoted (looked place x n).noted
looked_noted s v _ _ n (finds_endpoint bs) fits is = by (endpoint_of (dest_key n) bs) refl
  where
    by : (o : Option Endpoint) → endpoint_of (dest_key n) bs ≡ o → IsNoted (after_endpoint n o).noted
    by None q = worded n 7 is
    by (Some key) q =
        let may = may_endpoint (MayBind s v) (dest_key n) key bs fits.1 (endpoint_in (dest_key n) key bs q) in
        targeted n key may.1 may.2 is
looked_noted s v _ _ n (asks es) fits is = by (lives n.target n.dest_port n.time es)
  where
    by : (b : Bool) → IsNoted (looked_by n b).noted
    by true = is
    by false = worded n 7 is
looked_noted s v _ _ n (finds_port es) fits is =
    port_noted n (live_port n.source n.time es) is (small_live s v n.source n.time es fits.2)

-- The variable of an entry

pub bound_at : (s : Settings) (v : ℕ) (x : NatValue) (port : PortKey) (key : Endpoint) → Fits s v x
    → Has (bound_in x) (port, key) → v ≡ reverse_table s port
bound_at s v (Dropped d) port key fits h = absurd h
bound_at s v (Free pool) port key fits h = absurd h
bound_at s v (Mapped es) port key fits h = absurd h
bound_at s v (Taken bs) port key fits h = (may_endpoint (MayBind s v) port key bs fits.1 h).0

pub mapping_at : (s : Settings) (v : ℕ) (x : NatValue) (key : Endpoint) (slot : Slot) → Fits s v x
    → Has (mappings_in x) (key, slot) → v ≡ forward_table s key
mapping_at s v (Dropped d) key slot fits h = absurd h
mapping_at s v (Free pool) key slot fits h = absurd h
mapping_at s v (Mapped es) key slot fits h = (may_mapping (MayMap s v) key slot es fits.2 h).0
mapping_at s v (Taken bs) key slot fits h = absurd h

pub free_elsewhere : (s : Settings) (v : ℕ) (x : NatValue) (k : PortKey) → Fits s v x → v ≢ 1 → free_at k x ≡ 0
free_elsewhere s v (Dropped d) k fits other = refl
free_elsewhere s v (Free pool) k fits other = absurd (other fits.0)
free_elsewhere s v (Mapped es) k fits other = refl
free_elsewhere s v (Taken bs) k fits other = refl

-- a packet on its way to a mapping of its source is a flow, and from inside
pub outward_flow : (s : Settings) (p : Packet) (n : Noted) (base : IsBase s p n) → IsOutward n.class
    → (viewed p.bytes p.original ≡ Ok base.flow)
    × (class_of_flow s base.flow.source base.flow.dest ≡ Some n.class)
outward_flow s p n base out =
    let f = seen_flow s p n.class base.class (λ q. subst IsOutward q out) (λ q. subst IsOutward q out) in
    let same : f.0 ≡ base.flow = same_flow (flow_seen s p) f.0 base.flow (ap flow_in f.2) base.seen in (
      f.1 ∙ ap (λ (g : Flow). Ok g) same,
      ap (λ (g : Flow). class_of_flow s g.source g.dest) (sym same) ∙ sym (ap (class_in s) f.2) ∙ base.class,
    )

pub from_inside : (s : Settings) (p : Packet) (n : Noted) (base : IsBase s p n) → IsOutward n.class
    → IsFromInside s base.flow
from_inside s p n base out =
    by (class_of_flow s base.flow.source base.flow.dest) n.class (outward_flow s p n base out).1 out
  where
    by : (o : Option Class) (c : Class) → o ≡ Some c → IsOutward c → (o ≡ Some Outbound) ⊎ (o ≡ Some Hairpin)
    by o Outbound e out = inl e
    by o Hairpin e out = inr e
    by o Inbound e out = absurd out
    by o OutboundError e out = absurd out

pub goes_inside : (s : Settings) (p : Packet) (n : Noted) (base : IsBase s p n) → IsInward n.class → GoesInside s p
goes_inside s p n base inward = by (class_seen s p) n.class base.class inward
  where
    by : (o : Option Class) (c : Class) → o ≡ Some c → IsInward c → (o ≡ Some Inbound) ⊎ (o ≡ Some Hairpin)
    by o Outbound e inward = absurd inward
    by o Hairpin e inward = inr e
    by o Inbound e inward = inl e
    by o OutboundError e inward = absurd inward

-- where a packet may go from a forward table
abbrev pub IsMappingPlace : Place → Type 0
IsMappingPlace HearsTime = Unit {0}
IsMappingPlace FindsMapping = Unit {0}
IsMappingPlace UnbindsFreed = Unit {0}
IsMappingPlace GivesBackFreed = Unit {0}
IsMappingPlace DrawsWord = Unit {0}
IsMappingPlace ReservesPort = Unit {0}
IsMappingPlace BindsPort = Unit {0}
IsMappingPlace FindsOrBinds = Unit {0}
IsMappingPlace UnbindsLost = Unit {0}
IsMappingPlace GivesBackLost = ⊥
IsMappingPlace FindsEndpoint = Unit {0}
IsMappingPlace AsksIfLives = ⊥
IsMappingPlace CountsDrop = ⊥
IsMappingPlace SendsOut = Unit {0}
IsMappingPlace Ends = Unit {0}
IsMappingPlace FindsPort = ⊥

mapped_place : (n : Noted) (c : Class) → IsMappingPlace (mapped n c).place
mapped_place n Outbound = tt
mapped_place n Hairpin = tt
mapped_place n Inbound = tt
mapped_place n OutboundError = tt

pub find_place : (n : Noted) (f : Find) → IsMappingPlace (after_find n f).place
find_place n (Live port) = mapped_place (record n { port = port }) n.class
find_place n (Absent (Some freed)) = tt
find_place n (Absent None) = tt

pub bind_place : (n : Noted) (b : Bind) → IsMappingPlace (after_bind n b).place
bind_place n Bound = mapped_place n n.class
bind_place n (Other port) = tt

pub given_outward : (c : Class) (X : Type 0) → X → IfOutward c X
given_outward Outbound X x = x
given_outward Hairpin X x = x
given_outward Inbound X x = tt
given_outward OutboundError X x = tt
