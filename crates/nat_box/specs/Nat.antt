-- The box that gives inside endpoints ports of one outside address (RFC 3022). Variable 0 counts drops by reason,
-- variable 1 is the pool of free ports, the next S variables are the forward tables, and the next S the reverse tables.
use Rattle.std.specs.Prelude.{◌≡◌, ℕ, ◌+◌, ◌-◌, ◌*◌, ◌/◌, ◌%◌, ◌^◌, ◌<◌, ◌≤◌, max, Bool, true, false, ◌==◌, nat_lt}
use Rattle.std.specs.Prelude.{not}
use Rattle.std.specs.Prelude.{if◌then◌else◌, bit_and, List, [], ◌∷◌, Option, Some, None, Result}
use Rattle.std.specs.Prelude.{Ok, Err}
use Rattle.packet_headers.specs.declared.flow.Flow.{Flow}
use Rattle.packet_headers.specs.declared.flow.NotFlow.{NotFlow}
use Rattle.flow_boxes.specs.Drops.{reason_of, with_drop, no_drops, stray}
use Rattle.icmp_errors.specs.declared.error.IcmpError.{IcmpError}
use Rattle.icmp_errors.specs.ErrorView.{viewed_error, IsErrorFrame}
use Rattle.icmp_errors.specs.ErrorRewriting.{with_quoted_source, with_quoted_dest}
use Rattle.plain_text.specs.declared.packet.Packet.{Packet}
use Rattle.packet_headers.specs.View.{viewed}
use Rattle.packet_headers.specs.Rewriting.{with_source, with_dest, CanRewrite}
use Rattle.plain_machine.specs.declared.local.Local.{Local}
use Rattle.plain_machine.specs.declared.local.Move.{Move}
use Rattle.plain_machine.specs.declared.local.Move.TheVariants.{Access, Read, Clock, Draw, Emit, End}
use Rattle.plain_machine.specs.Program.{Meaning}
use Rattle.nat_tables.specs.declared.entries.Endpoint.{Endpoint}
use Rattle.nat_tables.specs.declared.entries.PortKey.{PortKey}
use Rattle.nat_tables.specs.declared.entries.Find.{Find}
use Rattle.nat_tables.specs.declared.entries.Find.TheVariants.{Live, Absent}
use Rattle.nat_tables.specs.declared.entries.Bind.{Bind}
use Rattle.nat_tables.specs.declared.entries.Bind.TheVariants.{Bound, Other}
use Rattle.nat_tables.specs.Ports.{reserve, give_back, pool_without, ArePorts}
use Rattle.nat_tables.specs.Keys.{port_key}
use Rattle.nat_tables.specs.declared.slot.Slot.{Slot}
use Rattle.nat_tables.specs.declared.phase.Phase.{Phase}
use Rattle.nat_tables.specs.declared.phase.Phase.TheVariants.{Plain, Opening, Established, Closing}
use Rattle.nat_tables.specs.declared.phase.Phase.TheVariants.{EndedByClient, EndedByServer, Kept}
use Rattle.nat_tables.specs.declared.phase.Segment.{Segment}
use Rattle.nat_tables.specs.declared.phase.Segment.TheVariants.{Silent, Opens, Carries, Closes}
use Rattle.nat_tables.specs.Forwards.{Forwards, is_idle, slot_of, find, find_or_bind, lives, mark, AreMappings}
use Rattle.nat_tables.specs.Forwards.{kept_slot, HasKept}
use Rattle.nat_tables.specs.Hosts.{count_of, is_full, find_within, bind_within}
use Rattle.nat_tables.specs.Reverses.{Reverses, endpoint_of, bind, unbind, AreBound}
use Rattle.nat_box.specs.declared.settings.StaticPort.{StaticPort}
use Rattle.nat_box.specs.Settings.{Settings}
use Rattle.nat_box.specs.declared.place.Place.{Place}
use Rattle.nat_box.specs.declared.place.Place.TheVariants.{HearsTime, FindsMapping, UnbindsFreed, GivesBackFreed}
use Rattle.nat_box.specs.declared.place.Place.TheVariants.{DrawsWord, ReservesPort, BindsPort, FindsOrBinds}
use Rattle.nat_box.specs.declared.place.Place.TheVariants.{UnbindsLost, GivesBackLost, FindsEndpoint, AsksIfLives}
use Rattle.nat_box.specs.declared.place.Place.TheVariants.{CountsDrop, SendsOut, Ends, FindsPort}
use Rattle.nat_box.specs.declared.place.Class.{Class}
use Rattle.nat_box.specs.declared.place.Class.TheVariants.{Outbound, Hairpin, Inbound, OutboundError}
use Rattle.nat_box.specs.declared.place.Noted.{Noted}
use Rattle.nat_box.specs.declared.place.Goes.{Goes}
use Rattle.nat_box.specs.declared.seeing.Seen.{Seen}
use Rattle.nat_box.specs.declared.seeing.Seen.TheVariants.{OfFlow, OfError, OfNeither}
use Rattle.nat_box.specs.declared.value.NatValue.{NatValue}
use Rattle.nat_box.specs.declared.value.NatValue.TheVariants.{Dropped, Free, Mapped, Taken}
use Rattle.nat_box.specs.Shown.{shown_value}
use Rattle.flow_boxes.specs.Flows.{endpoint}
use Rattle.nat_box.specs.Statics.{inside_of, outside_of, static_port, kept, outside_ports, IsStatic}
use Rattle.nat_box.specs.Places.{place_numbered, noted, local_of, source_key, dest_key, drawn_word, drop_reason}
use Rattle.nat_box.specs.Places.{no_port, is_refused}

abbrev pub goes : Place → Noted → Goes
goes place n = record { place = place; noted = n }

-- Where hosts have a limit, all mappings of a host and a protocol are in one table.
abbrev pub table_sum : Option ℕ → Endpoint → ℕ
table_sum None key = key.protocol + key.address + key.port
table_sum (Some most) key = key.protocol + key.address

abbrev pub forward_table : Settings → Endpoint → ℕ
forward_table s key = 2 + table_sum s.limit key % s.shards

abbrev pub reverse_table : Settings → PortKey → ℕ
reverse_table s key = 2 + s.shards + key.port % s.shards

-- What comes next

abbrev pub next_move : Settings → Place → Noted → Move
next_move s HearsTime n = Clock
next_move s FindsMapping n = Access (forward_table s n.source)
next_move s UnbindsFreed n = Access (reverse_table s n.freed)
next_move s GivesBackFreed n = Access 1
next_move s DrawsWord n = Draw
next_move s ReservesPort n = Access 1
next_move s BindsPort n = Access (reverse_table s (source_key n))
next_move s FindsOrBinds n = Access (forward_table s n.source)
next_move s UnbindsLost n = Access (reverse_table s n.freed)
next_move s GivesBackLost n = Access 1
next_move s FindsEndpoint n = Read (reverse_table s (dest_key n))
next_move s AsksIfLives n = Read (forward_table s n.target)
next_move s CountsDrop n = Access 0
next_move s SendsOut n = Emit
next_move s Ends n = End
next_move s FindsPort n = Read (forward_table s n.source)

abbrev pub moves_left : Place → ℕ
moves_left HearsTime = 13
moves_left FindsMapping = 12
moves_left UnbindsFreed = 11
moves_left GivesBackFreed = 10
moves_left DrawsWord = 9
moves_left ReservesPort = 8
moves_left BindsPort = 7
moves_left FindsOrBinds = 6
moves_left UnbindsLost = 5
moves_left GivesBackLost = 4
moves_left FindsEndpoint = 3
moves_left AsksIfLives = 2
moves_left CountsDrop = 1
moves_left SendsOut = 1
moves_left Ends = 0
moves_left FindsPort = 2

-- The beginning

abbrev pub no_mapping : ℕ
no_mapping = 7

abbrev pub no_free_port : ℕ
no_free_port = 8

abbrev pub over_limit : ℕ
over_limit = 10

abbrev pub is_inside : Settings → ℕ → Bool
is_inside s address = address / 2 ^ (32 - s.length) == s.inside / 2 ^ (32 - s.length)

-- the class of a flow; none of one that is dropped
abbrev pub class_of_flow : Settings → ℕ → ℕ → Option Class
class_of_flow s source dest =
    if is_inside s source then
    if dest == s.outside then Some Hairpin else if is_inside s dest then None else Some Outbound
    else if dest == s.outside then Some Inbound else None

-- The class of an error of ICMP (RFC 5508, REQ-4 and REQ-5); none of one that is dropped. An inbound error goes to the
-- outside address, from which the quoted packet came; an outbound one is about a packet that went inside.
abbrev pub class_of_error : Settings → IcmpError → Option Class
class_of_error s error =
    if is_inside s error.source then
    if error.dest == s.outside then None else if is_inside s error.dest then None
    else if is_inside s error.quoted_dest then Some OutboundError else None
    else if error.dest == s.outside then if error.quoted_source == s.outside then Some Inbound else None else None

-- an error as a flow, from where the quoted packet went to where it came from
abbrev pub flow_of_error : IcmpError → Flow
flow_of_error error = record {
  protocol = error.protocol;
  source = error.quoted_dest;
  source_port = error.quoted_dest_port;
  dest = error.quoted_source;
  dest_port = error.quoted_source_port;
  flags = 0;
  transport_at = error.transport_at;
}

-- What a frame is seen as: a flow; or an error, where errors go through; or neither

abbrev pub error_in : Settings → List ℕ → ℕ → Option IcmpError
error_in s bytes original = if s.errors then viewed_error bytes original else None

abbrev pub error_or : NotFlow → Option IcmpError → Seen
error_or answer (Some error) = OfError error
error_or answer None = OfNeither answer

abbrev pub seen_as : Settings → List ℕ → ℕ → Result Flow NotFlow → Seen
seen_as s bytes original (Ok flow) = OfFlow flow
seen_as s bytes original (Err answer) = error_or answer (error_in s bytes original)

abbrev pub seen_by : Settings → Packet → Seen
seen_by s p = seen_as s p.bytes p.original (viewed p.bytes p.original)

-- as which flow, and of which class

abbrev pub flow_in : Seen → Result Flow NotFlow
flow_in (OfFlow flow) = Ok flow
flow_in (OfError error) = Ok (flow_of_error error)
flow_in (OfNeither answer) = Err answer

abbrev pub class_in : Settings → Seen → Option Class
class_in s (OfFlow flow) = class_of_flow s flow.source flow.dest
class_in s (OfError error) = class_of_error s error
class_in s (OfNeither answer) = None

abbrev pub flow_seen : Settings → Packet → Result Flow NotFlow
flow_seen s p = flow_in (seen_by s p)

abbrev pub class_seen : Settings → Packet → Option Class
class_seen s p = class_in s (seen_by s p)

-- what is written over a frame that is seen so is in it
abbrev pub FitsSeen : List ℕ → Seen → Type 0
FitsSeen bytes (OfFlow flow) = CanRewrite bytes flow
FitsSeen bytes (OfError error) = IsErrorFrame bytes error
FitsSeen bytes (OfNeither answer) = Unit {0}

-- What a segment with these control bits tells of its connection: FIN is 1, SYN 2, RST 4, and ACK 16 (RFC 9293, section
-- 3.1).
abbrev pub segment_of : ℕ → Segment
segment_of flags =
    if not (bit_and flags 5 == 0) then Closes else if bit_and flags 2 == 0
    then if bit_and flags 16 == 0 then Silent else Carries
    else if bit_and flags 16 == 0 then Opens else Silent

-- nothing where connections are not followed
abbrev pub segment_told : Option ℕ → ℕ → Segment
segment_told None flags = Silent
segment_told (Some seconds) flags = segment_of flags

abbrev pub nothing_noted : ℕ → Noted
nothing_noted reason = record {
  class = Outbound;
  source = endpoint 0 0 0;
  dest_port = 0;
  segment = Silent;
  time = 0;
  word_or_reason = reason;
  port = no_port;
  freed = port_key 0 0;
  target = endpoint 0 0 0;
}

abbrev pub noted_flow : Segment → Flow → Class → Noted
noted_flow segment flow class = record {
  class = class;
  source = endpoint flow.protocol flow.source flow.source_port;
  dest_port = flow.dest_port;
  segment = segment;
  time = 0;
  word_or_reason = 0;
  port = no_port;
  freed = port_key 0 0;
  target = endpoint flow.protocol 0 0;
}

abbrev pub begun_as : Segment → Flow → Option Class → Goes
begun_as segment flow (Some class) = goes HearsTime (noted_flow segment flow class)
begun_as segment flow None = goes CountsDrop (nothing_noted stray)

abbrev pub begun_by : Settings → Result Flow NotFlow → Option Class → Goes
begun_by s (Ok flow) class = begun_as (segment_told s.closing flow.flags) flow class
begun_by s (Err answer) class = goes CountsDrop (nothing_noted (reason_of answer))

abbrev pub begun : Settings → Seen → Goes
begun s seen = begun_by s (flow_in seen) (class_in s seen)

-- Touches

-- a packet is dropped for this reason
abbrev pub dropped : Noted → ℕ → Goes
dropped n reason = goes CountsDrop (record n { word_or_reason = reason })

-- where a packet goes whose source has its mapping
abbrev pub mapped : Noted → Class → Goes
mapped n Hairpin = goes FindsEndpoint n
mapped n Outbound = goes SendsOut n
mapped n Inbound = goes SendsOut n
mapped n OutboundError = goes SendsOut n

abbrev pub after_find : Noted → Find → Goes
after_find n (Live port) = let m : Noted = record n { port = port } in mapped m m.class
after_find n (Absent (Some freed)) = goes UnbindsFreed (record n { freed = freed })
after_find n (Absent None) = goes DrawsWord n

abbrev pub after_reserve : Noted → Option ℕ → Goes
after_reserve n (Some port) = goes BindsPort (record n { port = port })
after_reserve n None = dropped n no_free_port

abbrev pub after_bind : Noted → Bind → Goes
after_bind n Bound = mapped n n.class
after_bind n (Other port) = goes UnbindsLost (record n { port = port; freed = source_key n })

-- at each place the value of its variable, and where the packet goes; the other cases do not come
abbrev pub touched : Place → NatValue → Noted → NatValue × Goes
touched FindsMapping (Mapped es) n =
    let r = find n.source n.time es in (Mapped r.1, after_find n r.0)
touched UnbindsFreed (Taken bs) n = (Taken (unbind n.freed bs), goes GivesBackFreed n)
touched GivesBackFreed (Free pool) n = (Free (give_back n.freed.protocol n.freed.port pool), goes DrawsWord n)
touched ReservesPort (Free pool) n =
    let r = reserve n.source.protocol n.source.port (drawn_word n) pool in (Free r.1, after_reserve n r.0)
touched BindsPort (Taken bs) n = (Taken (bind (source_key n) n.source bs), goes FindsOrBinds n)
touched FindsOrBinds (Mapped es) n =
    let r = find_or_bind n.source n.port n.time es in (Mapped r.1, after_bind n r.0)
touched UnbindsLost (Taken bs) n = (Taken (unbind n.freed bs), goes GivesBackLost n)
touched GivesBackLost (Free pool) n = (Free (give_back n.freed.protocol n.freed.port pool), mapped n n.class)
touched CountsDrop (Dropped d) n = (Dropped (with_drop (drop_reason n) d), goes Ends n)
touched _ x n = (x, goes Ends n)

-- Where each host has at most so many mappings, a packet whose source has none, and whose host has as many as it may
-- have, is dropped: when it finds that, or when another packet was quicker. Its port is given back then, and it has
-- no port meanwhile.

abbrev pub after_find_within : ℕ → Noted → Find → Forwards → Goes
after_find_within most n (Live port) es = after_find n (Live port)
after_find_within most n (Absent (Some freed)) es = after_find n (Absent (Some freed))
after_find_within most n (Absent None) es = if is_full most n.source es then dropped n over_limit else goes DrawsWord n

abbrev pub after_bind_within : Noted → Option Bind → Goes
after_bind_within n (Some bind) = after_bind n bind
after_bind_within n None = goes UnbindsLost (record n { port = no_port; freed = source_key n })

abbrev pub after_lost : Noted → Bool → Goes
after_lost n true = dropped n over_limit
after_lost n false = mapped n n.class

-- the touches that differ, and all others
abbrev pub limited : ℕ → Place → NatValue → Noted → NatValue × Goes
limited most FindsMapping (Mapped es) n =
    let r = find_within most n.source n.time es in (Mapped r.1, after_find_within most n r.0 r.1)
limited most FindsOrBinds (Mapped es) n =
    let r = bind_within most n.source n.port n.time es in (Mapped r.1, after_bind_within n r.0)
limited most GivesBackLost (Free pool) n =
    (Free (give_back n.freed.protocol n.freed.port pool), after_lost n (is_refused n))
limited most p x n = touched p x n

abbrev pub touched_by : Option ℕ → Place → NatValue → Noted → NatValue × Goes
touched_by None p x n = touched p x n
touched_by (Some most) p x n = limited most p x n

-- The mapping of a packet's source in a forward table that it touched. It notes the packet's segment where connections
-- are followed and it is of TCP, which is protocol 6 (RFC 5382, REQ-5).
abbrev pub followed_by : Option ℕ → Noted → Forwards → Forwards
followed_by None n es = es
followed_by (Some seconds) n es = if n.source.protocol == 6 then mark n.source seconds n.segment es else es

abbrev pub followed : Settings → Noted → NatValue → NatValue
followed s n (Dropped d) = Dropped d
followed s n (Free pool) = Free pool
followed s n (Mapped es) = Mapped (followed_by s.closing n es)
followed s n (Taken bs) = Taken bs

-- Reads

abbrev pub after_endpoint : Noted → Option Endpoint → Goes
after_endpoint n (Some key) = goes AsksIfLives (record n { target = endpoint n.source.protocol key.address key.port })
after_endpoint n None = dropped n no_mapping

abbrev pub looked_by : Noted → Bool → Goes
looked_by n true = goes SendsOut n
looked_by n false = dropped n no_mapping

-- the port of an endpoint's mapping, where there is one that is live

abbrev pub live_slot : Endpoint → ℕ → Option Slot → Option ℕ
live_slot key now None = None
live_slot key now (Some slot) = if is_idle now (key, slot) then None else Some slot.port

abbrev pub live_port : Endpoint → ℕ → Forwards → Option ℕ
live_port key now es = live_slot key now (slot_of key es)

-- an error of ICMP goes out from the port of its source
abbrev pub after_port : Noted → Option ℕ → Goes
after_port n (Some port) = goes SendsOut (record n { port = port })
after_port n None = dropped n no_mapping

abbrev pub looked : Place → NatValue → Noted → Goes
looked FindsEndpoint (Taken bs) n = after_endpoint n (endpoint_of (dest_key n) bs)
looked AsksIfLives (Mapped es) n = looked_by n (lives n.target n.dest_port n.time es)
looked FindsPort (Mapped es) n = after_port n (live_port n.source n.time es)
looked _ x n = goes Ends n

-- Answers

abbrev pub after_time : Noted → Class → Goes
after_time n Outbound = goes FindsMapping n
after_time n Hairpin = goes FindsMapping n
after_time n Inbound = goes FindsEndpoint n
after_time n OutboundError = goes FindsPort n

abbrev pub told : Place → ℕ → Noted → Goes
told HearsTime time n = let m : Noted = record n { time = time } in after_time m m.class
told DrawsWord word n = goes ReservesPort (record n { word_or_reason = word })
told _ answer n = goes Ends n

-- What goes out: the frames of RFC 3022

abbrev pub frame_out : Settings → Class → List ℕ → Flow → Noted → List ℕ
frame_out s Outbound bytes flow n = with_source bytes flow s.outside n.port
frame_out s Inbound bytes flow n = with_dest bytes flow n.target.address n.target.port
frame_out s Hairpin bytes flow n =
    with_dest (with_source bytes flow s.outside n.port) flow n.target.address n.target.port
frame_out s OutboundError bytes flow n = bytes

-- and the errors of RFC 5508: one that goes in, and one that goes out
abbrev pub error_out : Settings → Class → List ℕ → IcmpError → Noted → List ℕ
error_out s Inbound bytes error n = with_quoted_source bytes error n.target.address n.target.port
error_out s OutboundError bytes error n = with_quoted_dest bytes error s.outside n.port
error_out s Outbound bytes error n = bytes
error_out s Hairpin bytes error n = bytes

abbrev pub bytes_out : Settings → List ℕ → Noted → Seen → List ℕ
bytes_out s bytes n (OfFlow flow) = frame_out s n.class bytes flow n
bytes_out s bytes n (OfError error) = error_out s n.class bytes error n
bytes_out s bytes n (OfNeither answer) = bytes

-- The whole

abbrev pub local_at : Goes → Local
local_at g = local_of g.place g.noted

-- the static ports of a forward table, and those of a reverse table

abbrev pub kept_mappings : Settings → ℕ → List StaticPort → Forwards
kept_mappings s v [] = []
kept_mappings s v (p ∷ ps) =
    if forward_table s (inside_of p) == v then (inside_of p, kept_slot p.outside) ∷ kept_mappings s v ps
    else kept_mappings s v ps

abbrev pub kept_bound : Settings → ℕ → List StaticPort → Reverses
kept_bound s v [] = []
kept_bound s v (p ∷ ps) =
    if reverse_table s (outside_of p) == v then (outside_of p, inside_of p) ∷ kept_bound s v ps
    else kept_bound s v ps

-- From the start each static port has its mapping, and is not in the pool.
abbrev pub fresh_value : Settings → ℕ → NatValue
fresh_value s v =
    if v == 0 then Dropped no_drops
    else if v == 1 then Free (pool_without (outside_ports (kept s.statics)) s.low s.high)
    else if nat_lt v (2 + s.shards) then Mapped (kept_mappings s v (kept s.statics))
    else Taken (kept_bound s v (kept s.statics))

abbrev pub nat_meaning : Settings → Meaning NatValue
nat_meaning s = record {
  vars = 2 + 2 * s.shards;
  fresh = fresh_value s;
  begin = λ p. local_at (begun s (seen_by s p));
  next = λ l. next_move s (place_numbered l.at) (noted l);
  touch = λ _ x l.
      let r = touched_by s.limit (place_numbered l.at) x (noted l) in (followed s (noted l) r.0, local_at r.1);
  look = λ _ x l. local_at (looked (place_numbered l.at) x (noted l));
  told = λ a l. local_at (told (place_numbered l.at) a (noted l));
  emitted = λ l. local_at (goes Ends (noted l));
  out = λ p l. bytes_out s p.bytes (noted l) (seen_by s p);
  shown = λ _ x. shown_value x;
  rank = λ l. moves_left (place_numbered l.at);
}

-- Each variable has a value of its kind. In a forward table, mappings stand by their endpoints, no endpoint has two,
-- and each static port has its mapping; in a reverse table, bound ports stand by their numbers, and none twice.

-- The connection of a mapping is followed where the settings have a number of seconds, and then it has this number.
abbrev pub HasPhase : Option ℕ → ℕ → Phase → Type 0
HasPhase closing protocol Plain = Unit {0}
HasPhase closing protocol (Opening seconds) = (closing ≡ Some seconds) × (protocol ≡ 6)
HasPhase closing protocol Established = (seconds : ℕ) × (closing ≡ Some seconds) × (protocol ≡ 6)
HasPhase closing protocol (Closing seconds) = (closing ≡ Some seconds) × (protocol ≡ 6)
HasPhase closing protocol EndedByClient = ⊥
HasPhase closing protocol EndedByServer = ⊥
HasPhase closing protocol Kept = Unit {0}

-- A mapping that is kept for good is that of a static port.
abbrev pub MayMap : Settings → ℕ → Endpoint → Slot → Type 0
MayMap s v key slot =
    (v ≡ forward_table s key) × (key.protocol < 2 ^ 8) × (slot.port < 2 ^ 16)
    × HasPhase s.closing key.protocol slot.phase
    × (slot.phase ≡ Kept → IsStatic (static_port key slot.port) (kept s.statics))

-- each static port of the table has its mapping
abbrev pub HaveKept : Settings → ℕ → Forwards → Type 0
HaveKept s v es =
    (p : StaticPort) → IsStatic p (kept s.statics) → v ≡ forward_table s (inside_of p)
    → HasKept (inside_of p) p.outside es

-- Where hosts have a limit, none has more mappings of a protocol in the table than it may have, or than it has static
-- ports there.
abbrev pub AreWithin : Option ℕ → List (Endpoint × Slot) → Forwards → Type 0
AreWithin None statics es = Unit {0}
AreWithin (Some most) statics es =
    (protocol address : ℕ) → count_of protocol address es ≤ max most (count_of protocol address statics)

abbrev pub MayBind : Settings → ℕ → PortKey → Endpoint → Type 0
MayBind s v port key = (v ≡ reverse_table s port) × (key.address < 2 ^ 32) × (key.port < 2 ^ 16)

abbrev pub Fits : Settings → ℕ → NatValue → Type 0
Fits s v (Dropped d) = v ≡ 0
Fits s v (Free pool) = (v ≡ 1) × (pool.low ≡ s.low) × (pool.high ≡ s.high) × ArePorts pool
Fits s v (Mapped es) =
    (2 ≤ v) × (v < 2 + s.shards) × AreMappings (MayMap s v) es × HaveKept s v es
    × AreWithin s.limit (kept_mappings s v (kept s.statics)) es
Fits s v (Taken bs) = (2 + s.shards ≤ v) × AreBound (MayBind s v) bs
