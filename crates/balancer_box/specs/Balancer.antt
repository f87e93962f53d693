-- The box that spreads the clients of one virtual address and port over backends. Variable 0 counts drops by reason,
-- variable 1 is the load of each backend, and the next S variables are the connection tables.
use Rattle.std.specs.Prelude.{◌≡◌, ℕ, ◌+◌, ◌%◌, ◌^◌, ◌<◌, ◌≤◌, Bool, true, false, not, ◌==◌, ◌&&◌, if◌then◌else◌, List}
use Rattle.std.specs.Prelude.{[], ◌∷◌, ◌++◌, length, slice_get, position, Option, Some, None, Result, Ok, Err, bit_and}
use Rattle.packet_headers.specs.declared.flow.Flow.{Flow}
use Rattle.packet_headers.specs.declared.flow.NotFlow.{NotFlow}
use Rattle.packet_headers.specs.View.{viewed}
use Rattle.packet_headers.specs.Rewriting.{with_source, with_dest}
use Rattle.plain_machine.specs.declared.local.Local.{Local}
use Rattle.plain_machine.specs.declared.local.Move.{Move}
use Rattle.plain_machine.specs.declared.local.Move.TheVariants.{Access, Clock, Emit, End}
use Rattle.plain_machine.specs.Program.{Meaning}
use Rattle.nat_tables.specs.declared.slot.Slot.{Slot}
use Rattle.nat_tables.specs.declared.phase.Phase.{Phase}
use Rattle.nat_tables.specs.declared.phase.Phase.TheVariants.{Plain, Opening, Established, Closing}
use Rattle.nat_tables.specs.declared.phase.Phase.TheVariants.{EndedByClient, EndedByServer, Kept}
use Rattle.nat_tables.specs.declared.entries.Endpoint.{Endpoint}
use Rattle.nat_tables.specs.declared.entries.Find.{Find}
use Rattle.nat_tables.specs.declared.entries.Find.TheVariants.{Live, Absent}
use Rattle.nat_tables.specs.declared.entries.Bind.{Bind}
use Rattle.nat_tables.specs.declared.entries.Bind.TheVariants.{Bound, Other}
use Rattle.nat_tables.specs.Forwards.{Forwards, is_idle, slot_of, refresh, with_phase, without, first_idle}
use Rattle.nat_tables.specs.Forwards.{without_idle, find_or_bind, lives_at, AreMappings}
use Rattle.flow_boxes.specs.Drops.{reason_of, with_drop, no_drops, stray}
use Rattle.balancer_box.specs.declared.settings.Backend.{Backend}
use Rattle.balancer_box.specs.declared.place.Place.{Place}
use Rattle.balancer_box.specs.declared.place.Place.TheVariants.{HearsTime, FindsConnection, LowersIdle, RaisesLeast}
use Rattle.balancer_box.specs.declared.place.Place.TheVariants.{Connects, LowersSpare, ChecksConnection, CountsDrop}
use Rattle.balancer_box.specs.declared.place.Place.TheVariants.{SendsOut, LowersVain, Ends}
use Rattle.balancer_box.specs.declared.place.Class.{Class}
use Rattle.balancer_box.specs.declared.place.Class.TheVariants.{Client, Answer}
use Rattle.balancer_box.specs.declared.place.Tells.{Tells}
use Rattle.balancer_box.specs.declared.place.Tells.TheVariants.{Nothing, Opens, Finishes, Resets}
use Rattle.balancer_box.specs.declared.place.Noted.{Noted}
use Rattle.balancer_box.specs.declared.place.Goes.{Goes}
use Rattle.balancer_box.specs.declared.value.BalancerValue.{BalancerValue}
use Rattle.balancer_box.specs.declared.value.BalancerValue.TheVariants.{Dropped, Loaded, Connected}
use Rattle.balancer_box.specs.Settings.{Settings}
use Rattle.balancer_box.specs.Loads.{raised, lowered, least_loaded, no_loads}
use Rattle.balancer_box.specs.Connections.{find_connection, check_connection, has_ended, phase_told}
use Rattle.flow_boxes.specs.Flows.{endpoint}
use Rattle.balancer_box.specs.Places.{place_numbered, noted, local_of}
use Rattle.balancer_box.specs.Shown.{shown_value}

abbrev pub goes : Place → Noted → Goes
goes place n = record { place = place; noted = n }

abbrev pub table_of : Settings → Endpoint → ℕ
table_of s key = 2 + (key.protocol + key.address + key.port) % s.shards

-- What comes next

abbrev pub next_move : Settings → Place → Noted → Move
next_move s HearsTime n = Clock
next_move s FindsConnection n = Access (table_of s n.client)
next_move s LowersIdle n = Access 1
next_move s RaisesLeast n = Access 1
next_move s Connects n = Access (table_of s n.client)
next_move s LowersSpare n = Access 1
next_move s ChecksConnection n = Access (table_of s n.client)
next_move s CountsDrop n = Access 0
next_move s LowersVain n = Access 1
next_move s SendsOut n = Emit
next_move s Ends n = End

abbrev pub moves_left : Place → ℕ
moves_left HearsTime = 8
moves_left FindsConnection = 7
moves_left LowersIdle = 6
moves_left RaisesLeast = 5
moves_left Connects = 4
moves_left LowersVain = 3
moves_left LowersSpare = 2
moves_left ChecksConnection = 3
moves_left CountsDrop = 1
moves_left SendsOut = 1
moves_left Ends = 0

-- The beginning

abbrev pub no_connection : ℕ
no_connection = 7

-- the control bit RST, which only TCP has (RFC 9293, section 3.1)
abbrev pub resets : Flow → Bool
resets flow = not (bit_and flow.flags 4 == 0)

-- What a segment with these control bits tells of its connection: FIN is 1, SYN 2, RST 4, and ACK 16 (RFC 9293, section
-- 3.1).
abbrev pub tells_of : ℕ → Tells
tells_of flags =
    if not (bit_and flags 4 == 0) then Resets else if not (bit_and flags 1 == 0) then Finishes
    else if bit_and flags 2 == 0 then Nothing else if bit_and flags 16 == 0 then Opens else Nothing

-- nothing where connections are not followed
abbrev pub tells_by : Option ℕ → ℕ → Tells
tells_by None flags = Nothing
tells_by (Some seconds) flags = tells_of flags

abbrev pub is_virtual : Settings → ℕ → ℕ → Bool
is_virtual s address port = (address == s.address) && (port == s.port)

-- the number of the backend with this address and port
abbrev pub backend_at : List Backend → ℕ → ℕ → Option ℕ
backend_at backends address port = position (λ b. (b.address == address) && (b.port == port)) backends

abbrev pub nothing_noted : ℕ → Noted
nothing_noted reason = record {
  class = Client;
  client = endpoint 0 0 0;
  resets = false;
  time = 0;
  backend = 0;
  spare = 0;
  reason = reason;
  tells = Nothing;
}

-- a packet to the virtual address and port is its client's
abbrev pub of_client : Tells → Flow → Noted
of_client tells flow = record {
  class = Client;
  client = endpoint flow.protocol flow.source flow.source_port;
  resets = resets flow;
  time = 0;
  backend = 0;
  spare = 0;
  reason = 0;
  tells = tells;
}

-- and another one from a backend is an answer to the client that it goes to
abbrev pub of_answer : Tells → Flow → ℕ → Noted
of_answer tells flow backend = record {
  class = Answer;
  client = endpoint flow.protocol flow.dest flow.dest_port;
  resets = resets flow;
  time = 0;
  backend = backend;
  spare = 0;
  reason = 0;
  tells = tells;
}

abbrev pub begun_answer : Tells → Flow → Option ℕ → Goes
begun_answer tells flow (Some backend) = goes HearsTime (of_answer tells flow backend)
begun_answer tells flow None = goes CountsDrop (nothing_noted stray)

abbrev pub begun_flow : Settings → Tells → Flow → Goes
begun_flow s tells flow =
    if is_virtual s flow.dest flow.dest_port then goes HearsTime (of_client tells flow)
    else begun_answer tells flow (backend_at s.backends flow.source flow.source_port)

abbrev pub begun : Settings → Result Flow NotFlow → Goes
begun s (Ok flow) = begun_flow s (tells_by s.closing flow.flags) flow
begun s (Err answer) = goes CountsDrop (nothing_noted (reason_of answer))

-- Touches

-- a packet is dropped for this reason
abbrev pub dropped : Noted → ℕ → Goes
dropped n reason = goes CountsDrop (record n { reason = reason })

-- a packet of no connection begins one, unless it resets it
abbrev pub begins : Noted → Bool → Goes
begins n true = dropped n no_connection
begins n false = goes RaisesLeast n

-- a packet goes to a connection's backend, whose load is lowered first where the packet resets it
abbrev pub goes_to : Noted → Bool → ℕ → Goes
goes_to n true backend = goes LowersSpare (record n { backend = backend; spare = backend })
goes_to n false backend = goes SendsOut (record n { backend = backend })

abbrev pub after_find : Noted → Find → Goes
after_find n (Live backend) = goes_to n n.resets backend
after_find n (Absent (Some idle)) = goes LowersIdle (record n { spare = idle.port })
after_find n (Absent None) = begins n n.resets

-- a backend that was chosen in vain is given up
abbrev pub after_bind : Noted → Bind → Goes
after_bind n Bound = goes SendsOut n
after_bind n (Other backend) = goes LowersSpare (record n { backend = backend; spare = n.backend })

abbrev pub after_check : Noted → Bool → Goes
after_check n true = goes_to n n.resets n.backend
after_check n false = dropped n no_connection

-- Touches of connections that are followed, where an ended one is kept for so many seconds

-- what a segment tells is heard of TCP alone, which is protocol 6
abbrev pub heard : Noted → Tells
heard n = if n.client.protocol == 6 then n.tells else Nothing

abbrev pub phase_then : ℕ → Noted → Phase → Phase
phase_then seconds n phase = phase_told seconds n.class (heard n) phase

-- the packet ends the connection, which had not ended before
abbrev pub ends : ℕ → Noted → Slot → Bool
ends seconds n slot = not (has_ended slot.phase) && has_ended (phase_then seconds n slot.phase)

-- the connection notes what the packet tells
abbrev pub noting : ℕ → Noted → Slot → Forwards → Forwards
noting seconds n slot es = with_phase n.client (phase_then seconds n slot.phase) es

-- where a packet goes that removed an idle connection: one that had ended counts for no load any more
abbrev pub after_idle : Noted → ℕ → Bool → Goes
after_idle n backend true = begins n n.resets
after_idle n backend false = goes LowersIdle (record n { spare = backend })

abbrev pub opens : Tells → Bool
opens Nothing = false
opens Opens = true
opens Finishes = false
opens Resets = false

-- a connection that has ended gives way to the one that its client's packet opens
abbrev pub gives_way : Noted → Slot → Bool
gives_way n slot = has_ended slot.phase && opens (heard n)

abbrev pub met : ℕ → Noted → Forwards → Slot → Bool → Forwards × Goes
met seconds n es slot true = (without n.client es, begins n n.resets)
met seconds n es slot false =
    (noting seconds n slot (refresh n.client n.time es), goes_to n (ends seconds n slot) slot.port)

abbrev pub met_there : ℕ → Noted → Forwards → Slot → Bool → Forwards × Goes
met_there seconds n es slot true = (without n.client es, after_idle n slot.port (has_ended slot.phase))
met_there seconds n es slot false = met seconds n es slot (gives_way n slot)

-- by the client's connection, and by the first idle one of the table
abbrev pub met_by : ℕ → Noted → Forwards → Option Slot → Option (Endpoint × Slot) → Forwards × Goes
met_by seconds n es (Some slot) idle = met_there seconds n es slot (is_idle n.time (n.client, slot))
met_by seconds n es None (Some e) = (without_idle n.time es, after_idle n e.1.port (has_ended e.1.phase))
met_by seconds n es None None = (es, begins n n.resets)

abbrev pub new_slot : Noted → Slot
new_slot n = record { port = n.backend; last = n.time; phase = Plain }

-- a backend that was chosen in vain is given up, and then that of a connection that the packet ends
abbrev pub gives_up : Noted → Bool → ℕ → Goes
gives_up n true backend = goes LowersVain (record n { backend = backend; spare = n.backend })
gives_up n false backend = goes LowersSpare (record n { backend = backend; spare = n.backend })

abbrev pub connected_by : ℕ → Noted → Forwards → Option Slot → Forwards × Goes
connected_by seconds n es (Some slot) =
    (noting seconds n slot (refresh n.client n.time es), gives_up n (ends seconds n slot) slot.port)
connected_by seconds n es None = (
  noting seconds n (new_slot n) (es ++ (n.client, new_slot n) ∷ []),
  goes_to n (ends seconds n (new_slot n)) n.backend,
)

abbrev pub checked_there : ℕ → Noted → Forwards → Slot → Bool → Forwards × Goes
checked_there seconds n es slot true = (noting seconds n slot es, goes_to n (ends seconds n slot) n.backend)
checked_there seconds n es slot false = (es, dropped n no_connection)

abbrev pub checked_by : ℕ → Noted → Forwards → Option Slot → Forwards × Goes
checked_by seconds n es (Some slot) =
    checked_there seconds n es slot (lives_at n.client n.backend n.time (Some slot))
checked_by seconds n es None = (es, dropped n no_connection)

-- The touches of a connection table, where connections are followed, and where they are not

abbrev pub finds : Option ℕ → Noted → Forwards → Forwards × Goes
finds None n es = let r = find_connection n.resets n.client n.time es in (r.1, after_find n r.0)
finds (Some seconds) n es = met_by seconds n es (slot_of n.client es) (first_idle n.time es)

abbrev pub connects : Option ℕ → Noted → Forwards → Forwards × Goes
connects None n es = let r = find_or_bind n.client n.backend n.time es in (r.1, after_bind n r.0)
connects (Some seconds) n es = connected_by seconds n es (slot_of n.client es)

abbrev pub checks : Option ℕ → Noted → Forwards → Forwards × Goes
checks None n es = let r = check_connection n.resets n.client n.backend n.time es in (r.1, after_check n r.0)
checks (Some seconds) n es = checked_by seconds n es (slot_of n.client es)

-- at each place the value of its variable, and where the packet goes; the other cases do not come
abbrev pub touched : Option ℕ → Place → BalancerValue → Noted → BalancerValue × Goes
touched c FindsConnection (Connected es) n = let r = finds c n es in (Connected r.0, r.1)
touched c LowersIdle (Loaded loads) n = (Loaded (lowered n.spare loads), begins n n.resets)
touched c RaisesLeast (Loaded loads) n =
    let least = least_loaded loads in (Loaded (raised least loads), goes Connects (record n { backend = least }))
touched c Connects (Connected es) n = let r = connects c n es in (Connected r.0, r.1)
touched c LowersVain (Loaded loads) n =
    (Loaded (lowered n.spare loads), goes LowersSpare (record n { spare = n.backend }))
touched c LowersSpare (Loaded loads) n = (Loaded (lowered n.spare loads), goes SendsOut n)
touched c ChecksConnection (Connected es) n = let r = checks c n es in (Connected r.0, r.1)
touched c CountsDrop (Dropped d) n = (Dropped (with_drop n.reason d), goes Ends n)
touched c _ x n = (x, goes Ends n)

-- Answers

abbrev pub after_time : Noted → Class → Goes
after_time n Client = goes FindsConnection n
after_time n Answer = goes ChecksConnection n

abbrev pub told : Place → ℕ → Noted → Goes
told HearsTime time n = let m : Noted = record n { time = time } in after_time m m.class
told _ answer n = goes Ends n

-- What goes out: a client's packet goes to its backend, and an answer comes from the virtual address and port

abbrev pub frame_to : List ℕ → Flow → Option Backend → List ℕ
frame_to bytes flow (Some backend) = with_dest bytes flow backend.address backend.port
frame_to bytes flow None = bytes

abbrev pub frame_out : Settings → Class → List ℕ → Flow → Noted → List ℕ
frame_out s Client bytes flow n = frame_to bytes flow (slice_get s.backends n.backend)
frame_out s Answer bytes flow n = with_source bytes flow s.address s.port

abbrev pub bytes_out : Settings → List ℕ → Noted → Result Flow NotFlow → List ℕ
bytes_out s bytes n (Ok flow) = frame_out s n.class bytes flow n
bytes_out s bytes n (Err answer) = bytes

-- The whole

abbrev pub local_at : Goes → Local
local_at g = local_of g.place g.noted

abbrev pub fresh_value : Settings → ℕ → BalancerValue
fresh_value s v =
    if v == 0 then Dropped no_drops else if v == 1 then Loaded (no_loads (length s.backends)) else Connected []

abbrev pub noted_by : Settings → Local → Noted
noted_by s l = noted (length s.backends) l

abbrev pub balancer_meaning : Settings → Meaning BalancerValue
balancer_meaning s = record {
  vars = 2 + s.shards;
  fresh = fresh_value s;
  begin = λ p. local_at (begun s (viewed p.bytes p.original));
  next = λ l. next_move s (place_numbered l.at) (noted_by s l);
  touch = λ _ x l. let r = touched s.closing (place_numbered l.at) x (noted_by s l) in (r.0, local_at r.1);
  look = λ _ _ l. local_at (goes Ends (noted_by s l));
  told = λ a l. local_at (told (place_numbered l.at) a (noted_by s l));
  emitted = λ l. local_at (goes Ends (noted_by s l));
  out = λ p l. bytes_out s p.bytes (noted_by s l) (viewed p.bytes p.original);
  shown = λ _ x. shown_value x;
  rank = λ l. moves_left (place_numbered l.at);
}

-- Each variable has a value of its kind: a load of each backend, and in a connection table connections that stand by
-- their clients, each of a backend that is there, and no client's twice.

-- A connection notes its end where the settings have a number of seconds, and an ended one has this number.
abbrev pub HasPhase : Option ℕ → ℕ → Phase → Type 0
HasPhase closing protocol Plain = Unit {0}
HasPhase closing protocol (Opening seconds) = ⊥
HasPhase closing protocol Established = ⊥
HasPhase closing protocol (Closing seconds) = (closing ≡ Some seconds) × (protocol ≡ 6)
HasPhase closing protocol EndedByClient = (seconds : ℕ) × (closing ≡ Some seconds) × (protocol ≡ 6)
HasPhase closing protocol EndedByServer = (seconds : ℕ) × (closing ≡ Some seconds) × (protocol ≡ 6)
HasPhase closing protocol Kept = ⊥

abbrev pub MayConnect : Settings → ℕ → Endpoint → Slot → Type 0
MayConnect s v client slot =
    (v ≡ table_of s client) × (client.protocol < 2 ^ 8) × (slot.port < length s.backends)
    × HasPhase s.closing client.protocol slot.phase

abbrev pub Fits : Settings → ℕ → BalancerValue → Type 0
Fits s v (Dropped d) = v ≡ 0
Fits s v (Loaded loads) = (v ≡ 1) × (length loads ≡ length s.backends)
Fits s v (Connected es) = (2 ≤ v) × (v < 2 + s.shards) × AreMappings (MayConnect s v) es
