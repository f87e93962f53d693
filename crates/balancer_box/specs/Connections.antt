-- Connection tables. They are the tables of mappings of the crate `nat_tables`, with the same timers: a client's
-- endpoint stands there with the number of its backend, where a mapping has an outside port.
use Rattle.std.specs.Prelude.{ℕ, Bool, true, false, ◌&&◌}
use Rattle.nat_tables.specs.declared.entries.Endpoint.{Endpoint}
use Rattle.nat_tables.specs.declared.entries.Find.{Find}
use Rattle.nat_tables.specs.declared.entries.Find.TheVariants.{Live, Absent}
use Rattle.nat_tables.specs.declared.phase.Phase.{Phase}
use Rattle.nat_tables.specs.declared.phase.Phase.TheVariants.{Plain, Opening, Established, Closing}
use Rattle.nat_tables.specs.declared.phase.Phase.TheVariants.{EndedByClient, EndedByServer, Kept}
use Rattle.nat_tables.specs.Forwards.{Forwards, without, find, lives}
use Rattle.balancer_box.specs.declared.place.Class.{Class}
use Rattle.balancer_box.specs.declared.place.Class.TheVariants.{Client, Answer}
use Rattle.balancer_box.specs.declared.place.Tells.{Tells}
use Rattle.balancer_box.specs.declared.place.Tells.TheVariants.{Nothing, Opens, Finishes, Resets}

abbrev pub without_if : Bool → Endpoint → Forwards → Forwards
without_if true key es = without key es
without_if false key es = es

-- a connection that was found is closed where the packet resets it
abbrev pub closed : Find → Bool → Endpoint → Forwards → Forwards
closed (Live backend) resets key es = without_if resets key es
closed (Absent idle) resets key es = es

-- What a client's packet finds: a live connection is refreshed, and closed in the same touch
-- where the packet resets it. One that is idle is removed; where there is none, the first idle one of the table is
-- removed.
abbrev pub find_connection : Bool → Endpoint → ℕ → Forwards → Find × Forwards
find_connection resets key now es = let r = find key now es in (r.0, closed r.0 resets key r.1)

-- What an answer finds: whether the client's connection is there, live, and of this backend. It refreshes nothing,
-- and closes the connection where it resets it.
abbrev pub check_connection : Bool → Endpoint → ℕ → ℕ → Forwards → Bool × Forwards
check_connection resets key backend now es =
    let there = lives key backend now es in (there, without_if (there && resets) key es)

-- The end of a connection that is followed (RFC 9293, section 3.6): FIN from both sides, or RST from either. From then
-- on it counts for no load, and is kept for its own number of seconds.

abbrev pub has_ended : Phase → Bool
has_ended Plain = false
has_ended (Opening seconds) = false
has_ended Established = false
has_ended (Closing seconds) = true
has_ended EndedByClient = false
has_ended EndedByServer = false
has_ended Kept = false

-- the phase after FIN from the client, or from the server; the phases of the NAT do not come
abbrev pub phase_finished : ℕ → Class → Phase → Phase
phase_finished seconds Client Plain = EndedByClient
phase_finished seconds Client (Opening old) = Opening old
phase_finished seconds Client Established = Established
phase_finished seconds Client (Closing old) = Closing old
phase_finished seconds Client EndedByClient = EndedByClient
phase_finished seconds Client EndedByServer = Closing seconds
phase_finished seconds Client Kept = Kept
phase_finished seconds Answer Plain = EndedByServer
phase_finished seconds Answer (Opening old) = Opening old
phase_finished seconds Answer Established = Established
phase_finished seconds Answer (Closing old) = Closing old
phase_finished seconds Answer EndedByClient = Closing seconds
phase_finished seconds Answer EndedByServer = EndedByServer
phase_finished seconds Answer Kept = Kept

-- the phase after a segment of one side, where an ended connection is kept for so many seconds
abbrev pub phase_told : ℕ → Class → Tells → Phase → Phase
phase_told seconds side Nothing phase = phase
phase_told seconds side Opens phase = phase
phase_told seconds side Finishes phase = phase_finished seconds side phase
phase_told seconds side Resets phase = Closing seconds
