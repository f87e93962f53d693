-- What goes out: frames with another destination, or another source (RFC 3022), by the connection tables as the
-- packet's own moves found them.
use Rattle.std.specs.Prelude.{◌≡◌, ℕ, ◌-◌, ◌≤◌, ◌⊎◌, Bool, true, false, List, [], ◌∷◌, Option, Some, None, Ok, nat_eq}
use Rattle.std.specs.Prelude.{cond, slice_get}
use Rattle.plain_text.specs.declared.packet.Packet.{Packet}
use Rattle.packet_headers.specs.declared.flow.Flow.{Flow}
use Rattle.packet_headers.specs.View.{viewed}
use Rattle.packet_headers.specs.Rewriting.{with_source, with_dest}
use Rattle.entry_order.specs.declared.what.What.{What}
use Rattle.entry_order.specs.declared.what.What.TheVariants.{Access, Read, Clock, Draw}
use Rattle.plain_machine.specs.declared.emission.Emission.{Emission}
use Rattle.plain_machine.specs.History.{Act, Took, Did, Emitted, Ended, Step, value_after, IsHistory}
use Rattle.nat_tables.specs.declared.entries.Endpoint.{Endpoint}
use Rattle.nat_tables.specs.declared.slot.Slot.{Slot}
use Rattle.nat_tables.specs.Forwards.{Forwards, slot_of, lives}
use Rattle.flow_boxes.specs.Flows.{HaveBytes, source_of, dest_of}
use Rattle.balancer_box.specs.declared.settings.Backend.{Backend}
use Rattle.balancer_box.specs.declared.value.BalancerValue.{BalancerValue}
use Rattle.balancer_box.specs.declared.value.BalancerValue.TheVariants.{Dropped, Loaded, Connected}
use Rattle.balancer_box.specs.Settings.{Settings, AreSettings}
use Rattle.balancer_box.specs.Balancer.{is_virtual, backend_at, resets, balancer_meaning}

-- What the moves of a packet in hand met: the connection table as its newest touch of one found it and left it, and the
-- time that it was told.
pub record Trail : Type 0 where
  pub found : Option Forwards
  pub left : Option Forwards
  pub clock : Option ℕ

abbrev pub no_trail : Trail
no_trail = record { found = None; left = None; clock = None }

-- the connections of a value, or the older ones where it is no table
abbrev pub newer : BalancerValue → Option Forwards → Option Forwards
newer (Dropped d) old = old
newer (Loaded loads) old = old
newer (Connected es) old = Some es

abbrev pub trail_of_touch : BalancerValue → Option BalancerValue → Trail → Trail
trail_of_touch x None old = old
trail_of_touch x (Some left) old = record { found = newer x old.found; left = newer left old.left; clock = old.clock }

abbrev pub trail_by_what : List (Step BalancerValue) → Settings → Option BalancerValue → Trail → What → Trail
trail_by_what earlier s left old (Access v place) = trail_of_touch (value_after (balancer_meaning s) earlier v) left old
trail_by_what earlier s left old (Read v after) = old
trail_by_what earlier s left old (Clock a) = record { found = old.found; left = old.left; clock = Some a }
trail_by_what earlier s left old (Draw a) = old

-- a take begins anew
abbrev pub trail_by : List (Step BalancerValue) → Settings → Act BalancerValue → Trail → Trail
trail_by earlier s (Took k) old = no_trail
trail_by earlier s (Did entry left) old = trail_by_what earlier s left old entry.what
trail_by earlier s (Emitted o) old = old
trail_by earlier s (Ended k) old = old

abbrev pub trail_of : Settings → ℕ → List (Step BalancerValue) → Trail
trail_of s t [] = no_trail
trail_of s t (x ∷ earlier) =
    cond (nat_eq x.thread t) (trail_by earlier s x.act (trail_of s t earlier)) (trail_of s t earlier)

-- the table that names a client's backend: as it was left, or as it was found where the packet resets its connection,
-- which may be gone by that touch
abbrev pub naming : Trail → Bool → Option Forwards
naming r true = r.found
naming r false = r.left

-- the client was connected to the backend of this number at the packet's last touch of its table
abbrev pub WasConnected : Option Forwards → Endpoint → ℕ → Type 0
WasConnected table client number =
    (es : Forwards) × (slot : Slot) × (table ≡ Some es) × (slot_of client es ≡ Some slot) × (slot.port ≡ number)

-- the client's connection to the backend of this number was there, and live, at the packet's last touch of its
-- table
abbrev pub Lived : Trail → Endpoint → ℕ → Type 0
Lived r client number =
    (es : Forwards) × (now : ℕ) × (r.found ≡ Some es) × (r.clock ≡ Some now) × (lives client number now es ≡ true)

-- a client's packet goes to the backend that its connection named
abbrev pub ReachesBackend : Settings → List ℕ → Flow → Trail → List ℕ → Type 0
ReachesBackend s bytes flow r sent =
    (number : ℕ) × (backend : Backend) × WasConnected (naming r (resets flow)) (source_of flow) number
    × (slice_get s.backends number ≡ Some backend) × (sent ≡ with_dest bytes flow backend.address backend.port)

-- an answer comes from the virtual address and port, to a client that was connected to the backend that it comes from
abbrev pub ComesFromVirtual : Settings → List ℕ → Flow → Trail → List ℕ → Type 0
ComesFromVirtual s bytes flow r sent =
    (number : ℕ) × (backend_at s.backends flow.source flow.source_port ≡ Some number) × Lived r (dest_of flow) number
    × (sent ≡ with_source bytes flow s.address s.port)

abbrev pub IsSentOnOf : Settings → Trail → List ℕ → Option Packet → Type 0
IsSentOnOf s r sent None = ⊥
IsSentOnOf s r sent (Some p) =
    (flow : Flow) × (viewed p.bytes p.original ≡ Ok flow)
    × (((is_virtual s flow.dest flow.dest_port ≡ true) × ReachesBackend s p.bytes flow r sent)
    ⊎ ((is_virtual s flow.dest flow.dest_port ≡ false) × ComesFromVirtual s p.bytes flow r sent))

-- what a thread sends out is its input of the emission's number, sent on so
abbrev pub EmissionsFollowConnections : Type 0
EmissionsFollowConnections =
    (s : Settings) (threads : ℕ) (inputs : ℕ → List Packet) (x : Step BalancerValue)
    (earlier : List (Step BalancerValue)) (o : Emission) → AreSettings s → HaveBytes inputs
    → IsHistory (balancer_meaning s) inputs threads (x ∷ earlier) → x.act ≡ Emitted o
    → (1 ≤ o.input)
    × IsSentOnOf s (trail_of s x.thread earlier) o.packet.bytes (slice_get (inputs x.thread) (o.input - 1))
