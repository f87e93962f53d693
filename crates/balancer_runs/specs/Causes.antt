-- Why packets are dropped: each drop is counted for a reason, and the packet has the cause of that reason.
use Rattle.std.specs.Prelude.{◌≡◌, ◌≢◌, ℕ, ◌+◌, ◌-◌, ◌%◌, ◌^◌, ◌⊎◌, true, false, List, ◌∷◌, slice_index, slice_set}
use Rattle.std.specs.Prelude.{Option, Some, None, Ok, Err}
use Rattle.plain_text.specs.declared.packet.Packet.{Packet}
use Rattle.packet_headers.specs.declared.flow.Flow.{Flow}
use Rattle.packet_headers.specs.declared.flow.NotFlow.{NotFlow}
use Rattle.packet_headers.specs.View.{viewed}
use Rattle.entry_order.specs.declared.what.What.TheVariants.{Access}
use Rattle.entry_order.specs.Log.{Entry}
use Rattle.plain_machine.specs.Machine.{Hand}
use Rattle.plain_machine.specs.History.{Did, Step, thread_after, value_after, IsHistory}
use Rattle.nat_tables.specs.declared.entries.Endpoint.{Endpoint}
use Rattle.nat_tables.specs.declared.slot.Slot.{Slot}
use Rattle.nat_tables.specs.Forwards.{Forwards, slot_of}
use Rattle.flow_boxes.specs.Drops.{reason_of, stray}
use Rattle.flow_boxes.specs.Flows.{HaveBytes, source_of, dest_of}
use Rattle.balancer_box.specs.declared.value.BalancerValue.{BalancerValue}
use Rattle.balancer_box.specs.Settings.{Settings, AreSettings}
use Rattle.balancer_box.specs.Balancer.{is_virtual, backend_at, no_connection, balancer_meaning}
use Rattle.balancer_box.specs.Emissions.{Trail, trail_of}
use Rattle.balancer_runs.specs.Packets.{drop_counts}
use Rattle.balancer_runs.specs.Idle.{IsIdleAt}
use Rattle.balancer_runs.specs.Staying.{HasReset}

-- the frame is no flow, by one of six tests
abbrev pub IsNoFlow : Packet → ℕ → Type 0
IsNoFlow p reason = (why : NotFlow) × (viewed p.bytes p.original ≡ Err why) × (reason ≡ reason_of why)

-- a flow that neither goes to the virtual address and port nor comes from a backend
abbrev pub IsStray : Settings → Flow → Type 0
IsStray s flow =
    (is_virtual s flow.dest flow.dest_port ≡ false) × (backend_at s.backends flow.source flow.source_port ≡ None)

-- the client has no connection, or one that is idle
abbrev pub HasNone : Endpoint → ℕ → Option Slot → Type 0
HasNone client now None = Unit {0}
HasNone client now (Some slot) = IsIdleAt now client slot

-- the client has no connection to this backend, or one that is idle
abbrev pub HasNoneTo : ℕ → Endpoint → ℕ → Option Slot → Type 0
HasNoneTo backend client now None = Unit {0}
HasNoneTo backend client now (Some slot) = (slot.port ≢ backend) ⊎ IsIdleAt now client slot

-- a reset from a client that has no connection, or an answer of a backend to a client that has none to it, by the
-- table and at the time that the packet's own moves met
abbrev pub IsUnconnected : Settings → Flow → Trail → Type 0
IsUnconnected s flow r =
    (es : Forwards) × (now : ℕ) × (r.found ≡ Some es) × (r.clock ≡ Some now)
    × (((is_virtual s flow.dest flow.dest_port ≡ true) × HasReset flow
    × HasNone (source_of flow) now (slot_of (source_of flow) es))
    ⊎ ((is_virtual s flow.dest flow.dest_port ≡ false)
    × (backend : ℕ) × (backend_at s.backends flow.source flow.source_port ≡ Some backend)
    × HasNoneTo backend (dest_of flow) now (slot_of (dest_of flow) es)))

abbrev pub HasCause : Settings → Trail → Packet → ℕ → Type 0
HasCause s r p reason =
    IsNoFlow p reason
    ⊎ ((flow : Flow) × (viewed p.bytes p.original ≡ Ok flow)
    × (((reason ≡ stray) × IsStray s flow) ⊎ ((reason ≡ no_connection) × IsUnconnected s flow r)))

-- a touch of variable 0 counts one drop for one reason, whose cause the thread's packet has; the other counts stay
abbrev pub DropsHaveCauses : Type 0
DropsHaveCauses =
    (s : Settings) (threads : ℕ) (inputs : ℕ → List Packet) (x : Step BalancerValue)
    (earlier : List (Step BalancerValue)) (entry : Entry) (place : ℕ) (left : BalancerValue)
    → AreSettings s → HaveBytes inputs → IsHistory (balancer_meaning s) inputs threads (x ∷ earlier)
    → x.act ≡ Did entry (Some left) → entry.what ≡ Access 0 place
    → (h : Hand) × (reason : ℕ) × ((thread_after earlier x.thread).hand ≡ Some h)
    × HasCause s (trail_of s x.thread earlier) h.packet reason
    × (let old = drop_counts (value_after (balancer_meaning s) earlier 0) in
    drop_counts left ≡ slice_set old (reason - 1) ((slice_index old (reason - 1) + 1) % 2 ^ 64))
