-- What the service is: packets to the virtual address and port, and those from the address and port of a backend. Only
-- they are translated, and each of them is no stray.
use Rattle.std.specs.Prelude.{◌≡◌, ℕ, ◌+◌, ◌-◌, ◌%◌, ◌^◌, ◌≤◌, ◌⊎◌, List, ◌∷◌, slice_get, slice_index, slice_set}
use Rattle.std.specs.Prelude.{Some, Ok, Err}
use Rattle.plain_text.specs.declared.packet.Packet.{Packet}
use Rattle.packet_headers.specs.declared.flow.Flow.{Flow}
use Rattle.packet_headers.specs.declared.flow.NotFlow.{NotFlow}
use Rattle.packet_headers.specs.View.{viewed}
use Rattle.entry_order.specs.declared.what.What.TheVariants.{Access}
use Rattle.entry_order.specs.Log.{Entry}
use Rattle.plain_machine.specs.declared.emission.Emission.{Emission}
use Rattle.plain_machine.specs.Machine.{Hand}
use Rattle.plain_machine.specs.History.{Did, Emitted, Step, thread_after, value_after, IsHistory}
use Rattle.flow_boxes.specs.Flows.{HaveBytes}
use Rattle.balancer_box.specs.declared.settings.Backend.{Backend}
use Rattle.balancer_box.specs.declared.value.BalancerValue.{BalancerValue}
use Rattle.balancer_box.specs.Settings.{Settings, AreSettings}
use Rattle.balancer_box.specs.Balancer.{balancer_meaning}
use Rattle.balancer_runs.specs.Packets.{drop_counts}

abbrev pub GoesToService : Settings → Flow → Type 0
GoesToService s flow = (flow.dest ≡ s.address) × (flow.dest_port ≡ s.port)

abbrev pub ComesFromBackend : Settings → Flow → Type 0
ComesFromBackend s flow =
    (number : ℕ) × (backend : Backend) × (slice_get s.backends number ≡ Some backend)
    × (flow.source ≡ backend.address) × (flow.source_port ≡ backend.port)

abbrev pub IsOfService : Settings → Flow → Type 0
IsOfService s flow = GoesToService s flow ⊎ ComesFromBackend s flow

-- each packet that is translated is of the service
abbrev pub SentAreOfService : Type 0
SentAreOfService =
    (s : Settings) (threads : ℕ) (inputs : ℕ → List Packet) (x : Step BalancerValue)
    (earlier : List (Step BalancerValue)) (o : Emission) → AreSettings s → HaveBytes inputs
    → IsHistory (balancer_meaning s) inputs threads (x ∷ earlier) → x.act ≡ Emitted o
    → (1 ≤ o.input)
    × ((p : Packet) × (flow : Flow) × (slice_get (inputs x.thread) (o.input - 1) ≡ Some p)
    × (viewed p.bytes p.original ≡ Ok flow) × IsOfService s flow)

-- Reasons of drops: 1 to 6 where the frame is no flow, 7 where a flow of the service has no connection, and 9, a stray,
-- where it is not of the service.
abbrev pub HasReason : Settings → Packet → ℕ → Type 0
HasReason s p reason =
    ((why : NotFlow) × (viewed p.bytes p.original ≡ Err why) × (1 ≤ reason) × (reason ≤ 6))
    ⊎ ((flow : Flow) × (viewed p.bytes p.original ≡ Ok flow)
    × (((reason ≡ 7) × IsOfService s flow) ⊎ ((reason ≡ 9) × (IsOfService s flow → ⊥))))

-- a touch of variable 0 counts one drop for one reason, which the thread's packet has
abbrev pub StraysAreOfNone : Type 0
StraysAreOfNone =
    (s : Settings) (threads : ℕ) (inputs : ℕ → List Packet) (x : Step BalancerValue)
    (earlier : List (Step BalancerValue)) (entry : Entry) (place : ℕ) (left : BalancerValue)
    → AreSettings s → HaveBytes inputs → IsHistory (balancer_meaning s) inputs threads (x ∷ earlier)
    → x.act ≡ Did entry (Some left) → entry.what ≡ Access 0 place
    → (h : Hand) × (reason : ℕ) × ((thread_after earlier x.thread).hand ≡ Some h) × HasReason s h.packet reason
    × (let old = drop_counts (value_after (balancer_meaning s) earlier 0) in
    drop_counts left ≡ slice_set old (reason - 1) ((slice_index old (reason - 1) + 1) % 2 ^ 64))
