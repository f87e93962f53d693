-- An answer goes to a client whose connection to its backend is live.
use Rattle.std.specs.Prelude.{◌≡◌, ℕ, ◌-◌, false, List, ◌∷◌, Some, Ok, slice_get}
use Rattle.plain_text.specs.declared.packet.Packet.{Packet}
use Rattle.packet_headers.specs.declared.flow.Flow.{Flow}
use Rattle.packet_headers.specs.View.{viewed}
use Rattle.plain_machine.specs.declared.emission.Emission.{Emission}
use Rattle.plain_machine.specs.History.{Emitted, Step, IsHistory}
use Rattle.nat_tables.specs.declared.slot.Slot.{Slot}
use Rattle.nat_tables.specs.Forwards.{Forwards, slot_of}
use Rattle.flow_boxes.specs.Flows.{HaveBytes, dest_of}
use Rattle.balancer_box.specs.declared.value.BalancerValue.{BalancerValue}
use Rattle.balancer_box.specs.Settings.{Settings, AreSettings}
use Rattle.balancer_box.specs.Balancer.{is_virtual, backend_at, balancer_meaning}
use Rattle.balancer_box.specs.Emissions.{Trail, trail_of}
use Rattle.balancer_runs.specs.Idle.{IsLiveAt}

-- the client's connection to the backend, as the packet's own moves met it, and at the time that it was told
abbrev pub MetLive : Settings → Flow → Trail → Type 0
MetLive s flow r =
    (es : Forwards) × (now : ℕ) × (slot : Slot) × (r.found ≡ Some es) × (r.clock ≡ Some now)
    × (slot_of (dest_of flow) es ≡ Some slot)
    × (backend_at s.backends flow.source flow.source_port ≡ Some slot.port) × IsLiveAt now (dest_of flow) slot

-- of each packet that goes out and is not one to the virtual address and port
abbrev pub AnswersComeBeforeIdle : Type 0
AnswersComeBeforeIdle =
    (s : Settings) (threads : ℕ) (inputs : ℕ → List Packet) (x : Step BalancerValue)
    (earlier : List (Step BalancerValue)) (o : Emission) (p : Packet) (flow : Flow) → AreSettings s → HaveBytes inputs
    → IsHistory (balancer_meaning s) inputs threads (x ∷ earlier) → x.act ≡ Emitted o
    → slice_get (inputs x.thread) (o.input - 1) ≡ Some p → viewed p.bytes p.original ≡ Ok flow
    → is_virtual s flow.dest flow.dest_port ≡ false → MetLive s flow (trail_of s x.thread earlier)
