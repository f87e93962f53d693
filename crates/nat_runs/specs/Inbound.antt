-- An inbound packet changes no table and not the pool, so it refreshes no mapping (RFC 4787, REQ-6); nor does an error
-- of ICMP, whatever its direction (RFC 5508, REQ-6).
use Rattle.std.specs.Prelude.{◌≡◌, ℕ, ◌≤◌, ◌⊎◌, List, ◌∷◌, Some, Ok}
use Rattle.plain_text.specs.declared.packet.Packet.{Packet}
use Rattle.packet_headers.specs.declared.flow.Flow.{Flow}
use Rattle.packet_headers.specs.View.{viewed}
use Rattle.icmp_errors.specs.declared.error.IcmpError.{IcmpError}
use Rattle.icmp_errors.specs.ErrorView.{viewed_error}
use Rattle.plain_machine.specs.Machine.{Hand}
use Rattle.plain_machine.specs.History.{Step, thread_after, value_after, IsHistory}
use Rattle.nat_box.specs.declared.place.Class.TheVariants.{Inbound}
use Rattle.nat_box.specs.declared.value.NatValue.{NatValue}
use Rattle.nat_box.specs.Settings.{Settings, AreSettings}
use Rattle.nat_box.specs.Nat.{class_of_flow, nat_meaning}

abbrev pub IsInbound : Settings → Packet → Type 0
IsInbound s p =
    (flow : Flow) × (viewed p.bytes p.original ≡ Ok flow) × (class_of_flow s flow.source flow.dest ≡ Some Inbound)

abbrev pub IsError : Packet → Type 0
IsError p = (error : IcmpError) × (viewed_error p.bytes p.original ≡ Some error)

-- variable 0 counts drops
abbrev pub InboundChangesNoTable : Type 0
InboundChangesNoTable =
    (s : Settings) (threads : ℕ) (inputs : ℕ → List Packet) (x : Step NatValue) (earlier : List (Step NatValue))
    (h : Hand) → AreSettings s → IsHistory (nat_meaning s) inputs threads (x ∷ earlier)
    → (thread_after earlier x.thread).hand ≡ Some h → IsInbound s h.packet ⊎ IsError h.packet → (v : ℕ) → 1 ≤ v
    → value_after (nat_meaning s) (x ∷ earlier) v ≡ value_after (nat_meaning s) earlier v
