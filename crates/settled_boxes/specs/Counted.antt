-- The monitor's counts are those of the capture.
use Rattle.std.specs.Prelude.{◌≡◌, ℕ, ◌%◌, ◌^◌, List, Option, Some, None}
use Rattle.plain_text.specs.declared.packet.Packet.{Packet}
use Rattle.monitor_box.specs.declared.counts.FlowKey.{FlowKey}
use Rattle.monitor_box.specs.declared.value.MonitorValue.{MonitorValue}
use Rattle.monitor_box.specs.Monitor.{totals_var}
use Rattle.monitor_box.specs.Sums.{totals_of}
use Rattle.monitor_box.specs.Arrivals.{flow_of_packet, share, other_share, shares, count_of, others_of}

-- a number of a packet, where it is one of any flow
abbrev pub if_flow : Option FlowKey → ℕ → ℕ
if_flow None n = 0
if_flow (Some key) n = n

abbrev pub flow_share : (Packet → ℕ) → Packet → ℕ
flow_share number p = if_flow (flow_of_packet p) (number p)

-- The values of a box with this number of tables count exactly these packets; counters have 64 bits.
pub record CountsCapture (tables : ℕ) (packets : List Packet) (value : ℕ → MonitorValue) : Type 0 where
  -- a flow's own table has the flow's packets, and their bytes on the wire
  pub flow_packets : (flow : FlowKey)
      → count_of (λ count. count.packets) flow tables value ≡ shares (share (λ packet. 1) flow) packets % 2 ^ 64
  pub flow_bytes : (flow : FlowKey)
      → count_of (λ count. count.bytes) flow tables value
      ≡ shares (share (λ packet. packet.original) flow) packets % 2 ^ 64
  -- the totals have the packets of all flows, their bytes on the wire, and the packets that are no flow
  pub total_packets : (totals_of (value totals_var)).packets ≡ shares (flow_share (λ packet. 1)) packets % 2 ^ 64
  pub total_bytes : (totals_of (value totals_var)).bytes
      ≡ shares (flow_share (λ packet. packet.original)) packets % 2 ^ 64
  pub others : others_of value ≡ shares other_share packets % 2 ^ 64
