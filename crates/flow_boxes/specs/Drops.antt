-- Packets that are dropped, by reason. Reasons 1 to 6 are those for which a frame is no flow; what the others mean is
-- the box's to say.
use Rattle.std.specs.Prelude.{ℕ, ◌+◌, ◌-◌, ◌%◌, ◌^◌, ◌&&◌, nat_lt, if◌then◌else◌, slice_index, slice_set, replicate}
use Rattle.packet_headers.specs.declared.flow.NotFlow.{NotFlow}
use Rattle.packet_headers.specs.declared.flow.NotFlow.TheVariants.{Short, NotIpv4, BadHeaderLength, Fragment}
use Rattle.packet_headers.specs.declared.flow.NotFlow.TheVariants.{OtherProtocol, BadTotalLength}
use Rattle.flow_boxes.specs.declared.drops.Drops.{Drops}

abbrev pub reason_of : NotFlow → ℕ
reason_of Short = 1
reason_of NotIpv4 = 2
reason_of BadHeaderLength = 3
reason_of Fragment = 4
reason_of OtherProtocol = 5
reason_of BadTotalLength = 6

-- a flow, and none of those that the box serves
abbrev pub stray : ℕ
stray = 9

abbrev pub no_drops : Drops
no_drops = record { counts = replicate 10 0 }

-- one packet more for this reason
abbrev pub with_drop : ℕ → Drops → Drops
with_drop reason d =
    if nat_lt 0 reason && nat_lt reason 11
    then record { counts = slice_set d.counts (reason - 1) ((slice_index d.counts (reason - 1) + 1) % 2 ^ 64) }
    else d
