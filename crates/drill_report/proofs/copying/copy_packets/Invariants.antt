use Rattle.std.proofs.Common.{◌≡◌, take}
use Rattle.drill_report.proofs.copying.copy_packets.Given as goal

-- the packets so far were copied
abbrev pub invariant-loop-packet : goal.invariant-loop-packet
invariant-loop-packet l = l.copy ≡ take l.packet-index l.packets
