use Rattle.std.proofs.Common.{take}
use Rattle.sha2.specs.Hashers.{Holds256}
use Rattle.handover_seal.specs.Packets.{packets_text}
use Rattle.handover_seal.proofs.digest.packets_digest.Given as goal

-- the hasher has taken the packets so far
abbrev pub invariant-loop-packet : goal.invariant-loop-packet
invariant-loop-packet l = Holds256 l.hasher (packets_text l.fn.unit (take l.packet-index l.packets))
