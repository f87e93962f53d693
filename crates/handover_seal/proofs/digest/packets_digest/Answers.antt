use Rattle.std.proofs.Common.{subst, sym}
use Rattle.sha2.specs.Hashers.{Holds256}
use Rattle.handover_seal.proofs.Hashed.{more_text}
use Rattle.handover_seal.proofs.digest.packets_digest.Goals as goal

pub loop-packet-preserved : goal.loop-packet-preserved
loop-packet-preserved c =
    subst (Holds256 c.take_packet.new.hasher) (more_text c.args.unit c.args.packets.now c.loop-packet.packet-index
    c.packet-item.result c.loop-packet-test.true (sym c.packet-item.is))
    (c.take_packet.ensures _ c.loop-packet.invariant)
