use Rattle.std.proofs.Common.{◌∷◌, []}
use Rattle.packet_taps.proofs.Along.{AreShownTo}
use Rattle.packet_taps.proofs.deck.show_each.Given as goal

abbrev pub invariant-loop-place : goal.invariant-loop-place
invariant-loop-place g l =
    AreShownTo g.T.PacketTap.saw g.T.PacketTap.missed g.T.PacketTap.fault_count g.T.PacketTap.lack_count
    (l.packet ∷ []) l.place-index l.initial.places l.places
