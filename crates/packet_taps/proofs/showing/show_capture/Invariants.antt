use Rattle.std.proofs.Common.{◌-◌}
use Rattle.plain_text.specs.declared.limit.TheConstants.{MOST_PACKETS}
use Rattle.packet_taps.proofs.Reading.{HasWatched}
use Rattle.packet_taps.proofs.showing.show_capture.Given as goal

-- the packets that were read were shown
abbrev pub invariant-records : goal.invariant-records
invariant-records g l =
    let source = g.S.Source in
    let tap = g.T.PacketTap in
    HasWatched source.reads source.honest source.remains source.faults source.healthy tap.saw tap.missed
    tap.fault_count tap.lack_count l.fn.source l.source l.reader l.fn.deck l.deck l.count

abbrev pub decreases-records : goal.decreases-records
decreases-records g l = MOST_PACKETS - l.count
