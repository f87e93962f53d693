use Rattle.packet_taps.proofs.PrintedWindow.{misses-faults, misses-line, took-faults, took-line}
use Rattle.packet_taps.proofs.line_tap.LineTapPacketTap.show.Goals as goal

pub returns-clause-took : goal.returns-clause-took
returns-clause-took g c took before saw =
    let line = c.print.ensures in (
      took-faults c.print.result c.args.self.now c.print.new.self line.counts took saw.0,
      took-line g.W.World.honest g.W.World.shows c.args.packet.now c.args.self.now.world c.print.new.self.world
          line.before before saw.1 (λ p h. line.prints p h took),
    )

pub returns-clause-misses : goal.returns-clause-misses
returns-clause-misses g c missed before saw =
    let line = c.print.ensures in (
      misses-faults c.print.result c.args.self.now c.print.new.self _ _ line.counts line.cause saw.0,
      misses-line g.W.World.honest g.W.World.shows c.args.packet.now c.args.self.now.world c.print.new.self.world
          line.before before saw.1 (λ p h. line.stops p h missed),
    )
