use Rattle.std.proofs.Common.{All}
use Rattle.plain_text.specs.Packets.{IsShort}
use Rattle.bench.proofs.handovers.touching_packets.Given as goal

abbrev pub invariant-loop : goal.invariant-loop
invariant-loop l = All IsShort l.packets
