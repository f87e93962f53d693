use Rattle.std.proofs.Common.{take}
use Rattle.frame_intake.specs.Orders.{orders_of, AreSome, Arrive}
use Rattle.frame_intake.proofs.ArriveLemmas.{AreCounted}
use Rattle.frame_intake.proofs.orders.RoundOrders.arriving.Given as goal

abbrev pub invariant-loop-frame : goal.invariant-loop-frame
invariant-loop-frame l = record {
  counted : AreCounted l.counts (take l.frame-index l.sent);
  arrive : Arrive (orders_of l.self) (take l.frame-index l.sent) l.arriving.items;
  ordered : AreSome (take l.frame-index l.sent) l.arriving.items;
}
