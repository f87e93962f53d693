use Rattle.std.proofs.Common.{arith}
use Rattle.output_files.proofs.OnlyWriting.{OnlyWrites-same, OnlyWrites-trans}
use Rattle.output_files.proofs.PieceWise.{err_appends}
use Rattle.schedule_commands.proofs.PacketPieces.{none_appended, none_begun, one_gathered, stops_between, stops_within}
use Rattle.schedule_commands.proofs.PacketPieces.{all_gathered}
use Rattle.schedule_commands.proofs.capture.append_packets.Goals as goal

pub returns-in_err-piece-clause-shows : goal.returns-in_err-piece-clause-shows
returns-in_err-piece-clause-shows g c p h = err_appends _ _ _ _ _ c.from_residual.ensures.0 (none_begun _ _ _)

pub loop-packet-init : goal.loop-packet-init
loop-packet-init g c = record {
  only_writes = OnlyWrites-same _ _ _;
  shows = λ p h. none_appended _ _ _ c.in_ok-piece.ensures;
  before = λ p h. h;
}

pub loop-packet-preserved : goal.loop-packet-preserved
loop-packet-preserved g c =
    let inv = c.loop-packet.invariant in
    record {
      only_writes = OnlyWrites-trans _ _ _ _ _ inv.only_writes c.in_ok-append_full.ensures.only_writes;
      shows = λ p h.
          let h0 = c.in_ok-append_full.ensures.before p h in
          c.in_ok-append_full.ensures.shows p h _ _
          (one_gathered _ c.args.packets.now c.loop-packet.packet-index c.packet-item.result _ _ _ _ (omega arith)
          c.packet-item.is c.in_ok-put_packet.ensures.ok (inv.shows p h0));
      before = λ p h. inv.before p (c.in_ok-append_full.ensures.before p h);
    }

pub returns-in_err-put_packet-clause-shows : goal.returns-in_err-put_packet-clause-shows
returns-in_err-put_packet-clause-shows g c p h =
    stops_between _ _ c.args.packets.now c.loop-packet.packet-index _ _ _ c.from_residual-in_err-put_packet.ensures.0
    (c.loop-packet.invariant.shows p h)

pub returns-in_err-append_full-clause-shows : goal.returns-in_err-append_full-clause-shows
returns-in_err-append_full-clause-shows g c p h =
    let h0 = c.in_err-append_full.ensures.before p h in
    stops_within _ _ c.args.packets.now _ _ _ c.from_residual-in_err-append_full.ensures.0
    (c.in_err-append_full.ensures.shows p h _ _
    (one_gathered _ c.args.packets.now c.loop-packet.packet-index c.packet-item.result _ _ _ _ (omega arith)
    c.packet-item.is c.in_ok-put_packet.ensures.ok (c.loop-packet.invariant.shows p h0)))

pub returns-clause-shows : goal.returns-clause-shows
returns-clause-shows g c p h =
    c.append_last.ensures.shows p h _ _
    (all_gathered _ c.args.packets.now c.loop-packet.packet-index _ _ _ (omega arith)
    (c.loop-packet.invariant.shows p (c.append_last.ensures.before p h)))
