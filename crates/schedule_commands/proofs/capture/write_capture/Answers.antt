use Rattle.std.proofs.Common.{[], ◌∷◌}
use Rattle.pcap_io.specs.Capture.{records_of, written_header}
use Rattle.pcap_io.specs.declared.order.Order.TheVariants as order
use Rattle.output_files.specs.Writes.{Creates, Appends}
use Rattle.output_files.proofs.Effects.{err_writes, begun_before, begun_behind, then_writes, written_more, appends}
use Rattle.output_files.proofs.Effects.{appends_part}
use Rattle.schedule_commands.proofs.PacketPieces.{header_begun, header_written}
use Rattle.schedule_commands.proofs.capture.write_capture.Goals as goal

pub returns-in_err-file-clause-shows : goal.returns-in_err-file-clause-shows
returns-in_err-file-clause-shows g c p h =
    err_writes _ _ _ _ c.from_residual.ensures.0
    (begun_before (Creates c.args.name.now ∷ []) _ _ _ (c.in_err-file.ensures.shows p h))

pub returns-in_err-append-clause-shows : goal.returns-in_err-append-clause-shows
returns-in_err-append-clause-shows g c p h =
    let h0 = c.in_err-append.ensures.before p h in
    let created = c.in_ok-file.ensures.shows p h0 in
    err_writes _ _ _ _ c.from_residual-in_err-append.ensures.0
    (begun_behind (Creates c.args.name.now ∷ []) _ _ _ _ created
    (begun_before (Appends c.args.name.now (written_header c.args.unit) ∷ []) _ _ _
    (header_begun c.args.name.now _ _ _ _ c.put_header.ensures
    (c.in_err-append.ensures.shows p h c.args.name.now (c.in_ok-file.ensures.output p h0)))))

pub returns-in_err-append_packets-clause-shows : goal.returns-in_err-append_packets-clause-shows
returns-in_err-append_packets-clause-shows g c p h =
    let h1 = c.in_err-append_packets.ensures.before p h in
    let h0 = c.in_ok-append.ensures.before p h1 in
    let created = c.in_ok-file.ensures.shows p h0 in
    let is = c.in_ok-file.ensures.output p h0 in
    let header = header_written c.args.name.now _ _ _ _ c.put_header.ensures
    (c.in_ok-append.ensures.shows p h1 c.args.name.now is) in
    let first =
    written_more (Creates c.args.name.now ∷ []) (Appends c.args.name.now (written_header c.args.unit) ∷ []) _ _ _
    created header in
    let part = c.in_err-append_packets.ensures.shows p h in
    err_writes _ _ _ _ c.from_residual-in_err-append_packets.ensures.0
    (begun_behind (Creates c.args.name.now ∷ Appends c.args.name.now (written_header c.args.unit) ∷ []) _ _ _ _ first
    (begun_before (Appends c.args.name.now (records_of order.Little c.args.packets.now) ∷ []) _ _ _
    (appends_part _ part.0 c.args.name.now (records_of order.Little c.args.packets.now) _ _
    (c.in_ok-append.ensures.keeps p h1 _ _ is) part.1)))

pub returns-clause-shows : goal.returns-clause-shows
returns-clause-shows g c p h =
    let h2 = c.report.ensures.before p h in
    let h1 = c.in_ok-append_packets.ensures.before p h2 in
    let h0 = c.in_ok-append.ensures.before p h1 in
    let created = c.in_ok-file.ensures.shows p h0 in
    let is = c.in_ok-file.ensures.output p h0 in
    let header = header_written c.args.name.now _ _ _ _ c.put_header.ensures
    (c.in_ok-append.ensures.shows p h1 c.args.name.now is) in
    let body = appends _ c.args.name.now (records_of order.Little c.args.packets.now) _ _
    (c.in_ok-append.ensures.keeps p h1 _ _ is) (c.in_ok-append_packets.ensures.shows p h2) in
    let first =
    written_more (Creates c.args.name.now ∷ []) (Appends c.args.name.now (written_header c.args.unit) ∷ []) _ _ _
    created header in
    let second = written_more (Creates c.args.name.now ∷ Appends c.args.name.now (written_header c.args.unit) ∷ [])
    (Appends c.args.name.now (records_of order.Little c.args.packets.now) ∷ []) _ _ _ first body in
    then_writes _
    (Creates c.args.name.now ∷ Appends c.args.name.now (written_header c.args.unit)
    ∷ Appends c.args.name.now (records_of order.Little c.args.packets.now) ∷ [])
    _ _ _ _ second (c.report.ensures.shows p h)
