use Rattle.std.proofs.Common.{List, length, sym, ap, subst, arith}
use Rattle.std.proofs.lemmas.List.{length_push}
use Rattle.std.proofs.lemmas.List.Elements.{All-push}
use Rattle.plain_text.specs.Octets.{IsOfBytes}
use Rattle.plain_text.specs.declared.packet.Packet.{Packet}
use Rattle.plain_text.specs.declared.packet.Unit.{Unit as TimeUnit}
use Rattle.pcapng_io.specs.declared.capture.AnyCaptured.TheVariants.{Capture}
use Rattle.pcapng_io.specs.Captured.{SaysAny}
use Rattle.pcapng_io.proofs.Captures.{HasReadAny, any_begins, any_on, any_few, format_start, format_on, refused_start}
use Rattle.pcapng_io.proofs.Captures.{any_refused, any_large, any_end, any_recorded}
use Rattle.pcapng_io.proofs.Taken.{some_at_start, some_more, some_of_any}
use Rattle.world_io.proofs.GoingOn.{GoesOn-trans}
use Rattle.pcapng_io.proofs.capture.read_any_capture.Goals as goal

pub returns-in-Refused-clause-shows : goal.returns-in-Refused-clause-shows
returns-in-Refused-clause-shows g c =
    λ p h. refused_start (g.S.Source.remains p c.args.source.now) c.in-Refused.fault (c.in-Refused.ensures.shows p h)

pub records-init : goal.records-init
records-init g c =
    let Has : List Packet → Type 0 =
    λ ps. HasReadAny g.S.Source.reads c.args.source.now c.open_capture.new.source c.in-Reader.reader ps in
    record {
      read = subst Has (sym c.new-packets.ensures)
          (any_begins g.S.Source.reads g.met.S.Source.reads_nothing g.met.S.Source.reads_more c.args.source.now
          c.open_capture.new.source c.in-Reader.reader c.in-Reader.ensures.taken);
      shows = λ p h.
          format_start (g.S.Source.remains p c.args.source.now) c.in-Reader.reader (c.in-Reader.ensures.shows p h);
      some = some_at_start g.S.Source.reads c.open_capture.result c.args.source.now c.open_capture.new.source
          c.open_capture.ensures.taken;
      octets = rw c.new-packets.ensures (λ k d few. absurd (omega arith));
      goes_on = c.in-Reader.ensures.goes_on;
    }

pub records-smaller : goal.records-smaller
records-smaller g c =
    let inv = c.records.invariant in
    let on = any_on g.S.Source.reads g.met.S.Source.reads_nothing g.met.S.Source.reads_more c.args.source.now
    c.records.source c.next_packet.new.source c.records.reader c.next_packet.new.self c.records.packets c.push.new.self
    c.in-Packet.packet c.in-Ok.ensures.ok inv.read c.in-Packet.ensures.taken in
    let few =
    any_few g.S.Source.reads c.args.source.now c.next_packet.new.source c.next_packet.new.self c.push.new.self on in
    omega (arith, few, ap length c.in-Ok.ensures.ok, length_push c.records.packets c.in-Packet.packet)

pub records-preserved : goal.records-preserved
records-preserved g c =
    let inv = c.records.invariant in
    record {
      read = any_on g.S.Source.reads g.met.S.Source.reads_nothing g.met.S.Source.reads_more c.args.source.now
          c.records.source c.next_packet.new.source c.records.reader c.next_packet.new.self c.records.packets
          c.push.new.self c.in-Packet.packet c.in-Ok.ensures.ok inv.read c.in-Packet.ensures.taken;
      shows = λ p h.
          let before = g.met.S.Source.reads_before p _ _ _ h
          (some_of_any g.S.Source.reads _ _ _ _ _ c.next_packet.ensures.taken).1 in
          format_on g.S.Source.reads c.records.source c.next_packet.new.source (g.S.Source.remains p c.args.source.now)
          c.records.reader c.next_packet.new.self _ (inv.shows p before) c.in-Packet.ensures.taken;
      some =
          some_more g.S.Source.reads g.met.S.Source.reads_more c.next_packet.result c.args.source.now c.records.source
          c.next_packet.new.source c.records.reader c.next_packet.new.self inv.some c.next_packet.ensures.taken;
      octets = rw c.in-Ok.ensures.ok
          (All-push IsOfBytes c.records.packets c.in-Packet.packet inv.octets c.in-Packet.ensures.given.1);
      goes_on = GoesOn-trans g.S.Source.faults g.S.Source.healthy _ _ _ inv.goes_on c.in-Packet.ensures.goes_on;
    }

pub returns-in-Refused-next_packet-clause-shows : goal.returns-in-Refused-next_packet-clause-shows
returns-in-Refused-next_packet-clause-shows g c = λ p h.
    let inv = c.records.invariant in
    let before = g.met.S.Source.reads_before p _ _ _ h
    (some_of_any g.S.Source.reads _ _ _ _ _ c.next_packet.ensures.taken).1 in
    any_refused g.S.Source.reads (g.S.Source.remains p) (g.S.Source.honest p) (g.met.S.Source.reads_before p)
    (g.met.S.Source.reads_shown p) c.args.source.now c.records.source before c.records.reader c.records.packets
    c.in-Refused-next_packet.fault (inv.shows p before) inv.read (c.in-Refused-next_packet.ensures.shows p h)

pub returns-in-TooLarge-clause-shows : goal.returns-in-TooLarge-clause-shows
returns-in-TooLarge-clause-shows g c = λ p h.
    let inv = c.records.invariant in
    let before = g.met.S.Source.reads_before p _ _ _ h
    (some_of_any g.S.Source.reads _ _ _ _ _ c.next_packet.ensures.taken).1 in
    any_large g.S.Source.reads (g.S.Source.remains p) (g.S.Source.honest p) (g.met.S.Source.reads_before p)
    (g.met.S.Source.reads_shown p) c.args.source.now c.records.source before c.records.reader c.records.packets
    c.in-TooLarge.limit (inv.shows p before) inv.read (c.in-TooLarge.ensures.shows p h)

pub returns-clause-shows : goal.returns-clause-shows
returns-clause-shows g c = λ p h.
    let inv = c.records.invariant in
    let before = g.met.S.Source.reads_before p _ _ _ h
    (some_of_any g.S.Source.reads _ _ _ _ _ c.next_packet.ensures.taken).1 in
    let Says_unit : TimeUnit → Type 0 =
    λ u. SaysAny (g.S.Source.remains p c.args.source.now) (Capture u c.records.packets) in
    subst Says_unit (sym c.unit.ensures) (any_end g.S.Source.reads (g.S.Source.remains p) (g.S.Source.honest p)
    (g.met.S.Source.reads_before p) (g.met.S.Source.reads_shown p) c.args.source.now c.records.source before
    c.records.reader c.next_packet.new.self c.records.packets c.next_packet.new.source (inv.shows p before) inv.read
    (c.in-End.ensures.shows p h) c.in-End.ensures.taken)

pub returns-clause-packets : goal.returns-clause-packets
returns-clause-packets g c =
    let inv = c.records.invariant in (
      any_recorded g.S.Source.reads c.args.source.now c.records.source c.records.reader c.records.packets inv.read,
      inv.octets,
      any_few g.S.Source.reads c.args.source.now c.records.source c.records.reader c.records.packets inv.read,
    )

pub returns-in_default-clause-reads : goal.returns-in_default-clause-reads
returns-in_default-clause-reads g c = some_more g.S.Source.reads g.met.S.Source.reads_more c.next_packet.result
    c.args.source.now c.records.source c.next_packet.new.source c.records.reader c.next_packet.new.self
    c.records.invariant.some c.next_packet.ensures.taken

pub returns-in-Refused-next_packet-clause-reads : goal.returns-in-Refused-next_packet-clause-reads
returns-in-Refused-next_packet-clause-reads g c = some_more g.S.Source.reads g.met.S.Source.reads_more
    c.next_packet.result c.args.source.now c.records.source c.next_packet.new.source c.records.reader
    c.next_packet.new.self c.records.invariant.some c.next_packet.ensures.taken

pub returns-in-TooLarge-clause-reads : goal.returns-in-TooLarge-clause-reads
returns-in-TooLarge-clause-reads g c = some_more g.S.Source.reads g.met.S.Source.reads_more c.next_packet.result
    c.args.source.now c.records.source c.next_packet.new.source c.records.reader c.next_packet.new.self
    c.records.invariant.some c.next_packet.ensures.taken

pub returns-in-ReadFault-next_packet-clause-reads : goal.returns-in-ReadFault-next_packet-clause-reads
returns-in-ReadFault-next_packet-clause-reads g c = some_more g.S.Source.reads g.met.S.Source.reads_more
    c.next_packet.result c.args.source.now c.records.source c.next_packet.new.source c.records.reader
    c.next_packet.new.self c.records.invariant.some c.next_packet.ensures.taken

pub returns-in-NoMemory-next_packet-clause-reads : goal.returns-in-NoMemory-next_packet-clause-reads
returns-in-NoMemory-next_packet-clause-reads g c = some_more g.S.Source.reads g.met.S.Source.reads_more
    c.next_packet.result c.args.source.now c.records.source c.next_packet.new.source c.records.reader
    c.next_packet.new.self c.records.invariant.some c.next_packet.ensures.taken

pub returns-clause-reads : goal.returns-clause-reads
returns-clause-reads g c = some_more g.S.Source.reads g.met.S.Source.reads_more c.next_packet.result c.args.source.now
    c.records.source c.next_packet.new.source c.records.reader c.next_packet.new.self c.records.invariant.some
    c.next_packet.ensures.taken
