use Rattle.std.proofs.Common.{◌∷◌, ◌++◌, [], refl, inl, arith}
use Rattle.std.proofs.lemmas.List.{length_push}
use Rattle.std.proofs.lemmas.List.Elements.{All-push}
use Rattle.plain_text.specs.Octets.{IsOfBytes}
use Rattle.pcapng_io.specs.Any.{unit_of}
use Rattle.pcapng_io.proofs.Captures.{any_begins, any_on, any_few, format_start, format_on, refused_start}
use Rattle.pcapng_io.proofs.Captures.{any_refused, any_large, any_end}
use Rattle.pcapng_io.proofs.Taken.{some_at_start, some_more, some_of_any}
use Rattle.world_io.proofs.GoingOn.{GoesOn-trans}
use Rattle.packet_taps.proofs.Placing.{are_shown-nothing, are_shown-append}
use Rattle.packet_taps.proofs.Reading.{are_first}
use Rattle.packet_taps.proofs.showing.show_capture.Goals as goal

pub returns-in-Refused-clause-shown : goal.returns-in-Refused-clause-shown
returns-in-Refused-clause-shown g c = record {
  packets = [];
  shown = are_shown-nothing _ _ _ _ c.args.deck.now;
  told = λ p h. (
    refused_start (g.S.Source.remains p c.args.source.now) c.in-Refused.fault (c.in-Refused.ensures.shows p h),
    inl refl,
  );
}

pub returns-in-ReadFault-clause-shown : goal.returns-in-ReadFault-clause-shown
returns-in-ReadFault-clause-shown g c =
    record { packets = []; shown = are_shown-nothing _ _ _ _ c.args.deck.now; told = λ p h. inl refl }

pub records-init : goal.records-init
records-init g c = record {
  packets = [];
  read = any_begins g.S.Source.reads g.met.S.Source.reads_nothing g.met.S.Source.reads_more c.args.source.now
      c.open_capture.new.source c.in-Reader.reader c.in-Reader.ensures.taken;
  format = λ p h.
      format_start (g.S.Source.remains p c.args.source.now) c.in-Reader.reader (c.in-Reader.ensures.shows p h);
  some = some_at_start g.S.Source.reads c.open_capture.result c.args.source.now c.open_capture.new.source
      c.open_capture.ensures.taken;
  octets = λ k d few. absurd (omega arith);
  goes_on = c.in-Reader.ensures.goes_on;
  shown = are_shown-nothing _ _ _ _ c.args.deck.now;
  counted = refl;
}

pub overflow_add-count : goal.overflow_add-count
overflow_add-count g c =
    let inv = c.records.invariant in
    let few = any_few g.S.Source.reads c.args.source.now c.records.source c.records.reader inv.packets inv.read in
    omega (arith, few, inv.counted)

pub records-smaller : goal.records-smaller
records-smaller g c =
    let inv = c.records.invariant in
    let on = any_on g.S.Source.reads g.met.S.Source.reads_nothing g.met.S.Source.reads_more c.args.source.now
    c.records.source c.next_packet.new.source c.records.reader c.next_packet.new.self inv.packets
    (inv.packets ++ c.in-Packet.packet ∷ []) c.in-Packet.packet refl inv.read c.in-Packet.ensures.taken in
    let few = any_few g.S.Source.reads c.args.source.now c.next_packet.new.source c.next_packet.new.self
    (inv.packets ++ c.in-Packet.packet ∷ []) on in
    omega (arith, few, inv.counted, length_push inv.packets c.in-Packet.packet)

pub records-preserved : goal.records-preserved
records-preserved g c =
    let inv = c.records.invariant in
    record {
      packets = inv.packets ++ c.in-Packet.packet ∷ [];
      read = any_on g.S.Source.reads g.met.S.Source.reads_nothing g.met.S.Source.reads_more c.args.source.now
          c.records.source c.next_packet.new.source c.records.reader c.next_packet.new.self inv.packets
          (inv.packets ++ c.in-Packet.packet ∷ []) c.in-Packet.packet refl inv.read c.in-Packet.ensures.taken;
      format = λ p h.
          let before = g.met.S.Source.reads_before p _ _ _ h
          (some_of_any g.S.Source.reads _ _ _ _ _ c.next_packet.ensures.taken).1 in
          format_on g.S.Source.reads c.records.source c.next_packet.new.source (g.S.Source.remains p c.args.source.now)
          c.records.reader c.next_packet.new.self _ (inv.format p before) c.in-Packet.ensures.taken;
      some =
          some_more g.S.Source.reads g.met.S.Source.reads_more c.next_packet.result c.args.source.now c.records.source
          c.next_packet.new.source c.records.reader c.next_packet.new.self inv.some c.next_packet.ensures.taken;
      octets = All-push IsOfBytes inv.packets c.in-Packet.packet inv.octets c.in-Packet.ensures.given.1;
      goes_on = GoesOn-trans g.S.Source.faults g.S.Source.healthy _ _ _ inv.goes_on c.in-Packet.ensures.goes_on;
      shown = are_shown-append g.T.PacketTap.saw g.T.PacketTap.missed g.T.PacketTap.fault_count g.T.PacketTap.lack_count
          inv.packets (c.in-Packet.packet ∷ []) c.args.deck.now c.records.deck c.show.new.self inv.shown c.show.ensures;
      counted = omega (arith, inv.counted, length_push inv.packets c.in-Packet.packet);
    }

pub returns-in-End-clause-shown : goal.returns-in-End-clause-shown
returns-in-End-clause-shown g c =
    let inv = c.records.invariant in
    record {
      packets = inv.packets;
      shown = inv.shown;
      told = λ p h.
          let before = g.met.S.Source.reads_before p _ _ _ h
          (some_of_any g.S.Source.reads _ _ _ _ _ c.next_packet.ensures.taken).1 in
          let whole = any_end g.S.Source.reads (g.S.Source.remains p) (g.S.Source.honest p)
          (g.met.S.Source.reads_before p) (g.met.S.Source.reads_shown p) c.args.source.now c.records.source before
          c.records.reader c.next_packet.new.self inv.packets c.next_packet.new.source (inv.format p before) inv.read
          (c.in-End.ensures.shows p h) c.in-End.ensures.taken in
          ((unit_of c.next_packet.new.self, whole, inv.octets), inv.counted);
    }

pub returns-in-Refused-next_packet-clause-shown : goal.returns-in-Refused-next_packet-clause-shown
returns-in-Refused-next_packet-clause-shown g c =
    let inv = c.records.invariant in
    record {
      packets = inv.packets;
      shown = inv.shown;
      told = λ p h.
          let before = g.met.S.Source.reads_before p _ _ _ h
          (some_of_any g.S.Source.reads _ _ _ _ _ c.next_packet.ensures.taken).1 in (
            any_refused g.S.Source.reads (g.S.Source.remains p) (g.S.Source.honest p) (g.met.S.Source.reads_before p)
                (g.met.S.Source.reads_shown p) c.args.source.now c.records.source before c.records.reader inv.packets
                c.in-Refused-next_packet.fault (inv.format p before) inv.read
                (c.in-Refused-next_packet.ensures.shows p h),
            are_first g.S.Source.reads (g.S.Source.remains p) (g.S.Source.honest p) (g.met.S.Source.reads_before p)
                (g.met.S.Source.reads_shown p) c.args.source.now c.records.source before c.records.reader inv.packets
                (inv.format p before) inv.read,
          );
    }

pub returns-in-TooLarge-clause-shown : goal.returns-in-TooLarge-clause-shown
returns-in-TooLarge-clause-shown g c =
    let inv = c.records.invariant in
    record {
      packets = inv.packets;
      shown = inv.shown;
      told = λ p h.
          let before = g.met.S.Source.reads_before p _ _ _ h
          (some_of_any g.S.Source.reads _ _ _ _ _ c.next_packet.ensures.taken).1 in (
            any_large g.S.Source.reads (g.S.Source.remains p) (g.S.Source.honest p) (g.met.S.Source.reads_before p)
                (g.met.S.Source.reads_shown p) c.args.source.now c.records.source before c.records.reader inv.packets
                c.in-TooLarge.limit (inv.format p before) inv.read (c.in-TooLarge.ensures.shows p h),
            are_first g.S.Source.reads (g.S.Source.remains p) (g.S.Source.honest p) (g.met.S.Source.reads_before p)
                (g.met.S.Source.reads_shown p) c.args.source.now c.records.source before c.records.reader inv.packets
                (inv.format p before) inv.read,
          );
    }

pub returns-in-ReadFault-next_packet-clause-shown : goal.returns-in-ReadFault-next_packet-clause-shown
returns-in-ReadFault-next_packet-clause-shown g c =
    let inv = c.records.invariant in
    record {
      packets = inv.packets;
      shown = inv.shown;
      told = λ p h.
          let before = g.met.S.Source.reads_before p _ _ _ h
          (some_of_any g.S.Source.reads _ _ _ _ _ c.next_packet.ensures.taken).1 in
          are_first g.S.Source.reads (g.S.Source.remains p) (g.S.Source.honest p) (g.met.S.Source.reads_before p)
          (g.met.S.Source.reads_shown p) c.args.source.now c.records.source before c.records.reader inv.packets
          (inv.format p before) inv.read;
    }

pub returns-in-NoMemory-next_packet-clause-shown : goal.returns-in-NoMemory-next_packet-clause-shown
returns-in-NoMemory-next_packet-clause-shown g c =
    let inv = c.records.invariant in
    record {
      packets = inv.packets;
      shown = inv.shown;
      told = λ p h.
          let before = g.met.S.Source.reads_before p _ _ _ h
          (some_of_any g.S.Source.reads _ _ _ _ _ c.next_packet.ensures.taken).1 in
          are_first g.S.Source.reads (g.S.Source.remains p) (g.S.Source.honest p) (g.met.S.Source.reads_before p)
          (g.met.S.Source.reads_shown p) c.args.source.now c.records.source before c.records.reader inv.packets
          (inv.format p before) inv.read;
    }

pub returns-in-End-clause-reads : goal.returns-in-End-clause-reads
returns-in-End-clause-reads g c =
    some_more g.S.Source.reads g.met.S.Source.reads_more c.next_packet.result c.args.source.now c.records.source
    c.next_packet.new.source c.records.reader c.next_packet.new.self c.records.invariant.some
    c.next_packet.ensures.taken

pub returns-in-Refused-next_packet-clause-reads : goal.returns-in-Refused-next_packet-clause-reads
returns-in-Refused-next_packet-clause-reads g c =
    some_more g.S.Source.reads g.met.S.Source.reads_more c.next_packet.result c.args.source.now c.records.source
    c.next_packet.new.source c.records.reader c.next_packet.new.self c.records.invariant.some
    c.next_packet.ensures.taken

pub returns-in-TooLarge-clause-reads : goal.returns-in-TooLarge-clause-reads
returns-in-TooLarge-clause-reads g c =
    some_more g.S.Source.reads g.met.S.Source.reads_more c.next_packet.result c.args.source.now c.records.source
    c.next_packet.new.source c.records.reader c.next_packet.new.self c.records.invariant.some
    c.next_packet.ensures.taken

pub returns-in-ReadFault-next_packet-clause-reads : goal.returns-in-ReadFault-next_packet-clause-reads
returns-in-ReadFault-next_packet-clause-reads g c =
    some_more g.S.Source.reads g.met.S.Source.reads_more c.next_packet.result c.args.source.now c.records.source
    c.next_packet.new.source c.records.reader c.next_packet.new.self c.records.invariant.some
    c.next_packet.ensures.taken

pub returns-in-NoMemory-next_packet-clause-reads : goal.returns-in-NoMemory-next_packet-clause-reads
returns-in-NoMemory-next_packet-clause-reads g c =
    some_more g.S.Source.reads g.met.S.Source.reads_more c.next_packet.result c.args.source.now c.records.source
    c.next_packet.new.source c.records.reader c.next_packet.new.self c.records.invariant.some
    c.next_packet.ensures.taken
