use Rattle.std.proofs.Common.{◌≡◌, inl, ap, sym, ◌∙◌}
use Rattle.std.proofs.lemmas.List.Elements.{All-push}
use Rattle.plain_text.specs.Octets.{IsOfBytes}
use Rattle.pcap_io.specs.Reading.{Reading}
use Rattle.pcap_io.proofs.Captures.{stands_on, has_read_on, refused_says, too_large_says, taken_more, taken_capture}
use Rattle.pcap_io.proofs.Captures.{begun_capture, begins_read}
use Rattle.pcap_io.proofs.Verdicts.{header_passes_none}
use Rattle.world_io.proofs.GoingOn.{GoesOn-trans}
use Rattle.pcap_io.proofs.capture.read_capture.Goals as goal

pub records-preserved : goal.records-preserved
records-preserved g c =
    let inv = c.records.invariant in
    let packet = c.in-Packet.ensures in
    record {
      stands = stands_on _ _ _ _ c.in-Packet.packet inv.stands packet.after c.in-Ok.ensures.ok packet.given;
      taken = has_read_on g.S.Source.reads g.met.S.Source.reads_more c.args.source.now c.records.source
          c.next_packet.new.source c.records.reader c.next_packet.new.self c.records.packets c.push.new.self
          c.in-Packet.packet inv.taken packet.after c.in-Ok.ensures.ok packet.taken;
      bytes = rw c.in-Ok.ensures.ok (All-push IsOfBytes c.records.packets c.in-Packet.packet inv.bytes packet.bytes);
      goes_on = GoesOn-trans g.S.Source.faults g.S.Source.healthy _ _ _ inv.goes_on packet.goes_on;
    }

pub returns-clause-taken : goal.returns-clause-taken
returns-clause-taken g c =
    let inv = c.records.invariant in
    let same : c.unit.result ≡ c.records.reader.unit =
    c.unit.ensures ∙ ap (λ (r : Reading). r.unit) c.in-End.ensures.after in
    rw same (taken_capture g.S.Source.reads g.met.S.Source.reads_more _ _ _ _ _ inv.stands inv.taken
    c.in-End.ensures.taken)

pub returns-in_default-clause-taken : goal.returns-in_default-clause-taken
returns-in_default-clause-taken g c = taken_more g.S.Source.reads g.met.S.Source.reads_more _ _ _ _ _ _
    c.records.invariant.taken (_, c.in-Packet.ensures.taken)

pub returns-in-Refused-next_packet-clause-taken : goal.returns-in-Refused-next_packet-clause-taken
returns-in-Refused-next_packet-clause-taken g c = taken_more g.S.Source.reads g.met.S.Source.reads_more _ _ _ _ _ _
    c.records.invariant.taken c.in-Refused-next_packet.ensures.taken

pub returns-in-TooLarge-clause-taken : goal.returns-in-TooLarge-clause-taken
returns-in-TooLarge-clause-taken g c = taken_more g.S.Source.reads g.met.S.Source.reads_more _ _ _ _ _ _
    c.records.invariant.taken c.in-TooLarge.ensures.taken

pub returns-in-ReadFault-next_packet-clause-taken : goal.returns-in-ReadFault-next_packet-clause-taken
returns-in-ReadFault-next_packet-clause-taken g c = taken_more g.S.Source.reads g.met.S.Source.reads_more _ _ _ _ _ _
    c.records.invariant.taken c.in-ReadFault-next_packet.ensures.taken

pub returns-in-NoMemory-next_packet-clause-taken : goal.returns-in-NoMemory-next_packet-clause-taken
returns-in-NoMemory-next_packet-clause-taken g c = taken_more g.S.Source.reads g.met.S.Source.reads_more _ _ _ _ _ _
    c.records.invariant.taken c.in-NoMemory-next_packet.ensures.taken

pub returns-in-Refused-clause-shows : goal.returns-in-Refused-clause-shows
returns-in-Refused-clause-shows g c p h =
    let faulty = c.in-Refused.ensures.shows p h in
    (inl faulty, λ limit passes. header_passes_none _ _ limit faulty passes)

pub returns-in-Refused-next_packet-clause-shows : goal.returns-in-Refused-next_packet-clause-shows
returns-in-Refused-next_packet-clause-shows g c p h =
    let inv = c.records.invariant in
    let answer = c.in-Refused-next_packet.ensures in
    let before = g.met.S.Source.reads_before p _ _ _ h answer.taken.1 in
    let begins = begins_read _ _ _ _ _ _ inv.taken.unused_length inv.stands.each
    (g.met.S.Source.reads_shown p _ _ _ before inv.taken.taken) in
    refused_says _ _ _ _ inv.stands begins _ (answer.shows p h)

pub returns-in-TooLarge-clause-shows : goal.returns-in-TooLarge-clause-shows
returns-in-TooLarge-clause-shows g c p h =
    let inv = c.records.invariant in
    let answer = c.in-TooLarge.ensures in
    let before = g.met.S.Source.reads_before p _ _ _ h answer.taken.1 in
    let begins = begins_read _ _ _ _ _ _ inv.taken.unused_length inv.stands.each
    (g.met.S.Source.reads_shown p _ _ _ before inv.taken.taken) in
    too_large_says _ _ _ _ inv.stands begins _ (answer.shows p h)

pub returns-clause-shows : goal.returns-clause-shows
returns-clause-shows g c p h =
    let inv = c.records.invariant in
    let answer = c.in-End.ensures in
    let before = g.met.S.Source.reads_before p _ _ _ h answer.taken in
    let begins = begins_read _ _ _ _ _ _ inv.taken.unused_length inv.stands.each
    (g.met.S.Source.reads_shown p _ _ _ before inv.taken.taken) in
    let same : c.unit.result ≡ c.records.reader.unit =
    c.unit.ensures ∙ ap (λ (r : Reading). r.unit) answer.after in
    rw same (begun_capture _ _ _ _ inv.stands begins (answer.shows p h))

pub returns-clause-ends : goal.returns-clause-ends
returns-clause-ends g c p h =
    sym (g.met.S.Source.reads_shown p _ _ _ h c.in-End.ensures.taken) ∙ c.in-End.ensures.shows p h
