use Rattle.std.proofs.Common.{◌≡◌, length, refl, ap, ◌∙◌, arith}
use Rattle.std.proofs.lemmas.List.{take_rest}
use Rattle.pcap_io.specs.Capture.{number}
use Rattle.pcap_io.proofs.Bodies.{cut_body, short_body}
use Rattle.pcap_io.proofs.Records.{spelled_record}
use Rattle.pcap_io.proofs.record.Place.read_body.Goals as goal

pub returns-clause-taken : goal.returns-clause-taken
returns-clause-taken g c =
    let taken = c.in-Ok.ensures.reads in
    let size : length taken.0 ≡ c.read_u32-captured.result =
    omega (arith, ap length taken.2, c.in-Ok.ensures.within) in (
      taken.0,
      taken.1,
      spelled_record c.args.self.order c.args.head.now _ _ _ _ _ _ c.requires.head
          (λ i. omega (arith, c.type_inv.head i)) c.read_u32.ensures c.read_u32-2.ensures c.read_u32-captured.ensures
          c.read_u32-3.ensures size taken.2,
    )

pub returns-then-len-self-clause-shows : goal.returns-then-len-self-clause-shows
returns-then-len-self-clause-shows g c p h =
    let read = c.in-Ok.ensures.reads in
    let left = g.met.S.Source.reads_shown p _ _ _ h read.1 in
    let size = ap length read.2 in
    let says = c.read_u32-captured.ensures ∙ ap (number c.args.self.order 4) (take_rest c.args.head.now 8) in (
      cut_body c.args.self.order c.args.head.now c.requires.head (omega (arith, says)) c.args.self.room read.0 _ _
          c.requires.room (omega (arith, says, c.in-Ok.ensures.within)) (omega (arith, c.len.ensures)) left,
      refl,
    )

pub returns-then-len-captured-clause-shows : goal.returns-then-len-captured-clause-shows
returns-then-len-captured-clause-shows g c p h =
    let read = c.in-Ok.ensures.reads in
    let left = g.met.S.Source.reads_shown p _ _ _ h read.1 in
    let size = ap length read.2 in
    let says = c.read_u32-captured.ensures ∙ ap (number c.args.self.order 4) (take_rest c.args.head.now 8) in
    short_body c.args.self.order c.args.head.now c.requires.head (omega (arith, says)) c.args.self.offset
    c.args.self.room c.args.self.limit read.0 _ _ _ (omega (arith, c.len.ensures)) (omega (arith, c.len-2.ensures))
    (c.in-Ok.ensures.runs_out p h (omega (arith, c.len-2.ensures))) left c.refused-then-len-captured.ensures
