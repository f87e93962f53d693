use Rattle.std.proofs.Common.{◌∙◌, rules}
use Rattle.pcap_io.proofs.Headers.{header_fault-taken, header_fault-whole}
use Rattle.pcap_io.proofs.reader.Reader.start.Goals as goal

pub returns-in-Ok-clause-shows : goal.returns-in-Ok-clause-shows
returns-in-Ok-clause-shows g c p h =
    let left = g.met.S.Source.reads_shown p _ _ _ h c.in-Some.ensures.taken in
    let header = c.in-Ok.ensures in
    header_fault-whole c.in-Some.had _ _ _ c.fill_piece.auto.piece c.if-had-lt-FILE_HEADER.false left _ _ _
    header.1 header.2

pub returns-in-Err-clause-shows : goal.returns-in-Err-clause-shows
returns-in-Err-clause-shows g c p h =
    let left = g.met.S.Source.reads_shown p _ _ _ h c.in-Some.ensures.taken in
    header_fault-taken c.in-Some.had _ _ _ c.fill_piece.auto.piece c.if-had-lt-FILE_HEADER.false left ∙ c.in-Err.ensures

pub returns-then-had-lt-FILE_HEADER-clause-shows : goal.returns-then-had-lt-FILE_HEADER-clause-shows
returns-then-had-lt-FILE_HEADER-clause-shows g c p h =
    let left = g.met.S.Source.reads_shown p _ _ _ h c.in-Some.ensures.taken in
    let short = c.in-Some.ensures.runs_out p h in
    search (rules, left, short)
