use Rattle.std.proofs.Common.{arith}
use Rattle.nat_tables.proofs.WordLemmas.{word_with, word_more}
use Rattle.nat_tables.proofs.port_word.put_into_word.Goals as goal

pub returns-clause-ports : goal.returns-clause-ports
returns-clause-ports c =
    let bit = c.from-bit.ensures in
    let low = c.requires.low in
    let high = c.requires.high in
    let parity = c.requires.parity in
    word_with c.args.word.now c.with_bit.result c.args.first c.from-bit.result c.args.port (omega arith) (omega arith)
    c.with_bit.ensures

pub returns-clause-count : goal.returns-clause-count
returns-clause-count c =
    let bit = c.from-bit.ensures in
    let high = c.requires.high in
    rw c.has_bit-missing.ensures
    (word_more c.args.word.now c.with_bit.result c.from-bit.result (omega arith) c.with_bit.ensures)
