use Rattle.std.proofs.Common.{arith}
use Rattle.nat_tables.specs.Ports.{one_if}
use Rattle.nat_tables.specs.Placing.{word_bits}
use Rattle.nat_tables.proofs.PlaceLemmas.{walked}
use Rattle.nat_tables.proofs.WordLemmas.{word_long}
use Rattle.nat_tables.proofs.port_word.find_bit.Goals as goal

pub returns : goal.returns
returns c =
    absurd (walked one_if (word_bits c.args.word) c.args.at c.loop-bit.bit c.loop-bit.left
    (let long = word_long c.args.word in omega arith) c.loop-bit.invariant c.requires)
