use Rattle.std.proofs.Common.{arith}
use Rattle.nat_tables.proofs.WordLemmas.{word_sum}
use Rattle.nat_tables.proofs.port_word.count_in_word.Goals as goal

pub returns : goal.returns
returns c = word_sum c.args.word (omega arith)
