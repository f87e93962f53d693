use Rattle.std.proofs.Common.{true, w64}
use Rattle.std.proofs.lemmas.Nat.Bits.{bit_at_set_same, bit_at_set_other}
use Rattle.nat_tables.proofs.WordLemmas.{word_set}
use Rattle.nat_tables.proofs.port_word.with_bit.Goals as goal

pub returns : goal.returns
returns c =
    word_set c.args.word _ c.args.bit true c.requires (bit_at_set_same w64 c.args.word c.args.bit c.requires)
    (λ k less apart. bit_at_set_other w64 c.args.word c.args.bit c.requires k apart)
