use Rattle.std.proofs.Common.{false, w64}
use Rattle.std.proofs.lemmas.Nat.Bits.{bit_at_clear_same, bit_at_clear_other}
use Rattle.nat_tables.proofs.WordLemmas.{word_set}
use Rattle.nat_tables.proofs.port_word.without_bit.Goals as goal

pub returns : goal.returns
returns c =
    word_set c.args.word _ c.args.bit false c.requires (bit_at_clear_same w64 c.args.word c.args.bit c.requires)
    (λ k less apart. bit_at_clear_other w64 c.args.word c.args.bit c.requires k less apart)
