use Rattle.std.proofs.Common.{◌∙◌, sym, ap, nat_eq}
use Rattle.std.proofs.lemmas.Nat.Bits.{shr_and_one}
use Rattle.nat_tables.proofs.WordLemmas.{word_bit}
use Rattle.nat_tables.proofs.port_word.has_bit.Goals as goal

pub returns : goal.returns
returns c =
    ap (λ bit. nat_eq bit 1) (shr_and_one c.args.word c.args.bit) ∙ sym (word_bit c.args.word c.args.bit c.requires)
