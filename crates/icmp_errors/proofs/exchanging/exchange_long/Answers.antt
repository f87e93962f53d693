use Rattle.icmp_errors.proofs.Composed.{long_composed}
use Rattle.icmp_errors.proofs.exchanging.exchange_long.Goals as goal

pub returns : goal.returns
returns c =
    long_composed c.args.frame.now c.exchange_word.new.frame c.exchange_word-2.new.frame c.args.checksum c.args.place
    c.args.number c.exchange_word.ensures c.exchange_word-2.ensures
