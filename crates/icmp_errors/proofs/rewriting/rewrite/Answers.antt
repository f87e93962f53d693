use Rattle.icmp_errors.proofs.Composed.{composed}
use Rattle.icmp_errors.proofs.rewriting.rewrite.Goals as goal

pub returns-clause-value : goal.returns-clause-value
returns-clause-value c =
    composed c.args.frame.now c.exchange_long.new.frame c.adjust_transport.new.frame c.exchange_word.new.frame
    c.rewrite_header.new.frame c.args.error.now c.args.places.now.outer c.args.places.now.quoted c.args.places.now.port
    c.long_at-old_address.result c.args.address c.args.port c.long_at-old_address.ensures.value c.exchange_long.ensures
    c.adjust_transport.ensures c.exchange_word.ensures c.rewrite_header.ensures
