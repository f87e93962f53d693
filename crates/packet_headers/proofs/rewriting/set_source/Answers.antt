use Rattle.packet_headers.proofs.Laws.{source_keeps}
use Rattle.packet_headers.proofs.Views.{source_seen, source_again}
use Rattle.packet_headers.proofs.rewriting.set_source.Goals as goal

pub returns-clause-header : goal.returns-clause-header
returns-clause-header c =
    rw c.rewrite.ensures.value
    (source_keeps c.args.frame.now c.args.flow.now c.args.address c.args.port c.rewrite.ensures.bytes c.requires).0

pub returns-clause-transport : goal.returns-clause-transport
returns-clause-transport c =
    rw c.rewrite.ensures.value
    (source_keeps c.args.frame.now c.args.flow.now c.args.address c.args.port c.rewrite.ensures.bytes c.requires).1

pub returns-clause-seen : goal.returns-clause-seen
returns-clause-seen c =
    rw c.rewrite.ensures.value (source_seen c.args.frame.now c.args.flow.now c.args.address c.args.port c.requires)

pub returns-clause-again : goal.returns-clause-again
returns-clause-again c =
    rw c.rewrite.ensures.value (source_again c.args.frame.now c.args.flow.now c.args.address c.args.port c.requires)
