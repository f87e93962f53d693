use Rattle.std.proofs.Common.{sym, ◌∙◌, arith}
use Rattle.pcap_io.proofs.Headers.{spelled_header}
use Rattle.pcap_io.proofs.header.read_header.Goals as goal

pub returns-in-None : goal.returns-in-None
returns-in-None c =
    spelled_header c.in-Some.order c.in-Some.unit c.args.head.now c.requires (λ i. omega (arith, c.type_inv.head i))
    c.in-Some.ensures.magic (sym c.later_fault.ensures ∙ c.in-None.is)
