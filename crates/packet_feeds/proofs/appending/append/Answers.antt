use Rattle.packet_feeds.proofs.AppendLemmas.{stands_longer}
use Rattle.packet_feeds.proofs.appending.append.Goals as goal

pub returns-clause-stands : goal.returns-clause-stands
returns-clause-stands g c =
    stands_longer (g.P.Program.meaning c.args.core.now.program) c.args.packet c.core.view_is
    c.in_ok-push_back.ensures.items
