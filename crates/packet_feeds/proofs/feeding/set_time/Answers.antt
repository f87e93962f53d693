use Rattle.packet_feeds.proofs.FeedLemmas.{time_moves_from}
use Rattle.packet_feeds.proofs.feeding.set_time.Goals as goal

pub returns : goal.returns
returns g c = time_moves_from (g.P.Program.meaning c.args.core.now.program) c.args.time c.core.view_is
