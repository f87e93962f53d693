use Rattle.several_events.proofs.MessageLists.{counted}
use Rattle.several_events.proofs.messages.count_of.Goals as goal

pub returns-in-Log : goal.returns-in-Log
returns-in-Log g c = λ s w st. (counted (g.P.Program.meaning c.args.core.now.program) c.args.thread
    c.counts-counts.result c.args.kind c.core.view_is c.requires c.counts-counts.ensures s w st).0 c.in-Log.is

pub returns-in-Out : goal.returns-in-Out
returns-in-Out g c = λ s w st. (counted (g.P.Program.meaning c.args.core.now.program) c.args.thread
    c.counts-counts.result c.args.kind c.core.view_is c.requires c.counts-counts.ensures s w st).1 c.in-Out.is
