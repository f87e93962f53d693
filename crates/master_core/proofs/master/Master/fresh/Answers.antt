use Rattle.std.proofs.Common.{rules}
use Rattle.master_core.proofs.FreshLemmas.{fresh_stands}
use Rattle.master_core.proofs.master.Master.fresh.Goals as goal

pub returns-clause-stands : goal.returns-clause-stands
returns-clause-stands g c = fresh_stands (g.P.Program.meaning c.args.program.now) c.args.threads c.in_ok-vars.vars.items
    c.in_ok-threads.threads.items c.in_ok-vars.ensures (search rules)
