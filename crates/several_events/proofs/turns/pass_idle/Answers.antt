use Rattle.std.proofs.Common.{sym, subst}
use Rattle.several_events.specs.Ahead.{GoesOnAs}
use Rattle.several_events.proofs.turns.pass_idle.Goals as goal

pub returns-in-Steps-clause-passes : goal.returns-in-Steps-clause-passes
returns-in-Steps-clause-passes g c =
    subst (λ at. GoesOnAs (g.P.Program.meaning c.args.core.now.program) c.args.core.now at c.pass_turns.result)
    (sym c.in-Steps.is) c.pass_turns.ensures.passes

pub returns-in-Arrives-clause-passes : goal.returns-in-Arrives-clause-passes
returns-in-Arrives-clause-passes g c =
    subst (λ at. GoesOnAs (g.P.Program.meaning c.args.core.now.program) c.args.core.now at c.pass_repeats.result)
    (sym c.in-Arrives.is) c.pass_repeats.ensures.passes
