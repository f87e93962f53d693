use Rattle.std.proofs.Common.{subst}
use Rattle.plain_machine.specs.Program.{Meaning}
use Rattle.plain_machine.specs.History.{IsHistory}
use Rattle.plain_machine.proofs.Bounds.{values_fit, few_moves_in_all}
use Rattle.recovery_world.specs.World.{inputs_fed}
use Rattle.recovery_laws.proofs.replays_are_short.Goals as goal

pub returns-clause-moves : goal.returns-clause-moves
returns-clause-moves g c = λ inputs threads steps h.
    few_moves_in_all (g.P.Program.meaning c.args.program.now) (g.P.Program.fits c.args.program.now)
    (g.met.P.Program.lawful c.args.program.now) inputs threads steps h

pub returns-clause-values : goal.returns-clause-values
returns-clause-values g c = λ inputs threads steps v h low.
    values_fit (g.P.Program.meaning c.args.program.now) (g.P.Program.fits c.args.program.now)
    (g.met.P.Program.lawful c.args.program.now) inputs threads steps h v low

pub returns-clause-past : goal.returns-clause-past
returns-clause-past g c = λ s w same h.
    few_moves_in_all (g.P.Program.meaning c.args.program.now) (g.P.Program.fits c.args.program.now)
    (g.met.P.Program.lawful c.args.program.now) (inputs_fed s w.fed) s.threads w.past
    (subst (λ (m : Meaning _). IsHistory m (inputs_fed s w.fed) s.threads w.past) same h.firm.legal)
