use Rattle.box_program.specs.declared.lent.Lent.{Lent}
use Rattle.noted_runs.specs.Ends.{setting_with}
use Rattle.noted_runs.proofs.Ended.{new_at}
use Rattle.noted_runs.proofs.drill.running.run_box.Goals as goal

pub returns-clause-ended : goal.returns-clause-ended
returns-clause-ended g c =
    let s = setting_with (g.P.Program.meaning c.args.program.now) c.args.frame c.args.packets in
    c.run_events.ensures.ended s
    (new_at (λ (lent : Lent g.row.P.Denot). g.P.Program.meaning lent.program.now) _ s c.in_ok-system.system
    c.in_ok-system.ensures.program c.in_ok-system.ensures.stands c.in_ok-system.ensures.none) c.requires.short

pub returns-clause-halted : goal.returns-clause-halted
returns-clause-halted g c limit e =
    let s = setting_with (g.P.Program.meaning c.args.program.now) c.args.frame c.args.packets in
    c.run_events.ensures.halted s
    (new_at (λ (lent : Lent g.row.P.Denot). g.P.Program.meaning lent.program.now) _ s c.in_ok-system.system
    c.in_ok-system.ensures.program c.in_ok-system.ensures.stands c.in_ok-system.ensures.none) c.requires.short limit e
