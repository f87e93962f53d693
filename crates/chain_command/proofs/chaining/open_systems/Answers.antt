use Rattle.std.proofs.Common.{[]}
use Rattle.chain_command.specs.Outputs.{setting_with}
use Rattle.chain_command.proofs.WholeChain.{going_opened, opens_at}
use Rattle.chain_command.proofs.chaining.open_systems.Goals as goal

pub new-requires-in-Ok-clause-going : goal.new-requires-in-Ok-clause-going
new-requires-in-Ok-clause-going g c κs within =
    going_opened g.P.Program.meaning g.Q.Program.meaning c.args.first c.args.second _ _ c.in_ok-first.first
    c.in-Ok.second c.in_ok-first.ensures.stands c.in-Ok.ensures.stands c.new-none.ensures c.requires.short
    c.in_ok-first.ensures.program c.in-Ok.ensures.program c.in_ok-first.ensures.runs c.in-Ok.ensures.runs

pub returns-in-Ok-clause-at : goal.returns-in-Ok-clause-at
returns-in-Ok-clause-at g c =
    opens_at g.P.Program.meaning g.Q.Program.meaning c.args.first c.args.second
    (setting_with (g.P.Program.meaning c.args.first) c.args.shapes.0 c.args.unit c.args.packets)
    (setting_with (g.Q.Program.meaning c.args.second) c.args.shapes.1 c.args.unit []) c.new-none.result
    c.in_ok-first.first c.in-Ok.second _ c.in_ok-first.ensures.stands c.in-Ok.ensures.stands c.new-none.ensures
    c.in_ok-first.ensures.program c.in-Ok.ensures.program c.in_ok-first.ensures.none c.in-Ok.ensures.none
    c.new-in-Ok.ensures.first c.new-in-Ok.ensures.second
