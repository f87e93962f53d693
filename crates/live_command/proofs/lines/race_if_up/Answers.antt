use Rattle.std.proofs.Common.{sym, ◌∙◌, refl}
use Rattle.live_command.proofs.LinesGone.{round_down, round_up}
use Rattle.live_command.proofs.lines.race_if_up.Goals as goal

pub returns-then-not-up-clause-told : goal.returns-then-not-up-clause-told
returns-then-not-up-clause-told g c p honest s names events w asked before same apart is lived =
    round_down _ s names (g.C.Clock.may c.args.clock.now) w asked c.args.standing.draws events asked c.args.lines.now
    c.args.script.now before _ c.args.standing
    (sym (c.up.ensures c.requires.runs s w lived.at.stands.parts) ∙ c.if-not-up.true) refl lived

pub returns-clause-told : goal.returns-clause-told
returns-clause-told g c p honest s names events w asked before same apart is lived =
    round_up _ s names (g.C.Clock.may c.args.clock.now) w asked c.args.standing.draws events asked c.race.new.lines
    c.race.new.script before _ c.race.result
    (sym (c.up.ensures c.requires.runs s w lived.at.stands.parts) ∙ c.if-not-up.false)
    (c.race.ensures.told p honest s names events w asked before same apart is lived)
