use Rattle.replay_guide.proofs.TurnLemmas.{next_of_index, none_of_index}
use Rattle.replay_guide.proofs.guide.Guide.next_touch.Goals as goal

pub returns-clause-some : goal.returns-clause-some
returns-clause-some c = rw (← c.self.view_is) (next_of_index c.self.inside.lanes.items _ _ c.args.var c.args.places
    c.touch_after.result c.self.invariant c.touch_after.ensures)

pub returns-clause-none : goal.returns-clause-none
returns-clause-none c = rw (← c.self.view_is) (none_of_index c.self.inside.lanes.items _ _ c.args.var c.args.places
    c.touch_after.result c.self.invariant c.touch_after.ensures)
