use Rattle.replay_guide.proofs.TurnLemmas.{first_of_index, nothing_in_index}
use Rattle.replay_guide.proofs.guide.Guide.first_pending.Goals as goal

pub returns-clause-some : goal.returns-clause-some
returns-clause-some c =
    let a = c.args in
    let e = c.first_read_past.ensures in
    rw (← c.self.view_is) (first_of_index c.self.inside.lanes.items _ _ a.var a.places a.read a.readers.now
    c.first_read_past.result c.self.invariant c.if-read.false e.above e.there e.first)

pub returns-clause-none : goal.returns-clause-none
returns-clause-none c =
    let a = c.args in
    rw (← c.self.view_is) (nothing_in_index c.self.inside.lanes.items _ _ a.var a.places a.read a.readers.now
    c.first_read_past.result c.self.invariant c.first_read_past.ensures.none)
