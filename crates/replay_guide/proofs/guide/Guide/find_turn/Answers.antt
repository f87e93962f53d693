use Rattle.replay_guide.proofs.TurnLemmas.{free_past}
use Rattle.replay_guide.proofs.guide.Guide.find_turn.Goals as goal

pub returns-then-is_past : goal.returns-then-is_past
returns-then-is_past c =
    let a = c.args in
    rw (← c.self.view_is) (free_past c.self.inside.lanes.items _ _ a.thread a.number a.var a.read a.places a.readers.now
    c.self.invariant (c.is_past.ensures.touches c.if-is_past.true) (c.is_past.ensures.reads c.if-is_past.true))
