use Rattle.access_log.specs.declared.entry.Turn.TheVariants.{Follow, Free, Wait}
use Rattle.replay_guide.proofs.TurnLemmas.{PlacesApart, turn_is}
use Rattle.replay_guide.proofs.guide.Guide.turn.Goals as goal

pub returns-clause-wait : goal.returns-clause-wait
returns-clause-wait c =
    let a = c.args in
    let apart : PlacesApart a.self.now = rw (← c.self.view_is) c.self.invariant.apart in
    λ u m. turn_is a.self.now a.thread a.number a.var a.read a.places a.readers.now apart c.find_turn.result (Wait u m)
    c.find_turn.ensures

pub returns-clause-follow : goal.returns-clause-follow
returns-clause-follow c =
    let a = c.args in
    let apart : PlacesApart a.self.now = rw (← c.self.view_is) c.self.invariant.apart in
    turn_is a.self.now a.thread a.number a.var a.read a.places a.readers.now apart c.find_turn.result Follow
    c.find_turn.ensures

pub returns-clause-free : goal.returns-clause-free
returns-clause-free c =
    let a = c.args in
    let apart : PlacesApart a.self.now = rw (← c.self.view_is) c.self.invariant.apart in
    turn_is a.self.now a.thread a.number a.var a.read a.places a.readers.now apart c.find_turn.result Free
    c.find_turn.ensures
