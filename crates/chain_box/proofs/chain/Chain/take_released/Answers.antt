use Rattle.chain_box.proofs.TakenLemmas.{Takes, taken_stand, taken_going}
use Rattle.chain_box.proofs.chain.Chain.take_released.Goals as goal

one : (g : _) (c : goal.After-take_released-2 g)
    → Takes g.P.Program.meaning c.self.inside.first c.take_released.new.self
one g c = record {
  stands = c.take_released.ensures.stands;
  program = c.take_released.ensures.program;
  stopped = c.take_released.ensures.stopped;
}

two : (g : _) (c : goal.After-take_released-2 g)
    → Takes g.Q.Program.meaning c.self.inside.second c.take_released-2.new.self
two g c = record {
  stands = c.take_released-2.ensures.stands;
  program = c.take_released-2.ensures.program;
  stopped = c.take_released-2.ensures.stopped;
}

pub invariant_of-self : goal.invariant_of-self
invariant_of-self g c = λ runs.
    taken_going g.P.Program.meaning g.Q.Program.meaning c.self.inside.first c.take_released.new.self
    c.self.inside.second c.take_released-2.new.self (one g c) (two g c) (c.self.invariant runs)

pub returns-clause-stands : goal.returns-clause-stands
returns-clause-stands g c =
    taken_stand g.P.Program.meaning g.Q.Program.meaning c.take_released.new.self c.take_released-2.new.self
    c.self.view_is (one g c) (two g c)
