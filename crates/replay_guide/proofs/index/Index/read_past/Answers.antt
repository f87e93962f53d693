use Rattle.std.proofs.Common.{Option, None, Some, IfNone}
use Rattle.replay_guide.proofs.Keys.{none_of_range, first_of_range}
use Rattle.replay_guide.proofs.index.Index.read_past.Goals as goal

if_none : {X : Type 0} (o : Option X) (P : Type 0) → P → IfNone o P
if_none None P p = p
if_none (Some x) P p = tt

pub returns-in_err-found-clause-none : goal.returns-in_err-found-clause-none
returns-in_err-found-clause-none c =
    let a = c.args in
    if_none c.from_residual.result _ (none_of_range a.self.now.reads a.var a.places a.thread a.number c.range.result
    (c.range.ensures.in_range tt) c.in_err-found.ensures.steps.0)

pub returns-clause-there : goal.returns-clause-there
returns-clause-there c =
    let a = c.args in
    (first_of_range a.self.now.reads a.var a.places a.thread a.number c.range.result c.next.new.self
    c.in_ok-found.field-0.now (c.range.ensures.in_range tt) c.in_ok-found.ensures.steps).0

pub returns-clause-least : goal.returns-clause-least
returns-clause-least c =
    let a = c.args in
    (first_of_range a.self.now.reads a.var a.places a.thread a.number c.range.result c.next.new.self
    c.in_ok-found.field-0.now (c.range.ensures.in_range tt) c.in_ok-found.ensures.steps).1
