use Rattle.std.proofs.Common.{refl, subst, sym, ◌∙◌}
use Rattle.frame_intake.specs.Orders.{InMemory, orders_of}
use Rattle.plan_script.specs.declared.plan.PlanLine.TheVariants as line
use Rattle.plan_script.specs.Orders.{no_orders}
use Rattle.live_command.specs.Going.{SameOrders}
use Rattle.live_command.proofs.LinesGone.{if_given, line_lose, line_none, line_round, line_settle, line_single}
use Rattle.live_command.proofs.LinesGone.{same_limit, same_take}
use Rattle.live_command.proofs.SettlingsGone.{none_given}
use Rattle.live_command.proofs.lines.perform_line.Goals as goal

pub returns-in-Limit-clause-told : goal.returns-in-Limit-clause-told
returns-in-Limit-clause-told g c p honest s names events w asked before same apart is lived =
    rw c.in-Limit.is (line_none _ s names (g.C.Clock.may c.args.clock.now) w asked c.args.standing.draws events
    (orders_of c.limit.new.self) c.args.lines.now c.args.script.now before _ c.args.standing (line.Limit
    c.in-Limit.thread c.in-Limit.moves) ((refl, refl), refl) (same_limit asked (orders_of c.args.orders.now)
    (orders_of c.limit.new.self) c.in-Limit.thread c.in-Limit.moves same c.limit.ensures.moves c.limit.ensures.frames
    c.limit.ensures.lost) lived)

pub returns-in-Take-clause-told : goal.returns-in-Take-clause-told
returns-in-Take-clause-told g c p honest s names events w asked before same apart is lived =
    rw c.in-Take.is (line_none _ s names (g.C.Clock.may c.args.clock.now) w asked c.args.standing.draws events
    (orders_of c.take.new.self) c.args.lines.now c.args.script.now before _ c.args.standing
    (line.Take c.in-Take.thread c.in-Take.frames) ((refl, refl), refl)
    (same_take asked (orders_of c.args.orders.now) (orders_of c.take.new.self) c.in-Take.thread c.in-Take.frames same
    c.take.ensures.frames c.take.ensures.moves c.take.ensures.lost) lived)

pub returns-in-Lose-clause-told : goal.returns-in-Lose-clause-told
returns-in-Lose-clause-told g c p honest s names events w asked before same apart is lived =
    rw c.in-Lose.is (line_lose _ s names (g.C.Clock.may c.args.clock.now) w asked c.args.standing.draws events
    (orders_of c.lose.new.orders) c.args.lines.now c.args.script.now before _ c.lose.result
    (record { kind = c.in-Lose.kind; thread = c.in-Lose.thread; number = c.in-Lose.number })
    (orders_of c.args.orders.now) c.args.standing c.lose.ensures.same c.lose.ensures.no_memory c.lose.ensures.lost
    c.lose.ensures.moves c.lose.ensures.frames same refl lived)

pub returns-in-Lose-clause-somewhere : goal.returns-in-Lose-clause-somewhere
returns-in-Lose-clause-somewhere g c =
    if_given c.lose.result c.args.standing _ c.lose.ensures.same c.requires.somewhere

pub returns-in-Round-clause-told : goal.returns-in-Round-clause-told
returns-in-Round-clause-told g c p honest s names events w asked before same apart is lived =
    rw c.in-Round.is (line_round _ s names (g.C.Clock.may c.args.clock.now) w asked c.args.standing.draws events
    (orders_of c.replace-asked.new.dest) c.race_if_up.new.lines c.race_if_up.new.script before _ c.race_if_up.result
    (subst (λ (o : InMemory). SameOrders no_orders (orders_of o)) (sym c.replace-asked.ensures.after) (none_given
    (orders_of c.none.result) c.none.ensures.moves c.none.ensures.frames c.none.ensures.lost))
    (c.race_if_up.ensures.told p honest s names events w asked before (subst (λ (o : InMemory). SameOrders asked
    (orders_of o)) (sym c.replace-asked.ensures.value) same) apart is lived))

pub returns-in-Settle-clause-told : goal.returns-in-Settle-clause-told
returns-in-Settle-clause-told g c p honest s names events w asked before same apart is lived =
    rw c.in-Settle.is (line_settle _ s names (g.C.Clock.may c.args.clock.now) w asked c.args.standing.draws events
    (orders_of c.none-in-Settle.result) c.settle.new.lines c.settle.new.script before _ c.settle.result
    (none_given (orders_of c.none-in-Settle.result) c.none-in-Settle.ensures.moves c.none-in-Settle.ensures.frames
    c.none-in-Settle.ensures.lost) (c.settle.ensures.told p honest s names events w before apart is lived))

pub returns-in-Some-clause-told : goal.returns-in-Some-clause-told
returns-in-Some-clause-told g c p honest s names events w asked before same apart is lived =
    line_single _ s names (g.C.Clock.may c.args.clock.now) w asked c.args.standing.draws events
    (orders_of c.args.orders.now) c.tell_one.new.lines c.tell_one.new.script before _ c.tell_one.result c.args.line
    c.in-Some.event c.args.standing.system (sym c.event_of.ensures ∙ c.in-Some.is) same c.tell_one.ensures.given
    (c.tell_one.ensures.told p honest s names events w before apart is lived)
