use Rattle.std.proofs.Common.{◌≡◌, ◌<◌, ap, sym, ◌∙◌, arith, rules, length, take, Err, Ok, refl}
use Rattle.output_files.proofs.OnlyWriting.{OnlyWrites-same, OnlyWrites-trans}
use Rattle.frame_intake.specs.Orders.{orders_of}
use Rattle.plan_script.specs.Orders.{no_orders}
use Rattle.plan_script.specs.Scripts.{orders_through}
use Rattle.run_command.proofs.Going.{somewhere_same}
use Rattle.live_command.proofs.EventsGone.{lived_same, still_open}
use Rattle.live_command.proofs.LinesGone.{line_same, same_line, so_far_all, so_far_fails, so_far_next}
use Rattle.live_command.proofs.LinesGone.{so_far_none}
use Rattle.live_command.proofs.SettlingsGone.{none_given}
use Rattle.live_command.proofs.lines.perform_plan.Goals as goal

pub perform_line-requires-clause-somewhere : goal.perform_line-requires-clause-somewhere
perform_line-requires-clause-somewhere g c κs within =
    somewhere_same _ _ c.loop-line.reached.system (ap g.P.Program.meaning (sym c.loop-line.invariant.program))
    c.loop-line.invariant.somewhere

pub loop-line-init : goal.loop-line-init
loop-line-init g c = record {
  runs = c.requires.runs;
  program = refl;
  threads = refl;
  draws = c.requires.draws;
  somewhere = c.requires.somewhere;
  few = c.requires.few;
  short = c.requires.short;
  only_writes = OnlyWrites-same _ _ _;
  before = λ p honest. honest;
  keeps = λ p honest file name is. is;
  told = λ p honest s names before draws apart is lived.
      so_far_none _ s names (g.C.Clock.may c.args.clock.now) (orders_of c.none-orders.result) c.args.standing
      c.args.lines.now c.args.script.now before _ draws
      (none_given (orders_of c.none-orders.result) c.none-orders.ensures.moves c.none-orders.ensures.frames
      c.none-orders.ensures.lost) lived;
}

pub loop-line-preserved : goal.loop-line-preserved
loop-line-preserved g c =
    let inv = c.loop-line.invariant in
    let i = c.loop-line.line-index in
    let plan = c.args.plan.now in
    let low : i < length plan = omega arith in
    let same = ap g.P.Program.meaning inv.program in
    let m = g.P.Program.meaning c.args.standing.system.parts.program in
    let may = g.C.Clock.may c.args.clock.now in
    let z = c.loop-line.reached in
    let y = c.in_ok-reached.reached in
    record {
      runs = c.in_ok-reached.ensures.runs;
      program = c.in_ok-reached.ensures.program ∙ inv.program;
      threads = c.in_ok-reached.ensures.threads ∙ inv.threads;
      draws = c.in_ok-reached.ensures.draws;
      somewhere = somewhere_same _ _ y.system same c.in_ok-reached.ensures.somewhere;
      few = c.in_ok-reached.ensures.few;
      short = c.in_ok-reached.ensures.short;
      only_writes = OnlyWrites-trans _ _ _ _ _ inv.only_writes c.in_ok-reached.ensures.only_writes;
      before = λ p honest. inv.before p (c.in_ok-reached.ensures.before p honest);
      keeps = λ p honest file name is.
          c.in_ok-reached.ensures.keeps p honest file name
          (inv.keeps p (c.in_ok-reached.ensures.before p honest) file name is);
      told = λ p honest s names before draws apart is lived.
          let earlier = c.in_ok-reached.ensures.before p honest in
          let far = inv.told p earlier s names before draws apart is lived in
          let asked = orders_through (take i plan) no_orders in
          so_far_next m s names may plan i _ low (same_line plan i _ low) (orders_of c.loop-line.orders) z
          c.loop-line.lines c.loop-line.script before _ far y (orders_of c.perform_line.new.orders)
          c.perform_line.new.lines c.perform_line.new.script _
          (line_same (Ok y) _ m s names may far.world asked _ z.draws far.events
          (orders_of c.perform_line.new.orders) c.perform_line.new.lines c.perform_line.new.script before _ same
          (c.in_ok-reached.ensures.told p honest s names far.events far.world asked before far.same apart
          (still_open names _ _ _ _ _ (inv.keeps p earlier) is)
          (lived_same _ _ s names _ _ far.world z.system c.loop-line.lines c.loop-line.script before _ (sym same) refl
          far.lived)));
    }

pub returns-in_err-reached-clause-told : goal.returns-in_err-reached-clause-told
returns-in_err-reached-clause-told g c p honest s names before draws apart is lived =
    let inv = c.loop-line.invariant in
    let i = c.loop-line.line-index in
    let plan = c.args.plan.now in
    let low : i < length plan = omega arith in
    let same = ap g.P.Program.meaning inv.program in
    let m = g.P.Program.meaning c.args.standing.system.parts.program in
    let may = g.C.Clock.may c.args.clock.now in
    let z = c.loop-line.reached in
    let earlier = c.in_err-reached.ensures.before p honest in
    let far = inv.told p earlier s names before draws apart is lived in
    let asked = orders_through (take i plan) no_orders in
    let made : c.from_residual.result ≡ Err c.in_err-reached.field-0.0 = search rules in
    rw made (so_far_fails m s names may plan i _ low (same_line plan i _ low) (orders_of c.loop-line.orders) z
    c.loop-line.lines c.loop-line.script before _ far c.in_err-reached.field-0.0 (orders_of c.perform_line.new.orders)
    c.perform_line.new.lines c.perform_line.new.lines c.perform_line.new.script c.perform_line.new.script _
    (line_same {P = g.row.P.Denot} (Err c.in_err-reached.field-0.0) _ m s names may far.world asked _ z.draws far.events
    (orders_of c.perform_line.new.orders) c.perform_line.new.lines c.perform_line.new.script before _ same
    (c.in_err-reached.ensures.told p honest s names far.events far.world asked before far.same apart
    (still_open names _ _ _ _ _ (inv.keeps p earlier) is)
    (lived_same _ _ s names _ _ far.world z.system c.loop-line.lines c.loop-line.script before _ (sym same) refl
    far.lived))))

pub returns-clause-told : goal.returns-clause-told
returns-clause-told g c p honest s names before draws apart is lived =
    so_far_all _ s names (g.C.Clock.may c.args.clock.now) c.args.plan.now c.loop-line.line-index
    (orders_of c.loop-line.orders) c.loop-line.reached c.loop-line.lines c.loop-line.script before _ (omega arith)
    (c.loop-line.invariant.told p honest s names before draws apart is lived)

pub returns-in_err-reached-clause-only_writes : goal.returns-in_err-reached-clause-only_writes
returns-in_err-reached-clause-only_writes g c =
    OnlyWrites-trans _ _ _ _ _ c.loop-line.invariant.only_writes c.in_err-reached.ensures.only_writes
