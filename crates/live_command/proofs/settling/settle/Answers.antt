use Rattle.std.proofs.Common.{◌≡◌, ◌++◌, ap, sym, ◌∙◌, rules, Err, refl}
use Rattle.std.specs.Prelude.{⊤}
use Rattle.output_files.proofs.OnlyWriting.{OnlyWrites-failed, OnlyWrites-trans}
use Rattle.plan_script.specs.Orders.{no_orders}
use Rattle.plan_script.specs.Rounds.{arrival_events}
use Rattle.plan_script.specs.Scripts.{feeding}
use Rattle.recovery_world.specs.Many.{all_messages}
use Rattle.frame_intake.specs.Orders.{orders_of}
use Rattle.run_command.proofs.Going.{somewhere_same}
use Rattle.live_command.proofs.EventsGone.{if_same, lived_same, over_same, still_open}
use Rattle.live_command.proofs.SettlingsGone.{none_given, not_fed, not_run, settled}
use Rattle.live_command.proofs.settling.settle.Goals as goal

pub returns-in-Err-clause-told : goal.returns-in-Err-clause-told
returns-in-Err-clause-told g c p honest s names events w before apart is lived =
    not_fed ⊤ (g.P.Program.meaning c.args.standing.system.parts.program) s names (g.C.Clock.may c.args.clock.now) w
    c.args.standing.draws events before c.in-Err.error c.feed_rest.new.system c.feed_rest.new.lines
    c.feed_rest.new.lines c.feed_rest.new.script c.feed_rest.new.script _
    (c.in-Err.ensures.told p honest s names events w before apart is lived)

pub returns-in_err-ran-clause-told : goal.returns-in_err-ran-clause-told
returns-in_err-ran-clause-told g c p honest s names events w before apart is lived =
    let earlier = c.in_err-ran.ensures.before p honest in
    let m = g.P.Program.meaning c.args.standing.system.parts.program in
    let same = ap g.P.Program.meaning c.in_default.ensures.program in
    let may = g.C.Clock.may c.args.clock.now in
    let f = c.in_default.ensures.told p earlier s names events w before apart is lived in
    let e : c.from_residual.result ≡ Err c.in_err-ran.field-0.0 = search rules in
    rw e (not_run g.row.P.Denot m s names may w c.args.standing.draws events before f.0 f.1 f.2 f.3
    c.in_err-ran.field-0.0 c.race.new.lines c.race.new.lines c.race.new.script c.race.new.script _
    (c.in_err-ran.ensures.told p honest s names (events ++ feeding s w f.0) f.1 no_orders before
    (none_given (orders_of c.none-orders.result) c.none-orders.ensures.moves c.none-orders.ensures.frames
    c.none-orders.ensures.lost) apart (still_open names _ _ _ _ _ (c.in_default.ensures.keeps p earlier) is)
    (lived_same _ _ s names _ _ f.1 c.feed_rest.new.system c.feed_rest.new.lines c.feed_rest.new.script before _
    (sym same) refl f.5)))

pub returns-clause-told : goal.returns-clause-told
returns-clause-told g c p honest s names events w before apart is lived =
    let later = c.arrive_last.ensures.before p honest in
    let earlier = c.in_ok-ran.ensures.before p later in
    let m = g.P.Program.meaning c.args.standing.system.parts.program in
    let same = ap g.P.Program.meaning c.in_default.ensures.program in
    let ran = c.in_ok-ran.ran in
    let again = ap g.P.Program.meaning c.in_ok-ran.ensures.program in
    let may = g.C.Clock.may c.args.clock.now in
    let f = c.in_default.ensures.told p earlier s names events w before apart is lived in
    let here = still_open names _ _ _ _ _ (c.in_default.ensures.keeps p earlier) is in
    let r = c.in_ok-ran.ensures.told p later s names (events ++ feeding s w f.0) f.1 no_orders before
    (none_given (orders_of c.none-orders.result) c.none-orders.ensures.moves c.none-orders.ensures.frames
    c.none-orders.ensures.lost) apart here
    (lived_same _ _ s names _ _ f.1 c.feed_rest.new.system c.feed_rest.new.lines c.feed_rest.new.script before _
    (sym same) refl f.5) in
    settled m s names may w c.args.standing.draws events before f.0 f.1 f.2 f.3 c.arrive_last.result r.0 r.1 ran.system
    ran.draws c.arrive_last.new.lines c.arrive_last.new.script _ r.2 r.3 c.arrive_last.ensures.given
    (over_same c.arrive_last.result _ m s names r.1 ((events ++ feeding s w f.0) ++ r.0)
    (arrival_events (all_messages s r.1)) (arrival_events (all_messages s r.1)) _ c.arrive_last.new.lines
    c.arrive_last.new.script before _ (again ∙ same) refl
    (c.arrive_last.ensures.told p honest s names ((events ++ feeding s w f.0) ++ r.0) r.1 before apart
    (still_open names _ _ _ _ _ (c.in_ok-ran.ensures.keeps p later) here)
    (lived_same _ _ s names _ _ r.1 ran.system c.race.new.lines c.race.new.script before _ (sym again) refl r.4)))

pub race-requires-clause-somewhere : goal.race-requires-clause-somewhere
race-requires-clause-somewhere g c κs within =
    somewhere_same _ _ c.feed_rest.new.system (ap g.P.Program.meaning (sym c.in_default.ensures.program))
    c.in_default.ensures.somewhere

pub returns-in_err-ran-clause-only_writes : goal.returns-in_err-ran-clause-only_writes
returns-in_err-ran-clause-only_writes g c =
    OnlyWrites-trans _ _ _ _ _ c.in_default.ensures.only_writes c.in_err-ran.ensures.only_writes

pub arrive_last-requires-clause-somewhere : goal.arrive_last-requires-clause-somewhere
arrive_last-requires-clause-somewhere g c κs within =
    somewhere_same _ _ c.in_ok-ran.ran.system (ap g.P.Program.meaning (sym c.in_ok-ran.ensures.program))
    c.in_ok-ran.ensures.somewhere

pub returns-clause-somewhere : goal.returns-clause-somewhere
returns-clause-somewhere g c =
    if_same c.arrive_last.result _ _
    (ap g.P.Program.meaning (c.in_ok-ran.ensures.program ∙ c.in_default.ensures.program))
    c.arrive_last.ensures.somewhere

pub returns-clause-only_writes : goal.returns-clause-only_writes
returns-clause-only_writes g c =
    OnlyWrites-trans _ _ _ _ _ c.in_default.ensures.only_writes
    (OnlyWrites-trans _ _ _ _ _ c.in_ok-ran.ensures.only_writes c.arrive_last.ensures.only_writes)

pub returns-clause-cause : goal.returns-clause-cause
returns-clause-cause g c fault =
    OnlyWrites-failed _ _ _ _ _ c.in_default.ensures.only_writes
    (OnlyWrites-failed _ _ _ _ _ c.in_ok-ran.ensures.only_writes (c.arrive_last.ensures.cause fault))

pub returns-in_err-ran-clause-before : goal.returns-in_err-ran-clause-before
returns-in_err-ran-clause-before g c p honest = c.in_default.ensures.before p (c.in_err-ran.ensures.before p honest)

pub returns-in_err-ran-clause-keeps : goal.returns-in_err-ran-clause-keeps
returns-in_err-ran-clause-keeps g c p honest file name is =
    c.in_err-ran.ensures.keeps p honest file name
    (c.in_default.ensures.keeps p (c.in_err-ran.ensures.before p honest) file name is)

pub returns-clause-before : goal.returns-clause-before
returns-clause-before g c p honest =
    c.in_default.ensures.before p (c.in_ok-ran.ensures.before p (c.arrive_last.ensures.before p honest))

pub returns-clause-keeps : goal.returns-clause-keeps
returns-clause-keeps g c p honest file name is =
    let later = c.arrive_last.ensures.before p honest in
    let earlier = c.in_ok-ran.ensures.before p later in
    c.arrive_last.ensures.keeps p honest file name
    (c.in_ok-ran.ensures.keeps p later file name (c.in_default.ensures.keeps p earlier file name is))
