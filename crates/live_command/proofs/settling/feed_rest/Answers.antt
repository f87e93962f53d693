use Rattle.std.proofs.Common.{◌≡◌, ◌++◌, ◌∷◌, [], ap, sym, ◌∙◌, rules, Err, refl}
use Rattle.std.specs.Prelude.{⊤}
use Rattle.output_files.proofs.OnlyWriting.{OnlyWrites-failed, OnlyWrites-trans}
use Rattle.recovery_world.specs.declared.event.Event.TheVariants as event
use Rattle.run_command.proofs.Going.{somewhere_same}
use Rattle.live_command.proofs.EventsGone.{lived_same, on_same, over_same, still_open}
use Rattle.live_command.proofs.Feeding.{fed_awake, fed_woken, not_woken, ok_up_fed, up_woken}
use Rattle.live_command.proofs.settling.feed_rest.Goals as goal

pub returns-then-up-clause-told : goal.returns-then-up-clause-told
returns-then-up-clause-told g c p honest s names events w before apart is lived =
    let stands = lived.at.stands.parts in
    fed_awake _ s names w events before c.tell.result c.left-left.result c.tell.new.system c.tell.new.lines
    c.tell.new.script _ (c.left-left.ensures s w stands) (sym (c.up.ensures c.requires.runs s w stands) ∙ c.if-up.true)
    (c.tell.ensures.told p honest s names events w before apart is lived)

pub returns-then-up-clause-up : goal.returns-then-up-clause-up
returns-then-up-clause-up g c =
    let here = c.requires.somewhere in
    let stands = here.2.stands.parts in
    ok_up_fed c.tell.result _ c.args.system.now c.tell.new.system c.left-left.result c.tell.ensures.moves here
    (stands.master.up ∙ sym (c.up.ensures c.requires.runs here.0 here.1 stands) ∙ c.if-up.true)

pub returns-in_err-tell-clause-told : goal.returns-in_err-tell-clause-told
returns-in_err-tell-clause-told g c p honest s names events w before apart is lived =
    let stands = lived.at.stands.parts in
    let m = g.P.Program.meaning c.args.system.now.parts.program in
    let e : c.from_residual.result ≡ Err c.in_err-tell.field-0.0 = search rules in
    rw e (not_woken ⊤ ⊤ m s names w events before c.in_err-tell.field-0.0 c.tell-2.new.system c.tell-2.new.lines
    c.tell-2.new.script _ (sym (c.up.ensures c.requires.runs s w stands) ∙ c.if-up.false)
    (c.in_err-tell.ensures.told p honest s names events w before apart is lived))

pub tell-requires-3-clause-somewhere : goal.tell-requires-3-clause-somewhere
tell-requires-3-clause-somewhere g c κs within =
    somewhere_same _ _ c.tell-2.new.system (ap g.P.Program.meaning (sym c.in_ok-tell.ensures.program))
    c.in_ok-tell.ensures.somewhere

pub returns-clause-told : goal.returns-clause-told
returns-clause-told g c p honest s names events w before apart is lived =
    let earlier = c.tell-3.ensures.before p honest in
    let stands = lived.at.stands.parts in
    let same = ap g.P.Program.meaning c.in_ok-tell.ensures.program in
    let m = g.P.Program.meaning c.args.system.now.parts.program in
    let woken = c.in_ok-tell.ensures.told p earlier s names events w before apart is lived in
    fed_woken m s names w events before c.tell-3.result c.left-left.result woken.0 c.tell-3.new.system
    c.tell-3.new.lines c.tell-3.new.script _ (c.left-left.ensures s w stands)
    (sym (c.up.ensures c.requires.runs s w stands) ∙ c.if-up.false) woken.1
    (over_same c.tell-3.result _ m s names woken.0 (events ++ event.Recover ∷ []) _ _ c.tell-3.new.system
    c.tell-3.new.lines c.tell-3.new.script before _ same refl
    (c.tell-3.ensures.told p honest s names (events ++ event.Recover ∷ []) woken.0 before apart
    (still_open names _ _ _ _ _ (c.in_ok-tell.ensures.keeps p earlier) is)
    (lived_same _ _ s names _ _ woken.0 c.tell-2.new.system c.tell-2.new.lines c.tell-2.new.script before _ (sym same)
    refl woken.2)))

pub returns-clause-somewhere : goal.returns-clause-somewhere
returns-clause-somewhere g c =
    on_same c.tell-3.result _ _ c.tell-3.new.system (ap g.P.Program.meaning c.in_ok-tell.ensures.program)
    c.tell-3.ensures.somewhere

pub returns-clause-up : goal.returns-clause-up
returns-clause-up g c =
    let here = c.requires.somewhere in
    let there = c.in_ok-tell.ensures.somewhere in
    let same = ap g.P.Program.meaning (sym c.in_ok-tell.ensures.program) in
    ok_up_fed c.tell-3.result _ c.tell-2.new.system c.tell-3.new.system c.left-left.result c.tell-3.ensures.moves
    (somewhere_same _ _ c.tell-2.new.system same there)
    (up_woken _ c.args.system.now c.tell-2.new.system c.in_ok-tell.ensures.moves here.0 here.1 here.2)

pub returns-clause-only_writes : goal.returns-clause-only_writes
returns-clause-only_writes g c =
    OnlyWrites-trans _ _ _ _ _ c.in_ok-tell.ensures.only_writes c.tell-3.ensures.only_writes

pub returns-clause-cause : goal.returns-clause-cause
returns-clause-cause g c fault =
    OnlyWrites-failed _ _ _ _ _ c.in_ok-tell.ensures.only_writes (c.tell-3.ensures.cause fault)
