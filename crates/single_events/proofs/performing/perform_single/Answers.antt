use Rattle.std.proofs.Common.{◌≡◌, Err, false, refl, sym, ◌∙◌, subst}
use Rattle.std.proofs.lemmas.Result.{err_from_is_err_and}
use Rattle.recovery_world.specs.declared.event.Event.TheVariants as event
use Rattle.recovery_world.specs.declared.event.Outcome.TheVariants as outcome
use Rattle.event_replies.specs.declared.reply.Stop.TheVariants as stop
use Rattle.system_parts.specs.Performing.{MovesOn, StopsAt, Releasing, Replies, WouldPass}
use Rattle.single_events.specs.Single.{IsSingle}
use Rattle.single_events.proofs.ReplyLemmas.{comes_to, looks_to, passes_none}
use Rattle.single_events.proofs.performing.perform_single.Goals as goal

pub returns-in_err-step-in-Step-clause-limit : goal.returns-in_err-step-in-Step-clause-limit
returns-in_err-step-in-Step-clause-limit g c = λ limit is.
    let m = g.P.Program.meaning c.args.core.now.program in
    let p =
    err_from_is_err_and c.from_residual-in_err-step-in-Step.result c.from_residual-in_err-step-in-Step.ensures.1 in
    let was : c.step.result ≡ Err c.in_err-step-in-Step.field-0.0 = c.in_err-step-in-Step.was in
    let there : c.step.result ≡ Err (stop.Limit limit) = cc in
    subst (λ e. StopsAt m (Releasing c.args.out.now c.args.out.now (WouldPass e limit)) c.args.core.now c.step.new.core)
    (sym c.in-Step.is)
    (passes_none m (event.Step c.in-Step.thread c.in-Step.answer) limit c.args.out.now c.args.core.now c.step.new.core
    (c.step.ensures.limit limit there))

pub returns-in_ok-feed-in-Feed-clause-on : goal.returns-in_ok-feed-in-Feed-clause-on
returns-in_ok-feed-in-Feed-clause-on g c =
    let m = g.P.Program.meaning c.args.core.now.program in
    subst
    (λ e. MovesOn m (Releasing c.args.out.now c.args.out.now (Replies e c.only.result)) c.args.core.now c.feed.new.core)
    (sym c.in-Feed.is)
    (comes_to m (event.Feed c.in-Feed.n) c.in_ok-feed-in-Feed.field-0 c.only.result c.args.out.now c.args.core.now
    c.feed.new.core tt c.only.ensures c.in_ok-feed-in-Feed.ensures)

pub returns-in-Time-clause-on : goal.returns-in-Time-clause-on
returns-in-Time-clause-on g c =
    let m = g.P.Program.meaning c.args.core.now.program in
    subst (λ e. MovesOn m (Releasing c.args.out.now c.args.out.now (Replies e c.only-in-Time.result)) c.args.core.now
    c.set_time.new.core) (sym c.in-Time.is)
    (comes_to m (event.Time c.in-Time.n) c.set_time.result c.only-in-Time.result c.args.out.now c.args.core.now
    c.set_time.new.core tt c.only-in-Time.ensures c.set_time.ensures)

pub returns-in_ok-step-in-Step-clause-on : goal.returns-in_ok-step-in-Step-clause-on
returns-in_ok-step-in-Step-clause-on g c =
    let m = g.P.Program.meaning c.args.core.now.program in
    subst (λ e. MovesOn m (Releasing c.args.out.now c.args.out.now (Replies e c.only-in-Step.result)) c.args.core.now
    c.step.new.core) (sym c.in-Step.is)
    (comes_to m (event.Step c.in-Step.thread c.in-Step.answer) c.in_ok-step-in-Step.field-0 c.only-in-Step.result
    c.args.out.now c.args.core.now c.step.new.core tt c.only-in-Step.ensures c.in_ok-step-in-Step.ensures.on)

pub returns-in_ok-arrive-in-Log-clause-on : goal.returns-in_ok-arrive-in-Log-clause-on
returns-in_ok-arrive-in-Log-clause-on g c =
    let m = g.P.Program.meaning c.args.core.now.program in
    subst (λ e. MovesOn m (Releasing c.args.out.now c.arrive.new.out (Replies e c.in_ok-arrive-in-Log.field-0))
    c.args.core.now c.arrive.new.core) (sym c.in-Log.is) c.in_ok-arrive-in-Log.ensures.on

pub returns-in_ok-arrive-in-Out-clause-on : goal.returns-in_ok-arrive-in-Out-clause-on
returns-in_ok-arrive-in-Out-clause-on g c =
    let m = g.P.Program.meaning c.args.core.now.program in
    subst (λ e. MovesOn m (Releasing c.args.out.now c.arrive-in-Out.new.out (Replies e c.in_ok-arrive-in-Out.field-0))
    c.args.core.now c.arrive-in-Out.new.core) (sym c.in-Out.is) c.in_ok-arrive-in-Out.ensures.on

pub returns-in_ok-arrive_late-in-Late-clause-on : goal.returns-in_ok-arrive_late-in-Late-clause-on
returns-in_ok-arrive_late-in-Late-clause-on g c =
    let m = g.P.Program.meaning c.args.core.now.program in
    subst (λ e.
    MovesOn m (Releasing c.args.out.now c.arrive_late.new.out (Replies e c.in_ok-arrive_late-in-Late.field-0))
    c.args.core.now c.arrive_late.new.core) (sym c.in-Late.is) c.in_ok-arrive_late-in-Late.ensures.on

pub returns-in_ok-arrive_cut-in-Cut-clause-on : goal.returns-in_ok-arrive_cut-in-Cut-clause-on
returns-in_ok-arrive_cut-in-Cut-clause-on g c =
    let m = g.P.Program.meaning c.args.core.now.program in
    subst (λ e. MovesOn m (Releasing c.args.out.now c.arrive_cut.new.out (Replies e c.in_ok-arrive_cut-in-Cut.field-0))
    c.args.core.now c.arrive_cut.new.core) (sym c.in-Cut.is) c.in_ok-arrive_cut-in-Cut.ensures.on

pub returns-in_ok-show-in-Show-clause-on : goal.returns-in_ok-show-in-Show-clause-on
returns-in_ok-show-in-Show-clause-on g c =
    let m = g.P.Program.meaning c.args.core.now.program in
    subst (λ e. MovesOn m (Releasing c.args.out.now c.args.out.now (Replies e c.only-in-Show.result)) c.args.core.now
    c.args.core.now) (sym c.in-Show.is)
    (looks_to m (event.Show c.in-Show.var) c.in_ok-show-in-Show.field-0 c.only-in-Show.result c.args.out.now
    c.args.core.now tt c.only-in-Show.ensures c.in_ok-show-in-Show.ensures.on)

pub returns-in_ok-snap-in-Snap-clause-on : goal.returns-in_ok-snap-in-Snap-clause-on
returns-in_ok-snap-in-Snap-clause-on g c =
    let m = g.P.Program.meaning c.args.core.now.program in
    subst (λ e. MovesOn m (Releasing c.args.out.now c.args.out.now (Replies e c.only-in-Snap.result)) c.args.core.now
    c.snap.new.core) (sym c.in-Snap.is)
    (comes_to m event.Snap c.in_ok-snap-in-Snap.field-0 c.only-in-Snap.result c.args.out.now c.args.core.now
    c.snap.new.core tt c.only-in-Snap.ensures c.in_ok-snap-in-Snap.ensures)

pub returns-in_ok-store-in-Store-clause-on : goal.returns-in_ok-store-in-Store-clause-on
returns-in_ok-store-in-Store-clause-on g c =
    let m = g.P.Program.meaning c.args.core.now.program in
    subst (λ e. MovesOn m (Releasing c.args.out.now c.store.new.out (Replies e c.in_ok-store-in-Store.field-0))
    c.args.core.now c.store.new.core) (sym c.in-Store.is) c.in_ok-store-in-Store.ensures.on

pub returns-in-Crash-clause-on : goal.returns-in-Crash-clause-on
returns-in-Crash-clause-on g c =
    let m = g.P.Program.meaning c.args.core.now.program in
    subst (λ e. MovesOn m (Releasing c.args.out.now c.args.out.now (Replies e c.only-in-Crash.result)) c.args.core.now
    c.crash.new.core) (sym c.in-Crash.is)
    (comes_to m event.Crash c.crash.result c.only-in-Crash.result c.args.out.now c.args.core.now c.crash.new.core tt
    c.only-in-Crash.ensures c.crash.ensures)

pub returns-in_ok-recover-in-Recover-clause-on : goal.returns-in_ok-recover-in-Recover-clause-on
returns-in_ok-recover-in-Recover-clause-on g c =
    let m = g.P.Program.meaning c.args.core.now.program in
    subst (λ e. MovesOn m (Releasing c.args.out.now c.args.out.now (Replies e c.only-in-Recover.result)) c.args.core.now
    c.recover.new.core) (sym c.in-Recover.is)
    (comes_to m event.Recover c.in_ok-recover-in-Recover.field-0 c.only-in-Recover.result c.args.out.now c.args.core.now
    c.recover.new.core tt c.only-in-Recover.ensures c.in_ok-recover-in-Recover.ensures)

pub returns-in-Flow-clause-on : goal.returns-in-Flow-clause-on
returns-in-Flow-clause-on g c =
    let m = g.P.Program.meaning c.args.core.now.program in
    let down : c.args.core.now.up ≡ false = subst (IsSingle c.args.core.now.up) c.in-Flow.is c.requires.single in
    subst (λ e. MovesOn m (Releasing c.args.out.now c.args.out.now (Replies e c.only-in-Flow.result)) c.args.core.now
    c.args.core.now) (sym c.in-Flow.is)
    (looks_to m (event.Flow c.in-Flow.field-0) outcome.Down c.only-in-Flow.result c.args.out.now c.args.core.now tt
    c.only-in-Flow.ensures (λ s w st. ((sym st.master.up ∙ down, refl, refl, refl), st.within)))
