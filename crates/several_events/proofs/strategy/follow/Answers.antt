use Rattle.std.proofs.Common.{◌∙◌, ap, sym, subst, Some, None, arith}
use Rattle.std.proofs.lemmas.Result.{err_from_is_err_and}
use Rattle.event_replies.specs.declared.reply.Stop.TheVariants as stop
use Rattle.system_parts.specs.Performing.{Releasing}
use Rattle.system_parts.proofs.EventChains.{stands_then, threads_stay, exits_as}
use Rattle.held_steps.proofs.FromOutputReleases.{appends_none, appends_then}
use Rattle.several_events.specs.Progressing.{IsNext, IsOver, after_of}
use Rattle.several_events.specs.Ahead.{GoesAhead, Performs}
use Rattle.several_events.proofs.IdleTurns.{ahead_passes}
use Rattle.several_events.proofs.Ahead.{ahead_none, ahead_then, ahead_ends, ahead_stops, ahead_falls}
use Rattle.several_events.proofs.strategy.follow.Goals as goal

pub events-init : goal.events-init
events-init g c = record {
  moved = ahead_none (g.P.Program.meaning c.args.core.now.program) c.args.core.now c.args.from c.args.out.now;
  appends = appends_none c.args.out.now;
}

pub returns-in-None-clause-on : goal.returns-in-None-clause-on
returns-in-None-clause-on g c =
    let same = ap g.P.Program.meaning c.events.invariant.moved.0 in
    ahead_ends _ c.args.core.now c.events.core c.args.from c.events.at c.args.out.now c.events.out
    (subst (λ m. IsOver m c.events.core c.events.at) same (c.choose.ensures.over c.in-None.is)) c.events.invariant.moved

pub perform_next-requires-clause-stands : goal.perform_next-requires-clause-stands
perform_next-requires-clause-stands g c κs within =
    stands_then _ _ (Releasing c.args.out.now c.events.out (GoesAhead c.args.from c.events.at)) c.args.core.now
    c.events.core (ap g.P.Program.meaning c.events.invariant.moved.0) c.events.invariant.moved
    (c.requires.begun.0, c.requires.begun.1, c.requires.begun.2)

pub returns-in_err-outcome-in-Some-clause-limit : goal.returns-in_err-outcome-in-Some-clause-limit
returns-in_err-outcome-in-Some-clause-limit g c = λ limit is.
    let p = err_from_is_err_and c.from_residual.result c.from_residual.ensures.1 in
    let made = exits_as c.perform_next.result c.from_residual.result c.in_err-outcome-in-Some.field-0.0 p.0
    (stop.Limit limit) c.in_err-outcome-in-Some.was p.1 p.2 is in
    let same = ap g.P.Program.meaning c.events.invariant.moved.0 in
    ahead_stops _ _ c.args.core.now c.events.core c.perform_next.new.core c.args.from c.events.at c.in-Some.further
    c.in-Some.event limit c.args.out.now c.events.out c.perform_next.new.out same
    (subst (λ m. IsNext m c.events.core c.events.at c.in-Some.event c.in-Some.further) same c.in-Some.ensures.next)
    c.events.invariant.moved (c.perform_next.ensures.limit limit made)

pub pass_idle-at-requires-clause-stands : goal.pass_idle-at-requires-clause-stands
pass_idle-at-requires-clause-stands g c κs within =
    let same = ap g.P.Program.meaning c.events.invariant.moved.0 in
    let R = Releasing c.args.out.now c.events.out (GoesAhead c.args.from c.events.at) in
    let S = Releasing c.events.out c.perform_next.new.out
    (Performs c.in-Some.further c.in-Some.event c.in_ok-outcome-in-Some.outcome) in
    let some = stands_then _ _ R c.args.core.now c.events.core same c.events.invariant.moved
    (c.requires.begun.0, c.requires.begun.1, c.requires.begun.2) in
    let threads =
    c.threads.ensures.value
    ∙ ap (λ y. y.inputs.threads) c.core.view_is
    ∙ threads_stay _ S c.events.core c.perform_next.new.core c.in_ok-outcome-in-Some.ensures.on some in
    let is =
    c.after-behind.ensures
    ∙ ap (λ n. after_of n c.in-Some.further c.in-Some.event c.in_ok-outcome-in-Some.outcome) threads in
    let moved = ahead_then _ _ c.args.core.now c.events.core c.perform_next.new.core c.args.from c.events.at
    c.in-Some.further c.after-behind.result c.in-Some.event c.in_ok-outcome-in-Some.outcome c.args.out.now
    c.events.out c.perform_next.new.out same
    (subst (λ m. IsNext m c.events.core c.events.at c.in-Some.event c.in-Some.further) same
    c.in-Some.ensures.next) is c.events.invariant.moved c.in_ok-outcome-in-Some.ensures.on in
    stands_then _ _ (Releasing c.args.out.now c.perform_next.new.out (GoesAhead c.args.from c.after-behind.result))
    c.args.core.now c.perform_next.new.core (ap g.P.Program.meaning moved.0) moved
    (c.requires.begun.0, c.requires.begun.1, c.requires.begun.2)

pub events-smaller : goal.events-smaller
events-smaller g c =
    let same = ap g.P.Program.meaning c.events.invariant.moved.0 in
    let R = Releasing c.args.out.now c.events.out (GoesAhead c.args.from c.events.at) in
    let S = Releasing c.events.out c.perform_next.new.out
    (Performs c.in-Some.further c.in-Some.event c.in_ok-outcome-in-Some.outcome) in
    let some = stands_then _ _ R c.args.core.now c.events.core same c.events.invariant.moved
    (c.requires.begun.0, c.requires.begun.1, c.requires.begun.2) in
    let threads =
    c.threads.ensures.value
    ∙ ap (λ y. y.inputs.threads) c.core.view_is
    ∙ threads_stay _ S c.events.core c.perform_next.new.core c.in_ok-outcome-in-Some.ensures.on some in
    let is =
    c.after-behind.ensures
    ∙ ap (λ n. after_of n c.in-Some.further c.in-Some.event c.in_ok-outcome-in-Some.outcome) threads in
    let less = ahead_falls _ _ c.args.core.now c.events.core c.perform_next.new.core c.args.from c.events.at
    c.in-Some.further c.after-behind.result c.in-Some.event c.in_ok-outcome-in-Some.outcome c.args.out.now
    c.events.out c.perform_next.new.out same
    (subst (λ m. IsNext m c.events.core c.events.at c.in-Some.event c.in-Some.further) same c.in-Some.ensures.next) is
    c.requires.begun c.events.invariant.moved c.in_ok-outcome-in-Some.ensures.on in
    let behind = c.pass_idle-at.ensures.less in
    omega (arith, less, behind)

pub events-preserved : goal.events-preserved
events-preserved g c =
    let same = ap g.P.Program.meaning c.events.invariant.moved.0 in
    let R = Releasing c.args.out.now c.events.out (GoesAhead c.args.from c.events.at) in
    let S = Releasing c.events.out c.perform_next.new.out
    (Performs c.in-Some.further c.in-Some.event c.in_ok-outcome-in-Some.outcome) in
    let some = stands_then _ _ R c.args.core.now c.events.core same c.events.invariant.moved
    (c.requires.begun.0, c.requires.begun.1, c.requires.begun.2) in
    let threads =
    c.threads.ensures.value
    ∙ ap (λ y. y.inputs.threads) c.core.view_is
    ∙ threads_stay _ S c.events.core c.perform_next.new.core c.in_ok-outcome-in-Some.ensures.on some in
    let is =
    c.after-behind.ensures
    ∙ ap (λ n. after_of n c.in-Some.further c.in-Some.event c.in_ok-outcome-in-Some.outcome) threads in
    let moved = ahead_then _ _ c.args.core.now c.events.core c.perform_next.new.core c.args.from c.events.at
    c.in-Some.further c.after-behind.result c.in-Some.event c.in_ok-outcome-in-Some.outcome c.args.out.now
    c.events.out c.perform_next.new.out same
    (subst (λ m. IsNext m c.events.core c.events.at c.in-Some.event c.in-Some.further) same
    c.in-Some.ensures.next) is c.events.invariant.moved c.in_ok-outcome-in-Some.ensures.on in
    record {
      moved = ahead_passes g.P.Program.meaning c.args.core.now c.perform_next.new.core c.args.from
          c.after-behind.result c.pass_idle-at.result c.args.out.now c.perform_next.new.out moved
          c.pass_idle-at.ensures.passes;
      appends = appends_then c.args.out.now c.events.out c.perform_next.new.out c.events.invariant.appends
          c.perform_next.ensures.appends;
    }

pub events-smaller-in_ok-outcome-in-Some : goal.events-smaller-in_ok-outcome-in-Some
events-smaller-in_ok-outcome-in-Some g c =
    let same = ap g.P.Program.meaning c.events.invariant.moved.0 in
    let R = Releasing c.args.out.now c.events.out (GoesAhead c.args.from c.events.at) in
    let S = Releasing c.events.out c.perform_next.new.out
    (Performs c.in-Some.further c.in-Some.event c.in_ok-outcome-in-Some.outcome) in
    let some = stands_then _ _ R c.args.core.now c.events.core same c.events.invariant.moved
    (c.requires.begun.0, c.requires.begun.1, c.requires.begun.2) in
    let threads =
    c.threads.ensures.value
    ∙ ap (λ y. y.inputs.threads) c.core.view_is
    ∙ threads_stay _ S c.events.core c.perform_next.new.core c.in_ok-outcome-in-Some.ensures.on some in
    let is =
    c.after-behind.ensures
    ∙ ap (λ n. after_of n c.in-Some.further c.in-Some.event c.in_ok-outcome-in-Some.outcome) threads in
    let less = ahead_falls _ _ c.args.core.now c.events.core c.perform_next.new.core c.args.from c.events.at
    c.in-Some.further c.after-behind.result c.in-Some.event c.in_ok-outcome-in-Some.outcome c.args.out.now
    c.events.out c.perform_next.new.out same
    (subst (λ m. IsNext m c.events.core c.events.at c.in-Some.event c.in-Some.further) same c.in-Some.ensures.next) is
    c.requires.begun c.events.invariant.moved c.in_ok-outcome-in-Some.ensures.on in
    let behind = c.pass_idle-at.ensures.less in
    omega (arith, less, behind)

pub events-preserved-in_ok-outcome-in-Some : goal.events-preserved-in_ok-outcome-in-Some
events-preserved-in_ok-outcome-in-Some g c =
    let same = ap g.P.Program.meaning c.events.invariant.moved.0 in
    let R = Releasing c.args.out.now c.events.out (GoesAhead c.args.from c.events.at) in
    let S = Releasing c.events.out c.perform_next.new.out
    (Performs c.in-Some.further c.in-Some.event c.in_ok-outcome-in-Some.outcome) in
    let some = stands_then _ _ R c.args.core.now c.events.core same c.events.invariant.moved
    (c.requires.begun.0, c.requires.begun.1, c.requires.begun.2) in
    let threads =
    c.threads.ensures.value
    ∙ ap (λ y. y.inputs.threads) c.core.view_is
    ∙ threads_stay _ S c.events.core c.perform_next.new.core c.in_ok-outcome-in-Some.ensures.on some in
    let is =
    c.after-behind.ensures
    ∙ ap (λ n. after_of n c.in-Some.further c.in-Some.event c.in_ok-outcome-in-Some.outcome) threads in
    let moved = ahead_then _ _ c.args.core.now c.events.core c.perform_next.new.core c.args.from c.events.at
    c.in-Some.further c.after-behind.result c.in-Some.event c.in_ok-outcome-in-Some.outcome c.args.out.now
    c.events.out c.perform_next.new.out same
    (subst (λ m. IsNext m c.events.core c.events.at c.in-Some.event c.in-Some.further) same
    c.in-Some.ensures.next) is c.events.invariant.moved c.in_ok-outcome-in-Some.ensures.on in
    record {
      moved = ahead_passes g.P.Program.meaning c.args.core.now c.perform_next.new.core c.args.from
          c.after-behind.result c.pass_idle-at.result c.args.out.now c.perform_next.new.out moved
          c.pass_idle-at.ensures.passes;
      appends = appends_then c.args.out.now c.events.out c.perform_next.new.out c.events.invariant.appends
          c.perform_next.ensures.appends;
    }
