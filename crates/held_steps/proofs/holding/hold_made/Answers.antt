use Rattle.std.proofs.Common.{sym, subst, arith}
use Rattle.access_log.specs.Held.{lane, IsFrontier}
use Rattle.output_logger.specs.Logger.{appended}
use Rattle.held_steps.specs.Holding.{IsNextHeld}
use Rattle.held_steps.proofs.MadeEntries.{made_held, is_new, next_fresh}
use Rattle.held_steps.proofs.MadeArrivals.{made_arrives}
use Rattle.held_steps.proofs.holding.hold_made.Goals as goal

pub returns-clause-ok : goal.returns-clause-ok
returns-clause-ok g c =
    let next = subst (λ q. IsNextHeld q.logger.held c.args.entry) (sym c.core.view_is) c.requires.next in
    let took = is_new c.entry.result c.in_ok-entry.field-0 c.in_ok-entry.was
    (λ k. next_fresh _ c.args.entry next (c.entry.ensures.known.0 k).1)
    (λ k. let late = c.entry.ensures.old.0 k in let same = c.epoch-epoch.ensures in omega (arith, late, same)) in
    made_held _ _ c.args.entry c.count_entry.new.self c.forget_entries.new.self c.entry.new.self c.args.out.now
    c.entry.new.out (appended c.args.out.now c.entry.new.out) c.frontier-known.result c.core.view_is
    c.in_ok-count_entry.ensures.ok c.in_ok-count_entry.ensures.there c.requires.next
    (subst (λ held. IsFrontier (lane held c.args.entry.thread) c.frontier-known.result) c.held.ensures
    c.frontier-known.ensures) c.forget_entries.ensures.forgets (c.entry.ensures.new took) c.entry.ensures.others
    (c.entry.ensures.released took) c.entry.ensures.once c.entry.ensures.epoch c.entry.ensures.appends
