use Rattle.std.proofs.Common.{sym, ap, subst, ◌∙◌, take}
use Rattle.system_parts.specs.FromReplayGuide.{CanBeFollowed}
use Rattle.crash_recovery.proofs.RecoveryWorlds.{start_moves_as, starts_then, follows_then}
use Rattle.crash_recovery.proofs.crashing.start_over.Goals as goal

pub of-requires : goal.of-requires
of-requires g c =
    subst (λ held. CanBeFollowed held) (sym c.held.ensures) (follows_then g.P.Program.meaning _ _ c.fence-kept.new.self
    c.core.view_is c.requires.stands c.fence-kept.ensures.closed c.fence-kept.ensures.covered)

pub returns-clause-on : goal.returns-clause-on
returns-clause-on g c =
    start_moves_as g.P.Program.meaning _ _ c.fence-kept.result c.in_ok-counts.counts c.fence-kept.new.self
    c.in_ok-core-inside.field-0 c.turn_links.new.sent _ _ c.in_ok-restored.restored.master c.core.view_is
    c.requires.down
    (starts_then _ c.fence-kept.result c.in_ok-counts.counts c.fence-kept.new.self c.in_ok-core-inside.field-0
    c.held.result.now c.turn_links.new.sent c.threads-threads.result c.in_ok-restored.restored.master
    c.threads-threads.ensures.value c.held.ensures c.in_ok-restored.ensures.master c.in_ok-counts.ensures
    c.fence-kept.ensures.epoch c.fence-kept.ensures.waiting c.fence-kept.ensures.once c.fence-kept.ensures.closed
    c.fence-kept.ensures.covered c.fence-kept.ensures.kept c.fence-kept.ensures.dropped c.in_ok-core-inside.ensures
    c.in_ok-turn_links.ensures.ok) c.in_ok-push.ensures.items
    (c.truncate.ensures ∙ ap (λ n. take n c.core.inside.schedule) c.in_ok-restored.ensures.moves)
    c.in_ok-restored.ensures.master
