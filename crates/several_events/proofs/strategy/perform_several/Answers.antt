use Rattle.std.proofs.Common.{◌≡◌, ◌-◌, ◌∙◌, ap, length, None}
use Rattle.recovery_world.specs.declared.event.Outcome.TheVariants as outcome
use Rattle.system_parts.specs.Performing.{Releasing}
use Rattle.system_parts.proofs.EventChains.{moves_as}
use Rattle.several_events.specs.Progressing.{Comes, SumsUp}
use Rattle.several_events.proofs.Following.{sums_up}
use Rattle.several_events.proofs.strategy.perform_several.Goals as goal

pub returns-clause-on : goal.returns-clause-on
returns-clause-on g c =
    let moves : c.saturating_sub.result ≡ c.follow.new.core.moves - c.args.core.now.moves =
    c.saturating_sub.ensures
    ∙ (ap (λ y. y.moves - c.core.inside.moves) c.core-2.view_is
    ∙ ap (λ y. c.follow.new.core.moves - y.moves) c.core.view_is) in
    let before : c.len-released.result ≡ length c.args.core.now.released =
    c.len-released.ensures ∙ ap (λ y. length y.released) c.core.view_is in
    let after : c.len.result ≡ length c.follow.new.core.released =
    c.len.ensures ∙ ap (λ y. length y.released) c.core-2.view_is in
    let released : c.saturating_sub-2.result ≡ length c.follow.new.core.released - length c.args.core.now.released =
    let a = c.saturating_sub-2.ensures in cc in
    let epoch : c.from.result ≡ c.follow.new.core.logger.epoch =
    c.from.ensures ∙ (c.epoch.ensures ∙ ap (λ y. y.logger.epoch) c.core-2.view_is) in
    moves_as _ (Releasing c.args.out.now c.follow.new.out (Comes c.args.from None))
    (Releasing c.args.out.now c.follow.new.out
    (SumsUp c.args.from (outcome.Summary c.saturating_sub.result c.saturating_sub-2.result c.from.result)))
    c.args.core.now c.follow.new.core (λ s w next st sn a. (
      sums_up _ s w next c.args.core.now c.follow.new.core c.args.from c.saturating_sub.result c.saturating_sub-2.result
          c.from.result st sn moves released epoch a.0,
      a.1,
    )) c.in_ok-follow.ensures.on
