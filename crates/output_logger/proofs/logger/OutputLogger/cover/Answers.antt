use Rattle.std.proofs.Common.{refl}
use Rattle.output_logger.specs.Reach.{AreFrontiers}
use Rattle.output_logger.proofs.KeptLemmas.{rises, more_with_cover, kept_after, parts_after}
use Rattle.output_logger.proofs.logger.OutputLogger.cover.Goals as goal

pub invariant_of-self : goal.invariant_of-self
invariant_of-self c =
    let s = c.self.inside in
    let rising = rw (← c.self.view_is) at c.requires in
    let new = c.cover.new.self in
    let are = c.frontiers-from.ensures in
    let will : AreFrontiers new c.in_ok-reached.reached =
    c.in_ok-reached.ensures new (record { covers = c.cover.ensures.covers; threads = c.cover.ensures.threads }) in
    let rise = rises s.held new c.frontiers-from.result c.in_ok-reached.reached are will
    (more_with_cover s.held new c.args.counts.now rising c.cover.ensures.covers c.cover.ensures.threads) in
    kept_after s.threads s.held new s.released c.release.new.released s.waiting.outputs.entries
    c.release.new.self.outputs.entries s.waiting.index.keys c.release.new.self.index.keys c.in_ok-ready.ready.keys _
    c.frontiers-from.result c.in_ok-reached.reached c.self.invariant are will rise c.in_ok-ready.ensures.due
    c.release.ensures.gone c.release.ensures.keeps c.release.ensures.only c.cover.ensures.threads

pub returns-clause-released : goal.returns-clause-released
returns-clause-released c =
    let s = c.self.inside in
    let new = c.cover.new.self in
    let will : AreFrontiers new c.in_ok-reached.reached =
    c.in_ok-reached.ensures new (record { covers = c.cover.ensures.covers; threads = c.cover.ensures.threads }) in
    let items = c.in_ok-ready.ensures.items in
    rw (← c.self.view_is, ← items) (record {
      epoch = refl;
      parts = parts_after s.threads s.held new s.released c.release.new.released s.waiting.outputs.entries
          c.release.new.self.outputs.entries s.waiting.index.keys c.in_ok-ready.ready.keys _ c.in_ok-reached.reached
          c.self.invariant will c.in_ok-ready.ensures.due c.release.ensures.gone;
      once = c.release.ensures.gone.once;
    })
