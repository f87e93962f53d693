use Rattle.std.proofs.Common.{refl}
use Rattle.access_log.specs.Held.{lane}
use Rattle.access_log.specs.Lanes.{PutsEntry}
use Rattle.output_logger.specs.Reach.{AreFrontiers}
use Rattle.output_logger.proofs.KeptLemmas.{rises, more_with_entry, kept_after, parts_after, added_new}
use Rattle.output_logger.proofs.logger.OutputLogger.hold.Goals as goal

pub invariant_of-self-2 : goal.invariant_of-self-2
invariant_of-self-2 c =
    let s = c.self.inside in
    let e = c.args.entry in
    let unknown = rw (← c.self.view_is) at c.requires.unknown in
    let new = c.add.new.self in
    let is = added_new c.in_ok-_added._added (λ q. unknown (c.in_ok-_added.ensures.known.0 q)) in
    let puts : PutsEntry (lane s.held e.thread) (lane new e.thread) e.number e = c.in_ok-_added.ensures.new is in
    let others = c.in_ok-_added.ensures.others in
    let are = c.frontiers-from.ensures in
    let will : AreFrontiers new c.in_ok-reached.reached =
    c.in_ok-reached.ensures new e (record { puts = puts; others = others }) in
    let rise = rises s.held new c.frontiers-from.result c.in_ok-reached.reached are will
    (more_with_entry s.held new e.thread e.number e puts others) in
    kept_after s.threads s.held new s.released c.release.new.released s.waiting.outputs.entries
    c.release.new.self.outputs.entries s.waiting.index.keys c.release.new.self.index.keys c.in_ok-ready.ready.keys _
    c.frontiers-from.result c.in_ok-reached.reached c.self.invariant are will rise c.in_ok-ready.ensures.due
    c.release.ensures.gone c.release.ensures.keeps c.release.ensures.only c.in_ok-_added.ensures.threads

pub returns-clause-released : goal.returns-clause-released
returns-clause-released c =
    let s = c.self.inside in
    let e = c.args.entry in
    let unknown = rw (← c.self.view_is) at c.requires.unknown in
    let new = c.add.new.self in
    let is = added_new c.in_ok-_added._added (λ q. unknown (c.in_ok-_added.ensures.known.0 q)) in
    let puts : PutsEntry (lane s.held e.thread) (lane new e.thread) e.number e = c.in_ok-_added.ensures.new is in
    let will : AreFrontiers new c.in_ok-reached.reached =
    c.in_ok-reached.ensures new e (record { puts = puts; others = c.in_ok-_added.ensures.others }) in
    let items = c.in_ok-ready.ensures.items in
    rw (← c.self.view_is, ← items) (record {
      epoch = refl;
      parts = parts_after s.threads s.held new s.released c.release.new.released s.waiting.outputs.entries
          c.release.new.self.outputs.entries s.waiting.index.keys c.in_ok-ready.ready.keys _ c.in_ok-reached.reached
          c.self.invariant will c.in_ok-ready.ensures.due c.release.ensures.gone;
      once = c.release.ensures.gone.once;
    })
