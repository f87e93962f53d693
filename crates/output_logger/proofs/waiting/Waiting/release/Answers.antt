use Rattle.std.proofs.Common.{◌≡◌, ◌≢◌, [], ◌∷◌, ◌++◌, map, length, sym, ap, ◌∙◌, inl, inr, arith}
use Rattle.std.specs.Map.Iter.{deref}
use Rattle.std.proofs.lemmas.List.{map-append}
use Rattle.std.proofs.lemmas.Map.Iter.{rest_so_far}
use Rattle.access_log.specs.declared.entry.Output.{Output}
use Rattle.output_logger.specs.Kept.{IsReady}
use Rattle.output_logger.proofs.ArrivalLemmas.{ready_append, some_of}
use Rattle.output_logger.proofs.NameLemmas.{appended_none, appends_none, appended_more}
use Rattle.output_logger.proofs.GoneLemmas.{gone_none, gone_more, still_waits}
use Rattle.output_logger.proofs.waiting.Waiting.release.Goals as goal

pub loop-arrival-init : goal.loop-arrival-init
loop-arrival-init c =
    let out = c.args.out.now.items in
    let keys = c.into_iter-arrival-iterator.ensures.into_iter_gives.0 in
    record {
      gone = rw (appended_none out)
          (gone_none c.args.self.now.outputs.entries c.args.released.now c.requires.sorted c.requires.awaited);
      appends = appends_none out;
      room = rw keys c.requires.room;
      keeps = λ u n a none was. was;
      only = λ h. h;
    }

pub release_one-requires-clause-there : goal.release_one-requires-clause-there
release_one-requires-clause-there c =
    let gives = c.into_iter-arrival-iterator.ensures.into_iter_gives in
    let k = c.in-Some.arrival.now in
    let rest = c.next.new.self in
    let done = map deref c.loop-arrival.yielded in
    let is : c.args.ready.now.keys ≡ done ++ k ∷ rest =
    sym gives.0
    ∙ rest_so_far deref c.loop-arrival.yielded c.into_iter-arrival-iterator.result c.loop-arrival.arrival-iterator
    c.loop-arrival.yielded_by
    ∙ ap (λ l. done ++ l) c.in-Some.ensures.steps in
    let waits =
    still_waits _ _ _ _ c.args.ready.now.keys done rest _ k c.loop-arrival.invariant.gone gives.4 is c.requires.there in
    some_of _ waits.1.0 waits.1.1

pub loop-arrival-preserved : goal.loop-arrival-preserved
loop-arrival-preserved c =
    let gives = c.into_iter-arrival-iterator.ensures.into_iter_gives in
    let k = c.in-Some.arrival.now in
    let rest = c.next.new.self in
    let done = map deref c.loop-arrival.yielded in
    let is : c.args.ready.now.keys ≡ done ++ k ∷ rest =
    sym gives.0
    ∙ rest_so_far deref c.loop-arrival.yielded c.into_iter-arrival-iterator.result c.loop-arrival.arrival-iterator
    c.loop-arrival.yielded_by
    ∙ ap (λ l. done ++ l) c.in-Some.ensures.steps in
    let first = c.args.self.now.outputs.entries in
    let old = c.loop-arrival.self.outputs.entries in
    let waits = still_waits first old c.args.released.now c.loop-arrival.released c.args.ready.now.keys done rest _ k
    c.loop-arrival.invariant.gone gives.4 is c.requires.there in
    let o : Output = waits.1.0 in
    let goes = c.release_one.ensures.goes o waits.1.1 in
    let out = appended_more c.args.out.now.items c.loop-arrival.out.items c.release_one.new.out.items o
    c.loop-arrival.invariant.appends goes.0 in
    let more : map deref (c.loop-arrival.yielded ++ c.in-Some.arrival ∷ []) ≡ done ++ k ∷ [] =
    map-append deref c.loop-arrival.yielded (c.in-Some.arrival ∷ []) in
    let room = c.loop-arrival.invariant.room in
    let left = ap (λ l. length l) c.in-Some.ensures.steps in
    let len = c.release_one.ensures.len in
    let capacity = c.release_one.ensures.capacity in
    record {
      gone = rw (more, out.1) (gone_more first old c.release_one.new.waiting.outputs.entries c.args.released.now
          c.loop-arrival.released c.release_one.new.released done _ k o c.loop-arrival.invariant.gone c.requires.sorted
          c.requires.apart waits.0 waits.1.1 c.release_one.ensures.entries c.release_one.ensures.found
          c.release_one.ensures.sorted goes.1 c.release_one.ensures.threads);
      appends = rw out.1 out.0;
      room = omega arith;
      keeps = λ u n a none was.
          let b = ready_append done k a in
          let not : IsReady (done ++ k ∷ []) a → ⊥ = rw more at none in
          let apart : a ≢ k = λ same. not (b.1 (inr same)) in
          c.release_one.ensures.index u n a apart (c.loop-arrival.invariant.keeps u n a (λ r. not (b.1 (inl r))) was);
      only = λ h. c.release_one.ensures.only (c.loop-arrival.invariant.only h);
    }
