use Rattle.std.proofs.Common.{◌≡◌, ◌+◌, ap, sym, subst, ◌∙◌, Some, None}
use Rattle.std.specs.Prelude.{slice_get}
use Rattle.recovery_world.specs.World.{Ended as EndedEpoch}
use Rattle.system_images.specs.Judging.{HasRows}
use Rattle.system_images.proofs.RowsLemmas.{CountsTo, counts_more, counts_past, found_item, found_none}
use Rattle.system_images.proofs.rows.counts_behind.Goals as goal
use Rattle.system_images.proofs.rows.counts_behind.Goals.{in-Some+in_ok-push, in_default}

pub loop-thread-preserved : goal.loop-thread-preserved
loop-thread-preserved c =
    let at = ap (λ n. c.args.before + n) c.from.ensures in
    elim c.match-item_at.branch as (λ _. (x : EndedEpoch) → HasRows c.args.threads c.args.before c.args.rows.now x
    → CountsTo (c.loop-thread.thread + 1) x c.match-item_at.counts) [
      | in-Some+in_ok-push w ↦
          counts_more c.args.threads c.args.before c.loop-thread.thread c.args.rows.now c.loop-thread.counts _
          w.in-Some.row.now c.loop-thread-test.true
          (subst (λ n. slice_get c.args.rows.now n ≡ Some w.in-Some.row.now) at
          (found_item _ _ _ _ _ c.as_slice.ensures c.item_at.ensures w.in-Some.is))
          (w.counts-is ∙ w.in_ok-push.ensures.ok) c.loop-thread.invariant
      | in_default w ↦
          subst (λ l. (x : EndedEpoch) → HasRows c.args.threads c.args.before c.args.rows.now x
          → CountsTo (c.loop-thread.thread + 1) x l) (sym w.counts-is)
          (counts_past c.args.threads c.args.before c.loop-thread.thread c.args.rows.now c.loop-thread.counts
          c.loop-thread-test.true
          (subst (λ n. slice_get c.args.rows.now n ≡ None) at
          (found_none _ _ _ c.item_at.result c.as_slice.ensures c.item_at.ensures w.in_default.not-Some)))
    ]
