use Rattle.std.proofs.Common.{◌+◌, ◌++◌, ◌-◌, ◌<◌, ap, sym, subst, ◌∙◌, arith}
use Rattle.handover_world.specs.Images.{rows_of}
use Rattle.system_parts.specs.SystemStanding.{AreCounts}
use Rattle.system_images.proofs.RowsLemmas.{EndedTo, ended_more, ended_past, found_item, found_none}
use Rattle.system_images.proofs.imaging.ended_of.Goals as goal
use Rattle.system_images.proofs.imaging.ended_of.Goals.{in-Some+in_ok-add_rows, in_default}

pub loop-epoch-preserved : goal.loop-epoch-preserved
loop-epoch-preserved g c =
    let m = g.P.Program.meaning c.args.core.now.program in
    let high = c.loop-epoch-test.true in
    let end = c.loop-epoch.invariant.end in
    record {
      rows = elim c.match-item_at.branch as
          (λ _. EndedTo m c.args.core.now (c.loop-epoch.epoch + 1) c.match-item_at.rows) [
            | in-Some+in_ok-add_rows w ↦
                ended_more m c.args.core.now c.loop-epoch.epoch c.loop-epoch.rows _ w.in-Some.counts.now
                c.loop-epoch.auto.epoch (omega (arith, high, end))
                (found_item _ _ _ _ _ (c.as_slice.ensures.value ∙ ap (λ y. y.ended) c.core.view_is) c.item_at.ensures
                w.in-Some.is)
                (λ x are. w.rows-is ∙ (w.in_ok-add_rows.ensures x (subst (λ n. AreCounts n x w.in-Some.counts.now)
                (sym c.loop-epoch.invariant.threads) are)
                ∙ ap (λ n. c.loop-epoch.rows ++ rows_of c.loop-epoch.epoch x 0 n) c.loop-epoch.invariant.threads))
                c.loop-epoch.invariant.rows
            | in_default w ↦
                subst (λ l. EndedTo m c.args.core.now (c.loop-epoch.epoch + 1) l) (sym w.rows-is)
                (ended_past m c.args.core.now c.loop-epoch.epoch c.loop-epoch.rows c.loop-epoch.auto.epoch
                (omega (arith, high, end))
                (found_none _ _ _ c.item_at.result (c.as_slice.ensures.value ∙ ap (λ y. y.ended) c.core.view_is)
                c.item_at.ensures w.in_default.not-Some))
          ];
      end = c.loop-epoch.invariant.end;
      threads = c.loop-epoch.invariant.threads;
    }
