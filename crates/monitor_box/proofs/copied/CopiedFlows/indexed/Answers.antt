use Rattle.std.proofs.Common.{◌∙◌, ◌++◌, ◌∷◌, [], sym, ap}
use Rattle.indexmap.proofs.CallerLemmas.{insert_entry-new}
use Rattle.monitor_box.specs.declared.counts.FlowKey.{FlowKey}
use Rattle.monitor_box.specs.declared.counts.FlowCount.{FlowCount}
use Rattle.monitor_box.proofs.RowLemmas.{is_none, taken, none_taken}
use Rattle.monitor_box.proofs.copied.CopiedFlows.indexed.Goals as goal
use Rattle.monitor_box.proofs.copied.CopiedFlows.indexed.Goals.{in-Some+in_ok-insert+else-is_some, in_default}

pub loop-at-preserved : goal.loop-at-preserved
loop-at-preserved c =
    elim c.match-get.branch [
      | in-Some+in_ok-insert+else-is_some w ↦
          let row : FlowKey × FlowCount = (w.in-Some.flow, w.in-Some.count) in
          let new = is_none _ (sym w.is_some.ensures ∙ w.if-is_some.false) in
          ap (λ m. m.entries) w.indexed-is ∙ w.in_ok-insert.ensures.entries
          ∙ insert_entry-new _ c.loop-at.indexed w.in-Some.flow w.in-Some.count (sym w.in_ok-insert.ensures.old ∙ new)
          ∙ ap (λ rows. rows ++ row ∷ []) c.loop-at.invariant
          ∙ sym (taken c.args.self.now c.loop-at.at row (sym c.get.ensures ∙ w.in-Some.is))
      | in_default w ↦
          ap (λ m. m.entries) w.indexed-is ∙ c.loop-at.invariant
          ∙ sym (none_taken c.args.self.now c.loop-at.at (sym c.get.ensures ∙ w.in_default.is))
    ]
