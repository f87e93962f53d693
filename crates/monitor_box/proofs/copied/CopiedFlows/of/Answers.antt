use Rattle.std.proofs.Common.{◌∙◌}
use Rattle.monitor_box.proofs.RowLemmas.{both}
use Rattle.monitor_box.proofs.copied.CopiedFlows.of.Goals as goal

pub returns : goal.returns
returns c =
    rw (
      c.in_ok-from_slice.ensures.items ∙ c.as_slice.ensures ∙ c.keys.ensures.rest,
      c.in_ok-from_slice-2.ensures.items ∙ c.as_slice-2.ensures ∙ c.values.ensures.rest,
    ) (both c.args.counts.now.entries)
