use Rattle.std.proofs.Common.{◌∙◌, sym}
use Rattle.input_files.proofs.WholeLines.{feed_is_last, other_is_last}
use Rattle.input_files.proofs.texts.whole_lines.Goals as goal

pub returns-then-last-eq10 : goal.returns-then-last-eq10
returns-then-last-eq10 c =
    sym (c.loop-rest.invariant ∙ feed_is_last c.loop-rest.rest.now c.in-len1-up.len_at_least c.if-last-eq10.true)

pub loop-rest-preserved : goal.loop-rest-preserved
loop-rest-preserved c =
    c.loop-rest.invariant ∙ other_is_last c.loop-rest.rest.now c.in-len1-up.len_at_least c.if-last-eq10.false
