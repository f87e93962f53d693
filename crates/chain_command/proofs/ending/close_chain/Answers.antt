use Rattle.std.proofs.Common.{◌∙◌}
use Rattle.chain_command.proofs.Closing.{err_finishes, still_begun, closes}
use Rattle.chain_command.proofs.ending.close_chain.Goals as goal

pub returns-in_err-finished-clause-shows : goal.returns-in_err-finished-clause-shows
returns-in_err-finished-clause-shows g c p h s r names events before are come =
    err_finishes _ s r names events before _ c.from_residual.ensures.0
    (still_begun g.P.Program.meaning g.Q.Program.meaning s r names events c.args.chain c.args.lines.now before _ come)

pub returns-in_err-closing-clause-shows : goal.returns-in_err-closing-clause-shows
returns-in_err-closing-clause-shows g c p h s r names events before are come =
    err_finishes _ s r names events before _ c.from_residual-in_err-closing.ensures.0
    (still_begun g.P.Program.meaning g.Q.Program.meaning s r names events c.args.chain c.args.lines.now before _ come)

pub returns-clause-shows : goal.returns-clause-shows
returns-clause-shows g c p h s r names events before are come =
    let ends = c.in_ok-finished.ensures s r come.worlds come.at.stands in
    closes g.P.Program.meaning g.Q.Program.meaning s r names events c.args.chain c.args.lines.now before _ come
    c.in_ok-finished.finished.first c.in_ok-finished.finished.second ends.0 ends.1 c.in_ok-closing.ensures.fit_first
    c.in_ok-closing.ensures.fit_second _ _ _ _ _ (c.as_slice-first.ensures ∙ c.in_ok-closing.ensures.first)
    (c.as_slice-second.ensures ∙ c.in_ok-closing.ensures.second)
    (c.as_slice.ensures ∙ c.in_ok-closing.ensures.last)
    (c.write_closing.ensures.shows p h before _ names are come.gathered)
