use Rattle.output_files.proofs.Effects.{err_gathers}
use Rattle.run_writes.proofs.ReplySteps.{reply_begun, reply_lines_begun, reply_gathered, lines_gone}
use Rattle.run_writes.proofs.replying.write_reply.Goals as goal

pub returns-in_err-write_outputs-clause-shows : goal.returns-in_err-write_outputs-clause-shows
returns-in_err-write_outputs-clause-shows g c p h before writes name is gathered =
    err_gathers _ _ _ before _ c.from_residual.ensures.0
    (reply_begun writes name _ _ before _ (c.in_err-write_outputs.ensures.shows p h before writes name is gathered))

pub returns-in_err-extend-clause-shows : goal.returns-in_err-extend-clause-shows
returns-in_err-extend-clause-shows g c p h before writes name is gathered =
    err_gathers _ _ _ before _ c.from_residual-in_err-extend.ensures.0 (reply_lines_begun writes name _ _ before _ _
    (c.in_ok-write_outputs.ensures.shows p h before writes name is gathered))

pub returns-in_err-write_lines-clause-shows : goal.returns-in_err-write_lines-clause-shows
returns-in_err-write_lines-clause-shows g c p h before writes name is gathered =
    let records = c.in_ok-write_outputs.ensures.shows p (c.in_err-write_lines.ensures.before p h)
    before writes name is gathered in
    let done = reply_gathered writes name _ _ before _ _ _ c.in_ok-extend.ensures.ok records in
    err_gathers _ _ _ before _ c.from_residual-in_err-write_lines.ensures.0
    (c.in_err-write_lines.ensures.shows p h before _ done)

pub returns-in_ok-write_lines-clause-shows : goal.returns-in_ok-write_lines-clause-shows
returns-in_ok-write_lines-clause-shows g c p h before writes name is gathered =
    let records = c.in_ok-write_outputs.ensures.shows p (c.in_ok-write_lines.ensures.before p h)
    before writes name is gathered in
    let done = reply_gathered writes name _ _ before _ _ _ c.in_ok-extend.ensures.ok records in
    lines_gone _ _ before _ c.in_ok-write_lines.ensures.none (c.in_ok-write_lines.ensures.shows p h before _ done)

pub returns-else-len-gt-GATHERED-clause-shows : goal.returns-else-len-gt-GATHERED-clause-shows
returns-else-len-gt-GATHERED-clause-shows g c p h before writes name is gathered =
    reply_gathered writes name _ _ before _ _ _ c.in_ok-extend.ensures.ok
    (c.in_ok-write_outputs.ensures.shows p h before writes name is gathered)
