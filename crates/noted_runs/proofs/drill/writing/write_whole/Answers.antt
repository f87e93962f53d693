use Rattle.std.proofs.Common.{◌++◌, [], rules}
use Rattle.output_files.proofs.OnlyWriting.{OnlyWrites-files, WritesFiles-trans, WritesFiles-failed}
use Rattle.run_writes.proofs.OpeningSteps.{writable_still}
use Rattle.run_writes.specs.Replies.{packets_in}
use Rattle.run_writes.specs.Run.{names_of, opening_writes, reply_writes}
use Rattle.noted_runs.proofs.WritingSteps.{gathers, opening_failed, records_failed, whole_written}
use Rattle.noted_runs.proofs.drill.writing.write_whole.Goals as goal

pub write_closing-requires : goal.write_closing-requires
write_closing-requires g c =
    writable_still _ _ _ c.in_ok-created.ensures.writable.1 c.in_ok-write_reply.ensures.only_writes.ledger

pub returns-in_err-write_reply-clause-writes_files : goal.returns-in_err-write_reply-clause-writes_files
returns-in_err-write_reply-clause-writes_files g c =
    WritesFiles-trans _ _ 2 0 _ _ _ c.in_ok-created.ensures.writes_files
    (OnlyWrites-files _ _ 0 _ _ c.in_err-write_reply.ensures.only_writes)

pub returns-in_err-write_reply-clause-cause : goal.returns-in_err-write_reply-clause-cause
returns-in_err-write_reply-clause-cause g c fault =
    WritesFiles-failed _ _ 2 _ _ _ c.in_ok-created.ensures.writes_files (c.write_reply.ensures.cause (search rules))

pub returns-in_err-created-clause-shows : goal.returns-in_err-created-clause-shows
returns-in_err-created-clause-shows g c p h =
    opening_failed _ _ _ _ _ _ _ _ c.from_residual.ensures.0 (c.in_err-created.ensures.shows p h)

pub returns-in_err-write_reply-clause-shows : goal.returns-in_err-write_reply-clause-shows
returns-in_err-write_reply-clause-shows g c p h =
    let h0 = c.in_err-write_reply.ensures.before p h in
    let names = names_of c.args.files in
    records_failed _ _ _ _ _ _ _ _ c.from_residual-in_err-write_reply.ensures.0
    (c.in_err-write_reply.ensures.shows p h _ (opening_writes names c.args.unit) names.released
    (c.in_ok-created.ensures.released p h0)
    (gathers names c.args.unit (packets_in c.args.outputs.now) _ _ _ c.new-lines.ensures
    (c.in_ok-created.ensures.shows p h0)))

pub returns-clause-writes_files : goal.returns-clause-writes_files
returns-clause-writes_files g c =
    WritesFiles-trans _ _ 2 0 _ _ _ c.in_ok-created.ensures.writes_files
    (WritesFiles-trans _ _ 0 0 _ _ _ (OnlyWrites-files _ _ 0 _ _ c.in_ok-write_reply.ensures.only_writes)
    (OnlyWrites-files _ _ 0 _ _ c.write_closing.ensures.only_writes))

pub returns-clause-cause : goal.returns-clause-cause
returns-clause-cause g c fault =
    WritesFiles-failed _ _ 2 _ _ _ c.in_ok-created.ensures.writes_files
    (WritesFiles-failed _ _ 0 _ _ _ (OnlyWrites-files _ _ 0 _ _ c.in_ok-write_reply.ensures.only_writes)
    (c.write_closing.ensures.cause fault))

pub returns-clause-shows : goal.returns-clause-shows
returns-clause-shows g c p h =
    let h1 = c.write_closing.ensures.before p h in
    let h0 = c.in_ok-write_reply.ensures.before p h1 in
    let names = names_of c.args.files in
    whole_written names c.args.unit (packets_in c.args.outputs.now) _ _ _ _ _ _ _ c.as_slice-schedule.ensures
    c.as_slice.ensures
    (c.write_closing.ensures.shows p h _
    (opening_writes names c.args.unit
    ++ reply_writes names.released (record { released = packets_in c.args.outputs.now; line = [] }))
    names.schedule
    (c.in_ok-write_reply.ensures.keeps p h1 _ _ (c.in_ok-created.ensures.schedule p h0))
    (c.in_ok-write_reply.ensures.shows p h1 _ (opening_writes names c.args.unit) names.released
    (c.in_ok-created.ensures.released p h0)
    (gathers names c.args.unit (packets_in c.args.outputs.now) _ _ _ c.new-lines.ensures
    (c.in_ok-created.ensures.shows p h0))))
