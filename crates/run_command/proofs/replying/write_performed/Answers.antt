use Rattle.std.proofs.Common.{rules}
use Rattle.run_command.proofs.Answering.{answer_written, nothing_written}
use Rattle.run_command.proofs.replying.write_performed.Goals as goal

pub returns-in-Ok-clause-shows : goal.returns-in-Ok-clause-shows
returns-in-Ok-clause-shows g c p h before writes name is gathered =
    answer_written _ c.args.event.now _ _ writes name _ before _ c.as_slice-outputs.ensures c.in-Ok.reply _
    c.write_answer-files.result c.in-Ok.is c.written.ensures c.write_answer-files.ensures.fit_records
    (λ freed names. c.write_answer-files.ensures.shows p h before writes name freed is names gathered)

pub returns-in-Err-NoMemory-clause-shows : goal.returns-in-Err-NoMemory-clause-shows
returns-in-Err-NoMemory-clause-shows g c p h before writes name is gathered =
    nothing_written _ _ _ writes name _ _ before _ (search rules) gathered
