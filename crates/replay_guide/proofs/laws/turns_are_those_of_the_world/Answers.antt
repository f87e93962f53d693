use Rattle.std.proofs.Common.{true, false}
use Rattle.plain_machine.specs.History.{log_of}
use Rattle.replay_guide.proofs.WorldTurns.{waits_are_awaited, awaited_waits, line_log, line_good, past_good, past_kept}
use Rattle.replay_guide.proofs.WorldTurns.{followed_kept}
use Rattle.replay_guide.proofs.laws.turns_are_those_of_the_world.Goals as goal

pub returns-clause-touch : goal.returns-clause-touch
returns-clause-touch g c = λ s w guide t v readers u m sound guides stamp.
    waits_are_awaited (line_log s w sound) (log_of w.past) w.followed guide (line_good s w sound) (past_good s w sound)
    (past_kept s w sound) (followed_kept s w sound) guides v readers stamp t false u m

pub returns-clause-read : goal.returns-clause-read
returns-clause-read g c = λ s w guide t v readers u m sound guides stamp.
    waits_are_awaited (line_log s w sound) (log_of w.past) w.followed guide (line_good s w sound) (past_good s w sound)
    (past_kept s w sound) (followed_kept s w sound) guides v readers stamp t true u m

pub returns-clause-touch_goes : goal.returns-clause-touch_goes
returns-clause-touch_goes g c = λ s w guide t v readers sound guides stamp none e awaited.
    none e.thread e.number (awaited_waits (line_log s w sound) (log_of w.past) w.followed guide (line_good s w sound)
    (past_good s w sound) (past_kept s w sound) (followed_kept s w sound) guides v readers stamp t false e awaited)

pub returns-clause-read_goes : goal.returns-clause-read_goes
returns-clause-read_goes g c = λ s w guide t v readers sound guides stamp none e awaited.
    none e.thread e.number (awaited_waits (line_log s w sound) (log_of w.past) w.followed guide (line_good s w sound)
    (past_good s w sound) (past_kept s w sound) (followed_kept s w sound) guides v readers stamp t true e awaited)
