use Rattle.box_worlds.proofs.WorldHistories.{past_legal, stored_legal, copy_legal, end_legal, moment_legal}
use Rattle.box_worlds.proofs.WorldHistories.{sends_released}
use Rattle.box_worlds.proofs.laws.histories_hold_over_crashes.Goals as goal

pub returns-clause-past : goal.returns-clause-past
returns-clause-past g c = past_legal

pub returns-clause-stored : goal.returns-clause-stored
returns-clause-stored g c = stored_legal

pub returns-clause-copied : goal.returns-clause-copied
returns-clause-copied g c = copy_legal

pub returns-clause-ends : goal.returns-clause-ends
returns-clause-ends g c = end_legal

pub returns-clause-released : goal.returns-clause-released
returns-clause-released g c = sends_released

pub returns-clause-moments : goal.returns-clause-moments
returns-clause-moments g c = moment_legal
