use Rattle.handover_world.proofs.Counting.{any_counted, stops_counted, performs_counted, performed_counted}
use Rattle.handover_world.proofs.Counting.{reached_counted, any_others, stops_others, performed_others, reached_others}
use Rattle.handover_world.proofs.laws.reached_worlds_are_counted.Goals as goal

pub returns-clause-reached : goal.returns-clause-reached
returns-clause-reached g c = λ s. reached_counted s

pub returns-clause-performed : goal.returns-clause-performed
returns-clause-performed g c = λ s events lines w. performed_counted s w events lines

pub returns-clause-kept : goal.returns-clause-kept
returns-clause-kept g c = λ s. any_counted s

pub returns-clause-stopped : goal.returns-clause-stopped
returns-clause-stopped g c = λ s. stops_counted s

pub returns-clause-goes_on : goal.returns-clause-goes_on
returns-clause-goes_on g c = λ s w events lines new. performs_counted s w new events lines

pub returns-clause-others : goal.returns-clause-others
returns-clause-others g c = λ s. reached_others s

pub returns-clause-others_performed : goal.returns-clause-others_performed
returns-clause-others_performed g c = λ s events lines w. performed_others s w events lines

pub returns-clause-others_kept : goal.returns-clause-others_kept
returns-clause-others_kept g c = λ s. any_others s

pub returns-clause-others_stopped : goal.returns-clause-others_stopped
returns-clause-others_stopped g c = λ s. stops_others s
