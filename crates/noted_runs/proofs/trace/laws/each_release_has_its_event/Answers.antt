use Rattle.noted_runs.proofs.LawLemmas.{all_departed}
use Rattle.noted_runs.proofs.trace.laws.each_release_has_its_event.Goals as goal

pub returns : goal.returns
returns g c = λ s events departures w h. all_departed s events departures w h
