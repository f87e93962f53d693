use Rattle.early_arrivals.proofs.EarlyRuns.{none_early, went, passes_back, logged, caught_up}
use Rattle.early_arrivals.proofs.entries_may_arrive_at_once.Goals as goal

pub returns-clause-begins : goal.returns-clause-begins
returns-clause-begins g c = λ w. none_early w

pub returns-clause-moves : goal.returns-clause-moves
returns-clause-moves g c = λ s w early next new ev to freed h hh r moving on arrives.
    went s w early next new ev to freed h hh r moving on arrives

pub returns-clause-stops : goal.returns-clause-stops
returns-clause-stops g c = λ s w early ev limit h r moving p. passes_back s w early ev limit h r moving p

pub returns-clause-arrives : goal.returns-clause-arrives
returns-clause-arrives g c = λ s w early new t n to freed h hh r on. logged s w early new t n to freed h hh r on

pub returns-clause-ends : goal.returns-clause-ends
returns-clause-ends g c = λ w early r all. caught_up w early all r
