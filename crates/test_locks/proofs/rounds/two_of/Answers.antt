use Rattle.std.proofs.Common.{List, [], ◌∷◌, ◌++◌, sym, ap, ◌∙◌}
use Rattle.var_locks.specs.Seats.{Seated}
use Rattle.test_locks.proofs.Keeping.{two_seats}
use Rattle.test_locks.proofs.rounds.two_of.Goals as goal

pub returns : goal.returns
returns g c round places threads all two =
    let x : Seated g.row.P-Value.Denot = c.in_ok-first.first in
    let y : Seated g.row.P-Value.Denot = c.in_ok-second.second in
    two_seats round places threads c.pop-2.new.self.items x y two (sym (c.in_ok-second.ensures.items
    ∙ ap (λ (l : List (Seated g.row.P-Value.Denot)). l ++ y ∷ []) c.in_ok-first.ensures.items)
    ∙ all)
