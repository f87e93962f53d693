-- The variables of a round, by their fields.
use Rattle.std.proofs.Common.{◌≡◌, sym, subst}
use Rattle.std.specs.Coded.{Coded}
use Rattle.plain_machine.specs.Program.{Meaning}
use Rattle.var_locks.specs.Rounds.{Opened, IsRoundOf, AreVarsOf}

-- what is seen of them is so of the fields
pub are_inside : {P V : Type 0} {meaning : P → Meaning V} {c : Coded P} {d : Coded V} {q : P} {x y : Opened} → x ≡ y
    → AreVarsOf meaning c d q y → AreVarsOf meaning c d q x
are_inside {P} {V} {meaning} {c} {d} {q} is are = subst (λ (z : Opened). AreVarsOf meaning c d q z) (sym is) are

pub round_inside : {P V : Type 0} {meaning : P → Meaning V} {c : Coded P} {d : Coded V} {q : P} {x y : Opened} → x ≡ y
    → AreVarsOf meaning c d q y → IsRoundOf meaning c d x.program x.opening x.parts q x.round.words
round_inside is are = (are_inside is are).of
