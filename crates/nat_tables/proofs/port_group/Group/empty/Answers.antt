use Rattle.std.proofs.Common.{[], ◌∷◌, refl, arith}
use Rattle.nat_tables.specs.Placing.{IsCounted}
use Rattle.nat_tables.proofs.GroupLemmas.{group_none}
use Rattle.nat_tables.proofs.WordLemmas.{word_none}
use Rattle.nat_tables.proofs.port_group.Group.empty.Goals as goal

counted : IsCounted (record { count = 0; words = 0 ∷ 0 ∷ 0 ∷ 0 ∷ 0 ∷ 0 ∷ 0 ∷ 0 ∷ [] })
counted = record { words = refl; count = omega (arith, word_none) }

pub returns-clause-counted : goal.returns-clause-counted
returns-clause-counted c = counted

pub returns-clause-ports : goal.returns-clause-ports
returns-clause-ports c = group_none (record { count = 0; words = 0 ∷ 0 ∷ 0 ∷ 0 ∷ 0 ∷ 0 ∷ 0 ∷ 0 ∷ [] }) counted refl
