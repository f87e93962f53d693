use Rattle.std.proofs.Common.{length, ap, ◌∙◌}
use Rattle.test_rounds.proofs.Keeping.{generators_count}
use Rattle.test_rounds.proofs.agreeing.race_by.Goals as goal

pub go_on_by-requires-clause-draws : goal.go_on_by-requires-clause-draws
go_on_by-requires-clause-draws g c κs within = ap length c.in-Ok.ensures ∙ generators_count _ _ _
