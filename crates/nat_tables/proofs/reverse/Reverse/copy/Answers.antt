use Rattle.std.proofs.Common.{◌∙◌, ap}
use Rattle.nat_tables.specs.Rows.{present}
use Rattle.nat_tables.proofs.RowWords.{present_swept}
use Rattle.nat_tables.proofs.reverse.Reverse.copy.Goals as goal

pub returns : goal.returns
returns c = ap present c.in_ok-swept.ensures ∙ present_swept (present c.self.inside.endpoints) ∙ c.self.view_is
