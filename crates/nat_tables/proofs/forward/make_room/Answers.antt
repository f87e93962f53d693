use Rattle.std.proofs.Common.{◌∙◌, ap}
use Rattle.nat_tables.specs.Rows.{present}
use Rattle.nat_tables.proofs.RowWords.{present_swept}
use Rattle.nat_tables.proofs.forward.make_room.Goals as goal

pub returns-clause-same : goal.returns-clause-same
returns-clause-same c = ap present c.in_ok-swept.ensures ∙ present_swept (present c.args.slots.now)
