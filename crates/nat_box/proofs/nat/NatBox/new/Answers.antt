use Rattle.nat_box.proofs.BoxLemmas.{box_is}
use Rattle.nat_box.proofs.nat.NatBox.new.Goals as goal

pub returns : goal.returns
returns c = box_is c.args.settings _ _ _ _ _ _ _ _
