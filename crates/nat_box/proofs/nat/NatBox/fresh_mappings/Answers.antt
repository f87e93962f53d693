use Rattle.std.proofs.Common.{◌∙◌, ap, []}
use Rattle.nat_box.specs.Statics.{kept}
use Rattle.nat_box.specs.Starting.{mapped_all}
use Rattle.nat_box.proofs.Starting.{start_mappings}
use Rattle.nat_box.proofs.nat.NatBox.fresh_mappings.Goals as goal

pub returns : goal.returns
returns c =
    c.in_ok-table.ensures
    ∙ ap (λ ports. mapped_all c.args.self.now.settings c.args.var ports [])
    (c.as_slice-2.ensures.value ∙ c.in_ok-ports.ensures ∙ ap kept c.as_slice.ensures)
    ∙ start_mappings c.args.self.now.settings c.args.var c.args.self.now.settings.statics
