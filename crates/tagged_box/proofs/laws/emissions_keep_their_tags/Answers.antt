use Rattle.tagged_box.proofs.Emissions.{sent_keep}
use Rattle.tagged_box.proofs.laws.emissions_keep_their_tags.Goals as goal

pub returns : goal.returns
returns g c = λ m tags inputs threads steps h. sent_keep tags m inputs threads steps h
