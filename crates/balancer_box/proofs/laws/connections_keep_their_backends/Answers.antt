use Rattle.balancer_box.proofs.Entries.{connections_keep}
use Rattle.balancer_box.proofs.laws.connections_keep_their_backends.Goals as goal

pub returns : goal.returns
returns c = connections_keep
