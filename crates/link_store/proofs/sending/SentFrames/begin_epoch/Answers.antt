use Rattle.link_store.proofs.FrameLemmas.{begins_epoch}
use Rattle.link_store.proofs.sending.SentFrames.begin_epoch.Goals as goal

pub returns-clause-ok : goal.returns-clause-ok
returns-clause-ok c = begins_epoch _ _ c.turn_epoch.new.self c.self.view_is c.in_ok-turn_epoch.ensures.turns
