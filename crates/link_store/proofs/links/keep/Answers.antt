use Rattle.std.proofs.Common.{subst}
use Rattle.std.proofs.lemmas.Result.{on_ok_weaker}
use Rattle.link_store.specs.Kept.{bytes_of}
use Rattle.link_store.specs.Links.{Sends}
use Rattle.link_store.specs.Runs.{Run, frames_of}
use Rattle.link_store.proofs.AllLemmas.{sent_to_taker}
use Rattle.link_store.proofs.links.keep.Goals as goal

pub returns-in-Some-clause-ok : goal.returns-in-Some-clause-ok
returns-in-Some-clause-ok c =
    let at = c.args.at in
    let bytes = bytes_of at.epoch c.args.frame in
    on_ok_weaker c.put.result
    (λ sends. sent_to_taker c.args.runs.now.items c.in-Some.i at c.put.new.self bytes c.index_mut.result.now
    c.in-Some.ensures.found
    (subst (λ (r : Run). Sends (frames_of r) (frames_of c.put.new.self) at bytes) c.index_mut.ensures.value sends))
    c.put.ensures.ok
