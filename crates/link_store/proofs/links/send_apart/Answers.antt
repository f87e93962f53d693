use Rattle.link_store.specs.Kept.{bytes_of}
use Rattle.link_store.proofs.AllLemmas.{sent_to_empty, sent_to_new}
use Rattle.link_store.proofs.RunLemmas.{sends_alone, sends_into_empty}
use Rattle.link_store.proofs.links.send_apart.Goals as goal

pub returns-in-Some-clause-ok : goal.returns-in-Some-clause-ok
returns-in-Some-clause-ok c =
    let at = c.args.at in
    let run = c.in_ok-run.run' in
    sent_to_empty c.args.runs.now.items c.in-Some.i at run (bytes_of at.epoch c.args.frame) run c.requires
    c.in-Some.ensures.0 (sends_into_empty _ run at c.args.frame (c.in-Some.ensures.1 run) c.in_ok-run.ensures)

pub returns-in_ok-push-in-None-clause-ok : goal.returns-in_ok-push-in-None-clause-ok
returns-in_ok-push-in-None-clause-ok c =
    let at = c.args.at in
    let run = c.in_ok-run.run' in
    rw c.in_ok-push-in-None.ensures.items (sent_to_new c.args.runs.now.items run at (bytes_of at.epoch c.args.frame)
    c.requires (sends_alone run at c.args.frame c.in_ok-run.ensures))
