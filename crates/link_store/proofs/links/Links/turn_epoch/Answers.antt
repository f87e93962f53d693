use Rattle.link_store.proofs.AllLemmas.{turns_all}
use Rattle.link_store.proofs.EntryLemmas.{no_entry_then}
use Rattle.link_store.proofs.links.Links.turn_epoch.Goals as goal

pub invariant_of-self-2 : goal.invariant_of-self-2
invariant_of-self-2 c = no_entry_then c.args.epoch _ _
    (turns_all c.args.epoch c.self.inside.runs.items c.turn_runs.new.runs.items c.in_ok-turn_runs.ensures)

pub returns : goal.returns
returns c = rw (← c.self.view_is) (record {
  turns = turns_all c.args.epoch c.self.inside.runs.items c.turn_runs.new.runs.items c.in_ok-turn_runs.ensures;
})
