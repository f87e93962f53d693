use Rattle.link_store.specs.Links.{address, IsPast}
use Rattle.link_store.proofs.AllLemmas.{forgets_all}
use Rattle.link_store.proofs.EntryLemmas.{still_no_entry}
use Rattle.link_store.proofs.links.Links.forget_past.Goals as goal

pub invariant_of-self : goal.invariant_of-self
invariant_of-self c =
    let s = c.self.inside in
    let at = address c.args.epoch c.args.kind c.args.thread c.args.last in
    still_no_entry (IsPast at) s.spelled _ _ (forgets_all (IsPast at) s.runs.items c.forget_past_in_runs.new.runs.items
    c.forget_past_in_runs.ensures) c.self.invariant

pub returns : goal.returns
returns c =
    let s = c.self.inside in
    rw (← c.self.view_is) (record {
      forgotten = forgets_all (IsPast (address c.args.epoch c.args.kind c.args.thread c.args.last)) s.runs.items
          c.forget_past_in_runs.new.runs.items c.forget_past_in_runs.ensures;
    })
