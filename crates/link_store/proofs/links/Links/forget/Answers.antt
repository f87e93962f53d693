use Rattle.link_store.specs.Links.{address, IsUpTo}
use Rattle.link_store.proofs.AllLemmas.{forgets_all}
use Rattle.link_store.proofs.EntryLemmas.{still_no_entry}
use Rattle.link_store.proofs.links.Links.forget.Goals as goal

pub invariant_of-self : goal.invariant_of-self
invariant_of-self c =
    let s = c.self.inside in
    let at = address c.args.epoch c.args.kind c.args.thread c.args.up_to in
    still_no_entry (IsUpTo at) s.spelled _ _ (forgets_all (IsUpTo at) s.runs.items c.forget_in_runs.new.runs.items
    c.forget_in_runs.ensures) c.self.invariant

pub returns : goal.returns
returns c =
    let s = c.self.inside in
    rw (← c.self.view_is) (record {
      forgotten = forgets_all (IsUpTo (address c.args.epoch c.args.kind c.args.thread c.args.up_to)) s.runs.items
          c.forget_in_runs.new.runs.items c.forget_in_runs.ensures;
    })
