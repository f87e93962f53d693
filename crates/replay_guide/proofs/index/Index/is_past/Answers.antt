use Rattle.replay_guide.specs.Indexes.{AreLasts}
use Rattle.replay_guide.proofs.IndexLemmas.{past_some, past_none}
use Rattle.replay_guide.proofs.index.Index.is_past.Goals as goal

pub returns-in-Some-clause-touches : goal.returns-in-Some-clause-touches
returns-in-Some-clause-touches c = λ less.
    let s = c.args.self.now in
    let are : AreLasts s.lasts.entries s.touches.entries s.reads.keys = s.lasts_are in
    (are c.args.var c.args.places (past_some s.lasts.entries c.args.var c.in-Some.last.now c.args.places
    c.in-Some.ensures.value less)).0

pub returns-in-Some-clause-reads : goal.returns-in-Some-clause-reads
returns-in-Some-clause-reads c = λ less.
    let s = c.args.self.now in
    let are : AreLasts s.lasts.entries s.touches.entries s.reads.keys = s.lasts_are in
    (are c.args.var c.args.places (past_some s.lasts.entries c.args.var c.in-Some.last.now c.args.places
    c.in-Some.ensures.value less)).1

pub returns-in-None-clause-touches : goal.returns-in-None-clause-touches
returns-in-None-clause-touches c = λ is.
    let s = c.args.self.now in
    let are : AreLasts s.lasts.entries s.touches.entries s.reads.keys = s.lasts_are in
    (are c.args.var c.args.places (past_none s.lasts.entries c.args.var c.args.places c.in-None.ensures.value)).0

pub returns-in-None-clause-reads : goal.returns-in-None-clause-reads
returns-in-None-clause-reads c = λ is.
    let s = c.args.self.now in
    let are : AreLasts s.lasts.entries s.touches.entries s.reads.keys = s.lasts_are in
    (are c.args.var c.args.places (past_none s.lasts.entries c.args.var c.args.places c.in-None.ensures.value)).1
