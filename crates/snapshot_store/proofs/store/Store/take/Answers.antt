use Rattle.std.proofs.Common.{rules, ◌≡◌, length}
use Rattle.master_core.specs.FromBoxProgram.{FitsProgram}
use Rattle.master_core.specs.Mastered.{value_of}
use Rattle.master_core.specs.Deltas.{applied}
use Rattle.snapshot_store.specs.declared.store.Taken.{Taken}
use Rattle.snapshot_store.specs.Stored.{Snapshot}
use Rattle.snapshot_store.proofs.TakenLemmas.{of_some, delta_length, has_taken, taken_fits}
use Rattle.snapshot_store.proofs.store.Store.take.Goals as goal

pub invariant_of-self : goal.invariant_of-self
invariant_of-self g c t e =
    let same : length c.self.inside.master.vars ≡ length c.args.master.now.vars = search rules in
    let count : length c.in_ok-taken.taken.delta.vars ≡ length c.self.inside.master.vars =
    delta_length c.self.inside.master c.args.master.now c.in_ok-taken.taken.delta c.in_ok-taken.ensures.delta same in
    of_some (λ (x : Taken g.row.P.Denot g.row.P-Value.Denot). length x.delta.vars ≡ length c.self.inside.master.vars) _
    count t e

pub returns-clause-taken : goal.returns-clause-taken
returns-clause-taken g c =
    let m = g.P.Program.meaning c.args.program.now in
    let same : length c.self.inside.master.vars ≡ length c.args.master.now.vars = search rules in
    let stored : Snapshot g.row.P-Value.Denot =
    record { master = c.self.inside.master; moves = c.self.inside.moves } in
    rw (← c.self.view_is, c.in_ok-taken.ensures.moves)
    (has_taken m stored c.args.master.now c.args.moves c.in_ok-taken.taken.delta c.in_ok-taken.ensures.delta
    c.requires.master.count same)

pub returns-clause-fits : goal.returns-clause-fits
returns-clause-fits g c =
    let m = g.P.Program.meaning c.args.program.now in
    let fits = g.P.Program.fits c.args.program.now in
    let old : FitsProgram m fits value_of c.self.inside.master.vars = search rules in
    let new : FitsProgram m fits value_of (applied c.self.inside.master c.in_ok-taken.taken.delta).vars =
    rw c.in_ok-taken.ensures.delta (taken_fits m fits c.self.inside.master c.args.master.now old c.requires.master) in
    of_some (λ (s : Snapshot g.row.P-Value.Denot). FitsProgram m fits value_of s.master.vars) _ new
