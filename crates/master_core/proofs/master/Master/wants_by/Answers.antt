use Rattle.std.proofs.Common.{rules, ap, sym, ◌∙◌, subst, ◌<◌, length, ◌≡◌, Some}
use Rattle.std.specs.Prelude.{slice_index_or}
use Rattle.master_core.specs.declared.parts.ThreadPart.{ThreadPart}
use Rattle.plain_machine.specs.declared.local.Move.TheVariants as move
use Rattle.master_core.specs.Stepping.{next_with}
use Rattle.master_core.proofs.WantsLemmas.{wants_touch, wants_read, touches_below, reads_below}
use Rattle.master_core.proofs.master.Master.wants_by.Goals as goal

pub returns-in-Access : goal.returns-in-Access
returns-in-Access g c = record {
  wanted = λ threads steps is.
      let part = c.index-part.result.now in
      let part_is : part ≡ slice_index_or c.args.self.now.threads c.args.thread part = search rules in
      let m = g.P.Program.meaning c.args.program.now in
      let next = subst (λ (y : ThreadPart). next_with m y.hand ≡ Some (move.Access c.in-Access.var)) (sym part_is)
      (sym (c.requires.next part) ∙ (c.in-Some.is ∙ ap Some c.in-Access.is)) in
      wants_touch m threads steps c.args.self.now c.args.thread c.in-Access.var c.places.result part is
      c.requires.thread_in part_is next
      (touches_below m (g.P.Program.fits c.args.program.now) part.hand c.in-Access.var
      (g.met.P.Program.lawful c.args.program.now) next) c.places.ensures;
}

pub returns-in-Read : goal.returns-in-Read
returns-in-Read g c = record {
  wanted = λ threads steps is.
      let part = c.index-part.result.now in
      let part_is : part ≡ slice_index_or c.args.self.now.threads c.args.thread part = search rules in
      let m = g.P.Program.meaning c.args.program.now in
      let next = subst (λ (y : ThreadPart). next_with m y.hand ≡ Some (move.Read c.in-Read.var)) (sym part_is)
      (sym (c.requires.next part) ∙ (c.in-Some.is ∙ ap Some c.in-Read.is)) in
      wants_read m threads steps c.args.self.now c.args.thread c.in-Read.var c.places-in-Read.result part is
      c.requires.thread_in part_is next
      (reads_below m (g.P.Program.fits c.args.program.now) part.hand c.in-Read.var
      (g.met.P.Program.lawful c.args.program.now) next) c.places-in-Read.ensures;
}
