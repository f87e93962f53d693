use Rattle.std.proofs.Common.{rules, ℕ, ◌≤◌, ◌^◌, sym, ap, ◌∙◌, subst, List}
use Rattle.std.specs.Prelude.{slice_index}
use Rattle.master_core.specs.declared.parts.VarPart.{VarPart}
use Rattle.var_locks.specs.Openings.{places_of}
use Rattle.var_locks.proofs.FirstWords.{few_places, split_opens}
use Rattle.var_locks.proofs.vars.Vars.of.Goals as goal

pub first_words-requires : goal.first_words-requires
first_words-requires g c = record {
  small = λ v. subst (λ (l : List ℕ). slice_index l v ≤ 2 ^ 60)
      (sym (c.deref-2.ensures.value
      ∙ (c.in_ok-places.ensures ∙ ap (λ (l : List (VarPart g.row.P-Value.Denot)). places_of l) c.deref.ensures.value)))
      (few_places c.split-parts.result.vars.items c.split-parts.result.threads.items c.split-parts.ensures.bounded v);
}

pub begin-requires-clause-opens : goal.begin-requires-clause-opens
begin-requires-clause-opens g c κs within =
    split_opens (g.P.Program.meaning c.args.program.now) (g.P.Program.fits c.args.program.now) g.row.P-Value.coded
    g.J.Round.opening g.J.Round.threads g.J.Round.places c.args.master c.split-parts.result.vars.items
    c.split-parts.result.threads.items _ c.deref-2.result.now c.split-parts.ensures.parts c.split-parts.ensures.bounded
    c.requires.master c.requires.threads c.requires.places c.requires.fits
    (c.deref-2.ensures.value
    ∙ (c.in_ok-places.ensures ∙ ap (λ (l : List (VarPart g.row.P-Value.Denot)). places_of l) c.deref.ensures.value))
    (search rules)
