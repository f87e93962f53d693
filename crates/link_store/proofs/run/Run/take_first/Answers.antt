use Rattle.std.proofs.Common.{◌≡◌, ◌≢◌, ◌+◌, ◌<◌, ◌∙◌, List, sym, ap, subst, length, arith}
use Rattle.link_store.specs.declared.kept.Form.{Form}
use Rattle.link_store.specs.Kept.{AreTold}
use Rattle.link_store.specs.Rows.{forms_of}
use Rattle.link_store.proofs.RunLemmas.{drops_head, is_min, at_first, below_min}
use Rattle.link_store.proofs.ToldLemmas.{told_drop}
use Rattle.link_store.proofs.run.Run.take_first.Goals as goal

pub invariant_of-self-2 : goal.invariant_of-self-2
invariant_of-self-2 c =
    let s = c.self.inside in
    let next = c.saturating_add-self-inside.result in
    let most = below_min (s.first.number + 1) _ next c.saturating_add-self-inside.ensures in
    let fits = c.self.invariant.fits in
    let many = ap length c.in_ok-frame.ensures.items in
    record {
      fits = omega (arith, fits, many, most);
      told = subst (λ (l : List Form). AreTold c.saturating_sub-self-inside.result l) (sym c.pop_front.ensures.rest)
          (rw c.saturating_sub-self-inside.ensures (told_drop s.told (forms_of s.frames) c.self.invariant.told));
    }

pub returns-clause-others : goal.returns-clause-others
returns-clause-others c a apart =
    let s = c.self.inside in
    let next = c.saturating_add-self-inside.result in
    let fits = c.self.invariant in
    let there = rw (← c.self.view_is) at c.in_ok-place.ensures.there in
    let is = at_first s.first c.args.at.now c.in_ok-place.place (omega (arith, c.if-place-gt0.false)) there in
    let follows : 1 < length (forms_of s.frames) → next ≡ s.first.number + 1 =
    λ more. is_min (s.first.number + 1) _ next c.saturating_add-self-inside.ensures (omega (arith, fits, more)) in
    let far : a ≢ s.first = λ e. apart (e ∙ sym is) in
    rw (← c.self.view_is, c.pop_front.ensures.rest) (drops_head (forms_of s.frames) s.first next follows a far)
