use Rattle.std.proofs.Common.{◌≡◌, ℕ, List, rules, sym, ap, ◌∙◌, subst}
use Rattle.wire_frames.specs.declared.frame.Frame.TheVariants as frame
use Rattle.wire_frames.specs.Layout.{IsFrame}
use Rattle.link_store.specs.declared.kept.Form.{Form}
use Rattle.link_store.specs.Kept.{bytes_of, IsTold}
use Rattle.link_store.proofs.KeptLemmas.{is_told, told_same, told_is}
use Rattle.link_store.proofs.kept.KeptFrame.tell.Goals as goal

pub returns-in_ok-threads-clause-same : goal.returns-in_ok-threads-clause-same
returns-in_ok-threads-clause-same c epoch threads o is =
    let here : c.as_slice.result.now ≡ bytes_of epoch c.args.self.now =
    c.as_slice.ensures
    ∙ sym (ap (λ (f : Form). bytes_of epoch f) c.in-Spelled.is)
    ∙ ap (λ (f : Form). bytes_of epoch f) c.self.view_is in
    let k = c.in_ok-threads.ensures.same epoch threads o
    (subst (λ (l : List ℕ). IsFrame l (frame.Output epoch threads o)) (sym here) is) in
    let same = told_is c.in_ok-threads.threads threads c.in_ok-threads.output o k.0 k.1 in
    search (rules, same)

pub returns-in_default-clause-same : goal.returns-in_default-clause-same
returns-in_default-clause-same c epoch threads o is =
    told_same epoch c.args.self.now (subst IsTold c.self.view_is (is_told c.self.inside.form c.self.invariant
    (λ bytes e. c.in_default.not-Spelled bytes e))) threads o is
