use Rattle.std.proofs.Common.{Option, sym, ap, ◌∙◌, option_copied}
use Rattle.std.specs.List.{slice_get}
use Rattle.std.specs.Option.{option_map}
use Rattle.link_store.specs.Rows.{forms_of, form_of}
use Rattle.link_store.specs.declared.address.Address.{Address}
use Rattle.link_store.specs.declared.kept.Form.{Form}
use Rattle.link_store.specs.Kept.{bytes_of}
use Rattle.link_store.specs.Links.{frame_at}
use Rattle.link_store.specs.Runs.{in_turn}
use Rattle.link_store.proofs.RunLemmas.{run_in, run_out}
use Rattle.link_store.proofs.run.Run.get.Goals as goal

pub returns : goal.returns
returns c =
    let s = c.self.inside in
    let i = c.in_ok-index_of.field-0 in
    let there = rw (← c.self.view_is) at c.in_ok-index_of.ensures.there in
    rw (← c.self.view_is) (ap (λ (o : Option Form). option_map (bytes_of c.args.at.now.epoch) o) c.get.ensures
    ∙ ap (λ (b : Address). option_map (bytes_of b.epoch) (slice_get (forms_of s.frames) i)) there
    ∙ sym (run_in (forms_of s.frames) s.first i)
    ∙ sym (ap (λ (b : Address). frame_at (in_turn s.first (forms_of s.frames)) b) there))

pub returns-in_err-index_of : goal.returns-in_err-index_of
returns-in_err-index_of c =
    ap (λ o. option_map (bytes_of c.args.at.now.epoch) (option_map form_of o)) c.from_residual.ensures
    ∙ sym (run_out c.args.self.now.frames c.args.self.now.first c.args.at.now
    (λ i low e. c.in_err-index_of.ensures.none i e))
