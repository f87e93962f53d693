use Rattle.std.proofs.Common.{◌≡◌, Some, ap, ◌∙◌, subst}
use Rattle.std.proofs.lemmas.Option.{IfSome_then}
use Rattle.link_store.specs.Kept.{bytes_of}
use Rattle.link_store.specs.Links.{frame_at}
use Rattle.link_store.specs.Runs.{Run, frames_of}
use Rattle.link_store.proofs.AllLemmas.{found_in, others_in, if_none_then}
use Rattle.link_store.proofs.links.take_first_in_runs.Goals as goal

pub returns-clause-taken : goal.returns-clause-taken
returns-clause-taken c =
    let run = c.index_mut.result.now in
    let at = c.args.at.now in
    IfSome_then c.take_first.result c.take_first.ensures.taken
    (λ frame some. found_in c.args.runs.now.items c.in_ok-i.i at (bytes_of at.epoch frame) run c.in_ok-i.ensures.0
    c.in_ok-i.ensures.1
    (subst (λ (r : Run). frame_at (frames_of r) at ≡ Some (bytes_of at.epoch frame)) c.index_mut.ensures.value some))

pub returns-clause-others : goal.returns-clause-others
returns-clause-others c a apart =
    let run = c.index_mut.result.now in
    others_in c.args.runs.now.items c.in_ok-i.i c.take_first.new.self run a
    (c.take_first.ensures.others a apart
    ∙ ap (λ (r : Run). frame_at (frames_of r) a) c.index_mut.ensures.value)

pub returns-clause-none : goal.returns-clause-none
returns-clause-none c a =
    let run = c.index_mut.result.now in
    if_none_then c.take_first.result c.take_first.ensures.none
    (λ same. others_in c.args.runs.now.items c.in_ok-i.i c.take_first.new.self run a
    (ap (λ (r : Run). frame_at (frames_of r) a) (same ∙ c.index_mut.ensures.value)))
