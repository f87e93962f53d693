use Rattle.std.proofs.Common.{◌<◌, List, OnOk, length, slice_set, sym, ap, subst}
use Rattle.link_store.specs.declared.kept.Form.{Form}
use Rattle.link_store.specs.Rows.{forms_of, TellsOne}
use Rattle.link_store.proofs.ToldLemmas.{tells_still, tells_set, on_ok_both}
use Rattle.link_store.proofs.row.FrameRow.tell.Goals as goal

pub returns-in-Narrow-clause-tells : goal.returns-in-Narrow-clause-tells
returns-in-Narrow-clause-tells c =
    subst (λ (l : List Form). TellsOne c.args.i l c.in-Narrow.frames.items) (sym (ap forms_of c.in-Narrow.is))
    (tells_still c.args.i c.in-Narrow.frames.items c.index.result.now c.index.ensures c.is_told.ensures)

pub returns-in-Whole-clause-tells : goal.returns-in-Whole-clause-tells
returns-in-Whole-clause-tells c =
    let frames = c.in-Whole.frames.items in
    let low = subst (λ (l : List Form). c.args.i < length l) (ap forms_of c.in-Whole.is) c.requires in
    subst
    (λ (l : List Form). OnOk c.tell.result (TellsOne c.args.i l (slice_set frames c.args.i c.tell.new.self)))
    (sym (ap forms_of c.in-Whole.is))
    (on_ok_both c.tell.result
    (λ told same. tells_set c.args.i frames c.index_mut.result.now c.tell.new.self low c.index_mut.ensures.value told same)
    c.tell.ensures.told c.tell.ensures.same)
