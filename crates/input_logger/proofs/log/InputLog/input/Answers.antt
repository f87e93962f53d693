use Rattle.std.proofs.Common.{◌∙◌, ap, slice_get, List}
use Rattle.tagged_frames.specs.FromPlainText.{Packet}
use Rattle.input_logger.specs.Inputs.{Fed}
use Rattle.input_logger.proofs.PlaceLists.{finds_no_thread, finds_no_place, finds_input}
use Rattle.input_logger.proofs.log.InputLog.input.Goals as goal

pub returns-in_err-places : goal.returns-in_err-places
returns-in_err-places c =
    let log : Fed =
    record { threads = c.self.inside.threads; tags = c.self.inside.tags; packets = c.self.inside.packets } in
    rw (c.from_residual.ensures, ← c.self.view_is) (finds_no_thread log c.self.inside.places.items c.deref.result.now
    c.args.thread c.args.k c.self.invariant c.deref.ensures.value c.in_err-places.ensures)

pub returns-in_err-place : goal.returns-in_err-place
returns-in_err-place c =
    let log : Fed =
    record { threads = c.self.inside.threads; tags = c.self.inside.tags; packets = c.self.inside.packets } in
    rw (c.from_residual-in_err-place.ensures, ← c.self.view_is)
    (finds_no_place log c.self.inside.places.items c.deref.result.now c.args.thread c.args.k c.in_ok-earlier.earlier
    c.in_ok-places.places.now c.as_slice.result.now c.self.invariant c.deref.ensures.value c.in_ok-places.ensures
    c.in_ok-earlier.ensures c.as_slice.ensures c.in_err-place.ensures)

pub returns : goal.returns
returns c =
    let log : Fed =
    record { threads = c.self.inside.threads; tags = c.self.inside.tags; packets = c.self.inside.packets } in
    rw (← c.self.view_is) (c.item_at-3.ensures
    ∙ ap (λ (packets : List Packet). slice_get packets c.in_ok-place.place.now) c.as_slice-2.ensures
    ∙ finds_input log c.self.inside.places.items c.deref.result.now c.args.thread c.args.k c.in_ok-earlier.earlier
    c.in_ok-place.place.now c.in_ok-places.places.now c.as_slice.result.now c.self.invariant c.deref.ensures.value
    c.in_ok-places.ensures c.in_ok-earlier.ensures c.as_slice.ensures c.in_ok-place.ensures)
