use Rattle.std.proofs.Common.{◌≡◌, ◌+◌, ◌∙◌, List, [], ◌∷◌, take, slice_set, sym, ap, arith, ℕ, length-append}
use Rattle.std.proofs.lemmas.List.{take_at, set-get_or}
use Rattle.input_logger.specs.Inputs.{Fed}
use Rattle.input_logger.proofs.PlaceLists.{fed_is_indexed, length-inputs}
use Rattle.input_logger.proofs.log.InputLog.feed.Goals as goal

pub invariant_of-self-2 : goal.invariant_of-self-2
invariant_of-self-2 c =
    let log : Fed =
    record { threads = c.self.inside.threads; tags = c.self.inside.tags; packets = c.self.inside.packets } in
    let in_lists = c.self.invariant.one_each in
    rw (c.in-Ok.ensures.ok, c.in_ok-push.ensures.ok, c.len-place.ensures) (fed_is_indexed log c.self.inside.places.items
    c.args.packet c.steer-thread.result c.index_mut-places.result.now c.self.invariant c.steer-thread.ensures.thread
    (omega (arith, c.steer-thread.ensures.below)) c.index_mut-places.ensures.value)

pub returns-clause-number : goal.returns-clause-number
returns-clause-number c =
    let log : Fed =
    record { threads = c.self.inside.threads; tags = c.self.inside.tags; packets = c.self.inside.packets } in
    let in_lists = c.self.invariant.one_each in
    let earlier = length-inputs log c.self.inside.places.items c.steer-thread.result c.index_mut-places.result.now
    c.self.invariant (omega (arith, c.steer-thread.ensures.below)) c.index_mut-places.ensures.value in
    rw (← c.self.view_is, c.len-k.ensures, c.in_ok-push.ensures.ok, length-append) (ap (λ (n : ℕ). n + 1) earlier)

pub invariant_of-self-in_default : goal.invariant_of-self-in_default
invariant_of-self-in_default c =
    let back : c.truncate.new.self ≡ c.index_mut-places.result.now =
    c.truncate.ensures ∙ ap (λ (l : List ℕ). take c.len-earlier.result l) c.in_ok-push.ensures.ok ∙ take_at
    c.index_mut-places.result.now (c.len-place.result ∷ []) c.len-earlier.result (sym c.len-earlier.ensures) in
    let stays : slice_set c.self.inside.places.items c.steer-thread.result c.truncate.new.self
    ≡ c.self.inside.places.items =
    ap (λ (l : List ℕ). slice_set c.self.inside.places.items c.steer-thread.result l)
    (back ∙ c.index_mut-places.ensures.value)
    ∙ set-get_or c.self.inside.places.items c.steer-thread.result c.index_mut-places.result.now in
    rw (c.in_default.ensures.err, stays) c.self.invariant
