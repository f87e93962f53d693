-- The inputs of each thread are of bytes, where the packets of the capture are.
use Rattle.std.proofs.Common.{subst}
use Rattle.std.specs.Prelude.{All, ◌==◌}
use Rattle.std.proofs.lemmas.List.Elements.{All-filter}
use Rattle.std.proofs.lemmas.Option.{slice_get_within, get_or_from_slice_get}
use Rattle.plain_text.specs.Octets.{IsOfBytes}
use Rattle.input_logger.specs.Inputs.{thread_of}
use Rattle.monitor_box.specs.FlowStanding.{HaveBytes}
use Rattle.recovery_world.specs.World.{Setting, all_inputs}

pub inputs_have_bytes : {V : Type 0} (s : Setting V) → All IsOfBytes s.packets → HaveBytes (all_inputs s)
inputs_have_bytes s all t k p e =
    let inputs = all_inputs s t in
    let kept : All IsOfBytes inputs =
    All-filter (λ packet. thread_of s.tags packet s.threads == t) IsOfBytes s.packets all in
    subst IsOfBytes (get_or_from_slice_get inputs k p p e) (kept k p (slice_get_within inputs k p e))
