use Rattle.std.proofs.Common.{◌<◌, ◌^◌, ℕ, List, slice_index, subst, arith}
use Rattle.wire_frames.specs.declared.frame.Frame.TheVariants as frame
use Rattle.wire_frames.specs.Layout.{IsCaptured}
use Rattle.wire_frames.proofs.Ranges.{is_sent}
use Rattle.wire_frames.proofs.Whole.{is_written}
use Rattle.link_store.proofs.kept.has_frame.Goals as goal

pub returns : goal.returns
returns c =
    let o = c.args.output.now in
    let Fits : List ℕ → Type 0 = λ l. (u : ℕ) → slice_index l u < 2 ^ 32 in
    let fit = subst Fits c.components-components.ensures.value c.fit_components.ensures in
    let sent = is_sent 1 c.args.threads o.thread o.number o.stamp c.requires.sent (omega arith)
    c.fit_numbers.ensures.number c.components-components.ensures.all (λ u. omega (arith, fit u)) in
    let captured : IsCaptured o.packet = record {
      seconds = c.fit_packet.ensures.seconds;
      fraction = c.fit_packet.ensures.fraction;
      original = c.fit_packet.ensures.original;
      captured = c.requires.captured;
    } in
    is_written (frame.Output 1 c.args.threads o) (sent, c.requires.input, c.fit_numbers.ensures.input, captured)
