use Rattle.std.proofs.Common.{arith, length, ◌<◌, ◌++◌, ◌^◌, ℕ, List, ◌∙◌, refl, sym, ap, subst, slice_index}
use Rattle.wire_frames.specs.declared.frame.Frame.TheVariants as frame
use Rattle.wire_frames.specs.Layout.{packet_fields, IsFrame, IsCaptured}
use Rattle.wire_frames.specs.Parts.{output_front}
use Rattle.wire_frames.proofs.Ranges.{is_sent}
use Rattle.wire_frames.proofs.Whole.{is_written}
use Rattle.wire_frames.proofs.Written.{output_written}
use Rattle.wire_frames.proofs.writing.put_output.Goals as goal

pub returns-clause-spelled : goal.returns-clause-spelled
returns-clause-spelled c =
    let o = c.args.output in
    let whole = c.in_ok-frame.ensures ∙ c.as_slice-captured.ensures in
    output_written c.output_length-size.result c.args.epoch c.args.threads o c.in_ok-frame.frame
    c.put_packet_fields.new.frame c.put_components.new.frame c.components.result.now c.put_output_front.new.frame
    (output_front c.output_length-size.result c.args.epoch c.args.threads o)
    (packet_fields (record o.packet { bytes = c.in_ok-frame.frame })) whole
    c.in_ok-put_packet_fields.ensures.spelled
    (ap (λ (l : List ℕ). packet_fields (record o.packet { bytes = l })) whole)
    c.in_ok-put_components.ensures.spelled c.components.ensures.value c.in_ok-put_output_front.ensures.spelled refl
    c.output_length-size.ensures.value

pub returns-clause-frame : goal.returns-clause-frame
returns-clause-frame c =
    let o = c.args.output in
    let f = frame.Output c.args.epoch c.args.threads o in
    let P : List ℕ → Type 0 = λ stamp. (u : ℕ) → slice_index stamp u < 2 ^ 32 in
    let fit = subst P c.components.ensures.value c.put_components.ensures.fit in
    let sent = is_sent c.args.epoch c.args.threads o.thread o.number o.stamp c.requires.sent c.ranges.epoch.fits
    c.in_ok-put_output_front.ensures.number c.components.ensures.all (λ u. omega (arith, fit u)) in
    let captured : IsCaptured o.packet = record {
      seconds = c.put_packet_fields.ensures.seconds;
      fraction = c.put_packet_fields.ensures.fraction;
      original = c.put_packet_fields.ensures.original;
      captured = c.requires.captured;
    } in
    let F : List ℕ → Type 0 = λ l. IsFrame l f in
    subst F (sym (returns-clause-spelled c))
    (is_written f (sent, c.requires.input, c.in_ok-put_output_front.ensures.input, captured))

pub returns-clause-size : goal.returns-clause-size
returns-clause-size c =
    ap length (returns-clause-spelled c)
    ∙ c.output_length-size.ensures.written c.args.epoch c.args.threads
    ∙ c.output_length-size.ensures.value

pub returns-clause-small : goal.returns-clause-small
returns-clause-small c =
    let size = returns-clause-size c in
    let same = c.output_length-size.ensures.value in
    let small = c.output_length-size.ensures.small in
    omega arith
