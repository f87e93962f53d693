use Rattle.std.proofs.Common.{ap, arith, length, ◌<◌, ◌^◌, ℕ, List, ◌∙◌, refl, sym, subst, slice_index}
use Rattle.wire_frames.specs.declared.frame.Frame.TheVariants as frame
use Rattle.wire_frames.specs.Layout.{IsFrame}
use Rattle.wire_frames.specs.Parts.{entry_front}
use Rattle.wire_frames.proofs.Ranges.{is_sent, is_done}
use Rattle.wire_frames.proofs.Whole.{is_written}
use Rattle.wire_frames.proofs.Written.{entry_written}
use Rattle.wire_frames.proofs.writing.put_entry.Goals as goal

pub returns-clause-spelled : goal.returns-clause-spelled
returns-clause-spelled c =
    entry_written c.entry_length-size.result c.args.epoch c.args.threads c.args.entry.now c.in_ok-frame.frame
    c.put_components.new.frame c.components.result.now c.put_entry_front.new.frame
    (entry_front c.entry_length-size.result c.args.epoch c.args.threads c.args.entry.now) c.in_ok-frame.ensures
    c.in_ok-put_components.ensures.spelled c.components.ensures.value c.in_ok-put_entry_front.ensures.spelled refl
    c.entry_length-size.ensures.value

pub returns-clause-frame : goal.returns-clause-frame
returns-clause-frame c =
    let e = c.args.entry.now in
    let f = frame.Entry c.args.epoch c.args.threads e in
    let P : List ℕ → Type 0 = λ stamp. (u : ℕ) → slice_index stamp u < 2 ^ 32 in
    let fit = subst P c.components.ensures.value c.put_components.ensures.fit in
    let sent = is_sent c.args.epoch c.args.threads e.thread e.number e.stamp c.requires.sent c.ranges.epoch.fits
    c.in_ok-put_entry_front.ensures.number c.components.ensures.all (λ u. omega (arith, fit u)) in
    let F : List ℕ → Type 0 = λ l. IsFrame l f in
    subst F (sym (returns-clause-spelled c))
    (is_written f (sent, is_done e.what c.requires.what c.put_entry_front.ensures.fits))

pub returns-clause-size : goal.returns-clause-size
returns-clause-size c =
    ap length (returns-clause-spelled c)
    ∙ c.entry_length-size.ensures.written c.args.epoch c.args.threads
    ∙ c.entry_length-size.ensures.value

pub returns-clause-small : goal.returns-clause-small
returns-clause-small c =
    let size = returns-clause-size c in
    let same = c.entry_length-size.ensures.value in
    let small = c.entry_length-size.ensures.small in
    omega arith
