use Rattle.std.proofs.Common.{sym, subst, refl, ◌∙◌, ℕ, ◌<◌, ◌^◌}
use Rattle.std.proofs.lemmas.Result.{on_ok_weaker}
use Rattle.wire_frames.specs.declared.frame.Frame.TheVariants as frame
use Rattle.wire_frames.specs.Layout.{written}
use Rattle.wire_frames.specs.Writing.{CanPutOutput}
use Rattle.link_store.specs.Sending.{Sending}
use Rattle.link_store.specs.Spelled.{IsOutputFrame}
use Rattle.link_store.proofs.FrameLemmas.{sends_output, one_longer_is}
use Rattle.link_store.proofs.sending.SentFrames.send_output.Goals as goal

pub returns-clause-ok : goal.returns-clause-ok
returns-clause-ok c =
    let s = c.self.inside in
    let o = c.args.output in
    let length_is = c.output_length-size.ensures in
    let sized = length_is.written s.epoch s.threads in
    let bytes = written (frame.Output s.epoch s.threads o) in
    on_ok_weaker c.send_output.result
    (λ sends.
    let can = subst (λ (q : Sending). CanPutOutput q.epoch q.threads o) (sym c.self.view_is) c.requires.can in
    let longer = one_longer_is _ _ _ _ _ _ _ c.index_mut.ensures.value c.in_ok-push.ensures.ok (sym sized)
    c.self.invariant.outputs can.sent.of_these in
    let is = subst (λ (q : Sending). IsOutputFrame q.epoch q.threads o bytes) c.self.view_is (record {
      can = can;
      is = c.send_output.ensures.frame;
      size = sized ∙ length_is.value;
      small = subst (λ (n : ℕ). n < 2 ^ 32) (sym sized) length_is.small;
    }) in
    sends_output _ _ c.send_output.new.self bytes c.push.new.self c.self.view_is o.thread o.number sends longer o is
    refl refl) c.send_output.ensures.ok
