use Rattle.std.proofs.Common.{subst, refl}
use Rattle.std.proofs.lemmas.Result.{on_ok_weaker}
use Rattle.wire_frames.specs.declared.frame.Frame.TheVariants as frame
use Rattle.wire_frames.specs.Layout.{IsFrame}
use Rattle.link_store.specs.Sending.{Sending}
use Rattle.link_store.proofs.sending.SentFrames.send_entry.Goals as goal

pub returns-clause-ok : goal.returns-clause-ok
returns-clause-ok c =
    on_ok_weaker c.send_entry_frame.result
    (λ sends.
    let is = subst (λ (q : Sending). IsFrame c.in_ok-frame.frame (frame.Entry q.epoch q.threads c.args.entry.now))
    c.self.view_is c.in_ok-frame.ensures.frame in
    sends c.args.entry.now (record {
      can = c.requires.can;
      is = is;
      size = c.in_ok-frame.ensures.size;
      small = c.in_ok-frame.ensures.small;
    }) refl refl) c.send_entry_frame.ensures.ok
