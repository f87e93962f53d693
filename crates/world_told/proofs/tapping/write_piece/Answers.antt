use Rattle.std.proofs.Common.{◌∙◌, ◌++◌, ap, sym, length, take, drop, arith, append_assoc, length-drop}
use Rattle.std.proofs.Math.Seq.{take-add}
use Rattle.std.proofs.lemmas.Slice.{between_to_end}
use Rattle.world_told.specs.Sent.{name_of, sent_to}
use Rattle.world_told.proofs.Sending.{sent_wrote, still_writable}
use Rattle.world_told.proofs.tapping.write_piece.Goals as goal

pub loop-done-preserved : goal.loop-done-preserved
loop-done-preserved g c =
    let done = c.loop-done.done in
    let bytes = c.args.piece.now in
    let file = c.args.file in
    let took = c.in-Took.ensures in
    let rest = between_to_end bytes done (length bytes) (omega arith) in
    let noted = rw rest at took.noted in
    let count = rw rest at took.count in
    record {
      sent =
          ap (sent_to file) noted
          ∙ sent_wrote file (take c.in-Took.count (drop done bytes)) c.loop-done.world.calls
          ∙ ap (λ l. l ++ take c.in-Took.count (drop done bytes)) c.loop-done.invariant.sent
          ∙ append_assoc (sent_to file c.args.world.now.calls) (take done bytes)
          (take c.in-Took.count (drop done bytes))
          ∙ ap (λ l. sent_to file c.args.world.now.calls ++ l) (sym (take-add done c.in-Took.count bytes));
      within = omega (arith, count.0, length-drop done bytes);
      name = ap (name_of file) noted ∙ c.loop-done.invariant.name;
      writable = still_writable _ _ file took.ledger c.loop-done.invariant.writable;
    }
