use Rattle.std.proofs.Common.{arith, sym, subst, ℕ, List, ◌<◌, ◌^◌, slice_index}
use Rattle.wire_frames.specs.Writing.{CanPutEntry}
use Rattle.link_store.specs.Sending.{Sending}
use Rattle.link_store.proofs.FrameLemmas.{counts_entry, one_longer_is}
use Rattle.link_store.proofs.sending.SentFrames.count_entry.Goals as goal

pub returns-clause-ok : goal.returns-clause-ok
returns-clause-ok c =
    let can = subst (λ (q : Sending). CanPutEntry q.epoch q.threads c.args.entry.now) (sym c.self.view_is)
    c.requires.can in
    let longer = one_longer_is _ _ _ _ _ _ _ c.index_mut.ensures.value c.in_ok-push.ensures.ok
    c.entry_length-size.ensures.value c.self.invariant.entries can.sent.of_these in
    let Fits : List ℕ → Type 0 = λ l. (u : ℕ) → slice_index l u < 2 ^ 32 in
    counts_entry _ _ c.args.entry.now c.push.new.self c.self.view_is can c.fits_word.ensures.epoch
    c.fits_word.ensures.number c.word_of-word.ensures.fits c.components-components.ensures.all
    (λ u. omega (arith, subst Fits c.components-components.ensures.value c.fit_words.ensures u)) longer
