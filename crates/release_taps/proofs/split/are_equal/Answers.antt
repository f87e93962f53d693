use Rattle.std.proofs.Common.{ap, sym, ◌∙◌, Some}
use Rattle.std.proofs.lemmas.Slice.Eq.{bytes_eq-Decides}
use Rattle.release_taps.proofs.Counting.{some_one, word_at}
use Rattle.release_taps.proofs.split.are_equal.Goals as goal

pub returns : goal.returns
returns c =
    let first =
    word_at c.args.words.now c.args.first c.index-words-first.result c.requires.first c.index-words-first.is in
    let second =
    word_at c.args.words.now c.args.second c.index-words-second.result c.requires.second c.index-words-second.is in
    let same = bytes_eq-Decides c.as_str.result.now c.as_str-2.result.now in (
      (λ true.
          first ∙ ap Some (sym c.as_str.ensures ∙ same.0 (sym c.eq.ensures ∙ true) ∙ c.as_str-2.ensures) ∙ sym second),
      (λ e. c.eq.ensures
          ∙ same.1 (c.as_str.ensures ∙ some_one _ _ (sym first ∙ e ∙ second) ∙ sym c.as_str-2.ensures)),
    )
