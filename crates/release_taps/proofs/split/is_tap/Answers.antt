use Rattle.std.proofs.Common.{◌<◌, ap, sym, ◌∙◌, Some, arith, codes, length}
use Rattle.std.proofs.lemmas.Option.{slice_get_within}
use Rattle.std.proofs.lemmas.Slice.Eq.{bytes_eq-Decides}
use Rattle.release_taps.proofs.Counting.{some_one, word_at}
use Rattle.release_taps.proofs.split.is_tap.Goals as goal

pub returns-in-Some : goal.returns-in-Some
returns-in-Some c =
    let found = c.in-Some.ensures.lookup in
    let inside : c.args.place < length c.args.words.now = omega (arith, found.0) in
    let there = word_at c.args.words.now c.args.place c.in-Some.word.now inside found.1 in
    let same = bytes_eq-Decides c.as_str.result.now (codes "tap") in (
      (λ true. there ∙ ap Some (sym c.as_str.ensures ∙ same.0 (sym c.eq.ensures ∙ true))),
      (λ e. c.eq.ensures ∙ same.1 (c.as_str.ensures ∙ some_one _ _ (sym there ∙ e))),
    )

pub returns-in-None : goal.returns-in-None
returns-in-None c =
    let found = c.in-None.ensures.lookup in (
      (λ never. absurd (cc)),
      (λ e. let inside = slice_get_within c.args.words.now c.args.place _ e in absurd (omega (arith, inside, found.0))),
    )
