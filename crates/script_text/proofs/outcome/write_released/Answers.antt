use Rattle.std.proofs.Common.{◌++◌, ◌∙◌, List, ℕ, ap, sym, append-nil, arith}
use Rattle.std.specs.String.{string_bytes}
use Rattle.std.proofs.lemmas.List.{drop_all}
use Rattle.script_text.proofs.ReleasedWords.{names_words, words_of_names}
use Rattle.script_text.proofs.outcome.write_released.Goals as goal

pub returns : goal.returns
returns c = λ freed is.
    let none = drop_all c.outputs.thread-index c.args.released.now (omega arith) in
    sym (append-nil (string_bytes c.outputs.text))
    ∙ (ap (λ (rest : List (ℕ × ℕ)). string_bytes c.outputs.text ++ names_words rest) (sym none)
    ∙ (c.outputs.invariant
    ∙ ap (λ (words : List ℕ). string_bytes c.args.text.now ++ words) (ap names_words is ∙ words_of_names freed)))
