use Rattle.std.specs.Str.Lines.{lines as lines_of}
use Rattle.plain_text.specs.Lines.{words_of, words_count, counted_lines}
use Rattle.plain_text.proofs.Faults.{not_both, one_first, not_in_whole, one_of_file, counted_rise}
use Rattle.plain_text.proofs.laws.a_text_has_one_first_fault.Goals as goal

pub returns-clause-not_both : goal.returns-clause-not_both
returns-clause-not_both c =
    λ rows text number cause are first. not_both rows (counted_lines text) number cause are first

pub returns-clause-one : goal.returns-clause-one
returns-clause-one c = λ rows text x y a b f g.
    one_first rows (counted_lines text) 1 (counted_rise 1 (λ line. words_count (words_of line.1)) (lines_of text)) x y a
    b f g

pub returns-clause-whole : goal.returns-clause-whole
returns-clause-whole c = λ rows text count number cause are all first.
    not_in_whole rows (counted_lines text) count number cause are all first

pub returns-clause-one_of_file : goal.returns-clause-one_of_file
returns-clause-one_of_file c = λ rows text count x y a b f g.
    one_of_file rows (counted_lines text) 1 count
    (counted_rise 1 (λ line. words_count (words_of line.1)) (lines_of text)) x y a b f g
