use Rattle.random_words.proofs.Generators.{this_word, after_word}
use Rattle.random_words.proofs.next_word.Goals as goal

pub returns-clause-word : goal.returns-clause-word
returns-clause-word c = λ seed count.
    this_word seed count c.next_word.result c.args.generator.now c.next_word.new.self c.next_word.ensures

pub returns-clause-after : goal.returns-clause-after
returns-clause-after c = λ seed count.
    after_word seed count c.next_word.result c.args.generator.now c.next_word.new.self c.next_word.ensures
