use Rattle.std.proofs.Common.{◌∙◌}
use Rattle.random_words.proofs.Generators.{no_word}
use Rattle.random_words.proofs.generator.Goals as goal

pub returns : goal.returns
returns c = record { fresh = c.new.ensures ∙ no_word c.args.seed }
