use Rattle.drawn_words.proofs.Advanced.{words_are}
use Rattle.drawn_words.proofs.words_behind.Goals as goal

pub returns : goal.returns
returns c =
    words_are c.args.seed c.args.drawn c.generator-generator.result c.advance.new.self c.ranges.drawn.fits
    c.generator-generator.ensures.fresh c.advance.ensures
