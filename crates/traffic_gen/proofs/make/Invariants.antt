use Rattle.std.proofs.Common.{◌≡◌, ◌*◌}
use Rattle.random_words.specs.Words.{generator_after}
use Rattle.traffic_gen.specs.Generated.{generated}
use Rattle.traffic_gen.proofs.make.Given as goal

abbrev pub invariant-loop-index : goal.invariant-loop-index
invariant-loop-index l = record {
  words : l.words ≡ generator_after l.seed (2 * l.index);
  packets : l.packets ≡ generated l.seed l.index;
}
