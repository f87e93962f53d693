use Rattle.std.proofs.Common.{inr}
use Rattle.command_words.proofs.Untapped.{untapped}
use Rattle.command_words.proofs.word_places.read_places.Goals as goal

pub returns-in-Plain : goal.returns-in-Plain
returns-in-Plain c =
    inr (untapped c.args.words.now c.split_taps.result c.in-Plain.is c.split_taps.ensures, c.read_plain_places.ensures)
