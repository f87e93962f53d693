use Rattle.std.proofs.Common.{ℕ, ◌<◌, false}
use Rattle.std.specs.Prelude.{IsTrue}
use Rattle.command_words.specs.Clashes.{IsOther, MayTell, name_of}
use Rattle.command_words.specs.Pipes.{word_at}
use Rattle.command_words.specs.WordPlaces.{is_written}
use Rattle.command_words.specs.declared.clashes.OtherName.{OtherName}
use Rattle.command_words.proofs.clashes.one_file.Given as goal

-- no word so far clashes with another name
abbrev pub invariant-loop-written : goal.invariant-loop-written
invariant-loop-written g l =
    (written : ℕ) (other : OtherName) → written < l.written → IsTrue (is_written l.places written)
    → IsOther l.words l.places l.report written other
    → MayTell (g.N.Names.may l.names) (word_at l.words written) (name_of l.words other) false
