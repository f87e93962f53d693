use Rattle.std.proofs.Common.{ℕ, false}
use Rattle.std.specs.Prelude.{IsTrue}
use borrow.Author.Count.{below_more}
use Rattle.command_words.specs.Clashes.{IsOther, MayTell, name_of}
use Rattle.command_words.specs.Pipes.{word_at}
use Rattle.command_words.specs.WordPlaces.{is_written}
use Rattle.command_words.proofs.clashes.one_file.Goals as goal
use Rattle.command_words.proofs.clashes.one_file.Goals.{then-is_written+in_default, else-is_written}

pub loop-written-preserved : goal.loop-written-preserved
loop-written-preserved g c written other within =
    let words = c.args.words.now in
    let places = c.read_places-places.result in
    below_more (λ k. IsTrue (is_written places k) → IsOther words places c.args.report k other
    → MayTell (g.N.Names.may c.args.names.now) (word_at words k) (name_of words other) false) c.loop-written.written
    (λ k less. c.loop-written.invariant k other less)
    (λ named is. elim c.if-is_written.branch [
      | then-is_written+in_default w ↦ w.find_other.ensures.none w.in_default.is other is
      | else-is_written w ↦
          let same = c.is_written.ensures in let not = w.if-is_written.false in absurd (cc)
    ]) written within
