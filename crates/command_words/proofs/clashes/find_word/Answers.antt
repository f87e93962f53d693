use Rattle.std.proofs.Common.{◌∙◌, ℕ, List, [], false, subst}
use Rattle.std.proofs.lemmas.List.{get_or_read}
use borrow.Author.Count.{below_more}
use Rattle.command_words.specs.Clashes.{IsOtherWord, MayBeOne}
use Rattle.command_words.specs.Pipes.{word_at}
use Rattle.command_words.proofs.clashes.find_word.Goals as goal
use Rattle.command_words.proofs.clashes.find_word.Goals.{else-place-written-via-then-place-written+then-is_file+else-is_name_of}
use Rattle.command_words.proofs.clashes.find_word.Goals.{else-place-written-via-then-place-written+else-is_file}
use Rattle.command_words.proofs.clashes.find_word.Goals.{else-place-written-via-else-place-written}

pub loop-place-preserved : goal.loop-place-preserved
loop-place-preserved g c =
    let words = c.args.words.now in
    let place = c.loop-place.place in
    below_more (λ k. IsOtherWord words c.args.places c.args.written k
    → MayBeOne (g.N.Names.may c.args.names.now) c.args.file.now (word_at words k) false) place c.loop-place.invariant
    (λ other. elim c.else-place-written.branch [
      | else-place-written-via-then-place-written+then-is_file+else-is_name_of w ↦
          let told = w.is_name_of.ensures in
          let name =
          w.as_str.ensures ∙ get_or_read words place w.index-words-place.result other.0 w.index-words-place.is [] in (
            told.0,
            subst (λ (n : List ℕ). g.N.Names.may c.args.names.now n told.0) name told.1,
            told.2 ∙ w.if-is_name_of.false,
          )
      | else-place-written-via-then-place-written+else-is_file w ↦
          let file = other.2 in let is = w.is_file.ensures in let not = w.if-is_file.false in absurd (cc)
      | else-place-written-via-else-place-written w ↦ absurd (other.1 w.if-place-written.false)
    ])
