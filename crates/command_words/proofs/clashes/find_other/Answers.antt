use Rattle.std.proofs.Common.{◌∙◌, ℕ, List, [], false, subst}
use Rattle.std.proofs.lemmas.List.{get_or_read}
use Rattle.command_words.specs.Clashes.{IsOther, MayBeOne, name_of}
use Rattle.command_words.specs.declared.clashes.OtherName.{OtherName}
use Rattle.command_words.specs.declared.clashes.OtherName.TheVariants.{Word, Output, Errors}
use Rattle.command_words.proofs.clashes.find_other.Goals as goal

pub returns-clause-none : goal.returns-clause-none
returns-clause-none g c none other is =
    let words = c.args.words.now in
    let name =
    c.as_str.ensures
    ∙ get_or_read words c.args.written c.index-words-written.result c.requires c.index-words-written.is [] in (
      c.tell_file-file.result,
      subst (λ (n : List ℕ). g.N.Names.may c.args.names.now n c.tell_file-file.result) name c.tell_file-file.ensures,
      by_name other is,
    )
  where
    by_name : (other : OtherName) → IsOther c.args.words.now c.args.places c.args.report c.args.written other
        → MayBeOne (g.N.Names.may c.args.names.now) c.tell_file-file.result (name_of c.args.words.now other) false
    by_name (Word place) is = c.find_word.ensures.none c.in_default.is place is
    by_name Output is = c.is_report.ensures.none c.if-is_report.false is
    by_name Errors is =
        let told = c.is_name_of.ensures in (told.0, told.1, told.2 ∙ c.if-is_name_of.false)
