use Rattle.std.proofs.Common.{arith, rules}
use Rattle.std.proofs.lemmas.Grind.{common_steps}
use Rattle.plain_text.specs.Lines.{is_blank}
use Rattle.plain_text.proofs.CutLists.{split_at_none, split_at_some}
use Rattle.chain_text.proofs.rest.cut_word.Goals as goal

pub returns-in_default-clause-words : goal.returns-in_default-clause-words
returns-in_default-clause-words c =
    let e = split_at_none is_blank c.args.line.now (search rules) in grind (arith, common_steps)

pub returns-clause-words : goal.returns-clause-words
returns-clause-words c =
    let e = split_at_some is_blank c.args.line.now c.in-Some.end (search rules) in grind (arith, common_steps)
