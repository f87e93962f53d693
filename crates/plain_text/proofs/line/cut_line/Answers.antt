use Rattle.std.proofs.Common.{arith, rules}
use Rattle.std.proofs.lemmas.Grind.{common_steps}
use Rattle.plain_text.proofs.CutLists.{lines_none, lines_some}
use Rattle.plain_text.proofs.line.cut_line.Goals as goal

pub returns-in_default-clause-lines : goal.returns-in_default-clause-lines
returns-in_default-clause-lines c =
    let e = lines_none c.args.text.now c.requires (search rules) in grind (arith, common_steps)

pub returns-clause-lines : goal.returns-clause-lines
returns-clause-lines c = let e = lines_some c.args.text.now c.in-Some.end (search rules) in grind (arith, common_steps)
