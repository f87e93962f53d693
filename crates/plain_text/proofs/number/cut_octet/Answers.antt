use Rattle.std.proofs.Common.{◌≡◌, ◌+◌, ◌-◌, suc, length, take, drop, rules, arith}
use Rattle.std.proofs.lemmas.Grind.{common_steps}
use Rattle.plain_text.proofs.Addresses.{octet_more, no_octet, no_dot, is_none, is_one}
use Rattle.plain_text.proofs.number.cut_octet.Goals as goal

pub returns-in_err-dot-clause-none : goal.returns-in_err-dot-clause-none
returns-in_err-dot-clause-none c = λ none count value. no_dot c.args.word.now count value (search rules)

pub returns-in_err-octet-clause-none : goal.returns-in_err-octet-clause-none
returns-in_err-octet-clause-none c = λ none count value.
    no_octet c.args.word.now c.in_ok-dot.dot (suc count) value (search rules) (is_none _ _ c.in_err-octet.ensures)

pub returns-clause-some : goal.returns-clause-some
returns-clause-some c = λ count value.
    let word = c.args.word.now in
    let i = c.in_ok-dot.dot in
    let one = is_one _ _ c.in_ok-octet.octet c.in_ok-octet.ensures in
    let more = octet_more word i count value (search rules) one.0 in
    let rest : take (length word - (i + 1)) (drop (i + 1) word) ≡ drop (i + 1) word = grind (arith, common_steps) in
    rw (rest, one.1) more
