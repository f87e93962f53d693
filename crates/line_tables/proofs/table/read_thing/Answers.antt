use Rattle.std.proofs.Common.{rules, ◌≡◌, Some, sym, length}
use Rattle.plain_text.specs.Lines.{words_of}
use Rattle.line_tables.specs.Tables.{Says, fault_of, has_third}
use Rattle.line_tables.proofs.OneLine.{no_form, no_values, says_read}
use Rattle.line_tables.proofs.table.read_thing.Goals as goal

pub returns-in_default-find_form-clause-fault : goal.returns-in_default-find_form-clause-fault
returns-in_default-find_form-clause-fault g c =
    let third : c.is_third_there-third.result ≡ has_third (words_of c.args.line.now) = search rules in
    no_form g.T.LineTable.table (words_of c.args.line.now) c.is_third_there-third.result c.in-Some.word.now
    c.next.new.self third (search rules) (search rules)

pub returns-in_err-values-clause-fault : goal.returns-in_err-values-clause-fault
returns-in_err-values-clause-fault g c =
    let third : c.is_third_there-third.result ≡ has_third (words_of c.args.line.now) = search rules in
    let bad : fault_of g.T.LineTable.table (words_of c.args.line.now) ≡ Some c.in_err-values.field-0.0 =
    no_values g.T.LineTable.table (words_of c.args.line.now) c.is_third_there-third.result c.in-Some.word.now
    c.next.new.self c.in-Some-find_form.form c.in_err-values.field-0.0 third (search rules)
    (sym c.in-Some-find_form.ensures) (search rules) in
    search rules

pub returns-clause-thing : goal.returns-clause-thing
returns-clause-thing g c =
    let third : c.is_third_there-third.result ≡ has_third (words_of c.args.line.now) = search rules in
    let four : length c.in_ok-values.values ≡ 4 = search rules in
    let says : Says g.T.LineTable.table (words_of c.args.line.now)
    (g.T.LineTable.table.thing_from c.in-Some-find_form.form c.in_ok-values.values) =
    says_read g.T.LineTable.table c.requires.table (words_of c.args.line.now) c.is_third_there-third.result
    c.in-Some.word.now c.next.new.self c.in-Some-find_form.form c.in_ok-values.values third (search rules)
    (sym c.in-Some-find_form.ensures) four (search rules) in
    search rules
