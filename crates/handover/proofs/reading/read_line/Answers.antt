use Rattle.std.proofs.Common.{rules, ◌≡◌, Some, Ok, Err, List, length, take, sym, ap, ◌∙◌, subst}
use Rattle.std.specs.Prelude.{map}
use Rattle.plain_text.specs.Lines.{words_of}
use Rattle.line_tables.specs.Parts.{values_at}
use Rattle.line_tables.specs.Tables.{has_third}
use Rattle.handover.specs.declared.values.Part.{Part}
use Rattle.handover.specs.Images.{fault_at}
use Rattle.handover.specs.Table.{parts_of, place_of}
use Rattle.handover.proofs.OneLine.{no_values, none_made, says_made}
use Rattle.handover.proofs.reading.read_line.Goals as goal

pub returns-in_err-values-clause-fault : goal.returns-in_err-values-clause-fault
returns-in_err-values-clause-fault c =
    let third : c.is_third_there-third.result ≡ has_third (words_of c.args.line.now) = search rules in
    let bad : values_at (map place_of (parts_of c.in-Some-form_named.form)) c.next.new.self
    ≡ Err c.in_err-values.field-0.0 =
    ap (λ (ps : List Part). values_at (map place_of ps) c.next.new.self) (sym c.parts.ensures)
    ∙ c.in_err-values.ensures.fault in
    let fault : fault_at c.args.stage (words_of c.args.line.now) ≡ Some c.in_err-values.field-0.0 =
    no_values c.args.stage (words_of c.args.line.now) c.is_third_there-third.result c.in-Some.word.now c.next.new.self
    c.in-Some-form_named.form c.in_err-values.field-0.0 third (search rules) (sym c.in-Some-form_named.ensures) bad in
    search rules

pub returns-in-Some-line-clause-says : goal.returns-in-Some-line-clause-says
returns-in-Some-line-clause-says c =
    let third : c.is_third_there-third.result ≡ has_third (words_of c.args.line.now) = search rules in
    let six : length c.in_ok-values.values ≡ 6 = search rules in
    let good : values_at (map place_of (parts_of c.in-Some-form_named.form)) c.next.new.self
    ≡ Ok (take (length (parts_of c.in-Some-form_named.form)) c.in_ok-values.values) =
    subst (λ (ps : List Part).
    values_at (map place_of ps) c.next.new.self ≡ Ok (take (length ps) c.in_ok-values.values)) c.parts.ensures
    c.in_ok-values.ensures.values in
    says_made c.args.stage (words_of c.args.line.now) c.is_third_there-third.result c.in-Some.word.now c.next.new.self
    c.in-Some-form_named.form c.in_ok-values.values c.in-Some-line.said third (search rules)
    (sym c.in-Some-form_named.ensures) six good c.in-Some-line.ensures

pub returns-in-None-clause-fault : goal.returns-in-None-clause-fault
returns-in-None-clause-fault c =
    let third : c.is_third_there-third.result ≡ has_third (words_of c.args.line.now) = search rules in
    let six : length c.in_ok-values.values ≡ 6 = search rules in
    let good : values_at (map place_of (parts_of c.in-Some-form_named.form)) c.next.new.self
    ≡ Ok (take (length (parts_of c.in-Some-form_named.form)) c.in_ok-values.values) =
    subst (λ (ps : List Part).
    values_at (map place_of ps) c.next.new.self ≡ Ok (take (length ps) c.in_ok-values.values)) c.parts.ensures
    c.in_ok-values.ensures.values in
    none_made c.args.stage (words_of c.args.line.now) c.is_third_there-third.result c.in-Some.word.now c.next.new.self
    c.in-Some-form_named.form c.in_ok-values.values third (search rules) (sym c.in-Some-form_named.ensures) six good
    c.in-None.ensures
