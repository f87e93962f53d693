use Rattle.std.proofs.Common.{Some, refl, sym, ap, ◌∙◌, arith}
use Rattle.plain_text.proofs.Addresses.{last_octet, none_last, one_last}
use Rattle.plain_text.proofs.number.read_address.Goals as goal

pub returns-in_err-first : goal.returns-in_err-first
returns-in_err-first c = c.from_residual.ensures ∙ sym (c.in_err-first.ensures.none refl 2 0)

pub returns-in_err-second : goal.returns-in_err-second
returns-in_err-second c =
    c.from_residual-in_err-second.ensures ∙ sym (c.in_ok-first.ensures.some 3 0 ∙ c.in_err-second.ensures.none refl 1 _)

pub returns-in_err-third : goal.returns-in_err-third
returns-in_err-third c =
    c.from_residual-in_err-third.ensures
    ∙ sym (c.in_ok-first.ensures.some 3 0 ∙ c.in_ok-second.ensures.some 2 _ ∙ c.in_err-third.ensures.none refl 0 _)

pub returns-in_err-fourth : goal.returns-in_err-fourth
returns-in_err-fourth c =
    let three = c.in_ok-first.ensures.some 3 0 ∙ c.in_ok-second.ensures.some 2 _ ∙ c.in_ok-third.ensures.some 1 _ in
    c.from_residual-in_err-fourth.ensures
    ∙ sym (three ∙ last_octet c.in_ok-third.rest.now _ ∙ none_last _ _ _ c.in_err-fourth.ensures)

pub returns : goal.returns
returns c =
    let three = c.in_ok-first.ensures.some 3 0 ∙ c.in_ok-second.ensures.some 2 _ ∙ c.in_ok-third.ensures.some 1 _ in
    let four = three ∙ last_octet c.in_ok-third.rest.now _ ∙ one_last _ _ _ _ c.in_ok-fourth.ensures in
    ap Some (omega arith) ∙ sym four
