use Rattle.std.specs.Prelude.{codes, decimal, ◌++◌}
use Rattle.std.proofs.lemmas.Result.{on_ok_weaker}
use Rattle.svg_text.proofs.Pieces.{three_put}
use Rattle.svg_text.proofs.whole.put_field.Goals as goal

pub returns : goal.returns
returns c =
    on_ok_weaker c.push.result (λ is.
    three_put c.args.out.now (codes " viewBox=\"0 0 ") (decimal c.args.width ++ codes " " ++ decimal c.args.height)
    (codes "\"") c.extend.new.self c.put_two.new.out c.push.new.self c.in_ok-extend.ensures.ok
    c.in_ok-put_two.ensures is) c.push.ensures.ok
