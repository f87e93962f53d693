use Rattle.std.specs.Prelude.{codes}
use Rattle.std.proofs.lemmas.Result.{on_ok_weaker}
use Rattle.svg_text.specs.Drawing.{size_text}
use Rattle.svg_text.proofs.Pieces.{four_put}
use Rattle.svg_text.proofs.whole.put_opening.Goals as goal

pub returns : goal.returns
returns c =
    on_ok_weaker c.extend-3.result (λ is.
    four_put c.args.out.now (codes "<svg") (codes " xmlns=\"http://www.w3.org/2000/svg\"")
    (size_text c.args.width c.args.height) (codes ">\n") c.extend.new.self c.extend-2.new.self c.put_size.new.out
    c.extend-3.new.self c.in_ok-extend.ensures.ok c.in_ok-extend-2.ensures.ok c.in_ok-put_size.ensures is)
    c.extend-3.ensures.ok
