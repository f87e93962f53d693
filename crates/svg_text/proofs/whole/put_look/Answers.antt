use Rattle.std.specs.Prelude.{codes}
use Rattle.std.proofs.lemmas.Result.{on_ok_weaker}
use Rattle.svg_text.specs.declared.look.TheConstants.{LOOK, TIP}
use Rattle.svg_text.proofs.Pieces.{four_put}
use Rattle.svg_text.proofs.whole.put_look.Goals as goal

pub returns : goal.returns
returns c =
    on_ok_weaker c.extend-4.result (λ is.
    four_put c.args.out.now (codes "<style>\n") LOOK.now (codes "</style>\n") TIP.now c.extend.new.self
    c.extend-2.new.self c.extend-3.new.self c.extend-4.new.self c.in_ok-extend.ensures.ok
    c.in_ok-extend-2.ensures.ok c.in_ok-extend-3.ensures.ok is) c.extend-4.ensures.ok
