use Rattle.std.specs.Prelude.{codes}
use Rattle.std.proofs.lemmas.Result.{on_ok_weaker}
use Rattle.svg_text.specs.declared.class.Class.TheVariants as class
use Rattle.run_drawing.specs.Overview.{bar_key, line_key}
use Rattle.run_drawing.proofs.Pieces.{pieces_put}
use Rattle.run_drawing.proofs.keys.put_other_keys.Goals as goal

pub returns : goal.returns
returns c =
    on_ok_weaker c.put_key.result (λ is.
    pieces_put c.args.out.now c.put_line_key.new.out c.put_key.new.out
    (line_key 680 class.Crash (codes "a new epoch")) bar_key c.in_ok-put_line_key.ensures is) c.put_key.ensures
