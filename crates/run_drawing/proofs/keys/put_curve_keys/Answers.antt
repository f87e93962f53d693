use Rattle.std.specs.Prelude.{codes}
use Rattle.std.proofs.lemmas.Result.{on_ok_weaker}
use Rattle.svg_text.specs.declared.class.Class.TheVariants as class
use Rattle.run_drawing.specs.Overview.{line_key}
use Rattle.run_drawing.proofs.Pieces.{three_put}
use Rattle.run_drawing.proofs.keys.put_curve_keys.Goals as goal

pub returns : goal.returns
returns c =
    on_ok_weaker c.put_line_key-3.result (λ is.
    three_put c.args.out.now c.put_line_key.new.out c.put_line_key-2.new.out c.put_line_key-3.new.out
    (line_key 120 class.Fed (codes "packets that came in")) (line_key 320 class.Left (codes "outputs released"))
    (line_key 500 class.Held (codes "outputs that wait")) c.in_ok-put_line_key.ensures
    c.in_ok-put_line_key-2.ensures is)
    c.put_line_key-3.ensures
