use Rattle.round_order.proofs.WovenLines.{woven_line}
use Rattle.round_order.proofs.laws.woven_rounds_are_lines.Goals as goal

pub returns : goal.returns
returns g c = λ m inputs threads moves past rs order few played linked w.
    woven_line m inputs threads moves past rs few played linked order w
