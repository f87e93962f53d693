use Rattle.std.proofs.lemmas.Result.{IfOk-weaker}
use Rattle.link_store.proofs.reading.output_in.Goals as goal

pub returns-in-Some : goal.returns-in-Some
returns-in-Some c =
    IfOk-weaker c.output_of.result _ _
    (λ found each epoch threads o is. let read = c.in_ok-frame.ensures.same _ is in each epoch threads o (cc))
    c.output_of.ensures

pub returns-in-None : goal.returns-in-None
returns-in-None c epoch threads o is = let found = c.in_ok-frame.ensures.same _ is in absurd (cc)
