use Rattle.std.proofs.Common.{arith, ap, ◌∙◌, sym}
use Rattle.world_io.proofs.Pieces.{held_copied}
use Rattle.world_io.proofs.buffered.BufferedSource.give.Goals as goal

pub returns-clause-given : goal.returns-clause-given
returns-clause-given g c =
    let b = c.self.inside in
    let n = c.min-count.result in
    let copied = rw c.deref.ensures.value at c.copy_from_slice.ensures.after in
    ap (λ held. held.1) (sym c.self.view_is)
    ∙ held_copied b.buffer.items b.given b.filled n _ _ (omega arith) (omega (arith, c.self.invariant)) copied
