use Rattle.std.proofs.Common.{arith, ◌∙◌, sym, length-drop}
use Rattle.std.proofs.lemmas.List.{take_rest}
use Rattle.world_io.proofs.Pieces.{rest_copied}
use Rattle.world_io.proofs.memory_file.OpenedFile.fill.Goals as goal

pub returns-clause-reads : goal.returns-clause-reads
returns-clause-reads c =
    let f = c.self.inside in
    let copied = rw (c.as_slice.ensures, take_rest) at c.copy_from_slice.ensures.after in
    let count = rw (c.as_slice.ensures, take_rest) at c.min-count.ensures in
    sym c.self.view_is
    ∙ rest_copied f.bytes f.taken c.min-count.result _ _
    (omega (arith, count, length-drop f.taken f.bytes, c.self.invariant)) copied
