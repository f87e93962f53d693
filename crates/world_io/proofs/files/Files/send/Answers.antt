use Rattle.std.proofs.lemmas.Result.{on_err_weaker}
use Rattle.std.proofs.Common.{◌∙◌}
use Rattle.world_io.proofs.FilesLemmas.{send_nothing}
use Rattle.world_io.proofs.files.Files.send.Goals as goal

pub returns-clause-err : goal.returns-clause-err
returns-clause-err c =
    on_err_weaker c.extend.result
    (λ same.
    send_nothing c.self.inside.files.items _ c.index_mut.result.now c.in-Created.created _ c.index_mut.ensures.value
    c.in-Created.is same
    ∙ c.self.view_is) c.extend.ensures.err
