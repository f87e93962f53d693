use Rattle.std.proofs.Common.{[], ◌∷◌}
use Rattle.output_files.specs.Writes.{Appends, Reports}
use Rattle.output_files.proofs.Effects.{err_gathers}
use Rattle.chain_command.proofs.Steps.{first_begun, then_gathered}
use Rattle.chain_command.proofs.replying.write_answer.Goals as goal

pub returns-in_err-write_outputs-clause-shows : goal.returns-in_err-write_outputs-clause-shows
returns-in_err-write_outputs-clause-shows g c p h before writes names are gathered =
    err_gathers _ _ _ before _ c.from_residual.ensures.0
    (first_begun writes (Appends names.released _ ∷ Reports _ ∷ []) _ before _
    (c.in_err-write_outputs.ensures.shows p h before writes names.middle are.middle gathered))

pub returns-clause-shows : goal.returns-clause-shows
returns-clause-shows g c p h before writes names are gathered =
    let h0 = c.write_reply.ensures.before p h in
    then_gathered writes (Appends names.released _ ∷ Reports _ ∷ []) (Appends names.middle _) before _ _ _
    (c.write_reply.ensures.shows p h before _ names.released
    (c.in_ok-write_outputs.ensures.keeps p h0 _ _ are.released)
    (c.in_ok-write_outputs.ensures.shows p h0 before writes names.middle are.middle gathered))
