use Rattle.output_releases.proofs.OutputLists.{notes_them}
use Rattle.output_releases.proofs.releasing.note_released.Goals as goal

pub returns : goal.returns
returns g c = notes_them _ _ c.args.outputs.now c.new-list.result c.add_names.new.names c.add_names-2.new.names
    c.core.view_is c.new-list.ensures c.in_ok-add_names.ensures c.in_ok-add_names-2.ensures
