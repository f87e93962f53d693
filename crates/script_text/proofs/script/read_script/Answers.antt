use Rattle.script_text.proofs.OneLine.{events_are_decisive}
use Rattle.script_text.proofs.script.read_script.Goals as goal

pub read_lines-requires : goal.read_lines-requires
read_lines-requires c = record { decisive = events_are_decisive }
