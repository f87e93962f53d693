use Rattle.script_text.proofs.OneLine.{events_are_decisive}
use Rattle.input_files.proofs.script_file.read_script_file.Goals as goal

pub read_lines_file-requires : goal.read_lines_file-requires
read_lines_file-requires g c = record { opens = c.requires; decisive = events_are_decisive }
