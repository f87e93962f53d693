use Rattle.plan_text.proofs.OneLine.{lines_are_decisive}
use Rattle.input_files.proofs.plan_file.read_plan_file.Goals as goal

pub read_lines_file-requires : goal.read_lines_file-requires
read_lines_file-requires g c = record { opens = c.requires; decisive = lines_are_decisive }
