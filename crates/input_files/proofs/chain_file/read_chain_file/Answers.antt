use Rattle.chain_text.proofs.OneEvent.{chain_is_decisive}
use Rattle.input_files.proofs.Verdicts.{of_systems}
use Rattle.input_files.proofs.chain_file.read_chain_file.Goals as goal

pub read_lines_file-requires : goal.read_lines_file-requires
read_lines_file-requires g c = record { opens = c.requires; decisive = chain_is_decisive }

pub returns-clause-of_systems : goal.returns-clause-of_systems
returns-clause-of_systems g c = of_systems c.read_lines_file.result c.read_lines_file.ensures.of_text
