use Rattle.chain_text.proofs.OneEvent.{all_named, chain_is_decisive}
use Rattle.chain_text.proofs.reading.read_chain.Goals as goal

pub read_lines-requires : goal.read_lines-requires
read_lines-requires c = record { decisive = chain_is_decisive }

pub returns-clause-of_systems : goal.returns-clause-of_systems
returns-clause-of_systems c = all_named _ c.args.text.now c.read_lines.ensures.file
