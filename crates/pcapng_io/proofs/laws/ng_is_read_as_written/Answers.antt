use Rattle.pcapng_io.proofs.Written.{read_as_written}
use Rattle.pcapng_io.proofs.laws.ng_is_read_as_written.Goals as goal

pub returns : goal.returns
returns c = read_as_written
