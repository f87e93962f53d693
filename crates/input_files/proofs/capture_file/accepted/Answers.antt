use Rattle.std.proofs.Common.{subst}
use Rattle.pcapng_io.specs.Captured.{CapturesPackets}
use Rattle.pcapng_io.specs.declared.capture.AnyCaptured.{AnyCaptured}
use Rattle.input_files.proofs.Records.{are_short}
use Rattle.input_files.proofs.capture_file.accepted.Goals as goal

pub returns-in-Capture-clause-short : goal.returns-in-Capture-clause-short
returns-in-Capture-clause-short c =
    are_short _ (subst (λ (captured : AnyCaptured). CapturesPackets captured) c.in-Capture.is c.requires).0
