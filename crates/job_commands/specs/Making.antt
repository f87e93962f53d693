-- What the command `make` does.
use Rattle.std.specs.Prelude.{◌≡◌, ℕ, List, [], ◌++◌, codes, decimal}
use Rattle.plain_text.specs.declared.packet.Unit.TheVariants.{Micro}
use Rattle.pcap_io.specs.Capture.{written_header, records_of}
use Rattle.pcap_io.specs.declared.order.Order.TheVariants as order
use Rattle.traffic_gen.specs.Generated.{generated}
use Rattle.output_files.specs.Writes.{Write, HasBegun, HasWritten}
use Rattle.output_files.specs.Written.{single_writes}
use Rattle.job_commands.specs.Meanings.{CommandMeaning, NeverUnready, PromisesNothing, StopsAtInputs}
use Rattle.job_commands.specs.Status.{AtOutputs, ComesAt, Completes}
use Rattle.job_commands.specs.Words.{MakeNames}

-- the report: how many packets were made
abbrev pub made_text : ℕ → List ℕ
made_text count = codes "made " ++ decimal count ++ codes "\n"

-- the capture of the generated packets, in microseconds, and then the report
abbrev pub made_writes : MakeNames → List Write
made_writes names = single_writes names.capture (written_header Micro)
    (records_of order.Little (generated names.seed names.count)) (made_text names.count)

-- what the command means; it has no inputs
abbrev pub make_meaning : MakeNames → CommandMeaning
make_meaning names = record {
  inputs = [];
  files = 1;
  Leaves = HasWritten (made_writes names);
  Promises = PromisesNothing;
  StopsAt = StopsAtInputs;
  LeavesUnready = NeverUnready;
  LeavesInOrder = HasBegun (made_writes names);
  KeepsNames = λ old new. (name : List ℕ) → ¬ (name ≡ names.capture) → new.names name ≡ old.names name;
  Judges = λ healthy status shown. ComesAt AtOutputs status;
  Accepts = λ shown. Unit {0};
  CompletesAs = Completes;
}
