-- What the command `chain` does: two systems run in a chain, by the events of the script; what the first releases is
-- the capture of the second, in order of release.
--
-- The files are judged in the order first box, second box, capture, script: the first that is not accepted decides the
-- status, by its first fault, the limit that it passes, or, in a healthy world, that it is not there.
use Rattle.std.specs.Prelude.{◌⊎◌, ℕ, List}
use Rattle.plain_text.specs.declared.limit.Limit.{Limit}
use Rattle.plain_text.specs.declared.packet.Packet.{Packet}
use Rattle.plain_machine.specs.declared.plain_move.PlainMove.{PlainMove}
use Rattle.box_conf.specs.Kinds.{meaning_of}
use Rattle.world_io.specs.World.{Shown}
use Rattle.recovery_world.specs.World.{Setting}
use Rattle.run_writes.specs.Run.{KeepsShown}
use Rattle.chain_world.specs.Chain.{LeavesChain, LeavesChainAt}
use Rattle.chain_command.specs.declared.opening.ChainRun.{ChainRun}
use Rattle.chain_command.specs.Outputs.{ChainNames as OutputNames, first_setting, second_setting}
use Rattle.chain_command.specs.Writes.{HasChained, HasStopped, HasBegunChain, KeepsOthers}
use Rattle.job_commands.specs.declared.chain_inputs.ChainInputs.{ChainInputs}
use Rattle.job_commands.specs.declared.status.Status.{Status}
use Rattle.job_commands.specs.declared.status.Status.TheVariants as status
use Rattle.job_commands.specs.Chain.{AcceptsChainInputs, JudgesChainFiles}
use Rattle.job_commands.specs.ChainWords.{ChainNames, chain_inputs}
use Rattle.job_commands.specs.Status.{Completes}
use Rattle.chain_command.specs.Headline.{KeepsChainPromise as KeepsBothPromises}
use Rattle.job_commands.specs.Meanings.{CommandMeaning, NeverUnready, StopsBy}

-- the chain that inputs ask for
abbrev pub chain_of : ChainInputs → ChainRun
chain_of inputs = record {
  first = record {
    threads = inputs.source.boxes.first.threads;
    tags = inputs.source.boxes.first.tags;
    seed = inputs.source.boxes.first.seed;
  };
  second = record {
    threads = inputs.source.boxes.second.threads;
    tags = inputs.source.boxes.second.tags;
    seed = inputs.source.boxes.second.seed;
  };
  unit = inputs.source.capture.unit;
  packets = inputs.source.capture.packets;
  events = inputs.events;
}

-- the setting of its first system, which has the meaning of the first box and the packets of the capture
abbrev pub first_of : (inputs : ChainInputs) → Setting (meaning_of inputs.source.boxes.first.kind).value
first_of inputs = first_setting (meaning_of inputs.source.boxes.first.kind).meaning (chain_of inputs)

-- and of its second, which has the meaning of the second box and no packet but those that the first releases
abbrev pub second_of : (inputs : ChainInputs) → Setting (meaning_of inputs.source.boxes.second.kind).value
second_of inputs = second_setting (meaning_of inputs.source.boxes.second.kind).meaning (chain_of inputs)

abbrev pub chain_outputs : ChainNames → OutputNames
chain_outputs names = record {
  middle = names.middle;
  released = names.released;
  first_schedule = names.first_schedule;
  second_schedule = names.second_schedule;
}

-- What a chain comes to

-- its events come to their end within the limits, and leave files
abbrev pub EndsChain : ChainInputs → Type 0
EndsChain inputs =
    (report : List ℕ) × (middle : List Packet) × (released : List Packet)
    × (first : List PlainMove) × (second : List PlainMove)
    × LeavesChain (first_of inputs) (second_of inputs) inputs.events report middle released first second

-- one of them stops at this limit
abbrev pub StopsChain : ChainInputs → Limit → Type 0
StopsChain inputs limit =
    (report : List ℕ) × (middle : List Packet) × (released : List Packet)
    × LeavesChainAt (first_of inputs) (second_of inputs) inputs.events limit report middle released

-- what a status says of the chain, once all inputs are accepted
abbrev pub SaysOfChain : Type 0 → ChainInputs → Status → Type 0
SaysOfChain healthy inputs status.Done = EndsChain inputs
SaysOfChain healthy inputs (status.Refuted refutation) = ⊥
SaysOfChain healthy inputs status.BadWords = ⊥
SaysOfChain healthy inputs status.ReadFault = ⊥
SaysOfChain healthy inputs status.WriteFault = healthy → ⊥
SaysOfChain healthy inputs status.NoMemory = Unit {0}
SaysOfChain healthy inputs (status.BadInput fault) = ⊥
SaysOfChain healthy inputs (status.TooLarge limit) = StopsChain inputs limit
SaysOfChain healthy inputs (status.Unready unready) = ⊥

-- What a status of `chain` says: of the first file that is not accepted, or of the chain.
abbrev pub JudgesChain : Type 0 → ChainNames → Status → Shown → Type 0
JudgesChain healthy names status shown = JudgesChainFiles healthy names (SaysOfChain healthy) status shown

-- The inputs are accepted, and the chain passes no limit.
abbrev pub AreAcceptedForChain : ChainNames → Shown → Type 0
AreAcceptedForChain names shown =
    (inputs : ChainInputs) × AcceptsChainInputs names inputs shown × ((limit : Limit) → StopsChain inputs limit → ⊥)

-- What the command leaves

-- the outputs are the files that the chain leaves
abbrev pub ChainsWhole : ChainNames → Shown → Shown → Type 0
ChainsWhole names old new =
    (inputs : ChainInputs)
    × AcceptsChainInputs names inputs old
    × HasChained (first_of inputs) (second_of inputs) (chain_outputs names) inputs.events old new

-- the chain stopped at this limit
abbrev pub ChainsToLimit : ChainNames → Limit → Shown → Shown → Type 0
ChainsToLimit names limit old new =
    (inputs : ChainInputs)
    × AcceptsChainInputs names inputs old
    × HasStopped (first_of inputs) (second_of inputs) (chain_outputs names) inputs.events limit old new

-- nothing was written, or some first part of what the chain writes, in its order, and nothing else
abbrev pub ChainsInOrder : ChainNames → Shown → Shown → Type 0
ChainsInOrder names old new =
    KeepsShown old new
    ⊎ ((inputs : ChainInputs)
    × AcceptsChainInputs names inputs old
    × HasBegunChain (first_of inputs) (second_of inputs) (chain_outputs names) inputs.events old new)

-- all names but the four outputs are as they were
abbrev pub KeepsChainNames : ChainNames → Shown → Shown → Type 0
KeepsChainNames names old new = KeepsOthers (chain_outputs names) old new

-- The promise of `chain`, however the events of its two systems are mixed: that of a system alone, of the first on the
-- captured packets with SCHEDULE1 and MIDDLE, and of the second on the packets of MIDDLE with SCHEDULE2 and RELEASED.
pub record KeepsChainPromise (names : ChainNames) (old new : Shown) : Type 0 where
  pub inputs : ChainInputs
  pub accepted : AcceptsChainInputs names inputs old
  pub keeps : KeepsBothPromises (first_of inputs) (second_of inputs) (chain_outputs names) inputs.events new

abbrev pub chain_meaning : ChainNames → CommandMeaning
chain_meaning names = record {
  inputs = chain_inputs names;
  files = 8;
  Leaves = ChainsWhole names;
  Promises = KeepsChainPromise names;
  StopsAt = λ limit old new. StopsBy limit old new (ChainsToLimit names limit old new);
  LeavesUnready = NeverUnready;
  LeavesInOrder = ChainsInOrder names;
  KeepsNames = KeepsChainNames names;
  Judges = λ healthy. JudgesChain healthy names;
  Accepts = AreAcceptedForChain names;
  CompletesAs = Completes;
}
