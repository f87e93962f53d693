-- The inputs of a chain of two systems, and the names of its outputs.
use Rattle.std.specs.Prelude.{◌≡◌, ℕ, ◌≤◌, All, List, []}
use Rattle.plain_text.specs.Packets.{IsShort}
use Rattle.plain_text.specs.declared.packet.Packet.{Packet}
use Rattle.plain_text.specs.declared.packet.Unit.{Unit as FractionUnit}
use Rattle.plain_machine.specs.Program.{Meaning}
use Rattle.recovery_world.specs.World.{Setting}
use Rattle.chain_world.specs.Chain.{NamesSystem}
use Rattle.chain_command.specs.declared.opening.ChainRun.{ChainRun}
use Rattle.chain_command.specs.declared.opening.ChainFiles.{ChainFiles}
use Rattle.chain_command.specs.declared.opening.SystemShape.{SystemShape}

-- what stays the same in a system of this shape on these packets, whose box means this
abbrev pub setting_with : {V : Type 0} → Meaning V → SystemShape → FractionUnit → List Packet → Setting V
setting_with m shape u packets = record {
  meaning = m;
  threads = shape.threads;
  tags = shape.tags;
  fractions = u;
  packets = packets;
  seed = shape.seed;
}

-- the first system has the capture of the command
abbrev pub first_setting : {V : Type 0} → Meaning V → ChainRun → Setting V
first_setting m run = setting_with m run.first run.unit run.packets

-- the second has no packet but those that the first has released
abbrev pub second_setting : {U : Type 0} → Meaning U → ChainRun → Setting U
second_setting n run = setting_with n run.second run.unit []

-- inputs that two boxes can run on: 1 to 16 threads each, packets that a record can have, and events of the first
-- system or the second
pub record CanChain (run : ChainRun) : Type 0 where
  pub some_first : 1 ≤ run.first.threads
  pub few_first : run.first.threads ≤ 16
  pub some_second : 1 ≤ run.second.threads
  pub few_second : run.second.threads ≤ 16
  pub short : All IsShort run.packets
  pub of_systems : All NamesSystem run.events

-- the names of the four outputs
pub record ChainNames : Type 0 where
  pub middle : List ℕ
  pub released : List ℕ
  pub first_schedule : List ℕ
  pub second_schedule : List ℕ

abbrev pub names_of : ChainFiles → ChainNames
names_of files = record {
  middle = files.middle.now;
  released = files.released.now;
  first_schedule = files.first_schedule.now;
  second_schedule = files.second_schedule.now;
}

-- no two of them are one
pub record AreApart (names : ChainNames) : Type 0 where
  pub captures : names.middle ≡ names.released → ⊥
  pub middle_first : names.middle ≡ names.first_schedule → ⊥
  pub middle_second : names.middle ≡ names.second_schedule → ⊥
  pub released_first : names.released ≡ names.first_schedule → ⊥
  pub released_second : names.released ≡ names.second_schedule → ⊥
  pub schedules : names.first_schedule ≡ names.second_schedule → ⊥
