-- A chain within its script: the systems that perform the events, and what was written so far.
use Rattle.std.specs.Prelude.{◌≡◌, ℕ, All, List, [], ◌++◌, length, Result, Ok, Err, OnOk, ⊤, ◌⊎◌}
use Rattle.plain_text.specs.Packets.{IsShort}
use Rattle.plain_text.specs.declared.limit.Limit.{Limit}
use Rattle.plain_text.specs.declared.packet.Packet.{Packet}
use Rattle.plain_machine.specs.Program.{Meaning}
use Rattle.world_io.specs.World.{Shown}
use Rattle.recovery_world.specs.World.{Setting, Sent}
use Rattle.recovery_world.specs.Files.{sent_names}
use Rattle.event_replies.specs.declared.reply.Reply.{Reply as SystemReply}
use Rattle.output_files.specs.declared.error.OutputError.{OutputError}
use Rattle.output_files.specs.Writes.{Write, IsOutput, HasWritten, HasBegun, HasGathered}
use Rattle.output_files.specs.Written.{Writes, WritesGathered}
use Rattle.run_writes.specs.Replies.{newly_released}
use Rattle.run_writes.specs.Run.{FitsRecord}
use Rattle.run_writes.specs.Errors.{run_result_of, stopped_result}
use Rattle.run_writes.specs.declared.error.RunError.{RunError}
use Rattle.run_writes.specs.declared.error.RunError.TheVariants as run
use Rattle.chain_world.specs.declared.chain_event.ChainEvent.{ChainEvent}
use Rattle.chain_world.specs.Chain.{Chained, OnChain, StopsChain, chain_line}
use Rattle.chain_box.specs.Chains.{TwoSystems, ChainStands}
use Rattle.chain_command.specs.declared.opening.ChainNumbers.{ChainNumbers}
use Rattle.chain_command.specs.Outputs.{ChainNames}
use Rattle.chain_command.specs.Replies.{ChainReply, ChainAnswers, middle_in, released_in}
use Rattle.chain_command.specs.Writes.{reply_writes, passed_writes, writes_of, WritesSome, WritesUntil}

-- the outputs with these numbers have these names
pub record AreOpen (names : ChainNames) (o : ChainNumbers) (shown : Shown) : Type 0 where
  pub middle : IsOutput o.middle names.middle shown
  pub released : IsOutput o.released names.released shown
  pub first : IsOutput o.first_schedule names.first_schedule shown
  pub second : IsOutput o.second_schedule names.second_schedule shown

-- The systems stand for the worlds of a chain, and all that was released was handed over.
pub record IsChainAt {P V Q U : Type 0} (mean : P → Meaning V) (other : Q → Meaning U) (s : Setting V) (r : Setting U)
    (c : Chained V U) (y : TwoSystems P V Q U) : Type 0 where
  pub stands : ChainStands (mean y.first.parts.program) (other y.second.parts.program) s r c y.first y.second
  pub first_fresh : y.first.fresh ≡ []
  pub first_handed : y.first.handed ≡ length c.first.released
  pub second_fresh : y.second.fresh ≡ []
  pub second_handed : y.second.handed ≡ length c.second.released

-- They are at some worlds, on packets that a record can have.
abbrev pub IsSomewhere : {P V Q U : Type 0} → (P → Meaning V) → (Q → Meaning U) → TwoSystems P V Q U → Type 0
IsSomewhere {P} {V} {Q} {U} mean other y =
    (s : Setting V) × (r : Setting U) × (c : Chained V U) × IsChainAt mean other s r c y × All IsShort s.packets

-- What performing an event came to, for all worlds that the systems were at: the reply is that of the event, or the
-- event stops at the limit; and each system released these packets.
abbrev pub ComesTo : {P V Q U : Type 0} → (P → Meaning V) → (Q → Meaning U) → ChainEvent → Result SystemReply Limit
    → List Packet → List Packet → TwoSystems P V Q U → TwoSystems P V Q U → Type 0
ComesTo {P} {V} {Q} {U} mean other ev (Ok reply) middle released old new =
    (s : Setting V) (r : Setting U) (c : Chained V U) → IsChainAt mean other s r c old
    → (next : Chained V U) × (freed : List Sent) × OnChain s r c ev reply.outcome freed next
    × (reply.released ≡ sent_names freed) × (middle ≡ newly_released c.first next.first)
    × (released ≡ newly_released c.second next.second) × IsChainAt mean other s r next new
ComesTo {P} {V} {Q} {U} mean other ev (Err limit) middle released old new =
    (s : Setting V) (r : Setting U) (c : Chained V U) → IsChainAt mean other s r c old
    → (next : Chained V U) × StopsChain s r c ev limit next × (middle ≡ newly_released c.first next.first)
    × (released ≡ newly_released c.second next.second)

-- What it came to to write, behind these writes, what an event left: its records and its line; or, where it stopped at
-- a limit, what was released before.
abbrev pub WritesPerformed : Result ⊤ RunError → Result SystemReply Limit → ChainEvent → List Packet → List Packet
    → List Write → ChainNames → List ℕ → Shown → Shown → Type 0
WritesPerformed result (Ok reply) ev middle released writes names lines old new =
    (freed : List Sent) → reply.released ≡ sent_names freed
    → (files : Result ⊤ OutputError) × (result ≡ run_result_of files)
    × OnOk files (All FitsRecord middle × All FitsRecord released)
    × WritesGathered files
    (writes
    ++ reply_writes names
    (record { middle = middle; released = released; line = chain_line ev reply.outcome freed })) lines old new
WritesPerformed result (Err limit) ev middle released writes names lines old new =
    (files : Result ⊤ OutputError) × (result ≡ stopped_result files limit)
    × Writes files (writes ++ passed_writes names middle released) old new

-- The events were performed, the systems are at their worlds, and what they write was written but for the lines that
-- are gathered.
pub record HasCome {P V Q U : Type 0} (mean : P → Meaning V) (other : Q → Meaning U) (s : Setting V) (r : Setting U)
    (names : ChainNames) (events : List ChainEvent) (y : TwoSystems P V Q U) (lines : List ℕ) (old new : Shown)
    : Type 0 where
  pub replies : List ChainReply
  pub worlds : Chained V U
  pub answers : ChainAnswers s r events replies worlds
  pub at : IsChainAt mean other s r worlds y
  pub fit_middle : All FitsRecord (middle_in replies)
  pub fit_released : All FitsRecord (released_in replies)
  pub gathered : HasGathered (writes_of names s.fractions replies) lines old new

-- An event stopped at a limit, and all that is to be written until then was written.
pub record StoppedThere {V U : Type 0} (s : Setting V) (r : Setting U) (names : ChainNames) (events : List ChainEvent)
    (limit : Limit) (old new : Shown) : Type 0 where
  pub writes : List Write
  pub until : WritesUntil s r names events limit writes
  pub written : HasWritten writes old new

-- some first part of what these events write was written, where they may have stopped at a limit
abbrev pub HasBegunSome : {V U : Type 0} → Setting V → Setting U → ChainNames → List ChainEvent → Shown → Shown
    → Type 0
HasBegunSome s r names events old new =
    (writes : List Write)
    × (WritesSome s r names events writes ⊎ ((limit : Limit) × WritesUntil s r names events limit writes))
    × HasBegun writes old new

-- What performing and writing the events came to: all of it was done; or it stopped at a limit; or a first part of it
-- was written.
abbrev pub GoesOn : {A P V Q U : Type 0} → Result A RunError → (P → Meaning V) → (Q → Meaning U) → Setting V
    → Setting U → ChainNames → List ChainEvent → TwoSystems P V Q U → List ℕ → Shown → Shown → Type 0
GoesOn (Ok done) mean other s r names events y lines old new = HasCome mean other s r names events y lines old new
GoesOn (Err (run.Limit limit)) mean other s r names events y lines old new = StoppedThere s r names events limit old new
GoesOn (Err run.WriteFault) mean other s r names events y lines old new = HasBegunSome s r names events old new
GoesOn (Err run.NoMemory) mean other s r names events y lines old new = HasBegunSome s r names events old new
