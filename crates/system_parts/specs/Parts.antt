-- What a recovering system has in memory.
use Rattle.std.specs.Prelude.{◌≡◌, ℕ, ◌+◌, ◌^◌, ◌≤◌, ◌<◌, All, Bool, List, length}
use Rattle.std.specs.Option.{ForSome}
use Rattle.drawn_words.specs.Drawn.{Drawn}
use Rattle.plain_text.specs.Packets.{IsShort}
use Rattle.plain_text.specs.declared.limit.TheConstants.{MOST_MOVES, MOST_OUTPUT_BYTES}
use Rattle.plain_text.specs.declared.packet.Packet.{Packet}
use Rattle.plain_text.specs.declared.packet.Unit.{Unit as FractionUnit}
use Rattle.recovery_world.specs.FromInputLogger.{Fed}
use Rattle.plain_machine.specs.declared.plain_move.PlainMove.{PlainMove}
use Rattle.plain_machine.specs.Program.{Meaning}
use Rattle.snapshot_store.specs.FromBoxProgram.{FitsProgram}
use Rattle.access_log.specs.Held.{Lane}
use Rattle.snapshot_store.specs.FromMasterCore.{Counts}
use Rattle.snapshot_store.specs.FromMasterCore.{Mastered, value_of}
use Rattle.output_logger.specs.Logger.{Logger}
use Rattle.snapshot_store.specs.Stored.{Snapshots}
use Rattle.link_store.specs.Sending.{Sending}

pub record Parts (P V : Type 0) : Type 0 where
  pub program : P
  pub fractions : FractionUnit
  -- the time, and the words of free draws
  pub clock : ℕ
  pub generator : Drawn
  -- the packets of the capture that are not fed yet, and those that are
  pub left : List Packet
  pub inputs : Fed
  -- whether the master is up; the master, the moves that it made, how many all masters made, and how many bytes they
  -- sent out
  pub up : Bool
  pub master : Mastered V
  pub schedule : List PlainMove
  pub moves : ℕ
  pub bytes : ℕ
  -- what it follows, the snapshots, and how much each thread did until the end of each earlier epoch, oldest first
  pub guide : List Lane
  pub store : Snapshots V
  pub ended : List (List Counts)
  -- what it sent on the links, and the output logger behind them
  pub sent : Sending
  pub logger : Logger
  -- the thread and number of each released output, in order of release
  pub released : List (ℕ × ℕ)

-- What is true of the parts of every system.
pub record AreParts {P V : Type 0} (m : Meaning V) (may_have : ℕ → V → Type 0) (y : Parts P V) : Type 0 where
  pub fits : FitsProgram m may_have value_of y.master.vars
  pub some_threads : 1 ≤ y.inputs.threads
  pub few_threads : y.inputs.threads ≤ 16
  pub master : length y.master.threads ≡ y.inputs.threads
  pub logger : length y.logger.held ≡ y.inputs.threads
  pub sent : y.sent.threads ≡ y.inputs.threads
  pub stored_fits : FitsProgram m may_have value_of y.store.stored.master.vars
  pub copy_fits : ForSome y.store.copy (λ c. FitsProgram m may_have value_of c.master.vars)
  pub stored : length y.store.stored.master.threads ≡ y.inputs.threads
  pub copied : ForSome y.store.copy (λ c. length c.master.threads ≡ y.inputs.threads)
  pub few_packets : length y.inputs.packets + length y.left < 2 ^ 50
  pub left : All IsShort y.left
  pub fed : All IsShort y.inputs.packets
  pub moves : y.moves ≤ MOST_MOVES
  pub bytes : y.bytes ≤ MOST_OUTPUT_BYTES
