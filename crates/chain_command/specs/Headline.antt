-- What a chain that is done promises, of the files that it leaves.
use Rattle.std.specs.Prelude.{◌≡◌, ℕ, List, ◌++◌, Some}
use Rattle.pcap_io.specs.Capture.{written}
use Rattle.plain_text.specs.declared.packet.Packet.{Packet}
use Rattle.plain_machine.specs.declared.plain_move.PlainMove.{PlainMove}
use Rattle.plain_player.specs.ScheduleText.{schedule_text}
use Rattle.world_io.specs.World.{Shown}
use Rattle.recovery_world.specs.World.{Setting}
use Rattle.chain_world.specs.declared.chain_event.ChainEvent.{ChainEvent}
use Rattle.chain_world.specs.Chain.{Chained, PerformsChain, chain_opening}
use Rattle.chain_world.specs.Promise.{KeepsOne, WaitsForMissing}
use Rattle.chain_command.specs.Outputs.{ChainNames}

-- However the events of the two systems are mixed, each keeps the promise of a system alone. SCHEDULE1, played by the
-- plain machine on the captured packets, is a legal crash-free run, which sends out each packet of MIDDLE once;
-- SCHEDULE2, played on the packets of MIDDLE, is one that sends out each packet of RELEASED once; both make each log
-- entry of their system that is held with all its predecessors. And an output that arrived waits only while a named log
-- entry is missing, after each of the events.
pub record KeepsChainPromise {V U : Type 0} (s : Setting V) (r : Setting U) (names : ChainNames)
    (events : List ChainEvent) (new : Shown) : Type 0 where
  -- the worlds to which the events lead
  pub worlds : Chained V U
  pub lines : List ℕ
  pub performs : PerformsChain s r (chain_opening V U) events lines worlds
  -- the written files
  pub middle : List Packet
  pub released : List Packet
  pub first_moves : List PlainMove
  pub second_moves : List PlainMove
  pub middle_written : new.names names.middle ≡ Some (written s.fractions middle)
  pub released_written : new.names names.released ≡ Some (written s.fractions released)
  pub first_written : new.names names.first_schedule ≡ Some (schedule_text first_moves)
  pub second_written : new.names names.second_schedule ≡ Some (schedule_text second_moves)
  -- the runs that the schedules are: the first on the capture, the second on the packets of MIDDLE
  pub first : KeepsOne s worlds.first middle first_moves
  pub second : KeepsOne (record r { packets = middle }) worlds.second released second_moves
  -- what waits after each first part of the events
  pub waits_always : (part rest : List ChainEvent) → events ≡ part ++ rest → (early : List ℕ) (c : Chained V U)
      → PerformsChain s r (chain_opening V U) part early c → WaitsForMissing c.first × WaitsForMissing c.second
