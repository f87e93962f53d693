-- What a chain promises: of each of its two systems just what a system alone does, on the capture of the first and on
-- what the first released.
use Rattle.std.specs.Prelude.{◌≡◌, ℕ, List, ◌++◌, Ok}
use Rattle.plain_text.specs.declared.packet.Packet.{Packet}
use Rattle.entry_order.specs.Log.{Entry}
use Rattle.entry_order.specs.Closed.{IsFirstMissing}
use Rattle.plain_machine.specs.declared.plain_move.PlainMove.{PlainMove}
use Rattle.plain_machine.specs.History.{Step, log_of, play}
use Rattle.recovery_world.specs.declared.event.Event.{Event}
use Rattle.recovery_world.specs.World.{Setting, Sent, World, all_inputs}
use Rattle.recovery_world.specs.Events.{IsAmong}
use Rattle.recovery_world.specs.Matching.{IsAccepted}
use Rattle.recovery_world.specs.Files.{Leaves, packets_of}
use Rattle.recovery_laws.specs.Ends.{Ends}
use Rattle.chain_world.specs.declared.chain_event.ChainEvent.{ChainEvent}
use Rattle.chain_world.specs.Chain.{Chained, PerformsChain, chain_opening, LeavesChain, events_of, behind}

-- These packets and this schedule are what some script of the system alone leaves, on this capture.
abbrev pub IsLeftBySome : {V : Type 0} → Setting V → List Packet → List PlainMove → Type 0
IsLeftBySome s released moves = (events : List Event) × (report : List ℕ) × Leaves s events report released moves

-- The schedule is a legal run without crashes on the whole capture, which ends the world: it makes each entry that is
-- held with all its predecessors, sends out each packet that was released, each once; and it accounts for the packets
-- that are left.
pub record KeepsOne {V : Type 0} (s : Setting V) (w : World V) (released : List Packet) (moves : List PlainMove)
    : Type 0 where
  pub steps : List (Step V)
  pub plays : play s.meaning (all_inputs s) s.threads moves ≡ Ok steps
  pub ends : Ends s w steps
  pub released_is : released ≡ packets_of w.released
  pub accepted : IsAccepted s released moves
  pub alone : IsLeftBySome s released moves

-- what waits does so only while a named entry is missing
abbrev pub WaitsForMissing : {V : Type 0} → World V → Type 0
WaitsForMissing w =
    (o : Sent) → IsAmong o w.waiting
    → (e : Entry) × IsFirstMissing (log_of w.past) (log_of w.stored) w.held o.emission.thread o.after e

-- The promise of both systems, and of what waits after each first part of the events.
pub record KeepsBoth {V U : Type 0} (s : Setting V) (r : Setting U) (events : List ChainEvent)
    (middle released : List Packet) (first_moves second_moves : List PlainMove) : Type 0 where
  pub worlds : Chained V U
  pub first : KeepsOne s worlds.first middle first_moves
  pub second : KeepsOne (record r { packets = middle }) worlds.second released second_moves
  pub waits_always : (part rest : List ChainEvent) → events ≡ part ++ rest → (early : List ℕ) (c : Chained V U)
      → PerformsChain s r (chain_opening V U) part early c → WaitsForMissing c.first × WaitsForMissing c.second
