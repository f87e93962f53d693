-- What the command `trace` leaves: a table of what became of each packet, and the last line of the report of `run`.
use Rattle.std.specs.Prelude.{◌≡◌, ◌⊎◌, ℕ, List, [], ◌∷◌, ◌++◌, Option, Some}
use Rattle.plain_text.specs.declared.limit.Limit.{Limit}
use Rattle.plain_text.specs.declared.packet.Packet.{Packet}
use Rattle.plain_machine.specs.History.{Step}
use Rattle.world_io.specs.World.{Shown}
use Rattle.recovery_world.specs.declared.event.Event.{Event}
use Rattle.recovery_world.specs.declared.event.Event.TheVariants as event
use Rattle.recovery_world.specs.World.{Setting, World as SystemWorld}
use Rattle.recovery_world.specs.Finish.{IsFinish}
use Rattle.recovery_world.specs.Files.{LeavesAt, done_line}
use Rattle.output_files.specs.Writes.{report_file, Write, Creates, Appends, Reports, HasBegun}
use Rattle.run_writes.specs.Run.{KeepsShown}
use Rattle.noted_runs.specs.declared.trace.rows.Departure.{Departure}
use Rattle.noted_runs.specs.declared.trace.rows.Row.{Row}
use Rattle.noted_runs.specs.Departures.{Departs}
use Rattle.noted_runs.specs.Rows.{AreRows}
use Rattle.noted_runs.specs.Table.{table_text}

-- The events of a trace: those of the script, and then one recovery more, which changes nothing where the master is up.
abbrev pub traced_events : List Event → List Event
traced_events events = events ++ event.Recover ∷ []

-- The events of a trace lead to this world, and these are the rows of what became of each packet. Reasons of drops
-- stand in this register.
pub record Traces {V : Type 0} (register : Option ℕ) (s : Setting V) (events : List Event) (w : SystemWorld V)
    (rows : List Row) : Type 0 where
  pub departures : List Departure
  pub departs : Departs s (traced_events events) departures w
  pub steps : List (Step V)
  pub finish : IsFinish s w steps
  pub rows_are : AreRows register s w steps departures rows

-- The writes: the table, and then the report
abbrev pub trace_writes : List ℕ → List ℕ → List ℕ → List Write
trace_writes name table line = Creates name ∷ Appends name table ∷ Reports line ∷ []

-- What a call leaves

-- the table stands under its name, the report has its line, and no other name is touched
pub record HasTraced {V : Type 0} (register : Option ℕ) (s : Setting V) (events : List Event) (name : List ℕ)
    (old new : Shown) : Type 0 where
  pub world : SystemWorld V
  pub rows : List Row
  pub traces : Traces register s events world rows
  pub table_is : new.names name ≡ Some (table_text rows)
  pub report_is : new.sent report_file ≡ old.sent report_file ++ done_line world
  pub others : (other : List ℕ) → ¬ (other ≡ name) → new.names other ≡ old.names other

-- An event stops at this limit, and nothing was created or written.
pub record HasStopped {V : Type 0} (s : Setting V) (events : List Event) (limit : Limit) (old new : Shown)
    : Type 0 where
  pub lines : List ℕ
  pub released : List Packet
  pub stops : LeavesAt s (traced_events events) limit lines released
  pub kept : KeepsShown old new

-- nothing was created or written, or some first part of what a trace writes, and nothing else
abbrev pub HasBegunTrace : {V : Type 0} → Option ℕ → Setting V → List Event → List ℕ → Shown → Shown → Type 0
HasBegunTrace {V} register s events name old new =
    KeepsShown old new
    ⊎ ((w : SystemWorld V) × (rows : List Row) × Traces register s events w rows
    × HasBegun (trace_writes name (table_text rows) (done_line w)) old new)
