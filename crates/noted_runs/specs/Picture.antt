-- What the command `picture` leaves: the picture of a run, and the last line of the report of `run`.
use Rattle.std.specs.Prelude.{◌≡◌, ◌⊎◌, ℕ, true, All, List, [], ◌∷◌, ◌++◌, Some, length, map, sum}
use Rattle.std.specs.List.{flat_map}
use Rattle.std.specs.List.Sorted.{IsNonDecreasing}
use Rattle.plain_text.specs.declared.limit.Limit.{Limit}
use Rattle.plain_text.specs.declared.packet.Packet.{Packet}
use Rattle.plain_text.specs.declared.packet.Unit.{Unit as FractionUnit}
use Rattle.world_io.specs.World.{Shown}
use Rattle.recovery_world.specs.declared.event.Event.{Event}
use Rattle.recovery_world.specs.World.{Setting, World as SystemWorld, microseconds}
use Rattle.recovery_world.specs.Files.{LeavesAt, done_line}
use Rattle.output_files.specs.Writes.{report_file, Write, Creates, Appends, Reports, HasBegun}
use Rattle.run_writes.specs.Run.{KeepsShown}
use Rattle.svg_text.specs.declared.drawing.Element.{Element}
use Rattle.svg_text.specs.Drawing.{drawing_text}
use Rattle.svg_text.specs.WellFormed.{IsWellFormed}
use Rattle.run_drawing.specs.declared.note.Note.{Note}
use Rattle.made_moves.specs.Made.{made_in}
use Rattle.run_drawing.specs.Noted.{Noted, movers_in, movers_noted, moves_noted}
use Rattle.run_drawing.specs.Overview.{most_from}
use Rattle.run_drawing.specs.Picture.{are_short, at_first, events_from, picture}
use Rattle.run_drawing.specs.Promises.{end_of, is_move, is_released, line_places, move_titles, release_titles}
use Rattle.run_drawing.specs.Promises.{titles_where}
use Rattle.run_drawing.specs.Scales.{upwards}
use Rattle.run_drawing.specs.Slices.{moves_in, moves_of, slices_of}
use Rattle.run_drawing.specs.TimeChart.{time_curves}

-- the times of packets, in microseconds
abbrev pub times_in : FractionUnit → List Packet → List ℕ
times_in u packets = map (microseconds u) packets

abbrev pub picture_times : {V : Type 0} → Setting V → List ℕ
picture_times s = times_in s.fractions s.packets

-- the bytes of a picture with this title, and with this last line of the report, of so many threads; the packets have
-- these times
unfoldable pub picture_text : List ℕ → List ℕ → ℕ → List ℕ → List Note → List ℕ
picture_text title last threads times notes = drawing_text (picture title last threads times notes)

-- The events lead to this world, and this is the picture of their run, with this title: it is drawn of what is noted of
-- each event.
pub record Pictures {V : Type 0} (title : List ℕ) (s : Setting V) (events : List Event) (w : SystemWorld V)
    (text : List ℕ) : Type 0 where
  pub notes : List Note
  pub noted : Noted s events notes w
  pub text_is : text ≡ picture_text title (done_line w) s.threads (picture_times s) notes
  -- it is well-formed, whatever its title and the lines of the report are
  pub well_formed : IsWellFormed text
  -- all moves of the run are noted: who made each, and what it did, where no master made more than 400
  pub movers_are_all : movers_noted [] notes ≡ movers_in w.past
  pub moves_are_all : are_short notes ≡ true → moves_noted [] notes ≡ made_in w.past
  -- in an overview, the slices of a thread have all moves of it that are noted
  pub slices_are_all : (thread : ℕ) → sum (moves_in (slices_of thread notes)) ≡ moves_of thread notes
  -- where it is drawn by time, no curve goes left, and they end with all packets that came in, and with the outputs that
  -- were released and that wait
  pub curves_go_right : All (λ (e : Element). IsNonDecreasing (line_places e.shape))
      (time_curves (picture_times s) notes)
  pub counts_are_all : map (λ (e : Element). end_of e.shape) (time_curves (picture_times s) notes)
      ≡ Some (upwards (most_from 0 notes) w.fed) ∷ Some (upwards (most_from 0 notes) (length w.released))
      ∷ Some (upwards (most_from 0 notes) (length w.waiting)) ∷ []
  -- where it is drawn move by move, each move that was made has one mark, and each output that was released a full one
  pub moves_marked : titles_where is_move (events_from s.threads at_first notes) ≡ flat_map move_titles notes
  pub releases_marked : titles_where is_released (events_from s.threads at_first notes) ≡ release_titles 0 notes

-- The writes: the picture, and then the report
abbrev pub picture_writes : List ℕ → List ℕ → List ℕ → List Write
picture_writes name text line = Creates name ∷ Appends name text ∷ Reports line ∷ []

-- What a call leaves

-- the picture stands under its name, the report has its line, and no other name is touched
pub record HasPictured {V : Type 0} (title : List ℕ) (s : Setting V) (events : List Event) (name : List ℕ)
    (old new : Shown) : Type 0 where
  pub world : SystemWorld V
  pub text : List ℕ
  pub pictures : Pictures title s events world text
  pub picture_is : new.names name ≡ Some text
  pub report_is : new.sent report_file ≡ old.sent report_file ++ done_line world
  pub others : (other : List ℕ) → ¬ (other ≡ name) → new.names other ≡ old.names other

-- An event stops at this limit, and nothing was created or written.
pub record HasStopped {V : Type 0} (s : Setting V) (events : List Event) (limit : Limit) (old new : Shown)
    : Type 0 where
  pub lines : List ℕ
  pub released : List Packet
  pub stops : LeavesAt s events limit lines released
  pub kept : KeepsShown old new

-- nothing was created or written, or some first part of what a picture writes, and nothing else
abbrev pub HasBegunPicture : {V : Type 0} → List ℕ → Setting V → List Event → List ℕ → Shown → Shown → Type 0
HasBegunPicture {V} title s events name old new =
    KeepsShown old new
    ⊎ ((w : SystemWorld V) × (text : List ℕ) × Pictures title s events w text
    × HasBegun (picture_writes name text (done_line w)) old new)
