-- The curves of a chart by time end with the counts of the world that the events lead to.
use Rattle.std.proofs.Common.{◌≡◌, ℕ, ◌≤◌, ◌∙◌, List, [], ◌∷◌, ◌++◌, length, refl, sym, ap, subst, take}
use Rattle.std.specs.Prelude.{Option, Some, map}
use Rattle.std.proofs.lemmas.List.{length-map, length-take-le}
use Rattle.plain_text.specs.declared.packet.Packet.{Packet}
use Rattle.recovery_world.specs.declared.event.Event.{Event}
use Rattle.recovery_world.specs.World.{Setting, World as SystemWorld, microseconds}
use Rattle.svg_text.specs.declared.drawing.Element.{Element}
use Rattle.run_drawing.specs.declared.note.Note.{Note}
use Rattle.run_drawing.specs.declared.samples.Count.{Count}
use Rattle.run_drawing.specs.declared.samples.Count.TheVariants as count
use Rattle.run_drawing.specs.Noted.{Goes, Noted, Opens, note_of}
use Rattle.run_drawing.specs.Overview.{most_from}
use Rattle.run_drawing.specs.Promises.{end_of, last_count, note_count}
use Rattle.run_drawing.specs.Scales.{upwards}
use Rattle.run_drawing.specs.TimeChart.{came, last_fed, time_curves}
use Rattle.run_drawing.proofs.TimeCurves.{curves_end}
use Rattle.noted_runs.specs.Picture.{picture_times, times_in}
use Rattle.noted_runs.proofs.AllNoted.{noted_sound}

fed_more : (before : ℕ) (notes : List Note) (n : Note) → last_fed before (notes ++ n ∷ []) ≡ n.fed
fed_more before [] n = refl
fed_more before (m ∷ notes) n = fed_more m.fed notes n

count_more : (c : Count) (before : ℕ) (notes : List Note) (n : Note)
    → last_count c before (notes ++ n ∷ []) ≡ note_count c n
count_more c before [] n = refl
count_more c before (m ∷ notes) n = count_more c (note_count c m) notes n

module _ {V : Type 0} (s : Setting V) where
  fed_is : (events : List Event) (notes : List Note) (w : SystemWorld V) → Noted s events notes w
      → last_fed 0 notes ≡ w.fed
  fed_is events notes w Opens = refl
  fed_is events notes w (Goes {events = before} {notes = earlier} {w = there} ev to freed rest on) =
      fed_more 0 earlier (note_of ev to freed w)

  released_is : (events : List Event) (notes : List Note) (w : SystemWorld V) → Noted s events notes w
      → last_count count.Left 0 notes ≡ length w.released
  released_is events notes w Opens = refl
  released_is events notes w (Goes {events = before} {notes = earlier} {w = there} ev to freed rest on) =
      count_more count.Left 0 earlier (note_of ev to freed w)

  waiting_is : (events : List Event) (notes : List Note) (w : SystemWorld V) → Noted s events notes w
      → last_count count.Held 0 notes ≡ length w.waiting
  waiting_is events notes w Opens = refl
  waiting_is events notes w (Goes {events = before} {notes = earlier} {w = there} ev to freed rest on) =
      count_more count.Held 0 earlier (note_of ev to freed w)

  -- the times of the packets that came in
  came_is : (events : List Event) (notes : List Note) (w : SystemWorld V) → Noted s events notes w
      → length (came (picture_times s) notes) ≡ w.fed
  came_is events notes w noted =
      let there : w.fed ≤ length (picture_times s) =
      subst (λ (n : ℕ). w.fed ≤ n) (sym (length-map s.packets (microseconds s.fractions)))
      (noted_sound s events notes w noted).firm.fed in
      ap (λ (n : ℕ). length (take n (picture_times s))) (fed_is events notes w noted)
      ∙ length-take-le w.fed (picture_times s) there

  pub counts_end : (events : List Event) (notes : List Note) (w : SystemWorld V) → Noted s events notes w
      → map (λ (e : Element). end_of e.shape) (time_curves (picture_times s) notes)
      ≡ Some (upwards (most_from 0 notes) w.fed) ∷ Some (upwards (most_from 0 notes) (length w.released))
      ∷ Some (upwards (most_from 0 notes) (length w.waiting)) ∷ []
  counts_end events notes w noted =
      let most = most_from 0 notes in
      let left = last_count count.Left 0 notes in
      let held = last_count count.Held 0 notes in
      curves_end (picture_times s) notes
      ∙ (ap (λ (n : ℕ). Some (upwards most n) ∷ Some (upwards most left) ∷ Some (upwards most held) ∷ [])
      (came_is events notes w noted)
      ∙ (ap (λ (n : ℕ). Some (upwards most w.fed) ∷ Some (upwards most n) ∷ Some (upwards most held) ∷ [])
      (released_is events notes w noted)
      ∙ ap
      (λ (n : ℕ). Some (upwards most w.fed) ∷ Some (upwards most (length w.released)) ∷ Some (upwards most n) ∷ [])
      (waiting_is events notes w noted)))
