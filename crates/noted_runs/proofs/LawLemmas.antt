-- Laws of the table.
use Rattle.std.proofs.Common.{◌≡◌, ℕ, zero, suc, ◌+◌, ◌-◌, ◌≤◌, List, [], ◌∷◌, length, take, refl, ap, ◌∙◌, arith}
use Rattle.std.proofs.Common.{Option, Some, length-append, replicate}
use Rattle.std.specs.Prelude.{slice_get}
use Rattle.recovery_world.specs.declared.event.Event.{Event}
use Rattle.recovery_world.specs.World.{Setting, Sent, World}
use Rattle.recovery_laws.specs.Sound.{Sound}
use Rattle.recovery_laws.proofs.KeptWorlds.{any_sound, opening_sound}
use Rattle.recovery_laws.proofs.ReleasedOutputs.{any_grows}
use Rattle.noted_runs.specs.declared.trace.rows.Departure.{Departure}
use Rattle.noted_runs.specs.declared.trace.rows.Row.{Row}
use Rattle.noted_runs.specs.Departures.{Departs, Goes, Opens}
use Rattle.noted_runs.specs.Trace.{Traces, traced_events}

departs_sound : {V : Type 0} (s : Setting V) (events : List Event) (departures : List Departure) (w : World V)
    → Departs s events departures w → Sound s w
departs_sound s events departures w Opens = opening_sound s
departs_sound s events departures w (Goes {events = first} {departures = had} {w = before} ev to freed h on) =
    any_sound s before (departs_sound s first had before h) ev to freed w on

take_long : {A : Type 0} (n : ℕ) (xs : List A) → n ≤ length xs → length (take n xs) ≡ n
take_long zero xs low = refl
take_long (suc n) [] low = absurd (omega arith)
take_long (suc n) (x ∷ xs) low = ap suc (take_long n xs (omega arith))

module _ {V : Type 0} (register : Option ℕ) (s : Setting V) (events : List Event) (w : World V) (rows : List Row)
    (h : Traces register s events w rows) where
  pub rows_count : length rows ≡ w.fed
  rows_count =
      h.rows_are.count
      ∙ take_long w.fed s.packets (departs_sound s (traced_events events) h.departures w h.departs).firm.fed

  pub row_number : (i : ℕ) (row : Row) → slice_get rows i ≡ Some row → row.packet ≡ i + 1
  row_number i row e = (h.rows_are.each i row e).packet

  pub row_once : (i j : ℕ) (one other : Row) → slice_get rows i ≡ Some one → slice_get rows j ≡ Some other
      → one.packet ≡ other.packet → i ≡ j
  row_once i j one other e f same =
      let a = row_number i one e in let b = row_number j other f in omega (arith, a, b, same)

replicate_long : {A : Type 0} (n : ℕ) (x : A) → length (replicate n x) ≡ n
replicate_long zero x = refl
replicate_long (suc n) x = ap suc (replicate_long n x)

-- each released output left with an event
pub all_departed : {V : Type 0} (s : Setting V) (events : List Event) (departures : List Departure) (w : World V)
    → Departs s events departures w → length departures ≡ length w.released
all_departed s events departures w Opens = refl
all_departed s events departures w (Goes {events = first} {departures = had} {w = before} ev to freed h on) =
    let old = all_departed s first had before h in
    let grown = any_grows s before ev to freed w on in
    let more : length w.released ≡ length before.released + length grown.0 =
    ap (λ (l : List Sent). length l) grown.1 ∙ length-append before.released grown.0 in
    let departure : Departure = record { event = length first + 1; epoch = w.epoch } in
    let long = length-append had (replicate (length w.released - length had) departure) in
    let new = replicate_long (length w.released - length had) departure in
    omega (arith, old, more, long, new)
