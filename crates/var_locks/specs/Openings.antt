-- How a round begins.
use Rattle.std.specs.Prelude.{ℕ, ◌+◌, ◌<◌, ◌*◌, false, List, [], ◌∷◌, ◌++◌, length, map, replicate, slice_index_or}
use Rattle.master_core.specs.declared.parts.VarPart.{VarPart}
use Rattle.master_core.specs.declared.parts.ThreadPart.{ThreadPart}
use Rattle.atomic_table.specs.Seated.{TableId}
use Rattle.var_locks.specs.declared.view.View.{View}
use Rattle.var_locks.specs.Seats.{Seated, IsCounted}
use Rattle.var_locks.specs.Views.{fresh_shares}
use Rattle.var_locks.specs.Words.{spread}
use Rattle.std.specs.Prelude.{None}

-- the counts of each thread are within their bounds
abbrev pub AreCounted : List ThreadPart → Type 0
AreCounted parts = (t : ℕ) (d : ThreadPart) → t < length parts → IsCounted (slice_index_or parts t d)

-- how often each variable was touched
abbrev pub places_of : {V : Type 0} → List (VarPart V) → List ℕ
places_of vars = map (λ x. x.places) vars

-- the words at first: of each variable twice that, and 0 of each thread, each on a line of its own
abbrev pub words_of : List ℕ → ℕ → List ℕ
words_of places threads = spread (map (λ n. n * 2) places ++ replicate threads 0)

-- the view of a seat that has the threads from this one on, with these parts
abbrev pub rest_view : {V : Type 0} → ℕ → List ThreadPart → List ℕ → View V
rest_view t parts places = record { shares = fresh_shares t parts; hand = None; seen = places; missing = [] }

-- the seat of a thread that did nothing in the round
abbrev pub fresh_seat : {V : Type 0} → TableId → List ℕ → ℕ → ThreadPart → Seated V
fresh_seat round places t part =
    record { thread = t; part = part; notes = []; seen = places; missing = []; ended = false; round = round }

abbrev pub fresh_seats : {V : Type 0} → TableId → List ℕ → ℕ → List ThreadPart → List (Seated V)
fresh_seats round places t [] = []
fresh_seats round places t (part ∷ parts) = fresh_seat round places t part ∷ fresh_seats round places (t + 1) parts
