-- The calls of a world with their answers, and what its bytes are after them, by what stood under each name at the
-- beginning.
use Rattle.std.specs.Prelude.{ℕ, ◌==◌, List, [], ◌∷◌, ◌++◌, Option, Some, None, Result, Ok, Err, length, take}
use Rattle.std.specs.Prelude.{drop, if◌then◌else◌}
use Rattle.std.specs.Str.{bytes_eq}
use Rattle.world_io.specs.World.{Start, Shown}
use Rattle.world_io.specs.declared.stream.Filled.{Filled}
use Rattle.world_io.specs.declared.stream.Filled.TheVariants.{Got, End, Failed}
use Rattle.world_io.specs.declared.stream.Put.{Put}
use Rattle.world_io.specs.declared.stream.Put.TheVariants as put
use Rattle.world_io.specs.declared.world.OpenFault.{OpenFault}
use Rattle.world_told.specs.declared.record.Call.{Call}
use Rattle.world_told.specs.declared.record.Call.TheVariants.{Opened, Read, Ended, Created, Wrote}

-- a call, and its name or the bytes that it moved
abbrev pub Event : Type 0
Event = Call × List ℕ

-- a world, and the calls that were made of it, the newest first
pub record WithCalls (W : Type 0) : Type 0 where
  pub world : W
  pub calls : List Event

-- What each call adds to the calls, by its answer: one that failed moved nothing, and adds nothing.

abbrev pub after_open : List ℕ → Result ℕ OpenFault → List Event → List Event
after_open name (Ok file) calls = (Opened file, name) ∷ calls
after_open name (Err fault) calls = calls

abbrev pub after_fill : ℕ → Filled → List ℕ → List Event → List Event
after_fill file (Got n) piece calls = (Read file, take n piece) ∷ calls
after_fill file End piece calls = (Ended file, []) ∷ calls
after_fill file Failed piece calls = calls

abbrev pub after_create : List ℕ → Result ℕ OpenFault → List Event → List Event
after_create name (Ok file) calls = (Created file, name) ∷ calls
after_create name (Err fault) calls = calls

abbrev pub after_put : ℕ → Put → List ℕ → List Event → List Event
after_put file (put.Took n) piece calls = (Wrote file, take n piece) ∷ calls
after_put file put.Failed piece calls = calls
after_put file put.NoMemory piece calls = calls

-- What the bytes are after the calls

abbrev pub at_number : {A : Type 0} → ℕ → A → (ℕ → A) → ℕ → A
at_number file a f = λ k. if k == file then a else f k

abbrev pub at_name : {A : Type 0} → List ℕ → A → (List ℕ → A) → List ℕ → A
at_name name a f = λ other. if bytes_eq other name then a else f other

abbrev pub content_of : Option (List ℕ) → List ℕ
content_of None = []
content_of (Some bytes) = bytes

abbrev pub longer : List ℕ → Option (List ℕ) → Option (List ℕ)
longer more None = None
longer more (Some bytes) = Some (bytes ++ more)

-- the bytes after one call
abbrev pub after_call : Call → List ℕ → Shown → Shown
after_call (Opened file) name s = record s { left = at_number file (content_of (s.names name)) s.left }
after_call (Read file) bytes s = record s { left = at_number file (drop (length bytes) (s.left file)) s.left }
after_call (Ended file) bytes s = s
after_call (Created file) name s = record s {
  names = at_name name (Some []) s.names;
  sent = at_number file [] s.sent;
  name_of = at_number file name s.name_of;
}
after_call (Wrote file) bytes s = record s {
  sent = at_number file (s.sent file ++ bytes) s.sent;
  names =
      if file == 0 then s.names
      else at_name (s.name_of file) (longer bytes (s.names (s.name_of file))) s.names;
}

-- the bytes after these calls, the newest first
abbrev pub shown_after : Start → List Event → Shown
shown_after start [] = record { names = start; left = λ _. []; sent = λ _. []; name_of = λ _. [] }
shown_after start (e ∷ earlier) = after_call e.0 e.1 (shown_after start earlier)
