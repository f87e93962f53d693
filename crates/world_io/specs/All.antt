-- What writing all does to a sink.
use Rattle.std.specs.Prelude.{ℕ, ◌<◌, List, length, take, Result, Ok, Err, ⊤}
use Rattle.world_io.specs.declared.all.WriteError.{WriteError}
use Rattle.world_io.specs.declared.all.WriteError.TheVariants as write

-- the bytes that were appended, by the sink's relation: all, or the first of them, whose number the error tells
abbrev pub WritesAll : {K : Type 0} → (K → List ℕ → K → Type 0) → Result ⊤ WriteError → List ℕ → K → K → Type 0
WritesAll writes (Ok done) bytes old new = writes old bytes new
WritesAll writes (Err (write.Failed n)) bytes old new = writes old (take n bytes) new × (n < length bytes)
WritesAll writes (Err (write.NoMemory n)) bytes old new = writes old (take n bytes) new × (n < length bytes)

-- writing failed, after any number of bytes
abbrev pub WriteFailed : Result ⊤ WriteError → Type 0
WriteFailed (Ok done) = ⊥
WriteFailed (Err (write.Failed n)) = Unit {0}
WriteFailed (Err (write.NoMemory n)) = ⊥
