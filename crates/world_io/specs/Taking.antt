-- Bytes that were taken of a source, whichever they are.
use Rattle.std.specs.Prelude.{ℕ, List}

-- some bytes were taken, by the source's relation
abbrev pub TakesSome : {S : Type 0} → (S → List ℕ → S → Type 0) → S → S → Type 0
TakesSome reads old new = (taken : List ℕ) × reads old taken new
