-- What reading the first bytes of a source, up to a limit, does to it.
use Rattle.std.specs.Prelude.{◌≡◌, ℕ, ◌<◌, ◌≤◌, List, [], ◌++◌, length, take, Result, Ok, Err}
use Rattle.plain_text.specs.Octets.{AreBytes}
use Rattle.world_io.specs.Taking.{TakesSome}
use Rattle.world_io.specs.declared.beginning.Front.{Front}
use Rattle.world_io.specs.declared.beginning.Front.TheVariants.{All, More}
use Rattle.world_io.specs.declared.beginning.FrontError.{FrontError}

-- the bytes that were taken, by the source's relation; where there are more, one of these too
abbrev pub ReadsFront : {S : Type 0} → (S → List ℕ → S → Type 0) → Result Front FrontError → ℕ → S → S → Type 0
ReadsFront reads (Ok (All bytes)) limit old new = reads old bytes new × (length bytes ≤ limit)
ReadsFront reads (Ok (More bytes)) limit old new =
    (next : List ℕ) × reads old (bytes ++ next) new × (length bytes ≡ limit) × (length next ≡ 1)
ReadsFront reads (Err error) limit old new = TakesSome reads old new

-- these bytes, and behind them those that were taken, by the source's relation; after an error some were taken
abbrev pub ReadsBehind : {S : Type 0} → (S → List ℕ → S → Type 0) → List ℕ → Result (List ℕ) FrontError → S → S → Type 0
ReadsBehind reads first (Ok bytes) old new = (taken : List ℕ) × reads old taken new × (bytes ≡ first ++ taken)
ReadsBehind reads first (Err error) old new = TakesSome reads old new

-- all that was left, and nothing is left; or the first bytes of what was left, which was more than the limit
abbrev pub IsFront : Result Front FrontError → ℕ → List ℕ → List ℕ → Type 0
IsFront (Ok (All bytes)) limit old new = (old ≡ bytes) × (new ≡ [])
IsFront (Ok (More bytes)) limit old new = (bytes ≡ take limit old) × (limit < length old)
IsFront (Err error) limit old new = Unit {0}

-- each is below 256
abbrev pub FrontIsBytes : Front → Type 0
FrontIsBytes (All bytes) = AreBytes bytes
FrontIsBytes (More bytes) = AreBytes bytes
