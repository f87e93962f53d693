-- What a tap makes of a piece.
use Rattle.std.specs.Prelude.{ℕ, List, []}
use Rattle.release_taps.specs.declared.tap.Shown.{Shown}
use Rattle.release_taps.specs.declared.tap.Shown.TheVariants.{Took, Failed, NoMemory}

-- the bytes that a tap took of a piece: all or none
abbrev pub shown_bytes : Shown → List ℕ → List ℕ
shown_bytes Took piece = piece
shown_bytes Failed piece = []
shown_bytes NoMemory piece = []
