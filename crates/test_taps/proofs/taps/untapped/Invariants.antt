use Rattle.std.proofs.Common.{[], length, map}
use Rattle.test_taps.proofs.taps.untapped.Given as goal

abbrev pub ghosts-tapped : goal.ghosts-tapped
ghosts-tapped a = record { file_name = a.name; seat_count = length a.taps.items; labels = map (λ _. []) a.taps.items }
