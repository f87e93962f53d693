use Rattle.std.proofs.Common.{length, map}
use Rattle.job_top.proofs.racing.race_tapped.Given as goal

abbrev pub ghosts-seat_and_race : goal.ghosts-seat_and_race
ghosts-seat_and_race g a =
    record { file_name = a.name; seat_count = length a.taps.items; labels = map g.T.Tap.label a.taps.items }
