use Rattle.std.proofs.Common.{length, map}
use Rattle.job_top.proofs.mirroring.tapped.Given as goal

abbrev pub ghosts-seat_and_run : goal.ghosts-seat_and_run
ghosts-seat_and_run g a =
    record { file_name = a.name; seat_count = length a.taps.items; labels = map g.T.Tap.label a.taps.items }
