use Rattle.std.proofs.Common.{◌≡◌, ◌++◌, drop}
use Rattle.noted_runs.specs.Picture.{times_in}
use Rattle.noted_runs.proofs.picture.times.times_of.Given as goal

-- with those that are left, all are there
abbrev pub invariant-loop-packet : goal.invariant-loop-packet
invariant-loop-packet l =
    l.times ++ times_in l.unit (drop l.packet-index l.packets) ≡ times_in l.unit l.packets
