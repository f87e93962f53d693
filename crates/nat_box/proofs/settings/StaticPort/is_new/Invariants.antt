use Rattle.std.proofs.Common.{◌≡◌, drop}
use Rattle.nat_box.specs.Statics.{is_new}
use Rattle.nat_box.proofs.settings.StaticPort.is_new.Given as goal

-- it is new to all where it is new to what is left
abbrev pub invariant-loop-other : goal.invariant-loop-other
invariant-loop-other l = is_new l.self l.before ≡ is_new l.self (drop l.other-index l.before)
