use Rattle.std.proofs.Common.{◌≡◌, ◌++◌, ◌-◌}
use Rattle.run_drawing.specs.Picture.{releases_from}
use Rattle.run_drawing.proofs.signs.put_releases.Given as goal

-- with those that are left, all are there
abbrev pub invariant-releases : goal.invariant-releases
invariant-releases l =
    l.out ++ releases_from l.threads l.column l.line l.number (l.many - l.counter)
    ≡ l.fn.out ++ releases_from l.threads l.first l.line l.released l.many
