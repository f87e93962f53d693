use Rattle.std.proofs.Common.{◌≡◌, ◌++◌, take}
use Rattle.output_releases.specs.Released.{names_of}
use Rattle.output_releases.proofs.releasing.add_names.Given as goal

abbrev pub invariant-loop-output : goal.invariant-loop-output
invariant-loop-output l = l.names ≡ l.initial.names ++ names_of (take l.output-index l.outputs)
