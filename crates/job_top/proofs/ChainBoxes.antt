-- What a chain of boxes begins to write, told of the kind of the first box.
use Rattle.std.proofs.Common.{◌≡◌, subst, sym}
use Rattle.box_conf.specs.declared.kind.BoxKind.{BoxKind}
use Rattle.box_conf.specs.Kinds.{meaning_of}
use Rattle.world_io.specs.World.{Shown}
use Rattle.chain_command.specs.declared.opening.ChainRun.{ChainRun}
use Rattle.chain_command.specs.Outputs.{ChainNames as OutputNames, first_setting, second_setting}
use Rattle.chain_command.specs.Writes.{HasBegunChain}

pub begun_of : (k kind second : BoxKind) (run : ChainRun) (names : OutputNames) (old new : Shown) → kind ≡ k
    → HasBegunChain (first_setting (meaning_of k).meaning run) (second_setting (meaning_of second).meaning run) names
    run.events old new
    → HasBegunChain (first_setting (meaning_of kind).meaning run) (second_setting (meaning_of second).meaning run)
    names run.events old new
begun_of k kind second run names old new is begun =
    subst
    (λ (x : BoxKind). HasBegunChain (first_setting (meaning_of x).meaning run)
    (second_setting (meaning_of second).meaning run) names run.events old new)
    (sym is) begun
