-- What a chain shows.
use Rattle.chain_box.specs.declared.chain.Chain.TheInside.{Inside}
use Rattle.chain_box.specs.Chains.{TwoSystems}

abbrev pub chain_in : {P V Q U : Type 0} → Inside P Q V U → TwoSystems P V Q U
chain_in y = record { first = y.first; second = y.second; stopped = y.stopped }
