-- The texts that show the variables to an operator.
use Rattle.std.specs.Prelude.{ℕ, List, [], ◌∷◌, ◌++◌, codes, decimal}
use Rattle.nat_tables.specs.Shown.{mappings_text}
use Rattle.flow_boxes.specs.Shown.{drops_text}
use Rattle.balancer_box.specs.declared.value.BalancerValue.{BalancerValue}
use Rattle.balancer_box.specs.declared.value.BalancerValue.TheVariants.{Dropped, Loaded, Connected}

-- loads that stand behind others
abbrev pub further_loads : List ℕ → List ℕ
further_loads [] = []
further_loads (x ∷ xs) = codes " " ++ decimal x ++ further_loads xs

-- the loads by backend
abbrev pub loads_text : List ℕ → List ℕ
loads_text [] = []
loads_text (x ∷ xs) = decimal x ++ further_loads xs

-- a connection shows as a mapping does: the client, the number of its backend, and its last use
abbrev pub shown_value : BalancerValue → List ℕ
shown_value (Dropped d) = drops_text d
shown_value (Loaded loads) = loads_text loads
shown_value (Connected es) = mappings_text es
