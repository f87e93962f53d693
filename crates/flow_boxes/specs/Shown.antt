-- The text that shows the counts of drops to an operator.
use Rattle.std.specs.Prelude.{ℕ, ◌+◌, ◌==◌, List, [], ◌∷◌, ◌++◌, codes, decimal, if◌then◌else◌}
use Rattle.flow_boxes.specs.declared.drops.Drops.{Drops}

-- one reason with its count behind what was written before; nothing where the count is 0
abbrev pub with_reason : ℕ → ℕ → List ℕ → List ℕ
with_reason reason count [] = if count == 0 then [] else decimal reason ++ codes ":" ++ decimal count
with_reason reason count (b ∷ bs) =
    if count == 0 then b ∷ bs else (b ∷ bs) ++ codes " " ++ decimal reason ++ codes ":" ++ decimal count

-- these counts, of the reasons from this one on, behind what was written before
abbrev pub with_reasons : ℕ → List ℕ → List ℕ → List ℕ
with_reasons reason [] text = text
with_reasons reason (count ∷ counts) text = with_reasons (reason + 1) counts (with_reason reason count text)

abbrev pub or_dash : List ℕ → List ℕ
or_dash [] = codes "-"
or_dash (b ∷ bs) = b ∷ bs

-- each count that is not 0 with its reason, by reason, or a dash where there is none
abbrev pub drops_text : Drops → List ℕ
drops_text d = or_dash (with_reasons 1 d.counts [])
