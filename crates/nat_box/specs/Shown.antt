-- The texts that show the variables to an operator.
use Rattle.std.specs.Prelude.{ℕ, List}
use Rattle.flow_boxes.specs.Shown.{drops_text}
use Rattle.nat_tables.specs.Shown.{pool_text, mappings_text, all_bound_text}
use Rattle.nat_box.specs.declared.value.NatValue.{NatValue}
use Rattle.nat_box.specs.declared.value.NatValue.TheVariants.{Dropped, Free, Mapped, Taken}

abbrev pub shown_value : NatValue → List ℕ
shown_value (Dropped d) = drops_text d
shown_value (Free pool) = pool_text pool
shown_value (Mapped es) = mappings_text es
shown_value (Taken bs) = all_bound_text bs
