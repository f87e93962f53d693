-- The frames that orders lose, as a set of keys.
use Rattle.std.specs.Prelude.{◌≡◌, ◌↔◌, ℕ, List, true}
use Rattle.std.specs.declared.cmp.Ordering.{Ordering}
use Rattle.std.specs.Ordering.{nat_cmp, ordering_then}
use Rattle.std.specs.BTreeMap.{is_at}
use Rattle.std.specs.List.{list_any}
use Rattle.plain_text.specs.declared.kind.Kind.{Kind}
use Rattle.plain_text.specs.declared.kind.Kind.TheVariants as kind
use Rattle.recovery_world.specs.Many.{Message}
use Rattle.plan_script.specs.Orders.{IsLost}

-- the code of a kind
abbrev pub code : Kind → ℕ
code kind.Log = 0
code kind.Out = 1

-- what a frame is looked up by: the code of its kind, its thread and its number
abbrev pub key_of : Message → ℕ × ℕ × ℕ
key_of f = (code f.kind, f.thread, f.number)

-- the order of the keys
abbrev pub key_cmp : ℕ × ℕ × ℕ → ℕ × ℕ × ℕ → Ordering
key_cmp x y = ordering_then (ordering_then (nat_cmp x.0 y.0) (nat_cmp x.1 y.1)) (nat_cmp x.2 y.2)

-- These are the keys of the lost frames.
abbrev pub HaveLost : List (ℕ × ℕ × ℕ) → List Message → Type 0
HaveLost keys lost = (f : Message) → (list_any (is_at (key_cmp (key_of f))) keys ≡ true) ↔ IsLost f lost
