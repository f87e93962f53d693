-- The places that a thread finds rise: what it touches or reads later stands after what it touched or read before.
use Rattle.std.specs.Prelude.{◌≡◌, ℕ, ◌<◌, ◌≤◌, List, ◌∷◌, ◌++◌}
use Rattle.plain_text.specs.declared.packet.Packet.{Packet}
use Rattle.plain_machine.specs.Program.{Meaning}
use Rattle.plain_machine.specs.History.{Step}
use Rattle.round_order.specs.Receipts.{Receipt, Receipts, Among, IsTouch, IsRead}
use Rattle.round_order.specs.Linked.{IsLinked}

-- r is a later receipt of the thread of x
abbrev pub IsLater : {V : Type 0} → Receipts V → Receipt V → Receipt V → Type 0
IsLater {V} rs x r =
    (newer : List (Receipt V)) × (earlier : List (Receipt V)) × (rs r.step.thread ≡ newer ++ r ∷ earlier)
    × Among x earlier

-- Of two receipts of a thread that are of one variable: a later touch has a higher place, and a later read is after no
-- lesser one.
pub record ArePlacesRising {V : Type 0} (x r : Receipt V) (v : ℕ) : Type 0 where
  pub touches : (a b : V) → IsTouch x v a → IsTouch r v b → x.place < r.place
  pub read_then_touch : (b : V) → IsRead x v → IsTouch r v b → x.place ≤ r.place
  pub touch_then_read : (a : V) → IsTouch x v a → IsRead r v → x.place < r.place
  pub reads : IsRead x v → IsRead r v → x.place ≤ r.place

abbrev pub PlacesRise : Type 0 → Type 0
PlacesRise X =
    (m : Meaning X) (inputs : ℕ → List Packet) (threads : ℕ) (past : List (Step X)) (rs : Receipts X) (x r : Receipt X)
    (v : ℕ) → threads ≤ 16 → IsLinked m inputs threads past rs → IsLater rs x r → ArePlacesRising x r v
