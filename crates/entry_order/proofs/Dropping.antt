-- A part of the held entries that lacks less and less, as those that lack a predecessor are dropped.
use Rattle.std.proofs.Common.{◌≡◌, ℕ, List, sym, subst, inl, inr, ◌⊎◌, Some}
use Rattle.std.specs.Prelude.{slice_get, remove}
use Rattle.entry_order.specs.Log.{Entry, IsIn}
use Rattle.entry_order.specs.Closed.{IsClosedOver, Lacks}
use Rattle.entry_order.proofs.Members.{removed_or, removed_in}

-- A part of the held entries that still has all that any closed part has.
pub record IsDropping (log stored held part : List Entry) : Type 0 where
  pub within : (e : Entry) → IsIn e part → IsIn e held
  pub greatest : (other : List Entry) → ((e : Entry) → IsIn e other → IsIn e held) → IsClosedOver log stored other
      → (e : Entry) → IsIn e other → IsIn e part

-- dropping one that lacks a predecessor
pub dropping_step : (log stored held part : List Entry) (i : ℕ) → IsDropping log stored held part
    → ((f : Entry) × (slice_get part i ≡ Some f) × Lacks log stored part f) → IsDropping log stored held (remove part i)
dropping_step log stored held part i d (f, at, (e, he, n, not_in, not_stored)) = record {
  within = λ g h. d.within g (removed_in part i g h);
  greatest =
      λ other sub closed g h. pick other sub closed g h (removed_or part i f g at (d.greatest other sub closed g h));
}
  where
    none : (other : List Entry) → ((g : Entry) → IsIn g other → IsIn g held) → IsClosedOver log stored other
        → IsIn f other → ⊥
    none other sub closed h = go (closed e f he h n)
      where
        go : IsIn e other ⊎ IsIn e stored → ⊥
        go (inl k) = not_in (d.greatest other sub closed e k)
        go (inr k) = not_stored k

    pick : (other : List Entry) → ((g : Entry) → IsIn g other → IsIn g held) → IsClosedOver log stored other
        → (g : Entry) → IsIn g other → (f ≡ g) ⊎ IsIn g (remove part i) → IsIn g (remove part i)
    pick other sub closed g h (inl same) =
        absurd (none other sub closed (subst (λ (z : Entry). IsIn z other) (sym same) h))
    pick other sub closed g h (inr k) = k
