-- Which of two entries is named first: the order by thread, then by number.
use Rattle.std.proofs.Common.{◌≤◌, ◌<◌, refl, ◌∙◌, inl, inr, ◌⊎◌, arith}
use Rattle.std.proofs.lemmas.Bool.{cases_lt}
use Rattle.entry_order.specs.Log.{Entry}
use Rattle.entry_order.specs.Closed.{IsNoLater}

pub no_later_refl : (e : Entry) → IsNoLater e e
no_later_refl e = inr (refl, omega arith)

pub no_later_trans : (e f g : Entry) → IsNoLater e f → IsNoLater f g → IsNoLater e g
no_later_trans e f g (inl a) (inl b) = inl (omega arith)
no_later_trans e f g (inl a) (inr b) = inl (omega (arith, b.0))
no_later_trans e f g (inr a) (inl b) = inl (omega (arith, a.0))
no_later_trans e f g (inr a) (inr b) = inr (a.0 ∙ b.0, omega (arith, a.1, b.1))

-- of two entries one is no later
pub later_or : (e f : Entry) → IsNoLater e f ⊎ IsNoLater f e
later_or e f = go (cases_lt e.thread f.thread) (cases_lt f.thread e.thread) (cases_lt f.number e.number)
  where
    go : (e.thread < f.thread) ⊎ (f.thread ≤ e.thread) → (f.thread < e.thread) ⊎ (e.thread ≤ f.thread)
        → (f.number < e.number) ⊎ (e.number ≤ f.number) → IsNoLater e f ⊎ IsNoLater f e
    go (inl a) b c = inl (inl a)
    go (inr a) (inl b) c = inr (inl b)
    go (inr a) (inr b) (inl c) = inr (inr (omega arith, omega arith))
    go (inr a) (inr b) (inr c) = inl (inr (omega arith, c))
