-- Rows are filled, one more.
use Rattle.std.proofs.Common.{◌≡◌, ◌⊎◌, inl, inr, ℕ, ◌+◌, ◌<◌, ◌≤◌, List, [], ◌∷◌, ◌++◌, length, take, refl, sym}
use Rattle.std.proofs.Common.{ap, ◌∙◌, subst, arith, Some, None, length-append, get_or}
use Rattle.std.specs.Prelude.{slice_get}
use Rattle.std.proofs.lemmas.List.{take_all, take_more, length-take-le}
use Rattle.input_logger.proofs.PlaceLists.{slice_get-append, slice_get_last}
use Rattle.recovery_core.specs.declared.lacking.Lacks.{Lacks}
use Rattle.noted_runs.specs.declared.trace.rows.Became.{Became}
use Rattle.noted_runs.specs.declared.trace.rows.Departure.{Departure}
use Rattle.noted_runs.specs.declared.trace.rows.Row.{Row}
use Rattle.noted_runs.specs.Filling.{AreFilled, IsFilled}
use Rattle.noted_runs.proofs.SteeringLemmas.{snoc_found}

module _ (departures : List Departure) (places : List (List ℕ)) (lists : List (List Lacks))
    (inputs : List (List Became)) where
  pub none_filled : AreFilled departures places lists inputs [] []
  none_filled = record {
    long = refl;
    each = λ i row e. absurd (let bad : None ≡ Some row = e in cc);
  }

  filled_next : (turns : List (ℕ × ℕ)) (rows : List Row) (turn : ℕ × ℕ) (row : Row)
      → AreFilled departures places lists inputs turns rows
      → IsFilled departures places lists inputs (length turns) turn row
      → AreFilled departures places lists inputs (turns ++ turn ∷ []) (rows ++ row ∷ [])
  filled_next turns rows turn row h new = record {
    long = let a = length-append turns (turn ∷ []) in let b = length-append rows (row ∷ []) in
        let c = h.long in omega (arith, a, b, c);
    each = λ i x e. at i x (snoc_found rows row i x e);
  }
    where
      at : (i : ℕ) (x : Row) → ((i < length rows) × (slice_get rows i ≡ Some x)) ⊎ ((i ≡ length rows) × (row ≡ x))
          → (t : ℕ × ℕ) × (slice_get (turns ++ turn ∷ []) i ≡ Some t)
          × IsFilled departures places lists inputs i t x
      at i x (inl (low, e)) =
          let old = h.each i x e in (old.0, slice_get-append turns (turn ∷ []) i old.0 old.1, old.2)
      at i x (inr (e, same)) =
          let here : i ≡ length turns = e ∙ h.long in (
            turn,
            ap (slice_get (turns ++ turn ∷ [])) here ∙ slice_get_last turns turn,
            subst (IsFilled departures places lists inputs i turn) same
                (subst (λ (n : ℕ). IsFilled departures places lists inputs n turn row) (sym here) new),
          )

  pub filled_on : (turns : List (ℕ × ℕ)) (i : ℕ) (turn d : ℕ × ℕ) (rows : List Row) (row : Row) → i < length turns
      → turn ≡ get_or turns i d → AreFilled departures places lists inputs (take i turns) rows
      → IsFilled departures places lists inputs i turn row
      → AreFilled departures places lists inputs (take (i + 1) turns) (rows ++ row ∷ [])
  filled_on turns i turn d rows row low is h new =
      subst (λ (l : List (ℕ × ℕ)). AreFilled departures places lists inputs l (rows ++ row ∷ []))
      (sym (take_more turns i d low ∙ ap (λ (x : ℕ × ℕ). take i turns ++ x ∷ []) (sym is)))
      (filled_next (take i turns) rows turn row h
      (subst (λ (n : ℕ). IsFilled departures places lists inputs n turn row)
      (sym (length-take-le i turns (omega (arith, low)))) new))

  pub filled_all : (turns : List (ℕ × ℕ)) (i : ℕ) (rows : List Row) → length turns ≤ i
      → AreFilled departures places lists inputs (take i turns) rows
      → AreFilled departures places lists inputs turns rows
  filled_all turns i rows all h =
      subst (λ (l : List (ℕ × ℕ)). AreFilled departures places lists inputs l rows) (take_all i turns all) h

pub filled_same : (departures : List Departure) (places : List (List ℕ)) (lists : List (List Lacks))
    (inputs other : List (List Became)) (turns others : List (ℕ × ℕ)) (rows : List Row) → inputs ≡ other
    → turns ≡ others → AreFilled departures places lists inputs turns rows
    → AreFilled departures places lists other others rows
filled_same departures places lists inputs other turns others rows same alike h =
    subst (λ (l : List (ℕ × ℕ)). AreFilled departures places lists other l rows) alike
    (subst (λ (l : List (List Became)). AreFilled departures places lists l turns rows) same h)
