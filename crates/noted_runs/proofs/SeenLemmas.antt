-- What is seen of a system.
use Rattle.std.proofs.Common.{◌≡◌, ◌≢◌, ◌⊎◌, inl, inr, ℕ, ◌+◌, ◌<◌, List, [], ◌∷◌, ◌++◌, length, refl, sym, ap, ◌∙◌}
use Rattle.std.proofs.Common.{subst, arith, get_or, Some, None, length-append}
use Rattle.std.specs.Prelude.{slice_get}
use Rattle.input_logger.specs.Inputs.{Fed}
use Rattle.entry_order.proofs.Order.{is_or}
use Rattle.plain_machine.specs.Program.{Meaning}
use Rattle.recovery_world.specs.World.{World}
use Rattle.recovery_core.specs.declared.lacking.Lacks.{Lacks}
use Rattle.recovery_core.specs.Lacking.{OutputLacks}
use Rattle.recovery_core.specs.Systems.{Systemed}
use Rattle.noted_runs.specs.TraceGoing.{HasLacks, IsSomewhere, ListsLacks}
use Rattle.noted_runs.proofs.Noted.{snoc_here, snoc_other}
use Rattle.noted_runs.proofs.SteeringLemmas.{snoc_found}

-- each of the list is what the output of this number lacks
abbrev pub AreLacks : {V : Type 0} → World V → ℕ → List Lacks → Type 0
AreLacks w t list = (j : ℕ) (x : Lacks) → slice_get list j ≡ Some x → OutputLacks w t j x

pub none_lacking : {V : Type 0} (w : World V) (t : ℕ) → AreLacks w t []
none_lacking w t j x e = absurd (let bad : None ≡ Some x = e in cc)

pub lacks_on : {V : Type 0} (w : World V) (t : ℕ) (list : List Lacks) (n : ℕ) (x : Lacks) → length list ≡ n
    → AreLacks w t list → OutputLacks w t n x → AreLacks w t (list ++ x ∷ [])
lacks_on {V} w t list n x long h new j y e = at (snoc_found list x j y e)
  where
    at : ((j < length list) × (slice_get list j ≡ Some y)) ⊎ ((j ≡ length list) × (x ≡ y)) → OutputLacks w t j y
    at (inl (low, found)) = h j y found
    at (inr (here, same)) = subst (λ (z : Lacks). OutputLacks w t j z) same
        (subst (λ (k : ℕ). OutputLacks w t k x) (sym (here ∙ long)) new)

pub lists_on : {V : Type 0} (w : World V) (n : ℕ) (lists : List (List Lacks)) (list : List Lacks)
    → HasLacks n w lists → ListsLacks w n list → HasLacks (n + 1) w (lists ++ list ∷ [])
lists_on {V} w n lists list h new = record {
  count = let a = length-append lists (list ∷ []) in let b = h.count in omega (arith, a, b);
  each = λ t low. at t low (is_or t (length lists));
}
  where
    at : (t : ℕ) → t < n + 1 → (t ≡ length lists) ⊎ (t ≢ length lists)
        → ListsLacks w t (get_or (lists ++ list ∷ []) t [])
    at t low (inl e) =
        subst (ListsLacks w t) (sym (snoc_here lists list [] t e))
        (subst (λ (u : ℕ). ListsLacks w u list) (sym (e ∙ h.count)) new)
    at t low (inr ne) =
        let b = h.count in
        let other : t ≢ n = λ e. ne (e ∙ sym b) in
        subst (ListsLacks w t) (sym (snoc_other lists list [] t ne)) (h.each t (omega (arith, low, other)))

-- how many threads a system has
pub threads_are : {P V : Type 0} (threads : ℕ) (m : Meaning V) (y : Systemed P V) → IsSomewhere threads m y
    → threads ≡ y.parts.inputs.threads
threads_are threads m y (s, w, stands, same) =
    sym same ∙ sym (ap (λ (log : Fed). log.threads) stands.parts.inputs.inputs)

pub no_lists : {V : Type 0} (w : World V) → HasLacks 0 w []
no_lists w = record { count = refl; each = λ t low. absurd (omega arith) }
