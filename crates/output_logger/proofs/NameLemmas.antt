-- Lists of outputs by their threads and numbers, and their parts.
use Rattle.std.proofs.Common.{◌≡◌, ℕ, ◌⊎◌, ◌↔◌, List, [], ◌∷◌, ◌++◌, length, take, refl, ap, ◌∙◌, inl, inr, ⊎_elim}
use Rattle.std.proofs.Common.{append_assoc}
use Rattle.access_log.specs.declared.entry.Output.{Output}
use Rattle.dup_filter.specs.Numbers.{Numbers, WasMarked}
use Rattle.output_logger.specs.Logger.{IsNamed, AreApart, appended, Lives, Begins, Goes}

pub named_append : (t n : ℕ) (xs ys : List Output) → IsNamed t n (xs ++ ys) ↔ (IsNamed t n xs ⊎ IsNamed t n ys)
named_append t n [] ys = (λ h. inr h, λ h. ⊎_elim (λ q. absurd q) (λ q. q) h)
named_append t n (x ∷ xs) ys =
    let rest = named_append t n xs ys in (
      λ h. ⊎_elim (λ q. inl (inl q)) (λ q. ⊎_elim (λ a. inl (inr a)) (λ b. inr b) (rest.0 q)) h,
      λ h. ⊎_elim (λ q. ⊎_elim (λ a. inl a) (λ a. inr (rest.1 (inl a))) q) (λ b. inr (rest.1 (inr b))) h,
    )

pub apart_append : (xs ys : List Output) → AreApart xs → AreApart ys → ((t n : ℕ) → IsNamed t n xs → IsNamed t n ys → ⊥)
    → AreApart (xs ++ ys)
apart_append [] ys a b none = b
apart_append (x ∷ xs) ys a b none = (
  λ h. ⊎_elim (λ q. a.0 q) (λ q. none x.thread x.number (inl (refl, refl)) q)
      ((named_append x.thread x.number xs ys).0 h),
  apart_append xs ys a.1 b (λ t n p q. none t n (inr p) q),
)

-- what was appended

pub appended_append : (xs ys : List Output) → appended xs (xs ++ ys) ≡ ys
appended_append [] ys = refl
appended_append (x ∷ xs) ys = appended_append xs ys

pub appended_none : (xs : List Output) → appended xs xs ≡ []
appended_none [] = refl
appended_none (x ∷ xs) = appended_none xs

append_nil : (xs : List Output) → xs ≡ xs ++ []
append_nil [] = refl
append_nil (x ∷ xs) = ap (λ l. x ∷ l) (append_nil xs)

pub appends_none : (xs : List Output) → xs ≡ xs ++ appended xs xs
appends_none xs = rw (appended_none xs) (append_nil xs)

pub appended_more : (first old new : List Output) (o : Output) → old ≡ first ++ appended first old → new ≡ old ++ o ∷ []
    → (new ≡ first ++ (appended first old ++ o ∷ [])) × (appended first new ≡ appended first old ++ o ∷ [])
appended_more first old new o before more =
    let whole : new ≡ first ++ (appended first old ++ o ∷ []) =
    more ∙ ap (λ l. l ++ o ∷ []) before ∙ append_assoc first (appended first old) (o ∷ []) in
    (whole, ap (appended first) whole ∙ appended_append first (appended first old ++ o ∷ []))

pub take_first : (xs ys : List Output) → take (length xs) (xs ++ ys) ≡ xs
take_first [] ys = refl
take_first (x ∷ xs) ys = ap (λ l. x ∷ l) (take_first xs ys)

-- Over a life, each is released once

pub lives_noted : (old new : List Numbers) (outs : List Output) → ((t n : ℕ) → WasMarked old t n → ⊥)
    → Lives old outs new → (t n : ℕ) → WasMarked new t n ↔ IsNamed t n outs
lives_noted old new outs none (Begins b) t n = (λ h. absurd (none t n h), λ h. absurd h)
lives_noted old new outs none (Goes {mid = mid} {earlier = earlier} {go = go} life step) t n =
    let before = lives_noted old mid earlier none life t n in
    let both = named_append t n earlier go in (
      λ h. both.1 (⊎_elim (λ q. inr q) (λ q. inl (before.0 q)) ((step.marked t n).0 h)),
      λ h. (step.marked t n).1 (⊎_elim (λ q. inr (before.1 q)) (λ q. inl q) (both.0 h)),
    )

pub lives_once : (old new : List Numbers) (outs : List Output) → ((t n : ℕ) → WasMarked old t n → ⊥)
    → Lives old outs new → AreApart outs
lives_once old new outs none (Begins b) = tt
lives_once old new outs none (Goes {mid = mid} {earlier = earlier} {go = go} life step) =
    apart_append earlier go (lives_once old mid earlier none life) step.apart
    (λ t n p q. step.fresh t n q ((lives_noted old mid earlier none life t n).1 p))
