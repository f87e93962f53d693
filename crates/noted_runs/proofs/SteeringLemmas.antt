-- Packets are steered, one more.
use Rattle.std.proofs.Common.{◌≡◌, ◌⊎◌, inl, inr, ℕ, Bool, zero, suc, ◌+◌, ◌<◌, ◌≤◌, List, [], ◌∷◌, ◌++◌, length, take}
use Rattle.std.proofs.Common.{refl, sym}
use Rattle.std.proofs.Common.{ap, ◌∙◌, subst, arith, Some, None, length-append}
use Rattle.std.specs.Prelude.{slice_get}
use Rattle.plain_text.specs.declared.packet.Packet.{Packet}
use Rattle.input_logger.specs.Inputs.{Fed, inputs_of, thread_of}
use Rattle.input_logger.proofs.PlaceLists.{slice_get-append, slice_get_last}
use Rattle.noted_runs.specs.Turns.{AreTurns, turn_of}

-- what is found in a list with one element more
pub snoc_found : {A : Type 0} (xs : List A) (x : A) (i : ℕ) (y : A) → slice_get (xs ++ x ∷ []) i ≡ Some y
    → ((i < length xs) × (slice_get xs i ≡ Some y)) ⊎ ((i ≡ length xs) × (x ≡ y))
snoc_found [] x zero y e = let same : x ≡ y = cc in inr (refl, same)
snoc_found [] x (suc i) y e = absurd (cc)
snoc_found (z ∷ xs) x zero y e = inl (omega arith, e)
snoc_found {A} (z ∷ xs) x (suc i) y e = go (snoc_found xs x i y e)
  where
    go : ((i < length xs) × (slice_get xs i ≡ Some y)) ⊎ ((i ≡ length xs) × (x ≡ y))
        → ((suc i < length (z ∷ xs)) × (slice_get xs i ≡ Some y)) ⊎ ((suc i ≡ length (z ∷ xs)) × (x ≡ y))
    go (inl h) = let low = h.0 in inl (omega (arith, low), h.1)
    go (inr h) = inr (ap suc h.0, h.1)

take_short : {A : Type 0} (xs more : List A) (i : ℕ) → i ≤ length xs → take i (xs ++ more) ≡ take i xs
take_short xs more zero low = refl
take_short [] more (suc i) low = absurd (omega arith)
take_short (x ∷ xs) more (suc i) low = ap (λ l. x ∷ l) (take_short xs more i (omega arith))

take_whole : {A : Type 0} (xs : List A) → take (length xs) xs ≡ xs
take_whole [] = refl
take_whole (x ∷ xs) = ap (λ l. x ∷ l) (take_whole xs)

pub none_steered : (threads : ℕ) (tags : Bool) → AreTurns threads tags [] []
none_steered threads tags = record {
  long = refl;
  each = λ i packet e. absurd (let bad : None ≡ Some packet = e in cc);
  below = λ i turn e. absurd (let bad : None ≡ Some turn = e in cc);
}

module _ (threads : ℕ) (tags : Bool) (packets : List Packet) (turns : List (ℕ × ℕ))
    (h : AreTurns threads tags packets turns) (packet : Packet) (turn : ℕ × ℕ)
    (thread : turn.0 ≡ thread_of tags packet threads) (low : turn.0 < threads)
    (number : turn.1
    ≡ length (inputs_of (record { threads = threads; tags = tags; packets = packets }) turn.0) + 1) where
  abbrev log_of_first : List Packet → Fed
  log_of_first l = record { threads = threads; tags = tags; packets = l }

  -- of the last packet
  last : turn ≡ turn_of threads tags (packets ++ packet ∷ []) (length packets) packet
  last =
      ap (λ (n : ℕ). (turn.0, n)) (number
      ∙ ap (λ (l : List Packet). length (inputs_of (log_of_first l) turn.0) + 1)
      (sym (take_short packets (packet ∷ []) (length packets) (omega arith) ∙ take_whole packets)))
      ∙ ap (λ (t : ℕ). (
        t,
        length (inputs_of (log_of_first (take (length packets) (packets ++ packet ∷ []))) t) + 1,
      )) thread

  -- of an earlier one
  earlier : (i : ℕ) (p : Packet) → i < length packets
      → turn_of threads tags packets i p ≡ turn_of threads tags (packets ++ packet ∷ []) i p
  earlier i p under = ap (λ (l : List Packet). (
    thread_of tags p threads,
    length (inputs_of (log_of_first l) (thread_of tags p threads)) + 1,
  )) (sym (take_short packets (packet ∷ []) i (omega (arith, under))))

  pub steered_on : AreTurns threads tags (packets ++ packet ∷ []) (turns ++ turn ∷ [])
  steered_on = record {
    long = let a = length-append turns (turn ∷ []) in let b = length-append packets (packet ∷ []) in
        let c = h.long in omega (arith, a, b, c);
    each = λ i p e. at i p (snoc_found packets packet i p e);
    below = λ i x e. under i x (snoc_found turns turn i x e);
  }
    where
      at : (i : ℕ) (p : Packet) → ((i < length packets) × (slice_get packets i ≡ Some p))
          ⊎ ((i ≡ length packets) × (packet ≡ p))
          → slice_get (turns ++ turn ∷ []) i ≡ Some (turn_of threads tags (packets ++ packet ∷ []) i p)
      at i p (inl (low, e)) =
          slice_get-append turns (turn ∷ []) i (turn_of threads tags packets i p) (h.each i p e)
          ∙ ap Some (earlier i p low)
      at i p (inr (e, same)) =
          ap (slice_get (turns ++ turn ∷ [])) (e ∙ sym h.long)
          ∙ (slice_get_last turns turn
          ∙ ap Some (last
          ∙ (ap (λ (n : ℕ). turn_of threads tags (packets ++ packet ∷ []) n packet) (sym e)
          ∙ ap (turn_of threads tags (packets ++ packet ∷ []) i) same)))

      under : (i : ℕ) (x : ℕ × ℕ) → ((i < length turns) × (slice_get turns i ≡ Some x))
          ⊎ ((i ≡ length turns) × (turn ≡ x)) → x.0 < threads
      under i x (inl (l, e)) = h.below i x e
      under i x (inr (l, same)) = subst (λ (z : ℕ × ℕ). z.0 < threads) same low
