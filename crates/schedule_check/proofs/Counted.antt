-- Counts of packets that are the same: of one item more, of the first ones, and as the definition counts them.
use Rattle.std.proofs.Common.{◌≡◌, ℕ, zero, suc, ◌+◌, ◌<◌, ◌≤◌, inl, inr, arith, Bool, true, false, List, [], ◌∷◌, ◌++◌}
use Rattle.std.proofs.Common.{length, take, drop, get_or, refl, sym, ap, ◌∙◌, subst, zero-add}
use Rattle.std.proofs.lemmas.List.{take_more, drop_more}
use Rattle.plain_text.specs.declared.packet.Packet.{Packet}
use Rattle.plain_text.specs.declared.packet.Unit.{Unit as FractionUnit}
use Rattle.plain_machine.specs.declared.emission.Emission.{Emission}
use Rattle.schedule_check.specs.Counting.{same, one_if, how_many, packets_like, sent_like}
use Rattle.recovery_world.specs.Matching.{IsSame, IsPacketCount, IsEmissionCount}
use Rattle.schedule_check.proofs.Alike.{same_is, is_same, same_to}

-- Of any test

module _ {X : Type 0} (test : X → Bool) where
  many_append : (xs : List X) (x : X) → how_many test (xs ++ x ∷ []) ≡ how_many test xs + one_if (test x)
  many_append [] x = omega arith
  many_append (y ∷ xs) x = let more = many_append xs x in omega arith

  -- one more of the first items
  pub many_take : (xs : List X) (i : ℕ) (x : X) → i < length xs → x ≡ get_or xs i x
      → how_many test (take (i + 1) xs) ≡ how_many test (take i xs) + one_if (test x)
  many_take xs i x less is =
      ap (how_many test) (take_more xs i x less)
      ∙ (ap (λ (y : X). how_many test (take i xs ++ y ∷ [])) (sym is) ∙ many_append (take i xs) x)

  -- one less of the items behind
  pub many_drop : (xs : List X) (i : ℕ) (x : X) → i < length xs → x ≡ get_or xs i x
      → how_many test (drop i xs) ≡ one_if (test x) + how_many test (drop (i + 1) xs)
  many_drop xs i x less is =
      ap (how_many test) (drop_more xs i x less) ∙ ap (λ (y : X). how_many test (y ∷ drop (i + 1) xs)) (sym is)

  pub many_first : (xs : List X) (j i : ℕ) → j ≤ i → how_many test (take j xs) ≤ how_many test (take i xs)
  many_first xs zero i less = omega arith
  many_first [] (suc j) i less = omega arith
  many_first (x ∷ xs) (suc j) zero less = absurd (omega arith)
  many_first (x ∷ xs) (suc j) (suc i) less = let more = many_first xs j i (omega arith) in omega arith

  pub many_within : (xs : List X) (i : ℕ) → how_many test (take i xs) ≤ how_many test xs
  many_within xs zero = omega arith
  many_within [] (suc i) = omega arith
  many_within (x ∷ xs) (suc i) = let more = many_within xs i in omega arith

  pub many_length : (xs : List X) → how_many test xs ≤ length xs
  many_length [] = omega arith
  many_length (x ∷ xs) = by (test x) (many_length xs)
    where
      by : (b : Bool) → how_many test xs ≤ length xs → one_if b + how_many test xs ≤ length (x ∷ xs)
      by true more = omega arith
      by false more = omega arith

many_alike : {X : Type 0} (f g : X → Bool) → ((x : X) → f x ≡ g x) → (xs : List X) → how_many f xs ≡ how_many g xs
many_alike f g alike [] = refl
many_alike f g alike (x ∷ xs) =
    ap (λ (b : Bool). one_if b + how_many f xs) (alike x) ∙ ap (λ (n : ℕ). one_if (g x) + n) (many_alike f g alike xs)

-- packets that are the same have the same counts
pub packets_alike : (u : FractionUnit) (p : Packet) (v : FractionUnit) (q : Packet) (packets : List Packet)
    (w : FractionUnit) → same u p v q ≡ true → how_many (same u p w) packets ≡ how_many (same v q w) packets
packets_alike u p v q packets w e = many_alike (same u p w) (same v q w) (λ x. same_to u p v q w x e) packets

pub sent_alike : (u : FractionUnit) (p : Packet) (v : FractionUnit) (q : Packet) (w : FractionUnit)
    (sent : List Emission) → same u p v q ≡ true → sent_like u p w sent ≡ sent_like v q w sent
sent_alike u p v q w sent e =
    many_alike (λ o. same u p w o.packet) (λ o. same v q w o.packet) (λ o. same_to u p v q w o.packet e) sent

-- As the definition counts them

not_same : (u : FractionUnit) (p : Packet) (v : FractionUnit) (q : Packet) → (IsSame u p v q → ⊥) → same u p v q ≡ false
not_same u p v q other = by (same u p v q) refl
  where
    by : (b : Bool) → same u p v q ≡ b → same u p v q ≡ false
    by true e = absurd (other (same_is u p v q e))
    by false e = e

none_same : (u : FractionUnit) (p : Packet) (v : FractionUnit) (q : Packet) → same u p v q ≡ false → IsSame u p v q → ⊥
none_same u p v q e s = let clash : true ≡ false = sym (is_same u p v q s) ∙ e in absurd (cc)

pub packet_count : (u : FractionUnit) (p : Packet) (packets : List Packet) (n : ℕ) → IsPacketCount u p packets n
    → n ≡ packets_like u p packets
packet_count u p [] n e = e
packet_count u p (q ∷ packets) n (inl (s, k, e, more)) =
    let one : one_if (same u p u q) ≡ 1 = ap one_if (is_same u p u q s) in
    let behind = packet_count u p packets k more in
    omega arith
packet_count u p (q ∷ packets) n (inr (other, more)) =
    let none : one_if (same u p u q) ≡ 0 = ap one_if (not_same u p u q other) in
    let behind = packet_count u p packets n more in
    omega arith

pub packet_count_there : (u : FractionUnit) (p : Packet) (packets : List Packet)
    → IsPacketCount u p packets (packets_like u p packets)
packet_count_there u p [] = refl
packet_count_there u p (q ∷ packets) = by (same u p u q) refl (packet_count_there u p packets)
  where
    by : (b : Bool) → same u p u q ≡ b → IsPacketCount u p packets (packets_like u p packets)
        → IsPacketCount u p (q ∷ packets) (one_if b + packets_like u p packets)
    by true e more = inl (same_is u p u q e, packets_like u p packets, omega arith, more)
    by false e more = inr (
      none_same u p u q e,
      subst (λ (n : ℕ). IsPacketCount u p packets n) (sym (zero-add (packets_like u p packets))) more,
    )

pub emission_count : (u : FractionUnit) (p : Packet) (v : FractionUnit) (sent : List Emission) (n : ℕ)
    → IsEmissionCount u p v sent n → n ≡ sent_like u p v sent
emission_count u p v [] n e = e
emission_count u p v (o ∷ sent) n (inl (s, k, e, more)) =
    let one : one_if (same u p v o.packet) ≡ 1 = ap one_if (is_same u p v o.packet s) in
    let behind = emission_count u p v sent k more in
    omega arith
emission_count u p v (o ∷ sent) n (inr (other, more)) =
    let none : one_if (same u p v o.packet) ≡ 0 = ap one_if (not_same u p v o.packet other) in
    let behind = emission_count u p v sent n more in
    omega arith

pub emission_count_there : (u : FractionUnit) (p : Packet) (v : FractionUnit) (sent : List Emission)
    → IsEmissionCount u p v sent (sent_like u p v sent)
emission_count_there u p v [] = refl
emission_count_there u p v (o ∷ sent) = by (same u p v o.packet) refl (emission_count_there u p v sent)
  where
    by : (b : Bool) → same u p v o.packet ≡ b → IsEmissionCount u p v sent (sent_like u p v sent)
        → IsEmissionCount u p v (o ∷ sent) (one_if b + sent_like u p v sent)
    by true e more = inl (same_is u p v o.packet e, sent_like u p v sent, omega arith, more)
    by false e more = inr (
      none_same u p v o.packet e,
      subst (λ (n : ℕ). IsEmissionCount u p v sent n) (sym (zero-add (sent_like u p v sent))) more,
    )
