-- While a port of the wanted parity is free, one of this parity is reserved.
use Rattle.std.proofs.Common.{◌≡◌, ℕ, zero, suc, ◌%◌, ◌<◌, ◌≤◌, Bool, true, false, List, [], ◌∷◌, length, refl, sym, ap}
use Rattle.std.proofs.Common.{◌∙◌, subst, arith, Option, Some, None}
use Rattle.std.specs.Prelude.{◌==◌, slice_index}
use Rattle.std.specs.List.{remove}
use Rattle.std.proofs.lemmas.Bool.{eqb-true}
use Rattle.std.proofs.lemmas.Bool.Decides.{nat_tests}
use Rattle.nat_tables.specs.Ports.{Ports, chosen, of_even, of_odd, is_even, reserved_of, reserve, one_if, count_port}
use Rattle.nat_tables.specs.Ports.{free_in, free_of, AreOfParity, KeepsParity}

parity_at : (r i : ℕ) (ps : List ℕ) → i < length ps → AreOfParity r ps → slice_index ps i % 2 ≡ r
parity_at r i [] low all = absurd (omega arith)
parity_at r zero (p ∷ ps) low all = all.1
parity_at r (suc i) (p ∷ ps) low all = parity_at r i ps (omega arith) all.3

chosen_parity : (r draw : ℕ) (ps : List ℕ) (c : ℕ × List ℕ) → chosen draw ps ≡ Some c → AreOfParity r ps → c.0 % 2 ≡ r
chosen_parity r draw [] c is all = absurd (cc)
chosen_parity r draw (p ∷ ps) c is all =
    let at : ℕ = draw % length (p ∷ ps) in
    let same : (slice_index (p ∷ ps) at, remove (p ∷ ps) at) ≡ c = cc in
    subst (λ (c : ℕ × List ℕ). c.0 % 2 ≡ r) same (parity_at r at (p ∷ ps) (omega arith) all)

none_chosen : (draw k : ℕ) (ps : List ℕ) → chosen draw ps ≡ None → count_port k ps ≡ 0
none_chosen draw k [] is = refl
none_chosen draw k (p ∷ ps) is = absurd (cc)

counted_parity : (r k : ℕ) (ps : List ℕ) → AreOfParity r ps → 1 ≤ count_port k ps → k % 2 ≡ r
counted_parity r k [] all some = absurd (omega arith)
counted_parity r k (p ∷ ps) all some = by (p == k) refl (counted_parity r k ps all.3)
  where
    by : (b : Bool) → (p == k) ≡ b → (1 ≤ count_port k ps → k % 2 ≡ r) → k % 2 ≡ r
    by true e rest = subst (λ (x : ℕ). x % 2 ≡ r) (eqb-true _ _ e) all.1
    by false e rest = let z : one_if (p == k) ≡ 0 = ap one_if e in rest (omega arith)

module _ (draw p q : ℕ) (ports : Ports) (even : AreOfParity 0 ports.even) (odd : AreOfParity 1 ports.odd)
    (some : 1 ≤ free_in q ports) where
  by_even : (a b : Option (ℕ × List ℕ)) → chosen draw ports.even ≡ a → chosen draw ports.odd ≡ b → q % 2 ≡ 0
      → (of_even ports a b).0 ≡ Some p → p % 2 ≡ 0
  by_even (Some c) b x y want e =
      let k : c.0 ≡ p = cc in subst (λ (x : ℕ). x % 2 ≡ 0) k (chosen_parity 0 draw ports.even c x even)
  by_even None b x y want e =
      let z = none_chosen draw q ports.even x in
      let o : q % 2 ≡ 1 = counted_parity 1 q ports.odd odd (omega arith) in absurd (omega arith)

  by_odd : (a b : Option (ℕ × List ℕ)) → chosen draw ports.even ≡ a → chosen draw ports.odd ≡ b → q % 2 ≡ 1
      → (of_odd ports a b).0 ≡ Some p → p % 2 ≡ 1
  by_odd None (Some c) x y want e =
      let k : c.0 ≡ p = cc in subst (λ (x : ℕ). x % 2 ≡ 1) k (chosen_parity 1 draw ports.odd c y odd)
  by_odd (Some d) (Some c) x y want e =
      let k : c.0 ≡ p = cc in subst (λ (x : ℕ). x % 2 ≡ 1) k (chosen_parity 1 draw ports.odd c y odd)
  by_odd a None x y want e =
      let z = none_chosen draw q ports.odd y in
      let o : q % 2 ≡ 0 = counted_parity 0 q ports.even even (omega arith) in absurd (omega arith)

  of_ports : (port : ℕ) → q % 2 ≡ port % 2 → (reserved_of port draw ports).0 ≡ Some p → p % 2 ≡ port % 2
  of_ports port want = by (is_even port) refl
    where
      by : (b : Bool) → is_even port ≡ b → (reserved_of port draw ports).0 ≡ Some p → p % 2 ≡ port % 2
      by true t =
          let m : port % 2 ≡ 0 = grind (arith, nat_tests) in
          rw t (λ e. by_even (chosen draw ports.even) (chosen draw ports.odd) refl refl (want ∙ m) e ∙ sym m)
      by false t =
          let m : port % 2 ≡ 1 = grind (arith, nat_tests) in
          rw t (λ e. by_odd (chosen draw ports.even) (chosen draw ports.odd) refl refl (want ∙ m) e ∙ sym m)

pub keeps_parity : KeepsParity
keeps_parity protocol port draw p q pool all got some want = by (protocol == 6) (protocol == 17) refl refl got some
  where
    by : (b c : Bool) → (protocol == 6) ≡ b → (protocol == 17) ≡ c → (reserve protocol port draw pool).0 ≡ Some p
        → 1 ≤ free_of protocol q pool → p % 2 ≡ port % 2
    by true c x y = rw x (λ got some. of_ports draw p q pool.tcp all.0 all.1 some port want got)
    by false true x y = rw (x, y) (λ got some. of_ports draw p q pool.udp all.2 all.3 some port want got)
    by false false x y = rw (x, y) (λ got some. absurd (omega arith))
