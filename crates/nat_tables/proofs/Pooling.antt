-- How the pool's operations change how often a port is free.
use Rattle.std.proofs.Common.{◌≡◌, ℕ, zero, suc, ◌+◌, ◌-◌, ◌≤◌, Bool, true, false, List, [], ◌∷◌, refl, subst, arith}
use Rattle.std.proofs.Common.{ap, ◌∙◌}
use Rattle.std.specs.Prelude.{if◌then◌else◌}
use Rattle.std.proofs.lemmas.Bool.{eqb-true}
use Rattle.std.proofs.Common.{Option, Some, None}
use Rattle.std.specs.Prelude.{◌&&◌, ◌==◌, nat_lt, not}
use Rattle.std.proofs.lemmas.Bool.Decides.{nat_tests}
use Rattle.nat_tables.specs.declared.entries.PortKey.{PortKey}
use Rattle.nat_tables.specs.Ports.{Ports, PoolPorts, chosen, of_even, of_odd, is_even, reserved_of, with_port}
use Rattle.nat_tables.specs.Ports.{given_back_to, reserve, is_in_range, give_back, ports_from, no_ports, full_pool}
use Rattle.nat_tables.specs.Ports.{one_if, count_port, free_in, free_of, of_range, has_port, ports_without}
use Rattle.nat_tables.specs.Ports.{pool_without}
use Rattle.nat_tables.specs.Keys.{same_port, port_key}
use Rattle.nat_tables.proofs.Counting.{count_chosen, count_with}

-- how often a port is the answer
abbrev pub if_port : ℕ → Option ℕ → ℕ
if_port k None = 0
if_port k (Some p) = one_if (p == k)

count_of_even : (k draw : ℕ) (ports : Ports) (a b : Option (ℕ × List ℕ)) → chosen draw ports.even ≡ a
    → chosen draw ports.odd ≡ b → free_in k (of_even ports a b).1 + if_port k (of_even ports a b).0 ≡ free_in k ports
count_of_even k draw ports (Some c) b p q = let a = count_chosen k draw ports.even c p in omega arith
count_of_even k draw ports None (Some c) p q = let a = count_chosen k draw ports.odd c q in omega arith
count_of_even k draw ports None None p q = omega arith

count_of_odd : (k draw : ℕ) (ports : Ports) (a b : Option (ℕ × List ℕ)) → chosen draw ports.even ≡ a
    → chosen draw ports.odd ≡ b → free_in k (of_odd ports a b).1 + if_port k (of_odd ports a b).0 ≡ free_in k ports
count_of_odd k draw ports None (Some c) p q = let a = count_chosen k draw ports.odd c q in omega arith
count_of_odd k draw ports (Some d) (Some c) p q = let a = count_chosen k draw ports.odd c q in omega arith
count_of_odd k draw ports (Some c) None p q = let a = count_chosen k draw ports.even c p in omega arith
count_of_odd k draw ports None None p q = omega arith

count_reserved : (k port draw : ℕ) (ports : Ports)
    → free_in k (reserved_of port draw ports).1 + if_port k (reserved_of port draw ports).0 ≡ free_in k ports
count_reserved k port draw ports = by (is_even port) refl
  where
    by : (b : Bool) → is_even port ≡ b
        → free_in k (reserved_of port draw ports).1 + if_port k (reserved_of port draw ports).0 ≡ free_in k ports
    by true q = rw q (count_of_even k draw ports (chosen draw ports.even) (chosen draw ports.odd) refl refl)
    by false q = rw q (count_of_odd k draw ports (chosen draw ports.even) (chosen draw ports.odd) refl refl)

-- how often a port of a protocol is the answer for a flow of this protocol
abbrev pub if_key : PortKey → ℕ → Option ℕ → ℕ
if_key k protocol None = 0
if_key k protocol (Some p) = one_if (same_port k (port_key protocol p))

key_port : (k : PortKey) (protocol : ℕ) (o : Option ℕ) → (k.protocol == protocol) ≡ true
    → if_key k protocol o ≡ if_port k.port o
key_port k protocol None e = refl
key_port k protocol (Some p) e = by (k.port == p) refl
  where
    by : (b : Bool) → (k.port == p) ≡ b → one_if ((k.protocol == protocol) && (k.port == p)) ≡ one_if (p == k.port)
    by true q = let h : (p == k.port) ≡ true = grind (arith, nat_tests) in rw (e, q, h) refl
    by false q = let h : (p == k.port) ≡ false = grind (arith, nat_tests) in rw (e, q, h) refl

key_other : (k : PortKey) (protocol : ℕ) (o : Option ℕ) → (k.protocol == protocol) ≡ false → if_key k protocol o ≡ 0
key_other k protocol None e = refl
key_other k protocol (Some p) e = rw e refl

-- what was reserved is free once less, and no other port changes
pub free_reserved : (k : PortKey) (protocol port draw : ℕ) (pool : PoolPorts)
    → free_of k.protocol k.port (reserve protocol port draw pool).1
    + if_key k protocol (reserve protocol port draw pool).0
    ≡ free_of k.protocol k.port pool
free_reserved k protocol port draw pool = by (protocol == 6) (protocol == 17) (k.protocol == 6) (k.protocol == 17)
    (k.protocol == protocol) refl refl refl refl refl
  where
    by : (a b c d t : Bool) → (protocol == 6) ≡ a → (protocol == 17) ≡ b → (k.protocol == 6) ≡ c
        → (k.protocol == 17) ≡ d → (k.protocol == protocol) ≡ t
        → free_of k.protocol k.port (reserve protocol port draw pool).1
        + if_key k protocol (reserve protocol port draw pool).0
        ≡ free_of k.protocol k.port pool
    by true b true d true e f g h i =
        let a = count_reserved k.port port draw pool.tcp in
        let j = key_port k protocol (reserved_of port draw pool.tcp).0 i in rw (e, g) (omega arith)
    by false true c true true e f g h i =
        let a = count_reserved k.port port draw pool.udp in
        let j = key_port k protocol (reserved_of port draw pool.udp).0 i in
        let l : (k.protocol == 6) ≡ false = grind (arith, nat_tests) in rw (e, f, l, h) (omega arith)
    by true b true d false e f g h i = absurd (grind (arith, nat_tests))
    by true b false d true e f g h i = absurd (grind (arith, nat_tests))
    by true b false d false e f g h i =
        let j = key_other k protocol (reserved_of port draw pool.tcp).0 i in rw (e, g) (omega arith)
    by false true c true false e f g h i = absurd (grind (arith, nat_tests))
    by false true c false true e f g h i = absurd (grind (arith, nat_tests))
    by false true true false false e f g h i =
        let j = key_other k protocol (reserved_of port draw pool.udp).0 i in rw (e, f, g) (omega arith)
    by false true false false false e f g h i =
        let j = key_other k protocol (reserved_of port draw pool.udp).0 i in rw (e, f, g, h) (omega arith)
    by false false c d t e f g h i = rw (e, f) (omega arith)

-- Giving back

pub count_with_other : (k p : ℕ) (qs : List ℕ) → (p == k) ≡ false → count_port k (with_port p qs) ≡ count_port k qs
count_with_other k p [] other = rw other refl
count_with_other k p (q ∷ qs) other = by (nat_lt p q) (p == q) refl refl (count_with_other k p qs other)
  where
    by : (b c : Bool) → nat_lt p q ≡ b → (p == q) ≡ c → count_port k (with_port p qs) ≡ count_port k qs
        → count_port k (with_port p (q ∷ qs)) ≡ count_port k (q ∷ qs)
    by true c e f behind = let a : one_if (p == k) ≡ 0 = rw other refl in rw e (omega arith)
    by false true e f behind = rw (e, f) refl
    by false false e f behind = rw (e, f) (omega arith)

count_given : (k p : ℕ) (ports : Ports) → free_in p ports ≡ 0
    → free_in k (given_back_to p ports) ≡ free_in k ports + one_if (p == k)
count_given k p ports none = by (is_even p) refl
  where
    by : (b : Bool) → is_even p ≡ b → free_in k (given_back_to p ports) ≡ free_in k ports + one_if (p == k)
    by true q = let a = count_with k p ports.even (omega arith) in rw q (omega arith)
    by false q = let a = count_with k p ports.odd (omega arith) in rw q (omega arith)

count_given_other : (k p : ℕ) (ports : Ports) → (p == k) ≡ false → free_in k (given_back_to p ports) ≡ free_in k ports
count_given_other k p ports other = by (is_even p) refl
  where
    by : (b : Bool) → is_even p ≡ b → free_in k (given_back_to p ports) ≡ free_in k ports
    by true q = let a = count_with_other k p ports.even other in rw q (omega arith)
    by false q = let a = count_with_other k p ports.odd other in rw q (omega arith)

-- a port of the range that is not free is free once it is given back
pub free_given : (k : PortKey) (pool : PoolPorts) → of_range pool.low pool.high k ≡ 1
    → free_of k.protocol k.port pool ≡ 0 → free_of k.protocol k.port (give_back k.protocol k.port pool) ≡ 1
free_given k pool range none = by (is_in_range k.port pool) (k.protocol == 6) (k.protocol == 17) refl refl refl
  where
    same : one_if (k.port == k.port) ≡ 1
    same = let h : (k.port == k.port) ≡ true = grind (arith, nat_tests) in rw h refl

    by : (r b c : Bool) → is_in_range k.port pool ≡ r → (k.protocol == 6) ≡ b → (k.protocol == 17) ≡ c
        → free_of k.protocol k.port (give_back k.protocol k.port pool) ≡ 1
    by true true c d e f =
        let z : free_in k.port pool.tcp ≡ 0 =
        (let w : free_in k.port pool.tcp ≡ free_of k.protocol k.port pool = rw e refl in omega arith) in
        let a = count_given k.port k.port pool.tcp z in rw (d, e) (omega (arith, same))
    by true false true d e f =
        let z : free_in k.port pool.udp ≡ 0 =
        (let w : free_in k.port pool.udp ≡ free_of k.protocol k.port pool = rw (e, f) refl in omega arith) in
        let a = count_given k.port k.port pool.udp z in rw (d, e, f) (omega (arith, same))
    by true false false d e f = let w : of_range pool.low pool.high k ≡ 0 = rw (e, f) refl in absurd (omega arith)
    by false true c d e f = let w : of_range pool.low pool.high k ≡ 0 = rw (e, d) refl in absurd (omega arith)
    by false false true d e f = let w : of_range pool.low pool.high k ≡ 0 = rw (e, f, d) refl in absurd (omega arith)
    by false false false d e f = let w : of_range pool.low pool.high k ≡ 0 = rw (e, f) refl in absurd (omega arith)

-- and no other port changes
pub free_given_other : (k f : PortKey) (pool : PoolPorts) → same_port k f ≡ false
    → free_of k.protocol k.port (give_back f.protocol f.port pool) ≡ free_of k.protocol k.port pool
free_given_other k f pool other = by (is_in_range f.port pool) (f.protocol == 6) (f.protocol == 17) (k.protocol == 6)
    (k.protocol == 17) (f.port == k.port) refl refl refl refl refl refl
  where
    clash : f.protocol ≡ k.protocol → (f.port == k.port) ≡ true
        → free_of k.protocol k.port (give_back f.protocol f.port pool) ≡ free_of k.protocol k.port pool
    clash p e =
        let a : (k.protocol == f.protocol) ≡ true = grind (arith, nat_tests) in
        let b : (k.port == f.port) ≡ true = grind (arith, nat_tests) in
        let c : same_port k f ≡ true = rw (a, b) refl in absurd (cc)

    by : (r a b c d t : Bool) → is_in_range f.port pool ≡ r → (f.protocol == 6) ≡ a → (f.protocol == 17) ≡ b
        → (k.protocol == 6) ≡ c → (k.protocol == 17) ≡ d → (f.port == k.port) ≡ t
        → free_of k.protocol k.port (give_back f.protocol f.port pool) ≡ free_of k.protocol k.port pool
    by false a b c d t e g h i j l = rw e refl
    by true true b true d true e g h i j l = clash (grind (arith, nat_tests)) l
    by true true b true d false e g h i j l =
        let x = count_given_other k.port f.port pool.tcp l in rw (e, g, i) (omega arith)
    by true true b false d t e g h i j l = rw (e, g, i) refl
    by true false true c true true e g h i j l = clash (grind (arith, nat_tests)) l
    by true false true true true false e g h i j l = rw (e, g, h, i) refl
    by true false true false true false e g h i j l =
        let x = count_given_other k.port f.port pool.udp l in rw (e, g, h, i, j) (omega arith)
    by true false true true false t e g h i j l = rw (e, g, h, i) refl
    by true false true false false t e g h i j l = rw (e, g, h, i, j) refl
    by true false false c d t e g h i j l = rw (e, g, h) refl

-- the full pool has each port of its range once

count_from : (k low n : ℕ) (ports : Ports) → ((p : ℕ) → free_in p ports ≡ 0)
    → free_in k (ports_from low n ports) ≡ one_if (not (nat_lt k low) && nat_lt k (low + n))
count_from k low zero ports none =
    let a = none k in
    let h : (not (nat_lt k low) && nat_lt k (low + 0)) ≡ false = grind (arith, nat_tests) in rw h a
count_from k low (suc n) ports none =
    let new : free_in (low + n) (ports_from low n ports) ≡ 0 =
    (let a = count_from (low + n) low n ports none in
    let h : nat_lt (low + n) (low + n) ≡ false = grind (arith, nat_tests) in
    let g : (not (nat_lt (low + n) low) && nat_lt (low + n) (low + n)) ≡ false = rw h (no _) in
    let f : one_if (not (nat_lt (low + n) low) && nat_lt (low + n) (low + n)) ≡ 0 = rw g refl in omega arith) in
    let a = count_given k (low + n) (ports_from low n ports) new in
    let b = count_from k low n ports none in
    by (nat_lt k low) (nat_lt k (low + n)) (low + n == k) refl refl refl a b
  where
    no : (b : Bool) → (b && false) ≡ false
    no true = refl
    no false = refl

    by : (x y z : Bool) → nat_lt k low ≡ x → nat_lt k (low + n) ≡ y → (low + n == k) ≡ z
        → free_in k (given_back_to (low + n) (ports_from low n ports))
        ≡ free_in k (ports_from low n ports) + one_if (low + n == k)
        → free_in k (ports_from low n ports) ≡ one_if (not (nat_lt k low) && nat_lt k (low + n))
        → free_in k (given_back_to (low + n) (ports_from low n ports))
        ≡ one_if (not (nat_lt k low) && nat_lt k (low + suc n))
    by x y z e f g a b =
        let w : one_if (not (nat_lt k low) && nat_lt k (low + suc n))
        ≡ one_if (not (nat_lt k low) && nat_lt k (low + n)) + one_if (low + n == k) = cases x y z e f g in
        omega arith
      where
        cases : (x y z : Bool) → nat_lt k low ≡ x → nat_lt k (low + n) ≡ y → (low + n == k) ≡ z
            → one_if (not (nat_lt k low) && nat_lt k (low + suc n))
            ≡ one_if (not (nat_lt k low) && nat_lt k (low + n)) + one_if (low + n == k)
        cases true y true e f g = absurd (grind (arith, nat_tests))
        cases true y false e f g = rw (e, g) refl
        cases false true true e f g = absurd (grind (arith, nat_tests))
        cases false true false e f g =
            let h : nat_lt k (low + suc n) ≡ true = grind (arith, nat_tests) in rw (e, f, g, h) refl
        cases false false true e f g =
            let h : nat_lt k (low + suc n) ≡ true = grind (arith, nat_tests) in rw (e, f, g, h) refl
        cases false false false e f g =
            let h : nat_lt k (low + suc n) ≡ false = grind (arith, nat_tests) in rw (e, f, g, h) refl

pub free_full : (k : PortKey) (low high : ℕ) → low ≤ high
    → free_of k.protocol k.port (full_pool low high) ≡ of_range low high k
free_full k low high order = by (k.protocol == 6) (k.protocol == 17) refl refl
  where
    each : free_in k.port (ports_from low (high + 1 - low) no_ports)
        ≡ one_if (not (nat_lt k.port low) && not (nat_lt high k.port))
    each =
        let a = count_from k.port low (high + 1 - low) no_ports (λ p. refl) in
        let b : nat_lt k.port (low + (high + 1 - low)) ≡ not (nat_lt high k.port) = grind (arith, nat_tests) in
        subst (λ (t : Bool).
        free_in k.port (ports_from low (high + 1 - low) no_ports) ≡ one_if (not (nat_lt k.port low) && t)) b a

    by : (b c : Bool) → (k.protocol == 6) ≡ b → (k.protocol == 17) ≡ c
        → free_of k.protocol k.port (full_pool low high) ≡ of_range low high k
    by true c e f = rw e each
    by false true e f = rw (e, f) each
    by false false e f = rw (e, f) refl

-- a pool without the ports of a list has each other port of its range once

module _ (out : List PortKey) (protocol k : ℕ) where
  count_out : (low n : ℕ) → has_port (port_key protocol k) out ≡ true
      → free_in k (ports_without out protocol low n) ≡ 0
  count_out low zero is = refl
  count_out low (suc n) is =
      by (has_port (port_key protocol (low + n)) out) (low + n == k) refl refl (count_out low n is)
    where
      by : (h z : Bool) → has_port (port_key protocol (low + n)) out ≡ h → (low + n == k) ≡ z
          → free_in k (ports_without out protocol low n) ≡ 0
          → free_in k (ports_without out protocol low (suc n)) ≡ 0
      by true z e f rest = rw e rest
      by false true e f rest =
          let same : low + n ≡ k = eqb-true _ _ f in
          let none : has_port (port_key protocol k) out ≡ false =
          subst (λ (p : ℕ). has_port (port_key protocol p) out ≡ false) same e in
          absurd (cc)
      by false false e f rest =
          rw e (count_given_other k (low + n) (ports_without out protocol low n) f ∙ rest)

  abbrev within : ℕ → ℕ → Bool
  within low n = not (nat_lt k low) && nat_lt k (low + n)

  window_grows : (low n : ℕ) (x y z : Bool) → nat_lt k low ≡ x → nat_lt k (low + n) ≡ y → (low + n == k) ≡ z
      → one_if (within low (suc n)) ≡ one_if (within low n) + one_if (low + n == k)
  window_grows low n true y true e f g = absurd (grind (arith, nat_tests))
  window_grows low n true y false e f g = rw (e, g) refl
  window_grows low n false true true e f g = absurd (grind (arith, nat_tests))
  window_grows low n false true false e f g =
      let h : nat_lt k (low + suc n) ≡ true = grind (arith, nat_tests) in rw (e, f, g, h) refl
  window_grows low n false false true e f g =
      let h : nat_lt k (low + suc n) ≡ true = grind (arith, nat_tests) in rw (e, f, g, h) refl
  window_grows low n false false false e f g =
      let h : nat_lt k (low + suc n) ≡ false = grind (arith, nat_tests) in rw (e, f, g, h) refl

count_in : (out : List PortKey) (protocol k low n : ℕ) → has_port (port_key protocol k) out ≡ false
    → free_in k (ports_without out protocol low n) ≡ one_if (not (nat_lt k low) && nat_lt k (low + n))
count_in out protocol k low zero is =
    let h : (not (nat_lt k low) && nat_lt k (low + 0)) ≡ false = grind (arith, nat_tests) in rw h refl
count_in out protocol k low (suc n) is =
    by (has_port (port_key protocol (low + n)) out) refl (count_in out protocol k low n is)
    (λ h. count_in out protocol (low + n) low n h)
  where
    grows : one_if (not (nat_lt k low) && nat_lt k (low + suc n))
        ≡ one_if (not (nat_lt k low) && nat_lt k (low + n)) + one_if (low + n == k)
    grows =
        window_grows out protocol k low n (nat_lt k low) (nat_lt k (low + n)) (low + n == k) refl refl refl

    no : (b : Bool) → (b && false) ≡ false
    no true = refl
    no false = refl

    other : has_port (port_key protocol (low + n)) out ≡ true → (z : Bool) → (low + n == k) ≡ z
        → one_if (low + n == k) ≡ 0
    other e true f =
        let same : low + n ≡ k = eqb-true _ _ f in
        let there : has_port (port_key protocol k) out ≡ true =
        subst (λ (p : ℕ). has_port (port_key protocol p) out ≡ true) same e in
        absurd (cc)
    other e false f = rw f refl

    by : (h : Bool) → has_port (port_key protocol (low + n)) out ≡ h
        → free_in k (ports_without out protocol low n) ≡ one_if (not (nat_lt k low) && nat_lt k (low + n))
        → (has_port (port_key protocol (low + n)) out ≡ false
        → free_in (low + n) (ports_without out protocol low n)
        ≡ one_if (not (nat_lt (low + n) low) && nat_lt (low + n) (low + n)))
        → free_in k (ports_without out protocol low (suc n)) ≡ one_if (not (nat_lt k low) && nat_lt k (low + suc n))
    by true e rest there = let o = other e (low + n == k) refl in rw e (omega (arith, grows))
    by false e rest there =
        let new : free_in (low + n) (ports_without out protocol low n) ≡ 0 =
        (let a = there e in
        let h : nat_lt (low + n) (low + n) ≡ false = grind (arith, nat_tests) in
        let g : (not (nat_lt (low + n) low) && nat_lt (low + n) (low + n)) ≡ false = rw h (no _) in
        let f : one_if (not (nat_lt (low + n) low) && nat_lt (low + n) (low + n)) ≡ 0 = rw g refl in omega arith) in
        let a = count_given k (low + n) (ports_without out protocol low n) new in
        rw e (omega (arith, grows))

pub without_next : (out : List PortKey) (protocol low number : ℕ) → low ≤ number
    → ports_without out protocol low (number + 1 - low)
    ≡ (if has_port (port_key protocol number) out then ports_without out protocol low (number - low)
    else given_back_to number (ports_without out protocol low (number - low)))
without_next out protocol low number above =
    let next : number + 1 - low ≡ suc (number - low) = omega arith in
    let same : low + (number - low) ≡ number = omega arith in
    ap (ports_without out protocol low) next
    ∙ ap (λ p. if has_port (port_key protocol p) out then ports_without out protocol low (number - low)
    else given_back_to p (ports_without out protocol low (number - low))) same

-- 1 for a port of the range that is not of the list
abbrev pub range_without : List PortKey → ℕ → ℕ → PortKey → ℕ
range_without out low high k = if has_port k out then 0 else of_range low high k

pub free_without : (out : List PortKey) (k : PortKey) (low high : ℕ) → low ≤ high
    → free_of k.protocol k.port (pool_without out low high) ≡ range_without out low high k
free_without out k low high order = by (k.protocol == 6) (k.protocol == 17) (has_port k out) refl refl refl
  where
    each : (protocol : ℕ) → k.protocol ≡ protocol → has_port k out ≡ false
        → free_in k.port (ports_without out protocol low (high + 1 - low))
        ≡ one_if (not (nat_lt k.port low) && not (nat_lt high k.port))
    each protocol same is =
        let there : has_port (port_key protocol k.port) out ≡ false =
        subst (λ (p : ℕ). has_port (port_key p k.port) out ≡ false) same is in
        let a = count_in out protocol k.port low (high + 1 - low) there in
        let b : nat_lt k.port (low + (high + 1 - low)) ≡ not (nat_lt high k.port) = grind (arith, nat_tests) in
        subst (λ (t : Bool).
        free_in k.port (ports_without out protocol low (high + 1 - low)) ≡ one_if (not (nat_lt k.port low) && t)) b a

    none : (protocol : ℕ) → k.protocol ≡ protocol → has_port k out ≡ true
        → free_in k.port (ports_without out protocol low (high + 1 - low)) ≡ 0
    none protocol same is =
        count_out out protocol k.port low (high + 1 - low)
        (subst (λ (p : ℕ). has_port (port_key p k.port) out ≡ true) same is)

    by : (b c h : Bool) → (k.protocol == 6) ≡ b → (k.protocol == 17) ≡ c → has_port k out ≡ h
        → free_of k.protocol k.port (pool_without out low high) ≡ range_without out low high k
    by true c true e f g = rw (e, g) (none 6 (eqb-true _ _ e) g)
    by true c false e f g = rw (e, g) (each 6 (eqb-true _ _ e) g)
    by false true true e f g = rw (e, f, g) (none 17 (eqb-true _ _ f) g)
    by false true false e f g = rw (e, f, g) (each 17 (eqb-true _ _ f) g)
    by false false true e f g = rw (e, f, g) refl
    by false false false e f g = rw (e, f, g) refl

-- without any port of a list it is the full pool

ports_with_all : (protocol low n : ℕ) → ports_without [] protocol low n ≡ ports_from low n no_ports
ports_with_all protocol low zero = refl
ports_with_all protocol low (suc n) = ap (given_back_to (low + n)) (ports_with_all protocol low n)

pub pool_with_all : (low high : ℕ) → pool_without [] low high ≡ full_pool low high
pool_with_all low high =
    let a = ports_with_all 6 low (high + 1 - low) in
    let b = ports_with_all 17 low (high + 1 - low) in
    λ i. record { low = low; high = high; tcp = a i; udp = b i }
