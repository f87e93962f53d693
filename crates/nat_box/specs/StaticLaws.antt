-- What holds of the static ports that count, and of the tables that have them from the start.
use Rattle.std.specs.Prelude.{◌≡◌, ℕ, ◌^◌, ◌<◌, ◌≤◌, Bool, true, false, ◌&&◌, ◌==◌, nat_lt, not, if◌then◌else◌}
use Rattle.std.specs.Prelude.{List, [], ◌∷◌, ◌++◌, refl}
use Rattle.std.proofs.Common.{arith, ap, sym, subst, ◌∙◌, inl, inr}
use Rattle.std.proofs.lemmas.Bool.{eqb-true}
use Rattle.std.proofs.lemmas.Bool.Decides.{nat_tests}
use Rattle.nat_tables.specs.Keys.{same_endpoint, same_port}
use Rattle.nat_tables.specs.Forwards.{Misses, AreMappings, kept_slot, HasKept}
use Rattle.nat_tables.specs.Reverses.{IsUnbound, AreBound}
use Rattle.flow_boxes.proofs.Fitting.{same_self}
use Rattle.nat_box.specs.declared.settings.StaticPort.{StaticPort}
use Rattle.nat_box.specs.Statics.{inside_of, outside_of, is_whole, clash, is_new, kept_behind, kept, IsStatic}
use Rattle.nat_box.specs.Settings.{Settings}
use Rattle.nat_box.specs.Nat.{forward_table, reverse_table, kept_mappings, kept_bound, MayMap, MayBind}

-- each number is within its width
pub record IsWhole (p : StaticPort) : Type 0 where
  pub protocol : p.protocol < 2 ^ 8
  pub address : p.address < 2 ^ 32
  pub port : p.port < 2 ^ 16
  pub outside : p.outside < 2 ^ 16
  pub some : 1 ≤ p.outside

abbrev pub AreWhole : List StaticPort → Type 0
AreWhole [] = Unit {0}
AreWhole (p ∷ ps) = IsWhole p × AreWhole ps

-- the later ones have another endpoint, and another outside port
abbrev pub IsApart : StaticPort → List StaticPort → Type 0
IsApart p [] = Unit {0}
IsApart p (q ∷ qs) =
    (same_endpoint (inside_of q) (inside_of p) ≡ false) × (same_port (outside_of q) (outside_of p) ≡ false)
    × IsApart p qs

abbrev pub AreApart : List StaticPort → Type 0
AreApart [] = Unit {0}
AreApart (p ∷ ps) = IsApart p ps × AreApart ps

whole_is : (p : StaticPort) → is_whole p ≡ true → IsWhole p
whole_is p e =
    by (p.protocol == 6) (p.protocol == 17) (nat_lt p.address (2 ^ 32)) (nat_lt p.port (2 ^ 16))
    (nat_lt p.outside (2 ^ 16)) (p.outside == 0) refl refl refl refl refl refl e
  where
    all : p.protocol < 2 ^ 8 → nat_lt p.address (2 ^ 32) ≡ true → nat_lt p.port (2 ^ 16) ≡ true
        → nat_lt p.outside (2 ^ 16) ≡ true → (p.outside == 0) ≡ false → IsWhole p
    all low a b c d = record {
      protocol = low;
      address = grind (arith, nat_tests);
      port = grind (arith, nat_tests);
      outside = grind (arith, nat_tests);
      some = grind (arith, nat_tests);
    }

    by : (six seventeen a b c none : Bool) → (p.protocol == 6) ≡ six → (p.protocol == 17) ≡ seventeen
        → nat_lt p.address (2 ^ 32) ≡ a → nat_lt p.port (2 ^ 16) ≡ b → nat_lt p.outside (2 ^ 16) ≡ c
        → (p.outside == 0) ≡ none
        → ((if six then true else seventeen) && a && b && c && not none) ≡ true → IsWhole p
    by true s true true true false u v w x y z e =
        all (let q : p.protocol ≡ 6 = eqb-true _ _ u in omega arith) w x y z
    by false true true true true false u v w x y z e =
        all (let q : p.protocol ≡ 17 = eqb-true _ _ v in omega arith) w x y z
    by true s true true true true u v w x y z e = absurd (cc)
    by true s true true false o u v w x y z e = absurd (cc)
    by true s true false c o u v w x y z e = absurd (cc)
    by true s false b c o u v w x y z e = absurd (cc)
    by false true true true true true u v w x y z e = absurd (cc)
    by false true true true false o u v w x y z e = absurd (cc)
    by false true true false c o u v w x y z e = absurd (cc)
    by false true false b c o u v w x y z e = absurd (cc)
    by false false a b c o u v w x y z e = absurd (cc)

whole_more : (p : StaticPort) (ps : List StaticPort) → IsWhole p → AreWhole ps → AreWhole (ps ++ p ∷ [])
whole_more p [] is all = (is, tt)
whole_more p (q ∷ qs) is all = (all.0, whole_more p qs is all.1)

no_clash : (p q : StaticPort) → clash p q ≡ false
    → (same_endpoint (inside_of p) (inside_of q) ≡ false) × (same_port (outside_of p) (outside_of q) ≡ false)
no_clash p q e =
    by (same_endpoint (inside_of p) (inside_of q)) refl e
  where
    by : (b : Bool) → same_endpoint (inside_of p) (inside_of q) ≡ b
        → (if b then true else same_port (outside_of p) (outside_of q)) ≡ false
        → (same_endpoint (inside_of p) (inside_of q) ≡ false) × (same_port (outside_of p) (outside_of q) ≡ false)
    by true a e = absurd (cc)
    by false a e = (a, e)

past_more : (p q : StaticPort) (qs : List StaticPort) → clash p q ≡ false → IsApart q qs → IsApart q (qs ++ p ∷ [])
past_more p q [] new old = let c = no_clash p q new in (c.0, c.1, tt)
past_more p q (r ∷ rs) new old = (old.0, old.1, past_more p q rs new old.2)

apart_more : (p : StaticPort) (ps : List StaticPort) → is_new p ps ≡ true → AreApart ps → AreApart (ps ++ p ∷ [])
apart_more p [] new all = (tt, tt)
apart_more p (q ∷ qs) new all = by (clash p q) refl new (λ n. apart_more p qs n all.1)
  where
    by : (b : Bool) → clash p q ≡ b → (if b then false else is_new p qs) ≡ true
        → (is_new p qs ≡ true → AreApart (qs ++ p ∷ [])) → AreApart ((q ∷ qs) ++ p ∷ [])
    by true e new rest = absurd (cc)
    by false e new rest = (past_more p q qs e all.0, rest new)

behind_good : (before ps : List StaticPort) → AreWhole before → AreApart before
    → AreWhole (kept_behind before ps) × AreApart (kept_behind before ps)
behind_good before [] whole apart = (whole, apart)
behind_good before (p ∷ ps) whole apart =
    by (is_whole p) (is_new p before) refl refl (behind_good before ps whole apart)
    (λ w a. behind_good (before ++ p ∷ []) ps w a)
  where
    by : (a b : Bool) → is_whole p ≡ a → is_new p before ≡ b
        → AreWhole (kept_behind before ps) × AreApart (kept_behind before ps)
        → (AreWhole (before ++ p ∷ []) → AreApart (before ++ p ∷ [])
        → AreWhole (kept_behind (before ++ p ∷ []) ps) × AreApart (kept_behind (before ++ p ∷ []) ps))
        → AreWhole (kept_behind before (p ∷ ps)) × AreApart (kept_behind before (p ∷ ps))
    by true true e f same more =
        rw (e, f) (more (whole_more p before (whole_is p e) whole) (apart_more p before f apart))
    by true false e f same more = rw (e, f) same
    by false b e f same more = rw e same

pub kept_whole : (ports : List StaticPort) → AreWhole (kept ports)
kept_whole ports = (behind_good [] ports tt tt).0

pub kept_apart : (ports : List StaticPort) → AreApart (kept ports)
kept_apart ports = (behind_good [] ports tt tt).1

pub of_apart : (p q : StaticPort) (ps : List StaticPort) → IsApart p ps → IsStatic q ps
    → (same_endpoint (inside_of q) (inside_of p) ≡ false) × (same_port (outside_of q) (outside_of p) ≡ false)
of_apart p q [] apart is = absurd is
of_apart p q (r ∷ rs) apart (inl same) =
    subst (λ (x : StaticPort).
    (same_endpoint (inside_of x) (inside_of p) ≡ false) × (same_port (outside_of x) (outside_of p) ≡ false)) same
    (apart.0, apart.1)
of_apart p q (r ∷ rs) apart (inr is) = of_apart p q rs apart.2 is

pub of_whole : (q : StaticPort) (ps : List StaticPort) → AreWhole ps → IsStatic q ps → IsWhole q
of_whole q [] whole is = absurd is
of_whole q (r ∷ rs) whole (inl same) = subst IsWhole same whole.0
of_whole q (r ∷ rs) whole (inr is) = of_whole q rs whole.1 is

-- The tables that have them

module _ (s : Settings) (v : ℕ) where
  misses_kept : (p : StaticPort) (ps : List StaticPort) → IsApart p ps → Misses (kept_mappings s v ps) (inside_of p)
  misses_kept p [] apart = tt
  misses_kept p (q ∷ qs) apart =
      by (forward_table s (inside_of q) == v) refl (misses_kept p qs apart.2)
    where
      by : (b : Bool) → (forward_table s (inside_of q) == v) ≡ b → Misses (kept_mappings s v qs) (inside_of p)
          → Misses (kept_mappings s v (q ∷ qs)) (inside_of p)
      by true e rest = rw e (apart.0, rest)
      by false e rest = rw e rest

  mappings_good : (ps : List StaticPort) → AreWhole ps → AreApart ps
      → ((p : StaticPort) → IsStatic p ps → IsStatic p (kept s.statics))
      → AreMappings (MayMap s v) (kept_mappings s v ps)
  mappings_good [] whole apart among = tt
  mappings_good (p ∷ ps) whole apart among =
      by (forward_table s (inside_of p) == v) refl
      (mappings_good ps whole.1 apart.1 (λ q is. among q (inr is)))
    where
      by : (b : Bool) → (forward_table s (inside_of p) == v) ≡ b
          → AreMappings (MayMap s v) (kept_mappings s v ps)
          → AreMappings (MayMap s v) (kept_mappings s v (p ∷ ps))
      by true e rest =
          let at : v ≡ forward_table s (inside_of p) = sym (eqb-true _ _ e) in
          rw e (
            (at, whole.0.protocol, whole.0.outside, tt, λ kept. among p (inl refl)),
            misses_kept p ps apart.0,
            rest,
          )
      by false e rest = rw e rest

  has_kept : (p : StaticPort) (ps : List StaticPort) → AreApart ps → IsStatic p ps
      → v ≡ forward_table s (inside_of p) → HasKept (inside_of p) p.outside (kept_mappings s v ps)
  has_kept p [] apart is at = absurd is
  has_kept p (q ∷ qs) apart (inl same) at =
      let e : (forward_table s (inside_of q) == v) ≡ true =
      (let a : forward_table s (inside_of q) ≡ v =
      ap (λ (x : StaticPort). forward_table s (inside_of x)) same ∙ sym at in grind (arith, nat_tests)) in
      let f : same_endpoint (inside_of p) (inside_of q) ≡ true =
      ap (λ (x : StaticPort). same_endpoint (inside_of p) (inside_of x)) same ∙ same_self (inside_of p) in
      rw e (kept_slot q.outside, rw f refl, ap (λ (x : StaticPort). x.outside) same, refl)
  has_kept p (q ∷ qs) apart (inr is) at =
      by (forward_table s (inside_of q) == v) refl (has_kept p qs apart.1 is at)
    where
      by : (b : Bool) → (forward_table s (inside_of q) == v) ≡ b
          → HasKept (inside_of p) p.outside (kept_mappings s v qs)
          → HasKept (inside_of p) p.outside (kept_mappings s v (q ∷ qs))
      by true e rest =
          let f : same_endpoint (inside_of p) (inside_of q) ≡ false = (of_apart q p qs apart.0 is).0 in
          rw e (rest.0, rw f rest.1, rest.2, rest.3)
      by false e rest = rw e rest

  unbound_kept : (p : StaticPort) (ps : List StaticPort) → IsApart p ps → IsUnbound (kept_bound s v ps) (outside_of p)
  unbound_kept p [] apart = tt
  unbound_kept p (q ∷ qs) apart =
      by (reverse_table s (outside_of q) == v) refl (unbound_kept p qs apart.2)
    where
      by : (b : Bool) → (reverse_table s (outside_of q) == v) ≡ b → IsUnbound (kept_bound s v qs) (outside_of p)
          → IsUnbound (kept_bound s v (q ∷ qs)) (outside_of p)
      by true e rest = rw e (apart.1, rest)
      by false e rest = rw e rest

  bound_good : (ps : List StaticPort) → AreWhole ps → AreApart ps → AreBound (MayBind s v) (kept_bound s v ps)
  bound_good [] whole apart = tt
  bound_good (p ∷ ps) whole apart =
      by (reverse_table s (outside_of p) == v) refl (bound_good ps whole.1 apart.1)
    where
      by : (b : Bool) → (reverse_table s (outside_of p) == v) ≡ b → AreBound (MayBind s v) (kept_bound s v ps)
          → AreBound (MayBind s v) (kept_bound s v (p ∷ ps))
      by true e rest =
          let at : v ≡ reverse_table s (outside_of p) = sym (eqb-true _ _ e) in
          rw e ((at, whole.0.address, whole.0.port), unbound_kept p ps apart.0, rest)
      by false e rest = rw e rest

  pub fresh_mappings : AreMappings (MayMap s v) (kept_mappings s v (kept s.statics))
  fresh_mappings = mappings_good (kept s.statics) (kept_whole s.statics) (kept_apart s.statics) (λ p is. is)

  pub fresh_kept : (p : StaticPort) → IsStatic p (kept s.statics) → v ≡ forward_table s (inside_of p)
      → HasKept (inside_of p) p.outside (kept_mappings s v (kept s.statics))
  fresh_kept p is at = has_kept p (kept s.statics) (kept_apart s.statics) is at

  pub fresh_bound : AreBound (MayBind s v) (kept_bound s v (kept s.statics))
  fresh_bound = bound_good (kept s.statics) (kept_whole s.statics) (kept_apart s.statics)
