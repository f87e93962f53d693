-- Each sound world has one readiness.
use Rattle.std.proofs.Common.{◌≡◌, ℕ, zero, suc, ◌+◌, ◌≤◌, Bool, true, false, List, [], ◌∷◌, ◌++◌, length, refl}
use Rattle.std.proofs.Common.{sym, ap}
use Rattle.std.proofs.Common.{◌∙◌, subst, inl, inr, ◌⊎◌, arith, Result, Ok, Err, ◌↔◌}
use Rattle.std.specs.Prelude.{⊤}
use Rattle.entry_order.specs.Log.{Entry, IsLog, IsIn}
use Rattle.entry_order.proofs.ClosedParts.{Or}
use Rattle.entry_order.proofs.KeptEntries.{in_left}
use Rattle.entry_order.proofs.Order.{number_within}
use Rattle.plain_machine.specs.History.{log_of}
use Rattle.plain_machine.specs.Agree.{SendsAfter}
use Rattle.recovery_world.specs.World.{Setting, Sent, World}
use Rattle.recovery_world.specs.Events.{Parts, IsAmong}
use Rattle.recovery_world.specs.Finish.{IsToCome}
use Rattle.recovery_laws.specs.Sound.{IsEachOnce, Sound}
use Rattle.handover_world.specs.declared.unready.Unready.{Unready}
use Rattle.handover_world.specs.declared.unready.Unready.TheVariants.{Down, Left, Behind}
use Rattle.handover_world.specs.Ready.{AreLeft, AreBehind, IsReadiness}
use Rattle.handover_world.proofs.Resting.{none_goes, none_of}
use Rattle.handover_world.proofs.SentOutputs.{sends_or}

-- Entries that are each there once

-- a list without one of its entries
record Without (x : Entry) (xs : List Entry) : Type 0 where
  rest : List Entry
  shorter : length xs ≡ length rest + 1
  others : (e : Entry) → IsIn e xs → (x ≡ e) ⊎ IsIn e rest

without_one : (x : Entry) (xs : List Entry) → IsIn x xs → Without x xs
without_one x [] i = absurd i
without_one x (y ∷ xs) (inl same) = record { rest = xs; shorter = omega arith; others = others }
  where
    others : (e : Entry) → (y ≡ e) ⊎ IsIn e xs → (x ≡ e) ⊎ IsIn e xs
    others e (inl is) = inl (sym same ∙ is)
    others e (inr i) = inr i
without_one x (y ∷ xs) (inr i) = behind (without_one x xs i)
  where
    behind : Without x xs → Without x (y ∷ xs)
    behind w = record {
      rest = y ∷ w.rest;
      shorter = let k = w.shorter in omega (arith, k);
      others = others;
    }
      where
        others : (e : Entry) → (y ≡ e) ⊎ IsIn e xs → (x ≡ e) ⊎ ((y ≡ e) ⊎ IsIn e w.rest)
        others e (inl is) = inr (inl is)
        others e (inr j) = go (w.others e j)
          where
            go : (x ≡ e) ⊎ IsIn e w.rest → (x ≡ e) ⊎ ((y ≡ e) ⊎ IsIn e w.rest)
            go (inl is) = inl is
            go (inr k) = inr (inr k)

-- no more than a list that has them all
within_long : (a b : List Entry) → IsEachOnce a → ((e : Entry) → IsIn e a → IsIn e b) → length a ≤ length b
within_long [] b once sub = omega arith
within_long (x ∷ a) b once sub =
    let w = without_one x b (sub x (inl refl)) in
    let fewer = within_long a w.rest once.1 (λ e i. rest w e i (w.others e (sub e (inr i)))) in
    let shorter = w.shorter in
    omega (arith, fewer, shorter)
  where
    rest : (w : Without x b) (e : Entry) → IsIn e a → (x ≡ e) ⊎ IsIn e w.rest → IsIn e w.rest
    rest w e i (inl is) = absurd (once.0 (subst (λ (z : Entry). IsIn z a) (sym is) i))
    rest w e i (inr k) = k

-- the entries of a log are each there once
log_once : (more log : List Entry) → IsLog (more ++ log) → IsEachOnce more
log_once [] log good = tt
log_once (x ∷ more) log good = (none, log_once more log good.2)
  where
    none : IsIn x more → ⊥
    none i =
        let a = good.0 in
        let b = (number_within (more ++ log) x good.2 (in_left x more log i)).1 in
        omega (arith, a, b)

-- Outputs in two parts

parts_one : (P : Sent → Type 0) (xs go stay other rest : List Sent) → Parts P xs go stay → Parts P xs other rest
    → go ≡ other
parts_one P [] go stay other rest a b = a.0 ∙ sym b.0
parts_one P (x ∷ xs) go stay other rest (inl (p, g, is, a)) (inl (q, k, js, b)) =
    is ∙ (ap (λ (l : List Sent). x ∷ l) (parts_one P xs g stay k rest a b) ∙ sym js)
parts_one P (x ∷ xs) go stay other rest (inl (p, g, is, a)) (inr (never, k, js, b)) = absurd (never p)
parts_one P (x ∷ xs) go stay other rest (inr (never, g, is, a)) (inl (q, k, js, b)) = absurd (never q)
parts_one P (x ∷ xs) go stay other rest (inr (never, g, is, a)) (inr (nor, k, js, b)) =
    parts_one P xs go g other k a b

record PartsThere (P : Sent → Type 0) (xs : List Sent) : Type 0 where
  go : List Sent
  stay : List Sent
  parts : Parts P xs go stay

parts_there : (P : Sent → Type 0) → ((o : Sent) → Or (P o)) → (xs : List Sent) → PartsThere P xs
parts_there P dec [] = record { go = []; stay = []; parts = (refl, refl) }
parts_there P dec (x ∷ xs) = pick (dec x) (parts_there P dec xs)
  where
    pick : Or (P x) → PartsThere P xs → PartsThere P (x ∷ xs)
    pick (inl p) r = record { go = x ∷ r.go; stay = r.stay; parts = inl (p, r.go, refl, r.parts) }
    pick (inr n) r = record { go = r.go; stay = x ∷ r.stay; parts = inr (n, r.stay, refl, r.parts) }

-- where each is refused, none goes
all_stay : (P : Sent → Type 0) (xs : List Sent) → ((o : Sent) → IsAmong o xs → P o → ⊥) → Parts P xs [] xs
all_stay P [] none = (refl, refl)
all_stay P (x ∷ xs) none = inr (none x (inl refl), xs, refl, all_stay P xs (λ o i. none o (inr i)))

-- Readiness

module _ {V : Type 0} (w : World V) where
  left_one : (many other : ℕ) → AreLeft w many → AreLeft w other → many ≡ other
  left_one many other a b =
      let p = within_long a.more b.more a.once (λ e i. (b.to_come e).1 ((a.to_come e).0 i)) in
      let q = within_long b.more a.more b.once (λ e i. (a.to_come e).1 ((b.to_come e).0 i)) in
      let c = a.many_are in
      let d = b.many_are in
      omega (arith, p, q, c, d)

  behind_one : (many other : ℕ) → AreBehind w many → AreBehind w other → many ≡ other
  behind_one many other a b =
      sym a.many_are
      ∙ (ap (λ (l : List Sent). length l)
      (parts_one (λ o. SendsAfter w.past o.emission o.after → ⊥) w.released a.behind a.others b.behind b.others a.parts
      b.parts)
      ∙ b.many_are)

  up_not_down : w.up ≡ true → w.up ≡ false → ⊥
  up_not_down a b = cc

  none_left : (many : ℕ) → AreLeft w 0 → 1 ≤ many → AreLeft w many → ⊥
  none_left many a some b = let k = left_one 0 many a b in omega (arith, k, some)

  none_behind : (many : ℕ) → AreBehind w 0 → 1 ≤ many → AreBehind w many → ⊥
  none_behind many a some b = let k = behind_one 0 many a b in omega (arith, k, some)

  pub readiness_one : (a b : Result ⊤ Unready) → IsReadiness w a → IsReadiness w b → a ≡ b
  readiness_one (Ok x) (Ok y) f g = refl
  readiness_one (Ok x) (Err Down) f g = absurd (up_not_down f.0 g)
  readiness_one (Ok x) (Err (Left n)) f g = absurd (none_left n f.1 g.1 g.2)
  readiness_one (Ok x) (Err (Behind n)) f g = absurd (none_behind n f.2 g.2 g.3)
  readiness_one (Err Down) (Ok y) f g = absurd (up_not_down g.0 f)
  readiness_one (Err Down) (Err Down) f g = refl
  readiness_one (Err Down) (Err (Left n)) f g = absurd (up_not_down g.0 f)
  readiness_one (Err Down) (Err (Behind n)) f g = absurd (up_not_down g.0 f)
  readiness_one (Err (Left n)) (Ok y) f g = absurd (none_left n g.1 f.1 f.2)
  readiness_one (Err (Left n)) (Err Down) f g = absurd (up_not_down f.0 g)
  readiness_one (Err (Left n)) (Err (Left k)) f g =
      ap (λ (z : ℕ). let r : Result ⊤ Unready = Err (Left z) in r) (left_one n k f.2 g.2)
  readiness_one (Err (Left n)) (Err (Behind k)) f g = absurd (none_left n g.1 f.1 f.2)
  readiness_one (Err (Behind n)) (Ok y) f g = absurd (none_behind n g.2 f.2 f.3)
  readiness_one (Err (Behind n)) (Err Down) f g = absurd (up_not_down f.0 g)
  readiness_one (Err (Behind n)) (Err (Left k)) f g = absurd (none_left k f.1 g.1 g.2)
  readiness_one (Err (Behind n)) (Err (Behind k)) f g =
      ap (λ (z : ℕ). let r : Result ⊤ Unready = Err (Behind z) in r) (behind_one n k f.3 g.3)

  abbrev NotSent : Sent → Type 0
  NotSent o = SendsAfter w.past o.emission o.after → ⊥

  not_sent_or : (o : Sent) → Or (NotSent o)
  not_sent_or o = go (sends_or w.past o.emission o.after)
    where
      go : Or (SendsAfter w.past o.emission o.after) → Or (NotSent o)
      go (inl k) = inr (λ never. never k)
      go (inr never) = inl never

  behind_there : (many : ℕ) × AreBehind w many
  behind_there =
      let p = parts_there NotSent not_sent_or w.released in
      (length p.go, record { behind = p.go; others = p.stay; parts = p.parts; many_are = refl })

  left_there : (s : Setting V) → Sound s w → (many : ℕ) × AreLeft w many
  left_there s h = (
    length h.firm.more,
    record {
      more = h.firm.more;
      to_come = h.firm.to_come;
      once = log_once h.firm.more (log_of w.past) h.firm.log;
      many_are = refl;
    },
  )

  pub readiness_there : (s : Setting V) → Sound s w → (readiness : Result ⊤ Unready) × IsReadiness w readiness
  readiness_there s h = at w.up refl (left_there s h) behind_there
    where
      at : (b : Bool) → w.up ≡ b → (many : ℕ) × AreLeft w many → (many : ℕ) × AreBehind w many
          → (readiness : Result ⊤ Unready) × IsReadiness w readiness
      at false up left behind = (Err Down, up)
      at true up (suc n, left) behind = (Err (Left (suc n)), (up, omega arith, left))
      at true up (zero, left) (suc n, behind) = (Err (Behind (suc n)), (up, left, omega arith, behind))
      at true up (zero, left) (zero, behind) = (Ok tt, (up, left, behind))

  -- what it is to be ready
  abbrev Ready : Type 0
  Ready =
      (w.up ≡ true) × ((e : Entry) → IsToCome w e → ⊥)
      × ((o : Sent) → IsAmong o w.released → SendsAfter w.past o.emission o.after)

  all_sent : AreBehind w 0 → (o : Sent) → IsAmong o w.released → SendsAfter w.past o.emission o.after
  all_sent b o i = go (sends_or w.past o.emission o.after)
    where
      go : Or (SendsAfter w.past o.emission o.after) → SendsAfter w.past o.emission o.after
      go (inl k) = k
      go (inr never) = absurd (none_goes NotSent w.released b.behind b.others b.parts
          (none_of b.behind b.many_are) o i never)

  none_to_come : AreLeft w 0 → (e : Entry) → IsToCome w e → ⊥
  none_to_come left e come =
      subst (λ (l : List Entry). IsIn e l) (none_of left.more left.many_are) ((left.to_come e).1 come)

  is_ready : Ready → IsReadiness w (Ok tt)
  is_ready (up, none, sent) = (
    up,
    record {
      more = [];
      to_come = λ e. ((λ i. absurd i), (λ come. none e come));
      once = tt;
      many_are = refl;
    },
    record {
      behind = [];
      others = w.released;
      parts = all_stay NotSent w.released (λ o i never. never (sent o i));
      many_are = refl;
    },
  )

  pub ready_means : IsReadiness w (Ok tt) ↔ Ready
  ready_means = ((λ r. (r.0, none_to_come r.1, all_sent r.2)), is_ready)
