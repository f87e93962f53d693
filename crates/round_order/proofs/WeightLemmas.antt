-- The weights of linked receipts: each is heavier than those of its immediate predecessors.
use Rattle.std.proofs.Common.{◌≡◌, ℕ, zero, suc, ◌+◌, ◌≤◌, ◌<◌, ◌≢◌, List, refl, sym, ap, ◌∙◌, subst, inl, inr, ◌⊎◌}
use Rattle.std.proofs.Common.{arith}
use Rattle.std.specs.Prelude.{slice_index}
use Rattle.plain_text.specs.declared.packet.Packet.{Packet}
use Rattle.entry_order.specs.declared.what.What.TheVariants.{Access, Read}
use Rattle.entry_order.specs.Log.{Entry, places, IsNext}
use Rattle.entry_order.specs.Stamps.{sum_below}
use Rattle.entry_order.proofs.Order.{is_or}
use Rattle.plain_machine.specs.Program.{Meaning}
use Rattle.plain_machine.specs.History.{Step, log_of}
use Rattle.plain_machine.proofs.Histories.{not_eq, is_eq}
use Rattle.round_order.specs.Receipts.{Receipt, Receipts, InRound, IsLogged, IsTouch, IsRead, weight}
use Rattle.round_order.proofs.LoggedMoves.{touch_logged, read_logged}
use Rattle.round_order.specs.Linked.{HasFound, HasJoin, IsLinked}

sum_most : (n : ℕ) (f g : ℕ → ℕ) → ((u : ℕ) → u < n → f u ≤ g u) → sum_below n f ≤ sum_below n g
sum_most zero f g h = omega arith
sum_most (suc n) f g h =
    let a : sum_below n f ≤ sum_below n g = sum_most n f g (λ u l. h u (omega arith)) in
    let b : f n ≤ g n = h n (omega arith) in omega arith

-- a sum is less where one term is, and no term is more
pub sum_less : (n t : ℕ) (f g : ℕ → ℕ) → t < n → f t < g t → ((u : ℕ) → f u ≤ g u) → sum_below n f < sum_below n g
sum_less zero t f g low less most = absurd (omega arith)
sum_less (suc n) t f g low less most = go (is_or t n) (λ k. sum_less n t f g k less most)
  where
    go : (t ≡ n) ⊎ (t ≢ n) → (t < n → sum_below n f < sum_below n g) → sum_below n f + f n < sum_below n g + g n
    go (inl e) rest =
        let a : sum_below n f ≤ sum_below n g = sum_most n f g (λ u l. most u) in
        let b : f n < g n = subst (λ (u : ℕ). f u < g u) e less in omega arith
    go (inr e) rest =
        let a : sum_below n f < sum_below n g = rest (omega arith) in
        let b : f n ≤ g n = most n in omega arith

module _ {V : Type 0} (m : Meaning V) (inputs : ℕ → List Packet) (threads : ℕ) (past : List (Step V)) (rs : Receipts V)
    (few : threads ≤ 16) (linked : IsLinked m inputs threads past rs)
    (owned : (r : Receipt V) (e : Entry) → InRound rs r → IsLogged r e → e.thread ≡ r.step.thread) where
  -- the stamp of an immediate predecessor is lighter
  pub lighter : (f g : Receipt V) (d e : Entry) → InRound rs f → InRound rs g → IsLogged f d → IsLogged g e → IsNext d e
      → weight f < weight g
  lighter f g d e here there fd ge next = sum_less 16 e.thread (λ u. slice_index f.stamp u) (λ u. slice_index g.stamp u)
      low less (λ u. most u (is_or u e.thread))
    where
      j : HasJoin past rs g e
      j = linked.joined g e there ge

      above : (u : ℕ) → slice_index f.stamp u ≤ j.join u
      above u = j.joins.above d (λ w. slice_index f.stamp w) next (inl (f, here, fd, λ w. refl)) u

      low : e.thread < 16
      low =
          let a : g.step.thread < threads = linked.below g there in
          let b : e.thread ≡ g.step.thread = owned g e there ge in omega arith

      mine : slice_index g.stamp e.thread ≡ e.number
      mine = j.stamp e.thread ∙ rw (is_eq e.thread e.thread refl) refl

      less : slice_index f.stamp e.thread < slice_index g.stamp e.thread
      less =
          let a : slice_index f.stamp e.thread ≤ j.join e.thread = above e.thread in
          let b : j.join e.thread + 1 ≡ e.number = j.before in omega (arith, mine)

      most : (u : ℕ) → (u ≡ e.thread) ⊎ (u ≢ e.thread) → slice_index f.stamp u ≤ slice_index g.stamp u
      most u (inl q) = subst (λ (w : ℕ). slice_index f.stamp w ≤ slice_index g.stamp w) (sym q) (omega (arith, less))
      most u (inr q) =
          let a : slice_index f.stamp u ≤ j.join u = above u in
          let b : slice_index g.stamp u ≡ j.join u = j.stamp u ∙ rw (not_eq u e.thread q) refl in omega arith

  -- of two touches of a variable in a row the first is lighter
  pub touches_rise : (f g : Receipt V) (v : ℕ) (x y : V) → InRound rs f → InRound rs g → IsTouch f v x → IsTouch g v y
      → f.place + 1 ≡ g.place → weight f < weight g
  touches_rise f g v x y here there a b e = lighter f g a.0 b.0 here there (touch_logged f v x a) (touch_logged g v y b)
      (inr (inl (v, f.place + 1, a.2, b.2 ∙ ap (λ (n : ℕ). Access v (n + 1)) (sym e))))

  touch_read : (f g : Receipt V) (v : ℕ) (x : V) → InRound rs f → InRound rs g → IsTouch f v x → IsRead g v
      → f.place + 1 ≡ g.place → weight f < weight g
  touch_read f g v x here there a b e = lighter f g a.0 b.0 here there (touch_logged f v x a) (read_logged g v b)
      (inr (inr (inl (v, f.place + 1, a.2, b.2 ∙ ap (λ (n : ℕ). Read v n) (sym e)))))

  read_touch : (f g : Receipt V) (v : ℕ) (y : V) → InRound rs f → InRound rs g → IsRead f v → IsTouch g v y
      → g.place ≡ f.place → weight f < weight g
  read_touch f g v y here there a b e = lighter f g a.0 b.0 here there (read_logged f v a) (touch_logged g v y b)
      (inr (inr (inr (v, f.place, a.2, b.2 ∙ ap (λ (n : ℕ). Access v (n + 1)) e))))

  -- the touch that an entry on a variable finds is lighter
  pub found_touch : (r f : Receipt V) (v : ℕ) (x y : V) → InRound rs r → IsTouch r v x → InRound rs f → IsTouch f v y
      → f.place + 1 ≡ r.place → weight f < weight r
  found_touch r f v x y here a there b e = touches_rise f r v y x there here b a e

  pub found_read : (r f : Receipt V) (v : ℕ) (y : V) → InRound rs r → IsRead r v → InRound rs f → IsTouch f v y
      → f.place + 1 ≡ r.place → weight f < weight r
  found_read r f v y here a there b e = touch_read f r v y there here b a e

  -- of two touches of a variable the one at the lesser place is lighter
  pub climbs : (n : ℕ) (f g : Receipt V) (v : ℕ) (x y : V) → InRound rs f → InRound rs g → IsTouch f v x → IsTouch g v y
      → g.place ≡ f.place + 1 + n → weight f < weight g
  climbs zero f g v x y here there a b e = touches_rise f g v x y here there a b (omega arith)
  climbs (suc n) f g v x y here there a b e = go (linked.touched f v x here a).0 (linked.touched g v y there b).1
      (λ h hi ht k. climbs n f h v x g.found here hi a ht k)
    where
      go : places v (log_of past) ≤ f.place → HasFound m past rs v g
          → ((h : Receipt V) → InRound rs h → IsTouch h v g.found → h.place ≡ f.place + 1 + n → weight f < weight h)
          → weight f < weight g
      go from (inl h) rest = absurd (omega (arith, h.0))
      go from (inr (h, hi, ht, at)) rest =
          let less : weight f < weight h = rest h hi ht (omega arith) in
          let more : weight h < weight g = touches_rise h g v g.found y hi there ht b at in omega arith

  -- a read is lighter than each later touch
  pub read_climbs : (n : ℕ) (f g : Receipt V) (v : ℕ) (y : V) → InRound rs f → InRound rs g → IsRead f v → IsTouch g v y
      → g.place ≡ f.place + n → weight f < weight g
  read_climbs zero f g v y here there a b e = read_touch f g v y here there a b (omega arith)
  read_climbs (suc n) f g v y here there a b e = go (linked.looked f v here a).0 (linked.touched g v y there b).1
      (λ h hi ht k. read_climbs n f h v g.found here hi a ht k)
    where
      go : places v (log_of past) ≤ f.place → HasFound m past rs v g
          → ((h : Receipt V) → InRound rs h → IsTouch h v g.found → h.place ≡ f.place + n → weight f < weight h)
          → weight f < weight g
      go from (inl h) rest = absurd (omega (arith, h.0))
      go from (inr (h, hi, ht, at)) rest =
          let less : weight f < weight h = rest h hi ht (omega arith) in
          let more : weight h < weight g = touches_rise h g v g.found y hi there ht b at in omega arith
