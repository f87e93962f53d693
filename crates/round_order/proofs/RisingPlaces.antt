-- The places that a thread finds rise with the weights of its receipts.
use Rattle.std.proofs.Common.{◌≡◌, ℕ, ◌+◌, ◌-◌, ◌≤◌, ◌<◌, ◌≢◌, List, ◌∷◌, sym, ap, subst, inl, inr, ◌⊎◌, arith, refl}
use Rattle.std.proofs.lemmas.Bool.{cases_lt}
use Rattle.plain_text.specs.declared.packet.Packet.{Packet}
use Rattle.entry_order.specs.Log.{Entry, places}
use Rattle.entry_order.proofs.Order.{is_or}
use Rattle.plain_machine.specs.Program.{Meaning}
use Rattle.plain_machine.specs.History.{Step, log_of}
use Rattle.round_order.specs.Receipts.{Receipt, Receipts, InRound, Among, IsLogged, IsTouch, IsRead, weight}
use Rattle.round_order.specs.Linked.{HasFound, IsLinked}
use Rattle.round_order.specs.Woven.{GoesBefore, IsByWeight}
use Rattle.round_order.specs.Rising.{IsLater, ArePlacesRising}
use Rattle.round_order.proofs.LoggedMoves.{touch_logged, read_logged}
use Rattle.round_order.proofs.WeightLemmas.{found_read, climbs, read_climbs}
use Rattle.round_order.proofs.RisingThreads.{of_thread, all_own, thread_rises}
use Rattle.round_order.proofs.WovenThere.{rest_by_weight, among_right}

module _ {V : Type 0} (m : Meaning V) (inputs : ℕ → List Packet) (threads : ℕ) (past : List (Step V)) (rs : Receipts V)
    (few : threads ≤ 16) (linked : IsLinked m inputs threads past rs) where
  owned : (r : Receipt V) (e : Entry) → InRound rs r → IsLogged r e → e.thread ≡ r.step.thread
  owned = of_thread m inputs threads past rs few linked

  -- what a read found is no lighter than an earlier touch, or an earlier read
  after_touch : (f g : Receipt V) (v : ℕ) (x : V) → InRound rs f → InRound rs g → IsTouch f v x → IsRead g v
      → f.place < g.place → weight f < weight g
  after_touch f g v x here there a b less = go (linked.touched f v x here a).0 (linked.looked g v there b).1
    where
      go : places v (log_of past) ≤ f.place → HasFound m past rs v g → weight f < weight g
      go from (inl h) = absurd (omega (arith, h.0))
      go from (inr (h, hi, ht, at)) = pick (is_or f.place h.place)
        where
          lighter_found : weight h < weight g
          lighter_found = found_read m inputs threads past rs few linked owned g h v g.found there b hi ht at

          pick : (f.place ≡ h.place) ⊎ (f.place ≢ h.place) → weight f < weight g
          pick (inl same) =
              let one : f ≡ h = linked.once f h v x g.found here hi a ht same in
              subst (λ (z : Receipt V). weight z < weight g) (sym one) lighter_found
          pick (inr apart) =
              let k : weight f < weight h = climbs m inputs threads past rs few linked owned (h.place - (f.place + 1)) f
              h v x g.found here hi a ht (omega (arith, at, apart)) in
              let n = lighter_found in omega arith

  after_read : (f g : Receipt V) (v : ℕ) → InRound rs f → InRound rs g → IsRead f v → IsRead g v → f.place < g.place
      → weight f < weight g
  after_read f g v here there a b less = go (linked.looked f v here a).0 (linked.looked g v there b).1
    where
      go : places v (log_of past) ≤ f.place → HasFound m past rs v g → weight f < weight g
      go from (inl h) = absurd (omega (arith, h.0))
      go from (inr (h, hi, ht, at)) =
          let n : weight h < weight g =
          found_read m inputs threads past rs few linked owned g h v g.found there b hi ht at in
          let k : weight f < weight h = read_climbs m inputs threads past rs few linked owned (h.place - f.place) f h v
          g.found here hi a ht (omega (arith, at)) in
          omega arith

  pub places_rise : (x r : Receipt V) (v : ℕ) → IsLater rs x r → ArePlacesRising x r v
  places_rise x r v (newer, earlier, is, before) = record {
    touches = λ a b xt rt. touches a b xt rt (cases_lt x.place r.place);
    read_then_touch = λ b xt rt. read_touch b xt rt (cases_lt r.place x.place);
    touch_then_read = λ a xt rt. touch_read a xt rt (cases_lt x.place r.place);
    reads = λ xt rt. reads xt rt (cases_lt r.place x.place);
  }
    where
      mine : (f : Receipt V) → Among f (r ∷ earlier) → Among f (rs r.step.thread)
      mine f a = subst (λ (l : List (Receipt V)). Among f l) (sym is) (among_right newer (r ∷ earlier) f a)

      same_thread : x.step.thread ≡ r.step.thread
      same_thread = all_own m inputs threads past rs few linked r.step.thread (rs r.step.thread)
          (linked.alone r.step.thread) x (mine x (inr before))

      here : InRound rs r
      here = mine r (inl refl)

      there : InRound rs x
      there = subst (λ (u : ℕ). Among x (rs u)) (sym same_thread) (mine x (inr before))

      sorted : IsByWeight (r ∷ earlier)
      sorted = rest_by_weight newer (r ∷ earlier) (subst (λ (l : List (Receipt V)). IsByWeight l) is
          (thread_rises m inputs threads past rs few linked r.step.thread))

      lighter : (e d : Entry) → IsLogged r e → IsLogged x d → weight x < weight r
      lighter e d re xd = go (sorted.0 e d x re before xd)
        where
          go : GoesBefore x r → weight x < weight r
          go (inl less) = less
          go (inr (same, low)) = absurd (omega (arith, same_thread))

      touches : (a b : V) → IsTouch x v a → IsTouch r v b → (x.place < r.place) ⊎ (r.place ≤ x.place)
          → x.place < r.place
      touches a b xt rt (inl less) = less
      touches a b xt rt (inr high) = absurd (go (is_or r.place x.place))
        where
          less : weight x < weight r
          less = lighter rt.0 xt.0 (touch_logged r v b rt) (touch_logged x v a xt)

          go : (r.place ≡ x.place) ⊎ (r.place ≢ x.place) → ⊥
          go (inl same) =
              let one : weight r ≡ weight x =
              ap (λ (z : Receipt V). weight z) (linked.once r x v b a here there rt xt same) in
              omega (arith, less)
          go (inr apart) =
              let k : weight r < weight x = climbs m inputs threads past rs few linked owned (x.place - (r.place + 1)) r
              x v b a here there rt xt (omega (arith, apart)) in
              omega (arith, less)

      read_touch : (b : V) → IsRead x v → IsTouch r v b → (r.place < x.place) ⊎ (x.place ≤ r.place) → x.place ≤ r.place
      read_touch b xt rt (inr low) = low
      read_touch b xt rt (inl high) =
          let less : weight x < weight r = lighter rt.0 xt.0 (touch_logged r v b rt) (read_logged x v xt) in
          let k : weight r < weight x = after_touch r x v b here there rt xt high in absurd (omega arith)

      touch_read : (a : V) → IsTouch x v a → IsRead r v → (x.place < r.place) ⊎ (r.place ≤ x.place) → x.place < r.place
      touch_read a xt rt (inl less) = less
      touch_read a xt rt (inr high) =
          let less : weight x < weight r = lighter rt.0 xt.0 (read_logged r v rt) (touch_logged x v a xt) in
          let k : weight r < weight x = read_climbs m inputs threads past rs few linked owned (x.place - r.place) r x v
          a here there rt xt (omega arith) in
          absurd (omega arith)

      reads : IsRead x v → IsRead r v → (r.place < x.place) ⊎ (x.place ≤ r.place) → x.place ≤ r.place
      reads xt rt (inr low) = low
      reads xt rt (inl high) =
          let less : weight x < weight r = lighter rt.0 xt.0 (read_logged r v rt) (read_logged x v xt) in
          let k : weight r < weight x = after_read r x v here there rt xt high in absurd (omega arith)
