-- The earlier part of an order of linked receipts: what the next receipt found is what is there.
use Rattle.std.proofs.Common.{◌≡◌, ℕ, ◌+◌, ◌-◌, ◌≤◌, ◌<◌, ◌≢◌, List, ◌∷◌, ◌++◌, refl, sym, ap, ◌∙◌, subst, inl, inr}
use Rattle.std.proofs.Common.{◌⊎◌, arith, Some, Ok}
use Rattle.std.specs.Prelude.{slice_index}
use Rattle.plain_text.specs.declared.packet.Packet.{Packet}
use Rattle.entry_order.specs.Log.{Entry, places, IsIn}
use Rattle.entry_order.specs.Stamps.{IsStamp}
use Rattle.entry_order.proofs.Order.{is_or}
use Rattle.plain_machine.specs.declared.plain_move.PlainMove.{PlainMove}
use Rattle.plain_machine.specs.Program.{Meaning}
use Rattle.plain_machine.specs.History.{Did, Step, log_of, value_after, play, IsHistory}
use Rattle.round_order.specs.Receipts.{Receipt, Receipts, InRound, moves_in, Among, own, after, IsLogged, IsTouch}
use Rattle.round_order.specs.Receipts.{IsRead, weight}
use Rattle.round_order.specs.Linked.{AreOwnMoves, HasFound, IsLinked}
use Rattle.round_order.specs.Woven.{IsRising}
use Rattle.round_order.proofs.OwnReceipts.{own_rest}
use Rattle.round_order.proofs.WeightLemmas.{climbs, read_climbs}
use Rattle.round_order.proofs.LoggedMoves.{touch_logged, read_logged, at_entry, own_at}

-- no logged receipt of the list is heavier
abbrev pub IsAbove : {V : Type 0} → Receipt V → List (Receipt V) → Type 0
IsAbove {V} f tail = (x : Receipt V) (e : Entry) → Among x tail → IsLogged x e → weight x ≤ weight f

-- what holds of the earlier part of an order
pub record IsFront {V : Type 0} (m : Meaning V) (inputs : ℕ → List Packet) (past : List (Step V)) (rs : Receipts V)
    (tail : List (Receipt V)) : Type 0 where
  pub alone : (u : ℕ) → AreOwnMoves m inputs past u (own u tail)
  pub sorted : IsRising tail
  pub within : (x : Receipt V) → Among x tail → InRound rs x
  pub complete : (f : Receipt V) (d : Entry) → InRound rs f → IsLogged f d → Among f tail ⊎ IsAbove f tail

pub front_rest : {V : Type 0} (m : Meaning V) (inputs : ℕ → List Packet) (past : List (Step V)) (rs : Receipts V)
    (r : Receipt V) (earlier : List (Receipt V)) → IsFront m inputs past rs (r ∷ earlier)
    → IsFront m inputs past rs earlier
front_rest {V} m inputs past rs r earlier s = record {
  alone = λ u. own_rest m inputs past u r earlier (s.alone u);
  sorted = s.sorted.1;
  within = λ x a. s.within x (inr a);
  complete = λ f d i l. go f d l (s.complete f d i l);
}
  where
    go : (f : Receipt V) (d : Entry) → IsLogged f d → Among f (r ∷ earlier) ⊎ IsAbove f (r ∷ earlier)
        → Among f earlier ⊎ IsAbove f earlier
    go f d l (inl (inl same)) = inr (λ x e a xl. subst (λ (y : Receipt V). weight x ≤ weight y) same
        (s.sorted.0 d e x (subst (λ (y : Receipt V). IsLogged y d) (sym same) l) a xl))
    go f d l (inl (inr a)) = inl a
    go f d l (inr above) = inr (λ x e a xl. above x e (inr a) xl)

-- What is left of a variable: the opening value, or that of the newest touch of it.
abbrev pub IsLatest : {V : Type 0} → Meaning V → List (Step V) → List (Receipt V) → ℕ → Type 0
IsLatest {V} m past tail v =
    (((g : Receipt V) (x : V) → Among g tail → IsTouch g v x → ⊥)
    × (places v (log_of (after tail past)) ≡ places v (log_of past))
    × (value_after m (after tail past) v ≡ value_after m past v))
    ⊎ ((f : Receipt V) × Among f tail × IsTouch f v (value_after m (after tail past) v)
    × (places v (log_of (after tail past)) ≡ f.place + 1)
    × ((g : Receipt V) (x : V) → Among g tail → IsTouch g v x → weight g ≤ weight f))

pub touch_left : {V : Type 0} (f : Receipt V) (v : ℕ) (x y : V) → IsTouch f v x → IsTouch f v y → x ≡ y
touch_left {V} f v x y a b =
    let same : Did a.0 (Some x) ≡ Did b.0 (Some y) = sym a.1 ∙ b.1 in let o : Some x ≡ Some y = cc in cc

-- what is shown of an order's earlier part
pub record Goes {V : Type 0} (m : Meaning V) (inputs : ℕ → List Packet) (threads : ℕ) (moves : List PlainMove)
    (past : List (Step V)) (tail : List (Receipt V)) : Type 0 where
  pub legal : play m inputs threads (moves ++ moves_in tail) ≡ Ok (after tail past)
  pub history : IsHistory m inputs threads (after tail past)
  pub latest : (v : ℕ) → IsLatest m past tail v
  pub stamps : (r : Receipt V) (e : Entry) → Among r tail → IsLogged r e
      → IsIn e (log_of (after tail past)) × IsStamp (log_of (after tail past)) e (λ u. slice_index r.stamp u)
  pub opening : (e : Entry) (s : ℕ → ℕ) → IsIn e (log_of past) → IsStamp (log_of past) e s
      → IsIn e (log_of (after tail past)) × IsStamp (log_of (after tail past)) e s

module _ {V : Type 0} (m : Meaning V) (inputs : ℕ → List Packet) (threads : ℕ) (moves : List PlainMove)
    (past : List (Step V)) (rs : Receipts V) (few : threads ≤ 16) (played : play m inputs threads moves ≡ Ok past)
    (linked : IsLinked m inputs threads past rs) where
  pub owned : (r : Receipt V) (e : Entry) → InRound rs r → IsLogged r e → e.thread ≡ r.step.thread
  owned r e here (left, is) =
      let k = own_at m inputs past r.step.thread (rs r.step.thread) r (linked.alone r.step.thread) here in
      (at_entry r.step.thread r.step.after.taken r.place k.1.0 k.1.1.0 e left (sym k.1.1.2 ∙ is)).0

  -- a lighter receipt of the round came earlier
  pub came : (r : Receipt V) (earlier : List (Receipt V)) (e : Entry) → IsFront m inputs past rs (r ∷ earlier)
      → IsLogged r e → (f : Receipt V) (d : Entry) → InRound rs f → IsLogged f d → weight f < weight r → Among f earlier
  came r earlier e s re f d here fd less = go (s.complete f d here fd)
    where
      go : Among f (r ∷ earlier) ⊎ IsAbove f (r ∷ earlier) → Among f earlier
      go (inl (inl same)) = let k : weight r ≡ weight f = ap (λ (y : Receipt V). weight y) same in absurd (omega arith)
      go (inl (inr a)) = a
      go (inr above) = let k : weight r ≤ weight f = above r e (inl refl) re in absurd (omega arith)

  module _ (r : Receipt V) (earlier : List (Receipt V)) (s : IsFront m inputs past rs (r ∷ earlier))
      (fresh : Among r earlier → ⊥) (v : ℕ) where
    here : InRound rs r
    here = s.within r (inl refl)

    -- no touch of the variable at or past the place of a touch came earlier
    pub touch_beyond : (x y : V) (g : Receipt V) → IsTouch r v x → Among g earlier → IsTouch g v y
        → r.place ≤ g.place → ⊥
    touch_beyond x y g a among b far = go (is_or r.place g.place)
      where
        no : weight g ≤ weight r
        no = s.sorted.0 a.0 b.0 g (touch_logged r v x a) among (touch_logged g v y b)

        go : (r.place ≡ g.place) ⊎ (r.place ≢ g.place) → ⊥
        go (inl same) = fresh (subst (λ (z : Receipt V). Among z earlier)
            (sym (linked.once r g v x y here (s.within g (inr among)) a b same)) among)
        go (inr apart) =
            let less : weight r < weight g = climbs m inputs threads past rs few linked owned (g.place - (r.place + 1))
            r g v x y here (s.within g (inr among)) a b (omega arith) in
            omega (arith, no)

    pub read_beyond : (y : V) (g : Receipt V) → IsRead r v → Among g earlier → IsTouch g v y → r.place ≤ g.place → ⊥
    read_beyond y g a among b far =
        let no : weight g ≤ weight r = s.sorted.0 a.0 b.0 g (read_logged r v a) among (touch_logged g v y b) in
        let less : weight r < weight g = read_climbs m inputs threads past rs few linked owned (g.place - r.place) r g v
        y here (s.within g (inr among)) a b (omega arith) in
        omega arith

    -- so the newest touch is the one that it found
    pub fits : (e : Entry) → IsLogged r e
        → ((y : V) (g : Receipt V) → Among g earlier → IsTouch g v y → r.place ≤ g.place → ⊥)
        → ((f : Receipt V) → InRound rs f → IsTouch f v r.found → f.place + 1 ≡ r.place → weight f < weight r)
        → places v (log_of past) ≤ r.place → HasFound m past rs v r → IsLatest m past earlier v
        → (places v (log_of (after earlier past)) ≡ r.place) × (value_after m (after earlier past) v ≡ r.found)
    fits e re beyond less from (inl (at, value)) (inl (none, same, is)) = (same ∙ sym at, is ∙ sym value)
    fits e re beyond less from (inr (f, fi, ft, at)) (inl (none, same, is)) =
        absurd (none f r.found (came r earlier e s re f ft.0 fi (touch_logged f v r.found ft) (less f fi ft at)) ft)
    fits e re beyond less from (inl (at, value)) (inr (g, ga, gt, same, newest)) =
        absurd (beyond _ g ga gt
        (let k : places v (log_of past) ≤ g.place = (linked.touched g v _ (s.within g (inr ga)) gt).0 in
        omega (arith, at)))
    fits e re beyond less from (inr (f, fi, ft, at)) (inr (g, ga, gt, same, newest)) = go (is_or f.place g.place)
      where
        fa : Among f earlier
        fa = came r earlier e s re f ft.0 fi (touch_logged f v r.found ft) (less f fi ft at)

        go : (f.place ≡ g.place) ⊎ (f.place ≢ g.place)
            → (places v (log_of (after earlier past)) ≡ r.place) × (value_after m (after earlier past) v ≡ r.found)
        go (inl q) =
            let one : f ≡ g = linked.once f g v r.found _ fi (s.within g (inr ga)) ft gt q in (
              omega (arith, same, at),
              touch_left g v _ r.found gt (subst (λ (z : Receipt V). IsTouch z v r.found) one ft),
            )
        go (inr apart) = absurd (wrong (omega_or g.place f.place))
          where
            omega_or : (a b : ℕ) → (a < b) ⊎ (b ≤ a)
            omega_or a b = Rattle.std.proofs.lemmas.Bool.cases_lt a b

            wrong : (g.place < f.place) ⊎ (f.place ≤ g.place) → ⊥
            wrong (inl low) =
                let k : weight g < weight f = climbs m inputs threads past rs few linked owned (f.place - (g.place + 1))
                g f v _ r.found (s.within g (inr ga)) fi gt ft (omega arith) in
                let n : weight f ≤ weight g = newest f r.found fa ft in omega arith
            wrong (inr high) = beyond _ g ga gt (omega (arith, apart, at))
