-- The table is as it is so after a step of one seat.
use Rattle.std.proofs.Common.{◌≡◌, ◌≢◌, ℕ, zero, suc, ◌<◌, ◌≤◌, ◌⊎◌, inl, inr, List, [], ◌∷◌, length, refl, sym}
use Rattle.std.proofs.Common.{ap, ◌∙◌, subst, Option, Some, None, arith, cond}
use Rattle.std.specs.Prelude.{slice_index, slice_set}
use mathlib.Core.Option as logic
use mathlib.Core.Option.{some-injective, some-ne-none}
use lib.ListN.{get_elem?}
use Rattle.entry_order.proofs.Order.{is_or}
use Rattle.master_core.specs.declared.parts.VarPart.{VarPart}
use Rattle.replay_guide.specs.Orders.{IsNamed}
use Rattle.atomic_table.specs.Table.{State}
use Rattle.atomic_table.proofs.Lists.{at_set, set_else}
use Rattle.var_locks.specs.declared.view.Share.{Share}
use Rattle.var_locks.specs.declared.view.Held.{Held}
use Rattle.var_locks.specs.declared.view.MissedEntry.{MissedEntry}
use Rattle.var_locks.specs.declared.view.View.{View}
use Rattle.var_locks.specs.Words.{var_word, thread_word}
use Rattle.var_locks.specs.Told.{Now, IsPlaced, IsShare, IsLost, IsView, IsTableOf}

pub at_word : (l : List ℕ) (i : ℕ) → i < length l → get_elem? l i ≡ logic.some (slice_index l i)
at_word [] i h = absurd (omega arith)
at_word (x ∷ xs) zero h = refl
at_word (x ∷ xs) (suc i) h = at_word xs i (omega arith)

pub set_at : {A : Type 0} (l : List A) (i : ℕ) (a b : A) → get_elem? l i ≡ logic.some a
    → get_elem? (slice_set l i b) i ≡ logic.some b
set_at [] i a b h = absurd (some-ne-none a (sym h))
set_at (y ∷ ys) zero a b h = refl
set_at (y ∷ ys) (suc i) a b h = set_at ys i a b h

pub one_view : {V : Type 0} (views : List (View V)) (i : ℕ) (w u : View V) → get_elem? views i ≡ logic.some w
    → get_elem? views i ≡ logic.some u → w ≡ u
one_view views i w u a b = some-injective w u (sym a ∙ b)

pub held_is : {V : Type 0} {a b : Held V} → Some a ≡ Some b → a ≡ b
held_is q = cc

-- What is so later, where the seat id alone moved on.
pub record IsLater {V : Type 0} (vars threads id : ℕ) (d e : Now V) : Type 0 where
  pub owner : (t : ℕ) → e.owner t ≡ d.owner t
  pub others : (t : ℕ) → t < threads → d.owner t ≢ id
      → (e.notes t ≡ d.notes t) × (e.parts t ≡ d.parts t) × (e.ended t ≡ d.ended t)
  pub held : (v other : ℕ) → v < vars → other ≢ id → d.holder v ≡ Some other
      → (e.holder v ≡ Some other) × (e.vars v ≡ d.vars v)
  pub rise : (v : ℕ) → v < vars → (d.vars v).places ≤ (e.vars v).places
  pub lost : (u k : ℕ) → IsNamed u k d.lost → IsNamed u k e.lost

module _ {V : Type 0} (vars threads id : ℕ) (d e : Now V) (later : IsLater vars threads id d e) where
  -- what was missing is missing still, and its variable was touched no less often
  pub lost_later : (f : MissedEntry) → IsLost vars d f → IsLost vars e f
  lost_later f (named, low, placed) =
      (later.lost f.thread f.number named, low, (let rise = later.rise f.var low in omega (arith, placed, rise)))

  other_view : (i : ℕ) (w : View V) → i ≢ id → IsView vars threads d i w → IsView vars threads e i w
  other_view i w apart is = record {
    apart = is.apart;
    share = λ x here. share x (is.share x here);
    hand = λ h has. hand h (is.hand h has);
    seen = λ v low. let a = is.seen v low in let b = later.rise v low in omega (arith, a, b);
    missing = λ f named. lost_later f (is.missing f named);
  }
    where
      share : (x : Share V) → IsShare threads d i x → IsShare threads e i x
      share x k =
          let o = later.others x.thread k.low (λ q. apart (sym k.mine ∙ q)) in
          record {
            mine = later.owner x.thread ∙ k.mine;
            low = k.low;
            notes = k.notes ∙ sym o.0;
            part = k.part ∙ sym o.1;
            ended = k.ended ∙ sym o.2;
          }

      hand : (h : Held V) → (h.var < vars) × (d.holder h.var ≡ Some i) × (h.found ≡ d.vars h.var)
          → (h.var < vars) × (e.holder h.var ≡ Some i) × (h.found ≡ e.vars h.var)
      hand h (low, holds, found) = let k = later.held h.var i low apart holds in (low, k.0, found ∙ sym k.1)

  module _ (s : State (VarPart V) (View V)) (at : IsTableOf vars threads d s) (w new : View V)
      (here : get_elem? s.views id ≡ logic.some w) (words : List ℕ) (homes : List (logic.Option (VarPart V))) where
    abbrev pub next : State (VarPart V) (View V)
    next = record { words = words; homes = homes; views = slice_set s.views id new }

    -- What the seat has not in hand, or keeps in hand, stays in its place.
    pub stays_placed : (v : ℕ) → v < vars → slice_index words (var_word v) ≡ slice_index s.words (var_word v)
        → get_elem? homes v ≡ get_elem? s.homes v → e.vars v ≡ d.vars v → e.holder v ≡ d.holder v
        → ((h : Held V) → w.hand ≡ Some h → h.var ≡ v → new.hand ≡ Some h)
        → IsPlaced (record { words = words; homes = homes; views = slice_set s.views id new }) threads e v (e.vars v)
        (e.holder v)
    stays_placed v low word home part holder keep =
        subst (λ (x : VarPart V).
        IsPlaced (record { words = words; homes = homes; views = slice_set s.views id new }) threads e v x (e.holder v))
        (sym part)
        (subst (λ (h : Option ℕ).
        IsPlaced (record { words = words; homes = homes; views = slice_set s.views id new }) threads e v (d.vars v) h)
        (sym holder) (go (d.holder v) (at.placed v low)))
      where
        go : (h : Option ℕ) → IsPlaced s threads d v (d.vars v) h
            → IsPlaced (record { words = words; homes = homes; views = slice_set s.views id new }) threads e v
            (d.vars v) h
        go None k = (word ∙ k.0, home ∙ k.1)
        go (Some other) (is, (u, there, has), (t, under, owns)) =
            (word ∙ is, seat (is_or other id), (t, under, later.owner t ∙ owns))
          where
            seat : (other ≡ id) ⊎ (other ≢ id)
                → (z : View V)
                × (get_elem? (slice_set s.views id new) other ≡ logic.some z)
                × (z.hand ≡ Some (record { var = v; found = d.vars v }))
            seat (inl same) =
                let q : u ≡ w =
                one_view s.views id u w (ap (λ (i : ℕ). get_elem? s.views i) (sym same) ∙ there) here in (
                  new,
                  subst (λ (i : ℕ). get_elem? (slice_set s.views id new) i ≡ logic.some new) (sym same)
                      (set_at s.views id w new here),
                  keep (record { var = v; found = d.vars v }) (ap (λ (z : View V). z.hand) (sym q) ∙ has) refl,
                )
            seat (inr apart) = (u, set_else s.views id other new apart ∙ there, has)

    pub at_later : length words ≡ length s.words → length homes ≡ length s.homes
        → ((t : ℕ) → t < threads → slice_index words (thread_word vars t) ≡ cond (e.ended t) 1 0)
        → ((v : ℕ) → v < vars
        → IsPlaced (record { words = words; homes = homes; views = slice_set s.views id new }) threads e v (e.vars v)
        (e.holder v)) → IsView vars threads e id new
        → IsTableOf vars threads e (record { words = words; homes = homes; views = slice_set s.views id new })
    at_later same_words same_homes ended placed mine = record {
      words = same_words ∙ at.words;
      homes = same_homes ∙ at.homes;
      ended = ended;
      placed = placed;
      view = λ i u there. view i u (at_set s.views id i new u there);
    }
      where
        view : (i : ℕ) (u : View V) → ((i ≡ id) × (new ≡ u)) ⊎ ((i ≢ id) × (get_elem? s.views i ≡ logic.some u))
            → IsView vars threads e i u
        view i u (inl (same, is)) = subst (λ (z : View V). IsView vars threads e i z) is
            (subst (λ (j : ℕ). IsView vars threads e j new) (sym same) mine)
        view i u (inr (apart, there)) = other_view i u apart (at.view i u there)
