-- The rule holds when a round begins.
use Rattle.std.proofs.Common.{◌≡◌, ℕ, zero, suc, ◌+◌, ◌<◌, ◌≤◌, inl, inr, false, List, [], ◌∷◌, length, refl, sym, ap}
use Rattle.std.proofs.Common.{◌∙◌, subst, Some, None, arith}
use Rattle.std.specs.Prelude.{slice_index, slice_index_or, sum_by}
use Rattle.std.proofs.lemmas.List.Sums.{sum_by-cons}
use Rattle.std.proofs.lemmas.List.{length-map}
use mathlib.Core.Option as logic
use mathlib.Core.Option.{some-injective, some-ne-none}
use lib.ListN.{get_elem?}
use Rattle.entry_order.specs.Stamps.{sum_below}
use Rattle.access_log.specs.Held.{Lane}
use Rattle.plain_machine.specs.Program.{Meaning}
use Rattle.plain_machine.specs.History.{Step}
use Rattle.box_program.specs.Hands.{FitsProgram}
use Rattle.master_core.specs.declared.parts.VarPart.{VarPart}
use Rattle.master_core.specs.declared.parts.ThreadPart.{ThreadPart}
use Rattle.master_core.specs.Mastered.{Mastered, IsBounded, value_of}
use Rattle.master_core.specs.MasterStanding.{Stands}
use Rattle.atomic_table.specs.Table.{opening}
use Rattle.atomic_table.proofs.Lists.{at_map, at_index}
use Rattle.round_order.proofs.OpenedRounds.{home_opens, seat_opens, round_begins}
use Rattle.var_locks.specs.declared.view.Share.{Share}
use Rattle.var_locks.specs.declared.view.View.{View}
use Rattle.var_locks.specs.Views.{HasShare, AreApart, first_view, fresh_shares}
use Rattle.var_locks.specs.Words.{thread_word, word_count}
use Rattle.var_locks.specs.Told.{Now, IsView, IsStory, IsTold, AreFirstWords, ArePlaces}

-- a part for each number, and some part past the end
pub fresh_part : ThreadPart
fresh_part = record { counts = record { taken = 0; entries = 0; outputs = 0 }; hand = None; stamp = [] }

pub fresh_var : {V : Type 0} → Meaning V → VarPart V
fresh_var m = record { value = m.fresh 0; places = 0; stamp = []; readers = [] }

sum_front : (n : ℕ) (f : ℕ → ℕ) → sum_below (suc n) f ≡ f 0 + sum_below n (λ u. f (suc u))
sum_front zero f = omega arith
sum_front (suc n) f = let k = sum_front n f in omega (arith, k)

-- the sum of the entries of all threads, in both forms
pub sum_is : (threads : List ThreadPart) (d : ThreadPart)
    → sum_by (λ part. part.counts.entries) threads
    ≡ sum_below (length threads) (λ t. (slice_index_or threads t d).counts.entries)
sum_is [] d = refl
sum_is (x ∷ xs) d =
    sum_by-cons (λ (part : ThreadPart). part.counts.entries) x xs
    ∙ (ap (λ (n : ℕ). x.counts.entries + n) (sum_is xs d)
    ∙ sym (sum_front (length xs) (λ t. (slice_index_or (x ∷ xs) t d).counts.entries)))

-- what a share of the first view is
fresh : {V : Type 0} (from : ℕ) (parts : List ThreadPart) (d : ThreadPart) (x : Share V)
    → HasShare x (fresh_shares from parts)
    → (k : ℕ) × (k < length parts) × (x.thread ≡ from + k) × (x.notes ≡ []) × (x.part ≡ slice_index_or parts k d)
    × (x.ended ≡ false)
fresh from [] d x h = absurd h
fresh {V} from (part ∷ parts) d x (inl same) = (
  0,
  (omega arith),
  (let k : from ≡ x.thread = ap (λ (z : Share V). z.thread) same in omega (arith, k)),
  ap (λ (z : Share V). z.notes) (sym same),
  ap (λ (z : Share V). z.part) (sym same),
  ap (λ (z : Share V). z.ended) (sym same),
)
fresh from (part ∷ parts) d x (inr h) =
    let k = fresh (from + 1) parts d x h in
    let low = k.1 in let is = k.2 in (suc k.0, omega (arith, low), omega (arith, is), k.3, k.4, k.5)

apart_fresh : (V : Type 0) (from : ℕ) (parts : List ThreadPart) → AreApart {V = V} (fresh_shares from parts)
apart_fresh V from [] = tt
apart_fresh V from (part ∷ parts) = (
  (λ y h e. let k = fresh (from + 1) parts part y h in let is = k.2 in absurd (omega (arith, is, e))),
  apart_fresh V (from + 1) parts,
)

module _ {V : Type 0} (m : Meaning V) (fits : ℕ → V → Type 0) (guide : List Lane) (p : Mastered V)
    (bounded : IsBounded p.vars p.threads) (fit : FitsProgram m fits value_of p.vars) where
  -- what is so at first
  abbrev at_first : Now V
  at_first = record {
    notes = λ t. [];
    parts = λ t. slice_index_or p.threads t fresh_part;
    ended = λ t. false;
    owner = λ t. 0;
    vars = λ v. slice_index_or p.vars v (fresh_var m);
    holder = λ v. None;
    lost = [];
  }

  first_story : (inputs : ℕ → List Rattle.plain_text.specs.declared.packet.Packet.Packet) (past : List (Step V))
      → Stands m (length p.threads) past p → IsStory m guide (length p.threads) at_first inputs past
  first_story inputs past stands = record {
    round = round_begins m past stands.log inputs (length p.threads);
    home = λ v low.
        home_opens m past stands.log v (slice_index_or p.vars v (fresh_var m)) (stands.var v (fresh_var m) low);
    seat = λ t low.
        seat_opens m past stands.log t (slice_index_or p.threads t fresh_part) (stands.thread t fresh_part low);
    lost = λ u k w stamp named follows known. absurd named;
  }

  pub told_opens : (words seen : List ℕ) → AreFirstWords p words → ArePlaces p seen
      → IsTold m fits guide p (opening words p.vars (first_view p.threads seen))
  told_opens words seen first saw = record {
    now = at_first;
    at = record {
      words = first.count ∙ ap (λ n. word_count n (length p.threads)) fit.count;
      homes = length-map p.vars (λ (x : VarPart V). logic.some x) ∙ fit.count;
      ended = λ t low. ap (λ n. slice_index words (thread_word n t)) (sym fit.count) ∙ first.thread t low;
      placed = λ v low. (
        first.var v (fresh_var m) (subst (λ n. v < n) (sym fit.count) low),
        at_map (λ (x : VarPart V). logic.some x) p.vars v (slice_index_or p.vars v (fresh_var m))
            (at_index p.vars v (slice_index_or p.vars v (fresh_var m)) (subst (λ n. v < n) (sym fit.count) low)
            (index_again p.vars v (fresh_var m) (subst (λ n. v < n) (sym fit.count) low))),
      );
      view = λ id w at. view id w at;
    };
    sound = record {
      few = bounded.few;
      held = λ t low. bounded.taken t fresh_part low;
      made = λ t low. bounded.made t fresh_part low;
      places = λ v low. subst (λ n. (slice_index_or p.vars v (fresh_var m)).places ≤ n) (sum_is p.threads fresh_part)
          (bounded.places v (fresh_var m) (subst (λ n. v < n) (sym fit.count) low));
      fit = λ v low. fit.fit v (fresh_var m) low;
      guided = λ t low. tt;
      beyond = λ t above. refl;
      gone = λ u k named. absurd named;
      story = λ inputs past stands fed. first_story inputs past stands;
    };
  }
    where
      index_again : {A : Type 0} (l : List A) (i : ℕ) (d : A) → i < length l
          → slice_index_or l i d ≡ slice_index_or l i (slice_index_or l i d)
      index_again [] i d h = absurd (omega arith)
      index_again (x ∷ xs) zero d h = refl
      index_again (x ∷ xs) (suc i) d h = index_again xs i d (omega arith)

      only_first : (id : ℕ) (w : View V) → get_elem? (first_view p.threads seen ∷ []) id ≡ logic.some w
          → (0 ≡ id) × (first_view p.threads seen ≡ w)
      only_first zero w at = (refl, some-injective (first_view p.threads seen) w at)
      only_first (suc id) w at = absurd (some-ne-none w (sym at))

      opens : IsView m.vars (length p.threads) at_first 0 (first_view p.threads seen)
      opens = record {
        apart = apart_fresh V 0 p.threads;
        share = λ x has. (let k = fresh 0 p.threads fresh_part x has in
            let low = k.1 in
            let e = k.2 in
            let is : k.0 ≡ x.thread = omega (arith, e) in
            record {
              mine = refl;
              low = omega (arith, low, is);
              notes = k.3;
              part = k.4 ∙ ap (λ n. slice_index_or p.threads n fresh_part) is;
              ended = k.5;
            });
        hand = λ h has. (let q : None ≡ Some h = has in absurd (cc));
        seen = λ v low. (let k = saw v (fresh_var m) (subst (λ n. v < n) (sym fit.count) low) in omega (arith, k));
        missing = λ e named. absurd named;
      }

      view : (id : ℕ) (w : View V) → get_elem? (first_view p.threads seen ∷ []) id ≡ logic.some w
          → IsView m.vars (length p.threads) at_first id w
      view id w at =
          let k = only_first id w at in
          subst (λ (z : View V). IsView m.vars (length p.threads) at_first id z) k.1
          (subst (λ (i : ℕ). IsView m.vars (length p.threads) at_first i (first_view p.threads seen)) k.0 opens)
