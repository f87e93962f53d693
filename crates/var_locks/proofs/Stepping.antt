-- Each step of one seat keeps the rule.
use Rattle.std.proofs.Common.{◌≡◌, ◌≢◌, ℕ, zero, suc, ◌+◌, ◌*◌, ◌%◌, ◌<◌, ◌≤◌, ◌^◌, ◌⊎◌, inl, inr, Bool, true, false}
use Rattle.std.proofs.Common.{List, [], ◌∷◌, length, length-set, refl, sym, ap, ◌∙◌, subst, Option, Some, None, arith}
use Rattle.std.proofs.Common.{cond, eqb, eq-eqb, ne_eqb}
use Rattle.std.specs.Prelude.{slice_index, slice_set}
use Rattle.std.specs.Coded.{Coded}
use Rattle.std.proofs.lemmas.List.{get_or-set_same, get_or-set_other}
use base.Stored.{Gv}
use prog.Atomic.{either}
use mathlib.Core.Option as logic
use lib.ListN.{get_elem?}
use Rattle.entry_order.specs.Stamps.{sum_below}
use Rattle.entry_order.proofs.Order.{is_or}
use Rattle.access_log.specs.declared.entry.StampedEntry.{StampedEntry}
use Rattle.access_log.specs.Held.{Lane}
use Rattle.plain_machine.specs.declared.local.Local.{Local}
use Rattle.plain_machine.specs.Program.{Meaning}
use Rattle.master_core.specs.declared.parts.VarPart.{VarPart}
use Rattle.master_core.specs.declared.parts.ThreadPart.{ThreadPart}
use Rattle.master_core.specs.Mastered.{Mastered, moves_made}
use Rattle.atomic_table.specs.Table.{State, Act, keeps, takes, gives, step, stepped, Valid, Allows, carried_after}
use Rattle.atomic_table.proofs.Lists.{set_here, set_else, set_again}
use Rattle.var_locks.specs.declared.view.Note.{Note}
use Rattle.var_locks.specs.declared.view.Share.{Share}
use Rattle.var_locks.specs.declared.view.Held.{Held}
use Rattle.var_locks.specs.declared.view.View.{View}
use Rattle.var_locks.specs.Codes.{note_code}
use Rattle.var_locks.specs.Notes.{IsOwn, IsOnVariable, IsGuided}
use Rattle.var_locks.specs.Views.{HasShare, AreApart, note_shares, end_shares, with_hand, empty_hand, noted_view}
use Rattle.var_locks.specs.Views.{ended_view, seen_after}
use Rattle.var_locks.specs.Plays.{Takes, Notes, Brings, Gives, Ends}
use Rattle.var_locks.specs.Words.{var_word, thread_word, word_count}
use Rattle.var_locks.specs.Told.{Now, IsPlaced, IsShare, IsView, IsSound, IsTold}
use Rattle.var_locks.proofs.Puts.{put, put_here, put_else}
use Rattle.var_locks.proofs.Apart.{same_thread, vars_apart, thread_apart, var_inside, thread_inside}
use Rattle.var_locks.proofs.Placing.{at_word, set_at, held_is, IsLater, lost_later, stays_placed, at_later}
use Rattle.var_locks.proofs.Bounding.{own_bounds, on_bounds, sum_few}
use Rattle.var_locks.proofs.Growing.{with_note, sound_own, sound_on}

-- what is so, with other seats that own the threads and hold the variables
abbrev pub with_seats : {V : Type 0} → Now V → (ℕ → ℕ) → (ℕ → Option ℕ) → Now V
with_seats d owner holder = record {
  notes = d.notes;
  parts = d.parts;
  ended = d.ended;
  owner = owner;
  vars = d.vars;
  holder = holder;
  lost = d.lost;
}

abbrev pub with_end : {V : Type 0} → Now V → ℕ → Now V
with_end d t = record {
  notes = d.notes;
  parts = d.parts;
  ended = put t true d.ended;
  owner = d.owner;
  vars = d.vars;
  holder = d.holder;
  lost = d.lost;
}

pub sound_seats : {V : Type 0} (m : Meaning V) (fits : ℕ → V → Type 0) (guide : List Lane) (p : Mastered V) (d : Now V)
    (owner : ℕ → ℕ) (holder : ℕ → Option ℕ) → IsSound m fits guide p d
    → IsSound m fits guide p (with_seats d owner holder)
sound_seats m fits guide p d owner holder k = record {
  few = k.few;
  held = k.held;
  made = k.made;
  places = k.places;
  fit = k.fit;
  guided = k.guided;
  beyond = k.beyond;
  gone = k.gone;
  story = λ inputs past stands fed.
      let q = k.story inputs past stands fed in record { round = q.round; home = q.home; seat = q.seat; lost = q.lost };
}

sound_end : {V : Type 0} (m : Meaning V) (fits : ℕ → V → Type 0) (guide : List Lane) (p : Mastered V) (d : Now V)
    (t : ℕ) → IsSound m fits guide p d → IsSound m fits guide p (with_end d t)
sound_end m fits guide p d t k = record {
  few = k.few;
  held = k.held;
  made = k.made;
  places = k.places;
  fit = k.fit;
  guided = k.guided;
  beyond = k.beyond;
  gone = λ u j named. ((k.gone u j named).0, gone u (k.gone u j named).1 (is_or u t));
  story = λ inputs past stands fed.
      let q = k.story inputs past stands fed in record { round = q.round; home = q.home; seat = q.seat; lost = q.lost };
}
  where
    gone : (u : ℕ) → d.ended u ≡ true → (u ≡ t) ⊎ (u ≢ t) → put t true d.ended u ≡ true
    gone u e (inl same) = put_here t u true d.ended same
    gone u e (inr apart) = put_else t u true d.ended apart ∙ e

-- a share still tells what is so
pub share_stays : {V : Type 0} (threads : ℕ) (d e : Now V) (id : ℕ) (x : Share V) → e.owner x.thread ≡ d.owner x.thread
    → e.notes x.thread ≡ d.notes x.thread → e.parts x.thread ≡ d.parts x.thread → e.ended x.thread ≡ d.ended x.thread
    → IsShare threads d id x → IsShare threads e id x
share_stays threads d e id x owner notes parts ended k = record {
  mine = owner ∙ k.mine;
  low = k.low;
  notes = k.notes ∙ sym notes;
  part = k.part ∙ sym parts;
  ended = k.ended ∙ sym ended;
}

-- one share alone
pub one_share : {V : Type 0} (l : List (Share V)) (x : Share V) → l ≡ x ∷ [] → HasShare x l
one_share {V} l x is = subst (λ (k : List (Share V)). HasShare x k) (sym is) (inl refl)

only_share : {V : Type 0} (l : List (Share V)) (x y : Share V) → l ≡ x ∷ [] → HasShare y l → x ≡ y
only_share {V} l x y is has = go (subst (λ (k : List (Share V)). HasShare y k) is has)
  where
    go : HasShare y (x ∷ []) → x ≡ y
    go (inl e) = e
    go (inr k) = absurd k

one_apart : {V : Type 0} (l : List (Share V)) (x : Share V) → l ≡ x ∷ [] → AreApart l
one_apart {V} l x is = subst (λ (k : List (Share V)). AreApart k) (sym is) ((λ y k. absurd k), tt)

pub no_hand : {V : Type 0} (w : View V) (h : Held V) → w.hand ≡ None → w.hand ≡ Some h → ⊥
no_hand w h none some = let q : None ≡ Some h = sym none ∙ some in cc

-- after a change there stands what was put there, or nothing
set_most : (l : List ℕ) (i a : ℕ) → slice_index (slice_set l i a) i ≤ a
set_most [] i a = omega arith
set_most (x ∷ xs) zero a = omega arith
set_most (x ∷ xs) (suc i) a = set_most xs i a

module _ {V : Type 0} (m : Meaning V) (fits : ℕ → V → Type 0) (guide : List Lane) (p : Mastered V) (id : ℕ) where
  abbrev threads : ℕ
  threads = length p.threads

  few_places : (d : Now V) → IsSound m fits guide p d → (v : ℕ) → v < m.vars → (d.vars v).places ≤ 2 ^ 60
  few_places d k v low =
      let a : (d.vars v).places ≤ sum_below (length p.threads) (λ t. (d.parts t).counts.entries) = k.places v low in
      let b : sum_below (length p.threads) (λ t. (d.parts t).counts.entries) ≤ length p.threads * 2 ^ 56 =
      sum_few (length p.threads) (2 ^ 56) (λ t. (d.parts t).counts.entries)
      (λ u under. let q = k.made u under in omega (arith, q)) in
      let c : length p.threads ≤ 16 = k.few in omega (arith, a, b, c)

  -- the words stand in the table
  pub var_in : (s : State (VarPart V) (View V)) (r : IsTold m fits guide p s) (v : ℕ) → v < m.vars
      → var_word v < length s.words
  var_in s r v low =
      subst (λ (k : ℕ). var_word v < k) (sym r.at.words) (var_inside m.vars (length p.threads) v low)

  pub thread_in : (s : State (VarPart V) (View V)) (r : IsTold m fits guide p s) (t : ℕ) → t < length p.threads
      → thread_word m.vars t < length s.words
  thread_in s r t low =
      subst (λ (k : ℕ). thread_word m.vars t < k) (sym r.at.words) (thread_inside m.vars (length p.threads) t low)

  -- where nothing changes, the rule stays
  pub same_state : (s : State (VarPart V) (View V)) (w : View V) (carried : List (ℕ × VarPart V)) (i : ℕ)
      → i < length s.words → get_elem? s.views id ≡ logic.some w
      → stepped s i (slice_index s.words i) id carried w keeps ≡ s
  same_state s w carried i inside here =
      ap (λ (ws : List ℕ).
      let q : State (VarPart V) (View V) = record { words = ws; homes = s.homes; views = slice_set s.views id w } in q)
      (set_again s.words i (slice_index s.words i) (at_word s.words i inside))
      ∙ ap (λ (vs : List (View V)).
      let q : State (VarPart V) (View V) = record { words = s.words; homes = s.homes; views = vs } in q)
      (set_again s.views id w here)

  -- A take

  module _ (v : ℕ) (low : v < m.vars) (w : View V) (empty : w.hand ≡ None) (x : Share V)
      (mine : HasShare x w.shares) where
    take_told : (s : State (VarPart V) (View V)) (r : IsTold m fits guide p s) → get_elem? s.views id ≡ logic.some w
        → (carried : List (ℕ × VarPart V)) → IsPlaced s (length p.threads) r.now v (r.now.vars v) None
        → r.now.holder v ≡ None → (n : ℕ) → n ≡ (r.now.vars v).places + (r.now.vars v).places + 1
        → IsTold m fits guide p
        (stepped s (var_word v) n id carried (with_hand w v (r.now.vars v)) (takes v (r.now.vars v)))
    take_told s r here carried free none n is = record {
      now = after;
      at = at_later m.vars (length p.threads) id r.now after later s r.at w new here (slice_set s.words (var_word v) n)
          (slice_set s.homes v logic.none) (length-set s.words (var_word v) n) (length-set s.homes v logic.none)
          (λ t under.
          get_or-set_other s.words (var_word v) (thread_word m.vars t) n 0 (thread_apart m.vars v t low)
          ∙ r.at.ended t under) (λ u under. placed u under (is_or u v)) view;
      sound = sound_seats m fits guide p r.now r.now.owner (put v (Some id) r.now.holder) r.sound;
    }
      where
        after : Now V
        after = with_seats r.now r.now.owner (put v (Some id) r.now.holder)

        new : View V
        new = with_hand w v (r.now.vars v)

        old : IsView m.vars (length p.threads) r.now id w
        old = r.at.view id w here

        later : IsLater m.vars (length p.threads) id r.now (with_seats r.now r.now.owner (put v (Some id) r.now.holder))
        later = record {
          owner = λ t. refl;
          others = λ t under apart. (refl, refl, refl);
          held = λ u other under apart holds. (
            put_else v u (Some id) r.now.holder
                (λ e. let q : None ≡ Some other = sym none ∙ (ap r.now.holder (sym e) ∙ holds) in cc)
                ∙ holds,
            refl,
          );
          rise = λ u under. omega arith;
          lost = λ u k named. named;
        }

        placed : (u : ℕ) → u < m.vars → (u ≡ v) ⊎ (u ≢ v) → IsPlaced (record {
          words = slice_set s.words (var_word v) n;
          homes = slice_set s.homes v logic.none;
          views = slice_set s.views id (with_hand w v (r.now.vars v));
        }) (length p.threads) (with_seats r.now r.now.owner (put v (Some id) r.now.holder)) u (r.now.vars u)
            (put v (Some id) r.now.holder u)
        placed u under (inl same) =
            subst (λ (h : Option ℕ). IsPlaced (record {
              words = slice_set s.words (var_word v) n;
              homes = slice_set s.homes v logic.none;
              views = slice_set s.views id (with_hand w v (r.now.vars v));
            }) (length p.threads) (with_seats r.now r.now.owner (put v (Some id) r.now.holder)) u (r.now.vars u) h)
            (sym (put_here v u (Some id) r.now.holder same)) (subst (λ (z : ℕ). IsPlaced (record {
              words = slice_set s.words (var_word v) n;
              homes = slice_set s.homes v logic.none;
              views = slice_set s.views id (with_hand w v (r.now.vars v));
            }) (length p.threads) (with_seats r.now r.now.owner (put v (Some id) r.now.holder)) z
            (r.now.vars z) (Some id)) (sym same) (
              get_or-set_same s.words (var_word v) n 0 (var_in s r v low) ∙ is,
              (with_hand w v (r.now.vars v), set_at s.views id w (with_hand w v (r.now.vars v)) here, refl),
              (x.thread, (old.share x mine).low, (old.share x mine).mine),
            ))
        placed u under (inr apart) = stays_placed m.vars (length p.threads) id r.now
            (with_seats r.now r.now.owner (put v (Some id) r.now.holder)) later s r.at w (with_hand w v (r.now.vars v))
            here (slice_set s.words (var_word v) n) (slice_set s.homes v logic.none) u under
            (get_or-set_other s.words (var_word v) (var_word u) n 0 (vars_apart u v apart))
            (set_else s.homes v u logic.none apart) refl (put_else v u (Some id) r.now.holder apart)
            (λ h has e. absurd (no_hand w h empty has))

        view : IsView m.vars (length p.threads) (with_seats r.now r.now.owner (put v (Some id) r.now.holder)) id
            (with_hand w v (r.now.vars v))
        view = record {
          apart = old.apart;
          share = λ y has. share_stays (length p.threads) r.now
              (with_seats r.now r.now.owner (put v (Some id) r.now.holder)) id y refl refl refl refl (old.share y has);
          hand = λ h has. let q : record { var = v; found = r.now.vars v } ≡ h = held_is has in
              subst (λ (z : Held V).
              (z.var < m.vars) × (put v (Some id) r.now.holder z.var ≡ Some id) × (z.found ≡ r.now.vars z.var)) q
              (low, put_here v v (Some id) r.now.holder refl, refl);
          seen = old.seen;
          missing = old.missing;
        }

    pub take_allows : {P : Type 0} (fit : P → ℕ → V → Type 0) (c : Coded P) (program : Gv)
        → ((q : P) → c.code q ≡ program → (z : V) → fits v z → fit q v z) → (carried : List (ℕ × VarPart V))
        (slots old new : ℕ) → old % 2 ≡ 0 → new ≡ old + 1
        → Allows (IsTold m fits guide p) slots id (w, carried) (var_word v) (λ n. either (eqb n old) new n)
        (Takes fit c program (step slots (var_word v) old new logic.none) (w, carried))
    take_allows fit c program known carried slots old new even up s r wide here small =
        go (is_or (slice_index s.words (var_word v)) old) (r.now.holder v) refl
      where
        go : (slice_index s.words (var_word v) ≡ old) ⊎ (slice_index s.words (var_word v) ≢ old) → (h : Option ℕ)
            → r.now.holder v ≡ h
            → (u : View V) × (a : Act (VarPart V)) × Valid s.homes carried a
            × IsTold m fits guide p (stepped s (var_word v)
            (either (eqb (slice_index s.words (var_word v)) old) new (slice_index s.words (var_word v))) id carried u a)
            × Takes fit c program (step slots (var_word v) old new logic.none) (w, carried)
            (slice_index s.words (var_word v)) (u, carried_after carried a)
        go (inr miss) h is = (
          w,
          keeps,
          tt,
          subst (λ b. IsTold m fits guide p
              (stepped s (var_word v) (either b new (slice_index s.words (var_word v))) id carried w keeps))
              (sym (ne_eqb (slice_index s.words (var_word v)) old miss))
              (subst (λ (q : State (VarPart V) (View V)). IsTold m fits guide p q)
              (sym (same_state s w carried (var_word v) (var_in s r v low) here)) r),
          ((λ hit. absurd (miss hit)), λ _. refl),
        )
        go (inl hit) (Some other) is =
            let k : IsPlaced s (length p.threads) r.now v (r.now.vars v) (Some other) =
            subst (λ (h : Option ℕ). IsPlaced s (length p.threads) r.now v (r.now.vars v) h) is (r.at.placed v low) in
            let e : old ≡ (r.now.vars v).places + (r.now.vars v).places + 1 = sym hit ∙ k.0 in
            absurd (omega (arith, e, even))
        go (inl hit) None is =
            let k : IsPlaced s (length p.threads) r.now v (r.now.vars v) None =
            subst (λ (h : Option ℕ). IsPlaced s (length p.threads) r.now v (r.now.vars v) h) is (r.at.placed v low) in
            let word : slice_index s.words (var_word v) ≡ (r.now.vars v).places + (r.now.vars v).places = k.0 in (
              with_hand w v (r.now.vars v),
              takes v (r.now.vars v),
              k.1,
              subst (λ b.
                  IsTold m fits guide p (stepped s (var_word v) (either b new (slice_index s.words (var_word v))) id
                  carried (with_hand w v (r.now.vars v)) (takes v (r.now.vars v))))
                  (sym (eq-eqb (slice_index s.words (var_word v)) old hit))
                  (take_told s r here carried k is new (omega (arith, hit, word, up))),
              (
                (λ _. (
                  v,
                  r.now.vars v,
                  refl,
                  record {
                    word_is = sym word;
                    few = few_places r.now r.sound v low;
                    seen = (r.at.view id w here).seen v low;
                    fit = λ q code. known q code (r.now.vars v).value (r.sound.fit v low);
                  },
                  refl,
                )),
                λ miss. absurd (miss hit),
              ),
            )

  -- A variable is given back as it was found.

  module _ (v : ℕ) (low : v < m.vars) (w : View V) (x : VarPart V)
      (hand : w.hand ≡ Some (record { var = v; found = x }))
    where
      -- what is known of it
      pub in_hand : (s : State (VarPart V) (View V)) (r : IsTold m fits guide p s) → get_elem? s.views id ≡ logic.some w
          → (r.now.holder v ≡ Some id) × (x ≡ r.now.vars v)
      in_hand s r here = let k = (r.at.view id w here).hand (record { var = v; found = x }) hand in (k.1, k.2)

      only_hand : (h : Held V) → w.hand ≡ Some h → h.var ≡ v
      only_hand h has = sym (ap (λ (z : Held V). z.var) (held_is (sym hand ∙ has)))

      give_told : (s : State (VarPart V) (View V)) (r : IsTold m fits guide p s) → get_elem? s.views id ≡ logic.some w
          → (carried : List (ℕ × VarPart V)) (n : ℕ) → n ≡ x.places + x.places
          → IsTold m fits guide p (stepped s (var_word v) n id ((v, x) ∷ carried) (empty_hand w) gives)
      give_told s r here carried n is = record {
        now = with_seats r.now r.now.owner (put v None r.now.holder);
        at = at_later m.vars (length p.threads) id r.now (with_seats r.now r.now.owner (put v None r.now.holder)) later
            s r.at w (empty_hand w) here (slice_set s.words (var_word v) n) (slice_set s.homes v (logic.some x))
            (length-set s.words (var_word v) n) (length-set s.homes v (logic.some x))
            (λ t under.
            get_or-set_other s.words (var_word v) (thread_word m.vars t) n 0 (thread_apart m.vars v t low)
            ∙ r.at.ended t under) (λ u under. placed u under (is_or u v)) view;
        sound = sound_seats m fits guide p r.now r.now.owner (put v None r.now.holder) r.sound;
      }
        where
          old : IsView m.vars (length p.threads) r.now id w
          old = r.at.view id w here

          known : (r.now.holder v ≡ Some id) × (x ≡ r.now.vars v)
          known = in_hand s r here

          later : IsLater m.vars (length p.threads) id r.now (with_seats r.now r.now.owner (put v None r.now.holder))
          later = record {
            owner = λ t. refl;
            others = λ t under apart. (refl, refl, refl);
            held = λ u other under apart holds. (
              put_else v u None r.now.holder (λ e.
                  let q : Some id ≡ Some other = sym known.0 ∙ (ap r.now.holder (sym e) ∙ holds) in
                  let same : id ≡ other = cc in apart (sym same))
                  ∙ holds,
              refl,
            );
            rise = λ u under. omega arith;
            lost = λ u k named. named;
          }

          placed : (u : ℕ) → u < m.vars → (u ≡ v) ⊎ (u ≢ v) → IsPlaced (record {
            words = slice_set s.words (var_word v) n;
            homes = slice_set s.homes v (logic.some x);
            views = slice_set s.views id (empty_hand w);
          }) (length p.threads) (with_seats r.now r.now.owner (put v None r.now.holder)) u (r.now.vars u)
              (put v None r.now.holder u)
          placed u under (inl same) =
              subst (λ (h : Option ℕ). IsPlaced (record {
                words = slice_set s.words (var_word v) n;
                homes = slice_set s.homes v (logic.some x);
                views = slice_set s.views id (empty_hand w);
              }) (length p.threads) (with_seats r.now r.now.owner (put v None r.now.holder)) u (r.now.vars u) h)
              (sym (put_here v u None r.now.holder same)) (subst (λ (z : ℕ). IsPlaced (record {
                words = slice_set s.words (var_word v) n;
                homes = slice_set s.homes v (logic.some x);
                views = slice_set s.views id (empty_hand w);
              }) (length p.threads) (with_seats r.now r.now.owner (put v None r.now.holder)) z (r.now.vars z) None)
              (sym same) (subst (λ (z : VarPart V). IsPlaced (record {
                words = slice_set s.words (var_word v) n;
                homes = slice_set s.homes v (logic.some x);
                views = slice_set s.views id (empty_hand w);
              }) (length p.threads) (with_seats r.now r.now.owner (put v None r.now.holder)) v z None) known.1 (
                get_or-set_same s.words (var_word v) n 0 (var_in s r v low) ∙ is,
                set_here s.homes v (logic.some x) (let q = r.at.homes in omega (arith, q)),
              )))
          placed u under (inr apart) =
              stays_placed m.vars (length p.threads) id r.now (with_seats r.now r.now.owner (put v None r.now.holder))
              later s r.at w (empty_hand w) here (slice_set s.words (var_word v) n) (slice_set s.homes v (logic.some x))
              u under (get_or-set_other s.words (var_word v) (var_word u) n 0 (vars_apart u v apart))
              (set_else s.homes v u (logic.some x) apart) refl (put_else v u None r.now.holder apart)
              (λ h has e. absurd (apart (sym e ∙ only_hand h has)))

          view : IsView m.vars (length p.threads) (with_seats r.now r.now.owner (put v None r.now.holder)) id
              (empty_hand w)
          view = record {
            apart = old.apart;
            share = λ y has. share_stays (length p.threads) r.now
                (with_seats r.now r.now.owner (put v None r.now.holder)) id y refl refl refl refl (old.share y has);
            hand = λ h has. let q : None ≡ Some h = has in absurd (cc);
            seen = old.seen;
            missing = old.missing;
          }

      pub give_allows : (carried : List (ℕ × VarPart V)) (slots n : ℕ) → n ≡ x.places + x.places
          → Allows (IsTold m fits guide p) slots id (w, (v, x) ∷ carried) (var_word v) (λ _. n)
          (λ _. Gives (step slots (var_word v) n 0 logic.none) (w, (v, x) ∷ carried) n)
      give_allows carried slots n is s r wide here small =
          (empty_hand w, gives, tt, give_told s r here carried n is, refl)

  -- A move is noted: on no variable, or on the one in hand.

  module _ (w : View V) (x : Share V) (shares : w.shares ≡ x ∷ []) (going : x.ended ≡ false) (n : Note V)
      (before : n.before ≡ x.part) (guided : IsGuided guide x.thread n) (room : moves_made n.before < 2 ^ 56) where
    abbrev noted : Share V
    noted = record { thread = x.thread; notes = n ∷ x.notes; part = n.after; ended = x.ended }

    new_shares : note_shares w.shares n
        ≡ (record { thread = x.thread; notes = n ∷ x.notes; part = n.after; ended = x.ended }) ∷ []
    new_shares = ap (λ (l : List (Share V)). note_shares l n) shares

    module _ (s : State (VarPart V) (View V)) (r : IsTold m fits guide p s)
        (here : get_elem? s.views id ≡ logic.some w) where
      mine : IsShare (length p.threads) r.now id x
      mine = (r.at.view id w here).share x (one_share w.shares x shares)

      is_before : n.before ≡ r.now.parts x.thread
      is_before = before ∙ mine.part

      not_ended : r.now.ended x.thread ≡ false
      not_ended = sym mine.ended ∙ going

      still_held : Rattle.master_core.specs.Mastered.in_hand_count n.before.hand ≤ n.before.counts.taken
      still_held = subst (λ (z : ThreadPart). Rattle.master_core.specs.Mastered.in_hand_count z.hand ≤ z.counts.taken)
          (sym is_before) (r.sound.held x.thread mine.low)

      noted_share : (vars : ℕ → VarPart V) (holder : ℕ → Option ℕ) (y : Share V) → HasShare y (note_shares w.shares n)
          → IsShare (length p.threads) (with_note r.now x.thread n vars holder) id y
      noted_share vars holder y has =
          subst (λ (z : Share V). IsShare (length p.threads) (with_note r.now x.thread n vars holder) id z)
          (only_share (note_shares w.shares n)
          (record { thread = x.thread; notes = n ∷ x.notes; part = n.after; ended = x.ended }) y new_shares
          has) (record {
            mine = mine.mine;
            low = mine.low;
            notes =
                ap (λ (l : List (Note V)). n ∷ l) mine.notes
                ∙ sym (put_here x.thread x.thread (n ∷ r.now.notes x.thread) r.now.notes refl);
            part = sym (put_here x.thread x.thread n.after r.now.parts refl);
            ended = mine.ended;
          })

      others : (vars : ℕ → VarPart V) (holder : ℕ → Option ℕ) (u : ℕ) → r.now.owner u ≢ id
          → ((with_note r.now x.thread n vars holder).notes u ≡ r.now.notes u)
          × ((with_note r.now x.thread n vars holder).parts u ≡ r.now.parts u)
          × ((with_note r.now x.thread n vars holder).ended u ≡ r.now.ended u)
      others vars holder u not_mine =
          let apart : u ≢ x.thread = λ e. not_mine (ap r.now.owner e ∙ mine.mine) in (
            put_else x.thread u (n ∷ r.now.notes x.thread) r.now.notes apart,
            put_else x.thread u n.after r.now.parts apart,
            refl,
          )

      module _ (own : IsOwn m x.thread n) (empty : w.hand ≡ None) (seen : seen_after w.seen n.trace ≡ w.seen) where
        own_later : IsLater m.vars (length p.threads) id r.now (with_note r.now x.thread n r.now.vars r.now.holder)
        own_later = record {
          owner = λ t. refl;
          others = λ u under apart. others r.now.vars r.now.holder u apart;
          held = λ u other under apart holds. (holds, refl);
          rise = λ u under. omega arith;
          lost = λ u k named. named;
        }

        own_view :
            IsView m.vars (length p.threads) (with_note r.now x.thread n r.now.vars r.now.holder) id (noted_view w n)
        own_view = record {
          apart = one_apart (note_shares w.shares n)
              (record { thread = x.thread; notes = n ∷ x.notes; part = n.after; ended = x.ended }) new_shares;
          share = λ y has. noted_share r.now.vars r.now.holder y has;
          hand = λ h has. let q : None ≡ Some h = has in absurd (cc);
          seen = λ u under. subst (λ (l : List ℕ). slice_index l u ≤ (r.now.vars u).places) (sym seen)
              ((r.at.view id w here).seen u under);
          missing = (r.at.view id w here).missing;
        }

        own_told : IsTold m fits guide p
            (record { words = s.words; homes = s.homes; views = slice_set s.views id (noted_view w n) })
        own_told =
            let b = own_bounds m x.thread n still_held room own in record {
              now = with_note r.now x.thread n r.now.vars r.now.holder;
              at = at_later m.vars (length p.threads) id r.now (with_note r.now x.thread n r.now.vars r.now.holder)
                  own_later s r.at w (noted_view w n) here s.words s.homes refl refl r.at.ended
                  (λ u under. stays_placed m.vars (length p.threads) id r.now
                  (with_note r.now x.thread n r.now.vars r.now.holder) own_later s r.at w (noted_view w n) here s.words
                  s.homes u under refl refl refl refl (λ h has e. absurd (no_hand w h empty has))) own_view;
              sound = sound_own m fits guide p r.now r.sound x.thread mine.low not_ended n is_before guided own b.held
                  b.made b.entries;
            }

    pub note_allows : IsOwn m x.thread n → w.hand ≡ None → seen_after w.seen n.trace ≡ w.seen → (c : Coded V)
        (carried : List (ℕ × VarPart V)) (slots i : ℕ) → i < word_count m.vars (length p.threads)
        → Allows (IsTold m fits guide p) slots id (w, carried) i (λ k. k)
        (Notes (note_code c) ((note_code c).code n) (step slots i 0 0 logic.none) (w, carried))
    note_allows own empty seen c carried slots i inside s r wide here small = (
      noted_view w n,
      keeps,
      tt,
      subst (λ (ws : List ℕ).
          IsTold m fits guide p (record { words = ws; homes = s.homes; views = slice_set s.views id (noted_view w n) }))
          (sym (set_again s.words i (slice_index s.words i)
          (at_word s.words i (subst (λ (k : ℕ). i < k) (sym r.at.words) inside)))) (own_told s r here own empty seen),
      (n, refl, refl),
    )

    -- The variable in hand comes home as after the move, which is of it.

    module _ (v : ℕ) (low : v < m.vars) (found y : VarPart V) (place : Local) (e : StampedEntry)
        (hand : w.hand ≡ Some (record { var = v; found = found })) (on : IsOnVariable m x.thread v n found y place e)
        (fit : fits v y.value) (seen : seen_after w.seen n.trace ≡ slice_set w.seen v y.places)
        (up : found.places ≤ y.places) where
      module _ (s : State (VarPart V) (View V)) (r : IsTold m fits guide p s)
          (here : get_elem? s.views id ≡ logic.some w) where
        abbrev then : Now V
        then = with_note r.now x.thread n (put v y r.now.vars) (put v None r.now.holder)

        known : (r.now.holder v ≡ Some id) × (found ≡ r.now.vars v)
        known = in_hand v low w found hand s r here

        more : r.now.vars v ≡ found
        more = sym known.1

        rise : (u : ℕ) → (u ≡ v) ⊎ (u ≢ v) → (r.now.vars u).places ≤ (put v y r.now.vars u).places
        rise u (inl same) =
            subst (λ (z : VarPart V). (r.now.vars u).places ≤ z.places) (sym (put_here v u y r.now.vars same))
            (subst (λ (z : ℕ). (r.now.vars z).places ≤ y.places) (sym same)
            (subst (λ (z : VarPart V). z.places ≤ y.places) known.1 up))
        rise u (inr apart) = subst (λ (z : VarPart V). (r.now.vars u).places ≤ z.places)
            (sym (put_else v u y r.now.vars apart)) (omega arith)

        not_v : (u other : ℕ) → other ≢ id → r.now.holder u ≡ Some other → u ≢ v
        not_v u other apart holds same =
            let q : Some id ≡ Some other = sym known.0 ∙ (ap r.now.holder (sym same) ∙ holds) in
            let one : id ≡ other = cc in apart (sym one)

        later : IsLater m.vars (length p.threads) id r.now
            (with_note r.now x.thread n (put v y r.now.vars) (put v None r.now.holder))
        later = record {
          owner = λ t. refl;
          others = λ u under apart. others s r here (put v y r.now.vars) (put v None r.now.holder) u apart;
          held = λ u other under apart holds. (
            put_else v u None r.now.holder (not_v u other apart holds) ∙ holds,
            put_else v u y r.now.vars (not_v u other apart holds),
          );
          rise = λ u under. rise u (is_or u v);
          lost = λ u k named. named;
        }

        seen_in : (u : ℕ) → u < m.vars → (u ≡ v) ⊎ (u ≢ v)
            → slice_index (slice_set w.seen v y.places) u ≤ (put v y r.now.vars u).places
        seen_in u under (inl same) =
            subst (λ (z : VarPart V). slice_index (slice_set w.seen v y.places) u ≤ z.places)
            (sym (put_here v u y r.now.vars same))
            (subst (λ (z : ℕ). slice_index (slice_set w.seen v y.places) z ≤ y.places) (sym same)
            (set_most w.seen v y.places))
        seen_in u under (inr apart) =
            subst (λ (z : VarPart V). slice_index (slice_set w.seen v y.places) u ≤ z.places)
            (sym (put_else v u y r.now.vars apart))
            (subst (λ (k : ℕ). k ≤ (r.now.vars u).places) (sym (get_or-set_other w.seen v u y.places 0 apart))
            ((r.at.view id w here).seen u under))

        view : IsView m.vars (length p.threads)
            (with_note r.now x.thread n (put v y r.now.vars) (put v None r.now.holder)) id (noted_view w n)
        view = record {
          apart = one_apart (note_shares w.shares n)
              (record { thread = x.thread; notes = n ∷ x.notes; part = n.after; ended = x.ended }) new_shares;
          share = λ z has. noted_share s r here (put v y r.now.vars) (put v None r.now.holder) z has;
          hand = λ h has. let q : None ≡ Some h = has in absurd (cc);
          seen = λ u under. subst (λ (l : List ℕ). slice_index l u ≤ (put v y r.now.vars u).places) (sym seen)
              (seen_in u under (is_or u v));
          missing = λ f named. lost_later m.vars (length p.threads) id r.now
              (with_note r.now x.thread n (put v y r.now.vars) (put v None r.now.holder)) later f
              ((r.at.view id w here).missing f named);
        }

        bring_told : (carried : List (ℕ × VarPart V)) (word : ℕ) → word ≡ y.places + y.places
            → IsTold m fits guide p (stepped s (var_word v) word id ((v, y) ∷ carried) (noted_view w n) gives)
        bring_told carried word is =
            let on_home : IsOnVariable m x.thread v n (r.now.vars v) y place e =
            subst (λ (z : VarPart V). IsOnVariable m x.thread v n z y place e) known.1 on in
            let b = on_bounds m x.thread n (still_held s r here) room v (r.now.vars v) y place e on_home in record {
              now = with_note r.now x.thread n (put v y r.now.vars) (put v None r.now.holder);
              at = at_later m.vars (length p.threads) id r.now
                  (with_note r.now x.thread n (put v y r.now.vars) (put v None r.now.holder)) later s r.at w
                  (noted_view w n) here (slice_set s.words (var_word v) word) (slice_set s.homes v (logic.some y))
                  (length-set s.words (var_word v) word) (length-set s.homes v (logic.some y))
                  (λ t under.
                  get_or-set_other s.words (var_word v) (thread_word m.vars t) word 0 (thread_apart m.vars v t low)
                  ∙ r.at.ended t under) (λ u under. placed u under (is_or u v)) view;
              sound = sound_on m fits guide p r.now r.sound x.thread (mine s r here).low (not_ended s r here) n
                  (is_before s r here) guided v y place e low on_home fit b.2 b.1 b.0.held b.0.made;
            }
          where
            placed : (u : ℕ) → u < m.vars → (u ≡ v) ⊎ (u ≢ v) → IsPlaced (record {
              words = slice_set s.words (var_word v) word;
              homes = slice_set s.homes v (logic.some y);
              views = slice_set s.views id (noted_view w n);
            }) (length p.threads) (with_note r.now x.thread n (put v y r.now.vars) (put v None r.now.holder)) u
                (put v y r.now.vars u) (put v None r.now.holder u)
            placed u under (inl same) =
                subst (λ (h : Option ℕ). IsPlaced (record {
                  words = slice_set s.words (var_word v) word;
                  homes = slice_set s.homes v (logic.some y);
                  views = slice_set s.views id (noted_view w n);
                }) (length p.threads) (with_note r.now x.thread n (put v y r.now.vars) (put v None r.now.holder)) u
                (put v y r.now.vars u) h) (sym (put_here v u None r.now.holder same))
                (subst (λ (z : VarPart V). IsPlaced (record {
                  words = slice_set s.words (var_word v) word;
                  homes = slice_set s.homes v (logic.some y);
                  views = slice_set s.views id (noted_view w n);
                }) (length p.threads) (with_note r.now x.thread n (put v y r.now.vars) (put v None r.now.holder)) u
                z None) (sym (put_here v u y r.now.vars same)) (subst (λ (z : ℕ). IsPlaced (record {
                  words = slice_set s.words (var_word v) word;
                  homes = slice_set s.homes v (logic.some y);
                  views = slice_set s.views id (noted_view w n);
                }) (length p.threads) (with_note r.now x.thread n (put v y r.now.vars) (put v None r.now.holder)) z
                y None) (sym same) (
                  get_or-set_same s.words (var_word v) word 0 (var_in s r v low) ∙ is,
                  set_here s.homes v (logic.some y) (let q = r.at.homes in omega (arith, q)),
                )))
            placed u under (inr apart) = stays_placed m.vars (length p.threads) id r.now
                (with_note r.now x.thread n (put v y r.now.vars) (put v None r.now.holder)) later s r.at w
                (noted_view w n) here (slice_set s.words (var_word v) word) (slice_set s.homes v (logic.some y)) u under
                (get_or-set_other s.words (var_word v) (var_word u) word 0 (vars_apart u v apart))
                (set_else s.homes v u (logic.some y) apart) (put_else v u y r.now.vars apart)
                (put_else v u None r.now.holder apart)
                (λ h has q. absurd (apart (sym q ∙ only_hand v low w found hand h has)))

      pub bring_allows : (c : Coded V) (carried : List (ℕ × VarPart V)) (slots word : ℕ) → word ≡ y.places + y.places
          → Allows (IsTold m fits guide p) slots id (w, (v, y) ∷ carried) (var_word v) (λ _. word) (λ _. Brings
          (note_code c) ((note_code c).code n) (step slots (var_word v) word 0 logic.none) (w, (v, y) ∷ carried) word)
      bring_allows c carried slots word is s r wide here small =
          (noted_view w n, gives, tt, bring_told s r here carried word is, (n, refl, refl))

  -- A seat ends the round for its thread.

  module _ (w : View V) (x : Share V) (shares : w.shares ≡ x ∷ []) (empty : w.hand ≡ None) where
    end_told : (s : State (VarPart V) (View V)) (r : IsTold m fits guide p s)
        (here : get_elem? s.views id ≡ logic.some w)
        → IsTold m fits guide p (record {
          words = slice_set s.words (thread_word m.vars x.thread) 1;
          homes = s.homes;
          views = slice_set s.views id (ended_view w);
        })
    end_told s r here = record {
      now = with_end r.now x.thread;
      at = at_later m.vars (length p.threads) id r.now (with_end r.now x.thread) later s r.at w (ended_view w) here
          (slice_set s.words (thread_word m.vars x.thread) 1) s.homes
          (length-set s.words (thread_word m.vars x.thread) 1) refl (λ t under. ended t under (is_or t x.thread))
          (λ u under. stays_placed m.vars (length p.threads) id r.now (with_end r.now x.thread) later s r.at w
          (ended_view w) here (slice_set s.words (thread_word m.vars x.thread) 1) s.homes u under
          (get_or-set_other s.words (thread_word m.vars x.thread) (var_word u) 1 0
          (λ q. thread_apart m.vars u x.thread under (sym q))) refl refl refl
          (λ h has q. absurd (no_hand w h empty has))) view;
      sound = sound_end m fits guide p r.now x.thread r.sound;
    }
      where
        mine : IsShare (length p.threads) r.now id x
        mine = (r.at.view id w here).share x (one_share w.shares x shares)

        later : IsLater m.vars (length p.threads) id r.now (with_end r.now x.thread)
        later = record {
          owner = λ t. refl;
          others = λ u under apart.
              (refl, refl, put_else x.thread u true r.now.ended (λ q. apart (ap r.now.owner q ∙ mine.mine)));
          held = λ u other under apart holds. (holds, refl);
          rise = λ u under. omega arith;
          lost = λ u k named. named;
        }

        ended : (t : ℕ) → t < length p.threads → (t ≡ x.thread) ⊎ (t ≢ x.thread)
            → slice_index (slice_set s.words (thread_word m.vars x.thread) 1) (thread_word m.vars t)
            ≡ cond (put x.thread true r.now.ended t) 1 0
        ended t under (inl same) =
            ap (λ (z : ℕ). slice_index (slice_set s.words (thread_word m.vars x.thread) 1) (thread_word m.vars z)) same
            ∙ (get_or-set_same s.words (thread_word m.vars x.thread) 1 0
            (thread_in s r x.thread mine.low)
            ∙ sym (ap (λ (b : Bool). cond b 1 0) (put_here x.thread t true r.now.ended same)))
        ended t under (inr apart) =
            get_or-set_other s.words (thread_word m.vars x.thread) (thread_word m.vars t) 1 0
            (λ q. apart (same_thread m.vars t x.thread q))
            ∙ (r.at.ended t under ∙ sym (ap (λ (b : Bool). cond b 1 0) (put_else x.thread t true r.now.ended apart)))

        ends : end_shares w.shares ≡ (record { thread = x.thread; notes = x.notes; part = x.part; ended = true }) ∷ []
        ends = ap (λ (l : List (Share V)). end_shares l) shares

        view : IsView m.vars (length p.threads) (with_end r.now x.thread) id (ended_view w)
        view = record {
          apart = one_apart (end_shares w.shares)
              (record { thread = x.thread; notes = x.notes; part = x.part; ended = true }) ends;
          share = λ y has. subst (λ (z : Share V). IsShare (length p.threads) (with_end r.now x.thread) id z)
              (only_share (end_shares w.shares)
              (record { thread = x.thread; notes = x.notes; part = x.part; ended = true }) y ends has) (record {
                mine = mine.mine;
                low = mine.low;
                notes = mine.notes;
                part = mine.part;
                ended = sym (put_here x.thread x.thread true r.now.ended refl);
              });
          hand = λ h has. absurd (no_hand w h empty has);
          seen = (r.at.view id w here).seen;
          missing = (r.at.view id w here).missing;
        }

    pub end_allows : (carried : List (ℕ × VarPart V)) (slots : ℕ)
        → Allows (IsTold m fits guide p) slots id (w, carried) (thread_word m.vars x.thread) (λ _. 1)
        (λ _. Ends (step slots (thread_word m.vars x.thread) 1 0 logic.none) (w, carried) 1)
    end_allows carried slots s r wide here small = (ended_view w, keeps, tt, end_told s r here, refl)
