-- An entry that a seat waits for and whose thread has ended is missing, and stays so.
use Rattle.std.proofs.Common.{◌≡◌, ◌≢◌, ℕ, ◌+◌, ◌<◌, ◌≤◌, ◌⊎◌, inl, inr, Bool, true, false, List, ◌∷◌, length, refl}
use Rattle.std.proofs.Common.{sym, ap, ◌∙◌, subst, Some, arith, cond}
use Rattle.std.specs.Prelude.{slice_index, slice_set}
use mathlib.Core.Option as logic
use lib.ListN.{get_elem?}
use Rattle.plain_text.specs.declared.packet.Packet.{Packet}
use Rattle.entry_order.specs.declared.what.What.{What}
use Rattle.entry_order.specs.declared.what.What.TheVariants as what
use Rattle.entry_order.specs.Log.{Entry, places, IsLog}
use Rattle.entry_order.proofs.Order.{is_or, place_within}
use Rattle.access_log.specs.declared.entry.StampedEntry.{StampedEntry}
use Rattle.access_log.specs.Held.{Lane}
use Rattle.plain_machine.specs.Program.{Meaning}
use Rattle.plain_machine.specs.History.{Step, log_of}
use Rattle.plain_machine.proofs.Histories.{is_eq}
use Rattle.master_core.specs.declared.parts.VarPart.{VarPart}
use Rattle.master_core.specs.Mastered.{Mastered}
use Rattle.replay_guide.specs.Following.{Follows}
use Rattle.replay_guide.specs.Orders.{IsNamed}
use Rattle.replay_guide.specs.Turns.{WaitsFor, IsFirstPending, NoneIsPending}
use Rattle.atomic_table.specs.Table.{State, keeps, step, stepped, Allows}
use Rattle.atomic_table.proofs.Lists.{set_again}
use Rattle.round_order.specs.Receipts.{Receipts, IsTouch}
use Rattle.round_order.specs.Linked.{IsKnown, IsLinked}
use Rattle.round_order.specs.Home.{IsHome}
use Rattle.round_order.proofs.LoggedMoves.{own_at}
use Rattle.round_order.proofs.MoreReceipts.{touch_of}
use Rattle.var_locks.specs.declared.view.MissedEntry.{MissedEntry}
use Rattle.var_locks.specs.declared.view.View.{View}
use Rattle.var_locks.specs.Views.{IsMissed, missed_view}
use Rattle.var_locks.specs.Plays.{Misses}
use Rattle.var_locks.specs.Words.{thread_word}
use Rattle.var_locks.specs.Told.{Now, IsLost, IsView, IsStory, IsSound, IsTold, WasGoing}
use Rattle.var_locks.proofs.Placing.{at_word, IsLater, stays_placed, at_later}
use Rattle.var_locks.proofs.Stepping.{share_stays, thread_in, same_state, in_hand}

-- what is followed at one number is one thing
followed_once : (guide : List Lane) (u k : ℕ) (a b : What) → Follows guide u k a → Follows guide u k b → a ≡ b
followed_once guide u k a b (e, at, is) (f, at', is') =
    let q : Some e ≡ Some f = sym at ∙ at' in
    let same : e ≡ f = cc in
    sym is ∙ (ap (λ (z : StampedEntry). z.what) same ∙ is')

module _ {V : Type 0} (m : Meaning V) (inputs : ℕ → List Packet) (threads : ℕ) (past : List (Step V)) (rs : Receipts V)
    (log : IsLog (log_of past)) (linked : IsLinked m inputs threads past rs) where
  -- a known entry is in the place of its own thread in its stamp
  own_number : (d : Entry) (stamp : ℕ → ℕ) → IsKnown past rs d stamp → d.number ≤ stamp d.thread
  own_number d stamp (inl (f, here, l, same)) =
      let j = linked.joined f d here l in
      let own : slice_index f.stamp d.thread ≡ d.number =
      j.stamp d.thread ∙ ap (λ b. cond b d.number (j.join d.thread)) (is_eq d.thread d.thread refl) in
      let is : slice_index f.stamp d.thread ≡ stamp d.thread = same d.thread in omega (arith, own, is)
  own_number d stamp (inr (here, st)) = st.above d here (inl refl)

  -- a known touch has a place up to what is at home
  touched_before : (v s : ℕ) (x : VarPart V) → IsHome m past rs v x → (d : Entry) (stamp : ℕ → ℕ)
      → d.what ≡ what.Access v s → IsKnown past rs d stamp → s ≤ x.places
  touched_before v s x home d stamp is (inl (f, here, l, same)) =
      let alone = own_at m inputs past f.step.thread (rs f.step.thread) f (linked.alone f.step.thread) here in
      let touch : (y : V) × IsTouch f v y × (s ≡ f.place + 1) = touch_of m inputs alone.1.0 f d v s alone.1.1 l is in
      let low : f.place < x.places = home.touches f touch.0 here touch.1 in
      let q = touch.2 in omega (arith, low, q)
  touched_before v s x home d stamp is (inr (here, st)) =
      let k : s ≤ places v (log_of past) = (place_within (log_of past) d v s log here is).1 in
      let from = home.from in omega (arith, k, from)

  -- What the guide says to wait for is not there.
  pub not_there : (guide : List Lane) (t n v : ℕ) (read : Bool) (x : VarPart V) (u k : ℕ) → IsHome m past rs v x
      → WaitsFor guide t n v read x.places x.readers u k → (what : What) (stamp : ℕ → ℕ) → Follows guide u k what
      → IsKnown past rs (record { thread = u; number = k; what = what }) stamp → ⊥
  not_there guide t n v read x u k home waits w stamp follows known = go waits.which
    where
      go : ((read ≡ false) × IsFirstPending guide v x.places x.readers u k) ⊎ (NoneIsPending guide v read
          x.places x.readers × Follows guide u k (what.Access v (x.places + 1)) × ((u ≡ t) × (k ≡ n) → ⊥)) → ⊥
      go (inl (is_touch, first)) =
          let is : w ≡ what.Read v x.places =
          followed_once guide u k w (what.Read v x.places) follows first.pending.0 in
          let a : k ≤ stamp u = own_number (record { thread = u; number = k; what = w }) stamp known in
          let b : stamp u ≤ slice_index x.readers u =
          home.readers.above (record { thread = u; number = k; what = w }) stamp is known u in
          let c : slice_index x.readers u < k = first.pending.1 in absurd (omega (arith, a, b, c))
      go (inr (none, next, other)) =
          let is : w ≡ what.Access v (x.places + 1) =
          followed_once guide u k w (what.Access v (x.places + 1)) follows next in
          let a : x.places + 1 ≤ x.places =
          touched_before v (x.places + 1) x home (record { thread = u; number = k; what = w }) stamp is known in
          absurd (omega (arith, a))

-- what is so, with one more entry that is missing
abbrev with_lost : {V : Type 0} → Now V → ℕ → ℕ → Now V
with_lost d u k = record {
  notes = d.notes;
  parts = d.parts;
  ended = d.ended;
  owner = d.owner;
  vars = d.vars;
  holder = d.holder;
  lost = (u, k) ∷ d.lost;
}

module _ {V : Type 0} (m : Meaning V) (fits : ℕ → V → Type 0) (guide : List Lane) (p : Mastered V) where
  sound_lost : (d : Now V) → IsSound m fits guide p d → (t n v : ℕ) (read : Bool) (u k : ℕ) → v < m.vars
      → u < length p.threads → d.ended u ≡ true → WaitsFor guide t n v read (d.vars v).places (d.vars v).readers u k
      → IsSound m fits guide p (with_lost d u k)
  sound_lost d old t n v read u k low under gone waits = record {
    few = old.few;
    held = old.held;
    made = old.made;
    places = old.places;
    fit = old.fit;
    guided = old.guided;
    beyond = old.beyond;
    gone = λ a b named. lost_gone a b named;
    story = λ inputs past stands fed. story inputs past (old.story inputs past stands fed);
  }
    where
      lost_gone : (a b : ℕ) → IsNamed a b ((u, k) ∷ d.lost) → (a < length p.threads) × (d.ended a ≡ true)
      lost_gone a b (inl (same, is)) =
          (subst (λ (z : ℕ). z < length p.threads) same under, ap d.ended (sym same) ∙ gone)
      lost_gone a b (inr named) = old.gone a b named

      story : (inputs : ℕ → List Packet) (past : List (Step V)) → IsStory m guide (length p.threads) d inputs past
          → IsStory m guide (length p.threads) (with_lost d u k) inputs past
      story inputs past is = record {
        round = is.round;
        home = is.home;
        seat = is.seat;
        lost = λ a b w stamp named follows known. lost a b w stamp named follows known;
      }
        where
          lost : (a b : ℕ) (w : What) (stamp : ℕ → ℕ) → IsNamed a b ((u, k) ∷ d.lost) → Follows guide a b w
              → IsKnown past (Rattle.var_locks.specs.Told.receipts m past d)
              (record { thread = a; number = b; what = w }) stamp → ⊥
          lost a b w stamp (inl (same, one)) follows known =
              not_there m inputs (length p.threads) past (Rattle.var_locks.specs.Told.receipts m past d)
              is.round.opening is.round.linked guide t n v read (d.vars v) u k (is.home v low) waits w stamp
              (subst (λ (z : ℕ). Follows guide z k w) (sym same)
              (subst (λ (z : ℕ). Follows guide a z w) (sym one) follows))
              (subst (λ (z : ℕ). IsKnown past (Rattle.var_locks.specs.Told.receipts m past d)
              (record { thread = z; number = k; what = w }) stamp) (sym same)
              (subst (λ (z : ℕ). IsKnown past (Rattle.var_locks.specs.Told.receipts m past d)
              (record { thread = a; number = z; what = w }) stamp) (sym one) known))
          lost a b w stamp (inr named) follows known = is.lost a b w stamp named follows known

  module _ (id : ℕ) (w : View V) (e : MissedEntry) (x : VarPart V) (low : e.var < m.vars)
      (hand : w.hand ≡ Some (record { var = e.var; found = x })) (places_are : e.places ≡ x.places) (t n : ℕ)
      (read : Bool) (under : e.thread < length p.threads)
      (waits : WaitsFor guide t n e.var read x.places x.readers e.thread e.number) where
    miss_told : (s : State (VarPart V) (View V)) (r : IsTold m fits guide p s)
        (here : get_elem? s.views id ≡ logic.some w) → slice_index s.words (thread_word m.vars e.thread) ≡ 1
        → IsTold m fits guide p
        (record { words = s.words; homes = s.homes; views = slice_set s.views id (missed_view w e) })
    miss_told s r here one = record {
      now = with_lost r.now e.thread e.number;
      at = at_later m.vars (length p.threads) id r.now (with_lost r.now e.thread e.number) later s r.at w
          (missed_view w e) here s.words s.homes refl refl r.at.ended
          (λ i inside. stays_placed m.vars (length p.threads) id r.now (with_lost r.now e.thread e.number) later s r.at
          w (missed_view w e) here s.words s.homes i inside refl refl refl refl (λ h has q. has)) view;
      sound = sound_lost r.now r.sound t n e.var read e.thread e.number low under (gone (r.now.ended e.thread) refl)
          (subst (λ (z : VarPart V). WaitsFor guide t n e.var read z.places z.readers e.thread e.number)
          (in_hand m fits guide p id e.var low w x hand s r here).1 waits);
    }
      where
        gone : (b : Bool) → r.now.ended e.thread ≡ b → r.now.ended e.thread ≡ true
        gone true is = is
        gone false is =
            let q : 1 ≡ 0 = sym one ∙ (r.at.ended e.thread under ∙ ap (λ (c : Bool). cond c 1 0) is) in
            absurd (omega (arith, q))

        later : IsLater m.vars (length p.threads) id r.now (with_lost r.now e.thread e.number)
        later = record {
          owner = λ i. refl;
          others = λ i inside apart. (refl, refl, refl);
          held = λ i other inside apart holds. (holds, refl);
          rise = λ i inside. omega arith;
          lost = λ a b named. inr named;
        }

        old : IsView m.vars (length p.threads) r.now id w
        old = r.at.view id w here

        placed : e.places ≤ (r.now.vars e.var).places
        placed = subst (λ (z : VarPart V). e.places ≤ z.places)
            (in_hand m fits guide p id e.var low w x hand s r here).1 (omega (arith, places_are))

        missing : (f : MissedEntry) → IsMissed f (e ∷ w.missing) → IsLost m.vars (with_lost r.now e.thread e.number) f
        missing f (inl same) = subst (λ (z : MissedEntry). IsLost m.vars (with_lost r.now e.thread e.number) z) same
            (inl (refl, refl), low, placed)
        missing f (inr missed) = let k = old.missing f missed in (inr k.0, k.1, k.2)

        view : IsView m.vars (length p.threads) (with_lost r.now e.thread e.number) id (missed_view w e)
        view = record {
          apart = old.apart;
          share = λ y has. share_stays (length p.threads) r.now (with_lost r.now e.thread e.number) id y refl refl refl
              refl (old.share y has);
          hand = old.hand;
          seen = old.seen;
          missing = missing;
        }

    going_at : (s : State (VarPart V) (View V)) (r : IsTold m fits guide p s) → get_elem? s.views id ≡ logic.some w
        → slice_index s.words (thread_word m.vars e.thread) ≢ 1 → WasGoing m fits guide p w e.thread
    going_at s r here not = record {
      now = r.now;
      sound = r.sound;
      seat = id;
      view = r.at.view id w here;
      going = going (r.now.ended e.thread) refl;
    }
      where
        going : (b : Bool) → r.now.ended e.thread ≡ b → r.now.ended e.thread ≡ false
        going false is = is
        going true is = absurd (not (r.at.ended e.thread under ∙ ap (λ (c : Bool). cond c 1 0) is))

    pub miss_allows : (known : View V → ℕ → Type 0) → (WasGoing m fits guide p w e.thread → known w e.thread)
        → (carried : List (ℕ × VarPart V)) (slots : ℕ)
        → Allows (IsTold m fits guide p) slots id (w, carried) (thread_word m.vars e.thread) (λ i. i)
        (Misses known e (step slots (thread_word m.vars e.thread) 0 0 logic.none) (w, carried))
    miss_allows known to carried slots s r wide here small =
        go (is_or (slice_index s.words (thread_word m.vars e.thread)) 1)
      where
        inside : thread_word m.vars e.thread < length s.words
        inside = thread_in m fits guide p id s r e.thread under

        go : (slice_index s.words (thread_word m.vars e.thread) ≡ 1)
            ⊎ (slice_index s.words (thread_word m.vars e.thread) ≢ 1)
            → (z : View V)
            × (a : Rattle.atomic_table.specs.Table.Act (VarPart V))
            × Rattle.atomic_table.specs.Table.Valid s.homes carried a
            × IsTold m fits guide p
            (stepped s (thread_word m.vars e.thread) (slice_index s.words (thread_word m.vars e.thread)) id carried z a)
            × Misses known e (step slots (thread_word m.vars e.thread) 0 0 logic.none) (w, carried)
            (slice_index s.words (thread_word m.vars e.thread))
            (z, Rattle.atomic_table.specs.Table.carried_after carried a)
        go (inl one) = (
          missed_view w e,
          keeps,
          tt,
          subst (λ (ws : List ℕ). IsTold m fits guide p
              (record { words = ws; homes = s.homes; views = slice_set s.views id (missed_view w e) }))
              (sym (set_again s.words (thread_word m.vars e.thread) (slice_index s.words (thread_word m.vars e.thread))
              (at_word s.words (thread_word m.vars e.thread) inside))) (miss_told s r here one),
          ((λ _. refl), λ not. absurd (not one)),
        )
        go (inr not) = (
          w,
          keeps,
          tt,
          subst (λ (q : State (VarPart V) (View V)). IsTold m fits guide p q)
              (sym (same_state m fits guide p id s w carried (thread_word m.vars e.thread) inside here)) r,
          ((λ one. absurd (not one)), λ _. (refl, to (going_at s r here not))),
        )
