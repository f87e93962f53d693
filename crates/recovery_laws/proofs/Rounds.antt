-- The threads go on in rounds until none moves in one, packets coming in between: they are idle then.
use Rattle.std.proofs.Common.{◌≡◌, ℕ, zero, suc, ◌+◌, ◌≤◌, ◌<◌, ◌≢◌, Bool, true, false, List, [], length, refl, sym, ap}
use Rattle.std.proofs.Common.{◌∙◌, subst, inl, inr, ◌⊎◌, arith, Option, Some, None}
use Rattle.std.specs.Prelude.{◌||◌, nat_lt, min}
use Rattle.std.proofs.lemmas.Bool.Decides.{nat_tests}
use Rattle.std.proofs.lemmas.Grind.{common_steps}
use Rattle.plain_text.specs.declared.limit.Limit.{Limit}
use Rattle.plain_text.specs.declared.limit.TheConstants.{MOST_MOVES}
use Rattle.entry_order.specs.declared.what.What.{What}
use Rattle.entry_order.specs.declared.what.What.TheVariants as what
use Rattle.entry_order.specs.Log.{Entry, entries, places, IsLog, IsNext}
use Rattle.entry_order.specs.Closed.{IsNoLater}
use Rattle.entry_order.proofs.Order.{is_or, place_within}
use Rattle.plain_machine.specs.declared.local.Move.{Move}
use Rattle.plain_machine.specs.declared.local.Move.TheVariants as move
use Rattle.plain_machine.specs.History.{Act, Took, Did, Emitted, Ended, log_of}
use Rattle.plain_machine.proofs.Histories.{history_log}
use Rattle.recovery_world.specs.declared.event.Event.TheVariants as event
use Rattle.recovery_world.specs.declared.event.Outcome.{Outcome}
use Rattle.recovery_world.specs.World.{Setting, Sent, World, inputs_fed}
use Rattle.recovery_world.specs.Turns.{IsReadToCome, IsTouchToCome, IsAwaited, Awaits}
use Rattle.recovery_world.specs.Events.{move_outcome, entry_outcome, MakesMove, WantsMore, OnStep, On}
use Rattle.recovery_world.specs.Finish.{IsToCome}
use Rattle.recovery_world.specs.Limits.{limit_passed, OnWithin}
use Rattle.recovery_world.specs.Strategies.{Choice, Follows, Ends, Halts, Goes}
use Rattle.recovery_world.specs.Many.{Phase, Wakes, Steps, Arrives, Chooses, rests, turn_at, after_step, all_messages}
use Rattle.recovery_world.specs.Many.{at_rest, goes_on}
use Rattle.recovery_laws.specs.Sound.{Sound}
use Rattle.recovery_laws.proofs.KeptWorlds.{within_sound}
use Rattle.recovery_laws.proofs.SoundParts.{to_come_first, to_come_thread, followed_moves}

-- Whose turn it is

pub lt_true : (t n : ℕ) → t < n → nat_lt t n ≡ true
lt_true t n low = grind (arith, nat_tests, low)

pub lt_false : (t n : ℕ) → n ≤ t → nat_lt t n ≡ false
lt_false t n high = grind (arith, nat_tests, high)

or_true : (b : Bool) → (b || true) ≡ true
or_true true = refl
or_true false = refl

pub turn_low : (n left t : ℕ) (moved : Bool) → t < n → turn_at n left t moved ≡ Steps left t moved
turn_low n left t moved low = let b : nat_lt t n ≡ true = lt_true t n low in rw b refl

pub turn_still : (n left t : ℕ) → turn_at n left t false ≡ Steps left t false
turn_still n left t = rw (or_true (nat_lt t n)) refl

pub turn_again : (n left : ℕ) → turn_at n left n true ≡ Steps left 0 false
turn_again n left = let b : nat_lt n n ≡ false = lt_false n n (omega arith) in rw b refl

pub lt_or_last : (t n : ℕ) → t ≤ n → (t < n) ⊎ (t ≡ n)
lt_or_last t n few = go (is_or t n)
  where
    go : (t ≡ n) ⊎ (t ≢ n) → (t < n) ⊎ (t ≡ n)
    go (inl same) = inr same
    go (inr other) = inl (omega (arith, few, other))

-- A move is no rest.

entry_moves : (n : ℕ) (e : What) → rests (entry_outcome n e) ≡ false
entry_moves n (what.Access v place) = refl
entry_moves n (what.Read v after) = refl
entry_moves n (what.Clock a) = refl
entry_moves n (what.Draw a) = refl

move_moves : {V : Type 0} (a : Act V) → rests (move_outcome a) ≡ false
move_moves (Took k) = refl
move_moves (Did e left) = entry_moves e.number e.what
move_moves (Emitted o) = refl
move_moves (Ended k) = refl

-- a step that is a rest leaves the world, and another is one move
pub step_kind : {V : Type 0} (s : Setting V) (w mid : World V) (t : ℕ) (to : Outcome) → t < s.threads → w.up ≡ true
    → OnStep s w t None to mid
    → ((rests to ≡ true) × (mid ≡ w)) ⊎ ((rests to ≡ false) × (mid.moves ≡ w.moves + 1) × (mid.up ≡ true))
step_kind s w mid t to low up (inl a) = absurd (omega (arith, low, a.0))
step_kind s w mid t to low up (inr (inl a)) = let p : w.up ≡ false = a.1 in absurd (cc)
step_kind s w mid t to low up (inr (inr (inl a))) = inl (ap rests a.3, a.4)
step_kind s w mid t to low up (inr (inr (inr (inl a)))) = inl (ap rests a.2.to_is, a.3)
step_kind {V} s w mid t to low up (inr (inr (inr (inr a)))) =
    inr (
      subst (λ (o : Outcome). rests o ≡ false) (sym a.2.to_is) (move_moves a.2.step.act),
      ap (λ (z : World V). z.moves) a.2.new_is,
      ap (λ (z : World V). z.up) a.2.new_is ∙ up,
    )

-- a world within the limits has no more moves than there may be
pub few_moves : (moves bytes : ℕ) → limit_passed moves bytes ≡ None → moves ≤ MOST_MOVES
few_moves moves bytes is = grind (arith, common_steps)

module _ {V : Type 0} (s : Setting V) where
  pub steps_next : (left t : ℕ) (moved : Bool) (w : World V) → t < s.threads
      → goes_on s (Steps left t moved) w
      ≡ Some (record { event = event.Step t None; leads_to = after_step s.threads left t moved })
  steps_next left t moved w low = let b : nat_lt t s.threads ≡ true = lt_true t s.threads low in rw b refl

  pub rests_next : (left t : ℕ) (moved : Bool) (w : World V) → t ≡ s.threads
      → goes_on s (Steps left t moved) w ≡ at_rest s w left
  rests_next left t moved w is =
      let b : nat_lt t s.threads ≡ false = lt_false t s.threads (omega (arith, is)) in rw b refl

  -- the thread makes no move in this world
  pub record StaysAt (w : World V) (t : ℕ) : Type 0 where
    pub to : Outcome
    pub on : On s w (event.Step t None) to [] w
    pub at_rest : rests to ≡ true

  -- a step that made no move leaves the world as it was
  pub no_move : (w mid : World V) (t : ℕ) (to : Outcome) → OnStep s w t None to mid → rests to ≡ true → mid ≡ w
  no_move w mid t to (inl a) r = a.2
  no_move w mid t to (inr (inl a)) r = a.3
  no_move w mid t to (inr (inr (inl a))) r = a.4
  no_move w mid t to (inr (inr (inr (inl a)))) r = a.3
  no_move w mid t to (inr (inr (inr (inr a)))) r =
      let m : rests to ≡ false = subst (λ (o : Outcome). rests o ≡ false) (sym a.2.to_is) (move_moves a.2.step.act) in
      absurd (cc)

  step_fed : (w new : World V) (t : ℕ) (to : Outcome) → OnStep s w t None to new → (new.fed ≡ w.fed) × (new.up ≡ w.up)
  step_fed w new t to (inl a) = (ap (λ (z : World V). z.fed) a.2, ap (λ (z : World V). z.up) a.2)
  step_fed w new t to (inr (inl a)) = (ap (λ (z : World V). z.fed) a.3, ap (λ (z : World V). z.up) a.3)
  step_fed w new t to (inr (inr (inl a))) = (ap (λ (z : World V). z.fed) a.4, ap (λ (z : World V). z.up) a.4)
  step_fed w new t to (inr (inr (inr (inl a)))) = (ap (λ (z : World V). z.fed) a.3, ap (λ (z : World V). z.up) a.3)
  step_fed w new t to (inr (inr (inr (inr a)))) =
      (ap (λ (z : World V). z.fed) a.2.new_is, ap (λ (z : World V). z.up) a.2.new_is)

  one_fed : (w mid : World V) (to : Outcome) (freed : List Sent) → On s w (event.Feed 1) to freed mid
      → w.fed < length s.packets → mid.fed ≡ w.fed + 1
  one_fed w mid to freed on some =
      let f : mid.fed ≡ min (w.fed + 1) (length s.packets) = ap (λ (z : World V). z.fed) on.2 in omega (arith, f, some)

  -- Where no thread moves, each is idle

  module _ (w : World V) (h : Sound s w) (up : w.up ≡ true) (stay : (u : ℕ) → u < s.threads → StaysAt w u) where
    pub none_to_come : (f : Entry) → IsToCome w f → ⊥
    none_to_come f come = go (to_come_first s w h f come)
      where
        go : (g : Entry) × IsToCome w g × ((e : Entry) → IsToCome w e → IsNext e g → ⊥) → ⊥
        go (g, there, first) =
            let m : true ≡ false =
            sym k.at_rest ∙ subst (λ (o : Outcome). rests o ≡ false) (sym made.to_is) (move_moves made.step.act) in
            cc
          where
            k : StaysAt w g.thread
            k = stay g.thread (to_come_thread s w h g there)

            made : MakesMove s w g.thread None k.to w
            made = followed_moves s w g h there first up None k.to w k.on.0

    past_log : IsLog (log_of w.past)
    past_log = history_log s.meaning (inputs_fed s w.fed) s.threads w.past h.firm.legal

    awaited_to_come : (t v : ℕ) (reads : Bool) (e : Entry) → IsAwaited w.followed (log_of w.past) t v reads e
        → IsToCome w e
    awaited_to_come t v reads e a = pick a.which
      where
        pick : ((reads ≡ false)
            × IsReadToCome w.followed (log_of w.past) v e
            × ((f : Entry) → IsReadToCome w.followed (log_of w.past) v f → IsNoLater e f))
            ⊎ ((reads ≡ false → (f : Entry) → IsReadToCome w.followed (log_of w.past) v f → ⊥)
            × IsTouchToCome w.followed (log_of w.past) v e
            × ((e.thread ≡ t) × (e.number ≡ entries t (log_of w.past) + 1) → ⊥)) → IsToCome w e
        pick (inl r) = (r.1.0, r.1.2)
        pick (inr r) = (
          r.1.0,
          λ i.
              let p = place_within (log_of w.past) e v (places v (log_of w.past) + 1) past_log i r.1.1 in
              absurd (omega (arith, p.1)),
        )

    to_come : (t : ℕ) (next : Move) (e : Entry) → Awaits w.followed (log_of w.past) t next e → IsToCome w e
    to_come t (move.Access v) e a = awaited_to_come t v false e a
    to_come t (move.Read v) e a = awaited_to_come t v true e a
    to_come t move.Clock e a = absurd a
    to_come t move.Draw e a = absurd a
    to_come t move.Emit e a = absurd a
    to_come t move.End e a = absurd a

    pub idle : (u : ℕ) → u < s.threads → WantsMore s w u
    idle u low = pick k.on.0
      where
        k : StaysAt w u
        k = stay u low

        pick : OnStep s w u None k.to w → WantsMore s w u
        pick (inl a) = absurd (omega (arith, low, a.0))
        pick (inr (inl a)) = let p : w.up ≡ false = a.1 in absurd (cc)
        pick (inr (inr (inl a))) = a.2
        pick (inr (inr (inr (inl a)))) =
            absurd (none_to_come a.2.entry (to_come u (s.meaning.next a.2.hand.place) a.2.entry a.2.awaits))
        pick (inr (inr (inr (inr a)))) =
            let m : rests k.to ≡ false =
            subst (λ (o : Outcome). rests o ≡ false) (sym a.2.to_is) (move_moves a.2.step.act) in
            let p : rests k.to ≡ true = k.at_rest in absurd (cc)

  -- A round that is under way, where so many packets are to have come in at the end.
  record Turn (total : ℕ) (w : World V) (left t : ℕ) (moved : Bool) : Type 0 where
    few : t ≤ s.threads
    last : t ≡ s.threads → moved ≡ false
    still : moved ≡ false → (u : ℕ) → u < t → StaysAt w u
    up : w.up ≡ true
    sound : Sound s w
    fed : left + w.fed ≡ total

  -- Where it ends: no thread moves, all packets have come in, and all that was made arrives.
  pub record Rested (total : ℕ) (new : World V) : Type 0 where
    pub ran : World V
    pub fed : ran.fed ≡ total
    pub up : ran.up ≡ true
    pub sound : Sound s ran
    pub stay : (u : ℕ) → u < s.threads → StaysAt ran u
    pub arrive : Follows s (goes_on s) (Arrives (all_messages s ran)) ran None new

  first_turn : (total : ℕ) (w : World V) (left : ℕ) → w.up ≡ true → Sound s w → left + w.fed ≡ total
      → Turn total w left 0 false
  first_turn total w left up h fed = record {
    few = omega arith;
    last = λ e. refl;
    still = λ e u low. absurd (omega (arith, low));
    up = up;
    sound = h;
    fed = fed;
  }

  abbrev Shows : ℕ → Phase → World V → World V → Type 0
  Shows total Wakes w new = Unit {0}
  Shows total (Steps left t moved) w new = Turn total w left t moved → Rested total new
  Shows total (Arrives messages) w new = Unit {0}
  Shows total (Chooses seed k n) w new = Unit {0}

  resting : (total : ℕ) (w new : World V) (t : ℕ) (moved : Bool) → t ≡ s.threads → Turn total w 0 t moved
      → Follows s (goes_on s) (Arrives (all_messages s w)) w None new → Rested total new
  resting total w new t moved is b f = record {
    ran = w;
    fed = let e = b.fed in omega (arith, e);
    up = b.up;
    sound = b.sound;
    stay = λ u low. b.still (b.last is) u (omega (arith, low, is));
    arrive = f;
  }

  -- a thread that made no move gives its turn to the next
  next_turn : (total : ℕ) (w new : World V) (left t : ℕ) (moved : Bool) → t < s.threads → Turn total w left t moved
      → StaysAt w t → Shows total (turn_at s.threads left (t + 1) moved) w new → Rested total new
  next_turn total w new left t moved low b stays shown =
      go moved b.still (lt_or_last (t + 1) s.threads (omega (arith, low))) shown
    where
      next : (m : Bool) → (m ≡ false → (u : ℕ) → u < t → StaysAt w u) → (t + 1 ≡ s.threads → m ≡ false)
          → Turn total w left (t + 1) m
      next m still last =
          record { few = omega (arith, low); last = last; still = stay; up = b.up; sound = b.sound; fed = b.fed }
        where
          stay : m ≡ false → (u : ℕ) → u < t + 1 → StaysAt w u
          stay e u less = pick (is_or u t)
            where
              pick : (u ≡ t) ⊎ (u ≢ t) → StaysAt w u
              pick (inl at) = subst (λ (i : ℕ). StaysAt w i) (sym at) stays
              pick (inr other) = still e u (omega (arith, less, other))

      go : (m : Bool) → (m ≡ false → (u : ℕ) → u < t → StaysAt w u) → (t + 1 < s.threads) ⊎ (t + 1 ≡ s.threads)
          → Shows total (turn_at s.threads left (t + 1) m) w new → Rested total new
      go m still (inl less) k = (subst (λ (q : Phase). Shows total q w new) (turn_low s.threads left (t + 1) m less) k)
          (next m still (λ e. absurd (omega (arith, less, e))))
      go false still (inr is) k = (subst (λ (q : Phase). Shows total q w new) (turn_still s.threads left (t + 1)) k)
          (next false still (λ e. refl))
      go true still (inr is) k =
          (subst (λ (q : Phase). Shows total q w new)
          (ap (λ (i : ℕ). turn_at s.threads left i true) is ∙ turn_again s.threads left) k)
          (first_turn total w left b.up b.sound b.fed)

  ends : (total : ℕ) (q : Phase) (w : World V) → goes_on s q w ≡ None → Shows total q w w
  ends total Wakes w none = tt
  ends total (Arrives messages) w none = tt
  ends total (Chooses seed k n) w none = tt
  ends total (Steps left t moved) w none = λ b. pick left none b (lt_or_last t s.threads b.few)
    where
      pick : (left : ℕ) → goes_on s (Steps left t moved) w ≡ None → Turn total w left t moved
          → (t < s.threads) ⊎ (t ≡ s.threads) → Rested total w
      pick left none b (inl low) = let e = sym (steps_next left t moved w low) ∙ none in absurd (cc)
      pick zero none b (inr is) =
          resting total w w t moved is b (Ends (Arrives (all_messages s w)) w (sym (rests_next 0 t moved w is) ∙ none))
      pick (suc k) none b (inr is) = let e = sym (rests_next (suc k) t moved w is) ∙ none in absurd (cc)

  goes : (total : ℕ) → total ≤ length s.packets → (q : Phase) (w mid new : World V) (c : Choice Phase) (to : Outcome)
      (freed : List Sent) → goes_on s q w ≡ Some c → OnWithin s w c.event to freed mid
      → Follows s (goes_on s) (c.leads_to to) mid None new → Shows total (c.leads_to to) mid new → Shows total q w new
  goes total most Wakes w mid new c to freed some on rest shown = tt
  goes total most (Arrives messages) w mid new c to freed some on rest shown = tt
  goes total most (Chooses seed k n) w mid new c to freed some on rest shown = tt
  goes total most (Steps left t moved) w mid new c to freed some on rest shown =
      λ b. pick left some b (lt_or_last t s.threads b.few)
    where
      pick : (left : ℕ) → goes_on s (Steps left t moved) w ≡ Some c → Turn total w left t moved
          → (t < s.threads) ⊎ (t ≡ s.threads) → Rested total new
      pick zero some b (inr is) = resting total w new t moved is b
          (Goes (Arrives (all_messages s w)) w c to freed (sym (rests_next 0 t moved w is) ∙ some) on rest)
      pick (suc k) some b (inr is) =
          (subst (λ (x : Choice Phase). Shows total (x.leads_to to) mid new) is_feed shown) (first_turn total mid k
          (ap (λ (z : World V). z.up) on_feed.0.2 ∙ b.up) (within_sound s w (event.Feed 1) to freed mid b.sound on_feed)
          (let f = one_fed w mid to freed on_feed.0 some_left in let e = b.fed in omega (arith, e, f)))
        where
          is_feed : c ≡ record { event = event.Feed 1; leads_to = λ to. Steps k 0 false }
          is_feed = let j = sym some ∙ rests_next (suc k) t moved w is in cc

          on_feed : OnWithin s w (event.Feed 1) to freed mid
          on_feed = subst (λ (x : Choice Phase). OnWithin s w x.event to freed mid) is_feed on

          some_left : w.fed < length s.packets
          some_left = let e = b.fed in omega (arith, e, most)
      pick left some b (inl low) = step (rests to) refl
        where
          is_step : c ≡ record { event = event.Step t None; leads_to = after_step s.threads left t moved }
          is_step = let j = sym some ∙ steps_next left t moved w low in cc

          on_step : OnWithin s w (event.Step t None) to freed mid
          on_step = subst (λ (x : Choice Phase). OnWithin s w x.event to freed mid) is_step on

          after : Shows total (after_step s.threads left t moved to) mid new
          after = subst (λ (x : Choice Phase). Shows total (x.leads_to to) mid new) is_step shown

          step : (r : Bool) → rests to ≡ r → Rested total new
          step false r = (subst (λ (q : Phase). Shows total q mid new)
              (let e : after_step s.threads left t moved to ≡ Steps left t true = rw r refl in e) after) (record {
                few = b.few;
                last = λ e. absurd (omega (arith, low, e));
                still = λ e. absurd (cc);
                up = (step_fed w mid t to on_step.0.0).1 ∙ b.up;
                sound = within_sound s w (event.Step t None) to freed mid b.sound on_step;
                fed = let f = (step_fed w mid t to on_step.0.0).0 in let e = b.fed in omega (arith, e, f);
              })
          step true r = next_turn total w new left t moved low b (record {
            to = to;
            on = (subst (λ (z : World V). OnStep s w t None to z) same on_step.0.0, refl);
            at_rest = r;
          })
              (subst (λ (z : World V). Shows total (turn_at s.threads left (t + 1) moved) z new) same
              (subst (λ (q : Phase). Shows total q mid new)
              (let e : after_step s.threads left t moved to ≡ turn_at s.threads left (t + 1) moved = rw r refl in e)
              after))
            where
              same : mid ≡ w
              same = no_move w mid t to on_step.0.0 r

  shown : (total : ℕ) → total ≤ length s.packets → (q : Phase) (w new : World V) (end : Option Limit)
      → Follows s (goes_on s) q w end new → end ≡ None → Shows total q w new
  shown total most q w new end (Ends p same none) is = ends total q w none
  shown total most q w new end (Halts p same c limit some passes) is = absurd (cc)
  shown total most q w new end (Goes {mid = mid} p same c to freed some on rest) is =
      goes total most q w mid new c to freed some on
      (subst (λ (e : Option Limit). Follows s (goes_on s) (c.leads_to to) mid e new) is rest)
      (shown total most (c.leads_to to) mid new end rest is)

  -- From the first turn, where the master is up.
  pub comes_to_rest : (total : ℕ) (w new : World V) (left : ℕ) → total ≤ length s.packets → Sound s w → w.up ≡ true
      → left + w.fed ≡ total → Follows s (goes_on s) (Steps left 0 false) w None new → Rested total new
  comes_to_rest total w new left most h up fed f =
      (shown total most (Steps left 0 false) w new None f refl) (first_turn total w left up h fed)
