-- A thread that was held up in a round waits still in the world after it.
use Rattle.std.proofs.Common.{◌≡◌, ℕ, ◌+◌, ◌<◌, ◌≤◌, ◌⊎◌, Bool, true, false, List, Option, Some, None}
use Rattle.std.proofs.Common.{refl, sym, ◌∙◌, subst, inl, inr, arith}
use Rattle.std.specs.Prelude.{slice_index}
use Rattle.entry_order.specs.declared.what.What.{What}
use Rattle.entry_order.specs.declared.what.What.TheVariants.{Access, Read}
use Rattle.entry_order.specs.Log.{Entry, entries, places, IsIn}
use Rattle.entry_order.proofs.Joins.{stamp_there}
use Rattle.access_log.specs.Held.{Lane}
use Rattle.plain_machine.specs.declared.local.Move.{Move}
use Rattle.plain_machine.specs.Machine.{Hand}
use Rattle.plain_machine.specs.History.{log_of, entry_of, thread_after}
use Rattle.recovery_world.specs.declared.event.Event.TheVariants as event
use Rattle.recovery_world.specs.declared.event.Outcome.{Outcome}
use Rattle.recovery_world.specs.World.{Setting, World, inputs_fed}
use Rattle.recovery_world.specs.Turns.{IsAwaited, HasTurn, HandHasTurn}
use Rattle.recovery_world.specs.Events.{OnStep}
use Rattle.recovery_laws.specs.Sound.{Sound}
use Rattle.recovery_laws.proofs.EntriesToCome.{later_place, later_read, may_touch, may_read}
use Rattle.recovery_laws.proofs.EventOutcomes.{on_there}
use Rattle.replay_guide.specs.Following.{Follows}
use Rattle.replay_guide.specs.Turns.{WaitsFor, IsFirstPending, NoneIsPending}
use Rattle.replay_guide.specs.Worlds.{Guides}
use Rattle.replay_guide.proofs.WorldTurns.{next_followed, line_log, line_good, past_good, past_kept, followed_kept}
use Rattle.round_order.specs.Receipts.{Receipt, Receipts, Among, IsLogged, after}
use Rattle.round_order.specs.Linked.{IsLinked}
use Rattle.round_order.specs.Woven.{IsOrder}
use Rattle.round_order.proofs.LoggedMoves.{in_after}
use Rattle.round_order.proofs.OwnReceipts.{among_own}
use Rattle.var_locks.specs.TouchedParts.{wanted_move}
use Rattle.round_events.specs.Leading.{AllKeep, world_after}
use Rattle.round_events.specs.Waiting.{IsNotMade, IsHeldUp, StepWaits}
use Rattle.round_events.proofs.Leading.{receipts_are_events, still_guides}

-- an entry by what it did
abbrev done_by : ℕ → ℕ → What → Entry
done_by u k what = record { thread = u; number = k; what = what }

module _ {V : Type 0} (s : Setting V) (w : World V) (guide : List Lane) (sound : Sound s w)
    (guides : Guides w.followed (log_of w.past) guide) (t v : ℕ) (read : Bool) (found : ℕ) (readers : List ℕ) (u k : ℕ)
    (waits : WaitsFor guide t (entries t (log_of w.past) + 1) v read found readers u k)
    (touched : found ≤ places v (log_of w.past))
    (absent : (what : What) → Follows guide u k what → IsIn (done_by u k what) (log_of w.past) → ⊥) where
  abbrev log : List Entry
  log = log_of w.past

  -- how often the variable is touched by now
  abbrev count : ℕ
  count = places v (log_of w.past)

  -- what the thread waits for, where the variable was touched so often
  abbrev Which : ℕ → Type 0
  Which n =
      ((read ≡ false) × IsFirstPending guide v n readers u k)
      ⊎ (NoneIsPending guide v read n readers × Follows guide u k (Access v (n + 1))
      × ((u ≡ t) × (k ≡ entries t (log_of w.past) + 1) → ⊥))

  -- the entry is still to be followed
  followed : (what : What) → Follows guide u k what → IsIn (done_by u k what) w.followed
  followed what follows = (guides (done_by u k what) (absent what follows)).1 follows

  to_come : (what : What) → Follows guide u k what → IsIn (done_by u k what) sound.firm.more
  to_come what follows = (sound.firm.to_come (done_by u k what)).1 (followed what follows, absent what follows)

  -- so the variable was not touched since it was found
  same : found ≡ count
  same = go waits.which
    where
      go : Which found → found ≡ count
      go (inl (is, first)) =
          let come = to_come (Read v found) first.pending.0 in
          let up : count ≤ found =
          later_read sound.firm.more log sound.firm.log (done_by u k (Read v found)) v found come refl in
          omega (arith, up, touched)
      go (inr (none, follows, other)) =
          let come = to_come (Access v (found + 1)) follows in
          let up : count < found + 1 =
          later_place sound.firm.more log sound.firm.log (done_by u k (Access v (found + 1))) v (found + 1) come refl in
          omega (arith, up, touched)

  still : WaitsFor guide t (entries t (log_of w.past) + 1) v read count readers u k
  still = subst (λ (n : ℕ). WaitsFor guide t (entries t (log_of w.past) + 1) v read n readers u k) same waits

  not_own : IsIn (entry_of t log (Read v count)) w.followed → ⊥
  not_own here =
      let line = line_good s w sound in
      let past = past_good s w sound in
      let kept = past_kept s w sound in
      let of_line = followed_kept s w sound in
      let own = next_followed (line_log s w sound) log w.followed guide line past kept of_line guides in
      still.not_own_read ((own t (Read v count)).0 here)

  -- and the thread awaits an entry
  awaits : (b : Bool) → read ≡ b → ((e : Entry) → IsAwaited w.followed log t v b e → ⊥) → ⊥
  awaits false is turn = go still.which
    where
      go : Which count → ⊥
      go (inl (touch, first)) =
          let follows = first.pending.0 in
          (may_touch w.followed log t v not_own turn).0 (done_by u k (Read v count))
          (followed (Read v count) follows, refl, absent (Read v count) follows)
      go (inr (none, follows, other)) =
          (may_touch w.followed log t v not_own turn).1 (done_by u k (Access v (count + 1)))
          (followed (Access v (count + 1)) follows, refl) other
  awaits true is turn = go still.which
    where
      go : Which count → ⊥
      go (inl (touch, first)) = let both : true ≡ false = sym is ∙ touch in cc
      go (inr (none, follows, other)) =
          may_read w.followed log t v not_own turn (done_by u k (Access v (count + 1)))
          (followed (Access v (count + 1)) follows, refl) other

  no_turn : (b : Bool) → read ≡ b → HasTurn w.followed log t (wanted_move v b) → ⊥
  no_turn false is turn = awaits false is turn
  no_turn true is turn = awaits true is turn

  module _ (low : t < s.threads) (up : w.up ≡ true) (h : Hand) (hand : (thread_after w.past t).hand ≡ Some h)
      (next : s.meaning.next h.place ≡ wanted_move v read) where
    no_hand_turn : HandHasTurn s.meaning w.followed log t (thread_after w.past t).hand → ⊥
    no_hand_turn turn =
        let in_hand : HasTurn w.followed log t (s.meaning.next h.place) =
        subst (λ (o : Option Hand). HandHasTurn s.meaning w.followed log t o) hand turn in
        no_turn read refl (subst (λ (n : Move). HasTurn w.followed log t n) next in_hand)

    -- A step of it waits.
    pub step_waits : (given : Option ℕ) → StepWaits s w t given
    step_waits given = let r = on_there s w sound (event.Step t given) refl in go r.0 r.2 r.3.0
      where
        go : (to : Outcome) (new : World V) → OnStep s w t given to new → StepWaits s w t given
        go to new (inl (high, nothing, stays)) = absurd (omega (arith, low, high))
        go to new (inr (inl (under, down, is_down, stays))) = let both : true ≡ false = sym up ∙ down in absurd (cc)
        go to new (inr (inr (inl (under, is_up, (none, no_more), idle, stays)))) =
            let both : Some h ≡ None = sym hand ∙ none in absurd (cc)
        go to new (inr (inr (inr (inl (under, is_up, held, stays))))) = (
          held.entry.thread,
          held.entry.number,
          (
            inr (inr (inr (inl (
              low,
              up,
              record {
                hand = held.hand;
                hand_is = held.hand_is;
                entry = held.entry;
                awaits = held.awaits;
                to_is = refl;
              },
              refl,
            )))),
            refl,
          ),
        )
        go to new (inr (inr (inr (inr (under, is_up, moves))))) = absurd (no_hand_turn moves.turn)

module _ {V : Type 0} (s : Setting V) (w : World V) (guide : List Lane) (rs : Receipts V) (few : s.threads ≤ 16)
    (sound : Sound s w) (guides : Guides w.followed (log_of w.past) guide)
    (linked : IsLinked s.meaning (inputs_fed s w.fed) s.threads w.past rs) (order : List (Receipt V))
    (is : IsOrder rs order) where
  -- what is not made is not in the log after the round
  absent_after : (u k : ℕ) → IsNotMade guide w.past rs u k → (what : What) → Follows guide u k what
      → IsIn (done_by u k what) (log_of (after order w.past)) → ⊥
  absent_after u k missing what follows here = go (in_after order w.past (done_by u k what) here)
    where
      go : IsIn (done_by u k what) (log_of w.past) ⊎ ((x : Receipt V) × Among x order × IsLogged x (done_by u k what))
          → ⊥
      go (inl old) =
          let st = stamp_there (log_of w.past) (done_by u k what) (past_good s w sound) old in
          missing what st.0 follows (inr (old, st.1))
      go (inr (x, among, logged)) =
          let mine : Among x (rs x.step.thread) =
          subst (λ (l : List (Receipt V)). Among x l) (is.each x.step.thread) (among_own order x among) in
          missing what (λ i. slice_index x.stamp i) follows (inl (x, mine, logged, λ i. refl))

  pub missed_still_wait : AllKeep guide order → (t u k : ℕ) (given : Option ℕ) → t < s.threads → w.up ≡ true
      → IsNotMade guide w.past rs u k → IsHeldUp s.meaning guide (after order w.past) t u k
      → StepWaits s (world_after w order) t given
  missed_still_wait keep t u k given low up missing held =
      let sound_after = (receipts_are_events s w guide rs few sound guides linked order is keep).1 in
      let guides_after = still_guides s w guide rs few sound guides linked order in
      step_waits s (world_after w order) guide sound_after guides_after t held.var held.read held.found held.readers u k
      held.waits held.touched (absent_after u k missing) low up held.hand held.hand_is held.next given
