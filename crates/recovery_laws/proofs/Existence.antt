-- Every event of a script comes to something or stops at a limit, from each sound world within the limits: a strategy
-- has an end.
use Rattle.std.proofs.Common.{◌≡◌, ℕ, zero, suc, ◌+◌, ◌-◌, ◌*◌, ◌/◌, ◌%◌, ◌≤◌, ◌<◌, Bool, true, false, List, [], ◌∷◌}
use Rattle.std.proofs.Common.{length, refl, sym, ap, ◌∙◌, subst, inl, inr, ◌⊎◌, arith, Option, Some, None, cond}
use Rattle.std.specs.Prelude.{nat_lt, min, max, if◌then◌else◌}
use Rattle.random_words.specs.Words.{word_of}
use Rattle.entry_order.specs.Log.{entries}
use Rattle.plain_machine.specs.History.{log_of, sent_of, outputs}
use Rattle.std.proofs.lemmas.Bool.Decides.{nat_tests}
use Rattle.plain_text.specs.declared.limit.Limit.{Limit}
use Rattle.plain_text.specs.declared.limit.TheConstants.{MOST_MOVES}
use Rattle.plain_text.specs.declared.kind.Kind.{Kind}
use Rattle.plain_text.specs.declared.kind.Kind.TheVariants as kind
use Rattle.recovery_world.specs.declared.event.Event.{Event}
use Rattle.recovery_world.specs.declared.event.Event.TheVariants as event
use Rattle.recovery_world.specs.declared.event.Outcome.{Outcome}
use Rattle.recovery_world.specs.World.{Setting, Sent, World}
use Rattle.recovery_world.specs.Events.{OnRecover, On}
use Rattle.recovery_world.specs.Limits.{limit_passed, IsWithin, OnWithin}
use Rattle.recovery_world.specs.Strategies.{Choice, Follows, Ends, Halts, Goes}
use Rattle.recovery_world.specs.Many.{Message, arrival, arrival_of, Phase, Wakes, Steps, Arrives, Chooses, rests}
use Rattle.recovery_world.specs.Many.{turn_at, after_step, all_messages, auto_event, chosen, goes_on, begins}
use Rattle.recovery_world.specs.Many.{summary_of, OnAny, Single, Several, Stops, SingleStops, SeveralStops}
use Rattle.recovery_laws.specs.Sound.{Sound}
use Rattle.recovery_laws.proofs.KeptWorlds.{within_sound}
use Rattle.recovery_laws.proofs.EventOutcomes.{on_there}
use Rattle.recovery_laws.proofs.Rounds.{lt_or_last, lt_true, turn_low, turn_still, turn_again, steps_next, rests_next}
use Rattle.recovery_laws.proofs.Rounds.{step_kind, few_moves}

module _ {V : Type 0} (s : Setting V) where
  -- the strategy comes to an end, or stops
  abbrev HasEnd : Phase → World V → Type 0
  HasEnd q w = (end : Option Limit) × (new : World V) × Follows s (goes_on s) q w end new

  record Ready (w : World V) : Type 0 where
    sound : Sound s w
    within : IsWithin w
    up : w.up ≡ true

  -- An event that is done by itself: what follows has an end, so this has.
  by_event : (q : Phase) (w : World V) (c : Choice Phase) → Sound s w → goes_on s q w ≡ Some c
      → begins s w c.event ≡ None
      → ((mid : World V) (to : Outcome) (freed : List Sent) → OnWithin s w c.event to freed mid
      → HasEnd (c.leads_to to) mid) → HasEnd q w
  by_event q w c h next alone later = go (on_there s w h c.event alone)
    where
      go : (to : Outcome) × (freed : List Sent) × (mid : World V) × On s w c.event to freed mid → HasEnd q w
      go (to, freed, mid, on) = judge (limit_passed mid.moves mid.bytes) refl
        where
          judge : (l : Option Limit) → limit_passed mid.moves mid.bytes ≡ l → HasEnd q w
          judge None within =
              let r = later mid to freed (on, within) in (r.0, r.1, Goes q w c to freed next (on, within) r.2)
          judge (Some limit) passed = (
            Some limit,
            w,
            Halts q w c limit next (record { to = to; freed = freed; new = mid; on = on; passed = passed }),
          )

  -- Messages arrive

  arrives_alone : (k : Kind) (t n : ℕ) (w : World V) → begins s w (arrival_of k t n) ≡ None
  arrives_alone kind.Log t n w = refl
  arrives_alone kind.Out t n w = refl

  arrivals_end : (messages : List Message) (w : World V) → Sound s w → HasEnd (Arrives messages) w
  arrivals_end [] w h = (None, w, Ends (Arrives []) w refl)
  arrivals_end (m ∷ messages) w h =
      by_event (Arrives (m ∷ messages)) w (record { event = arrival m; leads_to = λ to. Arrives messages }) h refl
      (arrives_alone m.kind m.thread m.number w)
      (λ mid to freed on. arrivals_end messages mid (within_sound s w (arrival m) to freed mid h on))

  -- what is chosen next in two phases alike comes to the same
  same_choice : (q p : Phase) (w : World V) → goes_on s q w ≡ goes_on s p w → HasEnd q w → HasEnd p w
  same_choice q p w same (end, new, Ends x y none) = (None, w, Ends p w (sym same ∙ none))
  same_choice q p w same (end, new, Halts x y c limit some passes) =
      (Some limit, w, Halts p w c limit (sym same ∙ some) passes)
  same_choice q p w same (end, new, Goes x y c to freed some on rest) =
      (end, new, Goes p w c to freed (sym same ∙ some) on rest)

  -- Threads go on

  -- one step of a thread
  step_end : (left t : ℕ) (moved : Bool) (w : World V) → t < s.threads → Ready w
      → HasEnd (turn_at s.threads left (t + 1) moved) w
      → ((mid : World V) → Ready mid → mid.moves ≡ w.moves + 1 → HasEnd (Steps left t true) mid)
      → HasEnd (Steps left t moved) w
  step_end left t moved w low r rest move =
      by_event (Steps left t moved) w
      (record { event = event.Step t None; leads_to = after_step s.threads left t moved }) r.sound
      (steps_next s left t moved w low) refl
      (λ mid to freed on. go mid to freed on (step_kind s w mid t to low r.up on.0.0))
    where
      go : (mid : World V) (to : Outcome) (freed : List Sent) → OnWithin s w (event.Step t None) to freed mid
          → ((rests to ≡ true) × (mid ≡ w)) ⊎ ((rests to ≡ false) × (mid.moves ≡ w.moves + 1) × (mid.up ≡ true))
          → HasEnd (after_step s.threads left t moved to) mid
      go mid to freed on (inl (r, same)) =
          let e : after_step s.threads left t moved to ≡ turn_at s.threads left (t + 1) moved = rw r refl in
          subst (λ (q : Phase). HasEnd q mid) (sym e)
          (subst (λ (z : World V). HasEnd (turn_at s.threads left (t + 1) moved) z) (sym same) rest)
      go mid to freed on (inr (m, more, up)) =
          let e : after_step s.threads left t moved to ≡ Steps left t true = rw m refl in
          subst (λ (q : Phase). HasEnd q mid) (sym e) (move mid
          (record { sound = within_sound s w (event.Step t None) to freed mid r.sound on; within = on.1; up = up })
          more)

  -- how many turns may still come before a thread has moved or all rest
  abbrev turns_left : ℕ → Bool → ℕ
  turns_left t moved = cond moved (s.threads + 1) 0 + (s.threads + 1 - t)

  turns_end : (left : ℕ) (w : World V) → Ready w → ((moved : Bool) → HasEnd (Steps left s.threads moved) w)
      → ((t : ℕ) (mid : World V) → t < s.threads → Ready mid → mid.moves ≡ w.moves + 1 → HasEnd (Steps left t true) mid)
      → (n t : ℕ) (moved : Bool) → t ≤ s.threads → turns_left t moved ≤ n → HasEnd (Steps left t moved) w
  turns_end left w r rest move zero t moved few fuel = absurd (omega (arith, few, fuel))
  turns_end left w r rest move (suc n) t moved few fuel =
      go (lt_or_last t s.threads few) (λ u m high less. turns_end left w r rest move n u m high less)
    where
      go : (t < s.threads) ⊎ (t ≡ s.threads)
          → ((u : ℕ) (m : Bool) → u ≤ s.threads → turns_left u m ≤ n → HasEnd (Steps left u m) w)
          → HasEnd (Steps left t moved) w
      go (inr is) later = subst (λ (i : ℕ). HasEnd (Steps left i moved) w) (sym is) (rest moved)
      go (inl low) later =
          step_end left t moved w low r (turn moved fuel (lt_or_last (t + 1) s.threads (omega (arith, low))))
          (λ mid ready more. move t mid low ready more)
        where
          turn : (m : Bool) → turns_left t m ≤ suc n → (t + 1 < s.threads) ⊎ (t + 1 ≡ s.threads)
              → HasEnd (turn_at s.threads left (t + 1) m) w
          turn m f (inl less) = subst (λ (q : Phase). HasEnd q w) (sym (turn_low s.threads left (t + 1) m less))
              (later (t + 1) m (omega (arith, low)) (omega (arith, f, low)))
          turn false f (inr is) = subst (λ (q : Phase). HasEnd q w) (sym (turn_still s.threads left (t + 1)))
              (later (t + 1) false (omega (arith, low)) (omega (arith, f, low)))
          turn true f (inr is) = subst (λ (q : Phase). HasEnd q w)
              (sym (ap (λ (i : ℕ). turn_at s.threads left i true) is ∙ turn_again s.threads left))
              (later 0 false (omega arith) (omega (arith, f, is)))

  moves_end : (left : ℕ) → ((w : World V) → Ready w → (moved : Bool) → HasEnd (Steps left s.threads moved) w) → (m : ℕ)
      (w : World V) → Ready w → MOST_MOVES - w.moves ≤ m → (t : ℕ) (moved : Bool) → t ≤ s.threads
      → HasEnd (Steps left t moved) w
  moves_end left rest zero w r fuel t moved few =
      turns_end left w r (rest w r)
      (λ u mid low ready more.
      let k = few_moves mid.moves mid.bytes ready.within in absurd (omega (arith, k, more, fuel))) (turns_left t moved)
      t moved few (omega arith)
  moves_end left rest (suc m) w r fuel t moved few =
      turns_end left w r (rest w r)
      (λ u mid low ready more. moves_end left rest m mid ready
      (let k = few_moves mid.moves mid.bytes ready.within in omega (arith, k, more, fuel)) u true (omega (arith, low)))
      (turns_left t moved) t moved few (omega arith)

  feeds_end : (left : ℕ) (w : World V) → Ready w → (t : ℕ) (moved : Bool) → t ≤ s.threads
      → HasEnd (Steps left t moved) w
  feeds_end zero w r t moved few =
      moves_end 0
      (λ z ready b. same_choice (Arrives (all_messages s z)) (Steps 0 s.threads b) z
      (sym (rests_next s 0 s.threads b z refl)) (arrivals_end (all_messages s z) z ready.sound)) (MOST_MOVES - w.moves)
      w r (omega arith) t moved few
  feeds_end (suc k) w r t moved few =
      moves_end (suc k)
      (λ z ready b.
      by_event (Steps (suc k) s.threads b) z (record { event = event.Feed 1; leads_to = λ to. Steps k 0 false })
      ready.sound (rests_next s (suc k) s.threads b z refl) refl (λ mid to freed on. feeds_end k mid (record {
        sound = within_sound s z (event.Feed 1) to freed mid ready.sound on;
        within = on.1;
        up = ap (λ (x : World V). x.up) on.0.2 ∙ ready.up;
      }) 0 false (omega arith))) (MOST_MOVES - w.moves) w r (omega arith) t moved few

  woken : (w up : World V) (to : Outcome) → OnRecover w to up → up.up ≡ true
  woken w up to (inl a) = ap (λ (z : World V). z.up) a.2 ∙ a.0
  woken w up to (inr a) = ap (λ (z : World V). z.up) a.1.new_is

  settling_ends : (w : World V) → Sound s w → HasEnd Wakes w
  settling_ends w h =
      by_event Wakes w (record { event = event.Recover; leads_to = λ to. Steps (length s.packets - w.fed) 0 false }) h
      refl refl
      (λ up to freed on. feeds_end (length s.packets - w.fed) up
      (record { sound = within_sound s w event.Recover to freed up h on; within = on.1; up = woken w up to on.0.0 }) 0
      false (omega arith))

  -- Chosen events

  -- one of six events, each of which is done by itself
  one_alone : (w : World V) (a b c d e : Bool) (x y z u v r : Event) → begins s w x ≡ None → begins s w y ≡ None
      → begins s w z ≡ None → begins s w u ≡ None → begins s w v ≡ None → begins s w r ≡ None
      → begins s w (if a then x else if b then y else if c then z else if d then u else if e then v else r) ≡ None
  one_alone w true b c d e x y z u v r ix iy iz iu iv ir = ix
  one_alone w false true c d e x y z u v r ix iy iz iu iv ir = iy
  one_alone w false false true d e x y z u v r ix iy iz iu iv ir = iz
  one_alone w false false false true e x y z u v r ix iy iz iu iv ir = iu
  one_alone w false false false false true x y z u v r ix iy iz iu iv ir = iv
  one_alone w false false false false false x y z u v r ix iy iz iu iv ir = ir

  auto_alone : (w : World V) (threads : ℕ) (es os : ℕ → ℕ) (a b : ℕ) → begins s w (auto_event threads es os a b) ≡ None
  auto_alone w threads es os a b =
      one_alone w (nat_lt (a % 32) 16) (nat_lt (a % 32) 19) (nat_lt (a % 32) 25) (nat_lt (a % 32) 29)
      (nat_lt (a % 32) 30) (event.Step (b % threads) None) (event.Feed 1)
      (event.Log (b % threads) (max 1 (es (b % threads) - b / 16 % 4)))
      (event.Out (b % threads) (max 1 (os (b % threads) - b / 16 % 4))) event.Snap event.Store refl refl refl refl
      refl refl

  chosen_ends : (seed n many k : ℕ) (w : World V) → k + many ≡ n → Sound s w → HasEnd (Chooses seed k n) w
  chosen_ends seed n zero k w is h =
      (None, w, Ends (Chooses seed k n) w (let b : nat_lt k n ≡ false = grind (arith, nat_tests, is) in rw b refl))
  chosen_ends seed n (suc many) k w is h =
      by_event (Chooses seed k n) w (record { event = chosen s seed k w; leads_to = λ to. Chooses seed (k + 1) n }) h
      (let b : nat_lt k n ≡ true = lt_true k n (omega (arith, is)) in rw b refl)
      (auto_alone w s.threads (λ t. entries t (log_of w.past)) (λ t. outputs t (sent_of w.past)) (word_of seed (2 * k))
      (word_of seed (2 * k + 1)))
      (λ mid to freed on.
      chosen_ends seed n many (k + 1) mid (omega (arith, is)) (within_sound s w (chosen s seed k w) to freed mid h on))

  -- Every event

  abbrev ComesTo : World V → Event → Type 0
  ComesTo w ev =
      ((to : Outcome) × (freed : List Sent) × (new : World V) × OnAny s w ev to freed new)
      ⊎ ((limit : Limit) × (new : World V) × Stops s w ev limit new)

  several : (w : World V) (ev : Event) (q : Phase) → begins s w ev ≡ Some q → HasEnd q w → ComesTo w ev
  several w ev q at (None, new, f) = inl (summary_of w new, [], new, Several ev q (summary_of w new) new at f refl)
  several w ev q at (Some limit, new, f) = inr (limit, new, SeveralStops ev q limit new at f)

  alone : (w : World V) (ev : Event) → Sound s w → begins s w ev ≡ None → ComesTo w ev
  alone w ev h none = go (on_there s w h ev none)
    where
      go : (to : Outcome) × (freed : List Sent) × (new : World V) × On s w ev to freed new → ComesTo w ev
      go (to, freed, new, on) = judge (limit_passed new.moves new.bytes) refl
        where
          judge : (l : Option Limit) → limit_passed new.moves new.bytes ≡ l → ComesTo w ev
          judge None within = inl (to, freed, new, Single ev to freed new (on, within))
          judge (Some limit) passed = inr
              (limit, w, SingleStops ev limit (record { to = to; freed = freed; new = new; on = on; passed = passed }))

  pub comes_to : (w : World V) (ev : Event) → Sound s w → IsWithin w → ComesTo w ev
  comes_to w event.Settle h low = several w event.Settle Wakes refl (settling_ends w h)
  comes_to w (event.Auto seed n) h low =
      several w (event.Auto seed n) (Chooses seed 0 n) refl (chosen_ends seed n n 0 w (omega arith) h)
  comes_to w (event.Flow n) h low = go w.up refl
    where
      go : (b : Bool) → w.up ≡ b → ComesTo w (event.Flow n)
      go false down = alone w (event.Flow n) h (rw down refl)
      go true up = several w (event.Flow n) (Steps (min n (length s.packets - w.fed)) 0 false) (rw up refl) (feeds_end
          (min n (length s.packets - w.fed)) w (record { sound = h; within = low; up = up }) 0 false (omega arith))
  comes_to w (event.Feed n) h low = alone w (event.Feed n) h refl
  comes_to w (event.Time n) h low = alone w (event.Time n) h refl
  comes_to w (event.Step t given) h low = alone w (event.Step t given) h refl
  comes_to w (event.Log t n) h low = alone w (event.Log t n) h refl
  comes_to w (event.Out t j) h low = alone w (event.Out t j) h refl
  comes_to w (event.Late epoch k t n) h low = alone w (event.Late epoch k t n) h refl
  comes_to w (event.Cut k t n len) h low = alone w (event.Cut k t n len) h refl
  comes_to w event.Snap h low = alone w event.Snap h refl
  comes_to w event.Store h low = alone w event.Store h refl
  comes_to w event.Crash h low = alone w event.Crash h refl
  comes_to w event.Recover h low = alone w event.Recover h refl
  comes_to w (event.Show v) h low = alone w (event.Show v) h refl
