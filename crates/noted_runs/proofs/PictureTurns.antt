-- What an event makes of the moves of the master: none, one more, or those of the stored snapshot.
use Rattle.std.proofs.Common.{◌≡◌, ◌⊎◌, ◌≤◌, ℕ, suc, ◌+◌, ◌-◌, inl, inr, List, [], ◌∷◌, ◌++◌, length, refl, sym, ap}
use Rattle.std.proofs.Common.{◌∙◌}
use Rattle.plain_text.specs.declared.kind.Kind.{Kind}
use Rattle.plain_text.specs.declared.kind.Kind.TheVariants as kind
use Rattle.std.specs.Prelude.{Option, None, Bool, true, false}
use Rattle.entry_order.specs.declared.what.What.{What}
use Rattle.entry_order.specs.declared.what.What.TheVariants as what
use Rattle.plain_machine.specs.History.{Act, Took, Did, Emitted, Ended, Step}
use Rattle.recovery_world.specs.declared.event.Event.{Event}
use Rattle.recovery_world.specs.declared.event.Event.TheVariants as event
use Rattle.recovery_world.specs.declared.event.Outcome.{Outcome}
use Rattle.recovery_world.specs.declared.event.Outcome.TheVariants as outcome
use Rattle.recovery_world.specs.World.{Setting, Sent, World}
use Rattle.recovery_world.specs.Events.{MakesMove, On, OnCut, OnLate, OnLog, OnOut, OnStep, Releases, after_feed}
use Rattle.recovery_world.specs.Events.{OnShow, entry_outcome, move_outcome}
use Rattle.run_drawing.specs.Noted.{moves_by}

-- an event that is no recovery
abbrev pub is_onward : Event → Bool
is_onward (event.Feed n) = true
is_onward (event.Time n) = true
is_onward (event.Step t given) = true
is_onward (event.Log t n) = true
is_onward (event.Out t j) = true
is_onward (event.Late e k t n) = true
is_onward (event.Cut k t n len) = true
is_onward event.Snap = true
is_onward event.Store = true
is_onward event.Crash = true
is_onward event.Recover = false
is_onward (event.Show v) = true
is_onward event.Settle = true
is_onward (event.Flow n) = true
is_onward (event.Auto seed n) = true

-- the master's moves stay
pub record Stays {V : Type 0} (w : World V) (to : Outcome) (new : World V) : Type 0 where
  pub none : moves_by to ≡ 0
  pub past : new.past ≡ w.past
  pub moves : new.moves ≡ w.moves

-- it makes one more
pub record Moves {V : Type 0} (w : World V) (to : Outcome) (new : World V) : Type 0 where
  pub one : moves_by to ≡ 1
  pub step : Step V
  pub past : new.past ≡ step ∷ w.past
  pub moves : new.moves ≡ w.moves + 1

-- it is a new one, with those of the snapshot
pub record Starts {V : Type 0} (w : World V) (ev : Event) (to : Outcome) (new : World V) : Type 0 where
  pub recovers : is_onward ev ≡ false
  pub none : moves_by to ≡ 0
  pub past : new.past ≡ w.stored
  pub moves : new.moves ≡ w.moves

abbrev pub Turn : {V : Type 0} → World V → Event → Outcome → World V → Type 0
Turn w ev to new = Stays w to new ⊎ (Moves w to new ⊎ Starts w ev to new)

by_entry : (n : ℕ) (x : What) → moves_by (entry_outcome n x) ≡ 1
by_entry n (what.Access v p) = refl
by_entry n (what.Read v a) = refl
by_entry n (what.Clock a) = refl
by_entry n (what.Draw a) = refl

by_act : {V : Type 0} (a : Act V) → moves_by (move_outcome a) ≡ 1
by_act (Took k) = refl
by_act (Did e left) = by_entry e.number e.what
by_act (Emitted o) = refl
by_act (Ended k) = refl

module _ {V : Type 0} (s : Setting V) (w : World V) where
  quiet : (to x : Outcome) (new z : World V) → to ≡ x → moves_by x ≡ 0 → new ≡ z → z.past ≡ w.past
      → z.moves ≡ w.moves → Stays w to new
  quiet to x new z is none same past moves = record {
    none = ap moves_by is ∙ none;
    past = ap (λ (y : World V). y.past) same ∙ past;
    moves = ap (λ (y : World V). y.moves) same ∙ moves;
  }

  still : (to x : Outcome) (new : World V) → to ≡ x → moves_by x ≡ 0 → new ≡ w → Stays w to new
  still to x new is none same = quiet to x new w is none same refl refl

  freed_so : (to x : Outcome) (mid new : World V) (freed : List Sent) → to ≡ x → moves_by x ≡ 0
      → Releases mid freed new → mid.past ≡ w.past → mid.moves ≡ w.moves → Stays w to new
  freed_so to x mid new freed is none r past moves =
      quiet to x new (record mid { waiting = r.stay; released = mid.released ++ freed }) is none r.new_is past moves

  moved : (t : ℕ) (given : Option ℕ) (to : Outcome) (new : World V) → MakesMove s w t given to new → Moves w to new
  moved t given to new m = record {
    one = ap moves_by m.to_is ∙ by_act m.step.act;
    step = m.step;
    past = ap (λ (y : World V). y.past) m.new_is;
    moves = ap (λ (y : World V). y.moves) m.new_is;
  }

  log_stays : (t n : ℕ) (to : Outcome) (freed : List Sent) (new : World V) → OnLog w t n to freed new
      → Stays w to new
  log_stays t n to freed new (inl (none, is, nothing, same)) = still to outcome.Nothing new is refl same
  log_stays t n to freed new (inr (inl (e, of, known, is, nothing, same))) =
      still to outcome.Known new is refl same
  log_stays t n to freed new (inr (inr (e, of, unknown, is, r))) =
      freed_so to outcome.New (record w { held = e ∷ w.held }) new freed is refl r refl refl

  out_stays : (t j : ℕ) (to : Outcome) (new : World V) → OnOut w t j to new → Stays w to new
  out_stays t j to new (inl (none, is, same)) = still to outcome.Nothing new is refl same
  out_stays t j to new (inr (inl (o, of, arrived, is, same))) = still to outcome.Again new is refl same
  out_stays t j to new (inr (inr (inl (o, of, fresh, go, is, same)))) =
      quiet to outcome.Released new (record w { released = w.released ++ o ∷ [] }) is refl same refl refl
  out_stays t j to new (inr (inr (inr (o, of, fresh, e, missing, is, same)))) =
      quiet to (outcome.Waits e.thread e.number) new (record w { waiting = w.waiting ++ o ∷ [] }) is refl same refl
      refl

  late_stays : (epoch : ℕ) (k : Kind) (t n : ℕ) (to : Outcome) (freed : List Sent) (new : World V)
      → OnLate w epoch k t n to freed new → Stays w to new
  late_stays epoch kind.Log t n to freed new (inl (q, a)) = log_stays t n to freed new a
  late_stays epoch kind.Out t n to freed new (inl (q, a)) = out_stays t n to new a.0
  late_stays epoch k t n to freed new (inr (inl a)) = still to outcome.Old new a.2 refl a.4
  late_stays epoch k t n to freed new (inr (inr a)) = still to outcome.Nothing new a.2 refl a.4

  cut_stays : (k : Kind) (t n len : ℕ) (to : Outcome) (freed : List Sent) (new : World V)
      → OnCut s w k t n len to freed new → Stays w to new
  cut_stays k t n len to freed new (inl a) = still to outcome.Nothing new a.1 refl a.3
  cut_stays k t n len to freed new (inr (inl a)) = still to outcome.Short new a.3 refl a.5
  cut_stays kind.Log t n len to freed new (inr (inr (whole, is, long, a))) = log_stays t n to freed new a
  cut_stays kind.Out t n len to freed new (inr (inr (whole, is, long, a))) = out_stays t n to new a.0

  step_turn : (t : ℕ) (given : Option ℕ) (to : Outcome) (new : World V) → OnStep s w t given to new
      → Stays w to new ⊎ Moves w to new
  step_turn t given to new (inl a) = inl (still to outcome.Nothing new a.1 refl a.2)
  step_turn t given to new (inr (inl a)) = inl (still to outcome.Down new a.2 refl a.3)
  step_turn t given to new (inr (inr (inl a))) = inl (still to outcome.Idle new a.3 refl a.4)
  step_turn t given to new (inr (inr (inr (inl a)))) =
      inl (still to (outcome.Waits a.2.entry.thread a.2.entry.number) new a.2.to_is refl a.3)
  step_turn t given to new (inr (inr (inr (inr a)))) = inr (moved t given to new a.2)

  pub turn : (ev : Event) (to : Outcome) (freed : List Sent) (new : World V) → On s w ev to freed new
      → Turn w ev to new
  turn (event.Feed n) to freed new a =
      inl (quiet to _ new (after_feed s w n) a.0 refl a.2 refl refl)
  turn (event.Time n) to freed new a = inl (quiet to outcome.Set new (record w { clock = n }) a.0 refl a.2 refl refl)
  turn (event.Step t given) to freed new (k, b) = go (step_turn t given to new k)
    where
      go : Stays w to new ⊎ Moves w to new → Turn w (event.Step t given) to new
      go (inl a) = inl a
      go (inr a) = inr (inl a)
  turn (event.Log t n) to freed new (inl a) = inl (still to outcome.Nothing new a.1 refl a.3)
  turn (event.Log t n) to freed new (inr a) = inl (log_stays t n to freed new a.1)
  turn (event.Out t j) to freed new (inl a) = inl (still to outcome.Nothing new a.1 refl a.3)
  turn (event.Out t j) to freed new (inr a) = inl (out_stays t j to new a.1.0)
  turn (event.Late epoch k t n) to freed new (inl a) = inl (still to outcome.Nothing new a.1 refl a.3)
  turn (event.Late epoch k t n) to freed new (inr a) = inl (late_stays epoch k t n to freed new a.1)
  turn (event.Cut k t n len) to freed new (inl a) = inl (still to outcome.Nothing new a.1 refl a.3)
  turn (event.Cut k t n len) to freed new (inr a) = inl (cut_stays k t n len to freed new a.1)
  turn event.Snap to freed new (inl a, b) = inl (still to outcome.Down new a.1 refl a.2)
  turn event.Snap to freed new (inr a, b) = inl (quiet to _ new _ a.1 refl a.2 refl refl)
  turn event.Store to freed new (inl a) = inl (still to outcome.Nothing new a.1 refl a.3)
  turn event.Store to freed new (inr (copy, there, is, r)) =
      inl (freed_so to _ (record w { stored = copy; copy = None }) new freed is refl r refl refl)
  turn event.Crash to freed new (inl a, b) = inl (still to outcome.Down new a.1 refl a.2)
  turn event.Crash to freed new (inr a, b) = inl (quiet to outcome.Crashed new _ a.1 refl a.2 refl refl)
  turn event.Recover to freed new (inl a, b) = inl (still to outcome.Up new a.1 refl a.2)
  turn event.Recover to freed new (inr (down, r, keeps, drops, is, count, all), b) = inr (inr (record {
    recovers = refl;
    none = ap moves_by is;
    past = ap (λ (y : World V). y.past) r.new_is;
    moves = ap (λ (y : World V). y.moves) r.new_is;
  }))
  turn (event.Show v) to freed new a = inl (shown a.0)
    where
      shown : OnShow s w v to → Stays w to new
      shown (inl h) = still to outcome.Nothing new h.1 refl a.2
      shown (inr (inl h)) = still to outcome.Down new h.2 refl a.2
      shown (inr (inr h)) = still to _ new h.2 refl a.2
  turn event.Settle to freed new a = absurd a
  turn (event.Flow n) to freed new a = inl (still to outcome.Down new a.1 refl a.3)
  turn (event.Auto seed n) to freed new a = absurd a
