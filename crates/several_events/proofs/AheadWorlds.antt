-- Worlds of which one is early or ahead: what they have alike, and what events leave as it was.
use Rattle.std.proofs.Common.{◌≡◌, ℕ, zero, suc, ◌+◌, ◌||◌, nat_lt, not, if◌then◌else◌, Bool, true, false, List, ◌∷◌}
use Rattle.std.proofs.Common.{length, refl, sym, ap, ◌∙◌, subst, inl, inr, ◌⊎◌, Option, arith}
use Rattle.plain_text.specs.declared.kind.Kind.TheVariants as kind
use Rattle.entry_order.specs.Log.{Entry}
use Rattle.plain_machine.specs.History.{log_of}
use Rattle.recovery_world.specs.declared.event.Event.{Event}
use Rattle.recovery_world.specs.declared.event.Event.TheVariants as event
use Rattle.recovery_world.specs.declared.event.Outcome.{Outcome}
use Rattle.recovery_world.specs.World.{Setting, Sent, World}
use Rattle.recovery_world.specs.Events.{OnStep, On}
use Rattle.recovery_world.specs.Many.{Phase, Wakes, Steps, Arrives, Chooses, rests, goes_on}
use Rattle.recovery_laws.proofs.Settlings.{log_keeps}
use Rattle.early_arrivals.specs.Early.{with_held, IsEarly, IsMoving, OfThread, OfPackets, MayArrive}
use Rattle.early_arrivals.proofs.EarlyRuns.{none_early}
use Rattle.several_events.specs.declared.progress.Progress.{Progress}
use Rattle.several_events.specs.declared.progress.Progress.TheVariants as progress
use Rattle.several_events.specs.Progressing.{after_turn, after_of, IsInPhase}
use Rattle.several_events.specs.Ahead.{IsAhead}
use Rattle.several_events.proofs.Choices.{messages_same}

-- What the strategy looks at is the same in both worlds

pub phase_same : {V : Type 0} (s : Setting V) (w new : World V) (at : Progress) (q : Phase) → new.past ≡ w.past
    → new.up ≡ w.up → IsInPhase s w at q → IsInPhase s new at q
phase_same s w new progress.Wakes q past up i = i
phase_same s w new (progress.Steps left t moved) q past up i = (i.0, up ∙ i.1)
phase_same s w new (progress.Arrives k t arrived) q past up i =
    i ∙ ap Arrives (sym (messages_same s w new k t arrived past))
phase_same s w new (progress.Chooses words left) q past up i = i

goes_held : {V : Type 0} (s : Setting V) (w : World V) (held : List Entry) (q : Phase)
    → goes_on s q (with_held w held) ≡ goes_on s q w
goes_held s w held Wakes = refl
goes_held s w held (Steps zero t moved) = refl
goes_held s w held (Steps (suc left) t moved) = refl
goes_held s w held (Arrives messages) = refl
goes_held s w held (Chooses seed k n) = refl

pub goes_early : {V : Type 0} (s : Setting V) (w early : World V) (q : Phase) → IsEarly w early
    → goes_on s q early ≡ goes_on s q w
goes_early {V} s w early q r = ap (λ (z : World V). goes_on s q z) r.same ∙ goes_held s w r.held q

pub early_past : {V : Type 0} (w early : World V) → IsEarly w early → early.past ≡ w.past
early_past {V} w early r = ap (λ (z : World V). z.past) r.same

pub early_up : {V : Type 0} (w early : World V) → IsEarly w early → early.up ≡ w.up
early_up {V} w early r = ap (λ (z : World V). z.up) r.same

pub early_released : {V : Type 0} (w early : World V) → IsEarly w early → early.released ≡ w.released
early_released {V} w early r = ap (λ (z : World V). z.released) r.same

ahead_early : {V : Type 0} (s : Setting V) (at : Progress) (here early : World V) → IsAhead s at here early
    → IsEarly here early
ahead_early s progress.Wakes here early a = absurd a
ahead_early s (progress.Steps left t moved) here early a = a.0
ahead_early s (progress.Arrives kind.Log t arrived) here early a = a.0
ahead_early s (progress.Arrives kind.Out t arrived) here early a = absurd a
ahead_early s (progress.Chooses words left) here early a = absurd a

pub is_early : {V : Type 0} (s : Setting V) (at : Progress) (here early : World V)
    → (early ≡ here) ⊎ IsAhead s at here early → IsEarly here early
is_early {V} s at here early (inl same) = subst (λ (z : World V). IsEarly here z) (sym same) (none_early here)
is_early s at here early (inr a) = ahead_early s at here early a

-- What events leave as it was

pub log_moves : {V : Type 0} (s : Setting V) (w new : World V) (t n : ℕ) (to : Outcome) (freed : List Sent)
    → On s w (event.Log t n) to freed new → (new.moves ≡ w.moves) × (new.bytes ≡ w.bytes)
log_moves {V} s w new t n to freed (inl a) = (ap (λ (z : World V). z.moves) a.3, ap (λ (z : World V). z.bytes) a.3)
log_moves {V} s w new t n to freed (inr (low, inl a)) =
    (ap (λ (z : World V). z.moves) a.3, ap (λ (z : World V). z.bytes) a.3)
log_moves {V} s w new t n to freed (inr (low, inr (inl a))) =
    (ap (λ (z : World V). z.moves) a.5, ap (λ (z : World V). z.bytes) a.5)
log_moves {V} s w new t n to freed (inr (low, inr (inr a))) =
    (ap (λ (z : World V). z.moves) a.4.new_is, ap (λ (z : World V). z.bytes) a.4.new_is)

step_up : {V : Type 0} (s : Setting V) (w new : World V) (t : ℕ) (given : Option ℕ) (to : Outcome)
    → OnStep s w t given to new → new.up ≡ w.up
step_up {V} s w new t given to (inl a) = ap (λ (z : World V). z.up) a.2
step_up {V} s w new t given to (inr (inl a)) = ap (λ (z : World V). z.up) a.3
step_up {V} s w new t given to (inr (inr (inl a))) = ap (λ (z : World V). z.up) a.4
step_up {V} s w new t given to (inr (inr (inr (inl a)))) = ap (λ (z : World V). z.up) a.3
step_up {V} s w new t given to (inr (inr (inr (inr a)))) = ap (λ (z : World V). z.up) a.2.new_is

pub moving_up : {V : Type 0} (s : Setting V) (w new : World V) (ev : Event) (to : Outcome) (freed : List Sent)
    → IsMoving ev → On s w ev to freed new → new.up ≡ w.up
moving_up s w new ev to freed (OfThread t given) a = step_up s w new t given to a.0
moving_up {V} s w new ev to freed (OfPackets n) a = ap (λ (z : World V). z.up) a.2

longer : {V : Type 0} (w mid : World V) (e : Entry) → mid ≡ w → log_of mid.past ≡ e ∷ log_of w.past → ⊥
longer {V} w mid e same log =
    let a = ap (λ (z : World V). length (log_of z.past)) same in
    let b = ap (λ (l : List Entry). length l) log in
    more (length (log_of w.past)) (sym a ∙ b)
  where
    more : (n : ℕ) → n ≡ suc n → ⊥
    more n is = omega (arith, is)

-- a thread of a master that is up logged it
pub made_up : {V : Type 0} (s : Setting V) (w mid : World V) (t : ℕ) (given : Option ℕ) (to : Outcome) (e : Entry)
    → OnStep s w t given to mid → log_of mid.past ≡ e ∷ log_of w.past → w.up ≡ true
made_up s w mid t given to e (inl a) log = absurd (longer w mid e a.2 log)
made_up s w mid t given to e (inr (inl a)) log = absurd (longer w mid e a.3 log)
made_up s w mid t given to e (inr (inr (inl a))) log = absurd (longer w mid e a.4 log)
made_up s w mid t given to e (inr (inr (inr (inl a)))) log = absurd (longer w mid e a.3 log)
made_up s w mid t given to e (inr (inr (inr (inr a)))) log = a.1

-- the entry that may arrive behind a move leaves the rest
pub record Left {V : Type 0} (mid next : World V) : Type 0 where
  pub past : next.past ≡ mid.past
  pub up : next.up ≡ mid.up
  pub moves : next.moves ≡ mid.moves

pub may_leave : {V : Type 0} (s : Setting V) (w mid next : World V) → MayArrive s w mid next → Left mid next
may_leave {V} s w mid next (inl same) = record {
  past = ap (λ (z : World V). z.past) same;
  up = ap (λ (z : World V). z.up) same;
  moves = ap (λ (z : World V). z.moves) same;
}
may_leave s w mid next (inr (e, log, to, freed, on)) = record {
  past = (log_keeps s mid next e.thread e.number to freed on.0).past;
  up = (log_keeps s mid next e.thread e.number to freed on.0).up;
  moves = (log_moves s mid next e.thread e.number to freed on.0).0;
}

turn_ahead : {V : Type 0} (s : Setting V) (here early : World V) (n left t : ℕ) (moved : Bool) (to : Outcome)
    → IsEarly here early → here.up ≡ true → IsAhead s (after_turn n left t moved to) here early
turn_ahead s here early n left t moved to r up = go (rests to) (nat_lt (t + 1) n || not moved)
  where
    go : (a b : Bool)
        → IsAhead s (if a then (if b then progress.Steps left (t + 1) moved else progress.Steps left 0 false)
        else progress.Steps left t true) here early
    go true true = (r, up)
    go true false = (r, up)
    go false b = (r, up)

pub moving_ahead : {V : Type 0} (s : Setting V) (here early : World V) (n left t : ℕ) (moved : Bool) (ev : Event)
    (to : Outcome) → IsMoving ev → IsEarly here early → here.up ≡ true
    → IsAhead s (after_of n (progress.Steps left t moved) ev to) here early
moving_ahead s here early n left t moved ev to (OfThread u given) r up = turn_ahead s here early n left t moved to r up
moving_ahead s here early n left t moved ev to (OfPackets k) r up = (r, up)
