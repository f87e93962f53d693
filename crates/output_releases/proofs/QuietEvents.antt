-- Events that release nothing.
use Rattle.std.proofs.Common.{◌≡◌, ℕ, List, ap, inl, inr, Option}
use Rattle.recovery_world.specs.declared.event.Event.{Event}
use Rattle.recovery_world.specs.declared.event.Event.TheVariants as event
use Rattle.recovery_world.specs.declared.event.Outcome.{Outcome}
use Rattle.recovery_world.specs.World.{Setting, Sent, World}
use Rattle.recovery_world.specs.Events.{OnStep, On}

-- an event on which nothing arrives at the output logger
abbrev pub IsQuiet : Event → Type 0
IsQuiet (event.Feed n) = Unit {0}
IsQuiet (event.Time n) = Unit {0}
IsQuiet (event.Step t given) = Unit {0}
IsQuiet (event.Log t n) = ⊥
IsQuiet (event.Out t n) = ⊥
IsQuiet (event.Late e k t n) = ⊥
IsQuiet (event.Cut k t n len) = ⊥
IsQuiet event.Snap = Unit {0}
IsQuiet event.Store = ⊥
IsQuiet event.Crash = Unit {0}
IsQuiet event.Recover = Unit {0}
IsQuiet (event.Show v) = Unit {0}
IsQuiet event.Settle = ⊥
IsQuiet (event.Flow n) = Unit {0}
IsQuiet (event.Auto seed n) = ⊥

is_same : {V : Type 0} (w new : World V) → new ≡ w → new.released ≡ w.released
is_same {V} w new same = ap (λ (z : World V). z.released) same

step_quiet : {V : Type 0} (s : Setting V) (w new : World V) (t : ℕ) (given : Option ℕ) (to : Outcome)
    → OnStep s w t given to new → new.released ≡ w.released
step_quiet s w new t given to (inl a) = is_same w new a.2
step_quiet s w new t given to (inr (inl a)) = is_same w new a.3
step_quiet s w new t given to (inr (inr (inl a))) = is_same w new a.4
step_quiet s w new t given to (inr (inr (inr (inl a)))) = is_same w new a.3
step_quiet {V} s w new t given to (inr (inr (inr (inr a)))) = ap (λ (z : World V). z.released) a.2.new_is

-- It releases nothing.
pub quiet_on : {V : Type 0} (s : Setting V) (w : World V) (ev : Event) (to : Outcome) (freed : List Sent)
    (new : World V)
    → IsQuiet ev → On s w ev to freed new → new.released ≡ w.released
quiet_on {V} s w (event.Feed n) to freed new q a = ap (λ (z : World V). z.released) a.2
quiet_on {V} s w (event.Time n) to freed new q a = ap (λ (z : World V). z.released) a.2
quiet_on s w (event.Step t given) to freed new q a = step_quiet s w new t given to a.0
quiet_on s w (event.Log t n) to freed new q a = absurd q
quiet_on s w (event.Out t j) to freed new q a = absurd q
quiet_on s w (event.Late epoch k t n) to freed new q a = absurd q
quiet_on s w (event.Cut k t n len) to freed new q a = absurd q
quiet_on s w event.Snap to freed new q (inl a, f) = is_same w new a.2
quiet_on {V} s w event.Snap to freed new q (inr a, f) = ap (λ (z : World V). z.released) a.2
quiet_on s w event.Store to freed new q a = absurd q
quiet_on s w event.Crash to freed new q (inl a, f) = is_same w new a.2
quiet_on {V} s w event.Crash to freed new q (inr a, f) = ap (λ (z : World V). z.released) a.2
quiet_on s w event.Recover to freed new q (inl a, f) = is_same w new a.2
quiet_on {V} s w event.Recover to freed new q (inr a, f) = ap (λ (z : World V). z.released) a.1.new_is
quiet_on s w (event.Show v) to freed new q a = is_same w new a.2
quiet_on s w event.Settle to freed new q a = absurd q
quiet_on s w (event.Flow n) to freed new q a = is_same w new a.3
quiet_on s w (event.Auto seed n) to freed new q a = absurd q
