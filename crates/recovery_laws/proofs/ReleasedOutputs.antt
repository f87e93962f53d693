-- What was released stays, in its order: each event adds to it, or leaves it.
use Rattle.std.proofs.Common.{◌≡◌, ℕ, List, [], ◌∷◌, ◌++◌, append_assoc, append-nil, refl, sym, ap, ◌∙◌, inl, inr}
use Rattle.std.proofs.Common.{Option, Some, None}
use Rattle.plain_text.specs.declared.limit.Limit.{Limit}
use Rattle.recovery_world.specs.declared.event.Event.{Event}
use Rattle.recovery_world.specs.declared.event.Event.TheVariants as event
use Rattle.plain_text.specs.declared.kind.Kind.{Kind}
use Rattle.plain_text.specs.declared.kind.Kind.TheVariants as kind
use Rattle.recovery_world.specs.declared.event.Outcome.{Outcome}
use Rattle.recovery_world.specs.World.{Setting, Sent, World}
use Rattle.recovery_world.specs.Events.{OnStep, OnLog, OnOut, OnLate, OnCut, Releases, On}
use Rattle.recovery_world.specs.Strategies.{Strategy, Follows, Ends, Halts, Goes}
use Rattle.recovery_world.specs.Many.{goes_on, OnAny, Single, Several, Stops, SingleStops, SeveralStops}

abbrev pub Grows : {V : Type 0} → World V → World V → Type 0
Grows w new = (more : List Sent) × (new.released ≡ w.released ++ more)

same_grows : {V : Type 0} (w new : World V) → new.released ≡ w.released → Grows w new
same_grows w new same = ([], same ∙ sym (append-nil w.released))

is_grows : {V : Type 0} (w new : World V) → new ≡ w → Grows w new
is_grows {V} w new same = same_grows w new (ap (λ (z : World V). z.released) same)

grows_on : {V : Type 0} (w mid new : World V) → Grows w mid → Grows mid new → Grows w new
grows_on w mid new (a, p) (b, q) = (a ++ b, q ∙ (ap (λ (l : List Sent). l ++ b) p ∙ append_assoc w.released a b))

releases_grow : {V : Type 0} (w new : World V) (freed : List Sent) → Releases w freed new → Grows w new
releases_grow {V} w new freed r = (freed, ap (λ (z : World V). z.released) r.new_is)

log_grows : {V : Type 0} (w new : World V) (t n : ℕ) (to : Outcome) (freed : List Sent) → OnLog w t n to freed new
    → Grows w new
log_grows w new t n to freed (inl a) = is_grows w new a.3
log_grows w new t n to freed (inr (inl a)) = is_grows w new a.5
log_grows {V} w new t n to freed (inr (inr a)) = (freed, ap (λ (z : World V). z.released) a.4.new_is)

out_grows : {V : Type 0} (w new : World V) (t j : ℕ) (to : Outcome) → OnOut w t j to new → Grows w new
out_grows w new t j to (inl a) = is_grows w new a.2
out_grows w new t j to (inr (inl a)) = is_grows w new a.4
out_grows {V} w new t j to (inr (inr (inl a))) = (a.0 ∷ [], ap (λ (z : World V). z.released) a.5)
out_grows {V} w new t j to (inr (inr (inr a))) = same_grows w new (ap (λ (z : World V). z.released) a.6)

late_grows : {V : Type 0} (w new : World V) (epoch : ℕ) (k : Kind) (t n : ℕ) (to : Outcome) (freed : List Sent)
    → OnLate w epoch k t n to freed new → Grows w new
late_grows w new epoch kind.Log t n to freed (inl a) = log_grows w new t n to freed a.1
late_grows w new epoch kind.Out t n to freed (inl a) = out_grows w new t n to a.1.0
late_grows w new epoch k t n to freed (inr (inl a)) = is_grows w new a.4
late_grows w new epoch k t n to freed (inr (inr a)) = is_grows w new a.4

cut_grows : {V : Type 0} (s : Setting V) (w new : World V) (k : Kind) (t n len : ℕ) (to : Outcome) (freed : List Sent)
    → OnCut s w k t n len to freed new → Grows w new
cut_grows s w new k t n len to freed (inl a) = is_grows w new a.3
cut_grows s w new k t n len to freed (inr (inl a)) = is_grows w new a.5
cut_grows s w new kind.Log t n len to freed (inr (inr a)) = log_grows w new t n to freed a.3
cut_grows s w new kind.Out t n len to freed (inr (inr a)) = out_grows w new t n to a.3.0

step_grows : {V : Type 0} (s : Setting V) (w new : World V) (t : ℕ) (given : Option ℕ) (to : Outcome)
    → OnStep s w t given to new → Grows w new
step_grows s w new t given to (inl a) = is_grows w new a.2
step_grows s w new t given to (inr (inl a)) = is_grows w new a.3
step_grows s w new t given to (inr (inr (inl a))) = is_grows w new a.4
step_grows s w new t given to (inr (inr (inr (inl a)))) = is_grows w new a.3
step_grows {V} s w new t given to (inr (inr (inr (inr a)))) =
    same_grows w new (ap (λ (z : World V). z.released) a.2.new_is)

-- Each event
pub on_grows : {V : Type 0} (s : Setting V) (w : World V) (ev : Event) (to : Outcome) (freed : List Sent)
    (new : World V) → On s w ev to freed new → Grows w new
on_grows {V} s w (event.Feed n) to freed new a = same_grows w new (ap (λ (z : World V). z.released) a.2)
on_grows {V} s w (event.Time n) to freed new a = same_grows w new (ap (λ (z : World V). z.released) a.2)
on_grows s w (event.Step t given) to freed new a = step_grows s w new t given to a.0
on_grows s w (event.Log t n) to freed new (inl a) = is_grows w new a.3
on_grows s w (event.Log t n) to freed new (inr a) = log_grows w new t n to freed a.1
on_grows s w (event.Out t j) to freed new (inl a) = is_grows w new a.3
on_grows s w (event.Out t j) to freed new (inr a) = out_grows w new t j to a.1.0
on_grows s w (event.Late epoch k t n) to freed new (inl a) = is_grows w new a.3
on_grows s w (event.Late epoch k t n) to freed new (inr a) = late_grows w new epoch k t n to freed a.1
on_grows s w (event.Cut k t n len) to freed new (inl a) = is_grows w new a.3
on_grows s w (event.Cut k t n len) to freed new (inr a) = cut_grows s w new k t n len to freed a.1
on_grows s w event.Snap to freed new (inl a, f) = is_grows w new a.2
on_grows {V} s w event.Snap to freed new (inr a, f) = same_grows w new (ap (λ (z : World V). z.released) a.2)
on_grows s w event.Store to freed new (inl a) = is_grows w new a.3
on_grows {V} s w event.Store to freed new (inr a) = (freed, ap (λ (z : World V). z.released) a.3.new_is)
on_grows s w event.Crash to freed new (inl a, f) = is_grows w new a.2
on_grows {V} s w event.Crash to freed new (inr a, f) = same_grows w new (ap (λ (z : World V). z.released) a.2)
on_grows s w event.Recover to freed new (inl a, f) = is_grows w new a.2
on_grows {V} s w event.Recover to freed new (inr a, f) = same_grows w new (ap (λ (z : World V). z.released) a.1.new_is)
on_grows s w (event.Show v) to freed new a = is_grows w new a.2
on_grows s w event.Settle to freed new a = absurd a
on_grows s w (event.Flow n) to freed new a = is_grows w new a.3
on_grows s w (event.Auto seed n) to freed new a = absurd a

-- Several events

follows_grow : {Q V : Type 0} (s : Setting V) (next : Strategy Q V) (q : Q) (w new : World V) (end : Option Limit)
    → Follows s next q w end new → Grows w new
follows_grow s next q w new end (Ends p same none) = is_grows w w refl
follows_grow s next q w new end (Halts p same c limit some passes) = is_grows w w refl
follows_grow s next q w new end (Goes {mid = mid} p same c to freed some on rest) =
    grows_on w mid new (on_grows s w c.event to freed mid on.0) (follows_grow s next (c.leads_to to) mid new end rest)

pub any_grows : {V : Type 0} (s : Setting V) (w : World V) (ev : Event) (to : Outcome) (freed : List Sent)
    (new : World V) → OnAny s w ev to freed new → Grows w new
any_grows s w ev to freed new (Single e o f n on) = on_grows s w ev to freed new on.0
any_grows s w ev to freed new (Several e q o n at f is) = follows_grow s (goes_on s) q w new None f

pub stops_grow : {V : Type 0} (s : Setting V) (w : World V) (ev : Event) (limit : Limit) (new : World V)
    → Stops s w ev limit new → Grows w new
stops_grow s w ev limit new (SingleStops e l passes) = is_grows w w refl
stops_grow s w ev limit new (SeveralStops e q l n at f) = follows_grow s (goes_on s) q w new (Some limit) f
