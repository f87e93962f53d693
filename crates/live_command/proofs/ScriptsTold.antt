-- What racing threads made of a plan is a script of it, line by line.
use Rattle.std.proofs.Common.{ℕ, inl, inr, List, [], ◌∷◌, ◌++◌, append_assoc, append-nil, sym, subst}
use Rattle.rand_pcg.specs.Lcg.{Lcg}
use Rattle.recovery_world.specs.declared.event.Event.{Event}
use Rattle.recovery_world.specs.World.{Setting, World}
use Rattle.plan_script.specs.declared.plan.PlanLine.{PlanLine}
use Rattle.plan_script.specs.declared.plan.PlanLine.TheVariants as line
use Rattle.plan_script.specs.Orders.{Orders, orders_after}
use Rattle.plan_script.specs.Scripts.{OnRound, IsPart, IsScript, Ends, Goes, orders_through}
use Rattle.live_command.specs.Telling.{IsLiveScript, IsToldPart, IsToldRound, LiveEnds, LiveGoes}

told_round : {V : Type 0} (s : Setting V) (may : ℕ → Type 0) (w : World V) (orders : Orders) (events : List Event)
    (new : World V) (before after : List Lcg) → IsToldRound s may w orders events new before after
    → OnRound s w orders events new
told_round s may w orders events new before after (inl (down, none, same, kept)) = inl (down, none, same)
told_round s may w orders events new before after (inr (up, round, told)) = inr (up, round)

-- the part of a line, without what its threads were told
pub told_part : {V : Type 0} (s : Setting V) (may : ℕ → Type 0) (w : World V) (orders : Orders) (ln : PlanLine)
    (events : List Event) (new : World V) (before after : List Lcg)
    → IsToldPart s may w orders ln events new before after → IsPart s w orders ln events new
told_part s may w orders (line.Feed n) events new before after h = h.0
told_part s may w orders (line.Limit t n) events new before after h = h.0
told_part s may w orders (line.Take t n) events new before after h = h.0
told_part s may w orders (line.Lose k t n) events new before after h = h.0
told_part s may w orders line.Round events new before after h = told_round s may w orders events new before after h
told_part s may w orders line.Snap events new before after h = h.0
told_part s may w orders line.Store events new before after h = h.0
told_part s may w orders line.Crash events new before after h = h.0
told_part s may w orders line.Recover events new before after h = h.0
told_part s may w orders (line.Show v) events new before after h = h.0
told_part s may w orders line.Settle events new before after h = h.0

pub live_script : {V : Type 0} (s : Setting V) (may : ℕ → Type 0) (w new : World V) (orders : Orders)
    (before after : List Lcg) (lines : List PlanLine) (events : List Event)
    → IsLiveScript s may w orders before lines events new after → IsScript s w orders lines events new
live_script s may w new orders before after lines events (LiveEnds same none draws) = Ends w orders
live_script s may w new orders before after lines events
    (LiveGoes {mid = mid} {lines = later} {rest = rest} {between = between} now ln first part script) =
    Goes now ln first (told_part s may w now ln first mid before between part)
    (live_script s may mid new _ between after later rest script)

live_append : {V : Type 0} (s : Setting V) (may : ℕ → Type 0) (w mid new : World V) (orders : Orders)
    (before between after : List Lcg) (lines more : List PlanLine) (events rest : List Event)
    → IsLiveScript s may w orders before lines events mid between
    → IsLiveScript s may mid (orders_through lines orders) between more rest new after
    → IsLiveScript s may w orders before (lines ++ more) (events ++ rest) new after
live_append s may w mid new orders before between after _ more _ rest (LiveEnds same none draws) script = script
live_append {V} s may w mid new orders before between after _ more _ rest
    (LiveGoes {mid = there} {lines = lines} {rest = later} {between = here} now ln first part script) then =
    subst (λ (l : List Event). IsLiveScript s may w now before (ln ∷ (lines ++ more)) l new after)
    (sym (append_assoc first later rest))
    (LiveGoes now ln first part
    (live_append s may there mid new (orders_after ln now) here between after lines more later rest script then))

-- one more line
pub live_more : {V : Type 0} (s : Setting V) (may : ℕ → Type 0) (w mid new : World V) (orders : Orders)
    (before between after : List Lcg) (lines : List PlanLine) (ln : PlanLine) (events part : List Event)
    → IsLiveScript s may w orders before lines events mid between
    → IsToldPart s may mid (orders_through lines orders) ln part new between after
    → IsLiveScript s may w orders before (lines ++ ln ∷ []) (events ++ part) new after
live_more {V} s may w mid new orders before between after lines ln events part script is =
    live_append s may w mid new orders before between after lines (ln ∷ []) events part script
    (subst (λ (l : List Event). IsLiveScript s may mid (orders_through lines orders) between (ln ∷ []) l new after)
    (append-nil part) (LiveGoes (orders_through lines orders) ln part is (LiveEnds new _ after)))
