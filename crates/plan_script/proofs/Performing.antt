-- The parts of a plan, performed one after another.
use Rattle.std.proofs.Common.{◌≡◌, ℕ, inl, inr, List, [], ◌∷◌, ◌++◌, append_assoc, sym}
use Rattle.std.proofs.Common.{refl, subst, append-nil}
use Rattle.recovery_world.specs.declared.event.Event.{Event}
use Rattle.recovery_world.specs.declared.event.Event.TheVariants as event
use Rattle.recovery_world.specs.World.{Setting, World}
use Rattle.recovery_world.specs.Many.{all_messages}
use Rattle.recovery_world.specs.Files.{Performs, Rests, Goes as Performed, reply_line}
use Rattle.plan_script.specs.declared.plan.PlanLine.{PlanLine}
use Rattle.plan_script.specs.declared.plan.PlanLine.TheVariants as line
use Rattle.plan_script.specs.Begun.{BeginsScript, BeginsNone, BeginsLater}
use Rattle.plan_script.specs.Orders.{Orders, orders_after}
use Rattle.plan_script.specs.Rounds.{Does, IsRound, step_events, arrival_events}
use Rattle.plan_script.specs.Scripts.{OnRound, IsPart, IsScript, Ends, Goes, feeding, orders_through}

-- events, and then others
pub performs_append : {V : Type 0} (s : Setting V) (w mid new : World V) (first events : List Event) (a b : List ℕ)
    → Performs s w first a mid → Performs s mid events b new → Performs s w (first ++ events) (a ++ b) new
performs_append s w mid new first events a b (Rests same) d = d
performs_append {V} s w mid new first events a b
    (Performed {mid = there} {events = es} {lines = ls} ev to freed on rest) d =
    subst (λ (l : List ℕ). Performs s w (ev ∷ es ++ events) l new) (sym (append_assoc (reply_line ev to freed) ls b))
    (Performed ev to freed on (performs_append s there mid new es events ls b rest d))

pub does_append : {V : Type 0} (s : Setting V) (w mid new : World V) (first events : List Event) → Does s w first mid
    → Does s mid events new → Does s w (first ++ events) new
does_append s w mid new first events (a, d) (b, e) = (a ++ b, performs_append s w mid new first events a b d e)

does_nothing : {V : Type 0} (s : Setting V) (w new : World V) (events : List Event) → events ≡ [] → new ≡ w
    → Does s w events new
does_nothing {V} s w new events none same = subst (λ (l : List Event). Does s w l new) (sym none)
    (subst (λ (z : World V). Does s w [] z) (sym same) ([], Rests w))

round_does : {V : Type 0} (s : Setting V) (w : World V) (orders : Orders) (events : List Event) (new : World V)
    → IsRound s w orders events new → Does s w events new
round_does s w orders events new r =
    subst (λ (l : List Event). Does s w l new) (sym r.events_are)
    (does_append s w r.there new (step_events r.steps) (arrival_events r.arrivals) r.race.go r.arrive)

as_said : {V : Type 0} (s : Setting V) (w new : World V) (events said : List Event) → events ≡ said → Does s w said new
    → Does s w events new
as_said s w new events said is d = subst (λ (l : List Event). Does s w l new) (sym is) d

on_round : {V : Type 0} (s : Setting V) (w : World V) (orders : Orders) (events : List Event) (new : World V)
    → OnRound s w orders events new → Does s w events new
on_round s w orders events new (inl (down, none, same)) = does_nothing s w new events none same
on_round s w orders events new (inr (up, r)) = round_does s w orders events new r

part_does : {V : Type 0} (s : Setting V) (w : World V) (orders : Orders) (ln : PlanLine) (events : List Event)
    (new : World V) → IsPart s w orders ln events new → Does s w events new
part_does s w orders (line.Feed n) events new h = as_said s w new events (event.Feed n ∷ []) h.0 h.1
part_does s w orders (line.Limit t n) events new h = does_nothing s w new events h.0 h.1
part_does s w orders (line.Take t n) events new h = does_nothing s w new events h.0 h.1
part_does s w orders (line.Lose k t n) events new h = does_nothing s w new events h.0 h.1
part_does s w orders line.Round events new h = on_round s w orders events new h
part_does s w orders line.Snap events new h = as_said s w new events (event.Snap ∷ []) h.0 h.1
part_does s w orders line.Store events new h = as_said s w new events (event.Store ∷ []) h.0 h.1
part_does s w orders line.Crash events new h = as_said s w new events (event.Crash ∷ []) h.0 h.1
part_does s w orders line.Recover events new h = as_said s w new events (event.Recover ∷ []) h.0 h.1
part_does s w orders (line.Show v) events new h = as_said s w new events (event.Show v ∷ []) h.0 h.1
part_does s w orders line.Settle events new h =
    as_said s w new events
    (feeding s w h.wake ++ (h.round ++ arrival_events (all_messages s h.ran))) h.events_are
    (does_append s w h.fed new (feeding s w h.wake) (h.round ++ arrival_events (all_messages s h.ran)) h.feeds
    (does_append s h.fed h.ran new h.round (arrival_events (all_messages s h.ran))
    (round_does s h.fed _ h.round h.ran h.runs) h.arrive))

pub scripts_perform : {V : Type 0} (s : Setting V) (w : World V) (orders : Orders) (lines : List PlanLine)
    (events : List Event) (new : World V) → IsScript s w orders lines events new → Does s w events new
scripts_perform s w orders lines events new (Ends same none) = ([], Rests w)
scripts_perform s w orders lines events new (Goes {mid = mid} {rest = rest} now ln first part script) =
    does_append s w mid new first rest (part_does s w now ln first mid part) (scripts_perform s mid _ _ rest new script)

-- Scripts of a plan, one after another

pub script_append : {V : Type 0} (s : Setting V) (w mid new : World V) (orders : Orders) (lines more : List PlanLine)
    (events rest : List Event) → IsScript s w orders lines events mid
    → IsScript s mid (orders_through lines orders) more rest new
    → IsScript s w orders (lines ++ more) (events ++ rest) new
script_append s w mid new orders _ more _ rest (Ends same none) script = script
script_append {V} s w mid new orders _ more _ rest
    (Goes {mid = there} {new = end} {lines = lines} {rest = later} now ln first part script) then =
    subst (λ (l : List Event). IsScript s w now (ln ∷ (lines ++ more)) l new) (sym (append_assoc first later rest))
    (Goes now ln first part (script_append s there mid new (orders_after ln now) lines more later rest script then))

-- one more line
pub script_more : {V : Type 0} (s : Setting V) (w mid new : World V) (orders : Orders) (lines : List PlanLine)
    (ln : PlanLine) (events part : List Event) → IsScript s w orders lines events mid
    → IsPart s mid (orders_through lines orders) ln part new
    → IsScript s w orders (lines ++ ln ∷ []) (events ++ part) new
script_more {V} s w mid new orders lines ln events part script is =
    script_append s w mid new orders lines (ln ∷ []) events part script
    (subst (λ (l : List Event). IsScript s mid (orders_through lines orders) (ln ∷ []) l new) (append-nil part)
    (Goes (orders_through lines orders) ln part is (Ends new _)))

pub orders_append : (lines more : List PlanLine) (orders : Orders)
    → orders_through (lines ++ more) orders ≡ orders_through more (orders_through lines orders)
orders_append [] more orders = refl
orders_append (ln ∷ lines) more orders = orders_append lines more (orders_after ln orders)

-- The lines were performed whole, and then some first events of those behind them.
pub begins_behind : {V : Type 0} (s : Setting V) (w mid : World V) (orders : Orders) (lines more : List PlanLine)
    (events rest : List Event) → IsScript s w orders lines events mid
    → BeginsScript s mid (orders_through lines orders) more rest
    → BeginsScript s w orders (lines ++ more) (events ++ rest)
begins_behind s w mid orders _ more _ rest (Ends same none) begun = begun
begins_behind {V} s w mid orders _ more _ rest
    (Goes {mid = there} {new = end} {lines = lines} {rest = later} now ln first part script) begun =
    subst (λ (l : List Event). BeginsScript s w now (ln ∷ (lines ++ more)) l) (sym (append_assoc first later rest))
    (BeginsLater now ln first part
    (begins_behind s there mid (orders_after ln now) lines more later rest script begun))

-- a whole script is a first part of itself
pub begins_whole : {V : Type 0} (s : Setting V) (w new : World V) (orders : Orders) (lines : List PlanLine)
    (events : List Event) → IsScript s w orders lines events new → BeginsScript s w orders lines events
begins_whole {V} s w new orders lines events script =
    subst (λ (l : List PlanLine). BeginsScript s w orders l events) (append-nil lines)
    (subst (λ (e : List Event). BeginsScript s w orders (lines ++ []) e) (append-nil events)
    (begins_behind s w new orders lines [] events [] script (BeginsNone new _ [])))
