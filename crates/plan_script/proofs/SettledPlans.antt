-- A plan that ends in a settling releases all.
use Rattle.std.proofs.Common.{◌≡◌, ◌⊎◌, ℕ, ◌+◌, ◌-◌, ◌<◌, ◌≤◌, true, false, List, [], ◌∷◌, ◌++◌, length, refl, sym, ap}
use Rattle.std.proofs.Common.{◌∙◌, subst, inl, inr, append_assoc, append-nil, Option, Some, None, arith, min, slice_get}
use Rattle.plain_text.specs.declared.packet.Packet.{Packet}
use Rattle.plain_text.specs.declared.kind.Kind.{Kind}
use Rattle.plain_text.specs.declared.kind.Kind.TheVariants as kind
use Rattle.plain_machine.specs.declared.plain_move.PlainMove.{PlainMove}
use Rattle.entry_order.specs.Log.{Entry}
use Rattle.plain_machine.specs.History.{Step, log_of, thread_after}
use Rattle.recovery_world.specs.declared.event.Event.{Event}
use Rattle.recovery_world.specs.declared.event.Event.TheVariants as event
use Rattle.recovery_world.specs.declared.event.Outcome.{Outcome}
use Rattle.recovery_world.specs.declared.event.Outcome.TheVariants as outcome
use Rattle.recovery_world.specs.World.{Setting, Sent, World, inputs_fed, opening}
use Rattle.recovery_world.specs.Turns.{Awaits}
use Rattle.recovery_world.specs.Events.{On, OnStep, WaitsFor, WantsMore}
use Rattle.recovery_world.specs.Finish.{IsFinish}
use Rattle.recovery_world.specs.Limits.{OnWithin}
use Rattle.recovery_world.specs.Many.{Arrives, Message, OnAny, Phase, Several, Single, all_messages, arrival}
use Rattle.recovery_world.specs.Many.{arrival_of}
use Rattle.recovery_world.specs.Many.{begins, goes_on}
use Rattle.recovery_world.specs.Strategies.{Ends as NoMore, Follows, Goes as Chosen}
use Rattle.recovery_world.specs.Files.{Goes as Performed, Leaves, Performs, Rests}
use Rattle.recovery_laws.specs.Settled.{IsSettled}
use Rattle.recovery_laws.specs.Sound.{Sound}
use Rattle.recovery_laws.proofs.KeptWorlds.{opening_sound, performs_sound}
use Rattle.recovery_laws.proofs.Rounds.{Rested, StaysAt}
use Rattle.recovery_laws.proofs.Scripts.{performs_one}
use Rattle.recovery_laws.proofs.Settlings.{Kept, log_keeps, out_keeps, settled}
use Rattle.plan_script.specs.declared.plan.PlanLine.{PlanLine}
use Rattle.plan_script.specs.declared.plan.PlanLine.TheVariants as line
use Rattle.plan_script.specs.Orders.{Orders, no_orders, orders_after}
use Rattle.plan_script.specs.Rounds.{Does, HasStopped, IsRound, arrival_events, step_events}
use Rattle.plan_script.specs.Scripts.{Ends, Goes, IsPart, IsScript, OnSettle, Wakes, feeding, orders_through}
use Rattle.plan_script.proofs.Performing.{scripts_perform}

-- The last line of a script

pub record LastPart {V : Type 0} (s : Setting V) (w : World V) (orders : Orders) (lines : List PlanLine) (ln : PlanLine)
    (new : World V) : Type 0 where
  pub first : List Event
  pub mid : World V
  pub script : IsScript s w orders lines first mid
  pub part : List Event
  pub is : IsPart s mid (orders_through lines orders) ln part new

last_of : {V : Type 0} (s : Setting V) (w new : World V) (orders : Orders) (ln : PlanLine) (all : List PlanLine)
    (events : List Event) → IsScript s w orders all events new → (lines : List PlanLine) → all ≡ lines ++ ln ∷ []
    → LastPart s w orders lines ln new
last_of s w new orders ln _ _ (Ends same none) lines is = absurd (no_lines lines is)
  where
    no_lines : (lines : List PlanLine) → [] ≡ lines ++ ln ∷ [] → ⊥
    no_lines [] is = cc
    no_lines (x ∷ lines) is = cc
last_of {V} s w new orders ln _ _ (Goes {mid = mid} {lines = rest} {rest = later} now x part is_part script) [] is =
    let head : x ≡ ln = cc in
    let tail : rest ≡ [] = cc in
    let end : new ≡ mid = none_left script tail in
    record {
      first = [];
      mid = w;
      script = Ends w now;
      part = part;
      is = subst (λ (z : World V). IsPart s w now ln part z) (sym end)
          (subst (λ (y : PlanLine). IsPart s w now y part mid) head is_part);
    }
  where
    none_left : {a b : World V} {o : Orders} {l : List PlanLine} {e : List Event} → IsScript s a o l e b → l ≡ []
        → b ≡ a
    none_left (Ends z none) empty = refl
    none_left (Goes o y p q r) empty = absurd (cc)
last_of {V} s w new orders ln _ _ (Goes {mid = mid} {lines = rest} {rest = later} now x part is_part script)
    (y ∷ lines) is =
    let head : x ≡ y = cc in
    let tail : rest ≡ lines ++ ln ∷ [] = cc in
    let k = last_of s mid new (orders_after x now) ln rest later script lines tail in
    record {
      first = part ++ k.first;
      mid = k.mid;
      script = subst (λ (z : PlanLine). IsScript s w now (z ∷ lines) (part ++ k.first) k.mid) head
          (Goes now x part is_part k.script);
      part = k.part;
      is = subst (λ (z : PlanLine). IsPart s k.mid (orders_through lines (orders_after z now)) ln k.part new) head k.is;
    }

-- What moves and arrivals keep

record Still {V : Type 0} (w new : World V) : Type 0 where
  fed : new.fed ≡ w.fed
  up : new.up ≡ w.up

still_on : {V : Type 0} (w mid new : World V) → Still w mid → Still mid new → Still w new
still_on w mid new a b = record { fed = b.fed ∙ a.fed; up = b.up ∙ a.up }

still_is : {V : Type 0} (w new : World V) → new ≡ w → Still w new
still_is {V} w new same =
    record { fed = ap (λ (z : World V). z.fed) same; up = ap (λ (z : World V). z.up) same }

step_still : {V : Type 0} (s : Setting V) (w new : World V) (t : ℕ) (given : Option ℕ) (to : Outcome)
    → OnStep s w t given to new → Still w new
step_still s w new t given to (inl a) = still_is w new a.2
step_still s w new t given to (inr (inl a)) = still_is w new a.3
step_still s w new t given to (inr (inr (inl a))) = still_is w new a.4
step_still s w new t given to (inr (inr (inr (inl a)))) = still_is w new a.3
step_still {V} s w new t given to (inr (inr (inr (inr a)))) = record {
  fed = ap (λ (z : World V). z.fed) a.2.new_is;
  up = ap (λ (z : World V). z.up) a.2.new_is;
}

abbrev IsStepping : Event → Type 0
IsStepping ev = (t : ℕ) × (given : Option ℕ) × (ev ≡ event.Step t given)

abbrev AreStepping : List Event → Type 0
AreStepping [] = Unit {0}
AreStepping (ev ∷ events) = IsStepping ev × AreStepping events

stepping_both : (a b : List Event) → AreStepping a → AreStepping b → AreStepping (a ++ b)
stepping_both [] b x y = y
stepping_both (ev ∷ a) b x y = (x.0, stepping_both a b x.1 y)

steps_are : {V : Type 0} (steps : List (Step V)) → AreStepping (step_events steps)
steps_are [] = tt
steps_are (x ∷ earlier) = stepping_both (step_events earlier) _ (steps_are earlier) ((x.thread, _, refl), tt)

any_step : {V : Type 0} (s : Setting V) (w new : World V) (ev : Event) (to : Outcome) (freed : List Sent)
    → IsStepping ev → OnAny s w ev to freed new → Still w new
any_step {V} s w new ev to freed (t, given, is) (Single e o f n on) =
    step_still s w new t given to (subst (λ (x : Event). On s w x to freed new) is on.0).0
any_step s w new ev to freed (t, given, is) (Several e q o n begun f same) =
    let k : begins s w (event.Step t given) ≡ Some q = ap (λ (x : Event). begins s w x) (sym is) ∙ begun in absurd (cc)

steps_still : {V : Type 0} (s : Setting V) (w new : World V) (events : List Event) (lines : List ℕ)
    → AreStepping events → Performs s w events lines new → Still w new
steps_still s w new _ _ each (Rests same) = record { fed = refl; up = refl }
steps_still s w new _ _ each (Performed {mid = mid} ev to freed on rest) =
    still_on w mid new (any_step s w mid ev to freed each.0 on) (steps_still s mid new _ _ each.1 rest)

-- Arrivals

none_begins : {V : Type 0} (s : Setting V) (w : World V) (k : Kind) (t n : ℕ) → begins s w (arrival_of k t n) ≡ None
none_begins s w kind.Log t n = refl
none_begins s w kind.Out t n = refl

single_of : {V : Type 0} (s : Setting V) (w new : World V) (m : Message) (ev : Event) (to : Outcome) (freed : List Sent)
    → ev ≡ arrival m → OnAny s w ev to freed new → OnWithin s w (arrival m) to freed new
single_of {V} s w new m ev to freed is (Single e o f n within) =
    subst (λ (x : Event). OnWithin s w x to freed new) is within
single_of s w new m ev to freed is (Several e q o n begun f same) =
    let k : begins s w (arrival m) ≡ Some q = ap (λ (x : Event). begins s w x) (sym is) ∙ begun in
    let j : begins s w (arrival m) ≡ None = none_begins s w m.kind m.thread m.number in
    let no : None ≡ Some q = sym j ∙ k in absurd (cc)

single : {V : Type 0} (s : Setting V) (w new : World V) (m : Message) (to : Outcome) (freed : List Sent)
    → OnAny s w (arrival m) to freed new → OnWithin s w (arrival m) to freed new
single s w new m to freed on = single_of s w new m (arrival m) to freed refl on

arrives : {V : Type 0} (s : Setting V) (w new : World V) (messages : List Message) (lines : List ℕ)
    → Performs s w (arrival_events messages) lines new → Follows s (goes_on s) (Arrives messages) w None new
arrives s w new [] _ (Rests same) = NoMore (Arrives []) w refl
arrives s w new (m ∷ messages) _ (Performed {mid = mid} ev to freed on rest) =
    Chosen (Arrives (m ∷ messages)) w (record { event = arrival m; leads_to = λ to. Arrives messages }) to freed refl
    (single s w mid m to freed on) (arrives s mid new messages _ rest)

-- what arrivals keep of where the threads stand
record Stays {V : Type 0} (w new : World V) : Type 0 where
  past : new.past ≡ w.past
  followed : new.followed ≡ w.followed
  fed : new.fed ≡ w.fed
  up : new.up ≡ w.up

arrival_stays : {V : Type 0} (s : Setting V) (w new : World V) (k : Kind) (t n : ℕ) (to : Outcome) (freed : List Sent)
    → On s w (arrival_of k t n) to freed new → Stays w new
arrival_stays s w new kind.Log t n to freed on =
    let k = log_keeps s w new t n to freed on in
    record { past = k.past; followed = k.followed; fed = k.fed; up = k.up }
arrival_stays s w new kind.Out t n to freed on =
    let k = out_keeps s w new t n to freed on in
    record { past = k.past; followed = k.followed; fed = k.fed; up = k.up }

arrivals_stay : {V : Type 0} (s : Setting V) (w new : World V) (messages : List Message) (lines : List ℕ)
    → Performs s w (arrival_events messages) lines new → Stays w new
arrivals_stay s w new [] _ (Rests same) = record { past = refl; followed = refl; fed = refl; up = refl }
arrivals_stay s w new (m ∷ messages) _ (Performed {mid = mid} ev to freed on rest) =
    let a = arrival_stays s w mid m.kind m.thread m.number to freed (single s w mid m to freed on).0 in
    let b = arrivals_stay s mid new messages _ rest in
    record {
      past = b.past ∙ a.past;
      followed = b.followed ∙ a.followed;
      fed = b.fed ∙ a.fed;
      up = b.up ∙ a.up;
    }

-- a thread that made no move makes none after arrivals
stays_after : {V : Type 0} (s : Setting V) (there ran : World V) (t : ℕ) (to : Outcome) → t < s.threads
    → Stays there ran → to ≡ outcome.Down ⊎ (to ≡ outcome.Down → ⊥) → OnStep s there t None to there
    → (to ≡ outcome.Down → ⊥) → OnStep s ran t None to ran
stays_after s there ran t to low k d (inl a) up = absurd (omega (arith, low, a.0))
stays_after s there ran t to low k d (inr (inl a)) up = absurd (up a.2)
stays_after {V} s there ran t to low k d (inr (inr (inl a))) up = inr (inr (inl (
  low,
  k.up ∙ a.1,
  subst (λ (n : ℕ).
      ((thread_after ran.past t).hand ≡ None)
      × (slice_get (inputs_fed s n t) (thread_after ran.past t).taken ≡ None)) (sym k.fed)
      (subst (λ (p : List (Step V)).
      ((thread_after p t).hand ≡ None) × (slice_get (inputs_fed s there.fed t) (thread_after p t).taken ≡ None))
      (sym k.past) a.2),
  a.3,
  refl,
)))
stays_after {V} s there ran t to low k d (inr (inr (inr (inl a)))) up = inr (inr (inr (inl (
  low,
  k.up ∙ a.1,
  record {
    hand = a.2.hand;
    hand_is = subst (λ (p : List (Step V)). (thread_after p t).hand ≡ Some a.2.hand) (sym k.past) a.2.hand_is;
    entry = a.2.entry;
    awaits = subst (λ (f : List Entry).
        Awaits f (log_of ran.past) t (s.meaning.next a.2.hand.place) a.2.entry) (sym k.followed)
        (subst (λ (p : List (Step V)).
        Awaits there.followed (log_of p) t (s.meaning.next a.2.hand.place) a.2.entry) (sym k.past) a.2.awaits);
    to_is = a.2.to_is;
  },
  refl,
))))
stays_after {V} s there ran t to low k d (inr (inr (inr (inr a)))) up =
    let n : there.moves ≡ there.moves + 1 = ap (λ (z : World V). z.moves) a.2.new_is in absurd (omega (arith, n))

stopped_stays : {V : Type 0} (s : Setting V) (there ran : World V) (t made : ℕ) → t < s.threads → Stays there ran
    → HasStopped s there t None made → StaysAt s ran t
stopped_stays s there ran t made low k h = go h.why
  where
    go : (None ≡ Some made)
        ⊎ (On s there (event.Step t None) outcome.Idle [] there
        ⊎ ((u : ℕ) × (n : ℕ) × On s there (event.Step t None) (outcome.Waits u n) [] there)) → StaysAt s ran t
    go (inl is) = absurd (cc)
    go (inr (inl on)) = record {
      to = outcome.Idle;
      on = (stays_after s there ran t outcome.Idle low k (inr (λ e. cc)) on.0 (λ e. cc), refl);
      at_rest = refl;
    }
    go (inr (inr (u, n, on))) = record {
      to = outcome.Waits u n;
      on = (stays_after s there ran t (outcome.Waits u n) low k (inr (λ e. cc)) on.0 (λ e. cc), refl);
      at_rest = refl;
    }

-- The settling

any_single : {V : Type 0} (s : Setting V) (w new : World V) (ev : Event) (to : Outcome) (freed : List Sent)
    → begins s w ev ≡ None → OnAny s w ev to freed new → On s w ev to freed new
any_single s w new ev to freed none (Single e o f n on) = on.0
any_single s w new ev to freed none (Several e q o n begun f same) = absurd (cc)

recovered_up : {V : Type 0} (s : Setting V) (w new : World V) (to : Outcome) (freed : List Sent)
    → On s w event.Recover to freed new → (new.up ≡ true) × (new.fed ≡ w.fed)
recovered_up {V} s w new to freed (inl a, f) =
    (ap (λ (z : World V). z.up) a.2 ∙ a.0, ap (λ (z : World V). z.fed) a.2)
recovered_up {V} s w new to freed (inr a, f) =
    (ap (λ (z : World V). z.up) a.1.new_is, ap (λ (z : World V). z.fed) a.1.new_is)

all_fed : {V : Type 0} (s : Setting V) (mid fed : World V) (n : ℕ) (lines : List ℕ)
    → mid.fed + n ≡ length s.packets → Performs s mid (event.Feed n ∷ []) lines fed
    → (fed.up ≡ mid.up) × (fed.fed ≡ length s.packets)
all_fed {V} s mid fed n lines is (Performed {mid = x} ev to freed on (Rests same)) =
    let k = any_single s mid x (event.Feed n) to freed refl on in (
      ap (λ (z : World V). z.up) k.2,
      ap (λ (z : World V). z.fed) k.2
          ∙ ap (λ (i : ℕ). min i (length s.packets)) is
          ∙ min_self (length s.packets),
    )
  where
    min_self : (i : ℕ) → min i i ≡ i
    min_self i = omega arith

woken_fed : {V : Type 0} (s : Setting V) (w fed : World V) (n : ℕ) (lines : List ℕ) → w.fed + n ≡ length s.packets
    → Performs s w (event.Recover ∷ event.Feed n ∷ []) lines fed
    → (fed.up ≡ true) × (fed.fed ≡ length s.packets)
woken_fed s w fed n lines few (Performed {mid = mid} ev to freed on rest) =
    let woken = recovered_up s w mid to freed (any_single s w mid event.Recover to freed refl on) in
    let k = all_fed s mid fed n _ (ap (λ (i : ℕ). i + n) woken.1 ∙ few) rest in (k.0 ∙ woken.0, k.1)

feeds_all : {V : Type 0} (s : Setting V) (w fed : World V) (wake : List Event) → Sound s w → Wakes w wake
    → Does s w (feeding s w wake) fed → (fed.up ≡ true) × (fed.fed ≡ length s.packets)
feeds_all {V} s w fed wake sound (inl (up, none)) (lines, does) =
    let few = sound.firm.fed in
    let k = all_fed s w fed (length s.packets - w.fed) lines (omega (arith, few))
    (subst (λ (l : List Event). Performs s w (l ++ event.Feed (length s.packets - w.fed) ∷ []) lines fed) none does) in
    (k.0 ∙ up, k.1)
feeds_all {V} s w fed wake sound (inr (down, one)) (lines, does) =
    let few = sound.firm.fed in
    woken_fed s w fed (length s.packets - w.fed) lines (omega (arith, few))
    (subst (λ (l : List Event). Performs s w (l ++ event.Feed (length s.packets - w.fed) ∷ []) lines fed) one does)

does_sound : {V : Type 0} (s : Setting V) (w new : World V) (events : List Event) → Sound s w → Does s w events new
    → Sound s new
does_sound s w new events sound (lines, does) = performs_sound s w new events lines sound does

pub settle_rests : {V : Type 0} (s : Setting V) (w new : World V) (events : List Event) → Sound s w
    → OnSettle s w events new → Rested s (length s.packets) new
settle_rests s w new events sound o = record {
  ran = o.ran;
  fed = stay.fed ∙ steps.fed ∙ fed.1;
  up = stay.up ∙ steps.up ∙ fed.0;
  sound = does_sound s o.runs.there o.ran _ (does_sound s o.fed o.runs.there _ sound_fed o.runs.race.go) o.runs.arrive;
  stay = λ t low. stopped_stays s o.runs.there o.ran t _ low stay (o.runs.race.stopped t low);
  arrive = arrives s o.ran new (all_messages s o.ran) o.arrive.0 o.arrive.1;
}
  where
    fed : (o.fed.up ≡ true) × (o.fed.fed ≡ length s.packets)
    fed = feeds_all s w o.fed o.wake sound o.wakes o.feeds

    sound_fed : Sound s o.fed
    sound_fed = does_sound s w o.fed (feeding s w o.wake) sound o.feeds

    steps : Still o.fed o.runs.there
    steps = steps_still s o.fed o.runs.there (step_events o.runs.steps) o.runs.race.go.0 (steps_are o.runs.steps)
        o.runs.race.go.1

    stay : Stays o.runs.there o.ran
    stay = arrivals_stay s o.runs.there o.ran o.runs.arrivals o.runs.arrive.0 o.runs.arrive.1

pub plan_settled : {V : Type 0} (s : Setting V) (lines : List PlanLine) (events : List Event) (world : World V)
    (report : List ℕ) (released : List Packet) (schedule : List PlainMove)
    → IsScript s (opening V) no_orders (lines ++ line.Settle ∷ []) events world
    → (l : Leaves s events report released schedule) → IsSettled s l.world l.steps
plan_settled {V} s lines events world report released schedule script l =
    let k = last_of s (opening V) world no_orders line.Settle _ events script lines refl in
    let first = scripts_perform s (opening V) no_orders lines k.first k.mid k.script in
    let sound = performs_sound s (opening V) k.mid k.first first.0 (opening_sound s) first.1 in
    let whole = scripts_perform s (opening V) no_orders _ events world script in
    let same = (performs_one s (opening V) world l.world events whole.0 l.lines (opening_sound s) whole.1 l.performs).1
    in
    subst (λ (z : World V). IsSettled s z l.steps) same
    (settled s world (settle_rests s k.mid world k.part sound k.is) l.steps
    (subst (λ (z : World V). IsFinish s z l.steps) (sym same) l.finish))
