-- Lines of a plan go on: what each came to, and what it makes of the script so far.
use Rattle.std.proofs.Common.{◌≡◌, ℕ, ◌+◌, ◌<◌, ◌≤◌, List, [], ◌∷◌, ◌++◌, refl, sym, ap, ◌∙◌, subst, inl, inr, Result}
use Rattle.std.proofs.Common.{Ok, Err, add-one, append-nil, cond, nat_eq, Some, Option, take, drop, length, get_or}
use Rattle.std.proofs.Common.{zero, suc, arith, true, false}
use Rattle.std.specs.Prelude.{IfErr, IfOk, OnOk}
use Rattle.rand_pcg.specs.Lcg.{Lcg}
use Rattle.plain_machine.specs.Program.{Meaning}
use Rattle.world_io.specs.World.{Shown}
use Rattle.recovery_world.specs.declared.event.Event.{Event}
use Rattle.recovery_world.specs.declared.event.Event.TheVariants as event
use Rattle.recovery_world.specs.Many.{Message}
use Rattle.recovery_world.specs.World.{Setting, World as SystemWorld, opening}
use Rattle.run_command.specs.FromRecoveryCore.{Systemed}
use Rattle.run_command.specs.Running.{IsSomewhere}
use Rattle.run_writes.specs.declared.error.RunError.{RunError}
use Rattle.run_writes.specs.declared.error.RunError.TheVariants as run
use Rattle.plan_script.specs.declared.plan.PlanLine.{PlanLine}
use Rattle.plan_script.specs.declared.plan.PlanLine.TheVariants as line
use Rattle.plan_script.specs.Begun.{AreFirstOf, BeginsHere, BeginsPart, BeginsScript}
use Rattle.plan_script.specs.Orders.{Orders, but, no_orders, orders_after}
use Rattle.plan_script.specs.Rounds.{Does}
use Rattle.plan_script.specs.Scripts.{orders_through}
use Rattle.plan_script.proofs.Performing.{begins_behind, orders_append}
use Rattle.live_workers.specs.Draws.{generators_of}
use Rattle.live_writes.specs.Outputs.{LiveOutputs}
use Rattle.live_writes.specs.Script.{Scripted}
use Rattle.live_writes.specs.Told.{FailsLive, HasBegunLive}
use Rattle.live_command.specs.declared.standing.Standing.{Standing}
use Rattle.live_command.specs.Going.{GoesLine, GoesOver, GoesRound, GoesSettle, GoesToldRound, HasLivedTo, SameOrders}
use Rattle.live_command.specs.Going.{event_of_line, standing_in}
use Rattle.live_command.specs.Plans.{GoesPlan}
use Rattle.live_command.specs.Telling.{IsLiveScript, IsToldPart, LiveEnds}
use Rattle.live_command.proofs.EventsGone.{fails_same, lived_same}
use Rattle.live_command.proofs.ScriptsTold.{live_more, live_script}

-- Orders

-- the same orders, each with one more for the moves of a thread
pub same_limit : (a b c : Orders) (t n : ℕ) → SameOrders a b
    → ((u : ℕ) → u < 16 → c.moves u ≡ but t n b.moves u) → ((u : ℕ) → c.frames u ≡ b.frames u) → c.lost ≡ b.lost
    → SameOrders (orders_after (line.Limit t n) a) c
same_limit a b c t n same moves frames lost = record {
  moves = λ u few. ap (λ (o : Option ℕ). cond (nat_eq u t) (Some n) o) (same.moves u few) ∙ sym (moves u few);
  frames = λ u few. same.frames u few ∙ sym (frames u);
  lost = same.lost ∙ sym lost;
}

-- for the frames of a thread
pub same_take : (a b c : Orders) (t n : ℕ) → SameOrders a b
    → ((u : ℕ) → u < 16 → c.frames u ≡ but t n b.frames u) → ((u : ℕ) → c.moves u ≡ b.moves u) → c.lost ≡ b.lost
    → SameOrders (orders_after (line.Take t n) a) c
same_take a b c t n same frames moves lost = record {
  moves = λ u few. same.moves u few ∙ sym (moves u);
  frames = λ u few. ap (λ (o : Option ℕ). cond (nat_eq u t) (Some n) o) (same.frames u few) ∙ sym (frames u few);
  lost = same.lost ∙ sym lost;
}

-- for a frame that is lost
pub same_lose : (a b c : Orders) (f : Message) → SameOrders a b → c.lost ≡ f ∷ b.lost
    → ((u : ℕ) → c.moves u ≡ b.moves u) → ((u : ℕ) → c.frames u ≡ b.frames u)
    → SameOrders (orders_after (line.Lose f.kind f.thread f.number) a) c
same_lose a b c f same lost moves frames = record {
  moves = λ u few. same.moves u few ∙ sym (moves u);
  frames = λ u few. same.frames u few ∙ sym (frames u);
  lost = ap (λ l. f ∷ l) same.lost ∙ sym lost;
}

-- a first part of what came was written
pub lived_begun : {P V : Type 0} (m : Meaning V) (s : Setting V) (names : LiveOutputs) (events : List Event)
    (w : SystemWorld V) (y : Systemed P V) (lines : List ℕ) (x : Scripted) (old now : Shown)
    → HasLivedTo m s names events w y lines x old now → HasBegunLive s names events old now
lived_begun m s names events w y lines x old now h = record {
  written = h.told.written;
  part = (x.text, h.told.script_is);
  ahead = h.told.ahead;
}

-- the system that was given on is somewhere, as it was
pub if_given : {P V : Type 0} (r : Result (Standing P V) RunError) (y : Standing P V) (m : Meaning V)
    → IfOk r (λ z. z ≡ y) → IsSomewhere m y.system → IfOk r (λ z. IsSomewhere m z.system)
if_given {P} {V} (Ok z) y m is here = subst (λ (q : Standing P V). IsSomewhere m q.system) (sym is) here
if_given (Err e) y m none here = tt

-- the meaning of the same program
pub line_same : {P V : Type 0} (r : Result (Standing P V) RunError) (m n : Meaning V) (s : Setting V)
    (names : LiveOutputs) (may : ℕ → Type 0) (w : SystemWorld V) (asked : Orders) (ln : PlanLine) (draws : List Lcg)
    (events : List Event) (after : Orders) (lines : List ℕ) (x : Scripted) (old now : Shown) → m ≡ n
    → GoesLine r m s names may w asked ln draws events after lines x old now
    → GoesLine r n s names may w asked ln draws events after lines x old now
line_same {P} {V} r m n s names may w asked ln draws events after lines x old now same h =
    subst (λ (k : Meaning V). GoesLine r k s names may w asked ln draws events after lines x old now) same h

module _ {P V : Type 0} (m : Meaning V) (s : Setting V) (names : LiveOutputs) (may : ℕ → Type 0) (w : SystemWorld V)
    (asked : Orders) (draws : List Lcg) (events : List Event) (after : Orders) (lines : List ℕ) (x : Scripted)
    (old now : Shown) where
  event_there : (r : Result (Standing P V) RunError) (one ev : Event) (y : Systemed P V) → one ≡ ev
      → GoesOver r m s names w events (ev ∷ []) (standing_in r y) lines x old now
      → GoesOver r m s names w events (one ∷ []) (standing_in r y) lines x old now
  event_there r one ev y is goes =
      subst (λ (e : Event). GoesOver r m s names w events (e ∷ []) (standing_in r y) lines x old now) (sym is) goes

  -- a line of one event
  line_one : (r : Result (Standing P V) RunError) (ln : PlanLine) (ev : Event) (y : Systemed P V)
      → ((next : SystemWorld V) (end : List Lcg) → Does s w (ev ∷ []) next → end ≡ draws
      → IsToldPart s may w asked ln (ev ∷ []) next draws end)
      → ((first : List Event) → AreFirstOf (ev ∷ []) first → BeginsPart s w asked ln first)
      → SameOrders (orders_after ln asked) after → IfOk r (λ z. z.draws ≡ draws)
      → GoesOver r m s names w events (ev ∷ []) (standing_in r y) lines x old now
      → GoesLine r m s names may w asked ln draws events after lines x old now
  line_one (Ok z) ln ev y part begins same given (next, does, lived) =
      (ev ∷ [], next, part next z.draws does given, same, lived)
  line_one (Err e) ln ev y part begins same given (first, is, fails) = (first, begins first is, fails)

  -- a line that is one event, whatever the orders and the world
  pub line_single : (r : Result (Standing P V) RunError) (ln : PlanLine) (ev : Event) (y : Systemed P V)
      → event_of_line ln ≡ Some ev → SameOrders asked after → IfOk r (λ z. z.draws ≡ draws)
      → GoesOver r m s names w events (ev ∷ []) (standing_in r y) lines x old now
      → GoesLine r m s names may w asked ln draws events after lines x old now
  line_single r (line.Feed n) ev y is same given goes =
      line_one r (line.Feed n) (event.Feed n) y (λ next end does kept. ((refl, does), kept)) (λ first begins. begins)
      same given (event_there r (event.Feed n) ev y (let e : event.Feed n ≡ ev = cc in e) goes)
  line_single r line.Snap ev y is same given goes =
      line_one r line.Snap event.Snap y (λ next end does kept. ((refl, does), kept)) (λ first begins. begins)
      same given (event_there r event.Snap ev y (let e : event.Snap ≡ ev = cc in e) goes)
  line_single r line.Store ev y is same given goes =
      line_one r line.Store event.Store y (λ next end does kept. ((refl, does), kept)) (λ first begins. begins)
      same given (event_there r event.Store ev y (let e : event.Store ≡ ev = cc in e) goes)
  line_single r line.Crash ev y is same given goes =
      line_one r line.Crash event.Crash y (λ next end does kept. ((refl, does), kept)) (λ first begins. begins)
      same given (event_there r event.Crash ev y (let e : event.Crash ≡ ev = cc in e) goes)
  line_single r line.Recover ev y is same given goes =
      line_one r line.Recover event.Recover y (λ next end does kept. ((refl, does), kept)) (λ first begins. begins)
      same given (event_there r event.Recover ev y (let e : event.Recover ≡ ev = cc in e) goes)
  line_single r (line.Show v) ev y is same given goes =
      line_one r (line.Show v) (event.Show v) y (λ next end does kept. ((refl, does), kept)) (λ first begins. begins)
      same given (event_there r (event.Show v) ev y (let e : event.Show v ≡ ev = cc in e) goes)
  line_single r (line.Limit t n) ev y is same given goes = absurd (cc)
  line_single r (line.Take t n) ev y is same given goes = absurd (cc)
  line_single r (line.Lose k t n) ev y is same given goes = absurd (cc)
  line_single r line.Round ev y is same given goes = absurd (cc)
  line_single r line.Settle ev y is same given goes = absurd (cc)

  -- a line of none
  pub line_none : (z : Standing P V) (ln : PlanLine) → IsToldPart s may w asked ln [] w draws z.draws
      → SameOrders (orders_after ln asked) after → HasLivedTo m s names events w z.system lines x old now
      → GoesLine (Ok z) m s names may w asked ln draws events after lines x old now
  line_none z ln part same lived = (
    [],
    w,
    part,
    same,
    lived_same m m s names events (events ++ []) w z.system lines x old now refl (sym (append-nil events)) lived,
  )

  -- one for which there was no memory
  pub line_without : (e : RunError) (ln : PlanLine) (y : Systemed P V) → e ≡ run.NoMemory
      → BeginsPart s w asked ln [] → HasLivedTo m s names events w y lines x old now
      → GoesLine {P = P} (Err e) m s names may w asked ln draws events after lines x old now
  line_without e ln y no_memory begins lived = (
    [],
    begins,
    fails_same e s names events (events ++ []) old now (sym (append-nil events))
        (subst (λ (f : RunError). FailsLive f s names events old now) (sym no_memory)
        (lived_begun m s names events w y lines x old now lived)),
  )

  -- one more frame is to be lost
  pub line_lose : (r : Result (Standing P V) RunError) (f : Message) (had : Orders) (y : Standing P V)
      → IfOk r (λ z. z ≡ y) → IfErr r (λ e. e ≡ run.NoMemory) → OnOk r (after.lost ≡ f ∷ had.lost)
      → ((t : ℕ) → after.moves t ≡ had.moves t) → ((t : ℕ) → after.frames t ≡ had.frames t)
      → SameOrders asked had → y.draws ≡ draws → HasLivedTo m s names events w y.system lines x old now
      → GoesLine r m s names may w asked (line.Lose f.kind f.thread f.number) draws events after lines x old now
  line_lose (Ok z) f had y is none lost moves frames same given lived =
      line_none z (line.Lose f.kind f.thread f.number)
      ((refl, refl), ap (λ (q : Standing P V). q.draws) is ∙ given)
      (same_lose asked had after f same lost moves frames)
      (subst (λ (q : Standing P V). HasLivedTo m s names events w q.system lines x old now) (sym is) lived)
  line_lose (Err e) f had y is none lost moves frames same given lived =
      line_without e (line.Lose f.kind f.thread f.number) y.system none refl lived

  pub line_round : (r : Result (Standing P V) RunError) → SameOrders no_orders after
      → GoesToldRound r m s names may w asked draws events lines x old now
      → GoesLine r m s names may w asked line.Round draws events after lines x old now
  line_round (Ok z) same (part, next, round, lived) = (part, next, round, same, lived)
  line_round (Err e) same (part, begins, fails) = (part, inr begins, fails)

  pub line_settle : (r : Result (Standing P V) RunError) → SameOrders no_orders after
      → GoesSettle r m s names may w draws events lines x old now
      → GoesLine r m s names may w asked line.Settle draws events after lines x old now
  line_settle (Ok z) same (part, next, settle, told, lived) = (part, next, (settle, told), same, lived)
  line_settle (Err e) same (part, begins, fails) = (part, begins, fails)

  -- a round while the master is up
  pub round_up : (r : Result (Standing P V) RunError) → w.up ≡ true
      → GoesRound r m s names may w asked draws events lines x old now
      → GoesToldRound r m s names may w asked draws events lines x old now
  round_up (Ok z) up (part, next, round, told, lived) = (part, next, inr (up, round, told), lived)
  round_up (Err e) up (part, begins, fails) = (part, begins, fails)

  -- or down
  pub round_down : (z : Standing P V) → w.up ≡ false → z.draws ≡ draws
      → HasLivedTo m s names events w z.system lines x old now
      → GoesToldRound (Ok z) m s names may w asked draws events lines x old now
  round_down z down same lived = (
    [],
    w,
    inl (down, refl, refl, same),
    lived_same m m s names events (events ++ []) w z.system lines x old now refl (sym (append-nil events)) lived,
  )

-- The lines of a plan, one after another

-- The first lines were performed, and these are the orders behind them.
pub record SoFar {P V : Type 0} (m : Meaning V) (s : Setting V) (names : LiveOutputs) (may : ℕ → Type 0)
    (done : List PlanLine) (orders : Orders) (z : Standing P V) (lines : List ℕ) (x : Scripted)
    (old now : Shown) : Type 0 where
  pub events : List Event
  pub world : SystemWorld V
  pub script : IsLiveScript s may (opening V) no_orders (generators_of s.seed 0 s.threads) done events world z.draws
  pub same : SameOrders (orders_through done no_orders) orders
  pub lived : HasLivedTo m s names events world z.system lines x old now

pub so_far_none : {P V : Type 0} (m : Meaning V) (s : Setting V) (names : LiveOutputs) (may : ℕ → Type 0)
    (orders : Orders) (z : Standing P V) (lines : List ℕ) (x : Scripted) (old now : Shown)
    → z.draws ≡ generators_of s.seed 0 s.threads → SameOrders no_orders orders
    → HasLivedTo m s names [] (opening V) z.system lines x old now
    → SoFar m s names may [] orders z lines x old now
so_far_none {P} {V} m s names may orders z lines x old now draws same lived = record {
  events = [];
  world = opening V;
  script =
      subst (λ (l : List Lcg).
      IsLiveScript s may (opening V) no_orders (generators_of s.seed 0 s.threads) [] [] (opening V) l) (sym draws)
      (LiveEnds (opening V) no_orders (generators_of s.seed 0 s.threads));
  same = same;
  lived = lived;
}

take_line : (plan : List PlanLine) (i : ℕ) (ln : PlanLine) → i < length plan → ln ≡ get_or plan i ln
    → take (suc i) plan ≡ take i plan ++ ln ∷ []
take_line [] i ln low is = absurd (omega arith)
take_line (y ∷ plan) zero ln low is = ap (λ (z : PlanLine). z ∷ []) (sym is)
take_line (y ∷ plan) (suc i) ln low is = ap (λ l. y ∷ l) (take_line plan i ln (omega arith) is)

split_line : (plan : List PlanLine) (i : ℕ) (ln : PlanLine) → i < length plan → ln ≡ get_or plan i ln
    → plan ≡ take i plan ++ ln ∷ drop (suc i) plan
split_line [] i ln low is = absurd (omega arith)
split_line (y ∷ plan) zero ln low is = ap (λ (z : PlanLine). z ∷ plan) (sym is)
split_line (y ∷ plan) (suc i) ln low is = ap (λ l. y ∷ l) (split_line plan i ln (omega arith) is)

take_lines : (plan : List PlanLine) (n : ℕ) → length plan ≤ n → take n plan ≡ plan
take_lines [] zero low = refl
take_lines [] (suc n) low = refl
take_lines (y ∷ plan) zero low = absurd (omega arith)
take_lines (y ∷ plan) (suc n) low = ap (λ l. y ∷ l) (take_lines plan n (omega arith))

any_line : (l : List PlanLine) (i : ℕ) (d e : PlanLine) → i < length l → get_or l i d ≡ get_or l i e
any_line [] i d e low = absurd (omega arith)
any_line (y ∷ l) zero d e low = refl
any_line (y ∷ l) (suc i) d e low = any_line l i d e (omega arith)

-- an element is itself, whatever stands for one that is not there
pub same_line : (plan : List PlanLine) (i : ℕ) (d : PlanLine) → i < length plan
    → get_or plan i d ≡ get_or plan i (get_or plan i d)
same_line plan i d low = any_line plan i d (get_or plan i d) low

module _ {P V : Type 0} (m : Meaning V) (s : Setting V) (names : LiveOutputs) (may : ℕ → Type 0)
    (plan : List PlanLine) (i : ℕ) (ln : PlanLine) (low : i < length plan) (is : ln ≡ get_or plan i ln)
    (orders : Orders) (z : Standing P V) (lines : List ℕ) (x : Scripted) (old now : Shown)
    (far : SoFar m s names may (take i plan) orders z lines x old now) where
  -- one more line was performed
  so_far_more : (y : Standing P V) (after : Orders) (more : List ℕ) (again : Scripted) (new : Shown)
      → GoesLine (Ok y) m s names may far.world (orders_through (take i plan) no_orders) ln z.draws far.events after
      more again old new
      → SoFar m s names may (take (suc i) plan) after y more again old new
  so_far_more y after more again new (part, next, told, same, lived) =
      subst (λ (l : List PlanLine). SoFar m s names may l after y more again old new) (sym (take_line plan i ln low is))
      (record {
        events = far.events ++ part;
        world = next;
        script = live_more s may (opening V) far.world next no_orders (generators_of s.seed 0 s.threads) z.draws y.draws
            (take i plan) ln far.events part far.script told;
        same = subst (λ (o : Orders). SameOrders o after) (sym (orders_append (take i plan) (ln ∷ []) no_orders)) same;
        lived = lived;
      })

  -- as the loop counts
  pub so_far_next : (y : Standing P V) (after : Orders) (more : List ℕ) (again : Scripted) (new : Shown)
      → GoesLine (Ok y) m s names may far.world (orders_through (take i plan) no_orders) ln z.draws far.events after
      more again old new
      → SoFar m s names may (take (i + 1) plan) after y more again old new
  so_far_next y after more again new goes =
      subst (λ (n : ℕ). SoFar m s names may (take n plan) after y more again old new) (sym (add-one i))
      (so_far_more y after more again new goes)

  -- or it came to no end in that line
  pub so_far_fails : (e : RunError) (after : Orders) (more other : List ℕ) (again last : Scripted) (new : Shown)
      → GoesLine {P = P} (Err e) m s names may far.world (orders_through (take i plan) no_orders) ln z.draws far.events
      after more again old new
      → GoesPlan {P = P} (Err e) m s names may plan other last old new
  so_far_fails e after more other again last new (part, begins, fails) = (
    far.events ++ part,
    subst (λ (l : List PlanLine). BeginsScript s (opening V) no_orders l (far.events ++ part))
        (sym (split_line plan i ln low is))
        (begins_behind s (opening V) far.world no_orders (take i plan) (ln ∷ drop (suc i) plan) far.events part
        (live_script s may (opening V) far.world no_orders (generators_of s.seed 0 s.threads) z.draws (take i plan)
        far.events far.script)
        (BeginsHere far.world (orders_through (take i plan) no_orders) ln (drop (suc i) plan) part begins)),
    fails,
  )

-- all lines were
pub so_far_all : {P V : Type 0} (m : Meaning V) (s : Setting V) (names : LiveOutputs) (may : ℕ → Type 0)
    (plan : List PlanLine) (n : ℕ) (orders : Orders) (z : Standing P V) (lines : List ℕ) (x : Scripted)
    (old now : Shown) → length plan ≤ n → SoFar m s names may (take n plan) orders z lines x old now
    → GoesPlan (Ok z) m s names may plan lines x old now
so_far_all {P} {V} m s names may plan n orders z lines x old now low far = (
  far.events,
  far.world,
  subst (λ (l : List PlanLine).
      IsLiveScript s may (opening V) no_orders (generators_of s.seed 0 s.threads) l far.events far.world z.draws)
      (take_lines plan n low) far.script,
  far.lived,
)
