-- A settling goes from its feed over its round to its arrivals.
use Rattle.std.proofs.Common.{◌≡◌, ℕ, List, ◌++◌, refl, sym, ◌∙◌, subst, inl, inr, Result, Ok, Err}
use Rattle.std.proofs.Common.{append_assoc}
use Rattle.std.specs.Prelude.{IfOk}
use Rattle.rand_pcg.specs.Lcg.{Lcg}
use Rattle.plain_machine.specs.Program.{Meaning}
use Rattle.world_io.specs.World.{Shown}
use Rattle.recovery_world.specs.declared.event.Event.{Event}
use Rattle.recovery_world.specs.Many.{all_messages}
use Rattle.recovery_world.specs.World.{Setting, World as SystemWorld}
use Rattle.run_command.specs.FromRecoveryCore.{Systemed}
use Rattle.run_writes.specs.declared.error.RunError.{RunError}
use Rattle.plan_script.specs.Orders.{Orders, no_orders}
use Rattle.plan_script.specs.Rounds.{Does, IsRound, arrival_events}
use Rattle.plan_script.specs.Scripts.{Wakes, feeding}
use Rattle.live_writes.specs.Outputs.{LiveOutputs}
use Rattle.live_writes.specs.Script.{Scripted}
use Rattle.live_command.specs.declared.standing.Standing.{Standing}
use Rattle.live_command.specs.Going.{GoesFed, GoesOver, GoesRound, GoesSettle, SameOrders, standing_in}
use Rattle.live_command.specs.Telling.{AreTold}
use Rattle.live_command.proofs.EventsGone.{fails_same, first_behind, lived_same}

-- orders in memory that were never given are those of no line
pub none_given : (orders : Orders) → ((t : ℕ) → orders.moves t ≡ no_orders.moves t)
    → ((t : ℕ) → orders.frames t ≡ no_orders.frames t) → orders.lost ≡ no_orders.lost
    → SameOrders no_orders orders
none_given orders moves frames lost = record {
  moves = λ t few. sym (moves t);
  frames = λ t few. sym (frames t);
  lost = sym lost;
}

-- the meaning of the same program
pub round_same : {P V : Type 0} (r : Result (Standing P V) RunError) (m n : Meaning V) (s : Setting V)
    (names : LiveOutputs) (may : ℕ → Type 0) (w : SystemWorld V) (asked : Orders) (draws : List Lcg)
    (events : List Event) (lines : List ℕ) (x : Scripted) (old now : Shown) → m ≡ n
    → GoesRound r m s names may w asked draws events lines x old now
    → GoesRound r n s names may w asked draws events lines x old now
round_same {P} {V} r m n s names may w asked draws events lines x old now same h =
    subst (λ (k : Meaning V). GoesRound r k s names may w asked draws events lines x old now) same h

-- it came to no end before the round
pub not_fed : (A : Type 0) {P V : Type 0} (m : Meaning V) (s : Setting V) (names : LiveOutputs) (may : ℕ → Type 0)
    (w : SystemWorld V) (draws : List Lcg) (events : List Event) (old : Shown) (e : RunError) (y : Systemed P V)
    (lines more : List ℕ) (x again : Scripted) (now : Shown)
    → GoesFed {A = A} (Err e) m s names w events y lines x old now
    → GoesSettle {P = P} (Err e) m s names may w draws events more again old now
not_fed A m s names may w draws events old e y lines more x again now (wake, first, wakes, is, fails) =
    (first, inl (wake, wakes, is), fails)

-- in the round
pub not_run : (P : Type 0) {V : Type 0} (m : Meaning V) (s : Setting V) (names : LiveOutputs) (may : ℕ → Type 0)
    (w : SystemWorld V) (draws : List Lcg) (events : List Event) (old : Shown) (wake : List Event)
    (fed : SystemWorld V) → Wakes w wake → Does s w (feeding s w wake) fed → (e : RunError)
    (lines more : List ℕ) (x again : Scripted) (now : Shown)
    → GoesRound {P = P} (Err e) m s names may fed no_orders draws (events ++ feeding s w wake) lines x old now
    → GoesSettle {P = P} (Err e) m s names may w draws events more again old now
not_run P m s names may w draws events old wake fed wakes feeds e lines more x again now (part, begins, fails) = (
  feeding s w wake ++ part,
  inr (inl (record {
    wake = wake;
    wakes = wakes;
    fed = fed;
    feeds = feeds;
    round = part;
    begins = begins;
    events_are = refl;
  })),
  fails_same e s names ((events ++ feeding s w wake) ++ part) (events ++ (feeding s w wake ++ part)) old now
      (append_assoc events (feeding s w wake) part) fails,
)

module _ {P V : Type 0} (m : Meaning V) (s : Setting V) (names : LiveOutputs) (may : ℕ → Type 0) (w : SystemWorld V)
    (draws : List Lcg) (events : List Event) (old : Shown) where
  module _ (wake : List Event) (fed : SystemWorld V) (wakes : Wakes w wake) (feeds : Does s w (feeding s w wake) fed)
    where
      -- all of it came, or it came to no end while messages arrive
      pub settled : (r : Result (Standing P V) RunError) (round : List Event) (ran : SystemWorld V)
          (y : Systemed P V) (between : List Lcg) (lines : List ℕ) (x : Scripted) (now : Shown)
          → (runs : IsRound s fed no_orders round ran) → AreTold s may fed runs.steps draws between
          → IfOk r (λ z. z.draws ≡ between)
          → GoesOver r m s names ran ((events ++ feeding s w wake) ++ round) (arrival_events (all_messages s ran))
          (standing_in r y) lines x old now
          → GoesSettle r m s names may w draws events lines x old now
      settled (Ok z) round ran y between lines x now runs told given (next, arrive, lived) =
          let fed_and = feeding s w wake in
          let arrivals = arrival_events (all_messages s ran) in (
            fed_and ++ (round ++ arrivals),
            next,
            record {
              wake = wake;
              wakes = wakes;
              fed = fed;
              feeds = feeds;
              round = round;
              ran = ran;
              runs = runs;
              arrive = arrive;
              events_are = refl;
            },
            subst (λ (l : List Lcg). AreTold s may fed runs.steps draws l) (sym given) told,
            lived_same m m s names (((events ++ fed_and) ++ round) ++ arrivals)
                (events ++ (fed_and ++ (round ++ arrivals))) next z.system lines x old now refl
                (append_assoc (events ++ fed_and) round arrivals ∙ append_assoc events fed_and (round ++ arrivals))
                lived,
          )
      settled (Err e) round ran y between lines x now runs told given (first, is, fails) =
          let fed_and = feeding s w wake in
          let arrivals = arrival_events (all_messages s ran) in (
            fed_and ++ (round ++ first),
            inr (inr (record {
              wake = wake;
              wakes = wakes;
              fed = fed;
              feeds = feeds;
              round = round;
              ran = ran;
              runs = runs;
              first = first_behind fed_and (round ++ arrivals) (round ++ first) (first_behind round arrivals first is);
            })),
            fails_same e s names (((events ++ fed_and) ++ round) ++ first) (events ++ (fed_and ++ (round ++ first))) old
                now (append_assoc (events ++ fed_and) round first ∙ append_assoc events fed_and (round ++ first)) fails,
          )
