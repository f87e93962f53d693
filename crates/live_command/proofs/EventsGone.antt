-- Events came, and then more behind them.
use Rattle.std.proofs.Common.{◌≡◌, ℕ, ◌+◌, ◌<◌, ◌≤◌, List, [], ◌∷◌, ◌++◌, take, drop, length, refl, sym, ap, ◌∙◌}
use Rattle.std.proofs.Common.{append_assoc, append-nil, subst, Result, Ok, Err, zero, suc, arith, get_or, add-one}
use Rattle.plain_machine.specs.Program.{Meaning}
use Rattle.world_io.specs.World.{Shown}
use Rattle.recovery_world.specs.declared.event.Event.{Event}
use Rattle.recovery_world.specs.World.{Setting, World as SystemWorld}
use Rattle.recovery_world.specs.Files.{Rests}
use Rattle.recovery_world.specs.Many.{Message, arrival}
use Rattle.run_command.specs.FromRecoveryCore.{Systemed}
use Rattle.output_files.specs.Writes.{KeepsOutputs}
use Rattle.run_writes.specs.declared.error.RunError.{RunError}
use Rattle.std.specs.Prelude.{IfOk, OnOk}
use Rattle.run_command.specs.Running.{IsSomewhere}
use Rattle.plan_script.specs.Begun.{AreFirstOf}
use Rattle.plan_script.specs.Rounds.{Does, arrival_events}
use Rattle.plan_script.proofs.Performing.{does_append}
use Rattle.live_writes.specs.Outputs.{LiveOutputs}
use Rattle.live_writes.specs.Script.{Scripted}
use Rattle.live_writes.specs.Told.{AreOpen, FailsLive}
use Rattle.live_command.specs.declared.standing.Standing.{Standing}
use Rattle.live_command.specs.Going.{GoesOver, HasLivedTo}

-- outputs that are open stay open
pub still_open : (names : LiveOutputs) (first second third : ℕ) (old new : Shown) → KeepsOutputs old new
    → AreOpen names first second third old → AreOpen names first second third new
still_open names first second third old new keeps are = record {
  released = keeps _ _ are.released;
  schedule = keeps _ _ are.schedule;
  script = keeps _ _ are.script;
}

-- the meaning of the same program, and events that are the same
pub lived_same : {P V : Type 0} (m n : Meaning V) (s : Setting V) (names : LiveOutputs) (events other : List Event)
    (w : SystemWorld V) (y : Systemed P V) (lines : List ℕ) (x : Scripted) (old now : Shown) → m ≡ n
    → events ≡ other → HasLivedTo m s names events w y lines x old now
    → HasLivedTo n s names other w y lines x old now
lived_same {P} {V} m n s names events other w y lines x old now same all h =
    subst (λ (k : Meaning V). HasLivedTo k s names other w y lines x old now) same
    (subst (λ (l : List Event). HasLivedTo m s names l w y lines x old now) all h)

-- the first of the second ones stand behind all of the first
pub first_behind : (one two begun : List Event) → AreFirstOf two begun → AreFirstOf (one ++ two) (one ++ begun)
first_behind one two begun (rest, is) = (rest, ap (λ l. one ++ l) is ∙ sym (append_assoc one begun rest))

pub first_longer : (one two begun : List Event) → AreFirstOf one begun → AreFirstOf (one ++ two) begun
first_longer one two begun (rest, is) = (rest ++ two, ap (λ l. l ++ two) is ∙ append_assoc begun rest two)

pub all_first : (events : List Event) → AreFirstOf events events
all_first events = ([], sym (append-nil events))

pub fails_same : {V : Type 0} (e : RunError) (s : Setting V) (names : LiveOutputs) (events other : List Event)
    (old now : Shown) → events ≡ other → FailsLive e s names events old now → FailsLive e s names other old now
fails_same {V} e s names events other old now all h =
    subst (λ (l : List Event). FailsLive e s names l old now) all h

module _ {A P V : Type 0} (s : Setting V) (names : LiveOutputs) (w : SystemWorld V) (events first part : List Event)
    (old : Shown) where
  -- events came behind those that had come
  pub over_append : (r : Result A RunError) (m n : Meaning V) (mid : SystemWorld V) (y : Systemed P V)
      (lines : List ℕ) (x : Scripted) (now : Shown) → n ≡ m → Does s w first mid
      → GoesOver r n s names mid (events ++ first) part y lines x old now
      → GoesOver r m s names w events (first ++ part) y lines x old now
  over_append (Ok done) m n mid y lines x now same does (next, more, lived) = (
    next,
    does_append s w mid next first part does more,
    lived_same n m s names ((events ++ first) ++ part) (events ++ (first ++ part)) next y lines x old now same
        (append_assoc events first part) lived,
  )
  over_append (Err e) m n mid y lines x now same does (begun, is, fails) = (
    first ++ begun,
    first_behind first part begun is,
    fails_same e s names ((events ++ first) ++ begun) (events ++ (first ++ begun)) old now
        (append_assoc events first begun) fails,
  )

-- after an error they are the first of more
pub over_longer : (A B : Type 0) {P V : Type 0} (s : Setting V) (names : LiveOutputs) (w : SystemWorld V)
    (events first part : List Event) (old : Shown) (e : RunError) (m n : Meaning V) (y z : Systemed P V)
    (lines more : List ℕ) (x again : Scripted) (now : Shown)
    → GoesOver {A = A} (Err e) m s names w events first y lines x old now
    → GoesOver {A = B} (Err e) n s names w events (first ++ part) z more again old now
over_longer A B s names w events first part old e m n y z lines more x again now (begun, is, fails) = (
  begun,
  first_longer first part begun is,
  fails,
)

-- nothing came
pub over_nothing : {A P V : Type 0} (done : A) (m : Meaning V) (s : Setting V) (names : LiveOutputs)
    (w : SystemWorld V) (events : List Event) (y : Systemed P V) (lines : List ℕ) (x : Scripted) (old now : Shown)
    → HasLivedTo m s names events w y lines x old now → GoesOver (Ok done) m s names w events [] y lines x old now
over_nothing done m s names w events y lines x old now h = (
  w,
  ([], Rests w),
  lived_same m m s names events (events ++ []) w y lines x old now refl (sym (append-nil events)) h,
)

pub over_same : {A P V : Type 0} (r : Result A RunError) (m n : Meaning V) (s : Setting V) (names : LiveOutputs)
    (w : SystemWorld V) (events part other : List Event) (y : Systemed P V) (lines : List ℕ) (x : Scripted)
    (old now : Shown) → m ≡ n → part ≡ other → GoesOver r m s names w events part y lines x old now
    → GoesOver r n s names w events other y lines x old now
over_same {A} {P} {V} r m n s names w events part other y lines x old now same all h =
    subst (λ (k : Meaning V). GoesOver r k s names w events other y lines x old now) same
    (subst (λ (l : List Event). GoesOver r m s names w events l y lines x old now) all h)

-- Messages, one after another

pub arrivals_here : (frames : List Message) (i : ℕ) (f : Message) → i < length frames → f ≡ get_or frames i f
    → arrival_events (take (suc i) frames) ≡ arrival_events (take i frames) ++ arrival f ∷ []
arrivals_here [] i f low is = absurd (omega arith)
arrivals_here (y ∷ frames) zero f low is = ap (λ (z : Message). arrival z ∷ []) (sym is)
arrivals_here (y ∷ frames) (suc i) f low is = ap (λ l. arrival y ∷ l) (arrivals_here frames i f (omega arith) is)

pub arrivals_split : (frames : List Message) (i : ℕ) (f : Message) → i < length frames → f ≡ get_or frames i f
    → arrival_events frames
    ≡ (arrival_events (take i frames) ++ arrival f ∷ []) ++ arrival_events (drop (suc i) frames)
arrivals_split [] i f low is = absurd (omega arith)
arrivals_split (y ∷ frames) zero f low is = ap (λ (z : Message). arrival z ∷ arrival_events frames) (sym is)
arrivals_split (y ∷ frames) (suc i) f low is =
    ap (λ l. arrival y ∷ l) (arrivals_split frames i f (omega arith) is)

pub arrivals_all : (frames : List Message) (n : ℕ) → length frames ≤ n
    → arrival_events (take n frames) ≡ arrival_events frames
arrivals_all [] zero low = refl
arrivals_all [] (suc n) low = refl
arrivals_all (y ∷ frames) zero low = absurd (omega arith)
arrivals_all (y ∷ frames) (suc n) low = ap (λ l. arrival y ∷ l) (arrivals_all frames n (omega arith))

any_message : (l : List Message) (i : ℕ) (d e : Message) → i < length l → get_or l i d ≡ get_or l i e
any_message [] i d e low = absurd (omega arith)
any_message (y ∷ l) zero d e low = refl
any_message (y ∷ l) (suc i) d e low = any_message l i d e (omega arith)

-- an element is itself, whatever stands for one that is not there
pub same_message : (frames : List Message) (i : ℕ) (d : Message) → i < length frames
    → get_or frames i d ≡ get_or frames i (get_or frames i d)
same_message frames i d low = any_message frames i d (get_or frames i d) low

pub arrivals_on : (frames : List Message) (i : ℕ) (f : Message) (ev : Event) → i < length frames
    → f ≡ get_or frames i f → ev ≡ arrival f
    → arrival_events (take i frames) ++ ev ∷ [] ≡ arrival_events (take (i + 1) frames)
arrivals_on frames i f ev low is ev_is =
    ap (λ (e : Event). arrival_events (take i frames) ++ e ∷ []) ev_is
    ∙ sym (arrivals_here frames i f low is)
    ∙ ap (λ (n : ℕ). arrival_events (take n frames)) (sym (add-one i))

pub arrivals_cut : (frames : List Message) (i : ℕ) (f : Message) (ev : Event) → i < length frames
    → f ≡ get_or frames i f → ev ≡ arrival f
    → (arrival_events (take i frames) ++ ev ∷ []) ++ arrival_events (drop (suc i) frames) ≡ arrival_events frames
arrivals_cut frames i f ev low is ev_is =
    ap (λ (e : Event). (arrival_events (take i frames) ++ e ∷ []) ++ arrival_events (drop (suc i) frames)) ev_is
    ∙ sym (arrivals_split frames i f low is)

-- where it ended, the system is somewhere, by the meaning of the same program
pub on_same : {A E P V : Type 0} (r : Result A E) (m n : Meaning V) (y : Systemed P V) → m ≡ n
    → OnOk r (IsSomewhere m y) → OnOk r (IsSomewhere n y)
on_same {A} {E} {P} {V} r m n y same h = subst (λ (k : Meaning V). OnOk r (IsSomewhere k y)) same h

-- the same of a system that is given on
pub if_same : {P V : Type 0} (r : Result (Standing P V) RunError) (m n : Meaning V) → m ≡ n
    → IfOk r (λ y. IsSomewhere m y.system) → IfOk r (λ y. IsSomewhere n y.system)
if_same {P} {V} r m n same h = subst (λ (k : Meaning V). IfOk r (λ y. IsSomewhere k y.system)) same h
