-- A round is told.
use Rattle.std.proofs.Common.{◌≡◌, ◌⊎◌, ℕ, ◌<◌, ◌≤◌, true, List, [], ◌∷◌, ◌++◌, length, take, refl, sym, ap, ◌∙◌, subst}
use Rattle.std.proofs.Common.{inl, inr, append-nil, append_assoc, Result, Ok, Err, Option, Some, None, nat_eq, arith}
use Rattle.std.specs.Prelude.{⊤, IfOk, OnOk}
use Rattle.std.proofs.lemmas.List.{drop_all}
use Rattle.std.proofs.Common.{false, zero, suc}
use Rattle.std.proofs.lemmas.Bool.Decides.{nat_tests}
use Rattle.rand_pcg.specs.Lcg.{Lcg}
use Rattle.plain_text.specs.declared.packet.Packet.{Packet}
use Rattle.plain_text.specs.declared.limit.Limit.{Limit}
use Rattle.input_logger.specs.Inputs.{Fed}
use Rattle.plain_machine.specs.Program.{Meaning}
use Rattle.plain_machine.specs.History.{IsHistory, Step, moves_of}
use Rattle.plain_machine.specs.declared.plain_move.PlainMove.{PlainMove}
use Rattle.world_io.specs.World.{Shown}
use Rattle.recovery_world.specs.declared.event.Event.{Event}
use Rattle.recovery_world.specs.declared.event.Event.TheVariants as event
use Rattle.recovery_world.specs.Many.{Message}
use Rattle.recovery_world.specs.World.{Setting, World as SystemWorld, inputs_fed}
use Rattle.run_command.specs.FromRecoveryCore.{Systemed, SystemStands}
use Rattle.recovery_world.specs.Many.{SingleStops}
use Rattle.recovery_world.specs.Files.{packets_of}
use Rattle.output_files.specs.declared.error.OutputError.{OutputError}
use Rattle.output_files.specs.declared.error.OutputError.TheVariants as output
use Rattle.output_files.specs.Writes.{HasWritten, Write}
use Rattle.output_files.proofs.Effects.{nothing_gathered}
use Rattle.run_writes.specs.Errors.{run_result_of}
use Rattle.run_writes.specs.Replies.{newly_released}
use Rattle.run_writes.specs.Run.{WritesUntil, release_writes, writes_of}
use Rattle.script_text.specs.Scripts.{script_text}
use Rattle.run_writes.specs.declared.error.RunError.{RunError}
use Rattle.run_command.specs.Running.{IsSomewhere, IsSystemAt}
use Rattle.live_workers.specs.FromRoundJoin.{Noted}
use Rattle.live_workers.specs.FromRoundJoin.{StoppedAt, events_noted, lines_noted}
use Rattle.live_workers.proofs.FromRoundJoin.{noted_perform}
use Rattle.plan_script.specs.Orders.{AreLeft, Orders, first_ones}
use Rattle.plan_script.specs.Rounds.{AreWoven, Does, HasStopped, IsRace, IsRound, arrival_events, frames_of, of_thread}
use Rattle.plan_script.specs.Rounds.{step_events}
use Rattle.plan_script.specs.Begun.{AreFirstOf, BeginsRound, IsCutRace}
use Rattle.live_workers.specs.Rounds.{IsRoundTo, Rounds}
use Rattle.live_writes.specs.Outputs.{LiveOutputs, holding}
use Rattle.live_writes.specs.Script.{Scripted}
use Rattle.live_writes.specs.Told.{FailsLive, HasBegunLive, HasTold, IsStopped}
use Rattle.live_command.specs.declared.standing.Standing.{Standing}
use Rattle.live_command.specs.Going.{GoesOver, GoesRace, GoesRound, HasLivedTo, SameOrders, StopsRace, standing_in}
use Rattle.live_command.specs.Telling.{AreTold}
use Rattle.live_command.specs.Writing.{Keeps}
use Rattle.live_command.proofs.WritingSteps.{gathered_none}

-- The steps of a round are of threads that there are.

below : {V : Type 0} (m : Meaning V) (inputs : ℕ → List Packet) (threads t : ℕ) (steps past : List (Step V))
    → IsHistory m inputs threads (steps ++ past) → threads ≤ t → frames_of t steps ≡ []
below m inputs threads t [] past h high = refl
below m inputs threads t (x ∷ steps) past h high =
    let low : x.thread < threads = h.0.0 in
    let apart : nat_eq x.thread t ≡ false = grind (arith, nat_tests) in
    rw apart (below m inputs threads t steps past h.1 high)

none_taken : {A : Type 0} (n : ℕ) → take {A = A} n [] ≡ []
none_taken zero = refl
none_taken (suc n) = refl

first_none : {A : Type 0} (o : Option ℕ) → first_ones {A = A} o [] ≡ []
first_none None = refl
first_none (Some n) = none_taken n

-- What arrives by the one orders does by the others, which are the same for the threads that there may be.
same_arrived : {V : Type 0} (threads : ℕ) (steps : List (Step V)) (asked given : Orders) (arrivals : List Message)
    → threads ≤ 16 → SameOrders asked given → ((t : ℕ) → threads ≤ t → frames_of t steps ≡ [])
    → ((t : ℕ) → AreLeft given.lost (first_ones (given.frames t) (frames_of t steps)) (of_thread t arrivals))
    → (t : ℕ) → AreLeft asked.lost (first_ones (asked.frames t) (frames_of t steps)) (of_thread t arrivals)
same_arrived threads steps asked given arrivals few same none arrived t =
    subst (λ (l : List Message).
    AreLeft l (first_ones (asked.frames t) (frames_of t steps)) (of_thread t arrivals)) (sym same.lost)
    (go (or_high t))
  where
    or_high : (t : ℕ) → (t < 16) ⊎ (threads ≤ t)
    or_high t = grind (arith)

    go : (t < 16) ⊎ (threads ≤ t)
        → AreLeft given.lost (first_ones (asked.frames t) (frames_of t steps)) (of_thread t arrivals)
    go (inl low) = subst (λ (o : Option ℕ).
        AreLeft given.lost (first_ones o (frames_of t steps)) (of_thread t arrivals)) (sym (same.frames t low))
        (arrived t)
    go (inr high) =
        let empty : first_ones (given.frames t) (frames_of t steps) ≡ first_ones (asked.frames t) (frames_of t steps) =
        ap (λ (l : List Message). first_ones (given.frames t) l) (none t high)
        ∙ first_none (given.frames t)
        ∙ sym (first_none (asked.frames t))
        ∙ ap (λ (l : List Message). first_ones (asked.frames t) l) (sym (none t high)) in
        subst (λ (l : List Message). AreLeft given.lost l (of_thread t arrivals)) empty (arrived t)

-- the generators are those after the round
abbrev pub Drawn : {P V : Type 0} → Result (Standing P V) RunError → List Lcg → Type 0
Drawn (Ok y) after = y.draws ≡ after
Drawn (Err error) after = Unit {0}

module _ {P V : Type 0} (m : Meaning V) (s : Setting V) (w : SystemWorld V) (may : ℕ → Type 0) (asked given : Orders)
    (draws after : List Lcg) (noted : List Noted) (arriving : List Message) (y z : Systemed P V)
    (stands : SystemStands m s w y) (few : s.threads ≤ 16) (same : SameOrders asked given)
    (rounds : Rounds m s w given may y.parts.guide draws noted arriving after z) where
  abbrev pub there : SystemWorld V
  there = rounds.0

  abbrev pub r : IsRoundTo s w given may y.parts.guide draws noted arriving after rounds.0
  r = rounds.1

  past_is : there.past ≡ r.steps ++ w.past
  past_is = ap (λ (x : SystemWorld V). x.past) r.world.world

  go : Does s w (step_events r.steps) there
  go = subst (λ (l : List Event). Does s w l there) r.events_are (
    lines_noted noted,
    noted_perform s w noted there
        r.performs,
  )

  -- the race of the round, by the orders that were asked
  pub raced : IsRace s w asked r.steps there arriving
  raced = record {
    go = go;
    past = past_is;
    woven = r.woven;
    stopped = λ t low. subst (λ (o : Option ℕ). HasStopped s there t o (moves_of t r.steps))
        (sym (same.moves t (omega arith))) (r.stopped t low);
    arrived = same_arrived s.threads r.steps asked given arriving few same
        (λ t high. below s.meaning (inputs_fed s there.fed) s.threads t r.steps w.past
        (subst (λ (l : List (Step V)). IsHistory s.meaning (inputs_fed s there.fed) s.threads l) past_is
        rounds.2.parts.sound.firm.legal) high) r.arrive;
  }

  pub told : AreTold s may w r.steps draws after
  told = record {
    guide = y.parts.guide;
    guides = stands.parts.guide.follows;
    told = r.told;
    count = r.count;
  }

  pub up_is : y.parts.up ≡ true → w.up ≡ true
  up_is up = sym stands.parts.master.up ∙ up

  -- what the round came to, where it was told
  pub round_told : (names : LiveOutputs) (events : List Event) (up : y.parts.up ≡ true)
      (result : Result (Standing P V) RunError) (lines : List ℕ) (x : Scripted) (old now : Shown)
      → Drawn result after
      → GoesRace result m s names there events (events_noted noted) arriving (standing_in result z) lines x old now
      → GoesRound result m s names may w asked draws events lines x old now
  round_told names events up (Ok standing) lines x old now given_on (next, does, lived) =
      let part : List Event = step_events r.steps ++ arrival_events arriving in
      let round : IsRound s w asked part next = record {
        steps = r.steps;
        there = there;
        arrivals = arriving;
        race = raced;
        arrive = does;
        events_are = refl;
      } in (
        part,
        next,
        round,
        subst (λ (l : List Lcg). AreTold s may w r.steps draws l) (sym given_on) told,
        subst (λ (l : List Event).
            HasLivedTo m s names (events ++ (l ++ arrival_events arriving)) next standing.system lines x old now)
            r.events_are lived,
      )
  round_told names events up (Err error) lines x old now given_on (first, firsts, fails) = (
    first,
    (
      up_is up,
      inr (record {
        steps = r.steps;
        there = there;
        arrivals = arriving;
        race = raced;
        first = subst (λ (l : List Event). AreFirstOf (l ++ arrival_events arriving) first) r.events_are firsts;
      }),
    ),
    fails,
  )

-- What is so of the system of a round, whatever was asked.

-- all that was released was handed over, and so it is still
pub round_at : {P V : Type 0} (m : Meaning V) (s : Setting V) (w : SystemWorld V) (orders : Orders)
    (may : ℕ → Type 0) (draws : List Lcg) (noted : List Noted) (arriving : List Message) (after : List Lcg)
    (y z : Systemed P V) → IsSystemAt m s w y → z.handed ≡ y.handed → z.fresh ≡ y.fresh
    → (rounds : Rounds m s w orders may y.parts.guide draws noted arriving after z) → IsSystemAt m s rounds.0 z
round_at m s w orders may draws noted arriving after y z at handed fresh rounds = record {
  stands = rounds.2;
  fresh = fresh ∙ at.fresh;
  handed = handed ∙ at.handed ∙ ap (λ x. length x.released) (sym rounds.1.world.world);
}

pub round_draws : {P V : Type 0} (m : Meaning V) (s : Setting V) (w : SystemWorld V) (orders : Orders)
    (may : ℕ → Type 0) (draws : List Lcg) (noted : List Noted) (arriving : List Message) (after : List Lcg)
    (y z : Systemed P V) → Rounds m s w orders may y.parts.guide draws noted arriving after z
    → length after ≡ z.parts.inputs.threads
round_draws m s w orders may draws noted arriving after y z rounds =
    rounds.1.count ∙ sym (ap (λ (f : Fed). f.threads) rounds.2.parts.inputs.inputs)

pub round_threads : {P V : Type 0} (m : Meaning V) (s : Setting V) (w : SystemWorld V) (orders : Orders)
    (may : ℕ → Type 0) (draws : List Lcg) (noted : List Noted) (arriving : List Message) (after : List Lcg)
    (y z : Systemed P V) → IsSystemAt m s w y → Rounds m s w orders may y.parts.guide draws noted arriving after z
    → z.parts.inputs.threads ≡ y.parts.inputs.threads
round_threads m s w orders may draws noted arriving after y z at rounds =
    ap (λ (f : Fed). f.threads) rounds.2.parts.inputs.inputs
    ∙ sym (ap (λ (f : Fed). f.threads) at.stands.parts.inputs.inputs)

-- what is so of the system that is given on

pub somewhere_on : {P V : Type 0} (r : Result (Standing P V) RunError) (n m : Meaning V) → n ≡ m
    → IfOk r (λ y. IsSomewhere n y.system) → IfOk r (λ y. IsSomewhere m y.system)
somewhere_on {P} {V} r n m same h = subst (λ (k : Meaning V). IfOk r (λ y. IsSomewhere k y.system)) same h

pub threads_on : {P V : Type 0} (r : Result (Standing P V) RunError) (a b : ℕ) → a ≡ b
    → IfOk r (λ y. y.system.parts.inputs.threads ≡ a) → IfOk r (λ y. y.system.parts.inputs.threads ≡ b)
threads_on {P} {V} r a b same h = subst (λ (n : ℕ). IfOk r (λ y. y.system.parts.inputs.threads ≡ n)) same h

pub drawn_on : {P V : Type 0} (r : Result (Standing P V) RunError) (after : List Lcg)
    → IfOk r (λ y. y.draws ≡ after) → Drawn r after
drawn_on (Ok y) after h = h
drawn_on (Err e) after h = tt

-- A round that stopped at a limit

-- no event was told
none_raced : {V : Type 0} (s : Setting V) (w : SystemWorld V) → IsCutRace s w []
none_raced s w = record {
  steps = [];
  woven = record { left = []; led = []; parts = refl; more = []; in_order = tt; led_on = refl; rest = tt };
  first = ([], refl);
}

module _ {V : Type 0} (s : Setting V) (names : LiveOutputs) (w : SystemWorld V) (limit : Limit) (events : List Event)
    (noted : List Noted) (next : PlainMove) (steps : List (Step V)) (woven : AreWoven w.past steps)
    (stopped : StoppedAt s w (step_events steps) noted limit next) where
  abbrev pub last : Event
  last = event.Step next.thread next.answer

  -- the first of the noted events are the first of the race
  firsts : (first : List Event) → AreFirstOf (events_noted noted) first → IsCutRace s w first
  firsts first (rest, is) = record {
    steps = steps;
    woven = woven;
    first = (
      rest ++ last ∷ stopped.left,
      sym stopped.all_are
          ∙ ap (λ (l : List Event). l ++ last ∷ stopped.left) is
          ∙ append_assoc first rest (last ∷ stopped.left),
    );
  }

  -- and so is the one that would pass the limit behind them
  all : IsCutRace s w (events_noted noted ++ last ∷ [])
  all = record {
    steps = steps;
    woven = woven;
    first = (stopped.left, sym stopped.all_are ∙ sym (append_assoc (events_noted noted) (last ∷ []) stopped.left));
  }

  module _ (old now : Shown) where
    -- an error before all of it was told
    pub steps_failed : {A : Type 0} (r : Result A RunError) (e : RunError) → r ≡ Err e → (first : List Event)
        → AreFirstOf (events_noted noted) first → FailsLive e s names (events ++ first) old now
        → StopsRace r s names w limit events old now
    steps_failed {A} r e is first first_of fails =
        subst (λ (z : Result A RunError). StopsRace z s names w limit events old now) (sym is)
        (first, firsts first first_of, fails)

    pub last_failed : {A : Type 0} (r : Result A RunError) (e : RunError) → r ≡ Err e
        → FailsLive e s names ((events ++ events_noted noted) ++ last ∷ []) old now
        → StopsRace r s names w limit events old now
    last_failed {A} r e is fails =
        subst (λ (z : Result A RunError). StopsRace z s names w limit events old now) (sym is) (
          events_noted noted ++ last ∷ [],
          all,
          subst (λ (l : List Event). FailsLive e s names l old now)
              (append_assoc events (events_noted noted) (last ∷ [])) fails,
        )

    -- all was told and written
    module _ (x : Scripted) (none : x.text ≡ [])
        (h : HasTold s names (events ++ events_noted noted) ((events ++ events_noted noted) ++ last ∷ []) stopped.there
        [] x old now) where
      abbrev pub told_all : List Event
      told_all = (events ++ events_noted noted) ++ last ∷ []

      abbrev pub till : List Write
      till =
          writes_of names.outputs s.fractions h.replies
          ++ release_writes names.outputs.released (newly_released stopped.there stopped.there)

      no_news : newly_released stopped.there stopped.there ≡ []
      no_news = ap packets_of
          (drop_all (length stopped.there.released) stopped.there.released (omega arith))

      script_whole : h.written ≡ script_text told_all
      script_whole =
          sym (append-nil h.written) ∙ ap (λ (l : List ℕ). h.written ++ l) (sym none) ∙ sym h.script_is

      until : WritesUntil s names.outputs told_all limit till
      until = record {
        before = events ++ events_noted noted;
        event = last;
        after = [];
        events_are = refl;
        replies = h.replies;
        there = stopped.there;
        answers = h.answers;
        world = stopped.there;
        stops = SingleStops last limit stopped.passes;
        writes_are = refl;
      }

      written_till : HasWritten till (holding names.script (script_text told_all) old) now
      written_till =
          subst (λ (l : List Packet).
          HasWritten (writes_of names.outputs s.fractions h.replies ++ release_writes names.outputs.released l)
          (holding names.script (script_text told_all) old) now) (sym no_news)
          (subst (λ (l : List ℕ).
          HasWritten (writes_of names.outputs s.fractions h.replies ++ release_writes names.outputs.released [])
          (holding names.script l old) now) script_whole
          (gathered_none _ (holding names.script h.written old) now
          (nothing_gathered (writes_of names.outputs s.fractions h.replies) [] names.outputs.released [] _ now refl
          h.gathered)))

      is_stopped : IsStopped s names told_all limit old now
      is_stopped = record { writes = till; until = until; written = written_till }

      pub stop_told : (part : List Event) × IsCutRace s w part × IsStopped s names (events ++ part) limit old now
      stop_told = (
        events_noted noted ++ last ∷ [],
        all,
        subst (λ (l : List Event). IsStopped s names l limit old now)
            (append_assoc events (events_noted noted) (last ∷ [])) is_stopped,
      )

    -- what was gathered is written
    pub flushed : (files : Result ⊤ OutputError) (r : Result ⊤ RunError) (lines : List ℕ) (x : Scripted)
        → r ≡ run_result_of files
        → Keeps files s names (events ++ events_noted noted) ((events ++ events_noted noted) ++ last ∷ []) stopped.there
        lines x old now → OnOk files (lines ≡ []) → OnOk files (x.text ≡ [])
        → StopsRace r s names w limit events old now
    flushed files r lines x is keeps no_lines no_text =
        subst (λ (z : Result ⊤ RunError). StopsRace z s names w limit events old now) (sym is)
        (go files keeps no_lines no_text)
      where
        begun : HasBegunLive s names ((events ++ events_noted noted) ++ last ∷ []) old now
            → HasBegunLive s names (events ++ (events_noted noted ++ last ∷ [])) old now
        begun h =
            subst (λ (l : List Event). HasBegunLive s names l old now)
            (append_assoc events (events_noted noted) (last ∷ [])) h

        go : (files : Result ⊤ OutputError)
            → Keeps files s names (events ++ events_noted noted) ((events ++ events_noted noted) ++ last ∷ [])
            stopped.there lines x old now → OnOk files (lines ≡ []) → OnOk files (x.text ≡ [])
            → StopsRace (run_result_of files) s names w limit events old now
        go (Ok done) keeps no_lines no_text =
            stop_told x no_text (subst (λ (l : List ℕ).
            HasTold s names (events ++ events_noted noted) ((events ++ events_noted noted) ++ last ∷ []) stopped.there l
            x old now) no_lines keeps)
        go (Err output.WriteFault) keeps no_lines no_text = (events_noted noted ++ last ∷ [], all, begun keeps)
        go (Err output.NoMemory) keeps no_lines no_text = (events_noted noted ++ last ∷ [], all, begun keeps)

-- What a round came to is what was given on of it, or the events up to an error.

-- an error before its end, at some of its events
pub race_failed : {A P V : Type 0} (r : Result A RunError) (e : RunError) (m : Meaning V) (s : Setting V)
    (names : LiveOutputs) (there : SystemWorld V) (events part first : List Event) (arriving : List Message)
    (y : Systemed P V) (lines : List ℕ) (x : Scripted) (old now : Shown) → r ≡ Err e → AreFirstOf part first
    → FailsLive e s names (events ++ first) old now
    → GoesRace r m s names there events part arriving y lines x old now
race_failed {A} r e m s names there events part first arriving y lines x old now is (rest, split) fails =
    subst (λ (z : Result A RunError). GoesRace z m s names there events part arriving y lines x old now) (sym is) (
      first,
      (
        rest ++ arrival_events arriving,
        ap (λ (l : List Event). l ++ arrival_events arriving) split
            ∙ append_assoc first rest (arrival_events arriving),
      ),
      fails,
    )

-- the messages that arrived behind the steps
pub race_arrived : {A P V : Type 0} (a : Result A RunError) (m : Meaning V) (s : Setting V) (names : LiveOutputs)
    (there : SystemWorld V) (events part : List Event) (arriving : List Message) (y : Systemed P V) (lines : List ℕ)
    (x : Scripted) (old now : Shown)
    → GoesOver a m s names there (events ++ part) (arrival_events arriving) y lines x old now
    → GoesRace a m s names there events part arriving y lines x old now
race_arrived {A} {P} {V} (Ok done) m s names there events part arriving y lines x old now (next, does, lived) = (
  next,
  does,
  subst (λ (l : List Event). HasLivedTo m s names l next y lines x old now)
      (append_assoc events part (arrival_events arriving)) lived,
)
race_arrived (Err e) m s names there events part arriving y lines x old now (first, (rest, split), fails) = (
  part ++ first,
  (
    rest,
    ap (λ (l : List Event). part ++ l) split ∙ sym (append_assoc part first rest),
  ),
  subst (λ (l : List Event). FailsLive e s names l old now) (append_assoc events part first) fails,
)

-- a race of which nothing was told
pub none_round : {V : Type 0} (s : Setting V) (w : SystemWorld V) (orders : Orders) → w.up ≡ true
    → BeginsRound s w orders []
none_round s w orders up = (up, inl (none_raced s w))

-- the first steps of a race, up to the one that would pass a limit
pub stopped_round : {P V : Type 0} (m : Meaning V) (s : Setting V) (names : LiveOutputs) (may : ℕ → Type 0)
    (w : SystemWorld V) (orders : Orders) (draws : List Lcg) (events : List Event) (r : Result (Standing P V) RunError)
    (e : RunError) (lines : List ℕ) (x : Scripted) (old now : Shown) → r ≡ Err e → w.up ≡ true
    → ((part : List Event) × IsCutRace s w part × FailsLive e s names (events ++ part) old now)
    → GoesRound r m s names may w orders draws events lines x old now
stopped_round {P} {V} m s names may w orders draws events r e lines x old now is up (part, cut, fails) =
    subst (λ (z : Result (Standing P V) RunError). GoesRound z m s names may w orders draws events lines x old now)
    (sym is) (part, (up, inl cut), fails)

-- the same of lists that are these
pub race_same : {A P V : Type 0} (r : Result A RunError) (m : Meaning V) (s : Setting V) (names : LiveOutputs)
    (there : SystemWorld V) (events : List Event) (noted given : List Noted) (arriving named : List Message)
    (y : Systemed P V) (lines : List ℕ) (x : Scripted) (old now : Shown) → given ≡ noted → named ≡ arriving
    → GoesRace r m s names there events (events_noted given) named y lines x old now
    → GoesRace r m s names there events (events_noted noted) arriving y lines x old now
race_same r m s names there events noted given arriving named y lines x old now is are h =
    subst (λ (l : List Noted). GoesRace r m s names there events (events_noted l) arriving y lines x old now) is
    (subst (λ (l : List Message). GoesRace r m s names there events (events_noted given) l y lines x old now) are h)
