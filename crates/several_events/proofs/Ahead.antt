-- A system that is ahead of the strategy goes on as the strategy does.
use Rattle.std.proofs.Common.{◌≡◌, ℕ, ◌<◌, Bool, true, List, [], ◌∷◌, length, Some, None, refl, sym, ap, ◌∙◌, subst}
use Rattle.std.proofs.Common.{inl, inr, ◌⊎◌}
use Rattle.plain_text.specs.declared.kind.Kind.{Kind}
use Rattle.plain_text.specs.declared.kind.Kind.TheVariants as kind
use Rattle.plain_text.specs.declared.limit.Limit.{Limit}
use Rattle.access_log.specs.declared.entry.Output.{Output}
use Rattle.plain_machine.specs.Program.{Meaning}
use Rattle.recovery_world.specs.declared.event.Event.{Event}
use Rattle.recovery_world.specs.declared.event.Event.TheVariants as event
use Rattle.recovery_world.specs.declared.event.Outcome.{Outcome}
use Rattle.recovery_world.specs.World.{Setting, Sent, World}
use Rattle.recovery_world.specs.Events.{On}
use Rattle.recovery_world.specs.Limits.{limit_passed, OnWithin, Passes}
use Rattle.recovery_world.specs.Strategies.{Choice, Halts, Goes}
use Rattle.recovery_world.specs.Many.{Message, arrival, arrival_of, Phase, Wakes, Steps, Arrives, Chooses, first_of}
use Rattle.recovery_world.specs.Many.{goes_on}
use Rattle.recovery_laws.specs.Sound.{Sound}
use Rattle.recovery_laws.proofs.KeptWorlds.{within_sound}
use Rattle.early_arrivals.specs.Early.{IsEarly, IsMoving, OfThread, MayArrive, GoesBehind, LogsBehind}
use Rattle.early_arrivals.proofs.EarlyRuns.{none_early, went, passes_back, logged, caught_up}
use Rattle.system_parts.specs.Parts.{Parts}
use Rattle.system_parts.specs.SystemStanding.{StandsFor, NotesNames}
use Rattle.system_parts.specs.Performing.{MovesOn, StopsAt, Releasing, ReleasesInto, Replies, WouldPass}
use Rattle.std.specs.Prelude.{IfOk, Result, Ok, Err}
use Rattle.event_replies.specs.declared.reply.Reply.{Reply}
use Rattle.event_replies.specs.declared.reply.Stop.{Stop}
use Rattle.held_steps.specs.Holding.{StepsHeld}
use Rattle.system_parts.proofs.EventChains.{threads_of_setting, moves_none, moves_as}
use Rattle.recovery_world.specs.Files.{sent_names}
use Rattle.recovery_world.specs.declared.event.Outcome.TheVariants as outcome
use Rattle.held_steps.proofs.FromOutputReleases.{releases_none, releases_then, releases_after}
use Rattle.several_events.specs.declared.progress.Progress.{Progress}
use Rattle.several_events.specs.declared.progress.Progress.TheVariants as progress
use Rattle.several_events.specs.Progressing.{messages_from, after_of, to_do, IsInPhase, IsOver, IsNext, Reaches, Comes}
use Rattle.several_events.specs.Progressing.{StandsAt, Leads}
use Rattle.several_events.specs.Ahead.{HasTurns, Performs, AllArrive, IsAhead, GoesAhead}
use Rattle.several_events.proofs.Choices.{messages_same}
use Rattle.several_events.proofs.MessageLists.{messages_whole}
use Rattle.several_events.proofs.Following.{reaches_none, reaches_end, reaches_halt}
use Rattle.several_events.proofs.SameSets.{stands_same}
use Rattle.several_events.proofs.ToArrive.{all_arrive, arrives_next, none_left, BeginsOut, OutIs}
use Rattle.several_events.proofs.AheadWorlds.{phase_same, goes_early, early_past, early_up, early_released, is_early}
use Rattle.several_events.proofs.AheadWorlds.{log_moves, moving_up, made_up, Left, may_leave, moving_ahead}
use Rattle.several_events.proofs.FirstMessages.{split, first_none, of_out, log_message, steps_first, steps_none, Chosen}

-- An event of the strategy

module _ {P V : Type 0} (m : Meaning V) (s : Setting V) (w : World V) (y : Parts P V) (from : Progress)
    (sound : Sound s w) where
  -- it goes on by one event more
  reaches_on : (at onward : Progress) (here next : World V) (ev : Event) (to : Outcome) (freed : List Sent)
      → Reaches from at s w here
      → ((q : Phase) → IsInPhase s here at q → (c : Choice Phase) × (goes_on s q here ≡ Some c) × (c.event ≡ ev)
      × IsInPhase s next onward (c.leads_to to)) → OnWithin s here ev to freed next → Reaches from onward s w next
  reaches_on at onward here next ev to freed r alike on = λ q is.
      let k = r q is in
      let c = alike k.0 k.1 in (
        c.0.leads_to to,
        c.3,
        λ end new rest. k.2 end new (Goes k.0 here c.0 to freed c.1
            (subst (λ (e : Event). OnWithin s here e to freed next) (sym c.2) on) rest),
      )

  -- the system is not ahead
  exact_on : (at further onward : Progress) (ev : Event) (to : Outcome) → IsNext m y at ev further
      → onward ≡ after_of y.inputs.threads further ev to → (here : World V) → StandsFor m s here y
      → Reaches from at s w here → (freed : List Sent) (next : World V) → OnWithin s here ev to freed next
      → GoesAhead from onward s w next
  exact_on at further onward ev to chosen is here st r freed next on = record {
    here = next;
    reaches = reaches_on at onward here next ev to freed r (λ q i.
        let c = chosen.chosen s here q st i in (
          c.0,
          c.1,
          c.2,
          subst (λ (g : Progress). IsInPhase s next g (c.0.leads_to to)) (sym is) (c.3 to freed next on),
        )) on;
    sound = λ h. within_sound s here ev to freed next st.sound on;
    ahead = inl refl;
  }

  -- a move, or a packet
  moving_on : (at : Progress) (left t : ℕ) (moved : Bool) (onward : Progress) (ev : Event) (to : Outcome)
      → IsNext m y at ev (progress.Steps left t moved)
      → onward ≡ after_of y.inputs.threads (progress.Steps left t moved) ev to → IsMoving ev → (here early : World V)
      → StandsFor m s early y → Sound s here → IsEarly here early → here.up ≡ true → Reaches from at s w here
      → (freed : List Sent) (mid next : World V) → OnWithin s early ev to freed mid → MayArrive s early mid next
      → GoesAhead from onward s w next
  moving_on at left t moved onward ev to chosen is moving here early st h r up reach freed mid next on arrives =
      record {
        here = gone.new;
        reaches = reaches_on at onward here gone.new ev to freed reach
            (λ q i.
            let c = chosen.chosen s early q st
            (phase_same s here early at q (early_past here early r) (early_up here early r) i) in (
              c.0,
              sym (goes_early s here early q r) ∙ c.1,
              c.2,
              subst (λ (g : Progress). IsInPhase s gone.new g (c.0.leads_to to)) (sym is)
                  (phase_same s mid gone.new (after_of y.inputs.threads (progress.Steps left t moved) ev to)
                  (c.0.leads_to to) past ups (c.3 to freed mid on)),
            )) gone.on;
        sound = λ k. gone.sound;
        ahead = inr (subst (λ (g : Progress). IsAhead s g gone.new next) (sym is)
            (moving_ahead s gone.new next y.inputs.threads left t moved ev to moving gone.is_early
            (ups ∙ (moving_up s early mid ev to freed moving on.0 ∙ (early_up here early r ∙ up)))));
      }
    where
      gone : GoesBehind s here ev to freed next
      gone = went s here early mid next ev to freed h st.sound r moving on arrives

      left_as : Left mid next
      left_as = may_leave s early mid next arrives

      past : gone.new.past ≡ mid.past
      past = sym (early_past gone.new next gone.is_early) ∙ left_as.past

      ups : gone.new.up ≡ mid.up
      ups = sym (early_up gone.new next gone.is_early) ∙ left_as.up

  module _ (new : Parts P V) (before out : List Output) where
    -- what the event makes of each world that the parts stand for
    abbrev Doing : Progress → Event → Outcome → Type 0
    Doing further ev to =
        (z : World V) → StandsFor m s z y → (next : World V) × Releasing before out (Performs further ev to) s z next
        × StandsFor m s next new

    abbrev Done : Progress → World V → Type 0
    Done onward early =
        (next : World V)
        × (GoesAhead from onward s w next × ReleasesInto before out early next)
        × StandsFor m s next new

    -- the system was not ahead, and may be now
    held_on : (at further onward : Progress) (ev : Event) (to : Outcome) → IsNext m y at ev further
        → onward ≡ after_of y.inputs.threads further ev to → HasTurns further → (here : World V) → StandsFor m s here y
        → Reaches from at s w here → (t : ℕ) → ev ≡ event.Step t None → (mid next : World V)
        → OnWithin s here (event.Step t None) to [] mid → MayArrive s here mid next → GoesAhead from onward s w next
    held_on at progress.Wakes onward ev to chosen is turns here st r t ev_is mid next on arrives = absurd turns
    held_on at (progress.Steps left u moved) onward ev to chosen is turns here st r t ev_is mid next on (inl same) =
        exact_on at (progress.Steps left u moved) onward ev to chosen is here st r [] next
        (subst (λ (z : World V). OnWithin s here ev to [] z) (sym same)
        (subst (λ (e : Event). OnWithin s here e to [] mid) (sym ev_is) on))
    held_on at (progress.Steps left u moved) onward ev to chosen is turns here st r t ev_is mid next on (inr arrives) =
        moving_on at left u moved onward ev to chosen is
        (subst (λ (e : Event). IsMoving e) (sym ev_is) (OfThread t None)) here here st st.sound (none_early here)
        (made_up s here mid t None to arrives.0 on.0.0 arrives.1) r [] mid next
        (subst (λ (e : Event). OnWithin s here e to [] mid) (sym ev_is) on) (inr arrives)
    held_on at (progress.Arrives k u n) onward ev to chosen is turns here st r t ev_is mid next on arrives =
        absurd turns
    held_on at (progress.Chooses words left) onward ev to chosen is turns here st r t ev_is mid next on arrives =
        absurd turns

    exact_done : (at further onward : Progress) (ev : Event) (to : Outcome) → IsNext m y at ev further
        → onward ≡ after_of y.inputs.threads further ev to → (here early : World V) → StandsFor m s here y
        → Reaches from at s w here → here.released ≡ early.released → Doing further ev to → Done onward early
    exact_done at further onward ev to chosen is here early st r released doing = go (doing here st)
      where
        go : (next : World V) × Releasing before out (Performs further ev to) s here next × StandsFor m s next new
            → Done onward early
        go (next, (inl (freed, on), into), sn) = (
          next,
          (
            exact_on at further onward ev to chosen is here st r freed next on,
            releases_after before out early here next released into,
          ),
          sn,
        )
        go (next, (inr (turns, t, ev_is, (mid, on, arrives)), into), sn) = (
          next,
          (
            held_on at further onward ev to chosen is turns here st r t ev_is mid next on arrives,
            releases_after before out early here next released into,
          ),
          sn,
        )

    moving_done : (at : Progress) (left t : ℕ) (moved : Bool) (onward : Progress) (ev : Event) (to : Outcome)
        → IsNext m y at ev (progress.Steps left t moved)
        → onward ≡ after_of y.inputs.threads (progress.Steps left t moved) ev to → IsMoving ev → (here early : World V)
        → StandsFor m s early y → Sound s here → IsEarly here early → here.up ≡ true → Reaches from at s w here
        → Doing (progress.Steps left t moved) ev to → Done onward early
    moving_done at left t moved onward ev to chosen is moving here early st h r up reach doing = go (doing early st)
      where
        go : (next : World V) × Releasing before out (Performs (progress.Steps left t moved) ev to) s early next
            × StandsFor m s next new → Done onward early
        go (next, (inl (freed, on), into), sn) = (
          next,
          (
            moving_on at left t moved onward ev to chosen is moving here early st h r up reach freed next next on
                (inl refl),
            into,
          ),
          sn,
        )
        go (next, (inr (turns, u, ev_is, (mid, on, arrives)), into), sn) = (
          next,
          (
            moving_on at left t moved onward ev to chosen is moving here early st h r up reach [] mid next
                (subst (λ (e : Event). OnWithin s early e to [] mid) (sym ev_is) on) arrives,
            into,
          ),
          sn,
        )

    -- A message arrives, where the system is ahead: these messages are to come.
    module _ (at : Progress) (u n : ℕ) (onward : Progress) (ev : Event) (to : Outcome) (here early : World V)
        (st : StandsFor m s early y) (h : Sound s here) (r : IsEarly here early) (reach : Reaches from at s w here)
        (t arrived : ℕ) (all : AllArrive here (messages_from s here kind.Log t arrived)) where
      -- the first of them is what comes next
      abbrev IsFirst : Kind → Type 0
      IsFirst k = (q : Phase) (c : Choice Phase) → IsInPhase s early at q → goes_on s q here ≡ Some c
          → c.event ≡ arrival_of k u n → first_of (messages_from s here kind.Log t arrived) ≡ Some c

      -- an entry
      log_done : IsNext m y at ev (progress.Arrives kind.Log u n)
          → onward ≡ after_of y.inputs.threads (progress.Arrives kind.Log u n) ev to → ev ≡ event.Log u n
          → (q : Phase) → IsInPhase s early at q → IsFirst kind.Log → Doing (progress.Arrives kind.Log u n) ev to
          → Done onward early
      log_done chosen is ev_is q i first doing = go (doing early st)
        where
          go : (next : World V) × Releasing before out (Performs (progress.Arrives kind.Log u n) ev to) s early next
              × StandsFor m s next new → Done onward early
          go (next, (inr (turns, i, same, held), into), sn) = absurd turns
          go (next, (inl (freed, on), into), sn) = (
            next,
            (
              record {
                here = gone.new;
                reaches = reaches_on at onward here gone.new ev gone.to freed reach alike
                    (subst (λ (e : Event). OnWithin s here e gone.to freed gone.new) (sym ev_is) gone.on);
                sound = λ k. within_sound s here (event.Log u n) gone.to freed gone.new h gone.on;
                ahead = inr (subst (λ (g : Progress). IsAhead s g gone.new next) (sym is) (gone.is_early, still));
              },
              into,
            ),
            sn,
          )
            where
              gone : LogsBehind s here u n freed next
              gone = logged s here early next u n to freed h st.sound r
                  (subst (λ (e : Event). OnWithin s early e to freed next) ev_is on)

              past : gone.new.past ≡ next.past
              past = sym (early_past gone.new next gone.is_early)

              ups : gone.new.up ≡ next.up
              ups = sym (early_up gone.new next gone.is_early)

              chosen_at : (p : Phase) → IsInPhase s early at p → Chosen s here gone.new ev t arrived u n p
              chosen_at p j =
                  let c = chosen.chosen s early p st j in
                  let on_here = sym (goes_early s here early p r) ∙ c.1 in
                  let parts = split (messages_from s here kind.Log t arrived) c.0
                  (first p c.0 j on_here (c.2 ∙ ev_is)) in
                  let name : arrival parts.first ≡ event.Log u n =
                  sym (ap (λ (x : Choice Phase). x.event) parts.choice) ∙ (c.2 ∙ ev_is) in
                  let leads : (other : Outcome) → c.0.leads_to other ≡ Arrives parts.rest =
                  λ other. ap (λ (x : Choice Phase). x.leads_to other) parts.choice in
                  record {
                    choice = c.0;
                    on_here = on_here;
                    event_is = c.2;
                    rest = parts.rest;
                    are = parts.are
                        ∙ ap (λ (x : Message). x ∷ parts.rest) (log_message parts.first u n name);
                    leads = leads;
                    rest_is = sym (leads to)
                        ∙ (c.3 to freed next on
                        ∙ ap Arrives (sym (messages_same s next gone.new kind.Log u n past)));
                  }

              alike : (p : Phase) → IsInPhase s here at p → (c : Choice Phase) × (goes_on s p here ≡ Some c)
                  × (c.event ≡ ev) × IsInPhase s gone.new onward (c.leads_to gone.to)
              alike p j =
                  let k = chosen_at p (phase_same s here early at p (early_past here early r) (early_up here early r) j)
                  in (
                    k.choice,
                    k.on_here,
                    k.event_is,
                    subst (λ (g : Progress). IsInPhase s gone.new g (k.choice.leads_to gone.to)) (sym is)
                        (k.leads gone.to ∙ k.rest_is),
                  )

              same_rest : (a b : List Message) → Arrives a ≡ Arrives b → a ≡ b
              same_rest a b same = cc

              still : AllArrive gone.new (messages_from s gone.new kind.Log u n)
              still =
                  let k = chosen_at q i in
                  subst (λ (l : List Message). AllArrive gone.new l)
                  (same_rest k.rest (messages_from s gone.new kind.Log u n) k.rest_is)
                  (arrives_next s here gone.new u n gone.to freed k.rest h gone.on.0
                  (subst (λ (l : List Message). AllArrive here l) k.are all))

      -- an output: the system is not ahead any more
      out_same : IsNext m y at ev (progress.Arrives kind.Out u n) → ev ≡ event.Out u n → (q : Phase)
          → IsInPhase s early at q → IsFirst kind.Out → StandsFor m s here y
      out_same chosen ev_is q i first =
          let c = chosen.chosen s early q st i in
          let parts = split (messages_from s here kind.Log t arrived) c.0
          (first q c.0 i (sym (goes_early s here early q r) ∙ c.1) (c.2 ∙ ev_is)) in
          let name : arrival parts.first ≡ event.Out u n =
          sym (ap (λ (x : Choice Phase). x.event) parts.choice) ∙ (c.2 ∙ ev_is) in
          let begins : BeginsOut (messages_from s here kind.Log t arrived) =
          subst (λ (l : List Message). BeginsOut l) (sym parts.are) (OutIs parts.first parts.rest
          (of_out parts.first.kind parts.first.thread parts.first.number u n name)) in
          stands_same m s here early y (caught_up here early (none_left s here t arrived begins all) r) h st

      message_done : (k : Kind) → IsNext m y at ev (progress.Arrives k u n)
          → onward ≡ after_of y.inputs.threads (progress.Arrives k u n) ev to → ev ≡ arrival_of k u n → (q : Phase)
          → IsInPhase s early at q → IsFirst k → Doing (progress.Arrives k u n) ev to → Done onward early
      message_done kind.Log chosen is ev_is q i first doing = log_done chosen is ev_is q i first doing
      message_done kind.Out chosen is ev_is q i first doing =
          exact_done at (progress.Arrives kind.Out u n) onward ev to chosen is here early
          (out_same chosen ev_is q i first) reach (sym (early_released here early r)) doing

    -- what comes next, where the threads took turns and where entries arrive
    first_steps : (left t : ℕ) (moved : Bool) (u n : ℕ) (here early : World V) (k : Kind) (q : Phase)
        (c : Choice Phase) → IsInPhase s early (progress.Steps left t moved) q → goes_on s q here ≡ Some c
        → c.event ≡ arrival_of k u n → first_of (messages_from s here kind.Log 0 0) ≡ Some c
    first_steps left t moved u n here early k q c i goes ev =
        ap first_of (messages_whole s here)
        ∙ steps_first s here left t moved k u n c (ap (λ (p : Phase). goes_on s p here) (sym i.0) ∙ goes) ev

    first_arrives : (t arrived u n : ℕ) (here early : World V) → early.past ≡ here.past → (k : Kind) (q : Phase)
        (c : Choice Phase) → IsInPhase s early (progress.Arrives kind.Log t arrived) q → goes_on s q here ≡ Some c
        → c.event ≡ arrival_of k u n → first_of (messages_from s here kind.Log t arrived) ≡ Some c
    first_arrives t arrived u n here early past k q c i goes ev =
        ap first_of (sym (messages_same s here early kind.Log t arrived past))
        ∙ (ap (λ (p : Phase). goes_on s p here) (sym i) ∙ goes)

    whole : (here : World V) → Sound s here → AllArrive here (messages_from s here kind.Log 0 0)
    whole here h = subst (λ (l : List Message). AllArrive here l) (sym (messages_whole s here)) (all_arrive s here h)

    ahead_done : (at further onward : Progress) (ev : Event) (to : Outcome) → IsNext m y at ev further
        → onward ≡ after_of y.inputs.threads further ev to → Leads at ev further → (here early : World V)
        → StandsFor m s early y → Sound s here → IsAhead s at here early → Reaches from at s w here
        → Doing further ev to → Done onward early
    ahead_done progress.Wakes further onward ev to chosen is leads here early st h a reach doing = absurd a
    ahead_done (progress.Steps left t moved) progress.Wakes onward ev to chosen is leads here early st h a reach doing =
        absurd leads
    ahead_done (progress.Steps left t moved) (progress.Steps more u was) onward ev to chosen is leads here early st h a
        reach doing =
        moving_done (progress.Steps left t moved) more u was onward ev to chosen is leads here early st h a.0 a.1 reach
        doing
    ahead_done (progress.Steps left t moved) (progress.Arrives k u n) onward ev to chosen is leads here early st h a
        reach doing =
        message_done (progress.Steps left t moved) u n onward ev to here early st h a.0 reach 0 0 (whole here h) k
        chosen is leads (Steps left t moved) (refl, early_up here early a.0 ∙ a.1)
        (λ q c i goes e. first_steps left t moved u n here early k q c i goes e) doing
    ahead_done (progress.Steps left t moved) (progress.Chooses words many) onward ev to chosen is leads here early st h
        a reach doing = absurd leads
    ahead_done (progress.Arrives kind.Log t arrived) progress.Wakes onward ev to chosen is leads here early st h a reach
        doing = absurd leads
    ahead_done (progress.Arrives kind.Log t arrived) (progress.Steps more u was) onward ev to chosen is leads here early
        st h a reach doing = absurd leads
    ahead_done (progress.Arrives kind.Log t arrived) (progress.Arrives k u n) onward ev to chosen is leads here early st
        h a reach doing =
        message_done (progress.Arrives kind.Log t arrived) u n onward ev to here early st h a.0 reach t arrived a.1 k
        chosen is leads (Arrives (messages_from s early kind.Log t arrived)) refl
        (λ q c i goes e. first_arrives t arrived u n here early (early_past here early a.0) k q c i goes e) doing
    ahead_done (progress.Arrives kind.Log t arrived) (progress.Chooses words many) onward ev to chosen is leads here
        early st h a reach doing = absurd leads
    ahead_done (progress.Arrives kind.Out t arrived) further onward ev to chosen is leads here early st h a
        reach doing =
        absurd a
    ahead_done (progress.Chooses words left) further onward ev to chosen is leads here early st h a reach doing =
        absurd a

    pub goes_done : (at further onward : Progress) (ev : Event) (to : Outcome) → IsNext m y at ev further
        → onward ≡ after_of y.inputs.threads further ev to → (early : World V) → StandsFor m s early y
        → GoesAhead from at s w early → Doing further ev to → Done onward early
    goes_done at further onward ev to chosen is early st a doing = go a.ahead
      where
        go : (early ≡ a.here) ⊎ IsAhead s at a.here early → Done onward early
        go (inl same) = exact_done at further onward ev to chosen is a.here early
            (subst (λ (z : World V). StandsFor m s z y) same st) a.reaches
            (ap (λ (z : World V). z.released) (sym same)) doing
        go (inr ahead) = ahead_done at further onward ev to chosen is chosen.leads a.here early st (a.sound sound) ahead
            a.reaches doing

  -- The strategy is at its end: the system is not ahead any more.
  pub ended : (at : Progress) → IsOver m y at → (early : World V) → StandsFor m s early y → GoesAhead from at s w early
      → (here : World V) × Comes from None s w here × StandsFor m s here y × (here.released ≡ early.released)
  ended at over early st a = go at over a.reaches a.ahead
    where
      here : World V
      here = a.here

      h : Sound s a.here
      h = a.sound sound

      Ended : Type 0
      Ended = (here : World V) × Comes from None s w here × StandsFor m s here y × (here.released ≡ early.released)

      exact : (at : Progress) → IsOver m y at → Reaches from at s w a.here → StandsFor m s a.here y
          → a.here.released ≡ early.released
          → (here : World V) × Comes from None s w here × StandsFor m s here y × (here.released ≡ early.released)
      exact at over reach now same = (a.here, reaches_end m y s w a.here now from at over reach, now, same)

      by_none : (at : Progress) → IsOver m y at → Reaches from at s w a.here → IsEarly a.here early → (t arrived : ℕ)
          → AllArrive a.here (messages_from s a.here kind.Log t arrived)
          → first_of (messages_from s a.here kind.Log t arrived) ≡ None
          → (here : World V) × Comes from None s w here × StandsFor m s here y × (here.released ≡ early.released)
      by_none at over reach r t arrived all none =
          exact at over reach (stands_same m s a.here early y (caught_up a.here early
          (none_left s a.here t arrived (first_none (messages_from s a.here kind.Log t arrived) none) all) r) h st)
          (sym (early_released a.here early r))

      go : (at : Progress) → IsOver m y at → Reaches from at s w a.here → (early ≡ a.here) ⊎ IsAhead s at a.here early
          → (here : World V) × Comes from None s w here × StandsFor m s here y × (here.released ≡ early.released)
      go at over reach (inl same) =
          exact at over reach (subst (λ (z : World V). StandsFor m s z y) same st)
          (ap (λ (z : World V). z.released) (sym same))
      go progress.Wakes over reach (inr k) = absurd k
      go (progress.Steps left t moved) over reach (inr k) =
          by_none (progress.Steps left t moved) over reach k.0 0 0
          (subst (λ (l : List Message). AllArrive a.here l) (sym (messages_whole s a.here)) (all_arrive s a.here h))
          (ap first_of (messages_whole s a.here) ∙ steps_none s a.here left t moved
          (sym (goes_early s a.here early (Steps left t moved) k.0)
          ∙ over s early (Steps left t moved) st (refl, early_up a.here early k.0 ∙ k.1)))
      go (progress.Arrives kind.Log t arrived) over reach (inr k) =
          by_none (progress.Arrives kind.Log t arrived) over reach k.0 t arrived k.1
          (ap first_of (sym (messages_same s a.here early kind.Log t arrived (early_past a.here early k.0)))
          ∙ over s early (Arrives (messages_from s early kind.Log t arrived)) st refl)
      go (progress.Arrives kind.Out t arrived) over reach (inr k) = absurd k
      go (progress.Chooses words left) over reach (inr k) = absurd k

  -- The next event would pass a limit.
  module _ (after : Parts P V) (before out : List Output) (ev : Event) (limit : Limit)
      (stops : (z : World V) → StandsFor m s z y → (next : World V) × Releasing before out (WouldPass ev limit) s z next
      × NotesNames next after) where
    abbrev Stopped : World V → Type 0
    Stopped early =
        (final : World V) × (Comes from (Some limit) s w final × ReleasesInto before out early final)
        × NotesNames final after

    exact_stopped : (at further : Progress) → IsNext m y at ev further → (here early : World V) → StandsFor m s here y
        → Reaches from at s w here → here.released ≡ early.released → Stopped early
    exact_stopped at further chosen here early st reach released =
        let k = stops here st in (
          k.0,
          (
            reaches_halt m y s w here st from at k.0 ev further limit chosen reach k.1.0,
            releases_after before out early here k.0 released k.1.1,
          ),
          k.2,
        )

    moving_stopped : (at further : Progress) → IsNext m y at ev further → IsMoving ev → (here early : World V)
        → StandsFor m s early y → Sound s here → IsEarly here early → Reaches from at s w here → Stopped early
    moving_stopped at further chosen moving here early st h r reach = go (stops early st)
      where
        go : (next : World V) × Releasing before out (WouldPass ev limit) s early next × NotesNames next after
            → Stopped early
        go (next, ((passes, same), into), names) = (
          here,
          (
            λ q is.
                let k = reach q is in
                let c = chosen.chosen s early k.0 st (phase_same s here early at k.0 (early_past here early r)
                (early_up here early r) k.1) in
                k.2 (Some limit) here (Halts k.0 here c.0 limit (sym (goes_early s here early k.0 r) ∙ c.1)
                (subst (λ (e : Event). Passes s here e limit) (sym c.2)
                (passes_back s here early ev limit h r moving passes))),
            record { freed = into.freed; released = released ∙ into.released; packets = into.packets },
          ),
          names ∙ ap (λ (l : List Sent). sent_names l) (sym released),
        )
          where
            released : here.released ≡ next.released
            released = sym (early_released here early r) ∙ ap (λ (z : World V). z.released) (sym same)

    -- no limit is passed as messages arrive
    log_stopped : (early : World V) (u n : ℕ) → StandsFor m s early y → ev ≡ event.Log u n → Stopped early
    log_stopped early u n st ev_is =
        let p = (stops early st).1.0.0 in
        let k = log_moves s early p.new u n p.to p.freed
        (subst (λ (e : Event). On s early e p.to p.freed p.new) ev_is p.on) in
        let same : limit_passed p.new.moves p.new.bytes ≡ limit_passed early.moves early.bytes =
        ap (λ (i : ℕ). limit_passed i p.new.bytes) k.0 ∙ ap (λ (i : ℕ). limit_passed early.moves i) k.1 in
        let none : limit_passed early.moves early.bytes ≡ None = st.within in
        let some : limit_passed p.new.moves p.new.bytes ≡ Some limit = p.passed in
        let both : None ≡ Some limit = sym none ∙ (sym same ∙ some) in
        absurd (cc)

    message_stopped : (at : Progress) (k : Kind) (u n : ℕ) (here early : World V)
        → IsNext m y at ev (progress.Arrives k u n) → ev ≡ arrival_of k u n → StandsFor m s early y → Sound s here
        → IsEarly here early → Reaches from at s w here → (t arrived : ℕ)
        → AllArrive here (messages_from s here kind.Log t arrived) → (q : Phase) → IsInPhase s early at q
        → ((q : Phase) (c : Choice Phase) → IsInPhase s early at q → goes_on s q here ≡ Some c
        → c.event ≡ arrival_of k u n → first_of (messages_from s here kind.Log t arrived) ≡ Some c) → Stopped early
    message_stopped at kind.Log u n here early chosen ev_is st h r reach t arrived all q i first =
        log_stopped early u n st ev_is
    message_stopped at kind.Out u n here early chosen ev_is st h r reach t arrived all q i first =
        exact_stopped at (progress.Arrives kind.Out u n) chosen here early
        (out_same after before out at u n at ev outcome.Nothing here early st h r reach t arrived all chosen ev_is q i
        first) reach (sym (early_released here early r))

    ahead_stopped : (at further : Progress) → IsNext m y at ev further → Leads at ev further → (here early : World V)
        → StandsFor m s early y → Sound s here → IsAhead s at here early → Reaches from at s w here → Stopped early
    ahead_stopped progress.Wakes further chosen leads here early st h a reach = absurd a
    ahead_stopped (progress.Steps left t moved) progress.Wakes chosen leads here early st h a reach = absurd leads
    ahead_stopped (progress.Steps left t moved) (progress.Steps more u was) chosen leads here early st h a reach =
        moving_stopped (progress.Steps left t moved) (progress.Steps more u was) chosen leads here early st h a.0 reach
    ahead_stopped (progress.Steps left t moved) (progress.Arrives k u n) chosen leads here early st h a reach =
        message_stopped (progress.Steps left t moved) k u n here early chosen leads st h a.0 reach 0 0
        (subst (λ (l : List Message). AllArrive here l) (sym (messages_whole s here)) (all_arrive s here h))
        (Steps left t moved) (refl, early_up here early a.0 ∙ a.1)
        (λ q c i goes e. first_steps after before out left t moved u n here early k q c i goes e)
    ahead_stopped (progress.Steps left t moved) (progress.Chooses words many) chosen leads here early st h a reach =
        absurd leads
    ahead_stopped (progress.Arrives kind.Log t arrived) progress.Wakes chosen leads here early st h a reach =
        absurd leads
    ahead_stopped (progress.Arrives kind.Log t arrived) (progress.Steps more u was) chosen leads here early st h a
        reach = absurd leads
    ahead_stopped (progress.Arrives kind.Log t arrived) (progress.Arrives k u n) chosen leads here early st h a reach =
        message_stopped (progress.Arrives kind.Log t arrived) k u n here early chosen leads st h a.0 reach t arrived a.1
        (Arrives (messages_from s early kind.Log t arrived)) refl
        (λ q c i goes e. first_arrives after before out t arrived u n here early (early_past here early a.0) k q c i
        goes e)
    ahead_stopped (progress.Arrives kind.Log t arrived) (progress.Chooses words many) chosen leads here early st h a
        reach = absurd leads
    ahead_stopped (progress.Arrives kind.Out t arrived) further chosen leads here early st h a reach = absurd a
    ahead_stopped (progress.Chooses words left) further chosen leads here early st h a reach = absurd a

    pub stopped : (at further : Progress) → IsNext m y at ev further → (early : World V) → StandsFor m s early y
        → GoesAhead from at s w early → Stopped early
    stopped at further chosen early st a = go a.ahead
      where
        go : (early ≡ a.here) ⊎ IsAhead s at a.here early → Stopped early
        go (inl same) =
            exact_stopped at further chosen a.here early (subst (λ (z : World V). StandsFor m s z y) same st) a.reaches
            (ap (λ (z : World V). z.released) (sym same))
        go (inr ahead) =
            ahead_stopped at further chosen chosen.leads a.here early st (a.sound sound) ahead a.reaches

  -- Less is to be done behind it.
  pub fallen : (at further : Progress) (ev : Event) (to : Outcome) → IsNext m y at ev further → (early : World V)
      → StandsFor m s early y → GoesAhead from at s w early → (q : Phase) → IsInPhase s w from q → (next : World V)
      → Performs further ev to s early next → (packets : ℕ)
      → to_do y.inputs.threads packets next.moves (after_of y.inputs.threads further ev to)
      < to_do y.inputs.threads (length y.left) early.moves at
  fallen at further ev to chosen early st a q i next performs packets = go performs
    where
      r : IsEarly a.here early
      r = is_early s at a.here early a.ahead

      there : IsInPhase s early at (a.reaches q i).0
      there = phase_same s a.here early at (a.reaches q i).0 (early_past a.here early r) (early_up a.here early r)
          (a.reaches q i).1

      go : Performs further ev to s early next
          → to_do y.inputs.threads packets next.moves (after_of y.inputs.threads further ev to)
          < to_do y.inputs.threads (length y.left) early.moves at
      go (inl (freed, on)) = chosen.falls s early (a.reaches q i).0 st there to freed next on packets
      go (inr (turns, t, ev_is, (mid, on, arrives))) =
          subst (λ (n : ℕ).
          to_do y.inputs.threads packets n (after_of y.inputs.threads further ev to)
          < to_do y.inputs.threads (length y.left) early.moves at) (sym (may_leave s early mid next arrives).moves)
          (chosen.falls s early (a.reaches q i).0 st there to [] mid
          (subst (λ (e : Event). OnWithin s early e to [] mid) (sym ev_is) on) packets)

-- The same, from the parts of a system to those after an event

pub ahead_none : {P V : Type 0} (m : Meaning V) (y : Parts P V) (from : Progress) (list : List Output)
    → MovesOn m (Releasing list list (GoesAhead from from)) y y
ahead_none m y from list = moves_none m (Releasing list list (GoesAhead from from)) y (λ s w. (
  record { here = w; reaches = reaches_none s w from; sound = λ h. h; ahead = inl refl },
  releases_none list w w refl,
))

pub ahead_then : {P V : Type 0} (m n : Meaning V) (old mid new : Parts P V) (from at further onward : Progress)
    (ev : Event) (to : Outcome) (list before out : List Output) → n ≡ m → IsNext m mid at ev further
    → onward ≡ after_of mid.inputs.threads further ev to → MovesOn m (Releasing list before (GoesAhead from at)) old mid
    → MovesOn n (Releasing before out (Performs further ev to)) mid new
    → MovesOn m (Releasing list out (GoesAhead from onward)) old new
ahead_then {P} {V} m n old mid new from at further onward ev to list before out is chosen as_then a b = (
  b.0 ∙ a.0,
  λ s w st.
      let k = a.1 s w st in
      let d = goes_done m s w mid from st.sound new before out at further onward ev to chosen as_then k.0 k.2 k.1.0
      (doing s) in
      (d.0, (d.1.0, releases_then list before out w k.0 d.0 k.1.1 d.1.1), d.2),
)
  where
    doing : (s : Setting V) (z : World V) → StandsFor m s z mid
        → (next : World V) × Releasing before out (Performs further ev to) s z next × StandsFor m s next new
    doing s z sz =
        let l = b.1 s z (subst (λ (q : Meaning V). StandsFor q s z mid) (sym is) sz) in
        (l.0, l.1, subst (λ (q : Meaning V). StandsFor q s l.0 new) is l.2)

pub ahead_ends : {P V : Type 0} (m : Meaning V) (old y : Parts P V) (from at : Progress) (list out : List Output)
    → IsOver m y at → MovesOn m (Releasing list out (GoesAhead from at)) old y
    → MovesOn m (Releasing list out (Comes from None)) old y
ahead_ends m old y from at list out over a = (
  a.0,
  λ s w st.
      let k = a.1 s w st in
      let e = ended m s w y from st.sound at over k.0 k.2 k.1.0 in (
        e.0,
        (
          e.1,
          record { freed = k.1.1.freed; released = e.3 ∙ k.1.1.released; packets = k.1.1.packets },
        ),
        e.2,
      ),
)

pub ahead_stops : {P V : Type 0} (m n : Meaning V) (old mid new : Parts P V) (from at further : Progress)
    (ev : Event) (limit : Limit) (list before out : List Output) → n ≡ m → IsNext m mid at ev further
    → MovesOn m (Releasing list before (GoesAhead from at)) old mid
    → StopsAt n (Releasing before out (WouldPass ev limit)) mid new
    → StopsAt m (Releasing list out (Comes from (Some limit))) old new
ahead_stops {P} {V} m n old mid new from at further ev limit list before out is chosen a b = λ s w st.
    let k = a.1 s w st in
    let d = stopped m s w mid from st.sound new before out ev limit
    (λ z sz. b s z (subst (λ (q : Meaning V). StandsFor q s z mid) (sym is) sz)) at further chosen k.0 k.2 k.1.0 in
    (d.0, (d.1.0, releases_then list before out w k.0 d.0 k.1.1 d.1.1), d.2)

pub ahead_falls : {P V : Type 0} (m n : Meaning V) (old mid new : Parts P V) (from at further onward : Progress)
    (ev : Event) (to : Outcome) (list before out : List Output) → n ≡ m → IsNext m mid at ev further
    → onward ≡ after_of mid.inputs.threads further ev to → StandsAt m old from
    → MovesOn m (Releasing list before (GoesAhead from at)) old mid
    → MovesOn n (Releasing before out (Performs further ev to)) mid new
    → to_do new.inputs.threads (length new.left) new.moves onward
    < to_do mid.inputs.threads (length mid.left) mid.moves at
ahead_falls {P} {V} m n old mid new from at further onward ev to list before out is chosen as_then begun a b =
    let s = begun.0 in
    let w = begun.1 in
    let st = begun.2 in
    let k = a.1 s w st in
    let l = b.1 s k.0 (subst (λ (q : Meaning V). StandsFor q s k.0 mid) (sym is) k.2) in
    let less =
    fallen m s w mid from st.sound at further ev to chosen k.0 k.2 k.1.0 begun.3 begun.4 l.0 l.1.0 (length new.left) in
    let threads : new.inputs.threads ≡ mid.inputs.threads =
    threads_of_setting n s l.0 new l.2 ∙ sym (threads_of_setting m s k.0 mid k.2) in
    as_now threads (sym l.2.master.moves) k.2.master.moves less
  where
    as_now : {i j : ℕ} → new.inputs.threads ≡ mid.inputs.threads → i ≡ new.moves → mid.moves ≡ j
        → to_do mid.inputs.threads (length new.left) i (after_of mid.inputs.threads further ev to)
        < to_do mid.inputs.threads (length mid.left) j at
        → to_do new.inputs.threads (length new.left) new.moves onward
        < to_do mid.inputs.threads (length mid.left) mid.moves at
    as_now {i} {j} threads now before_is less =
        subst (λ (c : ℕ).
        to_do c (length new.left) new.moves onward < to_do mid.inputs.threads (length mid.left) mid.moves at)
        (sym threads)
        (subst (λ (g : Progress).
        to_do mid.inputs.threads (length new.left) new.moves g
        < to_do mid.inputs.threads (length mid.left) mid.moves at) (sym as_then)
        (subst (λ (c : ℕ).
        to_do mid.inputs.threads (length new.left) c (after_of mid.inputs.threads further ev to)
        < to_do mid.inputs.threads (length mid.left) mid.moves at) now
        (subst (λ (c : ℕ).
        to_do mid.inputs.threads (length new.left) i (after_of mid.inputs.threads further ev to)
        < to_do mid.inputs.threads (length mid.left) c at) (sym before_is) less)))

-- What is performed, from what its call says

pub performs_single : {P V : Type 0} (m : Meaning V) (old new : Parts P V) (further : Progress) (ev : Event)
    (reply : Reply) (before out : List Output) → MovesOn m (Releasing before out (Replies ev reply)) old new
    → MovesOn m (Releasing before out (Performs further ev reply.outcome)) old new
performs_single m old new further ev reply before out a =
    moves_as m (Releasing before out (Replies ev reply)) (Releasing before out (Performs further ev reply.outcome)) old
    new (λ s w next st sn k. (inl (k.0.0, k.0.1), k.1)) a

abbrev Answer : Type 0
Answer = Result Outcome Stop

pub performs_held : {P V : Type 0} (m : Meaning V) (old new : Parts P V) (further : Progress) (ev : Event) (t : ℕ)
    (res : Answer) (before out : List Output) → ev ≡ event.Step t None → HasTurns further
    → IfOk res (λ (to : Outcome). MovesOn m (Releasing before out (StepsHeld t to)) old new)
    → IfOk res (λ (to : Outcome). MovesOn m (Releasing before out (Performs further ev to)) old new)
performs_held m old new further ev t (Err x) before out is turns a = tt
performs_held m old new further ev t (Ok to) before out is turns a =
    moves_as m (Releasing before out (StepsHeld t to)) (Releasing before out (Performs further ev to)) old new
    (λ s w next st sn k. (inr (turns, t, is, k.0), k.1)) a
