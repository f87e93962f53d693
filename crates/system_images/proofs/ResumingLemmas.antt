-- A system that was brought to the state of an image stands for every world at rest that the image is of.
use Rattle.std.proofs.Common.{◌≡◌, ℕ, zero, suc, ◌+◌, ◌-◌, ◌≤◌, ◌<◌, ◌⊎◌, List, [], ◌∷◌, ◌++◌, length, refl, sym, ap}
use Rattle.std.proofs.Common.{◌∙◌, subst, inl, inr, arith, Option, Some, None, true, false, append_assoc, drop, take}
use Rattle.std.proofs.Common.{Result, Ok, Err}
use Rattle.std.specs.Prelude.{Contains, nat_lt}
use Rattle.std.proofs.lemmas.Bool.Decides.{nat_tests}
use Rattle.plain_text.specs.declared.limit.TheConstants.{MOST_MOVES, MOST_OUTPUT_BYTES}
use Rattle.plain_text.specs.declared.packet.Packet.{Packet}
use Rattle.entry_order.specs.Log.{Entry, IsIn}
use Rattle.entry_order.proofs.KeptEntries.{in_either, in_left, in_right}
use Rattle.access_log.specs.Held.{Lane}
use Rattle.drawn_words.specs.Drawn.{Drawn, drawn_after}
use Rattle.master_core.specs.declared.parts.Counts.{Counts}
use Rattle.master_core.specs.Holding.{HoldsOf}
use Rattle.plain_machine.specs.declared.plain_move.PlainMove.{PlainMove}
use Rattle.plain_machine.specs.declared.plain_move.PlayCause.{PlayCause}
use Rattle.plain_machine.specs.declared.plain_move.PlayFault.{PlayFault}
use Rattle.plain_machine.specs.Program.{Meaning}
use Rattle.plain_machine.specs.Machine.{Effect, Moved, Moves, Illegal, Thread, thread_move}
use Rattle.plain_machine.specs.History.{Step, act_of, and_moves, log_of, numbered, plain_move, play, step_of, IsHistory}
use Rattle.plain_machine.specs.History.{after_moved, thread_after, value_after}
use Rattle.plain_machine.specs.Agree.{SendsAfter, IsEarlier}
use Rattle.plain_machine.proofs.PlayedLists.{play_history, stuck}
use Rattle.recovery_world.specs.World.{Setting, Sent, World, Ended as EndedEpoch, inputs_fed, opening}
use Rattle.recovery_world.specs.declared.event.Event.TheVariants as event
use Rattle.recovery_world.specs.declared.event.Outcome.{Outcome}
use Rattle.system_parts.specs.Performing.{ComesTo, MovesOn}
use Rattle.system_parts.proofs.EventChains.{moves_as}
use Rattle.handover_world.specs.declared.fault.ResumeError.{ResumeError}
use Rattle.recovery_world.specs.Events.{HasNumber, IsAmong, after_feed, fed_after}
use Rattle.recovery_world.specs.Files.{answer_of, moves_made, sent_names}
use Rattle.recovery_world.specs.Limits.{IsWithin}
use Rattle.recovery_laws.specs.Sound.{Sound}
use Rattle.recovery_laws.proofs.AcceptedRuns.{act_answer, held_answer, made_length, moves_play}
use Rattle.recovery_laws.proofs.KeptWorlds.{like}
use Rattle.output_logger.specs.Logger.{Logger}
use Rattle.system_parts.specs.Parts.{Parts}
use Rattle.system_parts.specs.SystemStanding.{AreOutputs, HasEnded, HasSent, HasSnapshots, IsSnapshot, StandsFor}
use Rattle.system_parts.proofs.LineLemmas.{holds_moves}
use Rattle.master_core.specs.MasterStanding.{Stands}
use Rattle.handover.specs.declared.image.Ended.{Ended}
use Rattle.handover.specs.declared.image.Image.{Image}
use Rattle.handover_world.specs.Faults.{AreReleased, IsFault}
use Rattle.handover_world.specs.Images.{IsAtRest, IsImageOf, ended_rows}
use Rattle.system_images.specs.Judging.{CountsMayBe, PlaysWhole}
use Rattle.system_images.specs.Building.{Builds, IsBuilt, Prepares, Resumes}
use Rattle.system_images.proofs.BuiltWorlds.{legal_move, name_there, named_there, never_both, ok_same}
use Rattle.system_images.proofs.RowsLemmas.{epochs_there}

-- The moves of a history are those that it was played by

one_move : {V : Type 0} (m : Meaning V) (inputs : ℕ → List Packet) (threads : ℕ) (past more : List (Step V))
    (plain : PlainMove) → plain_move m inputs threads past plain ≡ Ok more
    → moves_made more ≡ moves_made past ++ plain ∷ []
one_move {V} m inputs threads past more plain e =
    sym (ap (λ (l : List (Step V)). moves_made l) same) ∙ ap (λ (p : PlainMove). moves_made past ++ p ∷ []) told
  where
    by : (plain.thread < threads) × (after : Thread) × (effect : Effect V)
        × (thread_move m (inputs plain.thread) (value_after m past) (thread_after past plain.thread) plain.answer
        ≡ Moves after effect)
    by = legal_move m inputs threads past more plain e

    step : Step V
    step = step_of plain.thread past by.1 by.2

    made_so : plain_move m inputs threads past plain ≡ Ok (step ∷ past)
    made_so =
        let low : plain.thread < threads = by.0 in
        let t : nat_lt plain.thread threads ≡ true = grind (arith, nat_tests) in rw t (rw by.3 refl)

    same : step ∷ past ≡ more
    same = ok_same (step ∷ past) more (plain_move m inputs threads past plain) made_so e

    told : record { thread = plain.thread; answer = answer_of (act_of plain.thread past by.1.taken by.2) } ≡ plain
    told =
        ap (λ (a : Option ℕ). let r : PlainMove = record { thread = plain.thread; answer = a } in r)
        (act_answer plain.thread by.1.taken past by.2
        ∙ sym (held_answer m (inputs plain.thread) (value_after m past) (thread_after past plain.thread).taken
        plain.answer (thread_after past plain.thread).hand by.1 by.2 by.3))

moves_on : {V : Type 0} (m : Meaning V) (inputs : ℕ → List Packet) (threads : ℕ) (moves : List PlainMove)
    (past steps : List (Step V)) → and_moves m inputs threads (Ok past) moves ≡ Ok steps
    → moves_made steps ≡ moves_made past ++ moves
moves_on {V} m inputs threads [] past steps e =
    let same : past ≡ steps = cc in
    sym (ap (λ (l : List (Step V)). moves_made l) same) ∙ sym (append_none (moves_made past))
  where
    append_none : (l : List PlainMove) → l ++ [] ≡ l
    append_none [] = refl
    append_none (x ∷ l) = ap (λ (k : List PlainMove). x ∷ k) (append_none l)
moves_on {V} m inputs threads (plain ∷ moves) past steps e =
    go (plain_move m inputs threads past plain) refl e (λ more. moves_on m inputs threads moves more steps)
  where
    go : (o : Result (List (Step V)) PlayCause) → plain_move m inputs threads past plain ≡ o
        → and_moves m inputs threads (numbered (length past) o) moves ≡ Ok steps
        → ((more : List (Step V)) → and_moves m inputs threads (Ok more) moves ≡ Ok steps
        → moves_made steps ≡ moves_made more ++ moves)
        → moves_made steps ≡ moves_made past ++ plain ∷ moves
    go (Err cause) k e later =
        let fault : PlayFault = record { number = length past + 1; cause = cause } in
        absurd (never_both (and_moves m inputs threads (Err fault) moves) fault steps
        (stuck m inputs threads moves fault) e)
    go (Ok more) k e later =
        later more e
        ∙ (ap (λ (l : List PlainMove). l ++ moves) (one_move m inputs threads past more plain k)
        ∙ append_assoc (moves_made past) (plain ∷ []) moves)

pub played_moves : {V : Type 0} (m : Meaning V) (inputs : ℕ → List Packet) (threads : ℕ) (moves : List PlainMove)
    (steps : List (Step V)) → play m inputs threads moves ≡ Ok steps → moves_made steps ≡ moves
played_moves m inputs threads moves steps e = moves_on m inputs threads moves [] steps e

-- The same names

same_number : (t n : ℕ) (xs ys : List Sent) → sent_names xs ≡ sent_names ys
    → ((o : Sent) × HasNumber t n o × IsAmong o xs) → (o : Sent) × HasNumber t n o × IsAmong o ys
same_number t n xs ys same (o, of, i) =
    let r = named_there o.emission.thread o.emission.number ys
    (subst (λ (l : List (ℕ × ℕ)). Contains l (o.emission.thread, o.emission.number)) same (name_there o xs i)) in
    (r.0, (r.1.0 ∙ of.0, r.1.1 ∙ of.1), r.2)

none_in : (e : Entry) (l : List Entry) → l ≡ [] → IsIn e l → ⊥
none_in e l none i = subst (λ (k : List Entry). IsIn e k) none i

-- Another world

-- the parts with other counts
abbrev pub with_counts : {P V : Type 0} → List (List Counts) → Drawn → Image → Parts P V → Parts P V
with_counts ended words image y = record y {
  ended = ended;
  clock = image.clock;
  generator = words;
  moves = image.moves;
  bytes = image.bytes;
}

-- the counts are those that the rows say
abbrev pub AreEnded : ℕ → Image → List (List Counts) → Type 0
AreEnded threads image ended =
    (epochs : List EndedEpoch) → image.ended ≡ ended_rows threads epochs → length epochs ≡ image.epoch - 1
    → HasEnded threads (image.epoch - 1 + 1) epochs ended

module _ {P V : Type 0} (m : Meaning V) (s : Setting V) (image : Image) (here : World V) (y : Parts P V)
    (st : StandsFor m s here y) (played : PlaysWhole s image)
    (h : IsBuilt image.fed image.epoch played.steps played.steps image.released here) (seed : ℕ) (same : s.seed ≡ seed)
    (ended : List (List Counts)) (counted : AreEnded s.threads image ended) where
  -- with these moves and bytes no limit is passed
  within : (w : World V) → w.moves ≡ image.moves → w.bytes ≡ image.bytes → IsWithin w
  within w a b =
      let few = played.counts.few_moves in
      let small = played.counts.few_bytes in
      let t : nat_lt MOST_MOVES w.moves ≡ false = grind (arith, nat_tests) in
      let u : nat_lt MOST_OUTPUT_BYTES w.bytes ≡ false = grind (arith, nat_tests) in
      rw t (rw u refl)

  module _ (w : World V) (sound : Sound s w) (rest : IsAtRest w) (i : IsImageOf s w image) where
    fed : here.fed ≡ w.fed
    fed = h.fed_is ∙ i.fed

    epoch : here.epoch ≡ w.epoch
    epoch = h.epoch_is ∙ i.epoch

    replays : play s.meaning (inputs_fed s image.fed) s.threads image.past ≡ Ok w.past
    replays = subst (λ (l : List PlainMove). play s.meaning (inputs_fed s image.fed) s.threads l ≡ Ok w.past)
        (sym i.past)
        (subst (λ (n : ℕ). play s.meaning (inputs_fed s n) s.threads (moves_made w.past) ≡ Ok w.past) (sym i.fed)
        (moves_play s.meaning (inputs_fed s w.fed) s.threads w.past sound.firm.legal))

    steps : played.steps ≡ w.past
    steps = ok_same played.steps w.past (play s.meaning (inputs_fed s image.fed) s.threads image.past) played.plays
        replays

    past : here.past ≡ w.past
    past = h.past_is ∙ steps

    stored : here.stored ≡ w.stored
    stored = h.stored_is ∙ (steps ∙ sym rest.stored)

    names : sent_names here.released ≡ sent_names w.released
    names = h.released ∙ i.released

    past_stored : (e : Entry) → IsIn e (log_of w.past) → IsIn e (log_of w.stored)
    past_stored e k = subst (λ (l : List (Step V)). IsIn e (log_of l)) (sym rest.stored) k

    -- the entries of both lines are those of the past
    to : (e : Entry) → IsIn e (here.followed ++ log_of here.past) → IsIn e (w.followed ++ log_of w.past)
    to e k = go (in_either e here.followed (log_of here.past) k)
      where
        go : IsIn e here.followed ⊎ IsIn e (log_of here.past) → IsIn e (w.followed ++ log_of w.past)
        go (inl a) = absurd (none_in e here.followed h.followed a)
        go (inr a) =
            in_right e w.followed (log_of w.past) (subst (λ (l : List (Step V)). IsIn e (log_of l)) past a)

    back : (e : Entry) → IsIn e (w.followed ++ log_of w.past) → IsIn e (here.followed ++ log_of here.past)
    back e k = go (in_either e w.followed (log_of w.past) k)
      where
        of : IsIn e (log_of w.past) → IsIn e (here.followed ++ log_of here.past)
        of a =
            in_right e here.followed (log_of here.past) (subst (λ (l : List (Step V)). IsIn e (log_of l)) (sym past) a)

        go : IsIn e w.followed ⊎ IsIn e (log_of w.past) → IsIn e (here.followed ++ log_of here.past)
        go (inl a) = of (rest.followed e a)
        go (inr a) = of a

    snapshots : HasSnapshots s w.stored w.copy y.store
    snapshots = record {
      first = subst (λ (l : List (Step V)). IsSnapshot s l y.store.stored) stored st.snapshots.first;
      copied = λ moment is. absurd (let none = rest.copy in cc);
      none = λ none. st.snapshots.none h.copy;
    }

    pub goes_on : StandsFor m s w (with_counts ended (drawn_after seed image.draws) image y)
    goes_on = record {
      sound = sound;
      within = within w (sym i.moves) (sym i.bytes);
      inputs = record {
        meaning = st.inputs.meaning;
        fractions = st.inputs.fractions;
        inputs = subst
            (λ (n : ℕ). y.inputs ≡ record { threads = s.threads; tags = s.tags; packets = take n s.packets }) fed
            st.inputs.inputs;
        left = subst (λ (n : ℕ). y.left ≡ drop n s.packets) fed st.inputs.left;
        clock = i.clock;
        generator = ap (λ (k : ℕ). drawn_after k image.draws) (sym same) ∙ ap (λ (k : ℕ). drawn_after s.seed k) i.draws;
      };
      master = record {
        up = st.master.up ∙ (h.up ∙ sym rest.up);
        stands = subst (λ (l : List (Step V)). Stands s.meaning s.threads l y.master) past st.master.stands;
        schedule = st.master.schedule ∙ ap (λ (l : List (Step V)). moves_made l) past;
        past =
            let few = played.counts.moves in
            let long = made_length w.past in
            let same : length image.past ≡ length (moves_made w.past) = ap (λ (l : List PlainMove). length l) i.past in
            let moves = i.moves in
            omega (arith, few, long, same, moves);
        moves = i.moves;
        bytes = i.bytes;
      };
      snapshots = snapshots;
      ended =
          let all = i.epochs in
          let number = i.epoch in
          let long : length w.ended ≡ image.epoch - 1 = omega (arith, all, number) in
          subst (λ (n : ℕ). HasEnded s.threads n w.ended ended) (omega (arith, all, number))
          (counted w.ended i.ended long);
      guide = record {
        follows = λ e not. (
          λ k. absurd (not (rest.followed e k)),
          λ k. absurd (none_in e here.followed h.followed ((st.guide.follows e (λ j. not
              (subst (λ (l : List (Step V)). IsIn e (log_of l)) past j))).1 k)),
        );
        only = λ e k. absurd (none_in e here.followed h.followed (st.guide.only e k));
        began = st.guide.began;
        holds = holds_moves (here.followed ++ log_of here.past) (w.followed ++ log_of w.past) st.guide.began y.guide to
            back st.guide.holds;
      };
      sent = subst (λ (n : ℕ). HasSent n w.past y.logger.held y.logger.released y.sent) epoch
          (subst (λ (l : List (Step V)). HasSent here.epoch l y.logger.held y.logger.released y.sent) past st.sent);
      logger = record {
        epoch = st.logger.epoch ∙ epoch;
        holds = subst (λ (l : List (Step V)). HoldsOf (w.followed ++ log_of w.past) (log_of l) y.logger.held) stored
            (holds_moves (here.followed ++ log_of here.past) (w.followed ++ log_of w.past) (log_of here.stored)
            y.logger.held to back st.logger.holds);
        held = λ e. (
          λ k. absurd (none_in e here.held h.held ((st.logger.held e).0 k).0),
          λ k. absurd (k.1 (past_stored e (rest.held e k.0))),
        );
        waiting =
            subst (λ (l : List Sent). AreOutputs (log_of w.past) y.logger.waiting l) (h.waiting ∙ sym rest.waiting)
            (subst (λ (l : List (Step V)). AreOutputs (log_of l) y.logger.waiting here.waiting) past st.logger.waiting);
        released = λ t n. (
          λ k. same_number t n here.released w.released names ((st.logger.released t n).0 k),
          λ k. (st.logger.released t n).1 (same_number t n w.released here.released (sym names) k),
        );
      };
      released = st.released ∙ names;
    }

  -- There is such a world

  abbrev pub epochs : (xs : List EndedEpoch) × (image.ended ≡ ended_rows s.threads xs) × (length xs ≡ image.epoch - 1)
  epochs = epochs_there s.threads (image.epoch - 1) image.ended played.rows

  abbrev pub there : World V
  there = record here {
    ended = epochs.0;
    clock = image.clock;
    drawn = image.draws;
    moves = image.moves;
    bytes = image.bytes;
  }

  there_sound : Sound s there
  there_sound = record {
    firm = like s here st.sound.firm here.fed image.clock image.draws here.epoch image.moves image.bytes here.up
        here.stored here.copy here.held here.waiting here.released epochs.0
        (omega arith, st.sound.firm.fed) st.sound.firm.stored st.sound.firm.copied st.sound.firm.down
        st.sound.firm.held st.sound.firm.held_once st.sound.firm.held_on (λ e k. k) (λ e k. k) (λ o k. inl k)
        st.sound.firm.sent st.sound.firm.once;
    waits = λ o k may. subst (λ (l : List Sent). IsAmong o l) h.waiting k;
  }

  there_rests : IsAtRest there
  there_rests = record {
    up = h.up;
    stored = h.stored_is ∙ sym h.past_is;
    copy = h.copy;
    held = λ e k. absurd (none_in e here.held h.held k);
    followed = λ e k. absurd (none_in e here.followed h.followed k);
    waiting = h.waiting;
    sent = λ o k. subst (λ (l : List (Step V)). SendsAfter l o.emission o.after) (sym h.past_is) (h.sent o k);
  }

  there_is : IsImageOf s there image
  there_is = record {
    fed = sym h.fed_is;
    clock = refl;
    draws = refl;
    epoch = sym h.epoch_is;
    epochs =
        let long = epochs.2 in
        let some = played.counts.some_epochs in
        let is = h.epoch_is in omega (arith, long, some, is);
    moves = refl;
    bytes = refl;
    ended = epochs.1;
    released = sym h.released;
    past = sym (played_moves s.meaning (inputs_fed s image.fed) s.threads image.past played.steps played.plays)
        ∙ ap (λ (l : List (Step V)). moves_made l) (sym h.past_is);
  }

  pub resumes : AreReleased played.steps image.released
      → Resumes m s image (with_counts ended (drawn_after seed image.draws) image y)
  resumes released = record {
    no_fault = record {
      counts = played.counts;
      rows = played.rows;
      steps = played.steps;
      plays = played.plays;
      released = released;
    };
    stands = λ w sound rest i. goes_on w sound rest i;
    some = (there, there_sound, there_rests, there_is);
  }

-- From the parts of a system as its code has them
pub counts_set : {P V : Type 0} (m : Meaning V) (view now : Parts P V) → view ≡ now → (s : Setting V) (w : World V)
    → StandsFor m s w now → (image : Image) (played : PlaysWhole s image)
    → IsBuilt image.fed image.epoch played.steps played.steps image.released w → (seed : ℕ) → s.seed ≡ seed
    → (threads : ℕ) → threads ≡ view.inputs.threads → (ended : List (List Counts)) → AreEnded threads image ended
    → AreReleased played.steps image.released
    → Resumes m s image (with_counts ended (drawn_after seed image.draws) image view)
counts_set {P} {V} m view now is s w st image played h seed same threads count ended counted released =
    let here : StandsFor m s w view = subst (λ (q : Parts P V). StandsFor m s w q) (sym is) st in
    let threads_are : view.inputs.threads ≡ s.threads = ap (λ i. i.threads) here.inputs.inputs in
    resumes m s image w view here played h seed same ended
    (subst (λ (n : ℕ). AreEnded n image ended) (count ∙ threads_are) counted) released

-- The steps of a resumption

module _ {P V : Type 0} (m : P → Meaning V) (image : Image) where
  fed_is : (s : Setting V) → image.fed ≤ length s.packets → fed_after s (opening V) image.fed ≡ image.fed
  fed_is s low = omega (arith, low)

  built_by : (s : Setting V) (next : World V) → image.fed ≤ length s.packets
      → next ≡ after_feed s (opening V) image.fed → IsBuilt image.fed 1 [] [] [] next
  built_by s next low is = record {
    fed_is = ap (λ (z : World V). z.fed) is ∙ fed_is s low;
    epoch_is = ap (λ (z : World V). z.epoch) is;
    up = ap (λ (z : World V). z.up) is;
    past_is = ap (λ (z : World V). z.past) is;
    stored_is = ap (λ (z : World V). z.stored) is;
    copy = ap (λ (z : World V). z.copy) is;
    held = ap (λ (z : World V). z.held) is;
    followed = ap (λ (z : World V). z.followed) is;
    waiting = ap (λ (z : World V). z.waiting) is;
    released = ap (λ (z : World V). sent_names z.released) is;
    sent = λ o i. absurd (subst (λ (l : List Sent). IsAmong o l) (ap (λ (z : World V). z.released) is) i);
  }

  -- the packets of the setting are those that are left at the opening
  counts_of_setting : (s : Setting V) (y : Parts P V) → StandsFor (m y.program) s (opening V) y
      → CountsMayBe (length y.left) image → CountsMayBe (length s.packets) image
  counts_of_setting s y st may = subst (λ (l : List Packet). CountsMayBe (length l) image) st.inputs.left may

  pub prepares : (to : Outcome) (old new : Parts P V) → CountsMayBe (length old.left) image
      → MovesOn (m old.program) (ComesTo (event.Feed image.fed) to) old new
      → ((s : Setting V) (w : World V) → StandsFor (m new.program) s w new → w.fed ≡ image.fed
      → CountsMayBe (length s.packets) image → PlaysWhole s image)
      → MovesOn (m old.program) (Prepares image) old new
  prepares to old new may a good =
      moves_as (m old.program) (ComesTo (event.Feed image.fed) to) (Prepares image) old new
      (λ s w next x y r is. on s w next x y r is) a
    where
      on : (s : Setting V) (w next : World V) → StandsFor (m old.program) s w old
          → StandsFor (m old.program) s next new → ComesTo (event.Feed image.fed) to s w next → w ≡ opening V
          → PlaysWhole s image × IsBuilt image.fed 1 [] [] [] next
      on s w next x y r is =
          let here = subst (λ (z : World V). StandsFor (m old.program) s z old) is x in
          let counts = counts_of_setting s old here may in
          let fed : next ≡ after_feed s (opening V) image.fed =
          r.0.2 ∙ ap (λ (z : World V). after_feed s z image.fed) is in
          let built = built_by s next counts.fed fed in
          let now = subst (λ (z : Meaning V). StandsFor z s next new) (sym (ap m a.0)) y in
          (good s next now built.fed_is counts, built)

  pub prepares_wrong : (to : Outcome) (old new : Parts P V) → CountsMayBe (length old.left) image
      → MovesOn (m old.program) (ComesTo (event.Feed image.fed) to) old new → (e : ResumeError)
      → ((s : Setting V) (w : World V) → StandsFor (m new.program) s w new → w.fed ≡ image.fed
      → CountsMayBe (length s.packets) image → IsFault s image e)
      → (s : Setting V) → StandsFor (m old.program) s (opening V) old → IsFault s image e
  prepares_wrong to old new may a e wrong s st =
      let counts = counts_of_setting s old st may in
      let k = a.1 s (opening V) st in
      let built = built_by s k.0 counts.fed k.1.0.2 in
      wrong s k.0 (subst (λ (z : Meaning V). StandsFor z s k.0 new) (sym (ap m a.0)) k.2) built.fed_is counts

  pub brings : (seed : ℕ) (old a b new : Parts P V) → MovesOn (m old.program) (Prepares image) old a
      → MovesOn (m a.program) (Builds image) a b
      → ((s : Setting V) (w : World V) → StandsFor (m b.program) s w b → s.seed ≡ seed → (played : PlaysWhole s image)
      → IsBuilt image.fed image.epoch played.steps played.steps image.released w
      → AreReleased played.steps image.released → Resumes (m b.program) s image new)
      → (s : Setting V) → StandsFor (m old.program) s (opening V) old → s.seed ≡ seed
      → Resumes (m old.program) s image new
  brings seed old a b new p q sets s st same =
      let k = p.1 s (opening V) st in
      let ready = k.1 refl in
      let l = q.1 s k.0 (subst (λ (z : Meaning V). StandsFor z s k.0 a) (sym (ap m p.0)) k.2) in
      let built = l.1 ready.0 ready.1 in
      let now = subst (λ (z : Meaning V). StandsFor z s l.0 b) (sym (ap m q.0)) l.2 in
      subst (λ (z : Meaning V). Resumes z s image new) (ap m (q.0 ∙ p.0))
      (sets s l.0 now same ready.0 built.0 built.1)

  pub brings_wrong : (old a : Parts P V) → MovesOn (m old.program) (Prepares image) old a → (e : ResumeError)
      → ((s : Setting V) (w : World V) → StandsFor (m a.program) s w a → PlaysWhole s image
      → IsBuilt image.fed 1 [] [] [] w → IsFault s image e)
      → (s : Setting V) → StandsFor (m old.program) s (opening V) old → IsFault s image e
  brings_wrong old a p e wrong s st =
      let k = p.1 s (opening V) st in
      let ready = k.1 refl in
      wrong s k.0 (subst (λ (z : Meaning V). StandsFor z s k.0 a) (sym (ap m p.0)) k.2) ready.0 ready.1
