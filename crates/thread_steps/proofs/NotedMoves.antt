-- A move of a master, noted, is that of its event: all parts but the master stand for the world after it.
use Rattle.std.proofs.Common.{◌≡◌, ℕ, ◌+◌, ◌<◌, ◌≤◌, List, [], ◌∷◌, ◌++◌, length, refl, sym, ap, ◌∙◌, subst, inl, inr}
use Rattle.std.proofs.Common.{arith, Option, Some, None, Result, Ok, Err, true}
use Rattle.std.specs.Prelude.{slice_index, IfOk}
use Rattle.drawn_words.specs.Drawn.{Drawn, drawn_after}
use Rattle.plain_text.specs.declared.limit.Limit.{Limit}
use Rattle.entry_order.specs.Log.{Entry, entries, IsLog}
use Rattle.entry_order.specs.Stamps.{IsStamp}
use Rattle.access_log.specs.declared.entry.Output.{Output}
use Rattle.plain_machine.specs.declared.plain_move.PlainMove.{PlainMove}
use Rattle.plain_machine.specs.Program.{Meaning}
use Rattle.plain_machine.specs.History.{Act, Took, Did, Emitted, Ended, Step, log_more, log_of, sent_of, outputs}
use Rattle.plain_machine.specs.History.{thread_after, plain_move, IsHistory}
use Rattle.plain_machine.specs.Agree.{IsEarlier}
use Rattle.plain_machine.proofs.Histories.{history_log, earlier_refl, earlier_log, did_emission}
use Rattle.master_core.specs.Mastered.{Mastered}
use Rattle.master_core.specs.MasterStanding.{Stands}
use Rattle.master_core.specs.Stepping.{plain_entry, emission_of_output, Shows}
use Rattle.master_core.specs.declared.step.Stepped.{Stepped}
use Rattle.master_core.specs.declared.step.Stepped.TheVariants as stepped
use Rattle.master_core.proofs.StampedLemmas.{other_output}
use Rattle.recovery_world.specs.declared.event.Event.TheVariants as event
use Rattle.recovery_world.specs.declared.event.Outcome.{Outcome}
use Rattle.recovery_world.specs.declared.event.Outcome.TheVariants as outcome
use Rattle.recovery_world.specs.World.{Setting, Sent, World, inputs_fed}
use Rattle.recovery_world.specs.Turns.{HandHasTurn}
use Rattle.recovery_world.specs.Events.{TellsHand, OnStep, IsAmong, entry_outcome, move_outcome, bytes_sent}
use Rattle.recovery_world.specs.Limits.{limit_passed, IsWithin, OnWithin, Passes}
use Rattle.recovery_world.specs.Files.{moves_made, answer_of}
use Rattle.recovery_laws.specs.Sound.{Sound}
use Rattle.recovery_laws.specs.Making.{CanMake, after_made}
use Rattle.recovery_laws.proofs.SoundParts.{sent_after}
use Rattle.recovery_laws.proofs.KeptWorlds.{within_sound}
use Rattle.recovery_laws.proofs.LedMoves.{Made, made_move, made_step}
use Rattle.event_replies.specs.declared.reply.Stop.{Stop}
use Rattle.event_replies.specs.declared.reply.Stop.TheVariants as stop
use Rattle.link_store.specs.Sending.{Sending, length_at, output_size}
use Rattle.system_parts.specs.Parts.{Parts}
use Rattle.system_parts.specs.SystemStanding.{AreOutputs, HasSnapshots, StandsFor}
use Rattle.system_parts.specs.Resting.{RestsFor}
use Rattle.system_parts.proofs.LineLemmas.{holds_later_line}
use Rattle.system_parts.proofs.SentLemmas.{SentOf, length_stays, after_step, sent_took, sent_did, sent_emitted}
use Rattle.system_parts.proofs.SentLemmas.{sent_ended}
use Rattle.thread_steps.specs.Stepping.{with_move, AddsEntry, AddsOutput, NotesAs, Notes, NotesFor, PassesFor}
use Rattle.thread_steps.proofs.MoveLemmas.{made_answer}

-- The waiting outputs stay as the log grows.

-- with one more entry, and after one more step
outputs_more : (x : Entry) (log : List Entry) (stamped : List Output) (sent : List Sent) → IsLog (x ∷ log)
    → ((o : Sent) → IsAmong o sent → o.after ≤ entries o.emission.thread log) → AreOutputs log stamped sent
    → AreOutputs (x ∷ log) stamped sent
outputs_more x log [] [] good low h = tt
outputs_more x log [] (o ∷ sent) good low h = h
outputs_more x log (p ∷ stamped) [] good low h = h
outputs_more x log (p ∷ stamped) (o ∷ sent) good low h = (
  h.0,
  other_output log x o.emission.thread o.after (λ u. slice_index p.stamp u) good (low o (inl refl)) h.1,
  outputs_more x log stamped sent good (λ q i. low q (inr i)) h.2,
)

outputs_step : {V : Type 0} (a : Act V) (log : List Entry) (stamped : List Output) (sent : List Sent)
    → IsLog (log_more a log) → ((o : Sent) → IsAmong o sent → o.after ≤ entries o.emission.thread log)
    → AreOutputs log stamped sent → AreOutputs (log_more a log) stamped sent
outputs_step (Took k) log stamped sent good low h = h
outputs_step (Did e left) log stamped sent good low h = outputs_more e log stamped sent good low h
outputs_step (Emitted o) log stamped sent good low h = h
outputs_step (Ended k) log stamped sent good low h = h

-- All parts of a system but its master; and with a master that stands for the past, all of them.
pub but_master : {P V : Type 0} (m : Meaning V) (s : Setting V) (w : World V) (y : Parts P V) → StandsFor m s w y
    → RestsFor m s w y
but_master m s w y st = record {
  sound = st.sound;
  within = st.within;
  inputs = st.inputs;
  moved = record {
    up = st.master.up;
    schedule = st.master.schedule;
    past = st.master.past;
    moves = st.master.moves;
    bytes = st.master.bytes;
  };
  snapshots = st.snapshots;
  ended = st.ended;
  guide = st.guide;
  sent = st.sent;
  logger = st.logger;
  released = st.released;
}

pub with_master : {P V : Type 0} (m : Meaning V) (s : Setting V) (w : World V) (y : Parts P V)
    → RestsFor m s w y → Stands s.meaning s.threads w.past y.master → StandsFor m s w y
with_master m s w y r stands = record {
  sound = r.sound;
  within = r.within;
  inputs = r.inputs;
  master = record {
    up = r.moved.up;
    stands = stands;
    schedule = r.moved.schedule;
    past = r.moved.past;
    moves = r.moved.moves;
    bytes = r.moved.bytes;
  };
  snapshots = r.snapshots;
  ended = r.ended;
  guide = r.guide;
  sent = r.sent;
  logger = r.logger;
  released = r.released;
}

abbrev pub Answer : Type 0
Answer = Result Outcome Stop

pub limit_is : (a b : Limit)
    → let x : Answer = Err (stop.Limit a) in let y : Answer = Err (stop.Limit b) in x ≡ y → a ≡ b
limit_is a b e = cc

module _ {P V : Type 0} (m : Meaning V) (s : Setting V) (w : World V) (y : Parts P V) (st : RestsFor m s w y) (t : ℕ)
    (given : Option ℕ) (low : t < s.threads) (g : Drawn) (q : Mastered V) (answer : Option ℕ) (drawn : ℕ)
    (tells : TellsHand s w t given answer drawn (thread_after w.past t).hand) (gen : g ≡ drawn_after s.seed drawn)
    (up : w.up ≡ true) where
  abbrev pub mid : Parts P V
  mid = record y { generator = g; master = q }

  -- A move was made.
  module _ (turn : HandHasTurn s.meaning w.followed (log_of w.past) t (thread_after w.past t).hand) (step : Step V)
      (moves : plain_move s.meaning (inputs_fed s w.fed) s.threads w.past (record { thread = t; answer = answer })
      ≡ Ok (step ∷ w.past))
    where
      abbrev pub new : World V
      new = after_step w step drawn

      -- the event is that of the definitions
      pub on : (o : Outcome) → o ≡ move_outcome step.act → OnStep s w t given o new
      on o is = inr (inr (inr (inr (
        low,
        up,
        record {
          turn = turn;
          answer = answer;
          drawn = drawn;
          tells = tells;
          step = step;
          moves = moves;
          to_is = is;
          new_is = refl;
        },
      ))))

      -- it is a legal step after the past
      made : Made s.meaning (inputs_fed s w.fed) s.threads w.past t answer step
      made =
          made_move s.meaning (inputs_fed s w.fed) s.threads w.past (record { thread = t; answer = answer }) step moves

      history : IsHistory s.meaning (inputs_fed s w.fed) s.threads (step ∷ w.past)
      history = (made_step s.meaning (inputs_fed s w.fed) s.threads w.past t answer step made, st.sound.firm.legal)

      -- the parts count as the world does
      counted : (bytes : ℕ) (l : Option Limit) → bytes ≡ bytes_sent step.act
          → limit_passed (y.moves + 1) (y.bytes + bytes) ≡ l
          → limit_passed (w.moves + 1) (w.bytes + bytes_sent step.act) ≡ l
      counted bytes l size is =
          subst (λ (n : ℕ). limit_passed (n + 1) (w.bytes + bytes_sent step.act) ≡ l) st.moved.moves
          (subst (λ (n : ℕ). limit_passed (y.moves + 1) (n + bytes_sent step.act) ≡ l) st.moved.bytes
          (subst (λ (n : ℕ). limit_passed (y.moves + 1) (y.bytes + n) ≡ l) size is))

      -- what a noted move comes to
      abbrev pub GoesOnTo : Outcome → Parts P V → Type 0
      GoesOnTo o after = OnWithin s w (event.Step t given) o [] new × RestsFor m s new after

      -- within the limits the parts but the master stand for the world after it
      goes : (o : Outcome) (bytes : ℕ) (sent : Sending) → o ≡ move_outcome step.act → bytes ≡ bytes_sent step.act
          → limit_passed (y.moves + 1) (y.bytes + bytes) ≡ None
          → SentOf new (record (with_move t answer bytes mid) { sent = sent })
          → HasSnapshots s w.stored w.copy y.store
          → GoesOnTo o (record (with_move t answer bytes mid) { sent = sent })
      goes o bytes sent is size within has snaps = (
        ((on o is, refl), inside),
        record {
          sound = next_sound;
          within = inside;
          inputs = record {
            meaning = st.inputs.meaning;
            fractions = st.inputs.fractions;
            inputs = st.inputs.inputs;
            left = st.inputs.left;
            clock = st.inputs.clock;
            generator = gen;
          };
          snapshots = snaps;
          ended = st.ended;
          guide = record {
            follows = λ e out. st.guide.follows e (λ i. out (earlier_log w.past (step ∷ w.past) e earlier i));
            only = st.guide.only;
            began = st.guide.began;
            holds = holds_later_line s w new st.sound.firm next_sound.firm refl refl earlier st.guide.began y.guide
                st.guide.holds;
          };
          moved = record {
            up = st.moved.up;
            schedule = schedule;
            past = let k = st.moved.past in omega (arith, k);
            moves = ap (λ (n : ℕ). n + 1) st.moved.moves;
            bytes = ap (λ (n : ℕ). n + bytes) st.moved.bytes ∙ ap (λ (n : ℕ). w.bytes + n) size;
          };
          sent = has;
          logger = record {
            epoch = st.logger.epoch;
            holds = holds_later_line s w new st.sound.firm next_sound.firm refl refl earlier (log_of w.stored)
                y.logger.held st.logger.holds;
            held = st.logger.held;
            waiting = outputs_step step.act (log_of w.past) y.logger.waiting w.waiting
                (history_log s.meaning (inputs_fed s w.fed) s.threads (step ∷ w.past) history)
                (λ x i. sent_after w.past x.emission x.after (st.sound.firm.sent x i)) st.logger.waiting;
            released = st.logger.released;
          };
          released = st.released;
        },
      )
        where
          inside : IsWithin new
          inside = counted bytes None size within

          earlier : IsEarlier w.past (step ∷ w.past)
          earlier = inr (earlier_refl w.past)

          next_sound : Sound s new
          next_sound = within_sound s w (event.Step t given) o [] new st.sound ((on o is, refl), inside)

          schedule : y.schedule ++ (record { thread = t; answer = answer }) ∷ []
              ≡ moves_made w.past ++ (record { thread = step.thread; answer = answer_of step.act }) ∷ []
          schedule =
              ap (λ (l : List PlainMove). l ++ (record { thread = t; answer = answer }) ∷ []) st.moved.schedule
              ∙ ap (λ (n : ℕ). moves_made w.past ++ (record { thread = n; answer = answer }) ∷ []) (sym made.thread)
              ∙ ap (λ (a : Option ℕ). moves_made w.past ++ (record { thread = step.thread; answer = a }) ∷ [])
              (sym (made_answer s.meaning (inputs_fed s w.fed) s.threads w.past t answer step made))

      -- past a limit the event would pass it
      stops : (bytes : ℕ) (limit : Limit) → bytes ≡ bytes_sent step.act
          → limit_passed (y.moves + 1) (y.bytes + bytes) ≡ Some limit → Passes s w (event.Step t given) limit
      stops bytes limit size is = record {
        to = move_outcome step.act;
        freed = [];
        new = new;
        on = (on (move_outcome step.act) refl, refl);
        passed = counted bytes (Some limit) size is;
      }

      -- the same, from what was noted
      passes_as : (bytes : ℕ) → bytes ≡ bytes_sent step.act → (to : Outcome) (Adds : Sending → Sending → Type 0)
          (res : Answer) (after : Parts P V) → NotesAs t answer bytes to Adds mid res after → (limit : Limit)
          → res ≡ Err (stop.Limit limit) → Passes s w (event.Step t given) limit × (after ≡ mid)
      passes_as bytes size to Adds (Ok other) after n limit is = absurd (cc)
      passes_as bytes size to Adds (Err stop.NoMemory) after n limit is = absurd (cc)
      passes_as bytes size to Adds (Err (stop.Limit found)) after n limit is =
          (stops bytes limit size (n.0 ∙ ap Some (limit_is found limit is)), n.1)

      -- The move was noted, with what it showed.
      pub noted : (r : Stepped) → Shows w.past r step → (res : Answer) (after : Parts P V)
          → Notes t answer r mid res after
          → IfOk res (λ (to : Outcome). (to ≡ move_outcome step.act) × GoesOnTo to after)
      noted (stepped.Took k) f (Err e) after n = tt
      noted (stepped.Took k) f (Ok to) after n =
          let note = n.1 in
          let has : SentOf (after_step w step drawn) (record (with_move t answer 0 mid) { sent = y.sent }) =
          subst (λ (a : Act V).
          SentOf (after_step w (record step { act = a }) drawn) (record (with_move t answer 0 mid) { sent = y.sent }))
          (sym f) (sent_took w y drawn g q y.schedule y.moves y.bytes step.thread step.after st.sent k) in
          let is = n.0 ∙ ap move_outcome (sym f) in (
            is,
            subst (λ (z : Parts P V). GoesOnTo to z)
                (sym (note.new_is
                ∙ ap (λ (l : Sending). let z : Parts P V = record (with_move t answer 0 mid) { sent = l } in z)
                note.sends)) (goes to 0 y.sent is (ap bytes_sent (sym f)) note.within has st.snapshots),
          )
      noted (stepped.Did e) f (Err x) after n = tt
      noted (stepped.Did e) f (Ok to) after n =
          let note = n.1 in
          let act = f.0.1 in
          let log : log_of (step ∷ w.past) ≡ plain_entry e ∷ log_of w.past =
          ap (λ (a : Act V). log_more a (log_of w.past)) act in
          let good : IsLog (plain_entry e ∷ log_of w.past) =
          subst IsLog log (history_log s.meaning (inputs_fed s w.fed) s.threads (step ∷ w.past) history) in
          let stamp = subst (λ (l : List Entry). IsStamp l (plain_entry e) (λ u. slice_index e.stamp u)) log f.1 in
          let has : SentOf (after_step w step drawn) (record (with_move t answer 0 mid) { sent = after.sent }) =
          subst (λ (a : Act V). SentOf (after_step w (record step { act = a }) drawn)
          (record (with_move t answer 0 mid) { sent = after.sent })) (sym act)
          (sent_did w y drawn g q y.schedule y.moves y.bytes step.thread step.after st.sent e f.0.0 after.sent good
          note.sends.0 stamp note.sends.1) in
          let is = n.0 ∙ ap move_outcome (sym act) in (
            is,
            subst (λ (z : Parts P V). GoesOnTo to z) (sym note.new_is)
                (goes to 0 after.sent is (ap bytes_sent (sym act)) note.within has
                st.snapshots),
          )
      noted (stepped.Emitted o) f (Err x) after n = tt
      noted (stepped.Emitted o) f (Ok to) after n =
          let note = n.1 in
          let act = f.0 in
          let did = did_emission t step.after.taken w.past made.effect (emission_of_output o) (sym made.act ∙ act) in
          let number : o.number ≡ outputs o.thread (sent_of w.past) + 1 =
          did.1 ∙ ap (λ (u : ℕ). outputs u (sent_of w.past) + 1) (sym did.0) in
          let has : SentOf (after_step w step drawn)
          (record (with_move t answer (length o.packet.bytes) mid) { sent = after.sent }) =
          subst (λ (a : Act V). SentOf (after_step w (record step { act = a }) drawn)
          (record (with_move t answer (length o.packet.bytes) mid) { sent = after.sent })) (sym act)
          (sent_emitted w y drawn g q y.schedule y.moves y.bytes step.thread step.after st.sent s.meaning
          (inputs_fed s w.fed) s.threads o after.sent st.sound.firm.legal
          (history_log s.meaning (inputs_fed s w.fed) s.threads w.past st.sound.firm.legal) number note.sends.0 f.1
          note.sends.1) in
          let is = n.0 ∙ ap move_outcome (sym act) in (
            is,
            subst (λ (z : Parts P V). GoesOnTo to z) (sym note.new_is)
                (goes to (length o.packet.bytes) after.sent is (ap bytes_sent (sym act)) note.within has
                st.snapshots),
          )
      noted (stepped.Ended k) f (Err e) after n = tt
      noted (stepped.Ended k) f (Ok to) after n =
          let note = n.1 in
          let has : SentOf (after_step w step drawn) (record (with_move t answer 0 mid) { sent = y.sent }) =
          subst (λ (a : Act V).
          SentOf (after_step w (record step { act = a }) drawn) (record (with_move t answer 0 mid) { sent = y.sent }))
          (sym f) (sent_ended w y drawn g q y.schedule y.moves y.bytes step.thread step.after st.sent k) in
          let is = n.0 ∙ ap move_outcome (sym f) in (
            is,
            subst (λ (z : Parts P V). GoesOnTo to z)
                (sym (note.new_is
                ∙ ap (λ (l : Sending). let z : Parts P V = record (with_move t answer 0 mid) { sent = l } in z)
                note.sends)) (goes to 0 y.sent is (ap bytes_sent (sym f)) note.within has st.snapshots),
          )
      noted stepped.Idle f res after n = absurd f
      noted (stepped.NotTurn u k) f res after n = absurd f
      noted stepped.NoMemory f res after n = absurd f

      -- The move would pass a limit, and is not noted.
      pub passes : (r : Stepped) → Shows w.past r step → (res : Answer) (after : Parts P V)
          → Notes t answer r mid res after → (limit : Limit) → res ≡ Err (stop.Limit limit)
          → Passes s w (event.Step t given) limit × (after ≡ mid)
      passes (stepped.Took k) f res after n limit is =
          passes_as 0 (ap bytes_sent (sym f)) (outcome.Take k) (λ (a b : Sending). b ≡ a) res after n limit is
      passes (stepped.Did e) f res after n limit is =
          passes_as 0 (ap bytes_sent (sym f.0.1)) (entry_outcome e.number e.what) (AddsEntry e) res after n limit is
      passes (stepped.Emitted o) f res after n limit is = passes_as (length o.packet.bytes) (ap bytes_sent (sym f.0))
          (outcome.Emitted o.number) (AddsOutput o) res after n limit is
      passes (stepped.Ended k) f res after n limit is =
          passes_as 0 (ap bytes_sent (sym f)) (outcome.Ended k) (λ (a b : Sending). b ≡ a) res after n limit is
      passes stepped.Idle f res after n limit is = absurd f
      passes (stepped.NotTurn u k) f res after n limit is = absurd f
      passes stepped.NoMemory f res after n limit is = absurd f

-- What is noted of a step whose answer is given.

pub notes_for : {P V : Type 0} (m : Meaning V) (t : ℕ) (answer : Option ℕ) (r : Stepped) (old after : Parts P V)
    (to : Outcome) → Notes t answer r old (Ok to) after → (s : Setting V) (w : World V) (step : Step V)
    → NotesFor m s w t answer r step to old after
notes_for m t answer r old after to n s w step st up can shows =
    let k = noted m s w old st t answer can.low old.generator old.master answer w.drawn can.tells st.inputs.generator up
    can.turn step can.moves r shows (Ok to) after n in
    (k.0, k.1.0, k.1.1)

pub passes_for : {P V : Type 0} (m : Meaning V) (t : ℕ) (answer : Option ℕ) (r : Stepped) (old after : Parts P V)
    (limit : Limit) → Notes t answer r old (Err (stop.Limit limit)) after → (s : Setting V) (w : World V)
    (step : Step V) → PassesFor m s w t answer r step limit old
passes_for m t answer r old after limit n s w step st up can shows =
    (passes m s w old st t answer can.low old.generator old.master answer w.drawn can.tells st.inputs.generator up
    can.turn step can.moves r shows (Err (stop.Limit limit)) after n limit refl).0
