-- A system whose master made a move stands for the world after it.
use Rattle.std.proofs.Common.{◌≡◌, ℕ, ◌+◌, ◌<◌, ◌≤◌, List, [], ◌∷◌, ◌++◌, length, refl, sym, ap, ◌∙◌, subst, inl, inr}
use Rattle.std.proofs.Common.{arith, Option, Some, None, Result, Ok, Err, true, false}
use Rattle.std.specs.Prelude.{◌↔◌, slice_get, slice_index, is_some, IsTrue, IsSome, IfOk, All}
use Rattle.std.specs.Option.{unwrap_or, option_map}
use Rattle.drawn_words.specs.Drawn.{Drawn, drawn_after}
use Rattle.plain_text.specs.Packets.{IsShort}
use Rattle.plain_text.specs.declared.limit.Limit.{Limit}
use Rattle.plain_text.specs.declared.limit.TheConstants.{MOST_MOVES}
use Rattle.plain_text.specs.declared.packet.Packet.{Packet}
use Rattle.input_logger.specs.Inputs.{Fed, inputs_of}
use Rattle.input_logger.proofs.PlaceLists.{input_has}
use Rattle.entry_order.specs.Log.{Entry, entries, IsLog}
use Rattle.entry_order.specs.Stamps.{IsStamp}
use Rattle.access_log.specs.declared.entry.Output.{Output}
use Rattle.plain_machine.specs.declared.local.Move.{Move}
use Rattle.plain_machine.specs.declared.local.Move.TheVariants as move
use Rattle.plain_machine.specs.declared.plain_move.PlainMove.{PlainMove}
use Rattle.plain_machine.specs.Program.{Meaning, IsLawful}
use Rattle.plain_machine.specs.Machine.{Hand}
use Rattle.plain_machine.specs.History.{Act, Took, Did, Emitted, Ended, Step, log_more, log_of, sent_of, outputs}
use Rattle.plain_machine.specs.History.{thread_after, plain_move, IsHistory}
use Rattle.plain_machine.proofs.Histories.{history_log, earlier_refl, earlier_log, did_emission}
use Rattle.box_program.specs.Hands.{local_in, input_for, has_hand, IsInputAfter}
use Rattle.master_core.specs.Mastered.{Mastered, place_in_hand, HasRoom, IsOnVariable, WantsVariable}
use Rattle.master_core.specs.MasterStanding.{Stands}
use Rattle.master_core.specs.Stepping.{told_in, move_of, Follows, MadeNone, MadeOne, Shows}
use Rattle.master_core.specs.declared.step.Stepped.{Stepped}
use Rattle.master_core.specs.declared.step.Stepped.TheVariants as stepped
use Rattle.master_core.proofs.StampedLemmas.{other_output}
use Rattle.recovery_world.specs.declared.event.Event.TheVariants as event
use Rattle.recovery_world.specs.declared.event.Outcome.{Outcome}
use Rattle.recovery_world.specs.declared.event.Outcome.TheVariants as outcome
use Rattle.recovery_world.specs.World.{Setting, Sent, World, inputs_fed}
use Rattle.recovery_world.specs.Turns.{Awaits, HandHasTurn}
use Rattle.recovery_world.specs.Events.{Tells, TellsHand, WantsMore, WaitsFor, OnStep, IsAmong, entry_outcome}
use Rattle.recovery_world.specs.Events.{move_outcome, bytes_sent}
use Rattle.recovery_world.specs.Limits.{limit_passed, IsWithin}
use Rattle.recovery_world.specs.Files.{moves_made, answer_of}
use Rattle.recovery_laws.proofs.SoundParts.{sent_after}
use Rattle.recovery_laws.proofs.KeptWorlds.{within_sound}
use Rattle.recovery_laws.proofs.LedMoves.{Made, made_move, made_step}
use Rattle.event_replies.specs.declared.reply.Stop.{Stop}
use Rattle.event_replies.specs.declared.reply.Stop.TheVariants as stop
use Rattle.link_store.specs.Sending.{Sending, length_at, output_size}
use Rattle.system_parts.specs.Parts.{Parts}
use Rattle.system_parts.specs.SystemStanding.{AreOutputs, HasSnapshots, HasGuide, NotesNames, StandsFor}
use Rattle.run_end.proofs.InputLemmas.{hand_is, input_there}
use Rattle.thread_steps.specs.Following.{HasTurnBy}
use Rattle.system_parts.proofs.LineLemmas.{holds_later_line}
use Rattle.access_log.specs.declared.entry.Turn.{Turn}
use Rattle.access_log.specs.declared.entry.Turn.TheVariants as turn_of
use Rattle.plain_machine.specs.declared.local.Local.{Local}
use Rattle.plain_machine.specs.Agree.{IsEarlier}
use Rattle.recovery_laws.specs.Sound.{Sound}
use Rattle.thread_steps.specs.Stepping.{with_move, AddsEntry, AddsOutput, NotesAs, Notes, CanNote, MakesNext}
use Rattle.access_log.specs.declared.entry.StampedEntry.{StampedEntry}
use Rattle.master_core.specs.Stepping.{plain_entry, Makes, DidEntry}
use Rattle.recovery_laws.proofs.OneOutcome.{on_one}
use Rattle.system_parts.specs.Performing.{MovesOn, StopsAt, ComesTo, WouldPass}
use Rattle.system_parts.proofs.SentLemmas.{after_step}
use Rattle.thread_steps.proofs.NotedMoves.{Answer, but_master, with_master, noted, passes, on as on_made}
use Rattle.thread_steps.proofs.MoveLemmas.{has_room, place_is, can_put_entry, can_put_output}

-- an answer has one outcome
ok_is : (a b : Outcome) → let x : Answer = Ok a in let y : Answer = Ok b in x ≡ y → a ≡ b
ok_is a b e = cc

-- what the world needs to come to, and where it stops
abbrev pub GoesTo : {P V : Type 0} → Meaning V → Setting V → World V → ℕ → Option ℕ → Outcome → Parts P V → Type 0
GoesTo {P} {V} m s w t given to new =
    (next : World V) × ComesTo (event.Step t given) to s w next × StandsFor m s next new

abbrev pub StopsBefore : {P V : Type 0} → Setting V → World V → ℕ → Option ℕ → Limit → Parts P V → Type 0
StopsBefore {P} {V} s w t given limit new =
    (next : World V) × WouldPass (event.Step t given) limit s w next × NotesNames next new

module _ {P V : Type 0} (m : Meaning V) (s : Setting V) (w : World V) (y : Parts P V) (st : StandsFor m s w y) (t : ℕ)
    (given : Option ℕ) (low : t < s.threads) (g : Drawn) (q : Mastered V) (answer : Option ℕ) (drawn : ℕ)
    (tells : TellsHand s w t given answer drawn (thread_after w.past t).hand) (gen : g ≡ drawn_after s.seed drawn)
    (up : w.up ≡ true) where
  abbrev pub mid : Parts P V
  mid = record y { generator = g; master = q }

  -- No move was made, and the world stays.
  still : q ≡ y.master → drawn ≡ w.drawn → StandsFor m s w mid
  still same none =
      record {
        sound = st.sound;
        within = st.within;
        inputs = record {
          meaning = st.inputs.meaning;
          fractions = st.inputs.fractions;
          inputs = st.inputs.inputs;
          left = st.inputs.left;
          clock = st.inputs.clock;
          generator = gen ∙ ap (drawn_after s.seed) none;
        };
        snapshots = st.snapshots;
        ended = st.ended;
        guide = st.guide;
        master = record {
          up = st.master.up;
          stands = subst (λ (z : Mastered V). Stands s.meaning s.threads w.past z) (sym same) st.master.stands;
          schedule = st.master.schedule;
          past = st.master.past;
          moves = st.master.moves;
          bytes = st.master.bytes;
        };
        sent = st.sent;
        logger = st.logger;
        released = st.released;
      }

  rests : WantsMore s w t → q ≡ y.master → drawn ≡ w.drawn → GoesTo m s w t given outcome.Idle mid
  rests wants same none = (
    w,
    ((inr (inr (inl (low, up, wants, refl, refl))), refl), st.within),
    (still same none),
  )

  -- and where the thread waits
  waits : (u n : ℕ) → WaitsFor s w t (outcome.Waits u n) → q ≡ y.master → drawn ≡ w.drawn
      → GoesTo m s w t given (outcome.Waits u n) mid
  waits u n for same none = (
    w,
    ((inr (inr (inr (inl (low, up, for, refl)))), refl), st.within),
    (still same none),
  )

  -- what a call that made no move tells
  pub record Rests (r : Stepped) : Type 0 where
    pub idle : r ≡ stepped.Idle → WantsMore s w t × (drawn ≡ w.drawn)
    pub turn : MadeOne r → HandHasTurn s.meaning w.followed (log_of w.past) t (thread_after w.past t).hand
    pub waits_for : (u n : ℕ) → r ≡ stepped.NotTurn u n → WaitsFor s w t (outcome.Waits u n) × (drawn ≡ w.drawn)
    pub unchanged : MadeNone r → q ≡ y.master

  -- what was noted keeps the master
  master_kept : (r : Stepped) → MadeOne r → (to : Outcome) (after : Parts P V) → Notes t answer r mid (Ok to) after
      → after.master ≡ q
  master_kept (stepped.Took k) made to after n = ap (λ (z : Parts P V). z.master) n.1.new_is
  master_kept (stepped.Did e) made to after n = ap (λ (z : Parts P V). z.master) n.1.new_is
  master_kept (stepped.Emitted o) made to after n = ap (λ (z : Parts P V). z.master) n.1.new_is
  master_kept (stepped.Ended k) made to after n = ap (λ (z : Parts P V). z.master) n.1.new_is
  master_kept stepped.Idle made to after n = absurd made
  master_kept (stepped.NotTurn u k) made to after n = absurd made
  master_kept stepped.NoMemory made to after n = absurd made

  -- A move was made: noted, it leads to the world after it, or it would pass a limit.
  module _ (turn : HandHasTurn s.meaning w.followed (log_of w.past) t (thread_after w.past t).hand) (step : Step V)
      (moves : plain_move s.meaning (inputs_fed s w.fed) s.threads w.past (record { thread = t; answer = answer })
      ≡ Ok (step ∷ w.past)) (stands : Stands s.meaning s.threads (step ∷ w.past) q) (r : Stepped) (made : MadeOne r)
      (shows : Shows w.past r step) where
    made_on : (res : Answer) (after : Parts P V) → Notes t answer r mid res after
        → IfOk res (λ (to : Outcome). GoesTo m s w t given to after)
    made_on (Err e) after n = tt
    made_on (Ok to) after n =
        let k = noted m s w y (but_master m s w y st) t given low g q answer drawn tells gen up turn step moves r shows
        (Ok to) after n in
        let there : Stands s.meaning s.threads (step ∷ w.past) after.master =
        subst (λ (z : Mastered V). Stands s.meaning s.threads (step ∷ w.past) z)
        (sym (master_kept r made to after n)) stands in
        (after_step w step drawn, k.1.0, with_master m s (after_step w step drawn) after k.1.1 there)

    made_stops : (res : Answer) (after : Parts P V) → Notes t answer r mid res after → (limit : Limit)
        → res ≡ Err (stop.Limit limit) → StopsBefore s w t given limit after
    made_stops res after n limit is =
        let k = passes m s w y (but_master m s w y st) t given low g q answer drawn tells gen up turn step moves r shows
        res after n limit is in
        (w, (k.0, refl), subst (λ (z : Parts P V). NotesNames w z) (sym k.1) st.released)

  -- The move was noted, and the world comes to the outcome.
  pub goes_on : (r : Stepped)
      → Follows s.meaning (inputs_fed s w.fed) s.threads w.past (record { thread = t; answer = answer }) r q → Rests r
      → (res : Answer) (after : Parts P V) → Notes t answer r mid res after
      → IfOk res (λ (to : Outcome). GoesTo m s w t given to after)
  goes_on (stepped.Took k) f rest res after n =
      made_on (rest.turn tt) f.step f.plain_is f.stands (stepped.Took k) tt f.does res after n
  goes_on (stepped.Did e) f rest res after n =
      made_on (rest.turn tt) f.step f.plain_is f.stands (stepped.Did e) tt f.does res after n
  goes_on (stepped.Emitted o) f rest res after n =
      made_on (rest.turn tt) f.step f.plain_is f.stands (stepped.Emitted o) tt f.does res after n
  goes_on (stepped.Ended k) f rest res after n =
      made_on (rest.turn tt) f.step f.plain_is f.stands (stepped.Ended k) tt f.does res after n
  goes_on stepped.Idle f rest (Err e) after n = tt
  goes_on stepped.Idle f rest (Ok to) after n =
      let idle = rest.idle refl in
      subst (λ (z : Parts P V). GoesTo m s w t given to z) (sym n.1)
      (subst (λ (o : Outcome). GoesTo m s w t given o mid) (sym (ok_is to outcome.Idle n.0))
      (rests idle.0 (rest.unchanged tt) idle.1))
  goes_on (stepped.NotTurn u k) f rest (Err e) after n = tt
  goes_on (stepped.NotTurn u k) f rest (Ok to) after n =
      let wait = rest.waits_for u k refl in
      subst (λ (z : Parts P V). GoesTo m s w t given to z) (sym n.1)
      (subst (λ (o : Outcome). GoesTo m s w t given o mid) (sym (ok_is to (outcome.Waits u k) n.0))
      (waits u k wait.0 (rest.unchanged tt) wait.1))
  goes_on stepped.NoMemory f rest (Err e) after n = tt
  goes_on stepped.NoMemory f rest (Ok to) after n =
      let e : Answer = Ok to in let none : e ≡ Err stop.NoMemory = n in absurd (cc)

  -- The move would pass a limit, and is not noted.
  pub stops_at : (r : Stepped)
      → (MadeOne r → HandHasTurn s.meaning w.followed (log_of w.past) t (thread_after w.past t).hand)
      → Follows s.meaning (inputs_fed s w.fed) s.threads w.past (record { thread = t; answer = answer }) r q
      → (res : Answer) (after : Parts P V) → Notes t answer r mid res after → (limit : Limit)
      → res ≡ Err (stop.Limit limit) → StopsBefore s w t given limit after
  stops_at (stepped.Took k) turn f res after n limit is =
      made_stops (turn tt) f.step f.plain_is f.stands (stepped.Took k) tt f.does res after n limit is
  stops_at (stepped.Did e) turn f res after n limit is =
      made_stops (turn tt) f.step f.plain_is f.stands (stepped.Did e) tt f.does res after n limit is
  stops_at (stepped.Emitted o) turn f res after n limit is =
      made_stops (turn tt) f.step f.plain_is f.stands (stepped.Emitted o) tt f.does res after n limit is
  stops_at (stepped.Ended k) turn f res after n limit is =
      made_stops (turn tt) f.step f.plain_is f.stands (stepped.Ended k) tt f.does res after n limit is
  stops_at stepped.Idle turn f res after n limit is = let e : res ≡ Ok outcome.Idle = n.0 in absurd (cc)
  stops_at (stepped.NotTurn u k) turn f res after n limit is = let e : res ≡ Ok (outcome.Waits u k) = n.0 in absurd (cc)
  stops_at stepped.NoMemory turn f res after n limit is = let e : res ≡ Err stop.NoMemory = n in absurd (cc)

-- What is noted keeps the program.

-- where a move was made, and where none was
keeps_as : {P V : Type 0} (t : ℕ) (answer : Option ℕ) (bytes : ℕ) (to : Outcome) (Adds : Sending → Sending → Type 0)
    (old new : Parts P V) (res : Answer) → NotesAs t answer bytes to Adds old res new
    → IfOk res (λ _. new.program ≡ old.program)
keeps_as {P} {V} t answer bytes to Adds old new (Ok other) n = ap (λ (z : Parts P V). z.program) n.1.new_is
keeps_as t answer bytes to Adds old new (Err e) n = tt

keeps_none : {P V : Type 0} (old new : Parts P V) (res : Answer) → new ≡ old → IfOk res (λ _. new.program ≡ old.program)
keeps_none {P} {V} old new (Ok other) same = ap (λ (z : Parts P V). z.program) same
keeps_none old new (Err e) same = tt

pub keeps : {P V : Type 0} (t : ℕ) (answer : Option ℕ) (r : Stepped) (old new : Parts P V) (res : Answer)
    → Notes t answer r old res new → IfOk res (λ _. new.program ≡ old.program)
keeps t answer (stepped.Took k) old new res n =
    keeps_as t answer 0 (outcome.Take k) (λ (a b : Sending). b ≡ a) old new res n
keeps t answer (stepped.Did e) old new res n =
    keeps_as t answer 0 (entry_outcome e.number e.what) (AddsEntry e) old new res n
keeps t answer (stepped.Emitted o) old new res n =
    keeps_as t answer (length o.packet.bytes) (outcome.Emitted o.number) (AddsOutput o) old new res n
keeps t answer (stepped.Ended k) old new res n =
    keeps_as t answer 0 (outcome.Ended k) (λ (a b : Sending). b ≡ a) old new res n
keeps t answer stepped.Idle old new res n = keeps_none old new res n.1
keeps t answer (stepped.NotTurn u k) old new res n = keeps_none old new res n.1
keeps t answer stepped.NoMemory old new res n =
    subst (λ (r : Answer). IfOk r (λ _. new.program ≡ old.program)) (sym n) tt

-- What was logged or sent out has a frame.
pub can_note : {P V : Type 0} (m : Meaning V) (fits : ℕ → V → Type 0) (s : Setting V) (w : World V) (y : Parts P V)
    (t : ℕ) (answer : Option ℕ) (g : Drawn) (i : Option Packet) (r : Stepped) (q : Mastered V) → IsLawful m fits
    → StandsFor m s w y → y.sent.threads ≡ y.inputs.threads → 1 ≤ y.inputs.threads → y.inputs.threads ≤ 16
    → All IsShort y.inputs.packets
    → Follows s.meaning (inputs_fed s w.fed) s.threads w.past (record { thread = t; answer = answer }) r q
    → IsInputAfter (inputs_fed s w.fed) t w.past i
    → ((o : Output) (p : Packet) → r ≡ stepped.Emitted o → i ≡ Some p → length o.packet.bytes ≡ length p.bytes)
    → CanNote (record y { generator = g; master = q }) r
can_note {P} {V} m fits s w y t answer g i r q lawful st threads some few short follows input as_long =
    go r follows as_long
  where
    epoch : 1 ≤ y.sent.epoch
    epoch = let e = st.sent.epoch in let all = st.ended.all in omega (arith, e, all)

    count : y.inputs.threads ≡ s.threads
    count = ap (λ (f : Fed). f.threads) st.inputs.inputs

    law : IsLawful s.meaning fits
    law = subst (λ (z : Meaning V). IsLawful z fits) (sym st.inputs.meaning) lawful

    each : (k : ℕ) (p : Packet) → slice_get (inputs_fed s w.fed t) k ≡ Some p → IsShort p
    each k p e =
        input_has IsShort y.inputs t k p short
        (subst (λ (f : Fed). slice_get (inputs_of f t) k ≡ Some p) (sym st.inputs.inputs) e)

    go : (r : Stepped)
        → Follows s.meaning (inputs_fed s w.fed) s.threads w.past (record { thread = t; answer = answer }) r q
        → ((o : Output) (p : Packet) → r ≡ stepped.Emitted o → i ≡ Some p → length o.packet.bytes ≡ length p.bytes)
        → CanNote (record y { generator = g; master = q }) r
    go (stepped.Took k) f long = tt
    go (stepped.Did e) f long =
        can_put_entry s.meaning fits (inputs_fed s w.fed) y.sent.epoch s.threads y.sent.threads w.past t answer f.step e
        f.does.0.0 law st.sound.firm.legal epoch (threads ∙ count) (omega (arith, count, some))
        (omega (arith, count, few))
        (made_move s.meaning (inputs_fed s w.fed) s.threads w.past (record { thread = t; answer = answer }) f.step
        f.plain_is) f.does.0.1 f.does.1
    go (stepped.Emitted o) f long =
        can_put_output s.meaning (inputs_fed s w.fed) y.sent.epoch s.threads y.sent.threads w.past t answer f.step o i
        st.sound.firm.legal epoch (threads ∙ count) (omega (arith, count, some)) (omega (arith, count, few))
        (made_move s.meaning (inputs_fed s w.fed) s.threads w.past (record { thread = t; answer = answer }) f.step
        f.plain_is) f.does.0 f.does.1 input (λ p is. long o p refl is) each
    go (stepped.Ended k) f long = tt
    go stepped.Idle f long = tt
    go (stepped.NotTurn u k) f long = tt
    go stepped.NoMemory f long = tt

-- What the calls of a step tell: its thread is there; what it is told; its input; and what the master answers.
pub record Calls {P V : Type 0} (m : Meaning V) (y : Parts P V) (t : ℕ) (given answer : Option ℕ) (g : Drawn)
    (i : Option Packet) (r : Stepped) (q : Mastered V) : Type 0 where
  pub low : t < y.inputs.threads
  pub tells : (s : Setting V) (w : World V) → s.meaning ≡ m → Sound s w → HasGuide w.followed w.past y.guide
      → Stands s.meaning s.threads w.past y.master → w.clock ≡ y.clock → y.generator ≡ drawn_after s.seed w.drawn
      → (drawn : ℕ)
      × TellsHand s w t given answer drawn (thread_after w.past t).hand
      × (g ≡ drawn_after s.seed drawn)
  pub asked : (s : Setting V) (w : World V) → s.meaning ≡ m → Stands s.meaning s.threads w.past y.master
      → told_in s.meaning (thread_after w.past t).hand (unwrap_or answer 0) ≡ answer
  pub number : ℕ
  pub number_is : number ≡ unwrap_or answer 0
  pub input : (n : Meaning V) (threads : ℕ) (steps : List (Step V)) → IsHistory n (inputs_of y.inputs) threads steps
      → Stands n threads steps y.master → t < threads → IsInputAfter (inputs_of y.inputs) t steps i
  pub follows : (inputs : ℕ → List Packet) (threads : ℕ) (steps : List (Step V)) → Stands m threads steps y.master
      → IsInputAfter inputs t steps i → Follows m inputs threads steps (move_of m steps t number) r q
  pub idle : r ≡ stepped.Idle → (has_hand (place_in_hand y.master t) ≡ false) × (i ≡ None)
  pub up : y.up ≡ true
  pub turn : Turn
  pub turn_is : (s : Setting V) (w : World V) → StandsFor m s w y → HasTurnBy s w t turn
  pub not_turn : (u n : ℕ)
      → (r ≡ stepped.NotTurn u n) ↔ (WantsVariable m (place_in_hand y.master t) × (turn ≡ turn_of.Wait u n))
  pub unchanged : MadeNone r → q ≡ y.master

-- the thread is one of the setting
pub low_now : {P V : Type 0} (m : Meaning V) (s : Setting V) (w : World V) (y : Parts P V) (t : ℕ) → StandsFor m s w y
    → t < y.inputs.threads → t < s.threads
low_now m s w y t st low = let k = ap (λ (f : Fed). f.threads) st.inputs.inputs in omega (arith, low, k)

-- the past is a legal run on what was fed
legal_now : {P V : Type 0} (m : Meaning V) (s : Setting V) (w : World V) (y : Parts P V) → StandsFor m s w y
    → IsHistory s.meaning (inputs_of y.inputs) s.threads w.past
legal_now m s w y st =
    subst (λ (f : Fed). IsHistory s.meaning (inputs_of f) s.threads w.past) (sym st.inputs.inputs) st.sound.firm.legal

-- it has room for another move
pub room_now : {P V : Type 0} (m : Meaning V) (s : Setting V) (w : World V) (y : Parts P V) (t : ℕ) → StandsFor m s w y
    → t < y.inputs.threads → y.moves ≤ MOST_MOVES → HasRoom y.master t
room_now m s w y t st low few = has_room s.meaning s.threads w.past y.master t y.moves st.master.stands
    (low_now m s w y t st low) (let a = st.master.past in let b = st.master.moves in omega (arith, a, b)) few

-- and an input, where it has a packet in hand
pub input_now : {P V A : Type 0} (m : Meaning V) (s : Setting V) (w : World V) (y : Parts P V) (t : ℕ) (f : A → Packet)
    (o : Option A) → StandsFor m s w y → t < y.inputs.threads
    → ((n : Meaning V) (threads : ℕ) (steps : List (Step V)) → IsHistory n (inputs_of y.inputs) threads steps
    → Stands n threads steps y.master → t < threads → IsInputAfter (inputs_of y.inputs) t steps (option_map f o))
    → IsTrue (has_hand (place_in_hand y.master t)) → IsSome o
input_now m s w y t f o st low gives has =
    input_there s.meaning (inputs_of y.inputs) s.threads w.past y.master t f o st.master.stands
    (low_now m s w y t st low)
    (gives s.meaning s.threads w.past (legal_now m s w y st) st.master.stands (low_now m s w y t st low)) has

-- a thread that waits is about to touch or to read, and is told nothing

awaits_wants : (followed log : List Entry) (t : ℕ) (next : Move) (e : Entry) → Awaits followed log t next e
    → (v : ℕ) × IsOnVariable next v
awaits_wants followed log t (move.Access v) e a = (v, inl refl)
awaits_wants followed log t (move.Read v) e a = (v, inr refl)
awaits_wants followed log t move.Clock e a = absurd a
awaits_wants followed log t move.Draw e a = absurd a
awaits_wants followed log t move.Emit e a = absurd a
awaits_wants followed log t move.End e a = absurd a

awaits_draws : {V : Type 0} (s : Setting V) (w : World V) (t : ℕ) (given answer : Option ℕ) (drawn : ℕ) (next : Move)
    (e : Entry) → Awaits w.followed (log_of w.past) t next e → Tells s w t given answer drawn next → drawn ≡ w.drawn
awaits_draws s w t given answer drawn (move.Access v) e a tells = tells.1
awaits_draws s w t given answer drawn (move.Read v) e a tells = tells.1
awaits_draws s w t given answer drawn move.Clock e a tells = absurd a
awaits_draws s w t given answer drawn move.Draw e a tells = absurd a
awaits_draws s w t given answer drawn move.Emit e a tells = absurd a
awaits_draws s w t given answer drawn move.End e a tells = absurd a

-- The parts are given by the equation that tells what they were.
module _ {P V : Type 0} (m : Meaning V) (y old : Parts P V) (same : y ≡ old) (t : ℕ) (given answer : Option ℕ)
    (g : Drawn) (i : Option Packet) (r : Stepped) (q : Mastered V) (calls : Calls m y t given answer g i r q) where
  -- the input, the master's answer and what was told, for the setting and the world
  input_is : (s : Setting V) (w : World V) → StandsFor m s w y → IsInputAfter (inputs_fed s w.fed) t w.past i
  input_is s w st = subst (λ (f : Fed). IsInputAfter (inputs_of f) t w.past i) st.inputs.inputs
      (calls.input s.meaning s.threads w.past (legal_now m s w y st) st.master.stands (low_now m s w y t st calls.low))

  follows_is : (s : Setting V) (w : World V) → StandsFor m s w y
      → Follows s.meaning (inputs_fed s w.fed) s.threads w.past (record { thread = t; answer = answer }) r q
  follows_is s w st =
      let there = subst (λ (n : Meaning V). Stands n s.threads w.past y.master) st.inputs.meaning st.master.stands in
      let made = calls.follows (inputs_fed s w.fed) s.threads w.past there (input_is s w st) in
      let here =
      subst (λ (n : Meaning V). Follows n (inputs_fed s w.fed) s.threads w.past (move_of n w.past t calls.number) r q)
      (sym st.inputs.meaning) made in
      subst (λ (a : Option ℕ).
      Follows s.meaning (inputs_fed s w.fed) s.threads w.past (record { thread = t; answer = a }) r q)
      (ap (λ (n : ℕ). told_in s.meaning (thread_after w.past t).hand n) calls.number_is
      ∙ calls.asked s w st.inputs.meaning st.master.stands) here

  told_is : (s : Setting V) (w : World V) → StandsFor m s w y
      → (drawn : ℕ)
      × TellsHand s w t given answer drawn (thread_after w.past t).hand
      × (g ≡ drawn_after s.seed drawn)
  told_is s w st =
      calls.tells s w st.inputs.meaning st.sound st.guide st.master.stands (sym st.inputs.clock) st.inputs.generator

  -- where the master is idle the thread wants an input that was not fed
  wants_more : (s : Setting V) (w : World V) (drawn : ℕ) → StandsFor m s w y
      → TellsHand s w t given answer drawn (thread_after w.past t).hand → r ≡ stepped.Idle
      → WantsMore s w t × (drawn ≡ w.drawn)
  wants_more s w drawn st tells is =
      let idle = calls.idle is in
      go (thread_after w.past t).hand refl (input_is s w st) idle.1
      (sym (hand_is s.meaning s.threads w.past y.master t st.master.stands (low_now m s w y t st calls.low)) ∙ idle.0)
      tells
    where
      go : (h : Option Hand) → (thread_after w.past t).hand ≡ h
          → i ≡ input_for (inputs_fed s w.fed t) (thread_after w.past t).taken (thread_after w.past t).hand → i ≡ None
          → is_some h ≡ false → TellsHand s w t given answer drawn (thread_after w.past t).hand
          → WantsMore s w t × (drawn ≡ w.drawn)
      go (Some h) at there none e tells = absurd (cc)
      go None at there none e tells = (
        (
          at,
          sym (there ∙ ap (λ (h : Option Hand). input_for (inputs_fed s w.fed t) (thread_after w.past t).taken h) at)
              ∙ none,
        ),
        (subst (λ (h : Option Hand). TellsHand s w t given answer drawn h) at tells).1,
      )

  up_is : (s : Setting V) (w : World V) → StandsFor m s w y → w.up ≡ true
  up_is s w st = sym st.master.up ∙ calls.up

  -- a thread that waits has its packet in hand before a touch or a read
  waits_here : (s : Setting V) (w : World V) (u n : ℕ) → StandsFor m s w y → WaitsFor s w t (outcome.Waits u n)
      → WantsVariable m (place_in_hand y.master t)
  waits_here s w u n st for =
      let wants = awaits_wants w.followed (log_of w.past) t (s.meaning.next for.hand.place) for.entry for.awaits in
      let at : place_in_hand y.master t ≡ Some for.hand.place =
      place_is s.meaning s.threads w.past y.master t st.master.stands (low_now m s w y t st calls.low)
      ∙ ap local_in for.hand_is in
      subst (λ (o : Option Local). WantsVariable m o) (sym at)
      (subst (λ (n : Meaning V). WantsVariable n (Some for.hand.place)) st.inputs.meaning wants)

  -- a thread that made a move had its turn
  had_turn : (s : Setting V) (w : World V) → StandsFor m s w y → MadeOne r
      → HandHasTurn s.meaning w.followed (log_of w.past) t (thread_after w.past t).hand
  had_turn s w st made = go calls.turn refl (calls.turn_is s w st)
    where
      go : (now : Turn) → calls.turn ≡ now → HasTurnBy s w t now
          → HandHasTurn s.meaning w.followed (log_of w.past) t (thread_after w.past t).hand
      go turn_of.Follow is has = has
      go turn_of.Free is has = has
      go (turn_of.Wait u n) is for =
          absurd (subst (λ (x : Stepped). MadeOne x) ((calls.not_turn u n).1 (waits_here s w u n st for, is)) made)

  -- and one that made none waits for what the guide says
  waits_now : (s : Setting V) (w : World V) (drawn : ℕ) → StandsFor m s w y
      → TellsHand s w t given answer drawn (thread_after w.past t).hand → (u n : ℕ) → r ≡ stepped.NotTurn u n
      → WaitsFor s w t (outcome.Waits u n) × (drawn ≡ w.drawn)
  waits_now s w drawn st tells u n is =
      let for : WaitsFor s w t (outcome.Waits u n) =
      subst (λ (x : Turn). HasTurnBy s w t x) ((calls.not_turn u n).0 is).1 (calls.turn_is s w st) in (
        for,
        awaits_draws s w t given answer drawn (s.meaning.next for.hand.place) for.entry for.awaits
            (subst (λ (h : Option Hand). TellsHand s w t given answer drawn h) for.hand_is tells),
      )

  -- the move is that of the world, or stops at a limit; and it can be noted
  pub step_goes : (s : Setting V) (w : World V) → StandsFor m s w y → (res : Answer) (after : Parts P V)
      → Notes t answer r (record y { generator = g; master = q }) res after
      → IfOk res (λ (to : Outcome). GoesTo m s w t given to after)
  step_goes s w st res after n =
      let told = told_is s w st in
      goes_on m s w y st t given (low_now m s w y t st calls.low) g q answer told.0 told.1 told.2 (up_is s w st) r
      (follows_is s w st) (record {
        idle = wants_more s w told.0 st told.1;
        turn = had_turn s w st;
        waits_for = waits_now s w told.0 st told.1;
        unchanged = calls.unchanged;
      }) res after n

  pub step_stops : (s : Setting V) (w : World V) → StandsFor m s w y → (res : Answer) (after : Parts P V)
      → Notes t answer r (record y { generator = g; master = q }) res after → (limit : Limit)
      → res ≡ Err (stop.Limit limit) → StopsBefore s w t given limit after
  step_stops s w st res after n limit is =
      let told = told_is s w st in
      stops_at m s w y st t given (low_now m s w y t st calls.low) g q answer told.0 told.1 told.2 (up_is s w st) r
      (had_turn s w st) (follows_is s w st) res after n limit is

  -- an entry that was logged is of the past then
  pub step_logs : (e : StampedEntry) → r ≡ stepped.Did e → (s : Setting V) (w : World V) → StandsFor m s w y
      → (to : Outcome) (next : World V) → ComesTo (event.Step t given) to s w next
      → (log_of next.past ≡ plain_entry e ∷ log_of w.past) × (next.waiting ≡ w.waiting)
      × IsStamp (log_of next.past) (plain_entry e) (λ u. slice_index e.stamp u)
  step_logs e is s w st to next comes = (
    ap (λ (z : World V). log_of z.past) same_next
        ∙ ap (λ (a : Act V). log_more a (log_of w.past)) f.does.0.1,
    ap (λ (z : World V). z.waiting) same_next,
    subst (λ (z : World V). IsStamp (log_of z.past) (plain_entry e) (λ u. slice_index e.stamp u)) (sym same_next)
        f.does.1,
  )
    where
      told : (drawn : ℕ)
          × TellsHand s w t given answer drawn (thread_after w.past t).hand
          × (g ≡ drawn_after s.seed drawn)
      told = told_is s w st

      f : Makes s.meaning (inputs_fed s w.fed) s.threads w.past (record { thread = t; answer = answer }) q
          (DidEntry w.past e)
      f = subst (λ (x : Stepped).
          Follows s.meaning (inputs_fed s w.fed) s.threads w.past (record { thread = t; answer = answer }) x q) is
          (follows_is s w st)

      here : OnStep s w t given (move_outcome f.step.act) (after_step w f.step told.0)
      here = on_made m s w y (but_master m s w y st) t given (low_now m s w y t st calls.low) g q answer told.0 told.1
          told.2 (up_is s w st) (had_turn s w st (subst (λ (x : Stepped). MadeOne x) (sym is) tt)) f.step f.plain_is
          (move_outcome f.step.act) refl

      same_next : next ≡ after_step w f.step told.0
      same_next = (on_one s w st.sound (event.Step t given) to (move_outcome f.step.act) [] [] next
          (after_step w f.step told.0) comes.0 (here, refl)).new_is

  pub step_can : (fits : ℕ → V → Type 0) (s : Setting V) (w : World V) → IsLawful m fits → StandsFor m s w y
      → y.sent.threads ≡ y.inputs.threads → 1 ≤ y.inputs.threads → y.inputs.threads ≤ 16 → All IsShort y.inputs.packets
      → ((o : Output) (p : Packet) → r ≡ stepped.Emitted o → i ≡ Some p → length o.packet.bytes ≡ length p.bytes)
      → CanNote (record y { generator = g; master = q }) r
  step_can fits s w lawful st threads some few short as_long =
      can_note m fits s w y t answer g i r q lawful st threads some few short (follows_is s w st)
      (input_is s w st) as_long

-- The clauses, over the parts as they were.

pub moved_on : {P V : Type 0} (meaning : P → Meaning V) (y old after : Parts P V) (t : ℕ) (given : Option ℕ)
    (res : Answer) → y ≡ old → IfOk res (λ _. after.program ≡ y.program)
    → ((s : Setting V) (w : World V) → StandsFor (meaning y.program) s w y
    → IfOk res (λ (to : Outcome). GoesTo (meaning y.program) s w t given to after))
    → IfOk res (λ (to : Outcome). MovesOn (meaning old.program) (ComesTo (event.Step t given) to) old after)
moved_on {P} {V} meaning y old after t given res same kept goes =
    subst (λ (z : Parts P V).
    IfOk res (λ (to : Outcome). MovesOn (meaning z.program) (ComesTo (event.Step t given) to) z after)) same
    (go res kept goes)
  where
    go : (res : Answer) → IfOk res (λ _. after.program ≡ y.program)
        → ((s : Setting V) (w : World V) → StandsFor (meaning y.program) s w y
        → IfOk res (λ (to : Outcome). GoesTo (meaning y.program) s w t given to after))
        → IfOk res (λ (to : Outcome). MovesOn (meaning y.program) (ComesTo (event.Step t given) to) y after)
    go (Ok to) k f = (k, f)
    go (Err e) k f = tt

pub stopped_at : {P V : Type 0} (meaning : P → Meaning V) (y old after : Parts P V) (t : ℕ) (given : Option ℕ)
    (res : Answer) (limit : Limit) → y ≡ old
    → ((s : Setting V) (w : World V) → StandsFor (meaning y.program) s w y → StopsBefore s w t given limit after)
    → StopsAt (meaning old.program) (WouldPass (event.Step t given) limit) old after
stopped_at {P} {V} meaning y old after t given res limit same stops =
    subst (λ (z : Parts P V). StopsAt (meaning z.program) (WouldPass (event.Step t given) limit) z after) same stops

-- The master made a move, which is not noted yet.
pub makes_next : {P V : Type 0} (meaning : P → Meaning V) (y old : Parts P V) (same : y ≡ old) (t : ℕ)
    (given answer : Option ℕ) (g : Drawn) (i : Option Packet) (r : Stepped) (q : Mastered V)
    → Calls (meaning y.program) y t given answer g i r q
    → MakesNext (meaning old.program) t given answer r old (record y { generator = g; master = q })
makes_next {P} {V} meaning y old same t given answer g i r q calls = record {
  goes = λ res after n.
      moved_on meaning y old after t given res same
      (keeps t answer r (record y { generator = g; master = q }) after res n)
      (λ s w st. step_goes (meaning y.program) y old same t given answer g i r q calls s w st res after n);
  stops = λ res after n limit is.
      stopped_at meaning y old after t given res limit same
      (λ s w st. step_stops (meaning y.program) y old same t given answer g i r q calls s w st res after n limit is);
  logs = λ e is s w st.
      step_logs (meaning y.program) y old same t given answer g i r q calls e is s w
      (subst (λ (z : Parts P V). StandsFor (meaning z.program) s w z) (sym same) st);
}

-- A thread that there is none of does nothing.
pub past_threads : {P V : Type 0} (m : Meaning V) (s : Setting V) (w : World V) (y : Parts P V) (t : ℕ)
    (given : Option ℕ) → StandsFor m s w y → y.inputs.threads ≤ t
    → (x : World V)
    × ((OnStep s w t given outcome.Nothing x × (let none : List Sent = [] in none ≡ [])) × IsWithin x)
    × StandsFor m s x y
past_threads m s w y t given st high = (w, ((inl (low, refl, refl), refl), st.within), st)
  where
    low : s.threads ≤ t
    low = subst (λ (i : Fed). i.threads ≤ t) st.inputs.inputs high
