-- A run goes on event by event.
use Rattle.std.proofs.Common.{◌≡◌, ℕ, ◌+◌, ◌<◌, ◌≤◌, List, [], ◌∷◌, ◌++◌, take, drop, length, refl, sym, ap, ◌∙◌}
use Rattle.std.proofs.Common.{append-nil, append_assoc, subst, inl, inr, Result, Ok, Err, zero, suc, arith, add-one}
use Rattle.std.proofs.Common.{get_or}
use Rattle.std.specs.Prelude.{⊤, All, IsErrOf, OnOk}
use Rattle.std.specs.Result.{IsOk}
use Rattle.std.proofs.lemmas.List.Elements.{All-append}
use Rattle.plain_text.specs.declared.limit.Limit.{Limit}
use Rattle.access_log.specs.declared.entry.Output.{Output}
use Rattle.plain_machine.specs.Program.{Meaning}
use Rattle.world_io.specs.World.{Shown}
use Rattle.recovery_world.specs.declared.event.Event.{Event}
use Rattle.recovery_world.specs.World.{Setting, Sent, World as SystemWorld}
use Rattle.recovery_world.specs.Many.{OnAny, Stops}
use Rattle.recovery_world.specs.Files.{reply_line, sent_names}
use Rattle.event_replies.specs.declared.reply.Reply.{Reply as SystemReply}
use Rattle.event_replies.specs.declared.reply.Stop.{Stop}
use Rattle.event_replies.specs.declared.reply.Stop.TheVariants as stop
use Rattle.recovery_core.specs.Systems.{Systemed}
use Rattle.output_files.specs.declared.error.OutputError.{OutputError}
use Rattle.output_files.specs.declared.error.OutputError.TheVariants as output
use Rattle.output_files.specs.Writes.{Write, HasBegun}
use Rattle.output_files.specs.Written.{Writes, WritesGathered}
use Rattle.run_writes.specs.declared.error.RunError.{RunError}
use Rattle.run_writes.specs.declared.error.RunError.TheVariants as run
use Rattle.run_writes.specs.Errors.{run_result_of, stopped_result}
use Rattle.run_writes.specs.Replies.{Reply, AnswersFrom, Goes, Point, newly_released, released_in}
use Rattle.run_writes.specs.Run.{OutputNames, FitsRecord, opening_writes, release_writes, reply_writes, replies_writes}
use Rattle.run_writes.specs.Run.{writes_of, WritesUntilFrom}
use Rattle.plain_text.specs.declared.packet.Packet.{Packet}
use Rattle.run_writes.specs.Replies.{packets_in}
use Rattle.run_command.specs.Running.{HasBegunSome, IsSystemAt, ComesTo, IsSomewhere, HasCome, GoesOn, WritesPerformed}
use Rattle.run_command.specs.Running.{RunsFrom}
use Rattle.run_writes.proofs.ScriptAnswers.{released_more}

-- an error of a run is a write fault only where that of its outputs is
pub fault_written : (r : Result ⊤ OutputError) → IsErrOf (run_result_of r) run.WriteFault → IsErrOf r output.WriteFault
fault_written (Ok done) h = absurd (cc)
fault_written (Err output.WriteFault) h = refl
fault_written (Err output.NoMemory) h = absurd (cc)

pub fault_stopped : (r : Result ⊤ OutputError) (limit : Limit) → IsErrOf (stopped_result r limit) run.WriteFault
    → IsErrOf r output.WriteFault
fault_stopped (Ok done) limit h = absurd (cc)
fault_stopped (Err output.WriteFault) limit h = refl
fault_stopped (Err output.NoMemory) limit h = absurd (cc)

pub replies_more : (name : List ℕ) (replies : List Reply) (r : Reply)
    → replies_writes name (replies ++ r ∷ []) ≡ replies_writes name replies ++ reply_writes name r
replies_more name [] r = append-nil (reply_writes name r)
replies_more name (x ∷ replies) r =
    ap (λ l. reply_writes name x ++ l) (replies_more name replies r)
    ∙ sym (append_assoc (reply_writes name x) (replies_writes name replies) (reply_writes name r))

module _ {P V : Type 0} (m : Meaning V) (s : Setting V) (from : Point V) (names : OutputNames) (events : List Event)
    (y : Systemed P V)
    (lines : List ℕ) (a b : Shown) (come : HasCome m s from names events y lines a b) where
  with_reply : (r : Reply)
      → writes_of names s.fractions (from.replies ++ (come.replies ++ r ∷ []))
      ≡ writes_of names s.fractions (from.replies ++ come.replies) ++ reply_writes names.released r
  with_reply r =
      ap (λ (l : List Reply). writes_of names s.fractions l) (sym (append_assoc from.replies come.replies (r ∷ [])))
      ∙ ap (λ l. opening_writes names s.fractions ++ l)
      (replies_more names.released (from.replies ++ come.replies) r)
      ∙ sym (append_assoc (opening_writes names s.fractions)
      (replies_writes names.released (from.replies ++ come.replies)) (reply_writes names.released r))

  -- an event was performed, and what it leaves was written
  reply_goes : (ev : Event) (reply : SystemReply) (outputs : List Output) (w : Result ⊤ OutputError)
      (new : Systemed P V) (more : List ℕ) (c : Shown) → (comes : ComesTo m ev (Ok reply) outputs y new)
      → WritesGathered w
      (writes_of names s.fractions (from.replies ++ come.replies)
      ++ reply_writes names.released
      (record { released = packets_in outputs; line = reply_line ev reply.outcome (comes s come.world come.at).1 }))
      more a c → OnOk w (All FitsRecord (packets_in outputs))
      → GoesOn (run_result_of w) m s from names (events ++ ev ∷ []) new more a c
  reply_goes ev reply outputs w new more c comes written fit = go w here fit
    where
      came : (next : SystemWorld V) × (freed : List Sent) × OnAny s come.world ev reply.outcome freed next
          × (reply.released ≡ sent_names freed) × (packets_in outputs ≡ newly_released come.world next)
          × IsSystemAt m s next new
      came = comes s come.world come.at

      r : Reply
      r = record { released = newly_released come.world came.0; line = reply_line ev reply.outcome came.1 }

      answered : AnswersFrom s from.world (events ++ ev ∷ []) (come.replies ++ r ∷ []) came.0
      answered = Goes ev reply.outcome came.1 come.answers came.2

      same : writes_of names s.fractions (from.replies ++ come.replies)
          ++ reply_writes names.released
          (record { released = packets_in outputs; line = reply_line ev reply.outcome came.1 })
          ≡ writes_of names s.fractions (from.replies ++ (come.replies ++ r ∷ []))
      same =
          ap (λ (l : List Packet).
          writes_of names s.fractions (from.replies ++ come.replies)
          ++ reply_writes names.released (record { released = l; line = reply_line ev reply.outcome came.1 })) came.4
          ∙ sym (with_reply r)

      here : WritesGathered w (writes_of names s.fractions (from.replies ++ (come.replies ++ r ∷ []))) more a c
      here = subst (λ (ws : List Write). WritesGathered w ws more a c) same written

      all_fit : All FitsRecord (packets_in outputs) → All FitsRecord (released_in (come.replies ++ r ∷ []))
      all_fit each =
          subst (All FitsRecord) (sym (released_more come.replies r)) (All-append FitsRecord (released_in come.replies)
          (newly_released come.world came.0) come.fit_records (subst (All FitsRecord) came.4 each))

      begun : HasBegun (writes_of names s.fractions (from.replies ++ (come.replies ++ r ∷ []))) a c
          → HasBegunSome s from names (events ++ ev ∷ []) a c
      begun h = (
        writes_of names s.fractions (from.replies ++ (come.replies ++ r ∷ [])),
        inl (record {
          before = events ++ ev ∷ [];
          after = [];
          events_are = sym (append-nil (events ++ ev ∷ []));
          replies = come.replies ++ r ∷ [];
          world = came.0;
          answers = answered;
          writes_are = refl;
        }),
        h,
      )

      go : (w : Result ⊤ OutputError) → WritesGathered w (writes_of names s.fractions (from.replies ++
          (come.replies ++ r ∷ []))) more a c
          → OnOk w (All FitsRecord (packets_in outputs))
          → GoesOn (run_result_of w) m s from names (events ++ ev ∷ []) new more a c
      go (Ok done) h each = record {
        replies = come.replies ++ r ∷ [];
        world = came.0;
        answers = answered;
        at = came.5;
        fit_records = all_fit each;
        gathered = h;
      }
      go (Err output.WriteFault) h each = begun h
      go (Err output.NoMemory) h each = begun h

  -- an event stopped at a limit, and what it released before was written
  stopped_goes : (ev : Event) (limit : Limit) (outputs : List Output) (w : Result ⊤ OutputError) (new : Systemed P V)
      (more : List ℕ) (c : Shown) → ComesTo m ev (Err (stop.Limit limit)) outputs y new
      → Writes w (writes_of names s.fractions (from.replies ++ come.replies) ++ release_writes names.released
      (packets_in outputs)) a c
      → GoesOn (stopped_result w limit) m s from names (events ++ ev ∷ []) new more a c
  stopped_goes ev limit outputs w new more c comes written = go w here
    where
      came : (next : SystemWorld V) × Stops s come.world ev limit next
          × (packets_in outputs ≡ newly_released come.world next)
      came = comes s come.world come.at

      here : Writes w
          (writes_of names s.fractions (from.replies ++ come.replies) ++ release_writes names.released
          (newly_released come.world came.0))
          a c
      here = subst (λ (l : List Packet).
          Writes w (writes_of names s.fractions (from.replies ++ come.replies)
          ++ release_writes names.released l) a c) came.2 written

      until : WritesUntilFrom s from names (events ++ ev ∷ []) limit
          (writes_of names s.fractions (from.replies ++ come.replies) ++ release_writes names.released
          (newly_released come.world came.0))
      until = record {
        before = events;
        event = ev;
        after = [];
        events_are = refl;
        replies = come.replies;
        there = come.world;
        answers = come.answers;
        world = came.0;
        stops = came.1;
        writes_are = refl;
      }

      go : (w : Result ⊤ OutputError)
          → Writes w
          (writes_of names s.fractions (from.replies ++ come.replies) ++ release_writes names.released
          (newly_released come.world came.0))
          a c → GoesOn (stopped_result w limit) m s from names (events ++ ev ∷ []) new more a c
      go (Ok done) h = record { writes = _; until = until; written = h }
      go (Err output.WriteFault) h = (_, inr (limit, until), h)
      go (Err output.NoMemory) h = (_, inr (limit, until), h)

  -- nothing more was written
  nothing_more : (rest : List Event) (c : Shown) → HasBegun (writes_of names s.fractions (from.replies
      ++ come.replies)) a c
      → HasBegunSome s from names (events ++ rest) a c
  nothing_more rest c begun = (
    writes_of names s.fractions (from.replies ++ come.replies),
    inl (record {
      before = events;
      after = rest;
      events_are = refl;
      replies = come.replies;
      world = come.world;
      answers = come.answers;
      writes_are = refl;
    }),
    begun,
  )

  -- an event was performed, or stopped, and what it left was written
  pub performed_goes : (ev : Event) (reply : Result SystemReply Stop) (outputs : List Output) (r : Result ⊤ RunError)
      (new : Systemed P V) (more : List ℕ) (c : Shown) → ComesTo m ev reply outputs y new
      → WritesPerformed r reply ev (packets_in outputs) (writes_of names s.fractions (from.replies
      ++ come.replies)) names.released more
      a c → GoesOn r m s from names (events ++ ev ∷ []) new more a c
  performed_goes ev (Ok reply) outputs r new more c comes written =
      let came = comes s come.world come.at in
      let files = written came.1 came.3 in
      subst (λ (x : Result ⊤ RunError). GoesOn x m s from names (events ++ ev ∷ []) new more a c) (sym files.1)
      (reply_goes ev reply outputs files.0 new more c comes files.3 files.2)
  performed_goes ev (Err (stop.Limit limit)) outputs r new more c comes written =
      subst (λ (x : Result ⊤ RunError). GoesOn x m s from names (events ++ ev ∷ []) new more a c) (sym written.1)
      (stopped_goes ev limit outputs written.0 new more c comes written.2)
  performed_goes ev (Err stop.NoMemory) outputs r new more c comes written =
      subst (λ (x : Result ⊤ RunError). GoesOn x m s from names (events ++ ev ∷ []) new more a c) (sym written.0)
      (nothing_more (ev ∷ []) c written.1)

pub until_longer : {V : Type 0} (s : Setting V) (from : Point V) (names : OutputNames) (events rest : List Event)
    (limit : Limit)
    (writes : List Write) → WritesUntilFrom s from names events limit writes
    → WritesUntilFrom s from names (events ++ rest) limit writes
until_longer s from names events rest limit writes until =
    record {
      before = until.before;
      event = until.event;
      after = until.after ++ rest;
      events_are = ap (λ l. l ++ rest) until.events_are ∙ append_assoc until.before (until.event ∷ until.after) rest;
      replies = until.replies;
      there = until.there;
      answers = until.answers;
      world = until.world;
      stops = until.stops;
      writes_are = until.writes_are;
    }

-- what these events write is some of what they write with more behind them
pub some_longer : {V : Type 0} (s : Setting V) (from : Point V) (names : OutputNames) (events rest : List Event)
    (a b : Shown)
    → HasBegunSome s from names events a b → HasBegunSome s from names (events ++ rest) a b
some_longer s from names events rest a b (writes, (inl some), begun) = (
  writes,
  inl (record {
    before = some.before;
    after = some.after ++ rest;
    events_are = ap (λ l. l ++ rest) some.events_are ∙ append_assoc some.before some.after rest;
    replies = some.replies;
    world = some.world;
    answers = some.answers;
    writes_are = some.writes_are;
  }),
  begun,
)
some_longer s from names events rest a b (writes, (inr (limit, until)), begun) = (
  writes,
  inr (limit, until_longer s from names events rest limit writes until),
  begun,
)

-- what the first events came to that did not come to their end is what all come to
pub goes_longer : {P V : Type 0} (e : RunError) (m n : Meaning V) (s : Setting V) (from : Point V) (names : OutputNames)
    (events rest all : List Event) (y z : Systemed P V) (lines more : List ℕ) (a b : Shown) → all ≡ events ++ rest
    → GoesOn {A = ⊤} (Err e) m s from names events y lines a b → GoesOn {A = ⊤} (Err e) n s from names all z more a b
goes_longer {P} {V} e m n s from names events rest all y z lines more a b same goes =
    subst (λ (l : List Event). GoesOn {A = ⊤} (Err e) n s from names l z more a b) (sym same) (longer e goes)
  where
    longer : (e : RunError) → GoesOn {A = ⊤} (Err e) m s from names events y lines a b
        → GoesOn {A = ⊤} (Err e) n s from names (events ++ rest) z more a b
    longer (run.Limit limit) h = record {
      writes = h.writes;
      until = until_longer s from names events rest limit h.writes h.until;
      written = h.written;
    }
    longer run.WriteFault h = some_longer s from names events rest a b h
    longer run.NoMemory h = some_longer s from names events rest a b h

-- the system is somewhere again, where the event ended
pub somewhere_again : {A E P V : Type 0} (r : Result A E) (m : Meaning V) (ev : Event) (reply : Result SystemReply Stop)
    (outputs : List Output) (y new : Systemed P V) → OnOk r (IsOk reply) → ComesTo m ev reply outputs y new
    → IsSomewhere m y → OnOk r (IsSomewhere m new)
somewhere_again (Ok x) m ev (Ok reply) outputs y new ended comes here =
    let came = comes here.0 here.1 here.2 in (here.0, came.0, came.5, here.3)
somewhere_again (Ok x) m ev (Err e) outputs y new ended comes here = absurd (cc)
somewhere_again (Err e) m ev reply outputs y new ended comes here = tt

-- what is true where the event ended
pub on_ended : {A B E F : Type 0} (P : Type 0) (r : Result A E) (reply : Result B F) → OnOk r (IsOk reply)
    → OnOk reply P → OnOk r P
on_ended P (Ok x) (Ok y) ended p = p
on_ended P (Ok x) (Err e) ended p = absurd (cc)
on_ended P (Err e) reply ended p = tt

-- the first events, with one more, and those behind it
pub split_here : (events : List Event) (i : ℕ) (x : Event) → i < length events → x ≡ get_or events i x
    → events ≡ (take i events ++ x ∷ []) ++ drop (suc i) events
split_here [] i x low is = absurd (omega arith)
split_here (y ∷ events) zero x low is = ap (λ (z : Event). z ∷ events) (sym is)
split_here (y ∷ events) (suc i) x low is = ap (λ l. y ∷ l) (split_here events i x (omega arith) is)

pub take_here : (events : List Event) (i : ℕ) (x : Event) → i < length events → x ≡ get_or events i x
    → take (suc i) events ≡ take i events ++ x ∷ []
take_here [] i x low is = absurd (omega arith)
take_here (y ∷ events) zero x low is = ap (λ (z : Event). z ∷ []) (sym is)
take_here (y ∷ events) (suc i) x low is = ap (λ l. y ∷ l) (take_here events i x (omega arith) is)

-- it has come one event further
pub come_on : {P V : Type 0} (m n : Meaning V) (s : Setting V) (from : Point V) (names : OutputNames)
    (events : List Event) (i : ℕ)
    (x : Event) (y : Systemed P V) (lines : List ℕ) (a b : Shown) → n ≡ m → i < length events → x ≡ get_or events i x
    → HasCome n s from names (take i events ++ x ∷ []) y lines a b
    → HasCome m s from names (take (i + 1) events) y lines a b
come_on {P} {V} m n s from names events i x y lines a b same low is h =
    rw add-one (subst (λ (l : List Event). HasCome m s from names l y lines a b) (sym (take_here events i x low is))
    (subst (λ (k : Meaning V). HasCome k s from names (take i events ++ x ∷ []) y lines a b) same h))

-- the meaning of the same program
pub come_same : {P V : Type 0} (m n : Meaning V) (s : Setting V) (from : Point V) (names : OutputNames)
    (events : List Event)
    (y : Systemed P V) (lines : List ℕ) (a b : Shown) → m ≡ n → HasCome m s from names events y lines a b
    → HasCome n s from names events y lines a b
come_same {P} {V} m n s from names events y lines a b same h =
    subst (λ (k : Meaning V). HasCome k s from names events y lines a b) same h

pub somewhere_same : {P V : Type 0} (m n : Meaning V) (y : Systemed P V) → m ≡ n → IsSomewhere m y → IsSomewhere n y
somewhere_same {P} {V} m n y same h = subst (λ (k : Meaning V). IsSomewhere k y) same h

any_item : (l : List Event) (i : ℕ) (d e : Event) → i < length l → get_or l i d ≡ get_or l i e
any_item [] i d e low = absurd (omega arith)
any_item (y ∷ l) zero d e low = refl
any_item (y ∷ l) (suc i) d e low = any_item l i d e (omega arith)

-- an element is itself, whatever stands for one that is not there
pub same_item : (events : List Event) (i : ℕ) (d : Event) → i < length events
    → get_or events i d ≡ get_or events i (get_or events i d)
same_item events i d low = any_item events i d (get_or events i d) low

take_all : (events : List Event) (n : ℕ) → length events ≤ n → take n events ≡ events
take_all [] zero low = refl
take_all [] (suc n) low = refl
take_all (y ∷ events) zero low = absurd (omega arith)
take_all (y ∷ events) (suc n) low = ap (λ l. y ∷ l) (take_all events n (omega arith))

pub come_all : {P V : Type 0} (m : Meaning V) (s : Setting V) (from : Point V) (names : OutputNames)
    (events : List Event) (n : ℕ)
    (y : Systemed P V) (lines : List ℕ) (a b : Shown) → length events ≤ n
    → HasCome m s from names (take n events) y lines a b → HasCome m s from names events y lines a b
come_all {P} {V} m s from names events n y lines a b low h =
    subst (λ (l : List Event). HasCome m s from names l y lines a b) (take_all events n low) h

pub at_same : {P V : Type 0} (m n : Meaning V) (s : Setting V) (w : SystemWorld V) (y : Systemed P V) → m ≡ n
    → IsSystemAt m s w y → IsSystemAt n s w y
at_same {P} {V} m n s w y same h = subst (λ (k : Meaning V). IsSystemAt k s w y) same h

-- the same events
pub runs_same : {V : Type 0} (r : Result ⊤ RunError) (s : Setting V) (from : Point V) (names : OutputNames)
    (events other : List Event) (a b : Shown) → events ≡ other → RunsFrom r s from names events a b
    → RunsFrom r s from names other a b
runs_same {V} r s from names events other a b same h =
    subst (λ (l : List Event). RunsFrom r s from names l a b) same h
