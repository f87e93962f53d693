-- A chain goes on event by event.
use Rattle.std.proofs.Common.{◌≡◌, ℕ, ◌+◌, ◌<◌, ◌≤◌, List, [], ◌∷◌, ◌++◌, take, drop, length, refl, sym, ap, ◌∙◌}
use Rattle.std.proofs.Common.{append-nil, append_assoc, subst, inl, inr, Result, Ok, Err, zero, suc, arith, add-one}
use Rattle.std.proofs.Common.{get_or}
use Rattle.std.specs.Prelude.{⊤, All, OnOk}
use Rattle.std.specs.Result.{IsOk}
use Rattle.std.proofs.lemmas.List.Elements.{All-append}
use Rattle.plain_text.specs.declared.limit.Limit.{Limit}
use Rattle.plain_text.specs.declared.packet.Packet.{Packet}
use Rattle.plain_machine.specs.Program.{Meaning}
use Rattle.world_io.specs.World.{Shown}
use Rattle.recovery_world.specs.World.{Setting, Sent}
use Rattle.recovery_world.specs.Files.{sent_names}
use Rattle.event_replies.specs.declared.reply.Reply.{Reply as SystemReply}
use Rattle.output_files.specs.declared.error.OutputError.{OutputError}
use Rattle.output_files.specs.declared.error.OutputError.TheVariants as output
use Rattle.output_files.specs.Writes.{Write, HasBegun}
use Rattle.output_files.specs.Written.{Writes, WritesGathered}
use Rattle.output_files.proofs.Effects.{gathered_begun}
use Rattle.run_writes.specs.declared.error.RunError.{RunError}
use Rattle.run_writes.specs.declared.error.RunError.TheVariants as run
use Rattle.run_writes.specs.Errors.{run_result_of, stopped_result}
use Rattle.run_writes.specs.Replies.{newly_released}
use Rattle.run_writes.specs.Run.{FitsRecord}
use Rattle.chain_world.specs.declared.chain_event.ChainEvent.{ChainEvent}
use Rattle.chain_world.specs.Chain.{Chained, OnChain, StopsChain, chain_line}
use Rattle.chain_box.specs.Chains.{TwoSystems}
use Rattle.chain_command.specs.Outputs.{ChainNames}
use Rattle.chain_command.specs.Replies.{ChainReply, ChainAnswers, ChainAdds, reply_of, middle_in, released_in}
use Rattle.chain_command.specs.Running.{HasBegunSome, IsChainAt, ComesTo, IsSomewhere, HasCome, GoesOn, WritesPerformed}
use Rattle.chain_command.specs.Writes.{opening_writes, passed_writes, reply_writes, replies_writes, writes_of}
use Rattle.chain_command.specs.Writes.{WritesUntil}

-- One reply more

pub replies_more : (names : ChainNames) (replies : List ChainReply) (x : ChainReply)
    → replies_writes names (replies ++ x ∷ []) ≡ replies_writes names replies ++ reply_writes names x
replies_more names [] x = append-nil (reply_writes names x)
replies_more names (y ∷ replies) x =
    ap (λ l. reply_writes names y ++ l) (replies_more names replies x)
    ∙ sym (append_assoc (reply_writes names y) (replies_writes names replies) (reply_writes names x))

pub middle_more : (replies : List ChainReply) (x : ChainReply)
    → middle_in (replies ++ x ∷ []) ≡ middle_in replies ++ x.middle
middle_more [] x = append-nil x.middle
middle_more (y ∷ replies) x =
    ap (λ l. y.middle ++ l) (middle_more replies x) ∙ sym (append_assoc y.middle (middle_in replies) x.middle)

pub released_more : (replies : List ChainReply) (x : ChainReply)
    → released_in (replies ++ x ∷ []) ≡ released_in replies ++ x.released
released_more [] x = append-nil x.released
released_more (y ∷ replies) x =
    ap (λ l. y.released ++ l) (released_more replies x)
    ∙ sym (append_assoc y.released (released_in replies) x.released)

module _ {P V Q U : Type 0} (mean : P → Meaning V) (other : Q → Meaning U) (s : Setting V) (r : Setting U)
    (names : ChainNames) (events : List ChainEvent) (y : TwoSystems P V Q U) (lines : List ℕ) (a b : Shown)
    (come : HasCome mean other s r names events y lines a b) where
  abbrev so_far : List Write
  so_far = writes_of names s.fractions come.replies

  with_reply : (x : ChainReply) → writes_of names s.fractions (come.replies ++ x ∷ []) ≡ so_far ++ reply_writes names x
  with_reply x =
      ap (λ l. opening_writes names s.fractions ++ l) (replies_more names come.replies x)
      ∙ sym (append_assoc (opening_writes names s.fractions) (replies_writes names come.replies)
      (reply_writes names x))

  abbrev answer : List Packet → List Packet → ChainEvent → SystemReply → List Sent → ChainReply
  answer middle released ev reply freed =
      record { middle = middle; released = released; line = chain_line ev reply.outcome freed }

  -- an event was performed, and what it leaves was written
  reply_goes : (ev : ChainEvent) (reply : SystemReply) (middle released : List Packet) (w : Result ⊤ OutputError)
      (new : TwoSystems P V Q U) (more : List ℕ) (c : Shown)
      → (comes : ComesTo mean other ev (Ok reply) middle released y new)
      → WritesGathered w
      (so_far ++ reply_writes names (answer middle released ev reply (comes s r come.worlds come.at).1)) more a c
      → OnOk w (All FitsRecord middle × All FitsRecord released)
      → GoesOn (run_result_of w) mean other s r names (events ++ ev ∷ []) new more a c
  reply_goes ev reply middle released w new more c comes written fit = go w here fit
    where
      came : (next : Chained V U) × (freed : List Sent) × OnChain s r come.worlds ev reply.outcome freed next
          × (reply.released ≡ sent_names freed) × (middle ≡ newly_released come.worlds.first next.first)
          × (released ≡ newly_released come.worlds.second next.second) × IsChainAt mean other s r next new
      came = comes s r come.worlds come.at

      x : ChainReply
      x = reply_of come.worlds came.0 ev reply.outcome came.1

      answered : ChainAnswers s r (events ++ ev ∷ []) (come.replies ++ x ∷ []) came.0
      answered = ChainAdds ev reply.outcome came.1 come.answers came.2

      same : so_far ++ reply_writes names (answer middle released ev reply came.1)
          ≡ writes_of names s.fractions (come.replies ++ x ∷ [])
      same =
          ap (λ (l : List Packet). so_far ++ reply_writes names (answer l released ev reply came.1)) came.4
          ∙ ap (λ (l : List Packet).
          so_far
          ++ reply_writes names (answer (newly_released come.worlds.first came.0.first) l ev reply came.1)) came.5
          ∙ sym (with_reply x)

      here : WritesGathered w (writes_of names s.fractions (come.replies ++ x ∷ [])) more a c
      here = subst (λ (ws : List Write). WritesGathered w ws more a c) same written

      fit_middle : All FitsRecord middle → All FitsRecord (middle_in (come.replies ++ x ∷ []))
      fit_middle each =
          subst (All FitsRecord) (sym (middle_more come.replies x)) (All-append FitsRecord (middle_in come.replies)
          (newly_released come.worlds.first came.0.first) come.fit_middle (subst (All FitsRecord) came.4 each))

      fit_released : All FitsRecord released → All FitsRecord (released_in (come.replies ++ x ∷ []))
      fit_released each =
          subst (All FitsRecord) (sym (released_more come.replies x)) (All-append FitsRecord (released_in come.replies)
          (newly_released come.worlds.second came.0.second) come.fit_released (subst (All FitsRecord) came.5 each))

      begun : HasBegun (writes_of names s.fractions (come.replies ++ x ∷ [])) a c
          → HasBegunSome s r names (events ++ ev ∷ []) a c
      begun h = (
        writes_of names s.fractions (come.replies ++ x ∷ []),
        inl (record {
          before = events ++ ev ∷ [];
          after = [];
          events_are = sym (append-nil (events ++ ev ∷ []));
          replies = come.replies ++ x ∷ [];
          worlds = came.0;
          answers = answered;
          writes_are = refl;
        }),
        h,
      )

      go : (w : Result ⊤ OutputError) → WritesGathered w (writes_of names s.fractions (come.replies ++ x ∷ [])) more a c
          → OnOk w (All FitsRecord middle × All FitsRecord released)
          → GoesOn (run_result_of w) mean other s r names (events ++ ev ∷ []) new more a c
      go (Ok done) h each = record {
        replies = come.replies ++ x ∷ [];
        worlds = came.0;
        answers = answered;
        at = came.6;
        fit_middle = fit_middle each.0;
        fit_released = fit_released each.1;
        gathered = h;
      }
      go (Err output.WriteFault) h each = begun h
      go (Err output.NoMemory) h each = begun h

  abbrev halted : Chained V U → List Write
  halted next =
      so_far
      ++ passed_writes names (newly_released come.worlds.first next.first)
      (newly_released come.worlds.second next.second)

  -- an event stopped at a limit, and what was released before was written
  stopped_goes : (ev : ChainEvent) (limit : Limit) (middle released : List Packet) (w : Result ⊤ OutputError)
      (new : TwoSystems P V Q U) (more : List ℕ) (c : Shown)
      → ComesTo mean other ev (Err limit) middle released y new
      → Writes w (so_far ++ passed_writes names middle released) a c
      → GoesOn (stopped_result w limit) mean other s r names (events ++ ev ∷ []) new more a c
  stopped_goes ev limit middle released w new more c comes written = go w here
    where
      came : (next : Chained V U) × StopsChain s r come.worlds ev limit next
          × (middle ≡ newly_released come.worlds.first next.first)
          × (released ≡ newly_released come.worlds.second next.second)
      came = comes s r come.worlds come.at

      here : Writes w (halted came.0) a c
      here =
          subst (λ (l : List Packet).
          Writes w (so_far ++ passed_writes names (newly_released come.worlds.first came.0.first) l) a c) came.3
          (subst (λ (l : List Packet). Writes w (so_far ++ passed_writes names l released) a c) came.2 written)

      until : WritesUntil s r names (events ++ ev ∷ []) limit (halted came.0)
      until = record {
        before = events;
        event = ev;
        after = [];
        events_are = refl;
        replies = come.replies;
        there = come.worlds;
        answers = come.answers;
        worlds = came.0;
        stops = came.1;
        writes_are = refl;
      }

      go : (w : Result ⊤ OutputError) → Writes w (halted came.0) a c
          → GoesOn (stopped_result w limit) mean other s r names (events ++ ev ∷ []) new more a c
      go (Ok done) h = record { writes = _; until = until; written = h }
      go (Err output.WriteFault) h = (_, inr (limit, until), h)
      go (Err output.NoMemory) h = (_, inr (limit, until), h)

  -- nothing more was written
  pub nothing_more : (rest : List ChainEvent) (c : Shown) → HasBegun so_far a c
      → HasBegunSome s r names (events ++ rest) a c
  nothing_more rest c begun = (
    so_far,
    inl (record {
      before = events;
      after = rest;
      events_are = refl;
      replies = come.replies;
      worlds = come.worlds;
      answers = come.answers;
      writes_are = refl;
    }),
    begun,
  )

  -- memory ran out before anything was written
  pub memory_out : (q : Result ⊤ RunError) (ev : ChainEvent) (new : TwoSystems P V Q U) (more : List ℕ)
      → q ≡ Err run.NoMemory → GoesOn q mean other s r names (events ++ ev ∷ []) new more a b
  memory_out q ev new more is =
      subst (λ (z : Result ⊤ RunError). GoesOn z mean other s r names (events ++ ev ∷ []) new more a b) (sym is)
      (nothing_more (ev ∷ []) b (subst (λ (ws : List Write). HasBegun ws a b) (append-nil so_far)
      (gathered_begun so_far [] lines a b come.gathered)))

  -- an event was performed, or stopped, and what it left was written
  pub performed_goes : (ev : ChainEvent) (reply : Result SystemReply Limit) (middle released : List Packet)
      (q : Result ⊤ RunError) (new : TwoSystems P V Q U) (more : List ℕ) (c : Shown)
      → ComesTo mean other ev reply middle released y new
      → WritesPerformed q reply ev middle released so_far names more a c
      → GoesOn q mean other s r names (events ++ ev ∷ []) new more a c
  performed_goes ev (Ok reply) middle released q new more c comes written =
      let came = comes s r come.worlds come.at in
      let files = written came.1 came.3 in
      subst (λ (z : Result ⊤ RunError). GoesOn z mean other s r names (events ++ ev ∷ []) new more a c) (sym files.1)
      (reply_goes ev reply middle released files.0 new more c comes files.3 files.2)
  performed_goes ev (Err limit) middle released q new more c comes written =
      subst (λ (z : Result ⊤ RunError). GoesOn z mean other s r names (events ++ ev ∷ []) new more a c) (sym written.1)
      (stopped_goes ev limit middle released written.0 new more c comes written.2)

-- Events behind those that were performed

until_longer : {V U : Type 0} (s : Setting V) (r : Setting U) (names : ChainNames) (events rest : List ChainEvent)
    (limit : Limit) (writes : List Write) → WritesUntil s r names events limit writes
    → WritesUntil s r names (events ++ rest) limit writes
until_longer s r names events rest limit writes until =
    record {
      before = until.before;
      event = until.event;
      after = until.after ++ rest;
      events_are = ap (λ l. l ++ rest) until.events_are ∙ append_assoc until.before (until.event ∷ until.after) rest;
      replies = until.replies;
      there = until.there;
      answers = until.answers;
      worlds = until.worlds;
      stops = until.stops;
      writes_are = until.writes_are;
    }

-- what these events write is some of what they write with more behind them
some_longer : {V U : Type 0} (s : Setting V) (r : Setting U) (names : ChainNames) (events rest : List ChainEvent)
    (a b : Shown) → HasBegunSome s r names events a b → HasBegunSome s r names (events ++ rest) a b
some_longer s r names events rest a b (writes, (inl some), begun) = (
  writes,
  inl (record {
    before = some.before;
    after = some.after ++ rest;
    events_are = ap (λ l. l ++ rest) some.events_are ∙ append_assoc some.before some.after rest;
    replies = some.replies;
    worlds = some.worlds;
    answers = some.answers;
    writes_are = some.writes_are;
  }),
  begun,
)
some_longer s r names events rest a b (writes, (inr (limit, until)), begun) = (
  writes,
  inr (limit, until_longer s r names events rest limit writes until),
  begun,
)

-- what the first events came to that did not come to their end is what all come to
pub goes_longer : {P V Q U : Type 0} (e : RunError) (mean : P → Meaning V) (other : Q → Meaning U) (s : Setting V)
    (r : Setting U) (names : ChainNames) (events rest all : List ChainEvent) (y z : TwoSystems P V Q U)
    (lines more : List ℕ) (a b : Shown) → all ≡ events ++ rest
    → GoesOn {A = ⊤} (Err e) mean other s r names events y lines a b
    → GoesOn {A = ⊤} (Err e) mean other s r names all z more a b
goes_longer {P} {V} {Q} {U} e mean other s r names events rest all y z lines more a b same goes =
    subst (λ (l : List ChainEvent). GoesOn {A = ⊤} (Err e) mean other s r names l z more a b) (sym same)
    (longer e goes)
  where
    longer : (e : RunError) → GoesOn {A = ⊤} (Err e) mean other s r names events y lines a b
        → GoesOn {A = ⊤} (Err e) mean other s r names (events ++ rest) z more a b
    longer (run.Limit limit) h = record {
      writes = h.writes;
      until = until_longer s r names events rest limit h.writes h.until;
      written = h.written;
    }
    longer run.WriteFault h = some_longer s r names events rest a b h
    longer run.NoMemory h = some_longer s r names events rest a b h

-- the systems are somewhere again, where the event ended
pub somewhere_again : {A E P V Q U : Type 0} (q : Result A E) (mean : P → Meaning V) (other : Q → Meaning U)
    (ev : ChainEvent) (reply : Result SystemReply Limit) (middle released : List Packet) (y new : TwoSystems P V Q U)
    → OnOk q (IsOk reply) → ComesTo mean other ev reply middle released y new → IsSomewhere mean other y
    → OnOk q (IsSomewhere mean other new)
somewhere_again (Ok x) mean other ev (Ok reply) middle released y new ended comes here =
    let came = comes here.0 here.1 here.2 here.3 in (here.0, here.1, came.0, came.6, here.4)
somewhere_again (Ok x) mean other ev (Err e) middle released y new ended comes here = absurd (cc)
somewhere_again (Err e) mean other ev reply middle released y new ended comes here = tt

-- what is true where the event ended
pub on_ended : {A B E F : Type 0} (P : Type 0) (q : Result A E) (reply : Result B F) → OnOk q (IsOk reply)
    → OnOk reply P → OnOk q P
on_ended P (Ok x) (Ok y) ended p = p
on_ended P (Ok x) (Err e) ended p = absurd (cc)
on_ended P (Err e) reply ended p = tt
