-- What a run of some events comes to, from what its system says.
use Rattle.std.proofs.Common.{◌≡◌, ℕ, List, ◌++◌, drop, refl, sym, ap, ◌∙◌, subst}
use Rattle.std.proofs.Common.{Result, Ok, Err}
use Rattle.std.specs.Prelude.{All, IfOk}
use Rattle.plain_text.specs.Packets.{IsShort}
use Rattle.plain_text.specs.declared.limit.Limit.{Limit}
use Rattle.access_log.specs.declared.entry.Output.{Output}
use Rattle.plain_machine.specs.Program.{Meaning, IsLawful}
use Rattle.recovery_world.specs.declared.event.Event.{Event}
use Rattle.recovery_world.specs.declared.event.Event.TheVariants as event
use Rattle.recovery_world.specs.declared.event.Outcome.{Outcome}
use Rattle.recovery_world.specs.World.{Setting, Sent, opening, World as SystemWorld}
use Rattle.recovery_world.specs.Events.{OnShow}
use Rattle.recovery_world.specs.Many.{OnAny, Single, Several}
use Rattle.recovery_world.specs.Files.{done_line, packets_of}
use Rattle.recovery_laws.proofs.KeptWorlds.{opening_sound, performs_sound, stops_sound}
use Rattle.event_replies.specs.declared.reply.Reply.{Reply as SystemReply}
use Rattle.event_replies.specs.declared.reply.Stop.{Stop}
use Rattle.event_replies.specs.declared.reply.Stop.TheVariants as stop
use Rattle.recovery_core.specs.Systems.{FinishesAs, RepliesAny, SystemMoves, SystemStands, Systemed}
use Rattle.run_writes.specs.Replies.{packets_in, lines_in}
use Rattle.run_writes.proofs.ScriptAnswers.{answers_perform}
use Rattle.run_writes.proofs.ShortPackets.{released_short}
use Rattle.drill_report.specs.Report.{Replays}
use Rattle.noted_runs.specs.declared.drill.running.Ended.{Ended}
use Rattle.noted_runs.specs.Drilled.{EndsSo}
use Rattle.noted_runs.specs.Ends.{HasEnded, HasHalted}
use Rattle.noted_runs.specs.Drilling.{HasPerformed, IsHalted, IsNew}

-- showing a variable changes nothing
pub shown_world : {V : Type 0} (s : Setting V) (w next : SystemWorld V) (v : ℕ) (to : Outcome) (freed : List Sent)
    → OnAny s w (event.Show v) to freed next → OnShow s w v to × (next ≡ w)
shown_world s w next v to freed (Single e o f n on) = (on.0.0, on.0.2)
shown_world s w next v to freed (Several e q o n at follows same) = absurd (cc)

pub shows : {P V : Type 0} (m : Meaning V) (s : Setting V) (w : SystemWorld V) (v : ℕ) (reply : SystemReply)
    (old new : Systemed P V) → SystemMoves m (RepliesAny (event.Show v) reply) old new → SystemStands m s w old
    → OnShow s w v reply.outcome × SystemStands m s w new
shows {P} {V} m s w v reply old new moves stands =
    let went = moves.2 s w stands in
    let shown = shown_world s w went.0 v reply.outcome went.1.0 went.1.1 in (
      shown.0,
      subst (λ (z : SystemWorld V). SystemStands m s z new) shown.1 went.2,
    )

-- the meaning of the same program
pub stands_same : {P V : Type 0} (m k : Meaning V) (s : Setting V) (w : SystemWorld V) (y : Systemed P V) → m ≡ k
    → SystemStands m s w y → SystemStands k s w y
stands_same {P} {V} m k s w y same h = subst (λ (x : Meaning V). SystemStands x s w y) same h

-- a system is new, whatever its program is called
pub new_at : {P V : Type 0} (meaning : P → Meaning V) (program : P) (s : Setting V) (y : Systemed P V)
    → y.parts.program ≡ program → SystemStands (meaning program) s (opening V) y → y.handed ≡ 0
    → IsNew (meaning y.parts.program) s y
new_at {P} {V} meaning program s y same stands handed = record {
  stands = stands_same (meaning program) (meaning y.parts.program) s (opening V) y (ap meaning (sym same)) stands;
  handed = handed;
}

-- what is released in a system is short
module _ {P V : Type 0} (m : Meaning V) (fits : ℕ → V → Type 0) (s : Setting V) (lawful : IsLawful m fits)
    (short : All IsShort s.packets) where
  law : (w : SystemWorld V) (y : Systemed P V) → SystemStands m s w y → IsLawful s.meaning fits
  law w y stands = subst (λ (n : Meaning V). IsLawful n fits) (sym stands.parts.inputs.meaning) lawful

  -- all events were performed
  pub ended : (events : List Event) (n : ℕ) (y : Systemed P V) (h : HasPerformed m s events n y)
      (outputs : List Output) (e : Ended) → packets_in outputs ≡ packets_of h.world.released
      → FinishesAs s h.world e.finished → OnShow s h.world 0 e.shown → e.replayed ≡ n → HasEnded s events e outputs
  ended events n y h outputs e packets finish on replayed = record {
    lines = lines_in h.replies ++ done_line h.world;
    leaves = record {
      world = h.world;
      lines = lines_in h.replies;
      performs = answers_perform s events h.replies h.world h.answers;
      report_is = refl;
      released_is = packets;
      steps = finish.steps;
      finish = finish.finish;
      schedule_is = finish.schedule;
    };
    replays = subst (λ (k : ℕ). Replays s events k h.world) (sym replayed) h.replays;
    shows = on;
    fed = finish.fed;
    epoch = finish.epoch;
    released = finish.released;
    short = subst (All IsShort) (sym packets)
        (released_short s fits h.world 0 (law h.world y h.stands) short h.stands.parts.sound);
  }

  -- an event stopped at a limit, where the system was new before the first one
  pub halted : (events : List Event) (limit : Limit) (y : Systemed P V) (h : IsHalted s events limit y)
      (first : SystemWorld V) (old : Systemed P V) → SystemStands m s first old → (outputs : List Output)
      → packets_in outputs ≡ packets_of h.world.released → HasHalted s events limit outputs
  halted events limit y h first old stands outputs packets = record {
    lines = lines_in h.replies;
    leaves = record {
      before = h.before;
      event = h.event;
      after = h.after;
      events_are = h.events_are;
      there = h.there;
      performs = answers_perform s h.before h.replies h.there h.answers;
      world = h.world;
      stops = h.stops;
      released_is = packets;
    };
    short = subst (All IsShort) (sym packets)
        (released_short s fits h.world 0 (law first old stands) short
        (stops_sound s h.there (performs_sound s (opening V) h.there h.before (lines_in h.replies) (opening_sound s)
        (answers_perform s h.before h.replies h.there h.answers)) h.event limit h.world h.stops));
  }

-- what was handed over is all that was released, where nothing was before
pub all_handed : {V : Type 0} (w : SystemWorld V) (outputs : List Output) (handed : ℕ)
    → packets_in outputs ≡ packets_of (drop handed w.released) → handed ≡ 0
    → packets_in outputs ≡ packets_of w.released
all_handed w outputs handed packets none = packets ∙ ap (λ n. packets_of (drop n w.released)) none

-- how a run ended, by what it came to
pub ends_so : {V : Type 0} (s : Setting V) (events : List Event) (outputs : List Output) (end : Result Ended Stop)
    → IfOk end (λ e. HasEnded s events e outputs)
    → ((limit : Limit) → end ≡ Err (stop.Limit limit) → HasHalted s events limit outputs)
    → EndsSo s events outputs end
ends_so s events outputs (Ok e) ended halted = ended
ends_so s events outputs (Err (stop.Limit limit)) ended halted = halted limit refl
ends_so s events outputs (Err stop.NoMemory) ended halted = tt
