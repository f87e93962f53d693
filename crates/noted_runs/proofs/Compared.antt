-- A drill that came to its end is compared with the run beside it.
use Rattle.std.proofs.Common.{◌≡◌, ℕ, ◌-◌, Bool, List, length, sym, ap, ◌∙◌, subst, inl}
use Rattle.std.proofs.Common.{Result, Ok, Err, Option}
use Rattle.std.specs.Prelude.{IfOk}
use Rattle.plain_text.specs.declared.limit.Limit.{Limit}
use Rattle.plain_text.specs.declared.packet.Packet.{Packet}
use Rattle.plain_machine.specs.History.{sent_of}
use Rattle.plain_machine.specs.Program.{Meaning}
use Rattle.plain_player.specs.ScheduleText.{schedule_text}
use Rattle.plain_player.specs.Schedules.{FitLines}
use Rattle.access_log.specs.declared.entry.Output.{Output}
use Rattle.recovery_world.specs.declared.event.Event.{Event}
use Rattle.recovery_world.specs.World.{Setting}
use Rattle.event_replies.specs.declared.reply.Stop.{Stop}
use Rattle.event_replies.specs.declared.reply.Stop.TheVariants as stop
use Rattle.run_writes.specs.Replies.{packets_in}
use Rattle.drill_report.specs.Events.{calm_events, drill_events}
use Rattle.drill_report.specs.Report.{IsFirstDifference, count_waiting, drill_report, drops_of, report_text}
use Rattle.noted_runs.specs.declared.drill.Drilled.{Drilled}
use Rattle.noted_runs.specs.declared.drill.Texts.{Texts}
use Rattle.noted_runs.specs.declared.drill.running.Frame.{Frame}
use Rattle.noted_runs.specs.declared.drill.running.Ended.{Ended}
use Rattle.noted_runs.specs.Drill.{Drills}
use Rattle.noted_runs.specs.Drilled.{EndsSo, IsDrilled}
use Rattle.noted_runs.specs.Ends.{HasEnded, HasHalted, setting_with}
use Rattle.noted_runs.proofs.Ended.{ends_so}

module _ {V : Type 0} (s : Setting V) (every : ℕ) (table : Bool) (outputs : List Output) (ended : Ended)
    (h : HasEnded s (drill_events every (length s.packets)) ended outputs) where
  -- the report that the facts make
  abbrev pub told : ℕ → Option ℕ → List ℕ
  told waiting differs = report_text (record {
    fed = ended.finished.fed;
    released = ended.finished.released;
    drops = drops_of table ended.shown;
    waiting = waiting;
    crashes = ended.finished.epoch - 1;
    replayed = ended.replayed;
    differs = differs;
  })

  told_is : (differs : Option ℕ) → count_waiting (sent_of h.leaves.steps) h.leaves.world.released ≡ 0
      → told 0 differs ≡ drill_report h.leaves.world h.leaves.steps ended.replayed (drops_of table ended.shown) differs
  told_is differs none =
      rw (sym h.fed, sym h.epoch, sym h.released) (ap (λ n. told n differs) (sym none))

  pub drills : (others : List Output) (calm : Ended) (differs : Option ℕ) (report : List ℕ)
      → HasEnded s (calm_events every (length s.packets)) calm others
      → IsFirstDifference (packets_in outputs) (packets_in others) differs → report ≡ told 0 differs
      → count_waiting (sent_of h.leaves.steps) h.leaves.world.released ≡ 0
      → Drills s every table report (packets_in outputs) ended.finished.schedule
  drills others calm differs report c compared is none = record {
    lines = h.lines;
    leaves = h.leaves;
    replayed = ended.replayed;
    replays = h.replays;
    shown = ended.shown;
    shows = h.shows;
    beside_lines = c.leaves.lines;
    beside = c.leaves.world;
    beside_performs = c.leaves.performs;
    differs = differs;
    compared = subst (λ (l : List Packet). IsFirstDifference (packets_in outputs) l differs) c.leaves.released_is
        compared;
    report_is = is ∙ told_is differs none;
  }

  -- both came to their end
  pub drilled : (others : List Output) (calm : Ended) (differs : Option ℕ) (texts : Texts)
      → HasEnded s (calm_events every (length s.packets)) calm others
      → IsFirstDifference (packets_in outputs) (packets_in others) differs → texts.report ≡ told 0 differs
      → texts.schedule ≡ schedule_text ended.finished.schedule → FitLines ended.finished.schedule
      → count_waiting (sent_of h.leaves.steps) h.leaves.world.released ≡ 0
      → IsDrilled s every table (record { outputs = outputs; texts = Ok texts })
  drilled others calm differs texts c compared is schedule fit none = record {
    comes = (ended.finished.schedule, drills others calm differs texts.report c compared is none, schedule, fit);
    short = h.short;
  }

-- the drill itself stopped
pub drill_stopped : {V : Type 0} (s : Setting V) (every : ℕ) (table : Bool) (limit : Limit) (outputs : List Output)
    → HasHalted s (drill_events every (length s.packets)) limit outputs
    → IsDrilled s every table (record { outputs = outputs; texts = Err limit })
drill_stopped s every table limit outputs h = record { comes = inl (h.lines, h.leaves); short = h.short }

-- the run beside it came to its end
pub beside_ended : {V : Type 0} (s : Setting V) (events : List Event) (outputs : List Output) (end : Result Ended Stop)
    (calm : Ended) → end ≡ Ok calm → EndsSo s events outputs end → HasEnded s events calm outputs
beside_ended s events outputs (Ok e) calm is h =
    let same : e ≡ calm = cc in
    subst (λ (x : Ended). HasEnded s events x outputs) same h
beside_ended s events outputs (Err e) calm is h = absurd (cc)

-- a run on these packets, by what running a box promises of the same ones
module _ {V : Type 0} (m : Meaning V) (frame : Frame) (packets : List Packet) (given events : List Event)
    (outputs : List Output) (end : Result Ended Stop) (same : given ≡ events) where
  pub ended_here : (e : Ended) → end ≡ Ok e
      → IfOk end (λ x. HasEnded (setting_with m frame packets) given x outputs)
      → HasEnded (setting_with m frame packets) events e outputs
  ended_here e is h =
      subst (λ (l : List Event). HasEnded (setting_with m frame packets) l e outputs) same
      (go end is h)
    where
      go : (r : Result Ended Stop) → r ≡ Ok e
          → IfOk r (λ x. HasEnded (setting_with m frame packets) given x outputs)
          → HasEnded (setting_with m frame packets) given e outputs
      go (Ok x) is h =
          let one : x ≡ e = cc in
          subst (λ (x : Ended). HasEnded (setting_with m frame packets) given x outputs) one h
      go (Err stop) is h = absurd (cc)

  pub halted_here : (limit : Limit) → HasHalted (setting_with m frame packets) given limit outputs
      → HasHalted (setting_with m frame packets) events limit outputs
  halted_here limit h =
      subst (λ (l : List Event). HasHalted (setting_with m frame packets) l limit outputs) same h

  pub ends_there : (other : List Packet) → other ≡ packets
      → IfOk end (λ x. HasEnded (setting_with m frame other) given x outputs)
      → ((limit : Limit) → end ≡ Err (stop.Limit limit)
      → HasHalted (setting_with m frame other) given limit outputs)
      → EndsSo (setting_with m frame packets) events outputs end
  ends_there other copied ended halted =
      subst (λ (l : List Event). EndsSo (setting_with m frame packets) l outputs end) same
      (subst (λ (p : List Packet). EndsSo (setting_with m frame p) given outputs end) copied
      (ends_so (setting_with m frame other) given outputs end ended halted))

-- what is so in each setting is so in this one
pub drilled_so : {V E : Type 0} (r : Result Drilled E) (s : Setting V) (every : ℕ) (table : Bool)
    (A B : Setting V → Type 0)
    → IfOk r (λ d. (s : Setting V) → A s → B s → IsDrilled s every table d) → A s → B s
    → IfOk r (λ d. IsDrilled s every table d)
drilled_so (Ok d) s every table A B h a b = h s a b
drilled_so (Err e) s every table A B h a b = tt

pub compared_here : (a b c d : List Output) (differs : Option ℕ) → a ≡ b → c ≡ d
    → IsFirstDifference (packets_in a) (packets_in c) differs → IsFirstDifference (packets_in b) (packets_in d) differs
compared_here a b c d differs one two h =
    subst (λ (x : List Output). IsFirstDifference (packets_in x) (packets_in d) differs) one
    (subst (λ (x : List Output). IsFirstDifference (packets_in a) (packets_in x) differs) two h)
