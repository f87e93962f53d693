use Rattle.std.proofs.Common.{ap, ◌+◌, ◌∙◌, sym, refl, subst, inl, inr}
use Rattle.std.specs.Option.{unwrap_or}
use Rattle.entry_order.specs.Log.{entries}
use Rattle.plain_machine.specs.History.{log_of}
use Rattle.access_log.specs.Held.{lane, entry_at}
use Rattle.master_core.specs.Stepping.{wanted}
use Rattle.master_core.specs.MasterStanding.{Stands}
use Rattle.system_parts.specs.FromReplayGuide.{recorded}
use Rattle.thread_steps.specs.Following.{or_given}
use Rattle.thread_steps.proofs.HandLemmas.{asks_clock, asks_draw, asked_clock, asked_draw, clock_number, draw_number}
use Rattle.thread_steps.proofs.HandLemmas.{tells_clock, tells_draw, tells_none}
use Rattle.thread_steps.proofs.stepping.told.Goals as goal

pub returns-in-Clock-clause-tells : goal.returns-in-Clock-clause-tells
returns-in-Clock-clause-tells g c = λ s w is sound guides time generator.
    let wants =
    sym is ∙ c.in-Clock.is in
    let number = clock_number s.meaning w.past c.args.thread _ wants in
    let told =
    c.recorded_or.ensures
    ∙ ap (λ k. or_given (recorded (entry_at (lane c.args.guide.now c.args.thread) k)) c.args.given) number in (
      w.drawn,
      tells_clock s w c.args.guide.now sound guides.follows c.args.thread c.args.given c.unwrap_or.result
          (asks_clock s.meaning w.past c.args.thread _ wants)
          (c.unwrap_or.ensures ∙ ap (λ q. unwrap_or q c.args.clock) told ∙ ap (λ k. unwrap_or (or_given
          (recorded (entry_at (lane c.args.guide.now c.args.thread) (entries c.args.thread (log_of w.past) + 1)))
          c.args.given) k) (sym time)),
      generator,
    )

pub returns-in-Clock-clause-asked : goal.returns-in-Clock-clause-asked
returns-in-Clock-clause-asked g c = λ s w is.
    asked_clock s.meaning _ _ (asks_clock s.meaning w.past c.args.thread _
    (sym is ∙ c.in-Clock.is))

pub returns-in-Some-clause-tells : goal.returns-in-Some-clause-tells
returns-in-Some-clause-tells g c = λ s w is sound guides time generator.
    let wants =
    sym is ∙ c.in-Draw.is in
    let number = draw_number s.meaning w.past c.args.thread _ wants in
    let told =
    c.recorded_or-in-Draw.ensures
    ∙ ap (λ k. or_given (recorded (entry_at (lane c.args.guide.now c.args.thread) k)) c.args.given) number in (
      w.drawn,
      tells_draw s w c.args.guide.now sound guides.follows c.args.thread c.args.given c.in-Some.answer w.drawn
          c.recorded_or-in-Draw.result told (asks_draw s.meaning w.past c.args.thread _ wants)
          (inl (c.in-Some.is, refl)),
      generator,
    )

pub returns-in-Some-clause-asked : goal.returns-in-Some-clause-asked
returns-in-Some-clause-asked g c = λ s w is.
    asked_draw s.meaning _ _ (asks_draw s.meaning w.past c.args.thread _
    (sym is ∙ c.in-Draw.is))

pub returns-in-None-clause-tells : goal.returns-in-None-clause-tells
returns-in-None-clause-tells g c = λ s w is sound guides time generator.
    let wants =
    sym is ∙ c.in-Draw.is in
    let number = draw_number s.meaning w.past c.args.thread _ wants in
    let told =
    c.recorded_or-in-Draw.ensures
    ∙ ap (λ k. or_given (recorded (entry_at (lane c.args.guide.now c.args.thread) k)) c.args.given) number in
    let word = c.draw.ensures.word s.seed w.drawn generator in
    let after = c.draw.ensures.after s.seed w.drawn generator in (
      w.drawn + 1,
      tells_draw s w c.args.guide.now sound guides.follows c.args.thread c.args.given c.from.result (w.drawn + 1)
          c.recorded_or-in-Draw.result told (asks_draw s.meaning w.past c.args.thread _ wants)
          (inr (c.in-None.is, c.from.ensures ∙ word, refl)),
      after,
    )

pub returns-in-None-clause-asked : goal.returns-in-None-clause-asked
returns-in-None-clause-asked g c = λ s w is.
    asked_draw s.meaning _ _ (asks_draw s.meaning w.past c.args.thread _
    (sym is ∙ c.in-Draw.is))

pub returns-in_default : goal.returns-in_default
returns-in_default g c = record {
  tells = λ s w is sound guides time generator.
      let none = tells_none s w c.args.thread c.args.given (λ n e. c.in_default.not-Clock n (is ∙ e))
      (λ n e. c.in_default.not-Draw n (is ∙ e)) in
      (w.drawn, none.0, generator);
  asked = λ s w is.
      let none = tells_none s w c.args.thread c.args.given (λ n e. c.in_default.not-Clock n (is ∙ e))
      (λ n e. c.in_default.not-Draw n (is ∙ e)) in
      none.1 0;
}
