-- A run is finished: the schedule and the last line are written.
use Rattle.std.proofs.Common.{◌≡◌, ℕ, List, [], ◌∷◌, ◌++◌, refl, sym, ap, ◌∙◌, append-nil, subst, inl, inr, Result, Ok}
use Rattle.std.proofs.Common.{Err}
use Rattle.std.specs.Prelude.{⊤}
use Rattle.std.specs.Result.{IsErr}
use Rattle.plain_machine.specs.Program.{Meaning}
use Rattle.plain_player.specs.ScheduleText.{schedule_text}
use Rattle.plain_player.specs.Schedules.{FitLines}
use Rattle.world_io.specs.World.{Shown}
use Rattle.recovery_world.specs.declared.event.Event.{Event}
use Rattle.recovery_world.specs.World.{Setting}
use Rattle.recovery_world.specs.Files.{done_line, moves_made}
use Rattle.event_replies.specs.declared.reply.Finished.{Finished}
use Rattle.recovery_core.specs.Systems.{Systemed}
use Rattle.recovery_core.specs.Systems.{FinishesAs}
use Rattle.output_files.specs.declared.error.OutputError.{OutputError}
use Rattle.output_files.specs.Writes.{Write, Appends, Reports, HasBegun}
use Rattle.output_files.specs.Written.{Writes}
use Rattle.output_files.proofs.Effects.{gathered_begun}
use Rattle.run_writes.specs.Replies.{Point}
use Rattle.run_writes.specs.Run.{OutputNames, writes_of, closing_writes, counts_line, WritesAllFrom, HasBegunFrom}
use Rattle.run_writes.specs.Run.{FinishesFrom}
use Rattle.run_command.specs.Running.{HasCome}

pub err_finishes : {V : Type 0} (r : Result ⊤ OutputError) (s : Setting V) (from : Point V) (names : OutputNames)
    (events : List Event)
    (a b : Shown) → IsErr r → HasBegunFrom s from names events a b → FinishesFrom r s from names events a b
err_finishes (Ok done) s from names events a b err h = absurd (cc)
err_finishes (Err error) s from names events a b err h = h

module _ {P V : Type 0} (m : Meaning V) (s : Setting V) (from : Point V) (names : OutputNames) (events : List Event)
    (y : Systemed P V)
    (lines : List ℕ) (a b : Shown) (come : HasCome m s from names events y lines a b) where
  -- a first part of what the events write was written
  pub still_begun : HasBegunFrom s from names events a b
  still_begun =
      let h = gathered_begun (writes_of names s.fractions (from.replies
      ++ come.replies)) [] lines a b come.gathered in (
        writes_of names s.fractions (from.replies ++ come.replies),
        inl (record {
          before = events;
          after = [];
          events_are = sym (append-nil events);
          replies = come.replies;
          world = come.world;
          answers = come.answers;
          writes_are = refl;
        }),
        subst (λ (ws : List Write). HasBegun ws a b) (append-nil (writes_of names s.fractions (from.replies
            ++ come.replies))) h,
      )

  module _ (f : Finished) (ends : FinishesAs s come.world f) (fit : FitLines f.schedule) where
    all : WritesAllFrom s from names events (writes_of names s.fractions (from.replies ++ come.replies)
        ++ closing_writes names (moves_made ends.steps) (done_line come.world))
    all = record {
      replies = come.replies;
      world = come.world;
      answers = come.answers;
      steps = ends.steps;
      finish = ends.finish;
      fit_records = come.fit_records;
      fit_lines = subst FitLines ends.schedule fit;
      writes_are = refl;
    }

    counts : counts_line f.fed f.epoch f.released ≡ done_line come.world
    counts = rw (ends.fed, ends.epoch, ends.released) refl

    pub closes : (r : Result ⊤ OutputError) (text line : List ℕ) (e : Shown)
        → text ≡ schedule_text f.schedule → line ≡ counts_line f.fed f.epoch f.released
        → Writes r (writes_of names s.fractions (from.replies ++ come.replies) ++
        (Appends names.schedule text ∷ Reports line ∷ [])) a e
        → FinishesFrom r s from names events a e
    closes r text line e text_is line_is h = go r here
      where
        here : Writes r
            (writes_of names s.fractions (from.replies ++ come.replies)
            ++ closing_writes names (moves_made ends.steps) (done_line come.world)) a e
        here =
            subst (λ (l : List ℕ).
            Writes r (writes_of names s.fractions (from.replies ++ come.replies) ++ closing_writes names
            (moves_made ends.steps) l) a e)
            (line_is ∙ counts)
            (subst (λ (l : List ℕ).
            Writes r (writes_of names s.fractions (from.replies ++ come.replies) ++
            (Appends names.schedule l ∷ Reports line ∷ [])) a e)
            (text_is ∙ ap schedule_text ends.schedule) h)

        go : (r : Result ⊤ OutputError)
            → Writes r
            (writes_of names s.fractions (from.replies ++ come.replies)
            ++ closing_writes names (moves_made ends.steps) (done_line come.world)) a e
            → FinishesFrom r s from names events a e
        go (Ok done) h = (_, all, h)
        go (Err error) h = (_, inr (inr all), h)
