-- A chain is finished: the schedules and the last lines are written.
use Rattle.std.proofs.Common.{◌≡◌, ℕ, List, [], ◌∷◌, ◌++◌, refl, sym, ap, ◌∙◌, append-nil, append_assoc, subst, inl}
use Rattle.std.proofs.Common.{inr}
use Rattle.std.proofs.Common.{Result, Ok, Err}
use Rattle.std.specs.Prelude.{⊤, codes}
use Rattle.std.specs.Result.{IsErr}
use Rattle.plain_machine.specs.Program.{Meaning}
use Rattle.plain_player.specs.ScheduleText.{schedule_text}
use Rattle.plain_player.specs.Schedules.{FitLines}
use Rattle.world_io.specs.World.{Shown}
use Rattle.recovery_world.specs.World.{Setting}
use Rattle.recovery_world.specs.Files.{done_line, moves_made}
use Rattle.event_replies.specs.declared.reply.Finished.{Finished}
use Rattle.chain_box.specs.FromRecoveryCore.{FinishesAs}
use Rattle.output_files.specs.declared.error.OutputError.{OutputError}
use Rattle.output_files.specs.Writes.{Write, Appends, Reports, HasWritten, HasBegun}
use Rattle.output_files.specs.Written.{Writes}
use Rattle.output_files.proofs.Effects.{begun_before, begun_behind, gathered_begun, then_writes, written_more}
use Rattle.run_writes.specs.Run.{counts_line}
use Rattle.chain_world.specs.declared.chain_event.ChainEvent.{ChainEvent}
use Rattle.chain_world.specs.Chain.{behind, chain_done}
use Rattle.chain_box.specs.Chains.{TwoSystems}
use Rattle.chain_command.specs.Outputs.{ChainNames}
use Rattle.chain_command.specs.Running.{HasCome}
use Rattle.chain_command.specs.Writes.{writes_of, closing_writes, WritesAll, HasBegunChain, Finishes}

-- The writes at the end

module _ (writes : List Write) (one two last : Write) (a c : Shown) (written : HasWritten writes a c) where
  abbrev all : List Write
  all = one ∷ two ∷ last ∷ []

  pub first_begun : (d : Shown) → HasBegun (one ∷ []) c d → HasBegun (writes ++ all) a d
  first_begun d begun = begun_behind writes all a c d written (begun_before (one ∷ []) (two ∷ last ∷ []) c d begun)

  pub second_begun : (d e : Shown) → HasWritten (one ∷ []) c d → HasBegun (two ∷ []) d e
      → HasBegun (writes ++ all) a e
  second_begun d e first begun =
      begun_behind writes all a c e written (begun_behind (one ∷ []) (two ∷ last ∷ []) c d e first
      (begun_before (two ∷ []) (last ∷ []) d e begun))

  pub closed : {A : Type 0} (q : Result A OutputError) (d e f : Shown) → HasWritten (one ∷ []) c d
      → HasWritten (two ∷ []) d e → Writes q (last ∷ []) e f → Writes q (writes ++ all) a f
  closed q d e f first second end =
      then_writes q writes all a c f written
      (then_writes q (one ∷ two ∷ []) (last ∷ []) c e f
      (written_more (one ∷ []) (two ∷ []) c d e first second) end)

-- The end of a chain

pub err_finishes : {V U : Type 0} (q : Result ⊤ OutputError) (s : Setting V) (r : Setting U) (names : ChainNames)
    (events : List ChainEvent) (a b : Shown) → IsErr q → HasBegunChain s r names events a b
    → Finishes q s r names events a b
err_finishes (Ok done) s r names events a b err h = absurd (cc)
err_finishes (Err error) s r names events a b err h = h

module _ {P V Q U : Type 0} (mean : P → Meaning V) (other : Q → Meaning U) (s : Setting V) (r : Setting U)
    (names : ChainNames) (events : List ChainEvent) (y : TwoSystems P V Q U) (lines : List ℕ) (a b : Shown)
    (come : HasCome mean other s r names events y lines a b) where
  -- a first part of what the events write was written
  pub still_begun : HasBegunChain s r names events a b
  still_begun =
      let h = gathered_begun (writes_of names s.fractions come.replies) [] lines a b come.gathered in (
        writes_of names s.fractions come.replies,
        inl (record {
          before = events;
          after = [];
          events_are = sym (append-nil events);
          replies = come.replies;
          worlds = come.worlds;
          answers = come.answers;
          writes_are = refl;
        }),
        subst (λ (ws : List Write). HasBegun ws a b) (append-nil (writes_of names s.fractions come.replies)) h,
      )

  module _ (f h : Finished) (first : FinishesAs s come.worlds.first f)
      (second : FinishesAs (behind r come.worlds.first) come.worlds.second h) (fit_first : FitLines f.schedule)
      (fit_second : FitLines h.schedule) where
    abbrev whole : List Write
    whole = writes_of names s.fractions come.replies
        ++ closing_writes names (moves_made first.steps) (moves_made second.steps) (chain_done come.worlds)

    all_written : WritesAll s r names events whole
    all_written = record {
      replies = come.replies;
      worlds = come.worlds;
      answers = come.answers;
      first_steps = first.steps;
      first_finish = first.finish;
      second_steps = second.steps;
      second_finish = second.finish;
      fit_middle = come.fit_middle;
      fit_released = come.fit_released;
      fit_first = subst FitLines first.schedule fit_first;
      fit_second = subst FitLines second.schedule fit_second;
      writes_are = refl;
    }

    abbrev counts : List ℕ
    counts =
        (codes "1 " ++ counts_line f.fed f.epoch f.released) ++ (codes "2 " ++ counts_line h.fed h.epoch h.released)

    first_counts : counts_line f.fed f.epoch f.released ≡ done_line come.worlds.first
    first_counts = rw (first.fed, first.epoch, first.released) refl

    second_counts : counts_line h.fed h.epoch h.released ≡ done_line come.worlds.second
    second_counts = rw (second.fed, second.epoch, second.released) refl

    counted : counts ≡ chain_done come.worlds
    counted =
        ap (λ l. (codes "1 " ++ l) ++ (codes "2 " ++ counts_line h.fed h.epoch h.released)) first_counts
        ∙ ap (λ l. (codes "1 " ++ done_line come.worlds.first) ++ (codes "2 " ++ l)) second_counts
        ∙ sym (append_assoc (codes "1 " ++ done_line come.worlds.first) (codes "2 ") (done_line come.worlds.second))

    abbrev closing : List ℕ → List ℕ → List ℕ → List Write
    closing one two last =
        writes_of names s.fractions come.replies
        ++ (Appends names.first_schedule one ∷ Appends names.second_schedule two ∷ Reports last ∷ [])

    pub closes : (q : Result ⊤ OutputError) (one two last : List ℕ) (e : Shown) → one ≡ schedule_text f.schedule
        → two ≡ schedule_text h.schedule → last ≡ counts → Writes q (closing one two last) a e
        → Finishes q s r names events a e
    closes q one two last e one_is two_is last_is w = go q here
      where
        here : Writes q whole a e
        here =
            subst (λ (l : List ℕ).
            Writes q (closing (schedule_text (moves_made first.steps)) (schedule_text (moves_made second.steps)) l) a e)
            (last_is ∙ counted)
            (subst (λ (l : List ℕ). Writes q (closing (schedule_text (moves_made first.steps)) l last) a e)
            (two_is ∙ ap schedule_text second.schedule)
            (subst (λ (l : List ℕ). Writes q (closing l two last) a e) (one_is ∙ ap schedule_text first.schedule) w))

        go : (q : Result ⊤ OutputError) → Writes q whole a e → Finishes q s r names events a e
        go (Ok done) done_writes = (_, all_written, done_writes)
        go (Err error) begun = (_, inr (inr all_written), begun)
