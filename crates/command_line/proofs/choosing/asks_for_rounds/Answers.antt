use Rattle.std.proofs.Common.{◌≡◌, ◌∙◌, ℕ, None, ap, subst, sym}
use Rattle.job_commands.specs.Words.{live_names}
use Rattle.release_taps.specs.Split.{behind_pairs}
use Rattle.release_taps.proofs.Counting.{one_count}
use Rattle.command_line.proofs.LiveWords.{none_read}
use Rattle.command_line.proofs.Runs.{plain_taps}
use Rattle.command_line.proofs.choosing.asks_for_rounds.Goals as goal

pub returns-in-Taps-clause-no_rounds : goal.returns-in-Taps-clause-no_rounds
returns-in-Taps-clause-no_rounds c absent =
    let none : live_names c.run_line.result.now ≡ None = none_read c.read_live_words-in-Taps.result _ _
    c.read_live_words-in-Taps.ensures.names (sym c.is_some-in-Taps.ensures ∙ absent) in
    record {
      plain = λ no_tap. absurd (plain_taps c.args.words.now no_tap c.in-Taps.pairs c.in-Taps.ensures.0);
      tapped = λ pairs asks. subst (λ (n : ℕ). live_names (behind_pairs n c.args.words.now) ≡ None)
          (one_count c.args.words.now c.in-Taps.pairs pairs c.in-Taps.ensures.0 asks)
          (ap live_names (sym c.run_line.ensures) ∙ none);
    }
