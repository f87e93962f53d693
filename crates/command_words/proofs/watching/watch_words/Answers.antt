use Rattle.std.proofs.Common.{◌∙◌, ap}
use Rattle.command_words.specs.Watching.{watch_status}
use Rattle.command_words.proofs.watching.watch_words.Goals as goal

pub returns-clause-watches : goal.returns-clause-watches
returns-clause-watches g c p h =
    (c.print_watched-watched.result.printed, c.status_of.ensures.status, c.print_watched-watched.ensures.judged p h)

pub returns-clause-prints : goal.returns-clause-prints
returns-clause-prints g c =
    (c.print_watched-watched.result.printed, c.status_of.ensures.status, c.print_watched-watched.ensures.prints)

pub returns-clause-bad_words : goal.returns-clause-bad_words
returns-clause-bad_words g c = (
  (λ bad. c.print_watched-watched.ensures.bad_words.0 (c.status_of.ensures.bad_words bad)),
  (λ none. c.status_of.ensures.status ∙ ap watch_status (c.print_watched-watched.ensures.bad_words.1 none)),
)
