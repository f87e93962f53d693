use Rattle.std.proofs.Common.{◌≡◌, ◌+◌, ◌*◌, ◌∙◌, take, ap, arith}
use Rattle.script_text.specs.Choosing.{chosen_event}
use Rattle.random_words.specs.Words.{generator_after}
use Rattle.several_events.proofs.ChoosingLemmas.{single_chosen, chosen_counted}
use Rattle.several_events.proofs.choosing.choose_next.Goals as goal

pub returns-clause-chosen : goal.returns-clause-chosen
returns-clause-chosen g c = λ s w seed k st at.
    let first = c.next_word-first.ensures.word seed (2 * k) at in
    let second = c.next_word-second.ensures.word seed (2 * k + 1) (c.next_word-first.ensures.after seed (2 * k) at) in
    let is : c.auto_event.result
    ≡ chosen_event c.next_word-first.result c.next_word-second.result
    (take c.threads-threads.result c.counts_of_all.result.0) (take c.threads-threads.result c.counts_of_all.result.1) =
    c.auto_event.ensures in
    let threads : c.threads-threads.result ≡ c.args.core.now.inputs.threads =
    c.threads-threads.ensures.value ∙ ap (λ y. y.inputs.threads) c.core.view_is in
    let some = c.threads-threads.ensures.some in
    let few = c.threads-threads.ensures.few in
    chosen_counted (g.P.Program.meaning c.args.core.now.program) s w c.args.core.now seed k c.next_word-first.result
    c.next_word-second.result c.threads-threads.result c.counts_of_all.result.0 c.counts_of_all.result.1
    c.auto_event.result st is threads some few c.counts_of_all.ensures first second

pub returns-clause-single : goal.returns-clause-single
returns-clause-single g c =
    single_chosen c.next_word-first.result c.next_word-second.result
    (take c.threads-threads.result c.counts_of_all.result.0) (take c.threads-threads.result c.counts_of_all.result.1)
    c.auto_event.result c.auto_event.ensures

pub returns-clause-words : goal.returns-clause-words
returns-clause-words g c = λ seed k at.
    let count : 2 * k + 1 + 1 ≡ 2 * (k + 1) = omega arith in
    c.next_word-second.ensures.after seed (2 * k + 1) (c.next_word-first.ensures.after seed (2 * k) at)
    ∙ ap (generator_after seed) count
