use Rattle.std.proofs.Common.{◌≡◌, ◌⊎◌, ◌∙◌, ℕ, List, [], ap, arith, subst, sym}
use Rattle.std.specs.Prelude.{IfOk}
use Rattle.world_real.specs.Real.{real_ledger}
use Rattle.release_taps.specs.Split.{AsksForTaps}
use Rattle.world_told.specs.Events.{shown_after}
use Rattle.world_told.specs.Honest.{IsHonest}
use Rattle.world_told.specs.Ledgers.{told_ledger}
use Rattle.world_told.specs.Orderly.{are_orderly, created_in}
use Rattle.world_told.specs.Sent.{name_of, sent_to}
use Rattle.command_line.specs.Running.{IsNotBegun, PrintsFiles, RunsFiles, TapsMirror}
use Rattle.command_words.specs.Clashes.{Clashes, NoneClash}
use Rattle.command_words.specs.Pipes.{ArePiped}
use Rattle.command_words.specs.Words.{words_of}
use Rattle.command_line.proofs.FilesRun.{clashed, not_begun, prints_files, ran_anyway, read, runs_files, with_words}
use Rattle.command_line.proofs.program.run_arguments.Goals as goal

pub returns-clause-piped : goal.returns-clause-piped
returns-clause-piped g c =
    let piped = c.in-Ok-name_streams.piped in
    with_words c.args.arguments words_of c.as_slice.result.now
    (subst (λ w. IfOk c.args.arguments (λ all. w ≡ words_of all)) (sym c.as_slice.ensures.value) c.in-Ok.ensures.words)
    _ (λ words. ArePiped words piped.words.items piped.report) c.in-Ok-name_streams.ensures.piped

pub returns-clause-runs : goal.returns-clause-runs
returns-clause-runs g c =
    let run = c.run_words-run in
    ran_anyway c.args.arguments _ _
    (subst (λ (words : List (List ℕ)). RunsFiles (g.C.Clock.may c.args.clock.now) (λ w. (real_ledger w).write_faults)
    run.result.refused words run.result.status run.result.world.calls) c.as_slice-3.ensures.value
    (runs_files real_ledger (g.C.Clock.may c.args.clock.now) (λ w. (real_ledger w).write_faults) run.result.refused
    c.as_slice-3.result.now run.result.status c.of-world.result run.result.world _
    (ap (λ t. t.calls) c.of-world.ensures) run.ensures.runs))

pub returns-clause-prints : goal.returns-clause-prints
returns-clause-prints g c =
    let run = c.run_words-run in
    ran_anyway c.args.arguments _ _
    (subst (λ (words : List (List ℕ)). PrintsFiles words run.result.status run.result.world.calls run.result.out.calls)
    c.as_slice-3.ensures.value
    (prints_files c.as_slice-3.result.now run.result.status c.of-world.result run.result.world c.of-out.result
    run.result.out (ap (λ t. t.calls) c.of-world.ensures) (ap (λ t. t.calls) c.of-out.ensures) run.ensures.prints
    run.ensures.prints_nothing))

pub returns-clause-mirrors : goal.returns-clause-mirrors
returns-clause-mirrors g c =
    let run = c.run_words-run in
    ran_anyway c.args.arguments _ _
    (subst (λ (words : List (List ℕ)).
    (pairs : ℕ) → AsksForTaps words pairs
    → IsNotBegun (λ w. (real_ledger w).write_faults) run.result.refused run.result.status [] run.result.world.calls
    ⊎ TapsMirror (λ p t. IsHonest p t.calls) (λ p t. shown_after p t.calls) (told_ledger real_ledger)
    (λ t. (t.faults ≡ 0) × (t.lacks ≡ 0)) (λ t. sent_to t.file t.world.calls) (λ t. t.faults) (λ t. t.lacks)
    (λ t. name_of t.file t.world.calls) words pairs run.result.world run.result.taps.items) c.as_slice-3.ensures.value
    (λ pairs asks. not_begun (λ w. (real_ledger w).write_faults) run.result.refused run.result.status c.of-world.result
    run.result.world _ (ap (λ t. t.calls) c.of-world.ensures) (run.ensures.mirrors pairs asks)))

pub returns-clause-apart : goal.returns-clause-apart
returns-clause-apart g c =
    ran_anyway c.args.arguments _ _
    (subst (λ (words : List (List ℕ)). NoneClash (g.N.Names.may c.args.names.now) words
    c.in-Ok-name_streams.piped.report) c.as_slice-2.ensures.value (c.one_file.ensures.none c.in_default.is))

pub returns-clause-orderly : goal.returns-clause-orderly
returns-clause-orderly g c = c.run_words-run.ensures.orderly ∙ ap (λ t. are_orderly t.calls) c.of-world.ensures

pub returns-clause-no_words : goal.returns-clause-no_words
returns-clause-no_words g c = read c.args.arguments _ c.in-Ok.ensures.refused

pub run_words-run-requires-clause-room : goal.run_words-run-requires-clause-room
run_words-run-requires-clause-room g c κs within =
    let none = ap (λ t. (real_ledger t.world).given) c.of-world.ensures ∙ c.new.ensures.given in omega (arith, none)

pub run_words-run-requires-clause-new_world : goal.run_words-run-requires-clause-new_world
run_words-run-requires-clause-new_world g c κs within file =
    ap (λ t. created_in file t.calls) c.of-world.ensures

pub run_words-run-requires-clause-fresh : goal.run_words-run-requires-clause-fresh
run_words-run-requires-clause-fresh g c κs within p h =
    ap (λ t. (shown_after p t.calls).sent 0) c.of-out.ensures

pub returns-in-Some-clause-piped : goal.returns-in-Some-clause-piped
returns-in-Some-clause-piped g c =
    let ended = c.end_at_once-in-Some in
    let piped = c.in-Ok-name_streams.piped in
    clashed c.args.arguments words_of c.as_slice.result.now
    (subst (λ w. IfOk c.args.arguments (λ all. w ≡ words_of all)) (sym c.as_slice.ensures.value) c.in-Ok.ensures.words)
    (g.N.Names.may c.args.names.now) _ _ _ c.in-Some.clash piped.words.items piped.report _ ended.ensures.none
    ended.ensures.status ended.ensures.same c.in-Ok-name_streams.ensures.piped
    (subst (λ (words : List (List ℕ)). Clashes (g.N.Names.may c.args.names.now) words piped.report c.in-Some.clash)
    c.as_slice-2.ensures.value c.in-Some.ensures.found)

pub returns-in-Some-clause-runs : goal.returns-in-Some-clause-runs
returns-in-Some-clause-runs g c =
    let ended = c.end_at_once-in-Some in
    let piped = c.in-Ok-name_streams.piped in
    clashed c.args.arguments words_of c.as_slice.result.now
    (subst (λ w. IfOk c.args.arguments (λ all. w ≡ words_of all)) (sym c.as_slice.ensures.value) c.in-Ok.ensures.words)
    (g.N.Names.may c.args.names.now) _ _ _ c.in-Some.clash piped.words.items piped.report _ ended.ensures.none
    ended.ensures.status ended.ensures.same c.in-Ok-name_streams.ensures.piped
    (subst (λ (words : List (List ℕ)). Clashes (g.N.Names.may c.args.names.now) words piped.report c.in-Some.clash)
    c.as_slice-2.ensures.value c.in-Some.ensures.found)

pub returns-in-Some-clause-prints : goal.returns-in-Some-clause-prints
returns-in-Some-clause-prints g c =
    let ended = c.end_at_once-in-Some in
    let piped = c.in-Ok-name_streams.piped in
    clashed c.args.arguments words_of c.as_slice.result.now
    (subst (λ w. IfOk c.args.arguments (λ all. w ≡ words_of all)) (sym c.as_slice.ensures.value) c.in-Ok.ensures.words)
    (g.N.Names.may c.args.names.now) _ _ _ c.in-Some.clash piped.words.items piped.report _ ended.ensures.none
    ended.ensures.status ended.ensures.same c.in-Ok-name_streams.ensures.piped
    (subst (λ (words : List (List ℕ)). Clashes (g.N.Names.may c.args.names.now) words piped.report c.in-Some.clash)
    c.as_slice-2.ensures.value c.in-Some.ensures.found)

pub returns-in-Some-clause-mirrors : goal.returns-in-Some-clause-mirrors
returns-in-Some-clause-mirrors g c =
    let ended = c.end_at_once-in-Some in
    let piped = c.in-Ok-name_streams.piped in
    clashed c.args.arguments words_of c.as_slice.result.now
    (subst (λ w. IfOk c.args.arguments (λ all. w ≡ words_of all)) (sym c.as_slice.ensures.value) c.in-Ok.ensures.words)
    (g.N.Names.may c.args.names.now) _ _ _ c.in-Some.clash piped.words.items piped.report _ ended.ensures.none
    ended.ensures.status ended.ensures.same c.in-Ok-name_streams.ensures.piped
    (subst (λ (words : List (List ℕ)). Clashes (g.N.Names.may c.args.names.now) words piped.report c.in-Some.clash)
    c.as_slice-2.ensures.value c.in-Some.ensures.found)

pub returns-in-Some-clause-apart : goal.returns-in-Some-clause-apart
returns-in-Some-clause-apart g c =
    let ended = c.end_at_once-in-Some in
    let piped = c.in-Ok-name_streams.piped in
    clashed c.args.arguments words_of c.as_slice.result.now
    (subst (λ w. IfOk c.args.arguments (λ all. w ≡ words_of all)) (sym c.as_slice.ensures.value) c.in-Ok.ensures.words)
    (g.N.Names.may c.args.names.now) _ _ _ c.in-Some.clash piped.words.items piped.report _ ended.ensures.none
    ended.ensures.status ended.ensures.same c.in-Ok-name_streams.ensures.piped
    (subst (λ (words : List (List ℕ)). Clashes (g.N.Names.may c.args.names.now) words piped.report c.in-Some.clash)
    c.as_slice-2.ensures.value c.in-Some.ensures.found)

pub returns-in-Some-clause-no_words : goal.returns-in-Some-clause-no_words
returns-in-Some-clause-no_words g c = read c.args.arguments _ c.in-Ok.ensures.refused
