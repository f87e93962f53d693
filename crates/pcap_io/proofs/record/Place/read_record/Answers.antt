use Rattle.std.proofs.Common.{List, ℕ, ◌++◌, subst, sym, ap, ◌∙◌, arith, rules}
use Rattle.std.proofs.lemmas.Grind.{common_steps}
use Rattle.std.proofs.lemmas.List.{take_all}
use Rattle.pcap_io.specs.Reader.{Answers}
use Rattle.pcap_io.proofs.Takes.{takes_whole, body_takes}
use Rattle.pcap_io.proofs.record.Place.read_record.Goals as goal

pub returns-clause-taken : goal.returns-clause-taken
returns-clause-taken g c =
    let reads = g.S.Source.reads in
    let Taken : List ℕ → Type 0 = λ taken. reads c.args.source.now taken c.fill_piece.new.source in
    let all = take_all c.in-Some.had c.fill_piece.new.piece (grind (arith, common_steps, c.fill_piece.auto.piece)) in
    takes_whole reads g.met.S.Source.reads_more _ _ _ _ _ _ (subst Taken all c.in-Some.ensures.taken)
    c.read_body.ensures.taken

pub returns-then-had-eq0-clause-shows : goal.returns-then-had-eq0-clause-shows
returns-then-had-eq0-clause-shows g c p h =
    let left = g.met.S.Source.reads_shown p _ _ _ h c.in-Some.ensures.taken in
    let short = c.in-Some.ensures.runs_out p h in
    grind (arith, common_steps, left, short)

pub returns-then-had-self-clause-shows : goal.returns-then-had-self-clause-shows
returns-then-had-self-clause-shows g c p h =
    let left = g.met.S.Source.reads_shown p _ _ _ h c.in-Some.ensures.taken in
    grind (arith, common_steps, left)

pub returns-then-had-lt-RECORD_HEADER-clause-shows : goal.returns-then-had-lt-RECORD_HEADER-clause-shows
returns-then-had-lt-RECORD_HEADER-clause-shows g c p h =
    let left = g.met.S.Source.reads_shown p _ _ _ h c.in-Some.ensures.taken in
    let short = c.in-Some.ensures.runs_out p h in
    search (rules, left, short)

pub returns-clause-shows : goal.returns-clause-shows
returns-clause-shows g c p h =
    let body = body_takes g.S.Source.reads _ _ _ _ _ c.read_body.ensures.taken in
    let before = g.met.S.Source.reads_before p _ _ _ h body.1 in
    let left = g.met.S.Source.reads_shown p _ _ _ before c.in-Some.ensures.taken in
    let all = take_all c.in-Some.had c.fill_piece.new.piece (grind (arith, common_steps, c.fill_piece.auto.piece)) in
    let rest = g.S.Source.remains p c.fill_piece.new.source in
    let place = c.args.self in
    let Says : List ℕ → Type 0 = λ l. Answers place.order place.offset place.room place.limit l c.read_body.result in
    subst Says (sym (left ∙ ap (λ l. l ++ rest) all)) (c.read_body.ensures.shows p h)
