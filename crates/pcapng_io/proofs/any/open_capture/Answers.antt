use Rattle.std.proofs.Common.{◌≡◌, false, List, ℕ, ◌++◌, take, sym, ap, subst, ◌∙◌, arith, append_assoc}
use Rattle.std.proofs.lemmas.Grind.{common_steps}
use Rattle.std.proofs.lemmas.List.{length-take}
use Rattle.pcap_io.specs.Faults.{header_fault}
use Rattle.pcapng_io.specs.Any.{StartsAny, TakesStart}
use Rattle.pcapng_io.specs.Capture.{begins_ng}
use Rattle.pcapng_io.specs.declared.any.AnyStarted.{AnyStarted}
use Rattle.pcapng_io.proofs.Formats.{begins-front, header-front, starts_any, takes_start}
use Rattle.pcapng_io.proofs.any.open_capture.Goals as goal

pub returns-in_default-fill_behind-clause-taken : goal.returns-in_default-fill_behind-clause-taken
returns-in_default-fill_behind-clause-taken g c =
    (_, g.met.S.Source.reads_more _ _ _ _ _ c.in-Some.ensures.taken c.in_default-fill_behind.ensures.taken.1)

pub returns-then-is_section_type-clause-shows : goal.returns-then-is_section_type-clause-shows
returns-then-is_section_type-clause-shows g c = λ p h.
    let first = take c.in-Some.had c.fill_piece.new.piece in
    let middle = g.S.Source.remains p c.fill_piece.new.source in
    ap begins_ng (g.met.S.Source.reads_shown p _ _ _ h c.in-Some.ensures.taken)
    ∙ begins-front first middle (λ few. c.in-Some.ensures.runs_out p h
    (grind (arith, common_steps, length-take c.in-Some.had c.fill_piece.new.piece, c.fill_piece.auto.piece, few)))
    ∙ sym c.is_section_type.ensures
    ∙ c.if-is_section_type.true

pub returns-clause-shows : goal.returns-clause-shows
returns-clause-shows g c = λ p h.
    let first = take c.in-Some.had c.fill_piece.new.piece in
    let head = take c.in-Some-fill_behind.had c.fill_behind.new.piece in
    let more = c.in-Some-fill_behind.ensures.taken in
    let before = g.met.S.Source.reads_before p _ _ _ h more.1 in
    let left = g.S.Source.remains p c.args.source.now in
    let middle = g.S.Source.remains p c.fill_piece.new.source in
    let rest = g.S.Source.remains p c.fill_behind.new.source in
    let front : left ≡ first ++ middle = g.met.S.Source.reads_shown p _ _ _ before c.in-Some.ensures.taken in
    let behind : middle ≡ more.0 ++ rest = g.met.S.Source.reads_shown p _ _ _ h more.1 in
    let whole : left ≡ head ++ rest =
    front ∙ ap (λ l. first ++ l) behind ∙ sym (append_assoc first more.0 rest) ∙ ap (λ l. l ++ rest) more.2 in
    let other : begins_ng left ≡ false =
    ap begins_ng front
    ∙ begins-front first middle (λ few. c.in-Some.ensures.runs_out p before
    (grind (arith, common_steps, length-take c.in-Some.had c.fill_piece.new.piece, c.fill_piece.auto.piece, few)))
    ∙ sym c.is_section_type.ensures
    ∙ c.if-is_section_type.false in
    let same : header_fault left ≡ header_fault head =
    ap header_fault whole
    ∙ header-front head rest
    (omega (arith, length-take c.in-Some-fill_behind.had c.fill_behind.new.piece, c.fill_behind.auto.piece))
    (λ few. c.in-Some-fill_behind.ensures.runs_out p h (grind (
      arith,
      common_steps,
      length-take c.in-Some-fill_behind.had c.fill_behind.new.piece,
      c.fill_behind.auto.piece,
      few,
    ))) in
    let Starts : AnyStarted → Type 0 = λ answer. StartsAny left answer in
    subst Starts (sym c.of-2.ensures)
    (starts_any left head c.start_savefile.result other same c.start_savefile.ensures.told)

pub returns-clause-taken : goal.returns-clause-taken
returns-clause-taken g c =
    let first = take c.in-Some.had c.fill_piece.new.piece in
    let head = take c.in-Some-fill_behind.had c.fill_behind.new.piece in
    let more = c.in-Some-fill_behind.ensures.taken in
    let Taken : List ℕ → Type 0 = λ l. g.S.Source.reads c.args.source.now l c.fill_behind.new.source in
    let all : g.S.Source.reads c.args.source.now head c.fill_behind.new.source =
    subst Taken more.2 (g.met.S.Source.reads_more _ _ _ _ _ c.in-Some.ensures.taken more.1) in
    let Starts : AnyStarted → Type 0 =
    λ answer. TakesStart g.S.Source.reads answer c.args.source.now c.fill_behind.new.source in
    subst Starts (sym c.of-2.ensures) (takes_start g.S.Source.reads c.args.source.now c.fill_behind.new.source head
    c.start_savefile.result all c.start_savefile.ensures.header c.start_savefile.ensures.fresh)
