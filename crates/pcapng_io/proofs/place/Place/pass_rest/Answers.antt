use Rattle.std.proofs.Common.{length, ap, ◌∙◌, arith, length-append}
use Rattle.std.proofs.lemmas.Grind.{common_steps}
use Rattle.pcapng_io.proofs.place.Place.pass_rest.Goals as goal

pub returns-then-had-room-clause-shows : goal.returns-then-had-room-clause-shows
returns-then-had-room-clause-shows g c p h =
    let taken = c.in-Some.ensures.taken in
    let rest = g.S.Source.remains p c.read_past.new.source in
    let left = ap length (g.met.S.Source.reads_shown p _ _ _ h taken.1) ∙ length-append taken.0 rest in
    let had = taken.2 in
    grind (arith, common_steps, left, had)

pub returns-then-had-rest-clause-shows : goal.returns-then-had-rest-clause-shows
returns-then-had-rest-clause-shows g c p h =
    let taken = c.in-Some.ensures.taken in
    let rest = g.S.Source.remains p c.read_past.new.source in
    let left = ap length (g.met.S.Source.reads_shown p _ _ _ h taken.1) ∙ length-append taken.0 rest in
    let had = taken.2 in
    let none = ap length (c.in-Some.ensures.runs_out p h (grind (arith, common_steps))) in
    grind (arith, common_steps, left, had, none)

pub returns-else-had-rest-clause-shows : goal.returns-else-had-rest-clause-shows
returns-else-had-rest-clause-shows g c p h =
    let taken = c.in-Some.ensures.taken in
    let rest = g.S.Source.remains p c.read_past.new.source in
    let left = ap length (g.met.S.Source.reads_shown p _ _ _ h taken.1) ∙ length-append taken.0 rest in
    let had = taken.2 in
    grind (arith, common_steps, left, had)
