use Rattle.std.proofs.Common.{◌≡◌, ◌++◌, List, ℕ, take, sym, ap, subst, ◌∙◌, arith, append_assoc}
use Rattle.std.proofs.lemmas.Grind.{common_steps}
use Rattle.std.proofs.lemmas.List.{take_all, length-take}
use Rattle.std.specs.Prelude.{Err}
use Rattle.pcapng_io.specs.declared.place.Stop.TheVariants.{End}
use Rattle.pcapng_io.specs.Stops.{held_type, StopsHere}
use Rattle.pcapng_io.proofs.Takes.{takes_behind, held_nothing}
use Rattle.pcapng_io.proofs.place.Place.read_block.Goals as goal

pub returns-in-Ok-clause-taken : goal.returns-in-Ok-clause-taken
returns-in-Ok-clause-taken g c =
    let taken = c.in-Some.ensures.taken in
    let head = c.fill_behind.new.piece in
    let all = take_all c.in-Some.had head
    (grind (arith, common_steps, c.fill_behind.auto.piece, c.in-Ok.ensures.whole, c.in-Some.ensures.within)) in
    takes_behind g.S.Source.reads g.met.S.Source.reads_more _ taken.0 _ _ _ _ _
    (ap (λ l. l ++ taken.0) (sym c.held_type.ensures) ∙ taken.2 ∙ all) taken.1 c.read_rest.ensures.taken

pub returns-in-Err-clause-shows : goal.returns-in-Err-clause-shows
returns-in-Err-clause-shows g c = λ p h.
    let taken = c.in-Some.ensures.taken in
    let head = c.fill_behind.new.piece in
    let left = g.S.Source.remains p c.fill_behind.new.source in
    let parts : take c.in-Some.had head ++ left
    ≡ held_type c.args.self.typed ++ g.S.Source.remains p c.args.source.now =
    ap (λ l. l ++ left) (sym taken.2)
    ∙ ap (λ l. (l ++ taken.0) ++ left) c.held_type.ensures
    ∙ append_assoc (held_type c.args.self.typed) taken.0 left
    ∙ ap (λ l. held_type c.args.self.typed ++ l) (sym (g.met.S.Source.reads_shown p _ _ _ h taken.1)) in
    let Stops : List ℕ → Type 0 = λ bytes. StopsHere c.args.self bytes c.in-Err.why in
    subst Stops parts (c.in-Err.ensures.stops left (λ few. c.in-Some.ensures.runs_out p h
    (grind (arith, common_steps, length-take c.in-Some.had head, c.fill_behind.auto.piece, few))))

pub returns-in-Err-clause-ended : goal.returns-in-Err-clause-ended
returns-in-Err-clause-ended g c = λ ends.
    let taken = c.in-Some.ensures.taken in
    let same : c.in-Err.why ≡ End = cc in
    let none = held_nothing c.args.self.typed taken.0
    (ap (λ l. l ++ taken.0) (sym c.held_type.ensures) ∙ taken.2 ∙ c.in-Err.ensures.ended (ap Err same)) in
    let Taken : List ℕ → Type 0 = λ bytes. g.S.Source.reads c.args.source.now bytes c.fill_behind.new.source in
    (none.0, subst Taken none.1 taken.1)
