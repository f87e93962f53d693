use Rattle.std.proofs.Common.{◌≡◌, ◌-◌, ◌++◌, length, take, drop, sym, ap, ◌∙◌, arith}
use Rattle.std.proofs.lemmas.Grind.{common_steps}
use Rattle.std.proofs.lemmas.List.{take_at}
use Rattle.world_io.proofs.Filling.{take-put_mid_more}
use Rattle.world_io.proofs.piece.fill_behind.Goals as goal

pub returns-in-Some-clause-taken : goal.returns-in-Some-clause-taken
returns-in-Some-clause-taken g c =
    let first = c.args.first.now in
    let copied = c.copy_from_slice.new.self in
    let rest = drop (length first) c.args.piece.now in
    let same : copied ≡ first = c.copy_from_slice.ensures.after in
    let front : take (length first) (copied ++ rest) ≡ first =
    take_at copied rest (length first) (ap length same) ∙ same in (
      take c.in-Some.had c.fill_piece.new.piece,
      c.in-Some.ensures.taken,
      sym (take-put_mid_more (length first) (length (copied ++ rest) - length first) c.in-Some.had (copied ++ rest)
          c.fill_piece.new.piece (grind (arith, common_steps, c.copy_from_slice.auto.self, ap length same))
          c.in-Some.ensures.within
          ∙ ap (λ l. l ++ take c.in-Some.had c.fill_piece.new.piece) front),
    )
