use Rattle.std.proofs.Common.{ap, sym, ◌∙◌, ◌≡◌, ◌-◌, ℕ, List, drop, length, take}
use Rattle.std.specs.Prelude.{min}
use Rattle.std.proofs.lemmas.List.{length-map, take_min, take_rest}
use Rattle.plain_machine.specs.declared.schedule.PackedMove.{PackedMove}
use Rattle.plain_machine.specs.Packed.{answers_before, moves_of, unpacked}
use Rattle.plain_machine.proofs.PackedMoves.{kept_moves, kept_rise}
use Rattle.plain_machine.proofs.schedule.Schedule.truncate.Goals as goal

-- those that are not kept are the others of all
rest_is : (xs ys : List PackedMove) (n most count k : ℕ) → ys ≡ xs
    → most ≡ answers_before count (take (length ys - k) (drop k ys))
    → count ≡ n → most ≡ answers_before n (drop k xs)
rest_is xs ys n most count k same is many =
    is ∙ ap (λ m. answers_before m (take (length ys - k) (drop k ys))) many
    ∙ ap (answers_before n) (take_rest ys k ∙ ap (drop k) same)

pub invariant_of-self : goal.invariant_of-self
invariant_of-self c =
    let most : c.answers_before-answers.result
    ≡ answers_before (length c.self.inside.answers) (drop c.min-kept.result c.self.inside.packed) =
    rest_is c.self.inside.packed c.as_slice.result.now (length c.self.inside.answers) _ c.len-2.result
    c.min-kept.result c.as_slice.ensures c.answers_before-answers.ensures c.len-2.ensures in
    rw c.truncate-2.ensures (rw c.truncate.ensures (rw most
    (kept_rise c.self.inside.answers c.self.inside.packed c.self.invariant c.min-kept.result)))

pub returns : goal.returns
returns c =
    let answers = c.self.inside.answers in
    let packed = c.self.inside.packed in
    let most : c.answers_before-answers.result
    ≡ answers_before (length answers) (drop c.min-kept.result packed) =
    rest_is packed c.as_slice.result.now (length answers) _ c.len-2.result c.min-kept.result c.as_slice.ensures
    c.answers_before-answers.ensures c.len-2.ensures in
    let long : length (moves_of answers packed) ≡ length packed = length-map packed (unpacked answers) in
    let kept : c.min-kept.result ≡ min c.args.count (length (moves_of answers packed)) =
    c.min-kept.ensures ∙ ap (min c.args.count) (c.len.ensures ∙ sym long) in
    ap (moves_of c.truncate.new.self) c.truncate-2.ensures
    ∙ ap (λ l. moves_of l (take c.min-kept.result packed)) (c.truncate.ensures ∙ ap (λ n. take n answers) most)
    ∙ kept_moves answers packed c.self.invariant c.min-kept.result
    ∙ ap (λ n. take n (moves_of answers packed)) kept ∙ take_min c.args.count (moves_of answers packed)
    ∙ ap (take c.args.count) c.self.view_is
