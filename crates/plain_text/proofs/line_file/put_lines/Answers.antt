use Rattle.std.proofs.Common.{◌≡◌, ◌++◌, ◌+◌, ◌<◌, ◌∙◌, [], ℕ, List, length, take, get_or, ap, sym, subst, append_assoc}
use Rattle.std.specs.Prelude.{codes}
use Rattle.std.proofs.lemmas.List.{flat_map_more, take_more}
use Rattle.std.proofs.lemmas.List.Elements.{All-more}
use Rattle.plain_text.specs.LineFiles.{text_of}
use Rattle.plain_text.proofs.line_file.put_lines.Goals as goal

-- one more line
text_more : {A : Type 0} (line : A → List ℕ) (xs : List A) (i : ℕ) (d : A) (before put after : List ℕ)
    → i < length xs → before ≡ text_of line (take i xs) → put ≡ before ++ line (get_or xs i d)
    → after ≡ put ++ codes "\n" → after ≡ text_of line (take (i + 1) xs)
text_more {A} line xs i d before put after within so_far put_is ends =
    let fed : A → List ℕ = λ thing. line thing ++ codes "\n" in
    ends ∙ ap (λ t. t ++ codes "\n") put_is ∙ append_assoc before (line (get_or xs i d)) (codes "\n")
    ∙ ap (λ t. t ++ fed (get_or xs i d)) so_far ∙ flat_map_more fed [] (take i xs) (get_or xs i d)
    ∙ ap (text_of line) (sym (take_more xs i d within))

pub loop-thing-preserved : goal.loop-thing-preserved
loop-thing-preserved g c = record {
  text =
      text_more g.F.WrittenFile.line c.args.things.now c.loop-thing.thing-index c.thing-item.result c.loop-thing.text
      c.put_line.new.text c.push.new.self c.loop-thing-test.true c.loop-thing.invariant.text
      (c.in_ok-put_line.ensures.line ∙ ap (λ thing. c.loop-thing.text ++ g.F.WrittenFile.line thing) c.thing-item.is)
      c.in_ok-push.ensures.ok;
  fits = All-more g.F.WrittenFile.fits c.args.things.now c.loop-thing.thing-index c.thing-item.result
      c.loop-thing-test.true c.loop-thing.invariant.fits
      (subst g.F.WrittenFile.fits c.thing-item.is c.in_ok-put_line.ensures.fits);
}
