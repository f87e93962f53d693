-- The text that is put together from the lines of an image, list by list, is the text of the image.
use Rattle.std.proofs.Common.{◌≡◌, ℕ, ◌+◌, ◌<◌, List, [], ◌∷◌, ◌++◌, length, take, get_or, sym, ap, ◌∙◌}
use Rattle.std.proofs.Common.{append_assoc}
use Rattle.std.specs.Prelude.{All, codes, decimal, map}
use Rattle.std.specs.List.{flat_map}
use Rattle.std.proofs.lemmas.Grind.{flat_map-append}
use Rattle.std.proofs.lemmas.List.{flat_map_more, take_more}
use Rattle.std.proofs.lemmas.List.Elements.{All-cons, All-append, All-map}
use Rattle.std.proofs.lemmas.List.Folds.{flat_map-map}
use Rattle.plain_text.specs.LineFiles.{text_of}
use Rattle.plain_machine.specs.declared.plain_move.PlainMove.{PlainMove}
use Rattle.handover.specs.declared.image.Ended.{Ended}
use Rattle.handover.specs.declared.image.Image.{Image}
use Rattle.handover.specs.declared.line.ImageLine.{ImageLine}
use Rattle.handover.specs.declared.line.ImageLine.TheVariants as line
use Rattle.handover.specs.Images.{numbered, line_text, counts_of, lists_of, released_line, image_text}
use Rattle.handover.specs.Images.{FitsLine, FitsImage}

-- one number more
pub numbers_more : (start word numbers before blank after : List ℕ) (i n : ℕ) → i < length numbers
    → before ≡ start ++ (word ++ numbered (take i numbers)) → blank ≡ before ++ 32 ∷ [] → after ≡ blank ++ decimal n
    → n ≡ get_or numbers i 0 → after ≡ start ++ (word ++ numbered (take (i + 1) numbers))
numbers_more start word numbers before blank after i n within so_far put ends is =
    let behind : ℕ → List ℕ = λ n. codes " " ++ decimal n in
    let so : List ℕ = numbered (take i numbers) in
    ends ∙ ap (λ (t : List ℕ). t ++ decimal n) put ∙ append_assoc before (32 ∷ []) (decimal n)
    ∙ ap (λ (t : List ℕ). t ++ behind n) so_far
    ∙ append_assoc start (word ++ so) (behind n)
    ∙ ap (λ (t : List ℕ). start ++ t) (append_assoc word so (behind n))
    ∙ ap (λ (k : ℕ). start ++ (word ++ (so ++ behind k))) is
    ∙ ap (λ (t : List ℕ). start ++ (word ++ t)) (flat_map_more behind [] (take i numbers) (get_or numbers i 0))
    ∙ ap (λ (ns : List ℕ). start ++ (word ++ numbered ns)) (sym (take_more numbers i 0 within))

abbrev fed : ImageLine → List ℕ
fed ln = line_text ln ++ codes "\n"

pub whole_text : (image : Image) (a b c d ended released moves : List ℕ)
    → a ≡ text_of line_text (line.Heading ∷ counts_of image ∷ [])
    → ended ≡ text_of (λ (e : Ended). line_text (line.Ended e)) image.ended → b ≡ a ++ ended
    → released ≡ text_of (λ (r : ℕ × ℕ). line_text (released_line r)) image.released → c ≡ b ++ released
    → moves ≡ text_of (λ (m : PlainMove). line_text (line.Move m)) image.past → d ≡ c ++ moves
    → d ≡ image_text image
whole_text image a b c d ended released moves first es with_es rs with_rs ms with_ms =
    let ended2 : ended ≡ flat_map fed (map line.Ended image.ended) =
    es ∙ sym (flat_map-map fed line.Ended image.ended) in
    let released2 : released ≡ flat_map fed (map released_line image.released) =
    rs ∙ sym (flat_map-map fed released_line image.released) in
    let moves2 : moves ≡ flat_map fed (map line.Move image.past) =
    ms ∙ sym (flat_map-map fed line.Move image.past) in
    with_ms
    ∙ ap (λ (t : List ℕ). t ++ moves) with_rs
    ∙ append_assoc b released moves
    ∙ ap (λ (t : List ℕ). t ++ (released ++ moves)) with_es
    ∙ append_assoc a ended (released ++ moves)
    ∙ ap (λ (t : List ℕ). t ++ (ended ++ (released ++ moves))) first
    ∙ ap (λ (t : List ℕ). text_of line_text (line.Heading ∷ counts_of image ∷ []) ++ (t ++ (released ++ moves))) ended2
    ∙ ap (λ (t : List ℕ). text_of line_text (line.Heading ∷ counts_of image ∷ [])
    ++ (flat_map fed (map line.Ended image.ended) ++ (t ++ moves))) released2
    ∙ ap (λ (t : List ℕ). text_of line_text (line.Heading ∷ counts_of image ∷ [])
    ++ (flat_map fed (map line.Ended image.ended) ++ (flat_map fed (map released_line image.released) ++ t))) moves2
    ∙ ap (λ (t : List ℕ). text_of line_text (line.Heading ∷ counts_of image ∷ [])
    ++ (flat_map fed (map line.Ended image.ended) ++ t))
    (sym (flat_map-append fed (map released_line image.released) (map line.Move image.past)))
    ∙ ap (λ (t : List ℕ). text_of line_text (line.Heading ∷ counts_of image ∷ []) ++ t)
    (sym (flat_map-append fed (map line.Ended image.ended)
    (map released_line image.released ++ map line.Move image.past)))
    ∙ sym (flat_map-append fed (line.Heading ∷ counts_of image ∷ [])
    (lists_of image.ended image.released image.past))

pub all_fit : (image : Image) → FitsLine (counts_of image)
    → All (λ (e : Ended). FitsLine (line.Ended e)) image.ended
    → All (λ (r : ℕ × ℕ). FitsLine (released_line r)) image.released
    → All (λ (m : PlainMove). FitsLine (line.Move m)) image.past → FitsImage image
all_fit image counts es rs ms =
    All-cons FitsLine line.Heading (counts_of image ∷ lists_of image.ended image.released image.past) tt
    (All-cons FitsLine (counts_of image) (lists_of image.ended image.released image.past) counts
    (All-append FitsLine (map line.Ended image.ended) (map released_line image.released ++ map line.Move image.past)
    (All-map FitsLine line.Ended image.ended es)
    (All-append FitsLine (map released_line image.released) (map line.Move image.past)
    (All-map FitsLine released_line image.released rs) (All-map FitsLine line.Move image.past ms))))
