-- A sealed text opens to what stands after the line of its seal.
use Rattle.std.proofs.Common.{◌≡◌, ℕ, zero, suc, ◌++◌, ◌∙◌, List, [], ◌∷◌, Bool, true, false, Option, Some, None}
use Rattle.std.proofs.Common.{append_assoc, ap, refl, subst, sym}
use Rattle.std.specs.Prelude.{◌/◌, ◌%◌, ◌==◌, ◌↔◌, ◌≢◌, codes, cond, drop, length, slice_index}
use Rattle.std.specs.List.{starts_with}
use Rattle.std.proofs.lemmas.Bool.Decides.{Decides-eqb}
use Rattle.std.proofs.lemmas.Slice.Eq.{starts_is}
use Rattle.hex.specs.Hex.{encode_lower, encode_with, lower_digits}
use Rattle.handover_seal.specs.declared.seal.Seal.{Seal}
use Rattle.handover_seal.specs.declared.seal.SealFault.TheVariants.{OtherBox, OtherCapture}
use Rattle.handover_seal.specs.Seals.{IsOfSeal, after_line, front_line, heading, is_sealed, seal_fault, seal_line}
use Rattle.handover_seal.specs.Seals.{unsealed}

-- no digit is a line feed
no_feed : (k : ℕ) → (slice_index lower_digits k == 10) ≡ false
no_feed zero = refl
no_feed (suc zero) = refl
no_feed (suc (suc zero)) = refl
no_feed (suc (suc (suc zero))) = refl
no_feed (suc (suc (suc (suc zero)))) = refl
no_feed (suc (suc (suc (suc (suc zero))))) = refl
no_feed (suc (suc (suc (suc (suc (suc zero)))))) = refl
no_feed (suc (suc (suc (suc (suc (suc (suc zero))))))) = refl
no_feed (suc (suc (suc (suc (suc (suc (suc (suc zero)))))))) = refl
no_feed (suc (suc (suc (suc (suc (suc (suc (suc (suc zero))))))))) = refl
no_feed (suc (suc (suc (suc (suc (suc (suc (suc (suc (suc zero)))))))))) = refl
no_feed (suc (suc (suc (suc (suc (suc (suc (suc (suc (suc (suc zero))))))))))) = refl
no_feed (suc (suc (suc (suc (suc (suc (suc (suc (suc (suc (suc (suc zero)))))))))))) = refl
no_feed (suc (suc (suc (suc (suc (suc (suc (suc (suc (suc (suc (suc (suc zero))))))))))))) = refl
no_feed (suc (suc (suc (suc (suc (suc (suc (suc (suc (suc (suc (suc (suc (suc zero)))))))))))))) = refl
no_feed (suc (suc (suc (suc (suc (suc (suc (suc (suc (suc (suc (suc (suc (suc (suc zero))))))))))))))) = refl
no_feed (suc (suc (suc (suc (suc (suc (suc (suc (suc (suc (suc (suc (suc (suc (suc (suc k)))))))))))))))) = refl

past : (b : ℕ) (rest : List ℕ) → (b == 10) ≡ false → after_line (b ∷ rest) ≡ after_line rest
past b rest e = ap (λ (t : Bool). cond t (b ∷ rest) (after_line rest)) e

past_digits : (bytes rest : List ℕ) → after_line (encode_lower bytes ++ rest) ≡ after_line rest
unfolding encode_with
past_digits [] rest = refl
past_digits (b ∷ bytes) rest =
    past (slice_index lower_digits (b / 16)) _ (no_feed (b / 16))
    ∙ past (slice_index lower_digits (b % 16)) _ (no_feed (b % 16))
    ∙ past_digits bytes rest

pub opens : (seal : Seal) (text : List ℕ) → unsealed (seal_line seal ++ text) ≡ 10 ∷ text
opens seal text =
    ap (λ (l : List ℕ). after_line l) (
    append_assoc (encode_lower seal.box_file ++ codes " " ++ encode_lower seal.packets) (10 ∷ []) text
    ∙ append_assoc (encode_lower seal.box_file ++ codes " ") (encode_lower seal.packets) (10 ∷ text)
    ∙ append_assoc (encode_lower seal.box_file) (codes " ") (encode_lower seal.packets ++ 10 ∷ text))
    ∙ past_digits seal.box_file (32 ∷ (encode_lower seal.packets ++ 10 ∷ text))
    ∙ past_digits seal.packets (10 ∷ text)

-- What a text begins with

begins : (text front : List ℕ) → starts_with ◌==◌ text front ≡ true → text ≡ front ++ drop (length front) text
begins text front e = (starts_is Decides-eqb text front (starts_with ◌==◌ text front) refl).0 e

begun : (text front rest : List ℕ) → text ≡ front ++ rest → starts_with ◌==◌ text front ≡ true
begun text front rest e = (starts_is Decides-eqb text front (starts_with ◌==◌ text front) refl).1 rest e

pub one_seal : (seal : Option Seal) (text : List ℕ) → (seal_fault seal text ≡ None) ↔ IsOfSeal seal text
one_seal None text = by (is_sealed text) refl
  where
    by : (b : Bool) → is_sealed text ≡ b → (cond b (Some OtherBox) None ≡ None) ↔ (¬ (is_sealed text ≡ true))
    by true e = (λ h. absurd (cc), λ n. absurd (n e))
    by false e = (λ h t. let bad : true ≡ false = sym t ∙ e in cc, λ n. refl)
one_seal (Some seal) text =
    by (starts_with ◌==◌ text (front_line seal.box_file)) (starts_with ◌==◌ text (seal_line seal)) refl refl
  where
    by : (a b : Bool) → starts_with ◌==◌ text (front_line seal.box_file) ≡ a
        → starts_with ◌==◌ text (seal_line seal) ≡ b
        → (cond a (cond b None (Some OtherCapture)) (Some OtherBox) ≡ None) ↔ IsOfSeal (Some seal) text
    by true true e f = (
      λ h. (drop (length (seal_line seal)) text, begins text (seal_line seal) f),
      λ r. refl,
    )
    by true false e f = (
      λ h. absurd (cc),
      λ r. let t = begun text (seal_line seal) r.0 r.1 in let bad : true ≡ false = sym t ∙ f in absurd (cc),
    )
    by false b e f = (
      λ h. absurd (cc),
      λ r.
          let t = begun text (front_line seal.box_file) (encode_lower seal.packets ++ 10 ∷ [] ++ r.0) (
          r.1
          ∙ append_assoc (front_line seal.box_file ++ encode_lower seal.packets) (10 ∷ []) r.0
          ∙ append_assoc (front_line seal.box_file) (encode_lower seal.packets) (10 ∷ r.0)
          ∙ ap (λ l. front_line seal.box_file ++ l) (sym (append_assoc (encode_lower seal.packets) (10 ∷ []) r.0))) in
          let bad : true ≡ false = sym t ∙ e in absurd (cc),
    )
