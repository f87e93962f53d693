-- What a count that is set makes of a table of contents, and what a look-up finds in it.
use Rattle.std.proofs.Common.{◌≡◌, ℕ, Bool, true, false, List, [], ◌∷◌, refl, sym, ◌∙◌, cond, Some, None, unwrap_or}
use Rattle.std.specs.Map.{lookup}
use Rattle.indexmap.specs.IndexMap.{insert_entry}
use Rattle.plain_text.specs.declared.packet.Packet.{Packet}
use Rattle.plain_text.specs.declared.packet.Unit.{Unit as FractionUnit}
use Rattle.schedule_check.specs.declared.content.Content.{Content}
use Rattle.schedule_check.specs.Contents.{same_content}
use Rattle.schedule_check.specs.Counting.{IsContentOf, is_content, same, count_under, count_in}
use Rattle.schedule_check.proofs.Alike.{content_to, content_of_packet, contents_to, contents_meet}

-- tests that agree find the same
under_alike : (f g : Content → Bool) → ((k : Content) → f k ≡ g k) → (es : List (Content × ℕ))
    → count_under f es ≡ count_under g es
under_alike f g alike [] = refl
under_alike f g alike (e ∷ es) = by (f e.0) (g e.0) (alike e.0) (under_alike f g alike es)
  where
    by : (a b : Bool) → a ≡ b → unwrap_or (lookup f es) 0 ≡ unwrap_or (lookup g es) 0
        → unwrap_or (cond a (Some e.1) (lookup f es)) 0 ≡ unwrap_or (cond b (Some e.1) (lookup g es)) 0
    by true true q behind = refl
    by false false q behind = behind
    by true false q behind = absurd (cc)
    by false true q behind = absurd (cc)

-- what is under the content of a packet is what is in the table for the packet
pub under_content : (u : FractionUnit) (p : Packet) (c : Content) (es : List (Content × ℕ)) → IsContentOf u p c
    → count_under (same_content c) es ≡ count_in u p es
under_content u p c es is = under_alike (same_content c) (is_content u p) (λ k. content_of_packet u p c k is) es

-- and so for packets that are the same
pub in_alike : (u : FractionUnit) (p : Packet) (v : FractionUnit) (q : Packet) (es : List (Content × ℕ))
    → same u p v q ≡ true → count_in u p es ≡ count_in v q es
in_alike u p v q es e = under_alike (is_content u p) (is_content v q) (λ k. content_to u p v q k e) es

-- a count that is set is that of the packets with its content, and the others stay
pub in_set : (u : FractionUnit) (p : Packet) (k : Content) (v : ℕ) (es : List (Content × ℕ))
    → count_in u p (insert_entry same_content es k v) ≡ cond (is_content u p k) v (count_in u p es)
in_set u p k v [] = by (is_content u p k)
  where
    by : (b : Bool) → unwrap_or (cond b (Some v) None) 0 ≡ cond b v 0
    by true = refl
    by false = refl
in_set u p k v (e ∷ es) = by (same_content k e.0) refl (in_set u p k v es)
  where
    set_here : (a b : Bool) → b ≡ a
        → unwrap_or (cond a (Some v) (lookup (is_content u p) es)) 0
        ≡ cond b v (unwrap_or (cond a (Some e.1) (lookup (is_content u p) es)) 0)
    set_here true true q = refl
    set_here false false q = refl
    set_here true false q = absurd (cc)
    set_here false true q = absurd (cc)

    Behind : Type 0
    Behind = count_in u p (insert_entry same_content es k v) ≡ cond (is_content u p k) v (count_in u p es)

    by : (b : Bool) → same_content k e.0 ≡ b → Behind
        → count_in u p (cond b ((e.0, v) ∷ es) (e ∷ insert_entry same_content es k v))
        ≡ cond (is_content u p k) v (count_in u p (e ∷ es))
    by true q behind = set_here (is_content u p e.0) (is_content u p k) (contents_to u p k e.0 q)
    by false q behind = kept (is_content u p e.0) refl
      where
        found : (b : Bool) → is_content u p k ≡ b → is_content u p e.0 ≡ true → e.1 ≡ cond b v e.1
        found true is at =
            absurd (let met = contents_meet u p k e.0 is at in let clash : true ≡ false = sym met ∙ q in cc)
        found false is at = refl

        kept : (a : Bool) → is_content u p e.0 ≡ a
            → unwrap_or (cond a (Some e.1) (lookup (is_content u p) (insert_entry same_content es k v))) 0
            ≡ cond (is_content u p k) v (unwrap_or (cond a (Some e.1) (lookup (is_content u p) es)) 0)
        kept true at = found (is_content u p k) refl at
        kept false at = behind
