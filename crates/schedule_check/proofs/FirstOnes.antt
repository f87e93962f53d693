-- The steps of matching: a table that counts what is left for the packets, and the first packet for which nothing is
-- left.
use Rattle.std.proofs.Common.{◌≡◌, ℕ, zero, suc, ◌+◌, ◌-◌, ◌<◌, ◌≤◌, ◌⊎◌, inl, inr, arith, Bool, true, false, List, []}
use Rattle.std.proofs.Common.{◌∷◌, length, take, drop, get_or, refl, sym, ap, ◌∙◌, cond, Some}
use Rattle.std.specs.Prelude.{slice_get}
use Rattle.std.proofs.lemmas.Bool.{cases_lt}
use Rattle.std.proofs.lemmas.List.{take_all}
use Rattle.std.proofs.lemmas.Option.{slice_get-get_or}
use Rattle.indexmap.specs.IndexMap.{insert_entry}
use Rattle.plain_text.specs.declared.packet.Packet.{Packet}
use Rattle.plain_text.specs.declared.packet.Unit.{Unit as FractionUnit}
use Rattle.plain_machine.specs.declared.emission.Emission.{Emission}
use Rattle.schedule_check.specs.declared.content.Content.{Content}
use Rattle.schedule_check.specs.Contents.{same_content}
use Rattle.schedule_check.specs.Counting.{IsContentOf, same, one_if, packets_like, sent_like, count_under, count_in}
use Rattle.schedule_check.specs.Unmatched.{IsUnmatched, FirstUnmatched}
use Rattle.schedule_check.proofs.Alike.{same_self, content_is}
use Rattle.schedule_check.proofs.Tables.{under_content, in_alike, in_set}
use Rattle.schedule_check.proofs.Counted.{many_take, many_drop, many_first, many_within, many_length, packets_alike}
use Rattle.schedule_check.proofs.Counted.{sent_alike, packet_count, packet_count_there, emission_count}
use Rattle.schedule_check.proofs.Counted.{emission_count_there}
use Rattle.recovery_world.specs.Matching.{IsMatched}

abbrev Table : Type 0
Table = List (Content × ℕ)

-- Counting the emissions

-- the table has the emissions before this place
abbrev pub AreCounted : FractionUnit → List Emission → ℕ → Table → Type 0
AreCounted v sent i counts =
    (w : FractionUnit) (q : Packet) → count_in w q counts + sent_like w q v (drop i sent) ≡ sent_like w q v sent

module _ (v : FractionUnit) (sent : List Emission) (i : ℕ) (o : Emission) (less : i < length sent)
    (is : o ≡ get_or sent i o) (c : Content) (content : IsContentOf v o.packet c) (counts : Table)
    (have : AreCounted v sent i counts) (n : ℕ) (found : n ≡ count_under (same_content c) counts) where
  counted_now : n ≡ count_in v o.packet counts
  counted_now = found ∙ under_content v o.packet c counts content

  -- one more is no more than there are
  pub count_fits : n + 1 ≤ length sent
  count_fits =
      let h = have v o.packet in
      let behind = many_drop (λ (x : Emission). same v o.packet v x.packet) sent i o less is in
      let one : one_if (same v o.packet v o.packet) ≡ 1 = ap one_if (same_self v o.packet) in
      let all = many_length (λ (x : Emission). same v o.packet v x.packet) sent in
      let now = counted_now in
      omega arith

  pub count_more : (new : Table) → new ≡ insert_entry same_content counts c (n + 1) → AreCounted v sent (i + 1) new
  count_more new set w q =
      let grown : count_in w q new ≡ cond (same w q v o.packet) (n + 1) (count_in w q counts) =
      ap (λ (t : Table). count_in w q t) set
      ∙ (in_set w q c (n + 1) counts
      ∙ ap (λ (b : Bool). cond b (n + 1) (count_in w q counts)) (content_is w q v o.packet c content)) in
      by (same w q v o.packet) refl grown (many_drop (λ (x : Emission). same w q v x.packet) sent i o less is)
    where
      by : (b : Bool) → same w q v o.packet ≡ b → count_in w q new ≡ cond b (n + 1) (count_in w q counts)
          → sent_like w q v (drop i sent) ≡ one_if b + sent_like w q v (drop (i + 1) sent)
          → count_in w q new + sent_like w q v (drop (i + 1) sent) ≡ sent_like w q v sent
      by true e grown behind =
          let h = have w q in
          let alike : count_in w q counts ≡ n = in_alike w q v o.packet counts e ∙ sym counted_now in
          omega arith
      by false e grown behind = let h = have w q in omega arith

-- Taking the packets

-- what the table has left, and the packets before this place, are the emissions
abbrev pub AreLeft : FractionUnit → List Packet → FractionUnit → List Emission → ℕ → Table → Type 0
AreLeft u packets v sent i left =
    (q : Packet) → count_in u q left + packets_like u q (take i packets) ≡ sent_like u q v sent

module _ (u : FractionUnit) (packets : List Packet) (v : FractionUnit) (sent : List Emission) where
  -- the packets before this place are matched
  abbrev pub AreWithin : ℕ → Type 0
  AreWithin i = (q : Packet) → packets_like u q (take i packets) ≤ sent_like u q v sent

  pub within_left : (i : ℕ) (left : Table) → AreLeft u packets v sent i left → AreWithin i
  within_left i left have q = let h = have q in omega arith

  pub first_is : (i : ℕ) (p : Packet) → i < length packets → p ≡ get_or packets i p → AreWithin i
      → sent_like u p v sent ≤ packets_like u p (take i packets) → FirstUnmatched u packets v sent (i + 1)
  first_is i p less is within none = record { unmatched = here; first = first }
    where
      here : IsUnmatched u packets v sent (i + 1)
      here = record {
        packet = p;
        stands =
            let at : i + 1 - 1 ≡ i = omega arith in
            ap (slice_get packets) at ∙ (slice_get-get_or packets i p less ∙ ap Some (sym is));
        alike = packets_like u p (take (i + 1) packets);
        alike_sent = sent_like u p v sent;
        counted = packet_count_there u p (take (i + 1) packets);
        counted_sent = emission_count_there u p v sent;
        more =
            let grown = many_take (same u p u) packets i p less is in
            let one : one_if (same u p u p) ≡ 1 = ap one_if (same_self u p) in
            omega arith;
      }

      first : (j : ℕ) → IsUnmatched u packets v sent j → i + 1 ≤ j
      first j h = by (cases_lt i j)
        where
          by : (i < j) ⊎ (j ≤ i) → i + 1 ≤ j
          by (inl later) = omega arith
          by (inr earlier) =
              let a = packet_count u h.packet (take j packets) h.alike h.counted in
              let b = emission_count u h.packet v sent h.alike_sent h.counted_sent in
              let fewer = many_first (same u h.packet u) packets j i earlier in
              let enough = within h.packet in
              let more = h.more in
              absurd (omega arith)

  pub all_matched : (i : ℕ) → length packets ≤ i → AreWithin i → IsMatched u packets v sent
  all_matched i all within p k n counted counted_sent =
      let a = packet_count u p packets k counted in
      let b = emission_count u p v sent n counted_sent in
      let whole : packets_like u p (take i packets) ≡ packets_like u p packets =
      ap (packets_like u p) (take_all i packets all) in
      let enough = within p in
      omega arith

  pub none_unmatched : (i : ℕ) → IsMatched u packets v sent → FirstUnmatched u packets v sent i → ⊥
  none_unmatched i matched f =
      let h = f.unmatched in
      let a = packet_count u h.packet (take i packets) h.alike h.counted in
      let b = emission_count u h.packet v sent h.alike_sent h.counted_sent in
      let part = many_within (same u h.packet u) packets i in
      let enough = matched h.packet (packets_like u h.packet packets) (sent_like u h.packet v sent)
      (packet_count_there u h.packet packets) (emission_count_there u h.packet v sent) in
      let more = h.more in
      absurd (omega arith)

  pub one_first : (i j : ℕ) → FirstUnmatched u packets v sent i → FirstUnmatched u packets v sent j → i ≡ j
  one_first i j f g = let a = f.first j g.unmatched in let b = g.first i f.unmatched in omega arith

  -- one packet more is matched where an emission is left for it
  within_more : (i : ℕ) (p : Packet) → i < length packets → p ≡ get_or packets i p → AreWithin i
      → packets_like u p (take i packets) < sent_like u p v sent → AreWithin (i + 1)
  within_more i p less is within some q = by (same u q u p) refl (many_take (same u q u) packets i p less is)
    where
      by : (b : Bool) → same u q u p ≡ b
          → packets_like u q (take (i + 1) packets) ≡ packets_like u q (take i packets) + one_if b
          → packets_like u q (take (i + 1) packets) ≤ sent_like u q v sent
      by true e grown =
          let a = packets_alike u q u p (take i packets) u e in
          let b = sent_alike u q u p v sent e in
          omega arith
      by false e grown = let enough = within q in omega arith

  abbrev Found : Type 0
  Found = IsMatched u packets v sent ⊎ ((i : ℕ) × FirstUnmatched u packets v sent i)

  none_packet : Packet
  none_packet = record { seconds = 0; fraction = 0; original = 0; bytes = [] }

  find_from : (rest i : ℕ) → i + rest ≡ length packets → AreWithin i → Found
  find_from zero i all within = inl (all_matched i (omega arith) within)
  find_from (suc rest) i all within =
      by (cases_lt (packets_like u p (take i packets)) (sent_like u p v sent)) (find_from rest (i + 1))
    where
      p : Packet
      p = get_or packets i none_packet

      less : i < length packets
      less = omega arith

      is : p ≡ get_or packets i p
      is = sym (get_any packets i none_packet p less)
        where
          get_any : (xs : List Packet) (k : ℕ) (d e : Packet) → k < length xs → get_or xs k e ≡ get_or xs k d
          get_any [] k d e few = absurd (omega arith)
          get_any (x ∷ xs) zero d e few = refl
          get_any (x ∷ xs) (suc k) d e few = get_any xs k d e (omega arith)

      by : (packets_like u p (take i packets) < sent_like u p v sent)
          ⊎ (sent_like u p v sent ≤ packets_like u p (take i packets))
          → (i + 1 + rest ≡ length packets → AreWithin (i + 1) → Found) → Found
      by (inl some) later = later (omega arith) (within_more i p less is within some)
      by (inr none) later = inr (i + 1, first_is i p less is within none)

  -- they are matched, or one is the first that is not
  pub found : Found
  found = find_from (length packets) 0 (omega arith) (λ q. omega arith)

  module _ (i : ℕ) (p : Packet) (less : i < length packets) (is : p ≡ get_or packets i p) (c : Content)
      (content : IsContentOf u p c) (left : Table) (have : AreLeft u packets v sent i left) (n : ℕ)
      (there : n ≡ count_under (same_content c) left) where
    left_now : n ≡ count_in u p left
    left_now = there ∙ under_content u p c left content

    -- nothing is left for the packet
    pub none_left : n ≡ 0 → FirstUnmatched u packets v sent (i + 1)
    none_left zero_left =
        first_is i p less is (within_left i left have) (let h = have p in let now = left_now in omega arith)

    -- one is taken for it
    pub one_taken : (n ≡ 0 → ⊥) → (new : Table) → new ≡ insert_entry same_content left c (n - 1)
        → AreLeft u packets v sent (i + 1) new
    one_taken some new set q =
        let fewer : count_in u q new ≡ cond (same u q u p) (n - 1) (count_in u q left) =
        ap (λ (t : Table). count_in u q t) set
        ∙ (in_set u q c (n - 1) left
        ∙ ap (λ (b : Bool). cond b (n - 1) (count_in u q left)) (content_is u q u p c content)) in
        by (same u q u p) refl fewer (many_take (same u q u) packets i p less is)
      where
        by : (b : Bool) → same u q u p ≡ b → count_in u q new ≡ cond b (n - 1) (count_in u q left)
            → packets_like u q (take (i + 1) packets) ≡ packets_like u q (take i packets) + one_if b
            → count_in u q new + packets_like u q (take (i + 1) packets) ≡ sent_like u q v sent
        by true e fewer grown =
            let h = have q in
            let alike : count_in u q left ≡ n = in_alike u q u p left e ∙ sym left_now in
            omega arith
        by false e fewer grown = let h = have q in omega arith
