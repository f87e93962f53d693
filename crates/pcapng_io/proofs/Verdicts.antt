-- Bytes have one verdict: a pcapng capture, a fault, or a limit that is passed.
use Rattle.std.proofs.Common.{◌≡◌, ℕ, ◌+◌, ◌-◌, ◌≤◌, ◌==◌, ◌&&◌, Bool, true, false, List, [], ◌∷◌, ◌++◌, length, drop}
use Rattle.std.proofs.Common.{Option, Some, None, refl, sym, ap, subst, ◌∙◌, arith, append_assoc, length-append}
use Rattle.std.specs.Prelude.{nat_lt, Result, Ok, is_some, option_to_list}
use Rattle.std.specs.List.{flat_map}
use Rattle.std.proofs.lemmas.Bool.{eqb-true}
use Rattle.std.proofs.lemmas.List.{drop_at, append-nil}
use Rattle.plain_text.specs.declared.limit.Limit.{Limit}
use Rattle.plain_text.specs.declared.packet.Packet.{Packet}
use Rattle.pcapng_io.specs.declared.block.Block.{Block}
use Rattle.pcapng_io.specs.declared.capture.AnyCaptured.{AnyCaptured}
use Rattle.pcapng_io.specs.declared.capture.AnyCaptured.TheVariants as any
use Rattle.pcapng_io.specs.declared.fault.AnyFault.TheVariants as fault
use Rattle.pcapng_io.specs.declared.fault.NgCause.{NgCause}
use Rattle.pcapng_io.specs.declared.fault.NgFault.{NgFault}
use Rattle.pcapng_io.specs.Blocks.{block_bytes, kind_of, gives_packet}
use Rattle.pcapng_io.specs.Capture.{Section, Follows, Lead, Passes, IsNg, IsNgFault, no_section, content_in}
use Rattle.pcapng_io.specs.Capture.{block_fault, framed_fault, content_fault}
use Rattle.pcapng_io.specs.Captured.{SaysNg, IsDecidedAny}
use Rattle.pcapng_io.specs.Contents.{Content}
use Rattle.pcapng_io.specs.Frames.{framed}
use Rattle.pcapng_io.specs.Limits.{limit_behind, shows_packet, PassesNgLimit}
use Rattle.pcapng_io.proofs.Blocks.{length-block_bytes}
use Rattle.pcapng_io.proofs.Frames.{and_false, limit_fits}
use Rattle.pcapng_io.proofs.Standing.{framed_block, block_limit, content_gives}

-- no block that gives at most this number of packets and has at most this number of bytes stands here
abbrev Stops : Section → ℕ → ℕ → List ℕ → Type 0
Stops s packets bytes rest =
    (b : Block) (packet : Option Packet) (t : Section) (more : List ℕ) → Follows s b packet t
    → rest ≡ block_bytes b ++ more → length (option_to_list packet) ≤ packets → length (block_bytes b) ≤ bytes → ⊥

same_content : (c d : Content) → ◌≡◌ {A = Result Content NgCause} (Ok c) (Ok d) → c ≡ d
same_content c d same = cc

-- bytes begin with at most one block
same_block : (s t u : Section) (b c : Block) (p q : Option Packet) (x y : List ℕ) → Follows s b p t → Follows s c q u
    → block_bytes b ++ x ≡ block_bytes c ++ y → (p ≡ q) × (t ≡ u) × (x ≡ y) × (block_bytes b ≡ block_bytes c)
same_block s t u b c p q x y first second same =
    let frames : ◌≡◌ {A = Result Block NgCause} (Ok b) (Ok c) =
    sym (framed_block s.order b x first.framed) ∙ ap (framed s.order) same ∙ framed_block s.order c y second.framed in
    let blocks : b ≡ c = cc in
    let contents =
    same_content (record { interfaces = t.interfaces; packet = p }) (record { interfaces = u.interfaces; packet = q })
    (sym first.content ∙ ap (content_in s) blocks ∙ second.content) in
    let packets : p ≡ q = ap (λ (d : Content). d.packet) contents in
    let interfaces : t.interfaces ≡ u.interfaces = ap (λ (d : Content). d.interfaces) contents in
    let orders : t.order ≡ u.order = first.order ∙ ap (λ (d : Block). d.order) blocks ∙ sym second.order in
    let made : ◌≡◌ {A = Section} (record { order = t.order; interfaces = t.interfaces })
    (record { order = u.order; interfaces = u.interfaces }) = rw (orders, interfaces) refl in
    let sizes : length (block_bytes b) ≡ length (block_bytes c) = ap (λ d. length (block_bytes d)) blocks in (
      packets,
      made,
      sym (drop_at (block_bytes b) x (length (block_bytes b)) refl) ∙ ap (drop (length (block_bytes b))) same
          ∙ ap (λ n. drop n (block_bytes c ++ y)) sizes ∙ drop_at (block_bytes c) y (length (block_bytes c)) refl,
      ap block_bytes blocks,
    )

-- two readings that stop where no other block within the same limits stands are one
same_place : (s t u : Section) (packets bytes : ℕ) (bs cs : List Block) (ps qs : List Packet) (x y : List ℕ)
    → Lead s bs ps t → Lead s cs qs u → length ps ≤ packets → length qs ≤ packets
    → length (flat_map block_bytes bs) ≤ bytes → length (flat_map block_bytes cs) ≤ bytes
    → Stops t (packets - length ps) (bytes - length (flat_map block_bytes bs)) x
    → Stops u (packets - length qs) (bytes - length (flat_map block_bytes cs)) y
    → flat_map block_bytes bs ++ x ≡ flat_map block_bytes cs ++ y → (ps ≡ qs) × (t ≡ u) × (x ≡ y)
same_place s t u packets bytes [] [] ps qs x y of_ps of_qs ps_count qs_count ps_size qs_size x_stops y_stops same =
    (of_ps.0 ∙ sym of_qs.0, of_ps.1 ∙ sym of_qs.1, same)
same_place s t u packets bytes [] (c ∷ cs) ps qs x y of_ps of_qs ps_count qs_count ps_size qs_size x_stops
    y_stops same =
    let size = length-append (block_bytes c) (flat_map block_bytes cs) in
    let none = ap length of_ps.0 in
    let given = ap length of_qs.5 ∙ length-append (option_to_list of_qs.0) of_qs.2 in
    let At : Section → Type 0 = λ v. Stops v (packets - length ps) (bytes - length (flat_map block_bytes [])) x in
    absurd (subst At of_ps.1 x_stops c of_qs.0 of_qs.1 (flat_map block_bytes cs ++ y) of_qs.3
    (same ∙ append_assoc (block_bytes c) (flat_map block_bytes cs) y) (omega (arith, none, given))
    (omega (arith, size)))
same_place s t u packets bytes (b ∷ bs) [] ps qs x y of_ps of_qs ps_count qs_count ps_size qs_size x_stops
    y_stops same =
    let size = length-append (block_bytes b) (flat_map block_bytes bs) in
    let none = ap length of_qs.0 in
    let given = ap length of_ps.5 ∙ length-append (option_to_list of_ps.0) of_ps.2 in
    let At : Section → Type 0 = λ v. Stops v (packets - length qs) (bytes - length (flat_map block_bytes [])) y in
    absurd (subst At of_qs.1 y_stops b of_ps.0 of_ps.1 (flat_map block_bytes bs ++ x) of_ps.3
    (sym same ∙ append_assoc (block_bytes b) (flat_map block_bytes bs) x) (omega (arith, none, given))
    (omega (arith, size)))
same_place s t u packets bytes (b ∷ bs) (c ∷ cs) ps qs x y of_ps of_qs ps_count qs_count ps_size qs_size x_stops
    y_stops same =
    let of_b = length-append (block_bytes b) (flat_map block_bytes bs) in
    let of_c = length-append (block_bytes c) (flat_map block_bytes cs) in
    let first = same_block s of_ps.1 of_qs.1 b c of_ps.0 of_qs.0 (flat_map block_bytes bs ++ x)
    (flat_map block_bytes cs ++ y) of_ps.3 of_qs.3
    (sym (append_assoc (block_bytes b) (flat_map block_bytes bs) x)
    ∙ same
    ∙ append_assoc (block_bytes c) (flat_map block_bytes cs) y) in
    let sizes : length (block_bytes b) ≡ length (block_bytes c) = ap length first.3 in
    let counts : length (option_to_list of_ps.0) ≡ length (option_to_list of_qs.0) =
    ap (λ p. length (option_to_list p)) first.0 in
    let given_b = ap length of_ps.5 ∙ length-append (option_to_list of_ps.0) of_ps.2 in
    let given_c = ap length of_qs.5 ∙ length-append (option_to_list of_qs.0) of_qs.2 in
    let From : Section → Type 0 = λ v. Lead v cs of_qs.2 u in
    let rest = same_place of_ps.1 t u (packets - length (option_to_list of_ps.0)) (bytes - length (block_bytes b)) bs cs
    of_ps.2 of_qs.2 x y of_ps.4 (subst From (sym first.1) of_qs.4) (omega (arith, given_b))
    (omega (arith, given_c, counts)) (omega (arith, of_b)) (omega (arith, of_c, sizes))
    (λ d p v more follows at fits room.
    x_stops d p v more follows at (omega (arith, fits, given_b)) (omega (arith, room, of_b)))
    (λ d p v more follows at fits room.
    y_stops d p v more follows at (omega (arith, fits, given_c, counts)) (omega (arith, room, of_c, sizes)))
    first.2 in (
      of_ps.5 ∙ ap (λ p. option_to_list p ++ of_ps.2) first.0 ∙ ap (λ l. option_to_list of_qs.0 ++ l) rest.0
          ∙ sym of_qs.5,
      rest.1,
      rest.2,
    )

stops_end : (s : Section) (packets bytes : ℕ) → Stops s packets bytes []
stops_end s packets bytes b packet t more follows is fits room =
    absurd (omega (arith, ap length is, length-append (block_bytes b) more, length-block_bytes b))

stops_fault : (s : Section) (packets bytes : ℕ) (rest : List ℕ) (cause : NgCause) → block_fault s rest ≡ Some cause
    → Stops s packets bytes rest
stops_fault s packets bytes rest cause faulty b packet t more follows is fits room =
    let none : block_fault s rest ≡ None =
    ap (block_fault s) is
    ∙ ap (framed_fault s) (framed_block s.order b more follows.framed)
    ∙ ap content_fault follows.content in
    cc

and_false_or : (a g : Bool) → (a ≡ true → g ≡ false) → a && g ≡ false
and_false_or true g f = f refl
and_false_or false g f = refl

some_length : (p : Option Packet) → length (option_to_list p) ≤ 0 → is_some p ≡ false
some_length None few = refl
some_length (Some p) few = absurd (omega arith)

stops_limit : (s : Section) (count offset : ℕ) (rest : List ℕ) (limit : Limit)
    → limit_behind s count offset rest ≡ Some limit → Stops s (65536 - count) (67108864 - offset) rest
stops_limit s count offset rest limit passed b packet t more follows is fits room =
    let gives = content_gives b.order s.interfaces (kind_of b.number) b.body
    (record { interfaces = t.interfaces; packet = packet }) follows.content in
    let few : (count == 65536) && gives_packet (kind_of b.number) ≡ false =
    and_false_or (count == 65536) (gives_packet (kind_of b.number))
    (λ full. sym gives ∙ some_length packet (omega (arith, fits, eqb-true count 65536 full))) in
    let none : limit_behind s count offset rest ≡ None =
    ap (limit_behind s count offset) is
    ∙ block_limit s.order (count == 65536) (67108864 - offset) b more follows.framed room few in
    cc

-- a reading within limits that stops where no other block within them stands
record Reads (packets bytes : ℕ) (all : List ℕ) (ps : List Packet) (s : Section) (passed rest : List ℕ) : Type 0 where
  passes : Passes no_section passed ps s
  parts : all ≡ passed ++ rest
  count : length ps ≤ packets
  size : length passed ≤ bytes
  stops : Stops s (packets - length ps) (bytes - length passed) rest

same_reading : (packets bytes : ℕ) (all : List ℕ) (ps qs : List Packet) (s t : Section) (p q x y : List ℕ)
    → Reads packets bytes all ps s p x → Reads packets bytes all qs t q y
    → (ps ≡ qs) × (s ≡ t) × (x ≡ y) × (length p ≡ length q)
same_reading packets bytes all ps qs s t p q x y a b =
    let sizes_a = ap length a.passes.parts in
    let sizes_b = ap length b.passes.parts in
    let Stop_a : ℕ → Type 0 = λ n. Stops s (packets - length ps) (bytes - n) x in
    let Stop_b : ℕ → Type 0 = λ n. Stops t (packets - length qs) (bytes - n) y in
    let same = same_place no_section s t packets bytes a.passes.blocks b.passes.blocks ps qs x y a.passes.lead
    b.passes.lead a.count b.count (omega (arith, a.size, sizes_a)) (omega (arith, b.size, sizes_b))
    (subst Stop_a sizes_a a.stops) (subst Stop_b sizes_b b.stops)
    (ap (λ l. l ++ x) (sym a.passes.parts) ∙ sym a.parts ∙ b.parts ∙ ap (λ l. l ++ y) b.passes.parts) in (
      same.0,
      same.1,
      same.2,
      omega (arith, ap length a.parts, ap length b.parts, length-append p x, length-append q y, ap length same.2),
    )

whole_parts : (all : List ℕ) → all ≡ all ++ []
whole_parts all = sym (append-nil all)

whole : (packets bytes : ℕ) (all : List ℕ) (ps : List Packet) (c : IsNg all ps) → length ps ≤ packets
    → length all ≤ bytes → Reads packets bytes all ps c.last all []
whole packets bytes all ps c count size =
    record { passes = c.passes; parts = whole_parts all; count = count; size = size; stops = stops_end c.last _ _ }

faulty : (packets bytes : ℕ) (all : List ℕ) (f : NgFault) (n : IsNgFault all f) → length n.before ≤ packets
    → length n.passed ≤ bytes → Reads packets bytes all n.before n.section n.passed n.rest
faulty packets bytes all f n count size = record {
  passes = n.reaches.passes;
  parts = n.reaches.parts;
  count = count;
  size = size;
  stops = stops_fault n.section _ _ n.rest f.cause n.faulty;
}

limited : (all : List ℕ) (l : Limit) (p : PassesNgLimit all l)
    → Reads 65536 67108864 all p.before p.section p.passed p.rest
limited all l p = record {
  passes = p.reaches.passes;
  parts = p.reaches.parts;
  count = p.count;
  size = p.size;
  stops = stops_limit p.section (length p.before) (length p.passed) p.rest l p.limited;
}

pub one_ng : (all : List ℕ) (ps qs : List Packet) → IsNg all ps → IsNg all qs → ps ≡ qs
one_ng all ps qs a b = (same_reading (length ps + length qs) (length all) all ps qs a.last b.last all all [] []
    (whole _ _ all ps a (omega arith) (omega arith)) (whole _ _ all qs b (omega arith) (omega arith))).0

pub ng_is_faultless : (all : List ℕ) (ps : List Packet) (f : NgFault) → IsNg all ps → IsNgFault all f → ⊥
ng_is_faultless all ps f a n =
    let same = same_reading (length ps + length n.before) (length all + length n.passed) all ps n.before a.last
    n.section all n.passed [] n.rest (whole _ _ all ps a (omega arith) (omega arith))
    (faulty _ _ all f n (omega arith) (omega arith)) in
    omega (arith, n.some, ap length same.2)

same_fault : (f g : NgFault) → f.offset ≡ g.offset → f.cause ≡ g.cause → f ≡ g
same_fault f g offset cause =
    let made :
    ◌≡◌ {A = NgFault} (record { offset = f.offset; cause = f.cause }) (record { offset = g.offset; cause = g.cause }) =
    rw (offset, cause) refl in
    made

pub one_ng_fault : (all : List ℕ) (f g : NgFault) → IsNgFault all f → IsNgFault all g → f ≡ g
one_ng_fault all f g m n =
    let same = same_reading (length m.before + length n.before) (length m.passed + length n.passed) all m.before
    n.before m.section n.section m.passed n.passed m.rest n.rest (faulty _ _ all f m (omega arith) (omega arith))
    (faulty _ _ all g n (omega arith) (omega arith)) in
    let causes : ◌≡◌ {A = Option NgCause} (Some f.cause) (Some g.cause) =
    sym m.faulty ∙ ap (λ s. block_fault s m.rest) same.1 ∙ ap (block_fault n.section) same.2 ∙ n.faulty in
    same_fault f g (m.place ∙ same.3 ∙ sym n.place) cc

pub one_ng_limit : (all : List ℕ) (l m : Limit) → PassesNgLimit all l → PassesNgLimit all m → l ≡ m
one_ng_limit all l m a b =
    let same = same_reading 65536 67108864 all a.before b.before a.section b.section a.passed b.passed a.rest b.rest
    (limited all l a) (limited all m b) in
    let both : ◌≡◌ {A = Option Limit} (Some l) (Some m) =
    sym a.limited ∙ ap (λ s. limit_behind s (length a.before) (length a.passed) a.rest) same.1
    ∙ ap (λ ps. limit_behind b.section (length ps) (length a.passed) a.rest) same.0
    ∙ ap (λ n. limit_behind b.section (length b.before) n a.rest) same.3
    ∙ ap (limit_behind b.section (length b.before) (length b.passed)) same.2 ∙ b.limited in
    cc

-- nothing passes no limit
limit_end : (s : Section) (count offset : ℕ) (limit : Limit) → limit_behind s count offset [] ≡ Some limit → ⊥
limit_end s count offset limit passed =
    let few : (count == 65536) && shows_packet s.order (67108864 - offset) [] ≡ false =
    and_false (count == 65536) _ (and_false (nat_lt 3 (67108864 - offset)) _ refl) in
    let none : limit_behind s count offset [] ≡ None =
    limit_fits s.order (count == 65536) (67108864 - offset) [] few (omega arith) in
    cc

pub within_passes_none : (all : List ℕ) (ps : List Packet) (limit : Limit) → IsNg all ps → length ps ≤ 65536
    → length all ≤ 67108864 → PassesNgLimit all limit → ⊥
within_passes_none all ps limit a count size l =
    let same = same_reading 65536 67108864 all ps l.before a.last l.section all l.passed [] l.rest
    (whole 65536 67108864 all ps a count size) (limited all limit l) in
    limit_end l.section (length l.before) (length l.passed) limit
    (ap (limit_behind l.section (length l.before) (length l.passed)) same.2 ∙ l.limited)

-- a fault within the limits, where no limit is passed there
pub fault_passes_none : (all : List ℕ) (f : NgFault) (limit : Limit) (n : IsNgFault all f) → length n.before ≤ 65536
    → length n.passed ≤ 67108864 → limit_behind n.section (length n.before) (length n.passed) n.rest ≡ None
    → PassesNgLimit all limit → ⊥
fault_passes_none all f limit n count size none l =
    let same = same_reading 65536 67108864 all n.before l.before n.section l.section n.passed l.passed n.rest l.rest
    (faulty 65536 67108864 all f n count size) (limited all limit l) in
    let both : ◌≡◌ {A = Option Limit} None (Some limit) =
    sym none ∙ ap (λ s. limit_behind s (length n.before) (length n.passed) n.rest) same.1
    ∙ ap (λ ps. limit_behind l.section (length ps) (length n.passed) n.rest) same.0
    ∙ ap (λ k. limit_behind l.section (length l.before) k n.rest) same.3
    ∙ ap (limit_behind l.section (length l.before) (length l.passed)) same.2 ∙ l.limited in
    cc

pub one_ng_answer : (all : List ℕ) (a b : AnyCaptured) → IsDecidedAny a → IsDecidedAny b → SaysNg all a
    → SaysNg all b → a ≡ b
one_ng_answer all (any.Capture u ps) (any.Capture v qs) da db sa sb =
    let units = sa.unit ∙ sym sb.unit in
    let packets = one_ng all ps qs sa.capture sb.capture in rw (units, packets) refl
one_ng_answer all (any.Capture u ps) (any.Refused (fault.Capture f)) da db sa sb = absurd sb
one_ng_answer all (any.Capture u ps) (any.Refused (fault.Ng f)) da db sa sb =
    absurd (ng_is_faultless all ps f sa.capture sb.0)
one_ng_answer all (any.Capture u ps) (any.TooLarge l) da db sa sb =
    absurd (within_passes_none all ps l sa.capture sa.count sa.size sb)
one_ng_answer all (any.Refused (fault.Capture f)) b da db sa sb = absurd sa
one_ng_answer all (any.Refused (fault.Ng f)) (any.Capture v qs) da db sa sb =
    absurd (ng_is_faultless all qs f sb.capture sa.0)
one_ng_answer all (any.Refused (fault.Ng f)) (any.Refused (fault.Capture g)) da db sa sb = absurd sb
one_ng_answer all (any.Refused (fault.Ng f)) (any.Refused (fault.Ng g)) da db sa sb =
    ap (λ h. any.Refused (fault.Ng h)) (one_ng_fault all f g sa.0 sb.0)
one_ng_answer all (any.Refused (fault.Ng f)) (any.TooLarge l) da db sa sb = absurd (sa.1 l sb)
one_ng_answer all (any.TooLarge l) (any.Capture v qs) da db sa sb =
    absurd (within_passes_none all qs l sb.capture sb.count sb.size sa)
one_ng_answer all (any.TooLarge l) (any.Refused (fault.Capture f)) da db sa sb = absurd sb
one_ng_answer all (any.TooLarge l) (any.Refused (fault.Ng f)) da db sa sb = absurd (sb.1 l sa)
one_ng_answer all (any.TooLarge l) (any.TooLarge m) da db sa sb = ap any.TooLarge (one_ng_limit all l m sa sb)
one_ng_answer all any.ReadFault b da db sa sb = absurd da
one_ng_answer all any.NoMemory b da db sa sb = absurd da
one_ng_answer all a any.ReadFault da db sa sb = absurd db
one_ng_answer all a any.NoMemory da db sa sb = absurd db
