-- The test of two packets is true where they are the same; and what it says of packets that are the same.
use Rattle.std.proofs.Common.{◌≡◌, ℕ, Bool, true, false, List, refl, sym, ap, ◌∙◌}
use Rattle.std.specs.Prelude.{◌==◌, ◌&&◌}
use Rattle.std.specs.Str.{bytes_eq}
use Rattle.std.proofs.lemmas.Slice.Eq.{bytes_eq-Decides}
use Rattle.std.proofs.lemmas.Bool.Decides.{Decides-eqb}
use Rattle.plain_text.specs.declared.packet.Packet.{Packet}
use Rattle.plain_text.specs.declared.packet.Unit.{Unit as FractionUnit}
use Rattle.schedule_check.specs.declared.content.Content.{Content}
use Rattle.schedule_check.specs.Contents.{same_content}
use Rattle.schedule_check.specs.Counting.{IsContentOf, is_content, same}
use Rattle.recovery_world.specs.Matching.{nanoseconds, IsSame}

-- Four parts that are compared one by one

abbrev four : ℕ → ℕ → ℕ → List ℕ → ℕ → ℕ → ℕ → List ℕ → Bool
four a b c s x y z t = (a == x) && ((b == y) && ((c == z) && bytes_eq s t))

and_parts : (a b c d : Bool) → (a && (b && (c && d))) ≡ true → (a ≡ true) × (b ≡ true) × (c ≡ true) × (d ≡ true)
and_parts false b c d e = absurd (cc)
and_parts true false c d e = absurd (cc)
and_parts true true false d e = absurd (cc)
and_parts true true true d e = (refl, refl, refl, e)

and_all : (a b c d : Bool) → a ≡ true → b ≡ true → c ≡ true → d ≡ true → (a && (b && (c && d))) ≡ true
and_all a b c d e f g h = rw (e, f, g, h) refl

four_true : (a b c : ℕ) (s : List ℕ) (x y z : ℕ) (t : List ℕ) → four a b c s x y z t ≡ true
    → (a ≡ x) × (b ≡ y) × (c ≡ z) × (s ≡ t)
four_true a b c s x y z t e =
    let p = and_parts (a == x) (b == y) (c == z) (bytes_eq s t) e in
    ((Decides-eqb a x).0 p.0, (Decides-eqb b y).0 p.1, (Decides-eqb c z).0 p.2, (bytes_eq-Decides s t).0 p.3)

four_same : (a b c : ℕ) (s : List ℕ) (x y z : ℕ) (t : List ℕ) → a ≡ x → b ≡ y → c ≡ z → s ≡ t
    → four a b c s x y z t ≡ true
four_same a b c s x y z t e f g h =
    and_all (a == x) (b == y) (c == z) (bytes_eq s t) ((Decides-eqb a x).1 e) ((Decides-eqb b y).1 f)
    ((Decides-eqb c z).1 g) ((bytes_eq-Decides s t).1 h)

-- the first four may be replaced by equal ones, and so may the others
four_left : (a b c : ℕ) (s : List ℕ) (k l m : ℕ) (r : List ℕ) (x y z : ℕ) (t : List ℕ) → a ≡ k → b ≡ l → c ≡ m → s ≡ r
    → four a b c s x y z t ≡ four k l m r x y z t
four_left a b c s k l m r x y z t e f g h =
    ap (λ (n : ℕ). four n b c s x y z t) e
    ∙ (ap (λ (n : ℕ). four k n c s x y z t) f
    ∙ (ap (λ (n : ℕ). four k l n s x y z t) g ∙ ap (λ (q : List ℕ). four k l m q x y z t) h))

four_right : (a b c : ℕ) (s : List ℕ) (x y z : ℕ) (t : List ℕ) (k l m : ℕ) (r : List ℕ) → x ≡ k → y ≡ l → z ≡ m → t ≡ r
    → four a b c s x y z t ≡ four a b c s k l m r
four_right a b c s x y z t k l m r e f g h =
    ap (λ (n : ℕ). four a b c s n y z t) e
    ∙ (ap (λ (n : ℕ). four a b c s k n z t) f
    ∙ (ap (λ (n : ℕ). four a b c s k l n t) g ∙ ap (λ (q : List ℕ). four a b c s k l m q) h))

-- Of packets

pub same_is : (u : FractionUnit) (p : Packet) (v : FractionUnit) (q : Packet) → same u p v q ≡ true → IsSame u p v q
same_is u p v q e =
    let parts =
    four_true p.seconds (nanoseconds u p) p.original p.bytes q.seconds (nanoseconds v q) q.original q.bytes e in
    record { seconds = parts.0; fraction = parts.1; original = parts.2; bytes = parts.3 }

pub is_same : (u : FractionUnit) (p : Packet) (v : FractionUnit) (q : Packet) → IsSame u p v q → same u p v q ≡ true
is_same u p v q s = four_same p.seconds (nanoseconds u p) p.original p.bytes q.seconds (nanoseconds v q) q.original
    q.bytes s.seconds s.fraction s.original s.bytes

pub same_self : (u : FractionUnit) (p : Packet) → same u p u p ≡ true
same_self u p = is_same u p u p (record { seconds = refl; fraction = refl; original = refl; bytes = refl })

-- packets that are the same are so to the same ones
pub same_to : (u : FractionUnit) (p : Packet) (v : FractionUnit) (q : Packet) (w : FractionUnit) (x : Packet)
    → same u p v q ≡ true → same u p w x ≡ same v q w x
same_to u p v q w x e =
    let parts =
    four_true p.seconds (nanoseconds u p) p.original p.bytes q.seconds (nanoseconds v q) q.original q.bytes e in
    four_left p.seconds (nanoseconds u p) p.original p.bytes q.seconds (nanoseconds v q) q.original q.bytes x.seconds
    (nanoseconds w x) x.original x.bytes parts.0 parts.1 parts.2 parts.3

-- Of contents

-- and they have the same content
pub content_to : (u : FractionUnit) (p : Packet) (v : FractionUnit) (q : Packet) (k : Content) → same u p v q ≡ true
    → is_content u p k ≡ is_content v q k
content_to u p v q k e =
    let parts =
    four_true p.seconds (nanoseconds u p) p.original p.bytes q.seconds (nanoseconds v q) q.original q.bytes e in
    four_left p.seconds (nanoseconds u p) p.original p.bytes q.seconds (nanoseconds v q) q.original q.bytes k.seconds
    k.nanoseconds k.original k.bytes.now parts.0 parts.1 parts.2 parts.3

-- the content of a packet is that of the packets that are the same
pub content_is : (w : FractionUnit) (q : Packet) (u : FractionUnit) (p : Packet) (c : Content) → IsContentOf u p c
    → is_content w q c ≡ same w q u p
content_is w q u p c is =
    four_right q.seconds (nanoseconds w q) q.original q.bytes c.seconds c.nanoseconds c.original c.bytes.now p.seconds
    (nanoseconds u p) p.original p.bytes is.seconds is.nanoseconds is.original is.bytes

-- a content that is compared with the content of a packet
pub content_of_packet : (u : FractionUnit) (p : Packet) (c k : Content) → IsContentOf u p c
    → same_content c k ≡ is_content u p k
content_of_packet u p c k is =
    four_left c.seconds c.nanoseconds c.original c.bytes.now p.seconds (nanoseconds u p) p.original p.bytes k.seconds
    k.nanoseconds k.original k.bytes.now is.seconds is.nanoseconds is.original is.bytes

-- equal contents are those of the same packets
pub contents_to : (u : FractionUnit) (p : Packet) (a b : Content) → same_content a b ≡ true
    → is_content u p a ≡ is_content u p b
contents_to u p a b e =
    let parts =
    four_true a.seconds a.nanoseconds a.original a.bytes.now b.seconds b.nanoseconds b.original b.bytes.now e in
    four_right p.seconds (nanoseconds u p) p.original p.bytes a.seconds a.nanoseconds a.original a.bytes.now b.seconds
    b.nanoseconds b.original b.bytes.now parts.0 parts.1 parts.2 parts.3

-- contents of one packet are equal
pub contents_meet : (u : FractionUnit) (p : Packet) (a b : Content) → is_content u p a ≡ true → is_content u p b ≡ true
    → same_content a b ≡ true
contents_meet u p a b e f =
    let x = four_true p.seconds (nanoseconds u p) p.original p.bytes a.seconds a.nanoseconds a.original a.bytes.now e in
    let y = four_true p.seconds (nanoseconds u p) p.original p.bytes b.seconds b.nanoseconds b.original b.bytes.now f in
    four_same a.seconds a.nanoseconds a.original a.bytes.now b.seconds b.nanoseconds b.original b.bytes.now
    (sym x.0 ∙ y.0) (sym x.1 ∙ y.1) (sym x.2 ∙ y.2) (sym x.3 ∙ y.3)
