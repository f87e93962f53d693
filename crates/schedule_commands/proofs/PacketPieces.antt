-- The records of packets, appended by pieces.
use Rattle.std.proofs.Common.{◌≡◌, ℕ, ◌+◌, ◌<◌, ◌≤◌, List, [], ◌∷◌, ◌++◌, take, drop, length, sym, ap, ◌∙◌, subst}
use Rattle.std.proofs.Common.{append-nil, get_or, Result}
use Rattle.std.proofs.lemmas.List.{take-append-drop, take_more, take_all}
use Rattle.std.proofs.lemmas.Grind.{flat_map-append}
use Rattle.std.specs.Result.{IsErr}
use Rattle.world_io.specs.World.{Shown, WritesFile}
use Rattle.world_io.specs.OneFile.{WritesFile-nothing}
use Rattle.plain_text.specs.declared.packet.Packet.{Packet}
use Rattle.pcap_io.specs.Capture.{record_of, records_of}
use Rattle.pcap_io.specs.declared.order.Order.TheVariants.{Little}
use Rattle.output_files.specs.declared.error.OutputError.{OutputError}
use Rattle.output_files.specs.Writes.{Appends, HasBegun, HasWritten}
use Rattle.output_files.specs.Written.{AppendsTo, HasAppended}
use Rattle.output_files.proofs.PieceWise.{more_gathered, some_begun, part_begun, err_appends}

-- the records of all, as those of the first packets and what is left
split : (n : ℕ) (packets : List Packet)
    → records_of Little packets ≡ records_of Little (take n packets) ++ records_of Little (drop n packets)
split n packets =
    ap (records_of Little) (sym (take-append-drop n packets))
    ∙ flat_map-append (record_of Little) (take n packets) (drop n packets)

-- nothing is gathered or appended yet
pub none_appended : (file : ℕ) (piece : List ℕ) (a : Shown) → piece ≡ [] → HasAppended file [] piece a a
none_appended file piece a none = record { first = []; bytes_are = sym none; written = WritesFile-nothing file a }

pub none_begun : (file : ℕ) (bytes : List ℕ) (a : Shown) → (n : ℕ) × WritesFile file (take n bytes) a a
none_begun file bytes a = (0, WritesFile-nothing file a)

-- one more record is gathered
pub one_gathered : (file : ℕ) (packets : List Packet) (i : ℕ) (x : Packet) (had now : List ℕ) (a b : Shown)
    → i < length packets → x ≡ get_or packets i x → now ≡ had ++ record_of Little x
    → HasAppended file (records_of Little (take i packets)) had a b
    → HasAppended file (records_of Little (take (i + 1) packets)) now a b
one_gathered file packets i x had now a b low is now_is h =
    let more : take (i + 1) packets ≡ take i packets ++ x ∷ [] =
    take_more packets i x low ∙ ap (λ (p : Packet). take i packets ++ p ∷ []) (sym is) in
    more_gathered file (records_of Little (take i packets)) had (record_of Little x)
    (records_of Little (take (i + 1) packets)) now a b h
    (ap (records_of Little) more ∙ flat_map-append (record_of Little) (take i packets) (x ∷ [])
    ∙ ap (λ (l : List ℕ). records_of Little (take i packets) ++ l) (append-nil (record_of Little x))) now_is

-- a call that stops has appended a first part of all
pub stops_between : {A : Type 0} (r : Result A OutputError) (file : ℕ) (packets : List Packet) (i : ℕ) (had : List ℕ)
    (a b : Shown) → IsErr r → HasAppended file (records_of Little (take i packets)) had a b
    → AppendsTo r file (records_of Little packets) a b
stops_between r file packets i had a b err h =
    err_appends r file (records_of Little packets) a b err
    (some_begun file (records_of Little (take i packets)) had (records_of Little (drop i packets))
    (records_of Little packets) a b h (split i packets))

pub stops_within : {A : Type 0} (r : Result A OutputError) (file : ℕ) (packets : List Packet) (i : ℕ)
    (a b : Shown) → IsErr r → ((n : ℕ) × WritesFile file (take n (records_of Little (take i packets))) a b)
    → AppendsTo r file (records_of Little packets) a b
stops_within r file packets i a b err w =
    err_appends r file (records_of Little packets) a b err
    (part_begun file (records_of Little (take i packets)) (records_of Little (drop i packets))
    (records_of Little packets) a b w (split i packets))

-- the records of all were appended or are gathered
pub all_gathered : (file : ℕ) (packets : List Packet) (i : ℕ) (had : List ℕ) (a b : Shown) → length packets ≤ i
    → HasAppended file (records_of Little (take i packets)) had a b
    → HasAppended file (records_of Little packets) had a b
all_gathered file packets i had a b all h =
    let whole = take_all i packets all in
    subst (λ (ps : List Packet). HasAppended file (records_of Little ps) had a b) whole h

-- a header that goes by another name
pub header_begun : (name head header : List ℕ) (a b : Shown) → head ≡ header → HasBegun (Appends name head ∷ []) a b
    → HasBegun (Appends name header ∷ []) a b
header_begun name head header a b same begun =
    subst (λ (l : List ℕ). HasBegun (Appends name l ∷ []) a b) same begun

pub header_written : (name head header : List ℕ) (a b : Shown) → head ≡ header
    → HasWritten (Appends name head ∷ []) a b → HasWritten (Appends name header ∷ []) a b
header_written name head header a b same done =
    subst (λ (l : List ℕ). HasWritten (Appends name l ∷ []) a b) same done
