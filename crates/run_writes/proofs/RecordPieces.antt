-- The records of outputs, appended by pieces.
use Rattle.std.proofs.Common.{◌≡◌, ℕ, ◌+◌, ◌<◌, ◌≤◌, List, [], ◌∷◌, ◌++◌, take, drop, length, refl, sym, ap, ◌∙◌}
use Rattle.std.proofs.Common.{append_assoc, get_or, Result, Ok, Err, subst}
use Rattle.std.proofs.lemmas.List.{take-append-drop, take_all}
use Rattle.std.specs.Result.{IsErr}
use Rattle.std.specs.Prelude.{All, OnOk}
use Rattle.world_io.specs.World.{Shown, WritesFile}
use Rattle.world_io.specs.OneFile.{WritesFile-nothing}
use Rattle.pcap_io.specs.Capture.{record_of, records_of}
use Rattle.pcap_io.specs.declared.order.Order.TheVariants as order
use Rattle.access_log.specs.declared.entry.Output.{Output}
use Rattle.output_files.specs.declared.error.OutputError.{OutputError}
use Rattle.output_files.specs.Written.{AppendsTo, HasAppended}
use Rattle.output_files.proofs.PieceWise.{more_gathered, some_begun, part_begun, err_appends}
use Rattle.run_writes.specs.Replies.{packets_in}
use Rattle.run_writes.specs.Run.{FitsRecord}
use Rattle.run_writes.proofs.OutputRecords.{records_grow}

abbrev records_in : List Output → List ℕ
records_in outputs = records_of order.Little (packets_in outputs)

records_more : (first more : List Output) → records_in (first ++ more) ≡ records_in first ++ records_in more
records_more [] more = refl
records_more (o ∷ first) more =
    ap (λ l. record_of order.Little o.packet ++ l) (records_more first more)
    ∙ sym (append_assoc (record_of order.Little o.packet) (records_in first) (records_in more))

-- the records of all, as those of the first outputs and what is left
split : (n : ℕ) (outputs : List Output)
    → records_in outputs ≡ records_in (take n outputs) ++ records_in (drop n outputs)
split n outputs =
    ap records_in (sym (take-append-drop n outputs)) ∙ records_more (take n outputs) (drop n outputs)

-- nothing is gathered or appended yet
pub none_appended : (file : ℕ) (piece : List ℕ) (a : Shown) → piece ≡ [] → HasAppended file [] piece a a
none_appended file piece a none = record { first = []; bytes_are = sym none; written = WritesFile-nothing file a }

pub none_begun : (file : ℕ) (bytes : List ℕ) (a : Shown) → (n : ℕ) × WritesFile file (take n bytes) a a
none_begun file bytes a = (0, WritesFile-nothing file a)

pub on_ok : {A E P : Type 0} (r : Result A E) → P → OnOk r P
on_ok (Ok done) holds = holds
on_ok (Err error) holds = tt

-- one more record is gathered
pub one_gathered : (file : ℕ) (outputs : List Output) (i : ℕ) (x : Output) (had now : List ℕ) (a b : Shown)
    → i < length outputs → x ≡ get_or outputs i x → now ≡ had ++ record_of order.Little x.packet
    → HasAppended file (records_in (take i outputs)) had a b
    → HasAppended file (records_in (take (i + 1) outputs)) now a b
one_gathered file outputs i x had now a b low is now_is h =
    more_gathered file (records_in (take i outputs)) had (record_of order.Little x.packet)
    (records_in (take (i + 1) outputs)) now a b h
    (sym (records_grow outputs i x (records_in (take i outputs))
    (records_in (take i outputs) ++ record_of order.Little x.packet) low is refl refl)) now_is

-- a call that stops has appended a first part of all
pub stops_between : {A : Type 0} (r : Result A OutputError) (file : ℕ) (outputs : List Output) (i : ℕ) (had : List ℕ)
    (a b : Shown) → IsErr r → HasAppended file (records_in (take i outputs)) had a b
    → AppendsTo r file (records_in outputs) a b
stops_between r file outputs i had a b err h =
    err_appends r file (records_in outputs) a b err
    (some_begun file (records_in (take i outputs)) had (records_in (drop i outputs)) (records_in outputs) a b h
    (split i outputs))

pub stops_within : {A : Type 0} (r : Result A OutputError) (file : ℕ) (outputs : List Output) (i : ℕ)
    (a b : Shown) → IsErr r → ((n : ℕ) × WritesFile file (take n (records_in (take i outputs))) a b)
    → AppendsTo r file (records_in outputs) a b
stops_within r file outputs i a b err w =
    err_appends r file (records_in outputs) a b err
    (part_begun file (records_in (take i outputs)) (records_in (drop i outputs)) (records_in outputs) a b w
    (split i outputs))

-- the records of all were appended or are gathered
pub all_gathered : (file : ℕ) (outputs : List Output) (i : ℕ) (had : List ℕ) (a b : Shown) → length outputs ≤ i
    → HasAppended file (records_in (take i outputs)) had a b → HasAppended file (records_in outputs) had a b
all_gathered file outputs i had a b all h =
    let whole = take_all i outputs all in
    subst (λ (os : List Output). HasAppended file (records_in os) had a b) whole h

pub all_fit : (outputs : List Output) (i : ℕ) → length outputs ≤ i → All FitsRecord (packets_in (take i outputs))
    → All FitsRecord (packets_in outputs)
all_fit outputs i all fit =
    let whole = take_all i outputs all in
    subst (λ (os : List Output). All FitsRecord (packets_in os)) whole fit
