-- The records of outputs, one after another.
use Rattle.std.proofs.Common.{◌≡◌, ℕ, zero, suc, ◌+◌, ◌<◌, List, [], ◌∷◌, ◌++◌, take, length, refl, sym, ap, ◌∙◌}
use Rattle.std.proofs.Common.{append-nil, append_assoc, subst, arith, add-one, get_or}
use Rattle.std.specs.Prelude.{All}
use Rattle.std.proofs.lemmas.List.Elements.{All-cons, All-head, All-nil, All-tail}
use Rattle.plain_text.specs.Packets.{IsShort}
use Rattle.pcap_io.specs.Capture.{record_of, records_of}
use Rattle.pcap_io.specs.declared.order.Order.TheVariants as order
use Rattle.access_log.specs.declared.entry.Output.{Output}
use Rattle.run_writes.specs.Run.{FitsRecord}
use Rattle.run_writes.specs.Replies.{packets_in}

pub short_one : (outputs : List Output) (i : ℕ) (x : Output) → All IsShort (packets_in outputs) → i < length outputs
    → x ≡ get_or outputs i x → IsShort x.packet
short_one [] i x short low is = absurd (omega arith)
short_one (y ∷ outputs) zero x short low is =
    subst (λ (o : Output). IsShort o.packet) (sym is) (All-head IsShort y.packet (packets_in outputs) short)
short_one (y ∷ outputs) (suc i) x short low is =
    short_one outputs i x (All-tail IsShort y.packet (packets_in outputs) short) (omega arith) is

one_more : (outputs : List Output) (i : ℕ) (x : Output) → i < length outputs → x ≡ get_or outputs i x
    → records_of order.Little (packets_in (take (suc i) outputs))
    ≡ records_of order.Little (packets_in (take i outputs)) ++ record_of order.Little x.packet
one_more [] i x low is = absurd (omega arith)
one_more (y ∷ outputs) zero x low is =
    append-nil (record_of order.Little y.packet) ∙ ap (λ (o : Output). record_of order.Little o.packet) (sym is)
one_more (y ∷ outputs) (suc i) x low is =
    ap (λ l. record_of order.Little y.packet ++ l) (one_more outputs i x (omega arith) is)
    ∙ sym (append_assoc (record_of order.Little y.packet) (records_of order.Little (packets_in (take i outputs)))
    (record_of order.Little x.packet))

pub records_grow : (outputs : List Output) (i : ℕ) (x : Output) (had now : List ℕ) → i < length outputs
    → x ≡ get_or outputs i x → had ≡ records_of order.Little (packets_in (take i outputs))
    → now ≡ had ++ record_of order.Little x.packet → now ≡ records_of order.Little (packets_in (take (i + 1) outputs))
records_grow outputs i x had now low is had_is now_is =
    rw add-one (now_is ∙ ap (λ l. l ++ record_of order.Little x.packet) had_is ∙ sym (one_more outputs i x low is))

one_more_fits : (outputs : List Output) (i : ℕ) (x : Output) → i < length outputs → x ≡ get_or outputs i x
    → All FitsRecord (packets_in (take i outputs)) → FitsRecord x.packet
    → All FitsRecord (packets_in (take (suc i) outputs))
one_more_fits [] i x low is each fits = absurd (omega arith)
one_more_fits (y ∷ outputs) zero x low is each fits =
    All-cons FitsRecord y.packet [] (subst (λ (o : Output). FitsRecord o.packet) is fits) (All-nil FitsRecord)
one_more_fits (y ∷ outputs) (suc i) x low is each fits =
    All-cons FitsRecord y.packet (packets_in (take (suc i) outputs))
    (All-head FitsRecord y.packet (packets_in (take i outputs)) each)
    (one_more_fits outputs i x (omega arith) is (All-tail FitsRecord y.packet (packets_in (take i outputs)) each) fits)

pub fit_more : (outputs : List Output) (i : ℕ) (x : Output) → i < length outputs → x ≡ get_or outputs i x
    → All FitsRecord (packets_in (take i outputs)) → FitsRecord x.packet
    → All FitsRecord (packets_in (take (i + 1) outputs))
fit_more outputs i x low is each fits = rw add-one (one_more_fits outputs i x low is each fits)

-- no outputs have no records
pub none_fit : (outputs : List Output) → length outputs ≡ 0 → All FitsRecord (packets_in outputs)
none_fit [] none = All-nil FitsRecord
none_fit (o ∷ outputs) none = absurd (omega arith)

pub no_records : (outputs : List Output) → length outputs ≡ 0 → records_of order.Little (packets_in outputs) ≡ []
no_records [] none = refl
no_records (o ∷ outputs) none = absurd (omega arith)
