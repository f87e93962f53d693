-- What stands in a file header.
use Rattle.std.proofs.Common.{◌≡◌, ℕ, ◌+◌, ◌≤◌, List, ◌++◌, length, take, drop, Option, Some, None, Bool, true, false}
use Rattle.std.proofs.Common.{◌&&◌, ◌==◌, if◌then◌else◌, refl, sym, ap, ◌∙◌, arith, append_assoc, length-append}
use Rattle.std.proofs.Common.{drop-drop}
use Rattle.std.proofs.lemmas.List.{drop_at, take_all, take-append-drop, length-drop, length-take}
use Rattle.std.proofs.lemmas.Bool.{le-ltb, eqb-true}
use Rattle.plain_text.specs.declared.packet.Unit.{Unit as TimeUnit}
use Rattle.plain_text.specs.declared.packet.Unit.TheVariants.{Micro, Nano}
use Rattle.pcap_io.specs.declared.order.Order.{Order}
use Rattle.pcap_io.specs.declared.order.Order.TheVariants.{Little, Big}
use Rattle.pcap_io.specs.declared.fault.CaptureFault.{CaptureFault}
use Rattle.pcap_io.specs.Capture.{spelled, number, magic, header_of}
use Rattle.pcap_io.specs.Faults.{form_of, form_fault, later_fault, header_fault}
use Rattle.plain_text.specs.Octets.{AreBytes}
use Rattle.plain_text.proofs.Octets.{AreBytes-drop}
use Rattle.pcap_io.proofs.Spelled.{length-spelled, number-spelled, number-append, number-drop, spelled_2, spelled_4}

pub form_of-header_of : (o : Order) (u : TimeUnit) (unused more : List ℕ)
    → form_of (header_of o u unused ++ more) ≡ Some (o, u)
form_of-header_of Little Micro unused more = refl
form_of-header_of Little Nano unused more = refl
form_of-header_of Big Micro unused more = refl
form_of-header_of Big Nano unused more = refl

version : (o : Order) (u : TimeUnit) (unused more : List ℕ)
    → (number o 2 (drop 4 (header_of o u unused ++ more)) == 2)
    && (number o 2 (drop 6 (header_of o u unused ++ more)) == 4) ≡ true
version Little Micro unused more = refl
version Little Nano unused more = refl
version Big Micro unused more = refl
version Big Nano unused more = refl

module _ (o : Order) (u : TimeUnit) (unused more : List ℕ) (twelve : length unused ≡ 12) where
  pub length-header_of : length (header_of o u unused) ≡ 24
  length-header_of = simp (length-append, length-spelled) (omega (arith, twelve))

  pub drop-header_of : drop 24 (header_of o u unused ++ more) ≡ more
  drop-header_of = drop_at (header_of o u unused) more 24 length-header_of

  link_type : number o 4 (drop 20 (header_of o u unused ++ more)) ≡ 1
  link_type =
      let first = spelled o 4 (magic u) ++ spelled o 2 2 ++ spelled o 2 4 ++ unused in
      let len : length first ≡ 20 = simp (length-append, length-spelled) (omega (arith, twelve)) in
      ap (λ l. number o 4 (drop 20 l)) (append_assoc first (spelled o 4 1) more)
      ∙ ap (number o 4) (drop_at first (spelled o 4 1 ++ more) 20 len)
      ∙ number-spelled o 4 1 more (omega arith)

  -- a whole header has no fault
  pub header_fault-header_of : header_fault (header_of o u unused ++ more) ≡ None
  header_fault-header_of =
      let size = length-append (header_of o u unused) more in
      let len = length-header_of in
      rw (
        le-ltb (length (header_of o u unused ++ more)) 24 (omega arith),
        form_of-header_of o u unused more,
        version o u unused more,
        link_type,
      ) refl

-- bytes begin with at most one header
pub same_header : (o p : Order) (u v : TimeUnit) (unused other x y : List ℕ) → length unused ≡ 12 → length other ≡ 12
    → header_of o u unused ++ x ≡ header_of p v other ++ y → (o ≡ p) × (u ≡ v) × (x ≡ y)
same_header o p u v unused other x y twelve twelve' same =
    let forms : ◌≡◌ {A = Option (Order × TimeUnit)} (Some (o, u)) (Some (p, v)) =
    sym (form_of-header_of o u unused x) ∙ ap form_of same ∙ form_of-header_of p v other y in
    let form : ◌≡◌ {A = Order × TimeUnit} (o, u) (p, v) = cc in (
      ap (λ (f : Order × TimeUnit). f.0) form,
      ap (λ (f : Order × TimeUnit). f.1) form,
      sym (drop-header_of o u unused x twelve) ∙ ap (drop 24) same ∙ drop-header_of p v other y twelve',
    )

-- a header's bytes, cut at its parts
header_parts : (head : List ℕ) → length head ≡ 24
    → (((take 4 head ++ take 2 (drop 4 head)) ++ take 2 (drop 6 head)) ++ take 12 (drop 8 head))
    ++ take 4 (drop 20 head)
    ≡ head
header_parts head long =
    let last : take 4 (drop 20 head) ≡ drop 20 head = take_all 4 (drop 20 head) (omega (arith, length-drop 20 head)) in
    let fourth : take 12 (drop 8 head) ++ drop 20 head ≡ drop 8 head =
    ap (λ l. take 12 (drop 8 head) ++ l) (sym (drop-drop 12 8 head)) ∙ take-append-drop 12 (drop 8 head) in
    let third : take 2 (drop 6 head) ++ drop 8 head ≡ drop 6 head =
    ap (λ l. take 2 (drop 6 head) ++ l) (sym (drop-drop 2 6 head)) ∙ take-append-drop 2 (drop 6 head) in
    let second : take 2 (drop 4 head) ++ drop 6 head ≡ drop 4 head =
    ap (λ l. take 2 (drop 4 head) ++ l) (sym (drop-drop 2 4 head)) ∙ take-append-drop 2 (drop 4 head) in
    rw (
      last,
      append_assoc ((take 4 head ++ take 2 (drop 4 head)) ++ take 2 (drop 6 head)) (take 12 (drop 8 head))
          (drop 20 head),
      fourth,
      append_assoc (take 4 head ++ take 2 (drop 4 head)) (take 2 (drop 6 head)) (drop 8 head),
      third,
      append_assoc (take 4 head) (take 2 (drop 4 head)) (drop 6 head),
      second,
    )
    (take-append-drop 4 head)

-- no fault of the later numbers: each is what it is to be
later_numbers : (a b c : Bool) (link version : CaptureFault)
    → (if a && b then if c then None else Some link else Some version) ≡ None → (a ≡ true) × (b ≡ true) × (c ≡ true)
later_numbers true true true link version none = (refl, refl, refl)
later_numbers true true false link version none = cc
later_numbers true false c link version none = cc
later_numbers false b c link version none = cc

-- bytes that have the magic and no fault of the later numbers are a header
pub spelled_header : (o : Order) (u : TimeUnit) (head : List ℕ) → length head ≡ 24 → AreBytes head
    → number o 4 head ≡ magic u → later_fault o head ≡ None
    → (unused : List ℕ) × (length unused ≡ 12) × (head ≡ header_of o u unused)
spelled_header o u head long bytes magic_is faultless =
    let numbers = later_numbers (number o 2 (drop 4 head) == 2) (number o 2 (drop 6 head) == 4)
    (number o 4 (drop 20 head) == 1) _ _ faultless in
    let first : spelled o 4 (magic u) ≡ take 4 head =
    ap (spelled o 4) (sym magic_is) ∙ spelled_4 o head (omega arith) bytes in
    let two : (k x : ℕ) → k + 2 ≤ 24 → number o 2 (drop k head) ≡ x → spelled o 2 x ≡ take 2 (drop k head) =
    λ k x room is.
    ap (spelled o 2) (sym is)
    ∙ spelled_2 o (drop k head) (omega (arith, length-drop k head)) (AreBytes-drop k head bytes) in
    let last : spelled o 4 1 ≡ take 4 (drop 20 head) =
    ap (spelled o 4) (sym (eqb-true _ _ numbers.2))
    ∙ spelled_4 o (drop 20 head) (omega (arith, length-drop 20 head)) (AreBytes-drop 20 head bytes) in (
      take 12 (drop 8 head),
      omega (arith, length-take 12 (drop 8 head), length-drop 8 head),
      sym (rw
          (first, two 4 2 (omega arith) (eqb-true _ _ numbers.0), two 6 4 (omega arith) (eqb-true _ _ numbers.1), last)
          (header_parts head long)),
    )

form_fault-append : (form : Option (Order × TimeUnit)) (head more : List ℕ) → length head ≡ 24
    → form_fault form (head ++ more) ≡ form_fault form head
form_fault-append None head more long = refl
form_fault-append (Some form) head more long =
    rw (
      number-drop form.0 2 4 head more (omega arith),
      number-drop form.0 2 6 head more (omega arith),
      number-drop form.0 4 20 head more (omega arith),
    ) refl

-- what follows a header does not matter for its faults
pub header_fault-append : (head more : List ℕ) → length head ≡ 24 → header_fault (head ++ more) ≡ header_fault head
header_fault-append head more long =
    let size = length-append head more in
    rw (
      le-ltb (length (head ++ more)) 24 (omega arith),
      le-ltb (length head) 24 (omega arith),
      number-append Little 4 head more (omega arith),
      number-append Big 4 head more (omega arith),
    ) (form_fault-append (form_of head) head more long)

-- a header that was read whole from what is left
module _ (had : ℕ) (head left rest : List ℕ) (long : length head ≡ 24) (whole : 24 ≤ had)
    (parts : left ≡ take had head ++ rest) where
  behind : left ≡ head ++ rest
  behind = parts ∙ ap (λ l. l ++ rest) (take_all had head (omega arith))

  pub header_fault-taken : header_fault left ≡ header_fault head
  header_fault-taken = ap header_fault behind ∙ header_fault-append head rest long

  pub header_fault-whole : (o : Order) (u : TimeUnit) (unused : List ℕ) → length unused ≡ 12
      → head ≡ header_of o u unused → header_fault left ≡ None
  header_fault-whole o u unused twelve is =
      ap header_fault (behind ∙ ap (λ l. l ++ rest) is) ∙ header_fault-header_of o u unused rest twelve
