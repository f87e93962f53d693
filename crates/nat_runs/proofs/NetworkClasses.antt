-- The box's own classes are those by the bits of addresses.
use Rattle.std.proofs.Common.{◌≡◌, ◌≢◌, ℕ, zero, suc, ◌+◌, ◌-◌, ◌/◌, ◌%◌, ◌^◌, ◌<◌, ◌≤◌, Bool, true, false, [], refl}
use Rattle.std.proofs.Common.{sym, ap, ◌∙◌, subst, ◌⊎◌, inl, inr, arith, Option, Some, None}
use Rattle.std.specs.Prelude.{◌==◌, if◌then◌else◌, Result, Ok, Err}
use Rattle.std.proofs.lemmas.Bool.Decides.{nat_tests}
use Rattle.std.proofs.lemmas.Nat.{shr-shr}
use Rattle.plain_text.specs.declared.packet.Packet.{Packet}
use Rattle.packet_headers.specs.declared.flow.Flow.{Flow}
use Rattle.packet_headers.specs.declared.flow.NotFlow.{NotFlow}
use Rattle.packet_headers.specs.declared.flow.NotFlow.TheVariants.{Short, NotIpv4, BadHeaderLength, Fragment}
use Rattle.packet_headers.specs.declared.flow.NotFlow.TheVariants.{OtherProtocol, BadTotalLength}
use Rattle.packet_headers.specs.Fields.{AreBytes}
use Rattle.packet_headers.specs.View.{viewed}
use Rattle.icmp_errors.specs.declared.error.IcmpError.{IcmpError}
use Rattle.icmp_errors.specs.ErrorFields.{quoted_at}
use Rattle.icmp_errors.specs.ErrorView.{viewed_error}
use Rattle.plain_machine.specs.History.{thread_after}
use Rattle.flow_boxes.specs.Drops.{reason_of}
use Rattle.flow_boxes.proofs.Fitting.{long_fits}
use Rattle.flow_boxes.proofs.HeldInputs.{IsHeld, run_holds}
use Rattle.nat_box.specs.declared.place.Class.{Class}
use Rattle.nat_box.specs.declared.place.Class.TheVariants.{Outbound, Hairpin, Inbound, OutboundError}
use Rattle.nat_box.specs.declared.seeing.Seen.TheVariants.{OfFlow, OfError, OfNeither}
use Rattle.nat_box.specs.Settings.{Settings, AreSettings}
use Rattle.nat_box.specs.Nat.{is_inside, class_of_flow, class_of_error, flow_of_error, error_in, error_or, seen_as}
use Rattle.nat_box.specs.Nat.{seen_by, flow_in, class_in, flow_seen, class_seen, nat_meaning}
use Rattle.nat_box.proofs.SeenAs.{error_there, error_read, flow_whole}
use Rattle.nat_runs.specs.Classes.{IsFromInside, GoesInside}
use Rattle.nat_runs.specs.Met.{Met, met_of}
use Rattle.nat_runs.specs.Causes.{IsFlow, Cause}
use Rattle.nat_runs.specs.Networks.{bit, IsOfNetwork, GoesOut, GoesRound, ComesIn, ErrorGoesOut, ErrorComesIn}
use Rattle.nat_runs.specs.Networks.{ErrorHasClass, IsErrorIn, NeedsOwnMapping, NeedsMapping, IsOfNoClass, IsNeither}
use Rattle.nat_runs.specs.Networks.{IsCountedByClass, CountedByClass}
use Rattle.nat_runs.proofs.Causes.{drops_have_causes}

-- Bits and quotients

same_shifted : (a b m n : ℕ) → a / 2 ^ m ≡ b / 2 ^ m → a / 2 ^ (m + n) ≡ b / 2 ^ (m + n)
same_shifted a b m n e = sym (shr-shr a m n) ∙ ap (λ (x : ℕ). x / 2 ^ n) e ∙ shr-shr b m n

same_bits : (a b m k : ℕ) → a / 2 ^ m ≡ b / 2 ^ m → m ≤ k → bit a k ≡ bit b k
same_bits a b m k e low =
    let at : m + (k - m) ≡ k = omega arith in
    subst (λ (j : ℕ). bit a j ≡ bit b j) at (ap (λ (x : ℕ). x % 2) (same_shifted a b m (k - m) e))

by_half : (x y : ℕ) → x / 2 ≡ y / 2 → x % 2 ≡ y % 2 → x ≡ y
by_half x y halves bits = omega arith

none_above : (a b : ℕ) → a < 2 ^ 32 → b < 2 ^ 32 → a / 2 ^ 32 ≡ b / 2 ^ 32
none_above a b p q = omega arith

-- from bit 31 down to bit j
same_quotients : (a b n j : ℕ) → j + n ≡ 32 → a < 2 ^ 32 → b < 2 ^ 32
    → ((k : ℕ) → j ≤ k → k < 32 → bit a k ≡ bit b k) → a / 2 ^ j ≡ b / 2 ^ j
same_quotients a b zero j e p q same =
    let at : 32 ≡ j = omega arith in
    subst (λ (i : ℕ). a / 2 ^ i ≡ b / 2 ^ i) at (none_above a b p q)
same_quotients a b (suc n) j e p q same =
    let up = same_quotients a b n (j + 1) (omega arith) p q (λ k low high. same k (omega arith) high) in
    by_half (a / 2 ^ j) (b / 2 ^ j) (shr-shr a j 1 ∙ up ∙ sym (shr-shr b j 1)) (same j (omega arith) (omega arith))

equals : (a b : ℕ) → (a == b) ≡ true → a ≡ b
equals a b test = grind (arith, nat_tests)

differs : (a b : ℕ) → (a == b) ≡ false → a ≢ b
differs a b test = grind (arith, nat_tests)

pub in_network : (s : Settings) (address : ℕ) → is_inside s address ≡ true → IsOfNetwork s address
in_network s address inside k low high =
    same_bits address s.inside (32 - s.length) k
    (equals (address / 2 ^ (32 - s.length)) (s.inside / 2 ^ (32 - s.length)) inside) low

-- The box's own classes are those by the networks.

abbrev pub class_by : Bool → Bool → Bool → Option Class
class_by a b d =
    if a then if b then Some Hairpin else if d then None else Some Outbound else if b then Some Inbound else None

abbrev error_class_by : Bool → Bool → Bool → Bool → Bool → Option Class
error_class_by a b d f g =
    if a then if b then None else if d then None else if f then Some OutboundError else None
    else if b then if g then Some Inbound else None else None

abbrev pub FlowOf : Settings → ℕ → ℕ → Class → Type 0
FlowOf s source dest Outbound = GoesOut s source dest
FlowOf s source dest Hairpin = GoesRound s source dest
FlowOf s source dest Inbound = ComesIn s source dest
FlowOf s source dest OutboundError = ⊥

abbrev pub ErrorOf : Settings → IcmpError → Class → Type 0
ErrorOf s error Outbound = ⊥
ErrorOf s error Hairpin = ⊥
ErrorOf s error Inbound = ErrorComesIn s error
ErrorOf s error OutboundError = ErrorGoesOut s error

pub record AreSmall (error : IcmpError) : Type 0 where
  pub source : error.source < 2 ^ 32
  pub dest : error.dest < 2 ^ 32
  pub quoted_dest : error.quoted_dest < 2 ^ 32

module _ (s : Settings) (is : AreSettings s) where
  not_in_network : (address : ℕ) → address < 2 ^ 32 → is_inside s address ≡ false → IsOfNetwork s address → ⊥
  not_in_network address low outside bits =
      differs (address / 2 ^ (32 - s.length)) (s.inside / 2 ^ (32 - s.length)) outside
      (same_quotients address s.inside s.length (32 - s.length) (omega (arith, is.short)) low is.inside bits)

  pub flow_class : (source dest : ℕ) → source < 2 ^ 32 → dest < 2 ^ 32 → (c : Class)
      → class_of_flow s source dest ≡ Some c → FlowOf s source dest c
  flow_class source dest low high c e =
      by (is_inside s source) (dest == s.outside) (is_inside s dest) refl refl refl e
    where
      by : (a b d : Bool) → is_inside s source ≡ a → (dest == s.outside) ≡ b → is_inside s dest ≡ d
          → class_by a b d ≡ Some c → FlowOf s source dest c
      by true true d p q r e =
          let same : Hairpin ≡ c = cc in
          subst (FlowOf s source dest) same (in_network s source p, equals dest s.outside q)
      by true false true p q r e = absurd (cc)
      by true false false p q r e =
          let same : Outbound ≡ c = cc in
          subst (FlowOf s source dest) same
          (in_network s source p, differs dest s.outside q, not_in_network dest high r)
      by false true d p q r e =
          let same : Inbound ≡ c = cc in
          subst (FlowOf s source dest) same (not_in_network source low p, equals dest s.outside q)
      by false false d p q r e = absurd (cc)

  -- and where it has none, so has that
  flow_no_class : (source dest : ℕ) → source < 2 ^ 32 → dest < 2 ^ 32 → class_of_flow s source dest ≡ None
      → GoesOut s source dest ⊎ (GoesRound s source dest ⊎ ComesIn s source dest) → ⊥
  flow_no_class source dest low high e class =
      by (is_inside s source) (dest == s.outside) (is_inside s dest) refl refl refl e class
    where
      by : (a b d : Bool) → is_inside s source ≡ a → (dest == s.outside) ≡ b → is_inside s dest ≡ d
          → class_by a b d ≡ None → GoesOut s source dest ⊎ (GoesRound s source dest ⊎ ComesIn s source dest) → ⊥
      by true true d p q r e class = absurd (cc)
      by true false true p q r e (inl out) = out.2 (in_network s dest r)
      by true false true p q r e (inr (inl round)) = differs dest s.outside q round.1
      by true false true p q r e (inr (inr comes)) = differs dest s.outside q comes.1
      by true false false p q r e class = absurd (cc)
      by false true d p q r e class = absurd (cc)
      by false false d p q r e (inl out) = not_in_network source low p out.0
      by false false d p q r e (inr (inl round)) = not_in_network source low p round.0
      by false false d p q r e (inr (inr comes)) = differs dest s.outside q comes.1

  module _ (error : IcmpError) (low : AreSmall error) where
    pub error_class : (c : Class) → class_of_error s error ≡ Some c → ErrorOf s error c
    error_class c e =
        by (is_inside s error.source) (error.dest == s.outside) (is_inside s error.dest) (is_inside s error.quoted_dest)
        (error.quoted_source == s.outside) refl refl refl refl refl e
      where
        by : (a b d f g : Bool) → is_inside s error.source ≡ a → (error.dest == s.outside) ≡ b
            → is_inside s error.dest ≡ d → is_inside s error.quoted_dest ≡ f
            → (error.quoted_source == s.outside) ≡ g → error_class_by a b d f g ≡ Some c → ErrorOf s error c
        by true true d f g p q r t u e = absurd (cc)
        by true false true f g p q r t u e = absurd (cc)
        by true false false true g p q r t u e =
            let same : OutboundError ≡ c = cc in
            subst (ErrorOf s error) same (
              (
                in_network s error.source p,
                differs error.dest s.outside q,
                not_in_network error.dest low.dest r,
              ),
              in_network s error.quoted_dest t,
            )
        by true false false false g p q r t u e = absurd (cc)
        by false true d f true p q r t u e =
            let same : Inbound ≡ c = cc in
            subst (ErrorOf s error) same (
              (not_in_network error.source low.source p, equals error.dest s.outside q),
              equals error.quoted_source s.outside u,
            )
        by false true d f false p q r t u e = absurd (cc)
        by false false d f g p q r t u e = absurd (cc)

    error_no_class : class_of_error s error ≡ None → ErrorHasClass s error → ⊥
    error_no_class e class =
        by (is_inside s error.source) (error.dest == s.outside) (is_inside s error.dest) (is_inside s error.quoted_dest)
        (error.quoted_source == s.outside) refl refl refl refl refl e class
      where
        by : (a b d f g : Bool) → is_inside s error.source ≡ a → (error.dest == s.outside) ≡ b
            → is_inside s error.dest ≡ d → is_inside s error.quoted_dest ≡ f
            → (error.quoted_source == s.outside) ≡ g → error_class_by a b d f g ≡ None → ErrorHasClass s error → ⊥
        by true true d f g p q r t u e (inl out) = out.0.1 (equals error.dest s.outside q)
        by true true d f g p q r t u e (inr comes) = comes.0.0 (in_network s error.source p)
        by true false true f g p q r t u e (inl out) = out.0.2 (in_network s error.dest r)
        by true false true f g p q r t u e (inr comes) = comes.0.0 (in_network s error.source p)
        by true false false true g p q r t u e class = absurd (cc)
        by true false false false g p q r t u e (inl out) = not_in_network error.quoted_dest low.quoted_dest t out.1
        by true false false false g p q r t u e (inr comes) = comes.0.0 (in_network s error.source p)
        by false true d f true p q r t u e class = absurd (cc)
        by false true d f false p q r t u e (inl out) = not_in_network error.source low.source p out.0.0
        by false true d f false p q r t u e (inr comes) = differs error.quoted_source s.outside u comes.1
        by false false d f g p q r t u e (inl out) = not_in_network error.source low.source p out.0.0
        by false false d f g p q r t u e (inr comes) = differs error.dest s.outside q comes.0.1

-- What a packet is seen as

reason_within : (answer : NotFlow) → (1 ≤ reason_of answer) × (reason_of answer ≤ 6)
reason_within Short = (omega arith, omega arith)
reason_within NotIpv4 = (omega arith, omega arith)
reason_within BadHeaderLength = (omega arith, omega arith)
reason_within Fragment = (omega arith, omega arith)
reason_within OtherProtocol = (omega arith, omega arith)
reason_within BadTotalLength = (omega arith, omega arith)

error_none : (s : Settings) (p : Packet) → error_in s p.bytes p.original ≡ None → s.errors ≡ true
    → viewed_error p.bytes p.original ≡ None
error_none s p none on =
    sym (ap (λ (b : Bool). if b then viewed_error p.bytes p.original else None) on) ∙ none

abbrev pub SeenFlow : Settings → Packet → Type 0
SeenFlow s p = (flow : Flow) × IsFlow p flow × (seen_by s p ≡ OfFlow flow)

abbrev pub SeenError : Settings → Packet → Type 0
SeenError s p = (error : IcmpError) × IsErrorIn s p error × (seen_by s p ≡ OfError error)

abbrev pub SeenNeither : Settings → Packet → Type 0
SeenNeither s p = (answer : NotFlow) × IsNeither s p × (seen_by s p ≡ OfNeither answer)

pub seen_is : (s : Settings) (p : Packet) → SeenFlow s p ⊎ (SeenError s p ⊎ SeenNeither s p)
seen_is s p = by (viewed p.bytes p.original) refl
  where
    of_error : (answer : NotFlow) (o : Option IcmpError) → viewed p.bytes p.original ≡ Err answer
        → error_in s p.bytes p.original ≡ o → SeenFlow s p ⊎ (SeenError s p ⊎ SeenNeither s p)
    of_error answer (Some error) q e =
        inr (inl (
          error,
          error_there s p.bytes p.original error e,
          ap (seen_as s p.bytes p.original) q ∙ ap (error_or answer) e,
        ))
    of_error answer None q e =
        inr (inr (
          answer,
          (answer, q, error_none s p e),
          ap (seen_as s p.bytes p.original) q ∙ ap (error_or answer) e,
        ))

    by : (r : Result Flow NotFlow) → viewed p.bytes p.original ≡ r
        → SeenFlow s p ⊎ (SeenError s p ⊎ SeenNeither s p)
    by (Ok flow) q = inl (flow, q, ap (seen_as s p.bytes p.original) q)
    by (Err answer) q = of_error answer (error_in s p.bytes p.original) q refl

-- numbers of a frame of bytes

pub flow_small : (s : Settings) (p : Packet) (flow : Flow) → AreBytes p.bytes → seen_by s p ≡ OfFlow flow
    → (flow.source < 2 ^ 32) × (flow.dest < 2 ^ 32)
flow_small s p flow bytes seen =
    let whole = flow_whole s p flow (ap flow_in seen) bytes in (whole.source, whole.dest)

pub error_small : (p : Packet) (error : IcmpError) → AreBytes p.bytes → viewed_error p.bytes p.original ≡ Some error
    → AreSmall error
error_small p error bytes seen = subst AreSmall (error_read p.bytes p.original error seen) (record {
  source = long_fits p.bytes 26 bytes;
  dest = long_fits p.bytes 30 bytes;
  quoted_dest = long_fits p.bytes (quoted_at p.bytes + 16) bytes;
})

module _ (s : Settings) (is : AreSettings s) (p : Packet) (bytes : AreBytes p.bytes) where
  -- what the box has a class for is of it, and what it has none for is of none

  flow_needs : (flow : Flow) (c : Class) → FlowOf s flow.source flow.dest c → (c ≡ Outbound → ⊥)
      → GoesRound s flow.source flow.dest ⊎ ComesIn s flow.source flow.dest
  flow_needs flow Outbound of inward = absurd (inward refl)
  flow_needs flow Hairpin of inward = inl of
  flow_needs flow Inbound of inward = inr of
  flow_needs flow OutboundError of inward = absurd of

  error_needs : (error : IcmpError) (c : Class) → ErrorOf s error c → ErrorHasClass s error
  error_needs error Outbound of = absurd of
  error_needs error Hairpin of = absurd of
  error_needs error Inbound of = inr of
  error_needs error OutboundError of = inl of

  needs_mapping : (c : Class) → class_seen s p ≡ Some c → (c ≡ Outbound → ⊥) → NeedsMapping s p
  needs_mapping c e inward = by (seen_is s p)
    where
      by : SeenFlow s p ⊎ (SeenError s p ⊎ SeenNeither s p) → NeedsMapping s p
      by (inl (flow, q, seen)) =
          let low = flow_small s p flow bytes seen in
          let class = flow_class s is flow.source flow.dest low.0 low.1 c (sym (ap (class_in s) seen) ∙ e) in
          inl (flow, q, flow_needs flow c class inward)
      by (inr (inl (error, there, seen))) =
          let low = error_small p error bytes there.1 in
          let class = error_class s is error low c (sym (ap (class_in s) seen) ∙ e) in
          inr (error, there, error_needs error c class)
      by (inr (inr (answer, neither, seen))) =
          let none : None ≡ Some c = sym (ap (class_in s) seen) ∙ e in absurd (cc)

  needs_own : (flow : Flow) → IsFlow p flow → IsFromInside s flow → NeedsOwnMapping s p
  needs_own flow q from = (flow, q, by from)
    where
      low : (flow.source < 2 ^ 32) × (flow.dest < 2 ^ 32)
      low = flow_small s p flow bytes (ap (seen_as s p.bytes p.original) q)

      by : IsFromInside s flow → GoesOut s flow.source flow.dest ⊎ GoesRound s flow.source flow.dest
      by (inl e) = inl (flow_class s is flow.source flow.dest low.0 low.1 Outbound e)
      by (inr e) = inr (flow_class s is flow.source flow.dest low.0 low.1 Hairpin e)

  of_no_class : (flow : Flow) → flow_seen s p ≡ Ok flow → class_seen s p ≡ None → IsOfNoClass s p
  of_no_class own there e = by (seen_is s p)
    where
      by : SeenFlow s p ⊎ (SeenError s p ⊎ SeenNeither s p) → IsOfNoClass s p
      by (inl (flow, q, seen)) =
          let low = flow_small s p flow bytes seen in
          inl (flow, q, flow_no_class s is flow.source flow.dest low.0 low.1 (sym (ap (class_in s) seen) ∙ e))
      by (inr (inl (error, thus, seen))) =
          inr (
            error,
            thus,
            error_no_class s is error (error_small p error bytes thus.1)
                (sym (ap (class_in s) seen) ∙ e),
          )
      by (inr (inr (answer, neither, seen))) =
          let both : Err answer ≡ Ok own = sym (ap flow_in seen) ∙ there in absurd (cc)

  of_neither : (answer : NotFlow) → flow_seen s p ≡ Err answer → IsNeither s p
  of_neither own there = by (seen_is s p)
    where
      by : SeenFlow s p ⊎ (SeenError s p ⊎ SeenNeither s p) → IsNeither s p
      by (inl (flow, q, seen)) =
          let both : Ok flow ≡ Err own = sym (ap flow_in seen) ∙ there in absurd (cc)
      by (inr (inl (error, thus, seen))) =
          let both : Ok (flow_of_error error) ≡ Err own = sym (ap flow_in seen) ∙ there in absurd (cc)
      by (inr (inr (answer, neither, seen))) = neither

  goes_inside : GoesInside s p → NeedsMapping s p
  goes_inside (inl e) = needs_mapping Inbound e (λ q. absurd (cc))
  goes_inside (inr e) = needs_mapping Hairpin e (λ q. absurd (cc))

  counted_as : (m : Met) (reason : ℕ) → Cause s p m reason → IsCountedByClass s p reason
  counted_as m reason (inl none) =
      let low = reason_within none.0 in
      inr (inr (inr (
        of_neither none.0 none.1,
        subst (λ (r : ℕ). 1 ≤ r) (sym none.2) low.0,
        subst (λ (r : ℕ). r ≤ 6) (sym none.2) low.1,
      )))
  counted_as m reason (inr (inl stray)) = inl (of_no_class stray.0 stray.1 stray.2, stray.3)
  counted_as m reason (inr (inr (inl port))) = inr (inl (needs_own port.0 port.1 port.2, inl port.7))
  counted_as m reason (inr (inr (inr (inl mapping)))) = inr (inr (inl (goes_inside mapping.2, mapping.6)))
  counted_as m reason (inr (inr (inr (inr (inl out))))) =
      inr (inr (inl (needs_mapping OutboundError out.2 (λ q. absurd (cc)), out.8)))
  counted_as m reason (inr (inr (inr (inr (inr many))))) =
      inr (inl (needs_own many.0 many.1 many.2, inr many.9))

pub counted_by_class : CountedByClass
counted_by_class s threads inputs x earlier entry left place is bytes h act what =
    let c = drops_have_causes s threads inputs x earlier entry left place is bytes h act what in
    let taken = (thread_after earlier x.thread).taken in
    let held : IsHeld (inputs x.thread) taken (Some c.0) =
    subst (IsHeld (inputs x.thread) taken) c.3 (run_holds (nat_meaning s) threads inputs earlier h.1 x.thread) in (
      c.0,
      c.1,
      c.2,
      c.3,
      c.4,
      c.5,
      counted_as s is c.0.packet (bytes x.thread (taken - 1) c.0.packet held.1) (met_of s x.thread earlier) c.2
          c.6,
    )
