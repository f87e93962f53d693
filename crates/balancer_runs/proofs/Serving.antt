-- What is of the service, and why each other packet is dropped.
use Rattle.std.proofs.Common.{◌≡◌, ℕ, ◌-◌, ◌<◌, ◌≤◌, Bool, true, false, refl, sym, subst, inl, inr, arith, Option, Some}
use Rattle.std.proofs.Common.{None, length, get_or}
use Rattle.std.specs.Prelude.{◌==◌, ◌&&◌, cond, nat_lt, slice_get, Ok}
use Rattle.std.specs.List.{position_or_len}
use Rattle.std.proofs.lemmas.Bool.{eqb-true}
use Rattle.std.proofs.lemmas.Bool.Decides.{nat_tests}
use Rattle.std.proofs.lemmas.List.Quantifiers.{position-Some}
use Rattle.std.proofs.lemmas.List.Sums.{fails_before_first}
use Rattle.std.proofs.lemmas.Option.{slice_get-get_or, slice_get_within, get_or_from_slice_get}
use Rattle.plain_text.specs.declared.packet.Packet.{Packet}
use Rattle.packet_headers.specs.declared.flow.Flow.{Flow}
use Rattle.packet_headers.specs.declared.flow.NotFlow.{NotFlow}
use Rattle.packet_headers.specs.declared.flow.NotFlow.TheVariants.{Short, NotIpv4, BadHeaderLength, Fragment}
use Rattle.packet_headers.specs.declared.flow.NotFlow.TheVariants.{OtherProtocol, BadTotalLength}
use Rattle.packet_headers.specs.View.{viewed}
use Rattle.plain_machine.proofs.Histories.{is_eq}
use Rattle.flow_boxes.specs.Drops.{reason_of}
use Rattle.balancer_box.specs.declared.settings.Backend.{Backend}
use Rattle.balancer_box.specs.Settings.{Settings}
use Rattle.balancer_box.specs.Balancer.{is_virtual, backend_at}
use Rattle.balancer_box.specs.Emissions.{Trail, trail_of, IsSentOnOf}
use Rattle.balancer_box.proofs.Emissions.{emissions_follow}
use Rattle.balancer_runs.specs.Causes.{HasCause, IsUnconnected}
use Rattle.balancer_runs.specs.Serving.{GoesToService, ComesFromBackend, IsOfService, SentAreOfService, HasReason}
use Rattle.balancer_runs.specs.Serving.{StraysAreOfNone}
use Rattle.balancer_runs.proofs.Known.{both}
use Rattle.balancer_runs.proofs.DropCauses.{drops_have}

module _ (s : Settings) (flow : Flow) where
  goes_to_service : is_virtual s flow.dest flow.dest_port ≡ true → GoesToService s flow
  goes_to_service q =
      let k = both (flow.dest == s.address) (flow.dest_port == s.port) q in (eqb-true _ _ k.0, eqb-true _ _ k.1)

  goes_elsewhere : is_virtual s flow.dest flow.dest_port ≡ false → GoesToService s flow → ⊥
  goes_elsewhere q k =
      let a : (flow.dest == s.address) ≡ true = is_eq flow.dest s.address k.0 in
      let b : (flow.dest_port == s.port) ≡ true = is_eq flow.dest_port s.port k.1 in
      let both_are : ((flow.dest == s.address) && (flow.dest_port == s.port)) ≡ true = rw (a, b) refl in
      absurd (cc)

  abbrev is_source : Backend → Bool
  is_source b = (b.address == flow.source) && (b.port == flow.source_port)

  comes_from_backend : (number : ℕ) → backend_at s.backends flow.source flow.source_port ≡ Some number
      → ComesFromBackend s flow
  comes_from_backend number e =
      let nowhere : Backend = record { address = 0; port = 0 } in
      let at = position-Some is_source s.backends number nowhere e in
      let backend : Backend = get_or s.backends number nowhere in
      let k = both (backend.address == flow.source) (backend.port == flow.source_port) at.1 in (
        number,
        backend,
        slice_get-get_or s.backends number nowhere at.0,
        sym (eqb-true _ _ k.0),
        sym (eqb-true _ _ k.1),
      )

  comes_from_none : backend_at s.backends flow.source flow.source_port ≡ None → ComesFromBackend s flow → ⊥
  comes_from_none e (number, backend, there, address, port) = by (nat_lt first (length s.backends)) refl e
    where
      first : ℕ
      first = position_or_len is_source s.backends

      is : is_source backend ≡ true
      is =
          let a : (backend.address == flow.source) ≡ true = is_eq backend.address flow.source (sym address) in
          let b : (backend.port == flow.source_port) ≡ true = is_eq backend.port flow.source_port (sym port) in
          rw (a, b) refl

      by : (b : Bool) → nat_lt first (length s.backends) ≡ b → cond b (Some first) None ≡ None → ⊥
      by true q e = absurd (cc)
      by false q e =
          let low : number < length s.backends = slice_get_within s.backends number backend there in
          let past : length s.backends ≤ first = grind (arith, nat_tests) in
          let not_it : is_source (get_or s.backends number backend) ≡ false =
          fails_before_first is_source s.backends number backend (omega (arith, low, past)) in
          let same = get_or_from_slice_get s.backends number backend backend there in
          let not_this : is_source backend ≡ false = subst (λ (b : Backend). is_source b ≡ false) same not_it in
          absurd (cc (is, not_this))

  is_of_none : is_virtual s flow.dest flow.dest_port ≡ false
      → backend_at s.backends flow.source flow.source_port ≡ None → IsOfService s flow → ⊥
  is_of_none off none (inl k) = goes_elsewhere off k
  is_of_none off none (inr k) = comes_from_none none k

  is_unconnected : (r : Trail) → IsUnconnected s flow r → IsOfService s flow
  is_unconnected r (es, now, found, clock, inl k) = inl (goes_to_service k.0)
  is_unconnected r (es, now, found, clock, inr k) = inr (comes_from_backend k.1 k.2)

pub sent_are_of_service : SentAreOfService
sent_are_of_service s threads inputs x earlier o is bytes h sent =
    let f = emissions_follow s threads inputs x earlier o is bytes h sent in
    (f.0, by (slice_get (inputs x.thread) (o.input - 1)) refl f.1)
  where
    by : (i : Option Packet) → slice_get (inputs x.thread) (o.input - 1) ≡ i
        → IsSentOnOf s (trail_of s x.thread earlier) o.packet.bytes i
        → (p : Packet) × (flow : Flow) × (slice_get (inputs x.thread) (o.input - 1) ≡ Some p)
        × (viewed p.bytes p.original ≡ Ok flow) × IsOfService s flow
    by None e k = absurd k
    by (Some p) e (flow, there, inl k) = (p, flow, e, there, inl (goes_to_service s flow k.0))
    by (Some p) e (flow, there, inr (off, (number, at, met, frame))) =
        (p, flow, e, there, inr (comes_from_backend s flow number at))

-- the reasons of frames that are no flows
no_flow : (why : NotFlow) → (1 ≤ reason_of why) × (reason_of why ≤ 6)
no_flow Short = (omega arith, omega arith)
no_flow NotIpv4 = (omega arith, omega arith)
no_flow BadHeaderLength = (omega arith, omega arith)
no_flow Fragment = (omega arith, omega arith)
no_flow OtherProtocol = (omega arith, omega arith)
no_flow BadTotalLength = (omega arith, omega arith)

has_reason : (s : Settings) (r : Trail) (p : Packet) (reason : ℕ) → HasCause s r p reason → HasReason s p reason
has_reason s r p reason (inl (why, seen, is)) =
    let k = subst (λ (n : ℕ). (1 ≤ n) × (n ≤ 6)) (sym is) (no_flow why) in inl (why, seen, k.0, k.1)
has_reason s r p reason (inr (flow, seen, inl k)) =
    inr (flow, seen, inr (k.0, is_of_none s flow k.1.0 k.1.1))
has_reason s r p reason (inr (flow, seen, inr k)) = inr (flow, seen, inl (k.0, is_unconnected s flow r k.1))

pub strays_are_of_none : StraysAreOfNone
strays_are_of_none s threads inputs x earlier entry place left is bytes h act what =
    let d = drops_have s threads inputs x earlier entry place left is bytes h act what in
    (d.0, d.1, d.2, has_reason s (trail_of s x.thread earlier) d.0.packet d.1 d.3, d.4)
