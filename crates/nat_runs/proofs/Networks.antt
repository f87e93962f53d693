-- Classes by the bits of addresses: what is sent out, counted and mapped.
use Rattle.std.proofs.Common.{◌≡◌, ℕ, ◌-◌, Bool, true, false, List, [], ◌∷◌, refl, sym, ap, ◌∙◌, subst, ◌⊎◌, inl, inr}
use Rattle.std.proofs.Common.{Option, Some, None}
use Rattle.std.specs.Prelude.{◌==◌, cond, nat_eq, slice_get}
use Rattle.plain_text.specs.declared.packet.Packet.{Packet}
use Rattle.packet_headers.specs.declared.flow.Flow.{Flow}
use Rattle.packet_headers.specs.Fields.{AreBytes}
use Rattle.icmp_errors.specs.declared.error.IcmpError.{IcmpError}
use Rattle.entry_order.specs.declared.what.What.{What}
use Rattle.entry_order.specs.declared.what.What.TheVariants.{Access, Read, Clock, Draw}
use Rattle.plain_machine.specs.Machine.{Hand}
use Rattle.plain_machine.specs.History.{Act, Took, Did, Emitted, Ended, Step, thread_after, value_after, IsHistory}
use Rattle.nat_tables.specs.declared.entries.Endpoint.{Endpoint}
use Rattle.nat_tables.specs.declared.slot.Slot.{Slot}
use Rattle.flow_boxes.specs.Flows.{HaveBytes}
use Rattle.nat_box.specs.declared.place.Class.{Class}
use Rattle.nat_box.specs.declared.place.Class.TheVariants.{Outbound, Hairpin, Inbound, OutboundError}
use Rattle.nat_box.specs.declared.seeing.Seen.{Seen}
use Rattle.nat_box.specs.declared.seeing.Seen.TheVariants.{OfFlow, OfError}
use Rattle.nat_box.specs.declared.value.NatValue.{NatValue}
use Rattle.nat_box.specs.declared.value.NatValue.TheVariants.{Mapped}
use Rattle.nat_box.specs.Settings.{Settings, AreSettings}
use Rattle.nat_box.specs.Nat.{is_inside, seen_by, class_in, class_seen, nat_meaning}
use Rattle.nat_box.specs.Sentences.{Has, mappings_in}
use Rattle.nat_box.specs.Emissions.{Trail, trail_by, trail_by_what, trail_of, Lived, IsTranslated, IsTranslationOf}
use Rattle.nat_box.proofs.Emissions.{emissions_translate}
use Rattle.nat_runs.specs.Classes.{IsFromInside}
use Rattle.nat_runs.specs.Causes.{IsFlow}
use Rattle.nat_runs.specs.Refreshing.{ComesFrom}
use Rattle.nat_runs.specs.Networks.{IsOfNetwork, IsErrorIn, MayReach, IsSentByClass, SentByClass, MappingsAreInside}
use Rattle.nat_runs.proofs.TableEntries.{lives_is}
use Rattle.nat_runs.proofs.Refreshing.{hosts_refresh}
use Rattle.nat_runs.proofs.StaticSources.{only_they_start}
use Rattle.nat_runs.proofs.NetworkClasses.{in_network, class_by, FlowOf, ErrorOf, flow_class, SeenFlow, SeenError}
use Rattle.nat_runs.proofs.NetworkClasses.{SeenNeither, seen_is, flow_small, error_small, error_class}

-- Mappings

inside_source : (s : Settings) (flow : Flow) → IsFromInside s flow → is_inside s flow.source ≡ true
inside_source s flow from =
    by (is_inside s flow.source) (flow.dest == s.outside) (is_inside s flow.dest) refl from
  where
    by : (a b d : Bool) → is_inside s flow.source ≡ a
        → (class_by a b d ≡ Some Outbound) ⊎ (class_by a b d ≡ Some Hairpin) → is_inside s flow.source ≡ true
    by true b d p from = p
    by false true d p (inl e) = absurd (cc)
    by false true d p (inr e) = absurd (cc)
    by false false d p (inl e) = absurd (cc)
    by false false d p (inr e) = absurd (cc)

all_reach : (s : Settings) (threads : ℕ) (inputs : ℕ → List Packet) (steps : List (Step NatValue)) → AreSettings s
    → HaveBytes inputs → IsHistory (nat_meaning s) inputs threads steps → (v : ℕ) (key : Endpoint) (slot : Slot)
    → Has (mappings_in (value_after (nat_meaning s) steps v)) (key, slot) → MayReach s slot.port key
all_reach s threads inputs [] is bytes h v key slot there = inr ((only_they_start s v).0 key slot there).0
all_reach s threads inputs (x ∷ earlier) is bytes h v key slot there =
    by (hosts_refresh s threads inputs x earlier v key slot is bytes h there)
    (λ old. all_reach s threads inputs earlier is bytes h.1 v key slot old)
  where
    by : Has (mappings_in (value_after (nat_meaning s) earlier v)) (key, slot)
        ⊎ ((g : Hand) × ((thread_after earlier x.thread).hand ≡ Some g) × ComesFrom s key g.packet)
        → (Has (mappings_in (value_after (nat_meaning s) earlier v)) (key, slot) → MayReach s slot.port key)
        → MayReach s slot.port key
    by (inl old) rest = rest old
    by (inr (g, held, (flow, q, own, from))) rest =
        inl (subst (λ (k : Endpoint). IsOfNetwork s k.address) own
        (in_network s flow.source (inside_source s flow from)))

pub mappings_are_inside : MappingsAreInside
mappings_are_inside s threads inputs steps v key slot is bytes h there =
    all_reach s threads inputs steps is bytes h v key slot there.1

-- and so is each mapping that a packet read

abbrev Reaches : Settings → Trail → Type 0
Reaches s r =
    (x : NatValue) → r.read ≡ Some x → (key : Endpoint) (slot : Slot) → Has (mappings_in x) (key, slot)
    → MayReach s slot.port key

read_reaches : (s : Settings) (threads : ℕ) (inputs : ℕ → List Packet) (steps : List (Step NatValue)) → AreSettings s
    → HaveBytes inputs → IsHistory (nat_meaning s) inputs threads steps → (t : ℕ) → Reaches s (trail_of s t steps)
read_reaches s threads inputs [] is bytes h t = λ x e key slot there. absurd (cc)
read_reaches s threads inputs (y ∷ earlier) is bytes h t =
    by (nat_eq y.thread t) (read_reaches s threads inputs earlier is bytes h.1 t)
  where
    before : Trail
    before = trail_of s t earlier

    of_what : (w : What) (left : Option NatValue) → Reaches s before
        → Reaches s (trail_by_what earlier s left before w)
    of_what (Access v place) left old = old
    of_what (Read v after) left old = λ x e key slot there.
        let same : value_after (nat_meaning s) earlier v ≡ x = cc in
        all_reach s threads inputs earlier is bytes h.1 v key slot
        (subst (λ (z : NatValue). Has (mappings_in z) (key, slot)) (sym same) there)
    of_what (Clock a) left old = old
    of_what (Draw a) left old = old

    of_act : (a : Act NatValue) → Reaches s before → Reaches s (trail_by earlier s a before)
    of_act (Took k) old = λ x e key slot there. absurd (cc)
    of_act (Did entry left) old = of_what entry.what left old
    of_act (Emitted o) old = old
    of_act (Ended k) old = old

    by : (b : Bool) → Reaches s before → Reaches s (cond b (trail_by earlier s y.act before) before)
    by true old = of_act y.act old
    by false old = old

lived_reaches : (s : Settings) (r : Trail) (key : Endpoint) (port : ℕ) → Reaches s r → Lived r key port
    → MayReach s port key
lived_reaches s r key port reach (es, now, read, clock, lives) =
    let used = lives_is key port now es lives in
    subst (λ (n : ℕ). MayReach s n key) used.2 (reach (Mapped es) read key used.0 used.1)

-- What is sent out

module _ (s : Settings) (is : AreSettings s) (r : Trail) (reach : Reaches s r) (p : Packet)
    (bytes : AreBytes p.bytes) (sent : List ℕ) where
  flow_sent : (flow : Flow) (c : Class) → IsFlow p flow → FlowOf s flow.source flow.dest c
      → IsTranslated s p.bytes (OfFlow flow) r sent c → IsSentByClass s sent (Some p)
  flow_sent flow Outbound q class (port, was, e) = inl (flow, q, class, port, e)
  flow_sent flow Hairpin q class (port, key, was, same, lived, e) =
      inr (inl (flow, q, class, port, key, lived_reaches s r key flow.dest_port reach lived, e))
  flow_sent flow Inbound q class (key, same, lived, e) =
      inr (inr (inl (flow, q, class, key, lived_reaches s r key flow.dest_port reach lived, e)))
  flow_sent flow OutboundError q class done = absurd class

  error_sent : (error : IcmpError) (c : Class) → IsErrorIn s p error → ErrorOf s error c
      → IsTranslated s p.bytes (OfError error) r sent c → IsSentByClass s sent (Some p)
  error_sent error Outbound there class done = absurd class
  error_sent error Hairpin there class done = absurd class
  error_sent error Inbound there class (key, same, lived, e) =
      inr (inr (inr (inr (
        error,
        there,
        class,
        key,
        lived_reaches s r key error.quoted_source_port reach lived,
        e,
      ))))
  error_sent error OutboundError there class (port, lived, e) =
      inr (inr (inr (inl (error, there, class, port, e))))

  sent_by : (c : Class) → class_seen s p ≡ Some c → IsTranslated s p.bytes (seen_by s p) r sent c
      → IsSentByClass s sent (Some p)
  sent_by c e done = by (seen_is s p)
    where
      by : SeenFlow s p ⊎ (SeenError s p ⊎ SeenNeither s p) → IsSentByClass s sent (Some p)
      by (inl (flow, q, seen)) =
          let low = flow_small s p flow bytes seen in
          flow_sent flow c q
          (flow_class s is flow.source flow.dest low.0 low.1 c (sym (ap (class_in s) seen) ∙ e))
          (subst (λ (z : Seen). IsTranslated s p.bytes z r sent c) seen done)
      by (inr (inl (error, there, seen))) =
          error_sent error c there
          (error_class s is error (error_small p error bytes there.1) c (sym (ap (class_in s) seen) ∙ e))
          (subst (λ (z : Seen). IsTranslated s p.bytes z r sent c) seen done)
      by (inr (inr (answer, neither, seen))) =
          let none : None ≡ Some c = sym (ap (class_in s) seen) ∙ e in absurd (cc)

pub sent_by_class : SentByClass
sent_by_class s threads inputs x earlier o is bytes h sent =
    by (slice_get (inputs x.thread) (o.input - 1)) refl
    (emissions_translate s threads inputs x earlier o is bytes h sent).1
  where
    r : Trail
    r = trail_of s x.thread earlier

    by : (input : Option Packet) → slice_get (inputs x.thread) (o.input - 1) ≡ input
        → IsTranslationOf s r o.packet.bytes input → IsSentByClass s o.packet.bytes input
    by None q done = absurd done
    by (Some p) q (c, e, done) =
        sent_by s is r (read_reaches s threads inputs earlier is bytes h.1 x.thread) p
        (bytes x.thread (o.input - 1) p q) o.packet.bytes c e done
