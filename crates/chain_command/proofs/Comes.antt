-- What performing an event of a chain comes to, from what the chain promises.
use Rattle.std.proofs.Common.{◌≡◌, ℕ, List, [], drop, length, refl, sym, ap, ◌∙◌, subst, Result, Ok, Err, inl, inr}
use Rattle.std.specs.Prelude.{All}
use Rattle.plain_text.specs.Packets.{IsShort}
use Rattle.plain_text.specs.declared.limit.Limit.{Limit}
use Rattle.plain_text.specs.declared.packet.Packet.{Packet}
use Rattle.access_log.specs.declared.entry.Output.{Output}
use Rattle.plain_machine.specs.Program.{Meaning, IsLawful}
use Rattle.recovery_world.specs.World.{Setting, World as SystemWorld}
use Rattle.recovery_world.specs.Files.{packets_of}
use Rattle.recovery_laws.specs.Sound.{Sound}
use Rattle.recovery_laws.proofs.KeptWorlds.{stops_sound}
use Rattle.event_replies.specs.declared.reply.Reply.{Reply as SystemReply}
use Rattle.chain_box.specs.FromRecoveryCore.{Systemed, HasReleased}
use Rattle.run_writes.specs.Replies.{packets_in, newly_released}
use Rattle.run_writes.proofs.ShortPackets.{released_short}
use Rattle.chain_world.specs.declared.chain_event.ChainEvent.{ChainEvent}
use Rattle.chain_world.specs.Chain.{Chained, behind, StopsChain}
use Rattle.chain_box.specs.Chains.{TwoSystems, ChainStands, MovesBoth, HaltsBoth, RepliesInChain, StopsInChain}
use Rattle.chain_command.specs.Running.{IsChainAt, IsSomewhere, ComesTo}

-- what taking the released outputs promises
pub record Takes {P V Q U : Type 0} (mean : P → Meaning V) (other : Q → Meaning U) (middle released : List Output)
    (old new : TwoSystems P V Q U) : Type 0 where
  pub rest : (new.first.fresh ≡ []) × (new.second.fresh ≡ [])
  pub middle_packets : (c : Chained V U) → HasReleased c.first old.first
      → (packets_in middle ≡ packets_of (drop old.first.handed c.first.released))
      × HasReleased c.first new.first
      × (new.first.handed ≡ length c.first.released)
  pub released_packets : (c : Chained V U) → HasReleased c.second old.second
      → (packets_in released ≡ packets_of (drop old.second.handed c.second.released))
      × HasReleased c.second new.second
      × (new.second.handed ≡ length c.second.released)
  pub stands : (s : Setting V) (r : Setting U) (c : Chained V U)
      → ChainStands (mean old.first.parts.program) (other old.second.parts.program) s r c old.first old.second
      → ChainStands (mean old.first.parts.program) (other old.second.parts.program) s r c new.first new.second
  pub first_program : new.first.parts.program ≡ old.first.parts.program
  pub second_program : new.second.parts.program ≡ old.second.parts.program

-- the meanings of the same programs
pub stand_same : {P V Q U : Type 0} (mean : P → Meaning V) (other : Q → Meaning U) (a b : P) (x y : Q) (s : Setting V)
    (r : Setting U) (c : Chained V U) (first : Systemed P V) (second : Systemed Q U) → a ≡ b → x ≡ y
    → ChainStands (mean a) (other x) s r c first second → ChainStands (mean b) (other y) s r c first second
stand_same {P} {V} {Q} {U} mean other a b x y s r c first second p q h =
    subst (λ (k : Q). ChainStands (mean b) (other k) s r c first second) q
    (subst (λ (k : P). ChainStands (mean k) (other x) s r c first second) p h)

module _ {P V Q U : Type 0} (mean : P → Meaning V) (other : Q → Meaning U) (ev : ChainEvent)
    (middle released : List Output) (old mid new : TwoSystems P V Q U)
    (takes : Takes mean other middle released mid new) where
  pub replies : (reply : SystemReply)
      → MovesBoth (mean old.first.parts.program) (other old.second.parts.program) (RepliesInChain ev reply) old mid
      → ComesTo mean other ev (Ok reply) (packets_in middle) (packets_in released) old new
  replies reply moves = λ s r c at.
      let k = moves.4 s r c at.stands in
      let one = takes.middle_packets k.0 k.2.at_first.released in
      let two = takes.released_packets k.0 k.2.at_second.released in
      let there = stand_same mean other old.first.parts.program mid.first.parts.program old.second.parts.program
      mid.second.parts.program s r k.0 mid.first mid.second (sym moves.0) (sym moves.1) k.2 in (
        k.0,
        k.1.0,
        k.1.1,
        k.1.2,
        one.0 ∙ ap (λ n. packets_of (drop n k.0.first.released)) (moves.2 ∙ at.first_handed),
        two.0 ∙ ap (λ n. packets_of (drop n k.0.second.released)) (moves.3 ∙ at.second_handed),
        record {
          stands = stand_same mean other mid.first.parts.program new.first.parts.program mid.second.parts.program
              new.second.parts.program s r k.0 new.first new.second (sym takes.first_program)
              (sym takes.second_program) (takes.stands s r k.0 there);
          first_fresh = takes.rest.0;
          first_handed = one.2;
          second_fresh = takes.rest.1;
          second_handed = two.2;
        },
      )

  pub halts : (limit : Limit)
      → HaltsBoth (mean old.first.parts.program) (other old.second.parts.program) (StopsInChain ev limit) old mid
      → ComesTo mean other ev (Err limit) (packets_in middle) (packets_in released) old new
  halts limit stops = λ s r c at.
      let k = stops.2 s r c at.stands in (
        k.0,
        k.1,
        (takes.middle_packets k.0 k.2).0 ∙ ap (λ n. packets_of (drop n k.0.first.released))
            (stops.0 ∙ at.first_handed),
        (takes.released_packets k.0 k.3).0 ∙ ap (λ n. packets_of (drop n k.0.second.released))
            (stops.1 ∙ at.second_handed),
      )

-- What was released is short enough for a record, where the packets of the capture are.

module _ {V U : Type 0} (s : Setting V) (r : Setting U) (fits : ℕ → V → Type 0) (fits_second : ℕ → U → Type 0)
    (law : IsLawful s.meaning fits) (second_law : IsLawful r.meaning fits_second) (short : All IsShort s.packets) where
  second_short : (w : SystemWorld V) (v : SystemWorld U) (n : ℕ) → Sound s w → Sound (behind r w) v
      → All IsShort (packets_of (drop n v.released))
  second_short w v n sound second_sound =
      released_short (behind r w) fits_second v n second_law (released_short s fits w 0 law short sound) second_sound

  worlds_short : (c next : Chained V U) (middle released : List Packet) → Sound s next.first
      → Sound (behind r next.first) next.second → middle ≡ newly_released c.first next.first
      → released ≡ newly_released c.second next.second → All IsShort middle × All IsShort released
  worlds_short c next middle released sound second_sound one two = (
    subst (All IsShort) (sym one) (released_short s fits next.first (length c.first.released) law short sound),
    subst (All IsShort) (sym two)
        (second_short next.first next.second (length c.second.released) sound second_sound),
  )

  stopped_short : (c next : Chained V U) (ev : ChainEvent) (limit : Limit) (middle released : List Packet)
      → Sound s c.first → Sound (behind r c.first) c.second → StopsChain s r c ev limit next
      → middle ≡ newly_released c.first next.first → released ≡ newly_released c.second next.second
      → All IsShort middle × All IsShort released
  stopped_short c next ev limit middle released sound second_sound (inl (one, stops, same)) is other = (
    subst (All IsShort) (sym is) (released_short s fits next.first (length c.first.released) law short
        (stops_sound s c.first sound ev.event limit next.first stops)),
    subst (All IsShort) (sym (other ∙ ap (λ (w : SystemWorld U). newly_released c.second w) same))
        (second_short c.first c.second (length c.second.released) sound second_sound),
  )
  stopped_short c next ev limit middle released sound second_sound (inr (two, stops, same)) is other = (
    subst (All IsShort) (sym (is ∙ ap (λ (w : SystemWorld V). newly_released c.first w) same))
        (released_short s fits c.first (length c.first.released) law short sound),
    subst (All IsShort) (sym other) (second_short c.first next.second (length c.second.released) sound
        (stops_sound (behind r c.first) c.second second_sound ev.event limit next.second stops)),
  )

pub came_short : {P V Q U : Type 0} (mean : P → Meaning V) (other : Q → Meaning U) (fits : ℕ → V → Type 0)
    (fits_second : ℕ → U → Type 0) (ev : ChainEvent) (reply : Result SystemReply Limit) (middle released : List Packet)
    (old new : TwoSystems P V Q U) → IsLawful (mean old.first.parts.program) fits
    → IsLawful (other old.second.parts.program) fits_second → ComesTo mean other ev reply middle released old new
    → IsSomewhere mean other old → All IsShort middle × All IsShort released
came_short {P} {V} {Q} {U} mean other fits fits_second ev reply middle released old new lawful second_lawful comes
    (s, r, c, at, short) = go reply comes
  where
    law : IsLawful s.meaning fits
    law = subst (λ (n : Meaning V). IsLawful n fits) (sym at.stands.at_first.parts.inputs.meaning) lawful

    second_law : IsLawful r.meaning fits_second
    second_law =
        subst (λ (n : Meaning U). IsLawful n fits_second) (sym at.stands.at_second.parts.inputs.meaning) second_lawful

    go : (reply : Result SystemReply Limit) → ComesTo mean other ev reply middle released old new
        → All IsShort middle × All IsShort released
    go (Ok reply) comes =
        let came = comes s r c at in
        worlds_short s r fits fits_second law second_law short c came.0 middle released
        came.6.stands.at_first.parts.sound came.6.stands.at_second.parts.sound came.4 came.5
    go (Err limit) comes =
        let came = comes s r c at in
        stopped_short s r fits fits_second law second_law short c came.0 ev limit middle released
        at.stands.at_first.parts.sound at.stands.at_second.parts.sound came.1 came.2 came.3
