-- What performing an event comes to, from what the system promises.
use Rattle.std.proofs.Common.{◌≡◌, ℕ, List, [], drop, length, refl, sym, ap, ◌∙◌, subst, Result, Ok, Err, arith}
use Rattle.std.specs.Prelude.{All, IfOk}
use Rattle.plain_text.specs.Packets.{IsShort}
use Rattle.plain_text.specs.declared.limit.Limit.{Limit}
use Rattle.access_log.specs.declared.entry.Output.{Output}
use Rattle.plain_machine.specs.Program.{Meaning, IsLawful}
use Rattle.recovery_world.specs.declared.event.Event.{Event}
use Rattle.recovery_world.specs.World.{Setting, World as SystemWorld}
use Rattle.recovery_world.specs.Files.{packets_of}
use Rattle.recovery_laws.proofs.KeptWorlds.{any_sound, stops_sound}
use Rattle.event_replies.specs.declared.reply.Reply.{Reply as SystemReply}
use Rattle.event_replies.specs.declared.reply.Stop.{Stop}
use Rattle.event_replies.specs.declared.reply.Stop.TheVariants as stop
use Rattle.system_parts.specs.Performing.{IsStopped}
use Rattle.recovery_core.specs.Systems.{Systemed}
use Rattle.recovery_core.specs.Systems.{HasReleased, SystemStands, SystemMoves, SystemStops, RepliesAny}
use Rattle.run_writes.specs.Replies.{packets_in}
use Rattle.run_command.specs.Running.{IsSystemAt, ComesTo}
use Rattle.run_writes.proofs.ShortPackets.{released_short}

-- what taking the released outputs promises
pub record Takes {P V : Type 0} (meaning : P → Meaning V) (outputs : List Output)
    (old new : Systemed P V) : Type 0 where
  pub taken : outputs ≡ old.fresh
  pub rest : new.fresh ≡ []
  pub packets : (w : SystemWorld V) → HasReleased w old
      → (packets_in outputs ≡ packets_of (drop old.handed w.released))
      × HasReleased w new
      × (new.handed ≡ length w.released)
  pub stands : (s : Setting V) (w : SystemWorld V) → SystemStands (meaning old.parts.program) s w old
      → SystemStands (meaning old.parts.program) s w new

-- what the system promises of an event
pub record Answers {P V : Type 0} (meaning : P → Meaning V) (ev : Event) (r : Result SystemReply Stop)
    (old new : Systemed P V) : Type 0 where
  pub on : IfOk r (λ reply. SystemMoves (meaning old.parts.program) (RepliesAny ev reply) old new)
  pub limit : (limit : Limit) → r ≡ Err (stop.Limit limit)
      → SystemStops (meaning old.parts.program) (IsStopped ev limit) old new
  pub no_memory : r ≡ Err stop.NoMemory → (new.fresh ≡ old.fresh) × (new.handed ≡ old.handed)

pub comes_to : {P V : Type 0} (meaning : P → Meaning V) (ev : Event) (r : Result SystemReply Stop)
    (outputs : List Output) (old mid new : Systemed P V) → Answers meaning ev r old mid → Takes meaning outputs mid new
    → ComesTo (meaning old.parts.program) ev r outputs old new
comes_to {P} {V} meaning ev (Ok reply) outputs old mid new does takes = λ s w at.
    let moved = does.on.2 s w at.stands in
    let next = moved.0 in
    let came = takes.packets next moved.2.released in
    let handed : mid.handed ≡ length w.released = does.on.1 ∙ at.handed in
    let same : meaning mid.parts.program ≡ meaning old.parts.program = ap meaning does.on.0 in
    let here : SystemStands (meaning mid.parts.program) s next mid =
    subst (λ (m : Meaning V). SystemStands m s next mid) (sym same) moved.2 in (
      next,
      moved.1.0,
      moved.1.1,
      moved.1.2,
      came.0 ∙ ap (λ n. packets_of (drop n next.released)) handed,
      record {
        stands = subst (λ (m : Meaning V). SystemStands m s next new) same (takes.stands s next here);
        fresh = takes.rest;
        handed = came.2;
      },
    )
comes_to {P} {V} meaning ev (Err (stop.Limit limit)) outputs old mid new does takes = λ s w at.
    let stopped = does.limit limit refl in
    let there = stopped.1 s w at.stands in (
      there.0,
      there.1,
      (takes.packets there.0 there.2).0 ∙ ap (λ n. packets_of (drop n there.0.released)) (stopped.0 ∙ at.handed),
    )
comes_to {P} {V} meaning ev (Err stop.NoMemory) outputs old mid new does takes =
    λ s w at. takes.taken ∙ (does.no_memory refl).0 ∙ at.fresh

pub came_short : {P V : Type 0} (m : Meaning V) (fits : ℕ → V → Type 0) (ev : Event) (r : Result SystemReply Stop)
    (outputs : List Output) (old new : Systemed P V) → IsLawful m fits → ComesTo m ev r outputs old new
    → (s : Setting V) (w : SystemWorld V) → IsSystemAt m s w old → All IsShort s.packets
    → All IsShort (packets_in outputs)
came_short {P} {V} m fits ev r outputs old new lawful comes s w at short = go r comes
  where
    law : IsLawful s.meaning fits
    law = subst (λ (n : Meaning V). IsLawful n fits) (sym at.stands.parts.inputs.meaning) lawful

    go : (r : Result SystemReply Stop) → ComesTo m ev r outputs old new → All IsShort (packets_in outputs)
    go (Ok reply) comes =
        let came = comes s w at in
        subst (All IsShort) (sym came.4) (released_short s fits came.0 (length w.released) law short
        (any_sound s w at.stands.parts.sound ev reply.outcome came.1 came.0 came.2))
    go (Err (stop.Limit limit)) comes =
        let came = comes s w at in
        subst (All IsShort) (sym came.2) (released_short s fits came.0 (length w.released) law short
        (stops_sound s w at.stands.parts.sound ev limit came.0 came.1))
    go (Err stop.NoMemory) comes =
        subst (All IsShort) (sym (ap packets_in (comes s w at))) (λ k d low. absurd (omega arith))
