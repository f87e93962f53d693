-- The events of a strategy, one after another.
use Rattle.std.proofs.Common.{◌≡◌, ℕ, ◌-◌, ◌<◌, length, Some, None, sym, ◌∙◌, subst}
use Rattle.plain_text.specs.declared.limit.Limit.{Limit}
use Rattle.plain_machine.specs.Program.{Meaning}
use Rattle.recovery_world.specs.declared.event.Event.{Event}
use Rattle.recovery_world.specs.declared.event.Outcome.TheVariants as outcome
use Rattle.recovery_world.specs.World.{Setting, World}
use Rattle.recovery_world.specs.Limits.{OnWithin, Passes}
use Rattle.recovery_world.specs.Strategies.{Follows, Ends, Halts, Goes}
use Rattle.recovery_world.specs.Many.{goes_on, summary_of}
use Rattle.event_replies.specs.declared.reply.Reply.{Reply}
use Rattle.system_parts.specs.Parts.{Parts}
use Rattle.system_parts.specs.SystemStanding.{StandsFor}
use Rattle.system_parts.specs.Performing.{MovesOn, Replies, WouldPass}
use Rattle.system_parts.proofs.EventChains.{threads_of_setting}
use Rattle.several_events.specs.declared.progress.Progress.{Progress}
use Rattle.several_events.specs.Progressing.{to_do, after_of, IsInPhase, IsNext, IsOver, StandsAt}
use Rattle.several_events.specs.Progressing.{Reaches, Comes, SumsUp}
use Rattle.system_parts.proofs.ReadLemmas.{released_count}

-- it goes on from where it began
pub reaches_none : {V : Type 0} (s : Setting V) (w : World V) (at : Progress) → Reaches at at s w w
reaches_none s w at = λ q is. (q, is, λ end new rest. rest)

module _ {P V : Type 0} (m : Meaning V) (y : Parts P V) (s : Setting V) (w here : World V) (st : StandsFor m s here y)
    (from at : Progress) where
  -- nothing more is done
  pub reaches_end : IsOver m y at → Reaches from at s w here → Comes from None s w here
  reaches_end over a = λ q is. let k = a q is in k.2 None here (Ends k.0 here (over s here k.0 st k.1))

  -- the next event would pass a limit
  pub reaches_halt : (next : World V) (ev : Event) (further : Progress) (limit : Limit) → IsNext m y at ev further
      → Reaches from at s w here → WouldPass ev limit s here next → Comes from (Some limit) s w next
  reaches_halt next ev further limit chosen a b = λ q is.
      let k = a q is in
      let c = chosen.chosen s here k.0 st k.1 in
      subst (λ (z : World V). Follows s (goes_on s) q w (Some limit) z) (sym b.1) (k.2 (Some limit) here
      (Halts k.0 here c.0 limit c.1 (subst (λ (e : Event). Passes s here e limit) (sym c.2) b.0)))

  -- it goes on by one event more
  pub reaches_more : (next : World V) (ev : Event) (further then : Progress) (reply : Reply) → IsNext m y at ev further
      → then ≡ after_of y.inputs.threads further ev reply.outcome → Reaches from at s w here
      → Replies ev reply s here next → Reaches from then s w next
  reaches_more next ev further then reply chosen is a b = λ q at_is.
      let k = a q at_is in
      let c = chosen.chosen s here k.0 st k.1 in (
        c.0.leads_to reply.outcome,
        subst (λ (g : Progress). IsInPhase s next g (c.0.leads_to reply.outcome)) (sym is)
            (c.3 reply.outcome b.0 next b.1),
        λ end new rest. k.2 end new (Goes k.0 here c.0 reply.outcome b.0 c.1
            (subst (λ (e : Event). OnWithin s here e reply.outcome b.0 next) (sym c.2) b.1) rest),
      )

-- Less is to be done behind an event.
pub reaches_falls : {P V : Type 0} (m : Meaning V) (R : Setting V → World V → World V → Type 0)
    (from at further then : Progress) (ev : Event) (reply : Reply) (old mid new : Parts P V) → StandsAt m old from
    → MovesOn m R old mid → ((s : Setting V) (w here : World V) → R s w here → Reaches from at s w here)
    → IsNext m mid at ev further → then ≡ after_of mid.inputs.threads further ev reply.outcome
    → (S : Setting V → World V → World V → Type 0) → MovesOn m S mid new
    → ((s : Setting V) (w here : World V) → S s w here → Replies ev reply s w here)
    → to_do new.inputs.threads (length new.left) new.moves
    then < to_do mid.inputs.threads (length mid.left) mid.moves at
reaches_falls {P} {V} m R from at further then ev reply old mid new begun moved reach chosen is S went replies =
    let s = begun.0 in
    let k = moved.1 s begun.1 begun.2 in
    let here = k.0 in
    let q = reach s begun.1 here k.1 begun.3 begun.4 in
    let l = went.1 s here k.2 in
    let next = l.0 in
    let b = replies s here next l.1 in
    let less = chosen.falls s here q.0 k.2 q.1 reply.outcome b.0 next b.1 (length new.left) in
    let threads : new.inputs.threads ≡ mid.inputs.threads =
    threads_of_setting m s next new l.2 ∙ sym (threads_of_setting m s here mid k.2) in
    as_now threads (sym l.2.master.moves) k.2.master.moves less
  where
    as_now : {a c : ℕ} → new.inputs.threads ≡ mid.inputs.threads → a ≡ new.moves → mid.moves ≡ c
        → to_do mid.inputs.threads (length new.left) a (after_of mid.inputs.threads further ev reply.outcome)
        < to_do mid.inputs.threads (length mid.left) c at
        → to_do new.inputs.threads (length new.left) new.moves
        then < to_do mid.inputs.threads (length mid.left) mid.moves at
    as_now {a} {c} threads now before less =
        subst
        (λ (n : ℕ). to_do n (length new.left) new.moves then < to_do mid.inputs.threads (length mid.left) mid.moves at)
        (sym threads)
        (subst (λ (g : Progress).
        to_do mid.inputs.threads (length new.left) new.moves g
        < to_do mid.inputs.threads (length mid.left) mid.moves at) (sym is)
        (subst (λ (n : ℕ).
        to_do mid.inputs.threads (length new.left) n (after_of mid.inputs.threads further ev reply.outcome)
        < to_do mid.inputs.threads (length mid.left) mid.moves at) now
        (subst (λ (n : ℕ).
        to_do mid.inputs.threads (length new.left) a (after_of mid.inputs.threads further ev reply.outcome)
        < to_do mid.inputs.threads (length mid.left) n at) (sym before) less)))

-- It came to its end, and is summed up.
pub sums_up : {P V : Type 0} (m : Meaning V) (s : Setting V) (w next : World V) (old new : Parts P V) (from : Progress)
    (moves released epoch : ℕ) → StandsFor m s w old → StandsFor m s next new → moves ≡ new.moves - old.moves
    → released ≡ length new.released - length old.released → epoch ≡ new.logger.epoch → Comes from None s w next
    → SumsUp from (outcome.Summary moves released epoch) s w next
sums_up {P} {V} m s w next old new from moves released epoch st sn a b d comes = (comes, sums)
  where
    moves_are : moves ≡ next.moves - w.moves
    moves_are = let x = st.master.moves in let y = sn.master.moves in cc

    released_are : released ≡ length next.released - length w.released
    released_are = let x = released_count m s w old st in let y = released_count m s next new sn in cc

    epoch_is : epoch ≡ next.epoch
    epoch_is = d ∙ sn.logger.epoch

    sums : outcome.Summary moves released epoch ≡ summary_of w next
    sums = let x = moves_are in let y = released_are in let z = epoch_is in cc
