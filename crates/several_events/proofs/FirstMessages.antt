-- The first of the messages that the strategy goes on with.
use Rattle.std.proofs.Common.{◌≡◌, ℕ, zero, suc, nat_lt, if◌then◌else◌, Bool, true, false, List, [], ◌∷◌, Some, None}
use Rattle.std.proofs.Common.{refl, ap, ◌∙◌}
use Rattle.plain_text.specs.declared.kind.Kind.{Kind}
use Rattle.plain_text.specs.declared.kind.Kind.TheVariants as kind
use Rattle.recovery_world.specs.declared.event.Event.{Event}
use Rattle.recovery_world.specs.declared.event.Event.TheVariants as event
use Rattle.recovery_world.specs.declared.event.Outcome.{Outcome}
use Rattle.recovery_world.specs.World.{Setting, World}
use Rattle.recovery_world.specs.Strategies.{Choice}
use Rattle.recovery_world.specs.Many.{Message, arrival, arrival_of, all_messages, Phase, Steps, Arrives, first_of}
use Rattle.recovery_world.specs.Many.{at_rest, after_step, goes_on}
use Rattle.several_events.specs.Progressing.{messages_from}
use Rattle.several_events.proofs.ToArrive.{BeginsOut, NoneIs}

pub record Split (messages : List Message) (c : Choice Phase) : Type 0 where
  pub first : Message
  pub rest : List Message
  pub are : messages ≡ first ∷ rest
  pub choice : c ≡ record { event = arrival first; leads_to = λ to. Arrives rest }

pub split : (messages : List Message) (c : Choice Phase) → first_of messages ≡ Some c → Split messages c
split [] c is = absurd (cc)
split (m ∷ rest) c is = record { first = m; rest = rest; are = refl; choice = cc }

pub first_none : (messages : List Message) → first_of messages ≡ None → BeginsOut messages
first_none [] is = NoneIs
first_none (m ∷ rest) is = absurd (cc)

of_log : (k : Kind) (t n u number : ℕ) → arrival_of k t n ≡ event.Log u number
    → (k ≡ kind.Log) × (t ≡ u) × (n ≡ number)
of_log kind.Log t n u number is = (refl, cc, cc)
of_log kind.Out t n u number is = absurd (cc)

pub of_out : (k : Kind) (t n u number : ℕ) → arrival_of k t n ≡ event.Out u number → k ≡ kind.Out
of_out kind.Log t n u number is = absurd (cc)
of_out kind.Out t n u number is = refl

pub log_message : (m : Message) (u n : ℕ) → arrival m ≡ event.Log u n
    → m ≡ record { kind = kind.Log; thread = u; number = n }
log_message m u n is =
    let a = of_log m.kind m.thread m.number u n is in
    ap (λ (k : Kind). let x : Message = record { kind = k; thread = m.thread; number = m.number } in x) a.0
    ∙ ap (λ (k : ℕ). let x : Message = record { kind = kind.Log; thread = k; number = m.number } in x) a.1
    ∙ ap (λ (k : ℕ). let x : Message = record { kind = kind.Log; thread = u; number = k } in x) a.2

-- behind the last thread and packet the messages come
pub steps_first : {V : Type 0} (s : Setting V) (here : World V) (left t : ℕ) (moved : Bool) (k : Kind) (u n : ℕ)
    (c : Choice Phase) → goes_on s (Steps left t moved) here ≡ Some c → c.event ≡ arrival_of k u n
    → first_of (all_messages s here) ≡ Some c
steps_first {V} s here left t moved k u n c is ev = go (nat_lt t s.threads) left k is ev
  where
    go : (b : Bool) (left : ℕ) (k : Kind)
        → (if b then Some (record { event = event.Step t None; leads_to = after_step s.threads left t moved })
        else at_rest s here left) ≡ Some c → c.event ≡ arrival_of k u n → first_of (all_messages s here) ≡ Some c
    go true left kind.Log is ev = absurd (cc)
    go true left kind.Out is ev = absurd (cc)
    go false zero k is ev = is
    go false (suc left) kind.Log is ev = absurd (cc)
    go false (suc left) kind.Out is ev = absurd (cc)

pub steps_none : {V : Type 0} (s : Setting V) (here : World V) (left t : ℕ) (moved : Bool)
    → goes_on s (Steps left t moved) here ≡ None → first_of (all_messages s here) ≡ None
steps_none {V} s here left t moved is = go (nat_lt t s.threads) left is
  where
    go : (b : Bool) (left : ℕ)
        → (if b then Some (record { event = event.Step t None; leads_to = after_step s.threads left t moved })
        else at_rest s here left) ≡ None → first_of (all_messages s here) ≡ None
    go true left is = absurd (cc)
    go false zero is = is
    go false (suc left) is = absurd (cc)

-- what the choice is in a phase, where an entry arrives
pub record Chosen {V : Type 0} (s : Setting V) (here new : World V) (ev : Event) (t arrived u n : ℕ) (p : Phase)
    : Type 0 where
  pub choice : Choice Phase
  pub on_here : goes_on s p here ≡ Some choice
  pub event_is : choice.event ≡ ev
  pub rest : List Message
  pub are : messages_from s here kind.Log t arrived ≡ record { kind = kind.Log; thread = u; number = n } ∷ rest
  pub leads : (other : Outcome) → choice.leads_to other ≡ Arrives rest
  pub rest_is : Arrives rest ≡ Arrives (messages_from s new kind.Log u n)
