-- Each line says one event of a chain or has a fault.
use Rattle.std.proofs.Common.{◌≡◌, ℕ, List, [], ◌∷◌, refl, sym, ap, ◌∙◌, Option, Some, None, Bool, true, false, inl}
use Rattle.std.proofs.Common.{inr}
use Rattle.std.proofs.Common.{codes, Result, Ok, Err}
use Rattle.std.specs.Prelude.{All, IfOk, if◌then◌else◌}
use Rattle.std.specs.Str.{bytes_eq}
use Rattle.std.proofs.lemmas.List.Elements.{All-nil, All-cons}
use Rattle.plain_text.specs.Lines.{words_of}
use Rattle.plain_text.specs.LineFiles.{IsDecisive, Begins}
use Rattle.recovery_world.specs.declared.event.Event.{Event}
use Rattle.script_text.specs.Scripts.{script_form}
use Rattle.script_text.proofs.OneLine.{events_are_decisive}
use Rattle.chain_world.specs.declared.chain_event.ChainEvent.{ChainEvent}
use Rattle.chain_world.specs.Chain.{NamesSystem}
use Rattle.chain_text.specs.ChainScripts.{IsChainScript, SaysEvent, chain_form, event_fault, fault_behind, system_of}

-- behind the word of a system

behind_event : (o : Option ℕ) (words : List (List ℕ)) → fault_behind o words ≡ None
    → (which : ℕ) × (ev : Event) × (o ≡ Some which) × script_form.says words ev
behind_event None words none = absurd (cc)
behind_event (Some which) [] none = absurd (cc)
behind_event (Some which) (word ∷ words) none =
    let r = events_are_decisive.thing_or_fault (word ∷ words) none in (which, r.0, refl, r.1)

behind_none : (o : Option ℕ) (which : ℕ) (words : List (List ℕ)) (ev : Event) → o ≡ Some which
    → script_form.says words ev → fault_behind o words ≡ None
behind_none None which words ev is says = absurd (cc)
behind_none (Some other) which [] ev is says =
    absurd (let none : script_form.fault [] ≡ None = events_are_decisive.not_both [] ev says in cc)
behind_none (Some other) which (word ∷ words) ev is says = events_are_decisive.not_both (word ∷ words) ev says

there : (words : List (List ℕ)) → event_fault words ≡ None → (ev : ChainEvent) × SaysEvent words ev
there [] none = absurd (cc)
there (word ∷ words) none =
    let r = behind_event (system_of word) words none in (record { which = r.0; event = r.1 }, (r.2, r.3))

not_both : (words : List (List ℕ)) (ev : ChainEvent) → SaysEvent words ev → event_fault words ≡ None
not_both [] ev says = absurd says
not_both (word ∷ words) ev says = behind_none (system_of word) ev.which words ev.event says.0 says.1

same_number : (a b : ℕ) → Some a ≡ Some b → a ≡ b
same_number a b e = cc

one_event : (words : List (List ℕ)) (a b : ChainEvent) → SaysEvent words a → SaysEvent words b → a ≡ b
one_event [] a b x y = absurd x
one_event (word ∷ words) a b x y =
    let which = same_number a.which b.which (sym x.0 ∙ y.0) in
    let ev = events_are_decisive.one_thing words a.event b.event x.1 y.1 in
    ap (λ (n : ℕ). let r : ChainEvent = record { which = n; event = a.event } in r) which
    ∙ ap (λ (z : Event). let r : ChainEvent = record { which = b.which; event = z } in r) ev

pub chain_is_decisive : IsDecisive chain_form
chain_is_decisive = record { thing_or_fault = there; not_both = not_both; one_thing = one_event }

-- each event is one of a system

named : (word : List ℕ) (ev : ChainEvent) → system_of word ≡ Some ev.which → NamesSystem ev
named word ev is = go (bytes_eq word (codes "1")) (bytes_eq word (codes "2")) is
  where
    go : (a b : Bool) → (if a then Some 1 else if b then Some 2 else None) ≡ Some ev.which → NamesSystem ev
    go true b e = inl (let same : 1 ≡ ev.which = same_number 1 ev.which e in sym same)
    go false true e = inr (let same : 2 ≡ ev.which = same_number 2 ev.which e in sym same)
    go false false e = absurd (cc)

says_named : (words : List (List ℕ)) (ev : ChainEvent) → SaysEvent words ev → NamesSystem ev
says_named [] ev says = absurd says
says_named (word ∷ words) ev says = named word ev says.0

begins_named : (lines : List (ℕ × List ℕ)) (events : List ChainEvent) (rest : List (ℕ × List ℕ))
    → Begins chain_form lines events rest → All NamesSystem events
begins_named lines [] rest begins = All-nil NamesSystem
begins_named [] (ev ∷ events) rest begins = absurd begins
begins_named (line ∷ lines) (ev ∷ events) rest begins =
    All-cons NamesSystem ev events (says_named (words_of line.1) ev begins.0)
    (begins_named lines events rest begins.1)

pub all_named : {E : Type 0} (r : Result (List ChainEvent) E) (text : List ℕ) → IfOk r (IsChainScript text)
    → IfOk r (All NamesSystem)
all_named (Ok events) text script = begins_named _ events [] script
all_named (Err e) text script = tt
