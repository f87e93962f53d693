-- Messages that arrived before arrive again: nothing changes, and the strategy goes on after them.
use Rattle.std.proofs.Common.{◌≡◌, ℕ, zero, suc, ◌+◌, ◌-◌, ◌<◌, ◌≤◌, List, [], refl, sym, subst, inl, inr, ◌⊎◌}
use Rattle.std.proofs.Common.{arith}
use Rattle.plain_text.specs.declared.kind.Kind.{Kind}
use Rattle.plain_text.specs.declared.kind.Kind.TheVariants as kind
use Rattle.access_log.specs.declared.entry.Output.{Output}
use Rattle.access_log.specs.Held.{lane, IsKnown as IsKnownLane}
use Rattle.dup_filter.specs.Numbers.{WasMarked}
use Rattle.entry_order.specs.Log.{Entry, IsIn, entries}
use Rattle.entry_order.proofs.Order.{entry_there}
use Rattle.master_core.specs.Holding.{held_entries}
use Rattle.plain_machine.specs.Program.{Meaning}
use Rattle.plain_machine.specs.History.{log_of, sent_of, outputs}
use Rattle.plain_machine.specs.Agree.{SendsAfter}
use Rattle.recovery_world.specs.declared.event.Event.TheVariants as event
use Rattle.recovery_world.specs.declared.event.Outcome.{Outcome}
use Rattle.recovery_world.specs.declared.event.Outcome.TheVariants as outcome
use Rattle.recovery_world.specs.World.{Setting, Sent, World}
use Rattle.recovery_world.specs.Events.{IsKnown, HasNumber}
use Rattle.recovery_world.specs.Limits.{OnWithin}
use Rattle.recovery_world.specs.Many.{arrival_of}
use Rattle.system_parts.specs.Parts.{Parts}
use Rattle.system_parts.specs.SystemStanding.{IsSentOutput, StandsFor}
use Rattle.system_parts.specs.Performing.{MovesOn, Releasing}
use Rattle.system_parts.proofs.EventChains.{threads_of_setting}
use Rattle.system_parts.proofs.LineLemmas.{past_good, known_there}
use Rattle.system_parts.proofs.OutputsSent.{there_sent}
use Rattle.held_steps.proofs.FromOutputReleases.{releases_none}
use Rattle.several_events.specs.declared.progress.Progress.{Progress}
use Rattle.several_events.specs.declared.progress.Progress.TheVariants as progress
use Rattle.several_events.specs.Progressing.{count_in, to_do}
use Rattle.several_events.specs.Ahead.{Performs, GoesOnAs}
use Rattle.several_events.specs.Repeating.{HasCome}
use Rattle.several_events.proofs.MessageLists.{message_of_kind, goes_none, goes_next}
use Rattle.several_events.proofs.Choices.{next_arrival}
use Rattle.several_events.proofs.Ahead.{ahead_then}

-- what the arrival of a message that arrived before answers
abbrev again : Kind → Outcome
again kind.Log = outcome.Known
again kind.Out = outcome.Again

module _ {P V : Type 0} (m : Meaning V) (y : Parts P V) (t : ℕ) (low : t < y.inputs.threads) where
  module _ (n : ℕ) (from_one : 1 ≤ n) (s : Setting V) (w : World V) (st : StandsFor m s w y) where
    here : t < s.threads
    here = subst (λ (i : ℕ). t < i) (threads_of_setting m s w y st) low

    -- an entry that is held or covered
    log_again : IsKnownLane (lane y.logger.held t) n → n ≤ entries t (log_of w.past)
        → OnWithin s w (event.Log t n) outcome.Known [] w
    log_again known made = go (entry_there (log_of w.past) t n (past_good s w st.sound.firm) from_one made)
      where
        go : (e : Entry) × IsIn e (log_of w.past) × (e.thread ≡ t) × (e.number ≡ n)
            → OnWithin s w (event.Log t n) outcome.Known [] w
        go (e, i, a, b) = (inr (here, inr (inl (e, (i, a, b), is_known, refl, refl, refl))), st.within)
          where
            is_known : IsKnown w e
            is_known = at (known_there s w st.sound.firm y.logger.held st.logger.holds e i
                (subst (λ (k : ℕ). IsKnownLane (lane y.logger.held e.thread) k) (sym b)
                (subst (λ (u : ℕ). IsKnownLane (lane y.logger.held u) n) (sym a) known)))
              where
                at : IsIn e (held_entries y.logger.held) ⊎ IsIn e (log_of w.stored) → IsKnown w e
                at (inl k) = inl ((st.logger.held e).0 k).0
                at (inr k) = inr k

    -- an output that was released
    out_again : WasMarked y.logger.released t n → n ≤ outputs t (sent_of w.past)
        → OnWithin s w (event.Out t n) outcome.Again [] w
    out_again marked made = go (there_sent m s w y st t n from_one made)
      where
        go : (o : Sent) × SendsAfter w.past o.emission o.after × HasNumber t n o
            × IsSentOutput (log_of w.past) y.logger.released y.sent o → OnWithin s w (event.Out t n) outcome.Again [] w
        go (o, sends, named, sent) =
            let h = (st.logger.released t n).0 marked in
            (inr (here, (inr (inl (o, (sends, named), (h.0, h.1, inl h.2), refl, refl)), refl)), st.within)

    arrives_again : (k : Kind) → HasCome k y t n → n ≤ count_in k w.past t
        → OnWithin s w (arrival_of k t n) (again k) [] w
    arrives_again kind.Log come made = log_again come made
    arrives_again kind.Out come made = out_again come made

  module _ (k : Kind) (at : Progress) where
    -- one message
    goes_on_one : (a : ℕ) → HasCome k y t (a + 1)
        → ((s : Setting V) (w : World V) → StandsFor m s w y → a + 1 ≤ count_in k w.past t)
        → GoesOnAs m y at (progress.Arrives k t a) → GoesOnAs m y at (progress.Arrives k t (a + 1))
    goes_on_one a come made before = λ from old list out moved.
        ahead_then m m old y y from (progress.Arrives k t a) (progress.Arrives k t (a + 1))
        (progress.Arrives k t (a + 1)) (arrival_of k t (a + 1)) (again k) list out out refl
        (next_arrival m y k t a k t (a + 1) (arrival_of k t (a + 1)) refl
        (λ s w st. message_of_kind s w k t a (t, a + 1)
        (goes_next m s w y k t a t a (count_in k w.past t) st (goes_none s w k t a)
        (subst (λ (i : ℕ). t < i) (threads_of_setting m s w y st) low) refl
        (let some = made s w st in omega (arith, some))))) refl (before from old list out moved) (performs out)
      where
        performs : (out : List Output)
            → MovesOn m (Releasing out out (Performs (progress.Arrives k t (a + 1)) (arrival_of k t (a + 1)) (again k)))
            y y
        performs out = (
          refl,
          λ s w st. (
            w,
            (
              inl ([], arrives_again (a + 1) (omega arith) s w st k come (made s w st)),
              releases_none out w w refl,
            ),
            st,
          ),
        )

    -- and so many of them
    goes_on_many : (a many : ℕ) → ((n : ℕ) → 1 ≤ n → n ≤ a + many → HasCome k y t n)
        → ((s : Setting V) (w : World V) → StandsFor m s w y → a + many ≤ count_in k w.past t)
        → GoesOnAs m y at (progress.Arrives k t a) → GoesOnAs m y at (progress.Arrives k t (a + many))
    goes_on_many a zero come made before =
        subst (λ (i : ℕ). GoesOnAs m y at (progress.Arrives k t i)) (none a) before
      where
        none : (i : ℕ) → i ≡ i + 0
        none i = omega arith
    goes_on_many a (suc many) come made before =
        subst (λ (i : ℕ). GoesOnAs m y at (progress.Arrives k t i)) (one a many)
        (goes_on_one (a + many) (come (a + many + 1) (omega arith) (omega arith))
        (λ s w st. let some = made s w st in omega (arith, some))
        (goes_on_many a many (λ n from_one few. come n from_one (omega (arith, few)))
        (λ s w st. let some = made s w st in omega (arith, some)) before))
      where
        one : (i j : ℕ) → i + j + 1 ≡ i + suc j
        one i j = omega arith

-- the messages up to this number arrived before
pub goes_on_repeats : {P V : Type 0} (m : Meaning V) (y : Parts P V) (k : Kind) (t arrived known : ℕ)
    → t < y.inputs.threads → arrived ≤ known → ((n : ℕ) → 1 ≤ n → n ≤ known → HasCome k y t n)
    → ((s : Setting V) (w : World V) → StandsFor m s w y → known ≤ count_in k w.past t)
    → GoesOnAs m y (progress.Arrives k t arrived) (progress.Arrives k t known)
goes_on_repeats {P} {V} m y k t arrived known low more come made =
    subst (λ (i : ℕ). GoesOnAs m y (progress.Arrives k t arrived) (progress.Arrives k t i)) all
    (goes_on_many m y t low k (progress.Arrives k t arrived) arrived (known - arrived)
    (λ n from_one few. come n from_one (omega (arith, few, more)))
    (λ s w st. let some = made s w st in omega (arith, some, more)) (λ from old list out a. a))
  where
    all : arrived + (known - arrived) ≡ known
    all = omega (arith, more)

-- less is to be done after them
pub repeats_fall : (n packets moves : ℕ) (k : Kind) (t arrived known : ℕ) → arrived ≤ known
    → to_do n packets moves (progress.Arrives k t known) ≤ to_do n packets moves (progress.Arrives k t arrived)
repeats_fall n packets moves kind.Log t arrived known more = omega (arith, more)
repeats_fall n packets moves kind.Out t arrived known more = omega (arith, more)
