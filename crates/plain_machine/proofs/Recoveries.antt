-- What is closed over a past can be made again after it.
use Rattle.std.proofs.Common.{◌≡◌, ℕ, List, [], ◌∷◌, ◌++◌, sym, ap, ◌∙◌, subst, inl, inr, ◌⊎◌, Ok}
use Rattle.plain_text.specs.declared.packet.Packet.{Packet}
use Rattle.entry_order.specs.Log.{Entry, IsLog, IsIn}
use Rattle.entry_order.specs.Closed.{IsClosedOver}
use Rattle.entry_order.proofs.KeptEntries.{in_left, in_right, in_either, kept, kept_in, in_kept, kept_log}
use Rattle.plain_machine.specs.Program.{Meaning}
use Rattle.plain_machine.specs.History.{Act, Took, Did, Emitted, Ended, Step, log_more, log_of, play, IsHistory}
use Rattle.plain_machine.specs.Agree.{IsEarlier}
use Rattle.plain_machine.specs.Continue.{Recovery}
use Rattle.plain_machine.proofs.Histories.{history_log}
use Rattle.plain_machine.proofs.PlayedLists.{play_history, play_prefix, played_on}
use Rattle.plain_machine.proofs.Continuations.{continue}

-- the log of an earlier moment is the end of the log
pub later_log : {V : Type 0} (steps line : List (Step V)) → IsEarlier steps line
    → (later : List Entry) × (log_of line ≡ later ++ log_of steps)
later_log {V} steps [] e = ([], ap (λ (s : List (Step V)). log_of s) (sym e))
later_log {V} steps (x ∷ line) (inl e) = ([], ap (λ (s : List (Step V)). log_of s) (sym e))
later_log {V} steps (x ∷ line) (inr e) = go x.act (later_log steps line e)
  where
    go : (a : Act V) → (later : List Entry) × (log_of line ≡ later ++ log_of steps)
        → (later : List Entry) × (log_more a (log_of line) ≡ later ++ log_of steps)
    go (Took k) r = r
    go (Did entry left) (later, same) = (entry ∷ later, ap (λ (l : List Entry). entry ∷ l) same)
    go (Emitted o) r = r
    go (Ended k) r = r

-- What is closed over a past can be made again after it.
pub recover : {V : Type 0} (m : Meaning V) (inputs : ℕ → List Packet) (threads : ℕ) → Recovery m inputs threads
recover {V} m inputs threads past rest steps line set played went_on closed kept_line =
    let on = continue m inputs threads line steps hH hP (log_of steps) (λ e f he hf n. he) (λ e h. h)
    (λ e h. in_line e (inr h)) more good (λ e g he hg n. hg) (λ e h. in_line e (inl (kept_in set split.0 e h).0)) in
    let again = played_on m inputs threads past steps played on.steps on.history on.base in
    (again.0, on.steps, again.1, λ e. (made on.steps on.log_is e, remade on.steps on.log_is e))
  where
    before : (earlier : List (Step V)) × (play m inputs threads past ≡ Ok earlier) × IsEarlier earlier line
    before = play_prefix m inputs threads past rest line went_on

    earlier_is : IsEarlier steps line
    earlier_is =
        let both : Ok before.0 ≡ Ok steps = sym before.1 ∙ played in
        let same : before.0 ≡ steps = cc in subst (λ (s : List (Step V)). IsEarlier s line) same before.2

    hP : IsHistory m inputs threads steps
    hP = (play_history m inputs threads past steps played).0

    hH : IsHistory m inputs threads line
    hH = (play_history m inputs threads (past ++ rest) line went_on).0

    split : (later : List Entry) × (log_of line ≡ later ++ log_of steps)
    split = later_log steps line earlier_is

    more : List Entry
    more = kept set split.0

    good : IsLog (more ++ log_of steps)
    good = kept_log set split.0 (log_of steps)
        (subst (λ (l : List Entry). IsLog l) split.1 (history_log m inputs threads line hH))
        (subst (λ (l : List Entry). IsClosedOver l (log_of steps) set) split.1 closed)

    in_line : (e : Entry) → IsIn e split.0 ⊎ IsIn e (log_of steps) → IsIn e (log_of line)
    in_line e (inl h) = subst (λ (l : List Entry). IsIn e l) (sym split.1) (in_left e split.0 (log_of steps) h)
    in_line e (inr h) = subst (λ (l : List Entry). IsIn e l) (sym split.1) (in_right e split.0 (log_of steps) h)

    made : (next : List (Step V)) → log_of next ≡ more ++ log_of steps → (e : Entry) → IsIn e (log_of next)
        → IsIn e (log_of steps) ⊎ IsIn e set
    made next is e here = pick (in_either e more (log_of steps) (subst (λ (l : List Entry). IsIn e l) is here))
      where
        pick : IsIn e more ⊎ IsIn e (log_of steps) → IsIn e (log_of steps) ⊎ IsIn e set
        pick (inl h) = inr (kept_in set split.0 e h).1
        pick (inr h) = inl h

    remade : (next : List (Step V)) → log_of next ≡ more ++ log_of steps → (e : Entry)
        → IsIn e (log_of steps) ⊎ IsIn e set → IsIn e (log_of next)
    remade next is e h = subst (λ (l : List Entry). IsIn e l) (sym is) (pick h)
      where
        place : IsIn e set → IsIn e split.0 ⊎ IsIn e (log_of steps) → IsIn e (more ++ log_of steps)
        place h (inl k) = in_left e more (log_of steps) (in_kept set split.0 e k h)
        place h (inr k) = in_right e more (log_of steps) k

        pick : IsIn e (log_of steps) ⊎ IsIn e set → IsIn e (more ++ log_of steps)
        pick (inl k) = in_right e more (log_of steps) k
        pick (inr k) =
            place k (in_either e split.0 (log_of steps) (subst (λ (l : List Entry). IsIn e l) split.1 (kept_line e k)))
