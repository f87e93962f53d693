-- Messages that are still to arrive: those of one thread after another, and first the entries.
use Rattle.std.proofs.Common.{◌≡◌, ℕ, zero, suc, ◌+◌, ◌-◌, ◌<◌, ◌≤◌, nat_eq, cond, Bool, true, false, List, [], ◌∷◌}
use Rattle.std.proofs.Common.{◌++◌, length, refl, sym, ap, ◌∙◌, subst, arith}
use Rattle.std.specs.Prelude.{HoldsAt}
use Rattle.plain_text.specs.declared.kind.Kind.{Kind}
use Rattle.plain_text.specs.declared.kind.Kind.TheVariants as kind
use Rattle.plain_text.specs.declared.limit.TheConstants.{MOST_MOVES}
use Rattle.entry_order.specs.Log.{entries}
use Rattle.plain_machine.specs.Program.{Meaning}
use Rattle.plain_machine.specs.History.{Act, Took, Did, Emitted, Ended, Step, log_of, log_more, sent_of, sent_more}
use Rattle.plain_machine.specs.History.{outputs}
use Rattle.master_core.specs.declared.parts.Counts.{Counts}
use Rattle.master_core.specs.declared.parts.ThreadPart.{ThreadPart}
use Rattle.recovery_world.specs.World.{Setting, World}
use Rattle.recovery_world.specs.Many.{Message, numbered, of_threads, all_messages}
use Rattle.system_parts.specs.Parts.{Parts}
use Rattle.system_parts.specs.SystemStanding.{StandsFor}
use Rattle.system_parts.proofs.ReadLemmas.{counts_stand}
use Rattle.recovery_laws.proofs.Rounds.{few_moves}
use Rattle.several_events.specs.Progressing.{count_in, of_rest, messages_from, to_arrive_of, IsOfKind, IsMessage}
use Rattle.several_events.specs.Progressing.{NoMessage}

-- No thread has more of a kind in the past than there are moves

one_more : (b : Bool) (n all : ℕ) → n ≤ all → cond b (n + 1) n ≤ suc all
one_more true n all few = omega (arith, few)
one_more false n all few = omega (arith, few)

entries_few : {V : Type 0} (t : ℕ) (past : List (Step V)) → entries t (log_of past) ≤ length past
entries_few t [] = omega arith
entries_few {V} t (x ∷ earlier) = go x.act (entries_few t earlier)
  where
    go : (a : Act V) → entries t (log_of earlier) ≤ length earlier
        → entries t (log_more a (log_of earlier)) ≤ suc (length earlier)
    go (Took k) few = omega (arith, few)
    go (Did e left) few = one_more (nat_eq e.thread t) (entries t (log_of earlier)) (length earlier) few
    go (Emitted o) few = omega (arith, few)
    go (Ended k) few = omega (arith, few)

outputs_few : {V : Type 0} (t : ℕ) (past : List (Step V)) → outputs t (sent_of past) ≤ length past
outputs_few t [] = omega arith
outputs_few {V} t (x ∷ earlier) = go x.act (outputs_few t earlier)
  where
    go : (a : Act V) → outputs t (sent_of earlier) ≤ length earlier
        → outputs t (sent_more a (sent_of earlier)) ≤ suc (length earlier)
    go (Took k) few = omega (arith, few)
    go (Did e left) few = omega (arith, few)
    go (Emitted o) few = one_more (nat_eq o.thread t) (outputs t (sent_of earlier)) (length earlier) few
    go (Ended k) few = omega (arith, few)

count_few : {V : Type 0} (k : Kind) (past : List (Step V)) (t : ℕ) → count_in k past t ≤ length past
count_few kind.Log past t = entries_few t past
count_few kind.Out past t = outputs_few t past

few_of_kind : {P V : Type 0} (m : Meaning V) (s : Setting V) (w : World V) (y : Parts P V) (k : Kind) (t : ℕ)
    → StandsFor m s w y → count_in k w.past t ≤ MOST_MOVES
few_of_kind m s w y k t st =
    let a = count_few k w.past t in
    let b = st.master.past in
    let c = few_moves w.moves w.bytes st.within in
    omega (arith, a, b, c)

-- all of a thread and of those behind it
pub rest_whole : (k : Kind) (count : ℕ → ℕ) (t many : ℕ) → of_rest k count t 0 many ≡ of_threads k count t many
rest_whole k count t zero = refl
rest_whole k count t (suc many) = ap (λ (i : ℕ). numbered k t 1 i ++ of_threads k count (t + 1) many) all
  where
    all : count t - 0 ≡ count t
    all = omega arith

-- of this thread all arrived
pub rest_skips : (k : Kind) (count : ℕ → ℕ) (t arrived n : ℕ) → t < n → count t ≤ arrived
    → of_rest k count t arrived (n - t) ≡ of_rest k count (t + 1) 0 (n - (t + 1))
rest_skips k count t arrived n low all =
    ap (of_rest k count t arrived) one
    ∙ (ap (λ (i : ℕ). numbered k t (arrived + 1) i ++ of_threads k count (t + 1) (n - (t + 1))) none
    ∙ sym (rest_whole k count (t + 1) (n - (t + 1))))
  where
    one : n - t ≡ suc (n - (t + 1))
    one = omega (arith, low)

    none : count t - arrived ≡ 0
    none = omega (arith, all)

-- the next one of the thread
pub rest_next : (k : Kind) (count : ℕ → ℕ) (t arrived n : ℕ) → t < n → arrived < count t
    → of_rest k count t arrived (n - t)
    ≡ record { kind = k; thread = t; number = arrived + 1 } ∷ of_rest k count t (arrived + 1) (n - t)
rest_next k count t arrived n low more =
    ap (of_rest k count t arrived) one
    ∙ ap (λ (i : ℕ). numbered k t (arrived + 1) i ++ of_threads k count (t + 1) (n - (t + 1))) some
    ∙ ap (λ (l : List Message). record { kind = k; thread = t; number = arrived + 1 } ∷ l)
    (sym (ap (of_rest k count t (arrived + 1)) one))
  where
    one : n - t ≡ suc (n - (t + 1))
    one = omega (arith, low)

    some : count t - arrived ≡ suc (count t - (arrived + 1))
    some = omega (arith, more)

-- of no thread
pub rest_over : (k : Kind) (count : ℕ → ℕ) (t arrived n : ℕ) → n ≤ t → of_rest k count t arrived (n - t) ≡ []
rest_over k count t arrived n over = ap (of_rest k count t arrived) none
  where
    none : n - t ≡ 0
    none = omega (arith, over)

-- all of a kind
kind_whole : {V : Type 0} (s : Setting V) (w : World V) (k : Kind)
    → of_rest k (count_in k w.past) 0 0 (s.threads - 0) ≡ of_threads k (count_in k w.past) 0 s.threads
kind_whole {V} s w k = ap (of_rest k (count_in k w.past) 0 0) all ∙ rest_whole k (count_in k w.past) 0 s.threads
  where
    all : s.threads - 0 ≡ s.threads
    all = omega arith

-- all of both kinds
pub messages_whole : {V : Type 0} (s : Setting V) (w : World V) → messages_from s w kind.Log 0 0 ≡ all_messages s w
messages_whole {V} s w =
    ap (λ (l : List Message). l ++ of_threads kind.Out (count_in kind.Out w.past) 0 s.threads) (kind_whole s w kind.Log)

-- the next one of a kind is the next one
pub message_of_kind : {V : Type 0} (s : Setting V) (w : World V) (k : Kind) (t arrived : ℕ) (next : ℕ × ℕ)
    → IsOfKind s w k t arrived next → IsMessage s w k t arrived (k, next.0, next.1)
message_of_kind {V} s w kind.Log t arrived next is = record {
  messages = ap (λ (l : List Message). l ++ of_threads kind.Out (count_in kind.Out w.past) 0 s.threads) is.messages;
  less = let l = is.less in omega (arith, l);
}
message_of_kind s w kind.Out t arrived next is = record { messages = is.messages; less = is.less }

-- the same, of the kind that it is
pub of_kind : {V : Type 0} (s : Setting V) (w : World V) (k : Kind) (t arrived : ℕ) → k ≡ kind.Log
    → of_rest k (count_in k w.past) t arrived (s.threads - t) ≡ []
    → of_rest kind.Log (count_in kind.Log w.past) t arrived (s.threads - t) ≡ []
of_kind s w k t arrived is none =
    subst (λ (i : Kind). of_rest i (count_in i w.past) t arrived (s.threads - t) ≡ []) is none

-- no entry comes, but an output
pub message_out : {V : Type 0} (s : Setting V) (w : World V) (t arrived : ℕ) (next : ℕ × ℕ)
    → of_rest kind.Log (count_in kind.Log w.past) t arrived (s.threads - t) ≡ [] → IsOfKind s w kind.Out 0 0 next
    → IsMessage s w kind.Log t arrived (kind.Out, next.0, next.1)
message_out {V} s w t arrived next none is = record {
  messages =
      ap (λ (l : List Message). l ++ of_threads kind.Out (count_in kind.Out w.past) 0 s.threads) none
      ∙ (sym (kind_whole s w kind.Out) ∙ is.messages);
  less = let l = is.less in omega (arith, l);
}

-- no message comes
pub none_out : {V : Type 0} (s : Setting V) (w : World V) (t arrived : ℕ)
    → of_rest kind.Log (count_in kind.Log w.past) t arrived (s.threads - t) ≡ []
    → of_rest kind.Out (count_in kind.Out w.past) 0 0 (s.threads - 0) ≡ [] → NoMessage s w kind.Log t arrived
none_out {V} s w t arrived none over =
    ap (λ (l : List Message). l ++ of_threads kind.Out (count_in kind.Out w.past) 0 s.threads) none
    ∙ (sym (kind_whole s w kind.Out) ∙ over)

-- One thread after another

-- what is to come from here is what is to come from this thread on
pub record GoesOnTo {V : Type 0} (s : Setting V) (w : World V) (k : Kind) (t arrived u before : ℕ) : Type 0 where
  pub messages : of_rest k (count_in k w.past) t arrived (s.threads - t)
      ≡ of_rest k (count_in k w.past) u before (s.threads - u)
  pub less : to_arrive_of s.threads u before ≤ to_arrive_of s.threads t arrived

pub goes_none : {V : Type 0} (s : Setting V) (w : World V) (k : Kind) (t arrived : ℕ)
    → GoesOnTo s w k t arrived t arrived
goes_none s w k t arrived = record { messages = refl; less = omega arith }

-- all of this thread arrived
pub goes_more : {V : Type 0} (s : Setting V) (w : World V) (k : Kind) (t arrived u before count : ℕ)
    → GoesOnTo s w k t arrived u before → u < s.threads → count ≡ count_in k w.past u → count ≤ before
    → GoesOnTo s w k t arrived (u + 1) 0
goes_more s w k t arrived u before count to low is all = record {
  messages = to.messages ∙ rest_skips k (count_in k w.past) u before s.threads low (omega (arith, is, all));
  less = let l = to.less in omega (arith, l, low);
}

-- one of this thread comes next
pub goes_next : {P V : Type 0} (m : Meaning V) (s : Setting V) (w : World V) (y : Parts P V) (k : Kind)
    (t arrived u before count : ℕ) → StandsFor m s w y → GoesOnTo s w k t arrived u before → u < s.threads
    → count ≡ count_in k w.past u → before < count → IsOfKind s w k t arrived (u, before + 1)
goes_next m s w y k t arrived u before count st to low is more = record {
  messages = to.messages ∙ rest_next k (count_in k w.past) u before s.threads low (omega (arith, is, more));
  less = let l = to.less in let few = few_of_kind m s w y k u st in omega (arith, l, low, few, is, more);
}

-- no thread has any
pub goes_over : {V : Type 0} (s : Setting V) (w : World V) (k : Kind) (t arrived u before : ℕ)
    → GoesOnTo s w k t arrived u before → s.threads ≤ u → of_rest k (count_in k w.past) t arrived (s.threads - t) ≡ []
goes_over s w k t arrived u before to over = to.messages ∙ rest_over k (count_in k w.past) u before s.threads over

-- how many the master counts
pub counted : {P V : Type 0} (m : Meaning V) (t : ℕ) (counts : Counts) (k : Kind) {y old : Parts P V} → y ≡ old
    → t < old.inputs.threads → HoldsAt (λ (part : ThreadPart). counts ≡ part.counts) y.master.threads t
    → (s : Setting V) (w : World V) → StandsFor m s w old
    → (k ≡ kind.Log → counts.entries ≡ count_in k w.past t) × (k ≡ kind.Out → counts.outputs ≡ count_in k w.past t)
counted m t counts k is low at s w st =
    let c = counts_stand m t counts is low at s w st in (
      λ e. c.1 ∙ ap (λ (i : Kind). count_in i w.past t) (sym e),
      λ e. c.2 ∙ ap (λ (i : Kind). count_in i w.past t) (sym e),
    )
