-- Events that are chosen by words.
use Rattle.std.proofs.Common.{◌≡◌, ℕ, ◌+◌, ◌*◌, ◌%◌, ◌<◌, ◌≤◌, ◌≢◌, List, length, take, nat_lt, if◌then◌else◌, Bool}
use Rattle.std.proofs.Common.{true, false, sym, ap, ◌∙◌, subst, arith, below_more, get_or-set_other, get_or-set_same}
use Rattle.std.specs.Prelude.{slice_index, slice_set, HoldsAt}
use Rattle.std.proofs.lemmas.List.{get_or-take, length-take-le, length-set}
use Rattle.entry_order.specs.Log.{entries}
use Rattle.plain_machine.specs.Program.{Meaning}
use Rattle.plain_machine.specs.History.{log_of, sent_of, outputs}
use Rattle.random_words.specs.Words.{word_of}
use Rattle.script_text.specs.Choosing.{chosen_event}
use Rattle.recovery_world.specs.declared.event.Event.{Event}
use Rattle.recovery_world.specs.World.{Setting, World}
use Rattle.recovery_world.specs.Many.{auto_event, chosen}
use Rattle.system_parts.specs.Parts.{Parts}
use Rattle.system_parts.specs.SystemStanding.{StandsFor}
use Rattle.single_events.specs.Single.{IsSingle}
use Rattle.several_events.specs.Choosing.{Counted}
use Rattle.system_parts.proofs.ReadLemmas.{counts_stand}
use Rattle.system_parts.proofs.EventChains.{threads_of_setting}
use Rattle.master_core.specs.declared.parts.Counts.{Counts}
use Rattle.master_core.specs.declared.parts.ThreadPart.{ThreadPart}

-- The chosen event

-- it is a single one
single_of : (up a b c d e : Bool) (step feed log out snap store : Event) → IsSingle up step → IsSingle up feed
    → IsSingle up log → IsSingle up out → IsSingle up snap → IsSingle up store
    → IsSingle up
    (if a then step else if b then feed else if c then log else if d then out else if e then snap else store)
single_of up true b c d e p q r s t l x y z u v w = x
single_of up false true c d e p q r s t l x y z u v w = y
single_of up false false true d e p q r s t l x y z u v w = z
single_of up false false false true e p q r s t l x y z u v w = u
single_of up false false false false true p q r s t l x y z u v w = v
single_of up false false false false false p q r s t l x y z u v w = w

pub auto_single : (up : Bool) (threads : ℕ) (entries outputs : ℕ → ℕ) (a b : ℕ)
    → IsSingle up (auto_event threads entries outputs a b)
auto_single up threads entries outputs a b =
    single_of up (nat_lt (a % 32) 16) (nat_lt (a % 32) 19) (nat_lt (a % 32) 25) (nat_lt (a % 32) 29)
    (nat_lt (a % 32) 30) _ _ _ _ _ _ tt tt tt tt tt tt

-- only the counts of its thread matter
auto_same : (threads a b : ℕ) (es fs os ps : ℕ → ℕ) → es (b % threads) ≡ fs (b % threads)
    → os (b % threads) ≡ ps (b % threads) → auto_event threads es os a b ≡ auto_event threads fs ps a b
auto_same threads a b es fs os ps e o =
    ap (λ (x : ℕ). auto_event threads (λ t. x) (λ t. os (b % threads)) a b) e
    ∙ ap (λ (x : ℕ). auto_event threads (λ t. fs (b % threads)) (λ t. x) a b) o

pub chosen_is : {V : Type 0} (s : Setting V) (w : World V) (seed k a b : ℕ) (es os : List ℕ) (ev : Event)
    → ev ≡ chosen_event a b es os → length es ≡ s.threads → 1 ≤ s.threads
    → ((t : ℕ) → t < s.threads → slice_index es t ≡ entries t (log_of w.past))
    → ((t : ℕ) → t < s.threads → slice_index os t ≡ outputs t (sent_of w.past)) → a ≡ word_of seed (2 * k)
    → b ≡ word_of seed (2 * k + 1) → ev ≡ chosen s seed k w
chosen_is s w seed k a b es os ev is long some es_are os_are first second =
    let low : b % s.threads < s.threads = omega arith in
    is
    ∙ ap (λ (n : ℕ). auto_event n (λ t. slice_index es t) (λ t. slice_index os t) a b) long
    ∙ auto_same s.threads a b (λ t. slice_index es t) (λ t. entries t (log_of w.past)) (λ t. slice_index os t)
    (λ t. outputs t (sent_of w.past)) (es_are (b % s.threads) low) (os_are (b % s.threads) low)
    ∙ ap (λ (x : ℕ). auto_event s.threads (λ t. entries t (log_of w.past)) (λ t. outputs t (sent_of w.past)) x b) first
    ∙ ap (λ (x : ℕ).
    auto_event s.threads (λ t. entries t (log_of w.past)) (λ t. outputs t (sent_of w.past)) (word_of seed (2 * k)) x)
    second

-- what is counted of one thread more
pub counted_more : (list : List ℕ) (i count : ℕ) (f : ℕ → ℕ) → i < length list
    → ((t : ℕ) → t < i → slice_index list t ≡ f t) → count ≡ f i → (t : ℕ) → t < i + 1
    → slice_index (slice_set list i count) t ≡ f t
counted_more list i count f low are is = below_more (λ (t : ℕ). slice_index (slice_set list i count) t ≡ f t) i
    (λ t h. let ne : t ≢ i = omega arith in rw get_or-set_other (are t h))
    (rw get_or-set_same is)

pub single_chosen : (a b : ℕ) (es os : List ℕ) (ev : Event) → ev ≡ chosen_event a b es os → (up : Bool) → IsSingle up ev
single_chosen a b es os ev is up =
    subst (IsSingle up) (sym is) (auto_single up (length es) (λ t. slice_index es t) (λ t. slice_index os t) a b)

-- what is counted of the first threads

pub counted_none : {P V : Type 0} (m : Meaning V) (y : Parts P V) (es os : List ℕ) → length es ≡ 16 → length os ≡ 16
    → Counted m y 0 es os
counted_none m y es os a b = record { entry_room = a; output_room = b; each = λ s w st t low. absurd (omega arith) }

pub counted_next : {P V : Type 0} (m : Meaning V) (i : ℕ) (counts : Counts) (es os : List ℕ) {y old : Parts P V}
    → y ≡ old → i < old.inputs.threads → i < 16
    → HoldsAt (λ (part : ThreadPart). counts ≡ part.counts) y.master.threads i → Counted m old i es os
    → Counted m old (i + 1) (slice_set es i counts.entries) (slice_set os i counts.outputs)
counted_next m i counts es os {y} {old} is low few at has = record {
  entry_room = length-set es i counts.entries ∙ has.entry_room;
  output_room = length-set os i counts.outputs ∙ has.output_room;
  each = λ s w st t under.
      let now = counts_stand m i counts is low at s w st in (
        counted_more es i counts.entries (λ u. entries u (log_of w.past)) (omega (arith, few, has.entry_room))
            (λ u h. (has.each s w st u h).0) now.1 t under,
        counted_more os i counts.outputs (λ u. outputs u (sent_of w.past)) (omega (arith, few, has.output_room))
            (λ u h. (has.each s w st u h).1) now.2 t under,
      );
}

pub counted_whole : {P V : Type 0} (m : Meaning V) (y : Parts P V) (i n : ℕ) (es os : List ℕ) → i ≡ n
    → Counted m y i es os → Counted m y n es os
counted_whole m y i n es os is has = subst (λ (k : ℕ). Counted m y k es os) is has

pub chosen_counted : {P V : Type 0} (m : Meaning V) (s : Setting V) (w : World V) (y : Parts P V) (seed k a b n : ℕ)
    (es os : List ℕ) (ev : Event) → StandsFor m s w y → ev ≡ chosen_event a b (take n es) (take n os)
    → n ≡ y.inputs.threads → 1 ≤ n → n ≤ 16 → Counted m y y.inputs.threads es os → a ≡ word_of seed (2 * k)
    → b ≡ word_of seed (2 * k + 1) → ev ≡ chosen s seed k w
chosen_counted m s w y seed k a b n es os ev st is threads some few has first second =
    let all : n ≡ s.threads = threads ∙ threads_of_setting m s w y st in
    chosen_is s w seed k a b (take n es) (take n os) ev is
    (length-take-le n es (omega (arith, few, has.entry_room)) ∙ all) (omega (arith, all, some))
    (λ t low. get_or-take n es t 0 (omega (arith, low, all)) ∙ (has.each s w st t (omega (arith, low, all, threads))).0)
    (λ t low. get_or-take n os t 0 (omega (arith, low, all)) ∙ (has.each s w st t (omega (arith, low, all, threads))).1)
    first second
