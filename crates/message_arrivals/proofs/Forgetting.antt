-- Which frames are forgotten once an entry or an output was taken.
use Rattle.std.proofs.Common.{◌≡◌, ℕ, ◌+◌, ◌≤◌, ◌<◌, ◌⊎◌, inl, inr, Bool, true, false, List, [], ◌∷◌, ◌++◌, length}
use Rattle.std.proofs.Common.{refl, sym, ap, ◌∙◌, subst, Option, Some, None, IsTrue, ⊎_elim, arith}
use Rattle.std.specs.Prelude.{is_some, not}
use Rattle.std.proofs.lemmas.Bool.{cases_lt}
use Rattle.std.proofs.lemmas.List.{length-map}
use Rattle.plain_text.specs.declared.kind.Kind.TheVariants.{Log, Out}
use Rattle.access_log.specs.declared.entry.Output.{Output}
use Rattle.access_log.specs.Held.{lane, IsFrontier}
use Rattle.access_log.proofs.LaneLemmas.{one_frontier}
use Rattle.dup_filter.specs.Numbers.{Numbers, WasMarked, numbers}
use Rattle.link_store.specs.declared.address.Address.{Address}
use Rattle.link_store.specs.Links.{address, frame_at}
use Rattle.recovery_world.specs.declared.event.Outcome.{Outcome}
use Rattle.recovery_world.specs.declared.event.Outcome.TheVariants as outcome
use Rattle.output_releases.specs.FromEventReplies.{Reply}
use Rattle.output_logger.specs.Logger.{Logger, ReleasesOnce, appended}
use Rattle.output_logger.proofs.NameLemmas.{appended_append}
use Rattle.link_store.specs.Sending.{Sending, entry_address, output_address, ForgetsEntries, ForgetsOutputs}
use Rattle.link_store.specs.Sending.{TakesOutput}
use Rattle.output_releases.specs.FromSystemParts.{Parts}
use Rattle.output_releases.proofs.FromSystemParts.{marks_stay}
use Rattle.output_releases.specs.Released.{NotesReleased, ForgetsReleased, AreForgotten}
use Rattle.message_arrivals.specs.Arriving.{KnownAreForgotten, ForgetsTaken}

-- nothing was taken
pub forgets_none : {P V : Type 0} (t : ℕ) (to : Outcome) (reply : Reply) (now : Parts P V)
    → reply ≡ record { outcome = to; released = [] } → (to ≡ outcome.New → ⊥) → (to ≡ outcome.Released → ⊥)
    → ForgetsTaken t reply now
forgets_none {P} {V} t to reply now is not_new not_released =
    let same : reply.outcome ≡ to = ap (λ (r : Reply). r.outcome) is in
    record {
      entries = λ h. absurd (not_new (sym same ∙ h));
      freed = λ h. absurd (not_new (sym same ∙ h));
      outputs = λ h. absurd (not_released (sym same ∙ h));
    }

-- a new entry was
module _ (sent mid links : Sending) (logger : Logger) (t known : ℕ) (frontier : IsFrontier (lane logger.held t) known)
    (forgets : ForgetsEntries sent mid t known) (only : ForgetsReleased mid links logger.released) where
  known_forgotten : KnownAreForgotten links logger.held t
  known_forgotten f n at low =
      ap (λ (k : ℕ). frame_at links.frames (address k Log t n)) (only.epoch ∙ forgets.epoch) ∙ gone
    where
      below : n ≤ known
      below = let one = one_frontier (lane logger.held t) f known at frontier in omega (arith, low, one)

      none : frame_at mid.frames (entry_address sent t n) ≡ None
      none = forgets.forgets.forgotten (entry_address sent t n)
          (record { epoch = refl; kind = refl; thread = refl; number = below })

      gone : frame_at links.frames (entry_address sent t n) ≡ None
      gone = ⊎_elim (λ same. same ∙ none) (λ k. k.0) (only.each (entry_address sent t n))

  pub forgets_new : {P V : Type 0} (view now new : Parts P V) (threads : ℕ) (outputs : List Output)
      (list : List (ℕ × ℕ)) → view ≡ now → threads ≡ view.inputs.threads
      → (1 ≤ length outputs → AreForgotten links logger.released threads)
      → NotesReleased outputs list (record view { sent = links; logger = logger }) new
      → ForgetsTaken t (record { outcome = outcome.New; released = list }) new
  forgets_new {P} {V} view now new threads outputs list same count all noted =
      subst (λ (q : Parts P V). ForgetsTaken t (record { outcome = outcome.New; released = list }) q) (sym noted.new_is)
      (record {
        entries = λ h. known_forgotten;
        freed = λ h some. subst (λ (k : ℕ). AreForgotten links logger.released k) count (all (many some));
        outputs = λ h. absurd (cc);
      })
    where
      many : 1 ≤ length list → 1 ≤ length outputs
      many some =
          let same : length list ≡ length outputs =
          ap (λ (l : List (ℕ × ℕ)). length l) noted.list_is ∙ length-map outputs _ in
          omega (arith, some, same)

-- an output was, which is released
pub forgets_released : {P V : Type 0} (t floor : ℕ) (reply : Reply) (sent : Sending) (now : Parts P V)
    → reply ≡ record { outcome = outcome.Released; released = [] } → floor ≡ (numbers now.logger.released t).floor
    → ForgetsOutputs sent now.sent t floor → ForgetsTaken t reply now
forgets_released {P} {V} t floor reply sent now is same forgets =
    let to : reply.outcome ≡ outcome.Released = ap (λ (r : Reply). r.outcome) is in
    record {
      entries = λ h. absurd (let both : outcome.Released ≡ outcome.New = sym to ∙ h in cc);
      freed = λ h. absurd (let both : outcome.Released ≡ outcome.New = sym to ∙ h in cc);
      outputs = λ h n low.
          ap (λ (k : ℕ). frame_at now.sent.frames (address k Out t n)) forgets.epoch
          ∙ forgets.forgets.forgotten (output_address sent t n)
          (record { epoch = refl; kind = refl; thread = refl; number = omega (arith, low, same) });
    }

-- it is moved off the links, and it and all before it are forgotten
pub takes_then_forgets : (old mid new : Sending) (t n up_to : ℕ) → n ≤ up_to → TakesOutput old mid t n
    → ForgetsOutputs mid new t up_to → ForgetsOutputs old new t up_to
takes_then_forgets old mid new t n up_to low takes f = record {
  forgets = record {
    forgotten = λ a up. f.forgets.forgotten a (record {
      epoch = up.epoch ∙ sym takes.epoch;
      kind = up.kind;
      thread = up.thread;
      number = up.number;
    });
    others = λ a apart.
        f.forgets.others a (λ up. apart (record {
          epoch = up.epoch ∙ takes.epoch;
          kind = up.kind;
          thread = up.thread;
          number = up.number;
        }))
        ∙ takes.frames a (λ same. apart (record {
          epoch = ap (λ (q : Address). q.epoch) same;
          kind = ap (λ (q : Address). q.kind) same;
          thread = ap (λ (q : Address). q.thread) same;
          number = let k : a.number ≡ n = ap (λ (q : Address). q.number) same in omega (arith, k, low);
        }));
  };
  entries = f.entries ∙ takes.entries;
  outputs = f.outputs ∙ takes.outputs;
  epoch = f.epoch ∙ takes.epoch;
  threads = f.threads ∙ takes.threads;
}

-- the next one is released, so all up to it are
pub floor_past : (old new : List Numbers) (t n floor : ℕ) → n ≡ (numbers old t).floor + 1
    → ((k : ℕ) → WasMarked old t k → WasMarked new t k) → WasMarked new t n → (WasMarked new t (floor + 1) → ⊥)
    → n ≤ floor
floor_past old new t n floor next marks marked behind = go (cases_lt floor n)
  where
    go : (floor < n) ⊎ (n ≤ floor) → n ≤ floor
    go (inr up_to) = up_to
    go (inl below) = at (cases_lt (floor + 1) n)
      where
        at : (floor + 1 < n) ⊎ (n ≤ floor + 1) → n ≤ floor
        at (inl less) = absurd (behind (marks (floor + 1) (inl (omega arith, omega (arith, less, next)))))
        at (inr most) =
            let same : n ≡ floor + 1 = omega (arith, below, most) in
            absurd (behind (subst (λ (k : ℕ). WasMarked new t k) same marked))

pub next_past : (old new : List Numbers) (before out : List Output) (x : Output) (t n floor : ℕ)
    → n ≡ (numbers old t).floor + 1 → x.thread ≡ t → x.number ≡ n → out ≡ before ++ x ∷ []
    → ReleasesOnce old new (appended before out) → (WasMarked new t (floor + 1) → ⊥) → n ≤ floor
next_past old new before out x t n floor next thread number more once behind =
    floor_past old new t n floor next (λ k. marks_stay old new (x ∷ []) once_one t k)
    ((once_one.marked t n).1 (inl (inl (thread, number)))) behind
  where
    once_one : ReleasesOnce old new (x ∷ [])
    once_one = subst (λ (l : List Output). ReleasesOnce old new l)
        (ap (appended before) more ∙ appended_append before (x ∷ [])) once

-- tests that came out so

pub is_none_of : {X : Type 0} (r : Option X) (b : Bool) → is_some r ≡ not b → IsTrue b → r ≡ None
is_none_of None b is holds = refl
is_none_of (Some x) true is holds = absurd (cc)
is_none_of (Some x) false is holds = absurd (cc)

pub not_so : (r v : Bool) → v ≡ not r → v ≡ true → IsTrue r → ⊥
not_so true v is at holds = cc
not_so false v is at holds = cc
