-- A ready world comes to rest.
use Rattle.std.proofs.Common.{◌≡◌, ℕ, ◌+◌, true, false, List, [], ◌∷◌, ◌++◌, length, refl, sym, ap, ◌∙◌, subst, inl}
use Rattle.std.proofs.Common.{inr}
use Rattle.std.proofs.Common.{◌⊎◌, Option, Some, None, Ok}
use Rattle.entry_order.specs.Log.{Entry, IsIn}
use Rattle.entry_order.proofs.ClosedParts.{Or}
use Rattle.entry_order.proofs.KeptEntries.{in_either}
use Rattle.entry_order.proofs.Missing.{output_in}
use Rattle.plain_machine.specs.History.{Step, log_of}
use Rattle.plain_machine.specs.Agree.{SendsAfter}
use Rattle.recovery_world.specs.declared.event.Event.{Event}
use Rattle.recovery_world.specs.declared.event.Event.TheVariants.{Snap, Store, Crash, Recover}
use Rattle.recovery_world.specs.declared.event.Outcome.{Outcome}
use Rattle.recovery_world.specs.World.{Setting, Sent, World}
use Rattle.recovery_world.specs.Events.{MayGo, Parts, Releases, IsAmong, OnSnap, OnStore, OnCrash, OnRecover, Recovers}
use Rattle.recovery_world.specs.Events.{ended_now, On}
use Rattle.recovery_world.specs.Limits.{limit_passed, IsWithin}
use Rattle.recovery_world.specs.Many.{begins, OnAny, Single, Several}
use Rattle.recovery_world.specs.Files.{Performs, Rests, Goes}
use Rattle.recovery_laws.specs.Sound.{Sound}
use Rattle.recovery_laws.proofs.EventOutcomes.{on_there}
use Rattle.recovery_laws.proofs.KeptWorlds.{any_sound}
use Rattle.recovery_laws.proofs.Sets.{among_either}
use Rattle.handover_world.specs.Handing.{LeadsTo, ComesToRest}
use Rattle.handover_world.specs.Images.{IsAtRest}
use Rattle.handover_world.specs.Ready.{AreLeft, AreBehind, IsReadiness}
use Rattle.handover_world.proofs.SentOutputs.{sends_or}

-- an event that is done by itself
pub single_on : {V : Type 0} (s : Setting V) (w : World V) (ev : Event) (to : Outcome) (freed : List Sent)
    (new : World V) → begins s w ev ≡ None → OnAny s w ev to freed new → On s w ev to freed new
single_on s w ev to freed new alone (Single e o f n on) = on.0
single_on s w ev to freed new alone (Several e q o n at f is) = absurd (cc)

-- There is such a world

abbrev SameCounts : {V : Type 0} → World V → World V → Type 0
SameCounts w new = (new.moves ≡ w.moves) × (new.bytes ≡ w.bytes)

counts_by : {V : Type 0} (w new made : World V) → new ≡ made → SameCounts w made → SameCounts w new
counts_by {V} w new made same k = subst (λ (z : World V). SameCounts w z) (sym same) k

snap_counts : {V : Type 0} (s : Setting V) (w : World V) (to : Outcome) (freed : List Sent) (new : World V)
    → On s w Snap to freed new → SameCounts w new
snap_counts s w to freed new (inl a, b) = counts_by w new _ a.2 (refl, refl)
snap_counts s w to freed new (inr a, b) = counts_by w new _ a.2 (refl, refl)

store_counts : {V : Type 0} (s : Setting V) (w : World V) (to : Outcome) (freed : List Sent) (new : World V)
    → On s w Store to freed new → SameCounts w new
store_counts s w to freed new (inl a) = counts_by w new _ a.3 (refl, refl)
store_counts s w to freed new (inr a) = counts_by w new _ a.3.new_is (refl, refl)

crash_counts : {V : Type 0} (s : Setting V) (w : World V) (to : Outcome) (freed : List Sent) (new : World V)
    → On s w Crash to freed new → SameCounts w new
crash_counts s w to freed new (inl a, b) = counts_by w new _ a.2 (refl, refl)
crash_counts s w to freed new (inr a, b) = counts_by w new _ a.2 (refl, refl)

recover_counts : {V : Type 0} (s : Setting V) (w : World V) (to : Outcome) (freed : List Sent) (new : World V)
    → On s w Recover to freed new → SameCounts w new
recover_counts s w to freed new (inl a, b) = counts_by w new _ a.2 (refl, refl)
recover_counts s w to freed new (inr a, b) = counts_by w new _ a.1.new_is (refl, refl)

goes : {V : Type 0} (s : Setting V) (w : World V) (ev : Event) → Sound s w → IsWithin w → begins s w ev ≡ None
    → ((to : Outcome) (freed : List Sent) (new : World V) → On s w ev to freed new → SameCounts w new)
    → (new : World V) × LeadsTo s w ev new × Sound s new × IsWithin new
goes {V} s w ev h low alone counts =
    let r = on_there s w h ev alone in
    let k = counts r.0 r.1 r.2 r.3 in
    let within : limit_passed r.2.moves r.2.bytes ≡ None =
    ap (λ (n : ℕ). limit_passed n r.2.bytes) k.0 ∙ (ap (λ (n : ℕ). limit_passed w.moves n) k.1 ∙ low) in
    let on : OnAny s w ev r.0 r.1 r.2 = Single ev r.0 r.1 r.2 (r.3, within) in
    (r.2, (r.0, r.1, on), any_sound s w h ev r.0 r.1 r.2 on, within)

pub rest_there : {V : Type 0} (s : Setting V) (w : World V) → Sound s w → IsWithin w
    → (new : World V) × ComesToRest s w new
rest_there s w h low =
    let a = goes s w Snap h low refl (snap_counts s w) in
    let b = goes s a.0 Store a.2 a.3 refl (store_counts s a.0) in
    let c = goes s b.0 Crash b.2 b.3 refl (crash_counts s b.0) in
    let d = goes s c.0 Recover c.2 c.3 refl (recover_counts s c.0) in (
      d.0,
      record { copied = a.0; snap = a.1; stored = b.0; store = b.1; down = c.0; crash = c.1; recover = d.1 },
    )

-- As a script

performs_front : {V : Type 0} (s : Setting V) (w new : World V) (all later : List Event) (ev : Event) (lines : List ℕ)
    → Performs s w all lines new → all ≡ ev ∷ later
    → (mid : World V) × LeadsTo s w ev mid × (said : List ℕ) × Performs s mid later said new
performs_front s w new all later ev lines (Rests same) e = absurd (cc)
performs_front {V} s w new all later ev lines
    (Goes {mid = mid} {events = events} {lines = said} first to freed on go) e =
    let a : first ≡ ev = cc in
    let b : events ≡ later = cc in (
      mid,
      (to, freed, subst (λ (z : Event). OnAny s w z to freed mid) a on),
      said,
      subst (λ (l : List Event). Performs s mid l said new) b go,
    )

performs_end : {V : Type 0} (s : Setting V) (w new : World V) (all : List Event) (lines : List ℕ)
    → Performs s w all lines new → all ≡ [] → w ≡ new
performs_end s w new all lines (Rests same) e = refl
performs_end s w new all lines (Goes first to freed on go) e = absurd (cc)

recovers_last : {V : Type 0} (s : Setting V) (w new : World V)
    → (mid : World V) × LeadsTo s w Recover mid × (said : List ℕ) × Performs s mid [] said new → LeadsTo s w Recover new
recovers_last {V} s w new (mid, leads, said, p) =
    subst (λ (z : World V). LeadsTo s w Recover z) (performs_end s mid new [] said p refl) leads

pub rest_of_script : {V : Type 0} (s : Setting V) (w new : World V) (lines : List ℕ)
    → Performs s w (Snap ∷ Store ∷ Crash ∷ Recover ∷ []) lines new → ComesToRest s w new
rest_of_script s w new lines p =
    let a = performs_front s w new (Snap ∷ Store ∷ Crash ∷ Recover ∷ []) (Store ∷ Crash ∷ Recover ∷ []) Snap lines p
    refl in
    let b = performs_front s a.0 new (Store ∷ Crash ∷ Recover ∷ []) (Crash ∷ Recover ∷ []) Store a.2 a.3 refl in
    let c = performs_front s b.0 new (Crash ∷ Recover ∷ []) (Recover ∷ []) Crash b.2 b.3 refl in
    record {
      copied = a.0;
      snap = a.1;
      stored = b.0;
      store = b.1;
      down = c.0;
      crash = c.1;
      recover = recovers_last s c.0 new (performs_front s c.0 new (Recover ∷ []) [] Recover c.2 c.3 refl);
    }

pub script_of_rest : {V : Type 0} (s : Setting V) (w new : World V) → ComesToRest s w new
    → (lines : List ℕ) × Performs s w (Snap ∷ Store ∷ Crash ∷ Recover ∷ []) lines new
script_of_rest s w new c = (
  _,
  Goes Snap c.snap.0 c.snap.1 c.snap.2 (Goes Store c.store.0 c.store.1 c.store.2
      (Goes Crash c.crash.0 c.crash.1 c.crash.2 (Goes Recover c.recover.0 c.recover.1 c.recover.2 (Rests new)))),
)

-- What it is

-- where all may go, none stays
all_go : (P : Sent → Type 0) → ((o : Sent) → P o) → (xs go stay : List Sent) → Parts P xs go stay
    → (go ≡ xs) × (stay ≡ [])
all_go P all [] go stay h = (h.0, h.1)
all_go P all (x ∷ xs) go stay (inl (p, rest, is, more)) =
    let k = all_go P all xs rest stay more in (is ∙ ap (λ (l : List Sent). x ∷ l) k.0, k.1)
all_go P all (x ∷ xs) go stay (inr (never, rest, is, more)) = absurd (never (all x))

-- where none may go, each is refused
pub none_goes : (P : Sent → Type 0) (xs go stay : List Sent) → Parts P xs go stay → go ≡ [] → (o : Sent) → IsAmong o xs
    → P o → ⊥
none_goes P [] go stay h none o i p = i
none_goes P (x ∷ xs) go stay (inl (q, rest, is, more)) none o i p = cc
none_goes P (x ∷ xs) go stay (inr (never, rest, is, more)) none o (inl same) p = never (subst P (sym same) p)
none_goes P (x ∷ xs) go stay (inr (never, rest, is, more)) none o (inr i) p =
    none_goes P xs go rest more none o i p

pub none_of : {X : Type 0} (xs : List X) → length xs ≡ 0 → xs ≡ []
none_of [] e = refl
none_of (x ∷ xs) e = absurd (cc)

-- the world after the four events
pub record Rested {V : Type 0} (w new : World V) : Type 0 where
  pub part : List Entry
  pub within : (e : Entry) → IsIn e part → IsIn e w.held
  pub new_is : new ≡ record w {
    up = true;
    copy = None;
    stored = w.past;
    waiting = [];
    released = w.released ++ w.waiting;
    held = part;
    followed = part;
    epoch = w.epoch + 1;
    ended = ended_now w ∷ w.ended;
  }

module _ {V : Type 0} (s : Setting V) (w : World V) where
  abbrev pub copied : World V
  copied = record w { copy = Some w.past }

  abbrev pub stored : World V
  stored = record w { copy = None; stored = w.past; waiting = []; released = w.released ++ w.waiting }

  abbrev pub down : World V
  down = record w { up = false; copy = None; stored = w.past; waiting = []; released = w.released ++ w.waiting }

  copied_is : w.up ≡ true → (to : Outcome) (new : World V) → OnSnap w to new → new ≡ copied
  copied_is up to new (inl a) = let off : w.up ≡ false = a.0 in absurd (cc)
  copied_is up to new (inr a) = a.2

  -- what is stored then has all that an output of the past needs
  all_may_go : (o : Sent) → MayGo (record w { copy = None; stored = w.past }) o
  all_may_go o e missing =
      missing.not_stored (output_in (log_of w.past) o.emission.thread o.after e missing.precedes)

  releases_is : (freed : List Sent) (new : World V) → Releases (record w { copy = None; stored = w.past }) freed new
      → new ≡ stored
  releases_is freed new r =
      let k = all_go (MayGo (record w { copy = None; stored = w.past })) all_may_go w.waiting freed r.stay r.parts in
      r.new_is
      ∙ (ap (λ (l : List Sent). record w {
        copy = None;
        stored = w.past;
        waiting = l;
        released = w.released ++ freed;
      }) k.1
      ∙ ap (λ (l : List Sent). record w {
        copy = None;
        stored = w.past;
        waiting = [];
        released = w.released ++ l;
      }) k.0)

  stored_is : (to : Outcome) (freed : List Sent) (new : World V) → OnStore copied to freed new → new ≡ stored
  stored_is to freed new (inl a) =
      let none : ◌≡◌ {A = Option (List (Step V))} (Some w.past) None = a.0 in absurd (cc)
  stored_is to freed new (inr (copy, some, is, r)) =
      let same : copy ≡ w.past =
      let e : ◌≡◌ {A = Option (List (Step V))} (Some w.past) (Some copy) = some in cc in
      releases_is freed new
      (subst (λ (l : List (Step V)). Releases (record w { copy = None; stored = l }) freed new) same r)

  down_is : w.up ≡ true → (to : Outcome) (new : World V) → OnCrash stored to new → new ≡ down
  down_is up to new (inl a) = let off : w.up ≡ false = a.0 in absurd (cc)
  down_is up to new (inr a) = a.2

  recovers_is : (new : World V) → Recovers down new → Rested w new
  recovers_is new r = record { part = r.part; within = r.closed.within; new_is = r.new_is }

  rested_is : (to : Outcome) (new : World V) → OnRecover down to new → Rested w new
  rested_is to new (inl a) = let on : false ≡ true = a.0 in absurd (cc)
  rested_is to new (inr a) = recovers_is new a.1

  module _ (new : World V) (c : ComesToRest s w new) (up : w.up ≡ true) where
    is_copied : c.copied ≡ copied
    is_copied = copied_is up c.snap.0 c.copied (single_on s w Snap c.snap.0 c.snap.1 c.copied refl c.snap.2).0

    is_stored : c.stored ≡ stored
    is_stored = stored_is c.store.0 c.store.1 c.stored
        (subst (λ (z : World V). OnStore z c.store.0 c.store.1 c.stored) is_copied
        (single_on s c.copied Store c.store.0 c.store.1 c.stored refl c.store.2))

    pub none_waits : c.stored.waiting ≡ []
    none_waits = ap (λ (z : World V). z.waiting) is_stored

    is_down : c.down ≡ down
    is_down = down_is up c.crash.0 c.down (subst (λ (z : World V). OnCrash z c.crash.0 c.down) is_stored
        (single_on s c.stored Crash c.crash.0 c.crash.1 c.down refl c.crash.2).0)

    pub rested : Rested w new
    rested = rested_is c.recover.0 new (subst (λ (z : World V). OnRecover z c.recover.0 new) is_down
        (single_on s c.down Recover c.recover.0 c.recover.1 new refl c.recover.2).0)

  -- what is held is made, where nothing is left
  held_made : Sound s w → AreLeft w 0 → (e : Entry) → IsIn e w.held → IsIn e (log_of w.past)
  held_made h left e i = go (in_either e h.firm.more (log_of w.past) (h.firm.held e i))
    where
      go : IsIn e h.firm.more ⊎ IsIn e (log_of w.past) → IsIn e (log_of w.past)
      go (inr k) = k
      go (inl k) = absurd (subst (λ (l : List Entry). IsIn e l) (none_of left.more left.many_are)
          ((left.to_come e).1 ((h.firm.to_come e).0 k)))

  -- what was released is of the past, where nothing is behind
  all_sent : AreBehind w 0 → (o : Sent) → IsAmong o w.released → SendsAfter w.past o.emission o.after
  all_sent b o i = go (sends_or w.past o.emission o.after)
    where
      go : Or (SendsAfter w.past o.emission o.after) → SendsAfter w.past o.emission o.after
      go (inl k) = k
      go (inr never) = absurd (none_goes (λ x. SendsAfter w.past x.emission x.after → ⊥) w.released b.behind b.others
          b.parts (none_of b.behind b.many_are) o i never)

  at_rest : Sound s w → AreLeft w 0 → AreBehind w 0 → (new : World V) → Rested w new → IsAtRest new
  at_rest h left b new r = subst (λ (z : World V). IsAtRest z) (sym r.new_is) (record {
    up = refl;
    stored = refl;
    copy = refl;
    held = λ e i. held_made h left e (r.within e i);
    followed = λ e i. held_made h left e (r.within e i);
    waiting = refl;
    sent = sent;
  })
    where
      sent : (o : Sent) → IsAmong o (w.released ++ w.waiting) → SendsAfter w.past o.emission o.after
      sent o i = go (among_either o w.released w.waiting i)
        where
          go : IsAmong o w.released ⊎ IsAmong o w.waiting → SendsAfter w.past o.emission o.after
          go (inl k) = all_sent b o k
          go (inr k) = h.firm.sent o k

  pub comes_to_rest : Sound s w → IsReadiness w (Ok tt) → (new : World V) → ComesToRest s w new → IsAtRest new
  comes_to_rest h ready new c = at_rest h ready.1 ready.2 new (rested new c ready.0)
