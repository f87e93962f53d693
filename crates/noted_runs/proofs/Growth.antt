-- What is told of the moves of two masters is the same of the moves that they have in common, and an event tells how
-- many of these there are.
use Rattle.std.proofs.Common.{◌≡◌, ◌⊎◌, ◌≤◌, ℕ, zero, suc, ◌+◌, ◌-◌, ◌*◌, inl, inr, List, [], ◌∷◌, ◌++◌, length, refl}
use Rattle.std.proofs.Common.{sym, ap, ◌∙◌, subst, arith, take, drop, append_assoc, length-append, take-append-drop}
use Rattle.std.proofs.Common.{Option, Some, None}
use Rattle.std.specs.Prelude.{⊤, Bool, true, false, nat_lt, not, ◌||◌, ◌%◌, if◌then◌else◌}
use Rattle.std.proofs.lemmas.List.{take_all, take-append-le}
use Rattle.plain_text.specs.declared.limit.Limit.{Limit}
use Rattle.plain_text.specs.declared.kind.Kind.{Kind}
use Rattle.plain_text.specs.declared.kind.Kind.TheVariants as kind
use Rattle.random_words.specs.Words.{word_of}
use Rattle.entry_order.specs.Log.{entries}
use Rattle.plain_machine.specs.History.{Step, log_of, sent_of, outputs}
use Rattle.plain_machine.specs.Agree.{IsEarlier}
use Rattle.plain_machine.proofs.Histories.{earlier_refl}
use Rattle.recovery_world.specs.declared.event.Event.{Event}
use Rattle.recovery_world.specs.declared.event.Event.TheVariants as event
use Rattle.recovery_world.specs.declared.event.Outcome.{Outcome}
use Rattle.recovery_world.specs.World.{Setting, Sent, World}
use Rattle.recovery_world.specs.Strategies.{Choice, Follows, Ends, Halts, Goes}
use Rattle.recovery_world.specs.Many.{Arrives, Chooses, Message, OnAny, Phase, Several, Single, Steps, Wakes}
use Rattle.recovery_world.specs.Many.{after_step, all_messages, arrival_of, at_rest, auto_event, first_of, goes_on}
use Rattle.recovery_world.specs.Many.{chosen, rests, turn_at}
use Rattle.run_drawing.specs.Noted.{kept_behind, moves_by}
use Rattle.noted_runs.proofs.PictureTurns.{Moves, Starts, Stays, Turn, is_onward, turn}

-- Two masters have the first of their moves in common, and so many.
pub record Shares {V : Type 0} (old new : List (Step V)) (k : ℕ) : Type 0 where
  pub common : List (Step V)
  pub before : IsEarlier common old
  pub after : IsEarlier common new
  pub long : length common ≡ k

earlier_short : {V : Type 0} (c p : List (Step V)) → IsEarlier c p → length c ≤ length p
earlier_short {V} c [] is = let same = ap (λ (l : List (Step V)). length l) is in omega (arith, same)
earlier_short {V} c (x ∷ p) (inl is) = let same = ap (λ (l : List (Step V)). length l) is in omega (arith, same)
earlier_short c (x ∷ p) (inr h) = let rest = earlier_short c p h in omega (arith, rest)

earlier_behind : {V : Type 0} (more past : List (Step V)) → IsEarlier past (more ++ past)
earlier_behind [] past = earlier_refl past
earlier_behind (x ∷ more) past = inr (earlier_behind more past)

-- What is told

-- of each move one thing, of the oldest first
module _ {A V : Type 0} (f : List (Step V) → List A) (g : Step V → A) (none : f [] ≡ [])
    (more : (x : Step V) (p : List (Step V)) → f (x ∷ p) ≡ f p ++ g x ∷ []) where
  told_long : (p : List (Step V)) → length (f p) ≡ length p
  told_long [] = ap (λ (l : List A). length l) none
  told_long (x ∷ p) =
      let rest = told_long p in
      let one = ap (λ (l : List A). length l) (more x p) in
      let both = length-append (f p) (g x ∷ []) in omega (arith, rest, one, both)

  told_earlier : (c p : List (Step V)) → IsEarlier c p → take (length c) (f p) ≡ f c
  told_earlier c [] is =
      subst (λ (l : List (Step V)). take (length l) (f []) ≡ f l) (sym is) (sym none)
  told_earlier c (x ∷ p) (inl is) =
      let long = told_long (x ∷ p) in
      subst (λ (l : List (Step V)). take (length l) (f (x ∷ p)) ≡ f l) (sym is)
      (take_all (length (x ∷ p)) (f (x ∷ p)) (omega (arith, long)))
  told_earlier c (x ∷ p) (inr h) =
      let long = told_long p in
      let short = earlier_short c p h in
      ap (λ (l : List A). take (length c) l) (more x p)
      ∙ (take-append-le (length c) (f p) (g x ∷ []) (omega (arith, long, short)) ∙ told_earlier c p h)

  pub told_shared : (old new : List (Step V)) (k : ℕ) → Shares old new k
      → take k (f old) ++ drop k (f new) ≡ f new
  told_shared old new k h =
      subst (λ (n : ℕ). take n (f old) ++ drop n (f new) ≡ f new) h.long
      (ap (λ (l : List A). l ++ drop (length h.common) (f new))
      (told_earlier h.common old h.before ∙ sym (told_earlier h.common new h.after))
      ∙ take-append-drop (length h.common) (f new))

-- How many are in common

shares_by : {V : Type 0} (base old new more : List (Step V)) (count : ℕ) → IsEarlier base old → new ≡ more ++ base
    → count ≡ length more → Shares old new (length new - count)
shares_by {V} base old new more count before is counted =
    let all = ap (λ (l : List (Step V)). length l) is in
    let both = length-append more base in
    record {
      common = base;
      before = before;
      after = subst (λ (l : List (Step V)). IsEarlier base l) (sym is) (earlier_behind more base);
      long = omega (arith, all, both, counted);
    }

turn_shares : {V : Type 0} (w : World V) (ev : Event) (to : Outcome) (new : World V)
    → IsEarlier w.stored w.past → Turn w ev to new → Shares w.past new.past (kept_behind to new)
turn_shares w ev to new stored (inl h) =
    shares_by w.past w.past new.past [] (moves_by to) (earlier_refl w.past) h.past h.none
turn_shares w ev to new stored (inr (inl h)) =
    shares_by w.past w.past new.past (h.step ∷ []) (moves_by to) (earlier_refl w.past) h.past h.one
turn_shares w ev to new stored (inr (inr h)) =
    shares_by w.stored w.past new.past [] (moves_by to) stored h.past h.none

-- Several events

-- so many moves more
pub record Grown {V : Type 0} (w new : World V) : Type 0 where
  pub more : List (Step V)
  pub past : new.past ≡ more ++ w.past
  pub moves : new.moves ≡ length more + w.moves

grown_none : {V : Type 0} (w : World V) → Grown w w
grown_none w = record { more = []; past = refl; moves = omega arith }

grown_stays : {V : Type 0} (w mid new : World V) (to : Outcome) → Stays w to mid → Grown mid new → Grown w new
grown_stays {V} w mid new to h g =
    let a = g.moves in
    let b = h.moves in
    record {
      more = g.more;
      past = g.past ∙ ap (λ (l : List (Step V)). g.more ++ l) h.past;
      moves = omega (arith, a, b);
    }

grown_moves : {V : Type 0} (w mid new : World V) (to : Outcome) → Moves w to mid → Grown mid new → Grown w new
grown_moves {V} w mid new to h g =
    let a = g.moves in
    let b = h.moves in
    let long = length-append g.more (h.step ∷ []) in
    record {
      more = g.more ++ h.step ∷ [];
      past =
          g.past
          ∙ (ap (λ (l : List (Step V)). g.more ++ l) h.past ∙ sym (append_assoc g.more (h.step ∷ []) w.past));
      moves = omega (arith, a, b, long);
    }

grown_turn : {V : Type 0} (w mid new : World V) (ev : Event) (to : Outcome) → is_onward ev ≡ true → Turn w ev to mid
    → Grown mid new → Grown w new
grown_turn w mid new ev to onward (inl h) g = grown_stays w mid new to h g
grown_turn w mid new ev to onward (inr (inl h)) g = grown_moves w mid new to h g
grown_turn w mid new ev to onward (inr (inr h)) g = let other : is_onward ev ≡ false = h.recovers in absurd (cc)

-- a master is up
abbrev is_awake : Phase → Bool
is_awake Wakes = false
is_awake (Steps left t moved) = true
is_awake (Arrives messages) = true
is_awake (Chooses seed k n) = true

-- what is chosen leads on
abbrev LeadsOn : Option (Choice Phase) → Type 0
LeadsOn None = ⊤
LeadsOn (Some c) = (is_onward c.event ≡ true) × ((to : Outcome) → is_awake (c.leads_to to) ≡ true)

awake_turn : (threads left t : ℕ) (moved : Bool) → is_awake (turn_at threads left t moved) ≡ true
awake_turn threads left t moved = by (nat_lt t threads || not moved)
  where
    by : (b : Bool) → is_awake (if b then Steps left t moved else Steps left 0 false) ≡ true
    by true = refl
    by false = refl

awake_step : (threads left t : ℕ) (moved : Bool) (to : Outcome) → is_awake (after_step threads left t moved to) ≡ true
awake_step threads left t moved to = by (rests to)
  where
    by : (b : Bool) → is_awake (if b then turn_at threads left (t + 1) moved else Steps left t true) ≡ true
    by true = awake_turn threads left (t + 1) moved
    by false = refl

arrival_onward : (k : Kind) (t n : ℕ) → is_onward (arrival_of k t n) ≡ true
arrival_onward kind.Log t n = refl
arrival_onward kind.Out t n = refl

first_leads : (messages : List Message) → LeadsOn (first_of messages)
first_leads [] = tt
first_leads (m ∷ messages) = (arrival_onward m.kind m.thread m.number, λ to. refl)

rest_leads : {V : Type 0} (s : Setting V) (w : World V) (left : ℕ) → LeadsOn (at_rest s w left)
rest_leads s w zero = first_leads (all_messages s w)
rest_leads s w (suc left) = (refl, λ to. refl)

one_of : (b : Bool) (x y : Event) → is_onward x ≡ true → is_onward y ≡ true → is_onward (if b then x else y) ≡ true
one_of true x y a b = a
one_of false x y a b = b

auto_onward : (threads : ℕ) (entries outputs : ℕ → ℕ) (a b : ℕ)
    → is_onward (auto_event threads entries outputs a b) ≡ true
auto_onward threads entries outputs a b =
    one_of (nat_lt (a % 32) 16) _ _ refl (one_of (nat_lt (a % 32) 19) _ _ refl
    (one_of (nat_lt (a % 32) 25) _ _ refl (one_of (nat_lt (a % 32) 29) _ _ refl
    (one_of (nat_lt (a % 32) 30) _ _ refl refl))))

leads : {V : Type 0} (s : Setting V) (q : Phase) (w : World V) → is_awake q ≡ true → LeadsOn (goes_on s q w)
leads s Wakes w awake = absurd (cc)
leads s (Steps left t moved) w awake = by (nat_lt t s.threads)
  where
    by : (b : Bool)
        → LeadsOn (if b
        then Some (record { event = event.Step t None; leads_to = after_step s.threads left t moved })
        else at_rest s w left)
    by true = (refl, λ to. awake_step s.threads left t moved to)
    by false = rest_leads s w left
leads s (Arrives messages) w awake = first_leads messages
leads s (Chooses seed k n) w awake = by (nat_lt k n)
  where
    by : (b : Bool)
        → LeadsOn (if b
        then Some (record { event = chosen s seed k w; leads_to = λ to. Chooses seed (k + 1) n }) else None)
    by true = (
      auto_onward s.threads (λ t. entries t (log_of w.past)) (λ t. outputs t (sent_of w.past))
          (word_of seed (2 * k)) (word_of seed (2 * k + 1)),
      λ to. refl,
    )
    by false = tt

grows : {V : Type 0} (s : Setting V) (q : Phase) (w new : World V) (end : Option Limit) → is_awake q ≡ true
    → Follows s (goes_on s) q w end new → Grown w new
grows s q w new end awake (Ends p same none) = grown_none w
grows s q w new end awake (Halts p same c limit some passes) = grown_none w
grows s q w new end awake (Goes {mid = mid} p same c to freed some on rest) =
    let on_to = subst LeadsOn some (leads s q w awake) in
    grown_turn w mid new c.event to on_to.0 (turn s w c.event to freed mid on.0)
    (grows s (c.leads_to to) mid new end (on_to.1 to) rest)

grown_shares : {V : Type 0} (w new : World V) → Grown w new
    → Shares w.past new.past (length new.past - (new.moves - w.moves))
grown_shares w new g =
    let a = g.moves in
    shares_by w.past w.past new.past g.more (new.moves - w.moves) (earlier_refl w.past) g.past (omega (arith, a))

abbrev WakesUp : Option (Choice Phase) → Type 0
WakesUp None = ⊥
WakesUp (Some c) = (to : Outcome) → is_awake (c.leads_to to) ≡ true

-- a new master, with those of the snapshot, and so many more
woken : {V : Type 0} (w mid new : World V) (ev : Event) (to : Outcome) → IsEarlier w.stored w.past
    → Turn w ev to mid → Grown mid new → Shares w.past new.past (length new.past - (new.moves - w.moves))
woken w mid new ev to stored (inl h) g = grown_shares w new (grown_stays w mid new to h g)
woken w mid new ev to stored (inr (inl h)) g = grown_shares w new (grown_moves w mid new to h g)
woken {V} w mid new ev to stored (inr (inr h)) g =
    let a = g.moves in
    let b = h.moves in
    shares_by w.stored w.past new.past g.more (new.moves - w.moves) stored
    (g.past ∙ ap (λ (l : List (Step V)). g.more ++ l) h.past) (omega (arith, a, b))

wakes_shares : {V : Type 0} (s : Setting V) (w new : World V) (end : Option Limit) → IsEarlier w.stored w.past
    → Follows s (goes_on s) Wakes w end new → Shares w.past new.past (length new.past - (new.moves - w.moves))
wakes_shares s w new end stored (Ends p same none) = absurd (subst WakesUp none (λ to. refl))
wakes_shares s w new end stored (Halts p same c limit some passes) = grown_shares w w (grown_none w)
wakes_shares s w new end stored (Goes {mid = mid} p same c to freed some on rest) =
    let up = subst WakesUp some (λ to. refl) in
    woken w mid new c.event to stored (turn s w c.event to freed mid on.0)
    (grows s (c.leads_to to) mid new end (up to) rest)

several_shares : {V : Type 0} (s : Setting V) (q : Phase) (w new : World V) (end : Option Limit)
    → IsEarlier w.stored w.past → Follows s (goes_on s) q w end new
    → Shares w.past new.past (length new.past - (new.moves - w.moves))
several_shares s Wakes w new end stored f = wakes_shares s w new end stored f
several_shares s (Steps left t moved) w new end stored f =
    grown_shares w new (grows s (Steps left t moved) w new end refl f)
several_shares s (Arrives messages) w new end stored f =
    grown_shares w new (grows s (Arrives messages) w new end refl f)
several_shares s (Chooses seed k n) w new end stored f =
    grown_shares w new (grows s (Chooses seed k n) w new end refl f)

-- Every event says how many moves the master behind it has in common with the one before it.
pub any_shares : {V : Type 0} (s : Setting V) (w : World V) (ev : Event) (to : Outcome) (freed : List Sent)
    (new : World V) → IsEarlier w.stored w.past → OnAny s w ev to freed new
    → Shares w.past new.past (kept_behind to new)
any_shares s w ev to freed new stored (Single e o f n on) =
    turn_shares w ev to new stored (turn s w ev to freed new on.0)
any_shares s w ev to freed new stored (Several e q o n at f is) =
    subst (λ (k : ℕ). Shares w.past new.past (length new.past - k)) (sym (ap moves_by is))
    (several_shares s q w new None stored f)
