-- What moves and arrivals make of two worlds, of which one had some entries earlier.
use Rattle.std.proofs.Common.{◌≡◌, ℕ, zero, suc, ◌+◌, ◌≤◌, ◌<◌, ◌≢◌, Bool, true, false, cond, List, [], ◌∷◌, ◌++◌}
use Rattle.std.proofs.Common.{length, refl, sym, ap, ◌∙◌, subst, inl, inr, ◌⊎◌, arith, Option, Some, None}
use Rattle.std.specs.Prelude.{nat_eq, ◌↔◌}
use Rattle.std.proofs.lemmas.List.{append-nil}
use Rattle.std.proofs.lemmas.Bool.{cases_lt}
use Rattle.std.proofs.lemmas.Bool.Decides.{nat_tests}
use Rattle.entry_order.specs.Log.{Entry, entries, IsLog, IsIn, PrecedesOutput}
use Rattle.entry_order.proofs.Order.{is_or, entries_grow, number_within}
use Rattle.entry_order.proofs.Joins.{output_older}
use Rattle.entry_order.proofs.Missing.{output_in}
use Rattle.entry_order.proofs.ClosedParts.{Or, in_or}
use Rattle.plain_machine.specs.declared.emission.Emission.{Emission}
use Rattle.plain_machine.specs.History.{Act, Took, Did, Emitted, Ended, Step, log_more, log_of, IsHistory}
use Rattle.plain_machine.specs.Agree.{SendsAfter}
use Rattle.plain_machine.proofs.Histories.{history_log}
use Rattle.recovery_world.specs.declared.event.Event.{Event}
use Rattle.recovery_world.specs.declared.event.Event.TheVariants as event
use Rattle.recovery_world.specs.declared.event.Outcome.{Outcome}
use Rattle.recovery_world.specs.declared.event.Outcome.TheVariants as outcome
use Rattle.recovery_world.specs.World.{Setting, Sent, World, inputs_fed}
use Rattle.recovery_world.specs.Events.{MakesMove, WaitsFor, OnStep, IsKnown, MayGo, Parts, Releases, IsEntryOf}
use Rattle.recovery_world.specs.Events.{IsAmong, OnLog, On, bytes_sent}
use Rattle.recovery_world.specs.Limits.{IsWithin, OnWithin}
use Rattle.recovery_laws.specs.Sound.{Sound}
use Rattle.recovery_laws.proofs.KeptWorlds.{event_sound, within_sound}
use Rattle.recovery_laws.proofs.OneOutcome.{Same, on_one, entry_one}
use Rattle.recovery_laws.proofs.EventOutcomes.{on_there}
use Rattle.recovery_laws.proofs.Sets.{parts_stay}
use Rattle.early_arrivals.specs.Early.{with_held, IsAhead, IsEarly, IsSameSet}

-- Moves

sends_low : {V : Type 0} (xs : List (Step V)) (o : Emission) (n : ℕ) → SendsAfter xs o n
    → n ≤ entries o.thread (log_of xs)
sends_low [] o n h = absurd h
sends_low {V} (x ∷ earlier) o n (inl (a, q)) =
    let k : log_of (x ∷ earlier) ≡ log_of earlier = ap (λ (a : Act V). log_more a (log_of earlier)) a in
    let u : entries o.thread (log_of (x ∷ earlier)) ≡ entries o.thread (log_of earlier) =
    ap (λ (l : List Entry). entries o.thread l) k in
    omega (arith, u, q)
sends_low {V} (x ∷ earlier) o n (inr h) = go x.act (sends_low earlier o n h)
  where
    go : (a : Act V) → n ≤ entries o.thread (log_of earlier) → n ≤ entries o.thread (log_more a (log_of earlier))
    go (Took k) low = low
    go (Did e left) low = let k = entries_grow o.thread e (log_of earlier) in omega (arith, k, low)
    go (Emitted p) low = low
    go (Ended k) low = low

-- A step does the same, whatever is held.
pub step_alike : {V : Type 0} (s : Setting V) (w new : World V) (held : List Entry) (t : ℕ) (given : Option ℕ)
    (to : Outcome) → OnStep s w t given to new → OnStep s (with_held w held) t given to (with_held new held)
step_alike {V} s w new held t given to (inl a) = inl (a.0, a.1, ap (λ (z : World V). with_held z held) a.2)
step_alike {V} s w new held t given to (inr (inl a)) =
    inr (inl (a.0, a.1, a.2, ap (λ (z : World V). with_held z held) a.3))
step_alike {V} s w new held t given to (inr (inr (inl a))) =
    inr (inr (inl (a.0, a.1, a.2, a.3, ap (λ (z : World V). with_held z held) a.4)))
step_alike {V} s w new held t given to (inr (inr (inr (inl a)))) = inr (inr (inr (inl (
  a.0,
  a.1,
  record { hand = a.2.hand; hand_is = a.2.hand_is; entry = a.2.entry; awaits = a.2.awaits; to_is = a.2.to_is },
  ap (λ (z : World V). with_held z held) a.3,
))))
step_alike {V} s w new held t given to (inr (inr (inr (inr a)))) = inr (inr (inr (inr (
  a.0,
  a.1,
  record {
    turn = a.2.turn;
    answer = a.2.answer;
    drawn = a.2.drawn;
    tells = a.2.tells;
    step = a.2.step;
    moves = a.2.moves;
    to_is = a.2.to_is;
    new_is = ap (λ (z : World V). with_held z held) a.2.new_is;
  },
))))

same_ahead : {V : Type 0} (w new : World V) (held : List Entry) → new ≡ w → IsAhead w held → IsAhead new held
same_ahead {V} w new held same a = subst (λ (z : World V). IsAhead z held) (sym same) a

-- What was ahead stays so: what waits was sent before, and has no new predecessors.
pub step_ahead : {V : Type 0} (s : Setting V) (w new : World V) (held : List Entry) (t : ℕ) (given : Option ℕ)
    (to : Outcome) → Sound s w → OnStep s w t given to new → IsAhead w held → IsAhead new held
step_ahead s w new held t given to h (inl a) k = same_ahead w new held a.2 k
step_ahead s w new held t given to h (inr (inl a)) k = same_ahead w new held a.3 k
step_ahead s w new held t given to h (inr (inr (inl a))) k = same_ahead w new held a.4 k
step_ahead s w new held t given to h (inr (inr (inr (inl a)))) k = same_ahead w new held a.3 k
step_ahead {V} s w new held t given to h (inr (inr (inr (inr a)))) k =
    subst (λ (z : World V). IsAhead z held) (sym m.new_is) (record {
      keeps = k.keeps;
      more = λ e i. grow e (k.more e i);
      unwanted = λ o e i p there. k.unwanted o e i (older o e i p) there;
    })
  where
    m : MakesMove s w t given to new
    m = a.2

    sound : Sound s new
    sound = event_sound s w h.firm h.waits (event.Step t given) to [] new (inr (inr (inr (inr a))), refl)

    good : IsLog (log_of (m.step ∷ w.past))
    good = subst (λ (z : World V). IsLog (log_of z.past)) m.new_is
        (history_log s.meaning (inputs_fed s new.fed) s.threads new.past sound.firm.legal)

    grow_by : (e : Entry) (x : Act V) → IsIn e (log_of w.past) → IsIn e (log_more x (log_of w.past))
    grow_by e (Took n) i = i
    grow_by e (Did f left) i = inr i
    grow_by e (Emitted o) i = i
    grow_by e (Ended n) i = i

    grow : (e : Entry) → IsIn e w.held ⊎ (IsIn e (log_of w.past) × (IsIn e (log_of w.stored) → ⊥))
        → IsIn e w.held ⊎ (IsIn e (log_of (m.step ∷ w.past)) × (IsIn e (log_of w.stored) → ⊥))
    grow e (inl i) = inl i
    grow e (inr i) = inr (grow_by e m.step.act i.0, i.1)

    older_by : (x : Act V) (n j : ℕ) (e : Entry) → IsLog (log_more x (log_of w.past)) → j ≤ entries n (log_of w.past)
        → PrecedesOutput (log_more x (log_of w.past)) n j e → PrecedesOutput (log_of w.past) n j e
    older_by (Took i) n j e good low p = p
    older_by (Did f left) n j e good low p = output_older f (log_of w.past) n j e good low p
    older_by (Emitted o) n j e good low p = p
    older_by (Ended i) n j e good low p = p

    older : (o : Sent) (e : Entry) → IsAmong o w.waiting
        → PrecedesOutput (log_of (m.step ∷ w.past)) o.emission.thread o.after e
        → PrecedesOutput (log_of w.past) o.emission.thread o.after e
    older o e i p =
        older_by m.step.act o.emission.thread o.after e good (sends_low w.past o.emission o.after (h.firm.sent o i)) p

-- Arrivals

none_go : (P : Sent → Type 0) (xs go stay : List Sent) → Parts P xs go stay → ((o : Sent) → IsAmong o xs → P o → ⊥)
    → (go ≡ []) × (stay ≡ xs)
none_go P [] go stay p none = (p.0, p.1)
none_go P (x ∷ xs) go stay (inl (px, rest, is, p)) none = absurd (none x (inl refl) px)
none_go P (x ∷ xs) go stay (inr (out, rest, is, p)) none =
    let r = none_go P xs go rest p (λ o i. none o (inr i)) in (r.0, is ∙ ap (λ (l : List Sent). x ∷ l) r.1)

parts_like : (P Q : Sent → Type 0) (xs go stay : List Sent) → Parts P xs go stay
    → ((o : Sent) → IsAmong o xs → P o → Q o) → ((o : Sent) → IsAmong o xs → Q o → P o) → Parts Q xs go stay
parts_like P Q [] go stay p to back = p
parts_like P Q (x ∷ xs) go stay (inl (px, rest, is, p)) to back =
    inl (to x (inl refl) px, rest, is, parts_like P Q xs rest stay p (λ o i. to o (inr i)) (λ o i. back o (inr i)))
parts_like P Q (x ∷ xs) go stay (inr (out, rest, is, p)) to back = inr (
  (λ q. out (back x (inl refl) q)),
  rest,
  is,
  parts_like P Q xs go rest p (λ o i. to o (inr i)) (λ o i. back o (inr i)),
)

-- an entry is held, which no waiting output wants
unwanted_releases : {V : Type 0} (s : Setting V) (w : World V) (e : Entry) (held : List Entry) (freed : List Sent)
    (new : World V) → Sound s w
    → ((o : Sent) → IsAmong o w.waiting → PrecedesOutput (log_of w.past) o.emission.thread o.after e → IsIn e w.held)
    → held ≡ e ∷ w.held → Releases (with_held w held) freed new → (freed ≡ []) × (new ≡ with_held w held)
unwanted_releases {V} s w e held freed new h unwanted held_is r = (
  q.0,
  r.new_is
      ∙ (ap
      (λ (l : List Sent). let z : World V = record w { held = held; waiting = l; released = w.released ++ freed } in z)
      q.1
      ∙ ap (λ (l : List Sent). let z : World V = record w { held = held; released = l } in z)
      (ap (λ (l : List Sent). w.released ++ l) q.0 ∙ append-nil w.released)),
)
  where
    not_due : (o : Sent) → IsAmong o w.waiting → MayGo (with_held w held) o → ⊥
    not_due o i due = h.waits o i (λ x m. due x (record {
      precedes = m.precedes;
      not_held = λ there. pick x m.precedes m.not_held (subst (λ (l : List Entry). IsIn x l) held_is there);
      not_stored = m.not_stored;
    }))
      where
        pick : (x : Entry) → PrecedesOutput (log_of w.past) o.emission.thread o.after x → (IsIn x w.held → ⊥)
            → (e ≡ x) ⊎ IsIn x w.held → ⊥
        pick x p never (inl same) = never (subst (λ (z : Entry). IsIn z w.held) same (unwanted o i
            (subst (λ (z : Entry). PrecedesOutput (log_of w.past) o.emission.thread o.after z) (sym same) p)))
        pick x p never (inr there) = never there

    q : (freed ≡ []) × (r.stay ≡ w.waiting)
    q = none_go (MayGo (with_held w held)) w.waiting freed r.stay r.parts not_due

-- An entry that no waiting output wants arrives early: it releases nothing, and the world is the same but for what is
-- held.
pub log_early : {V : Type 0} (s : Setting V) (w next : World V) (held : List Entry) (e : Entry) (to : Outcome)
    (freed : List Sent) → Sound s (with_held w held) → IsAhead w held → IsIn e (log_of w.past)
    → ((o : Sent) → IsAmong o w.waiting → PrecedesOutput (log_of w.past) o.emission.thread o.after e → IsIn e w.held)
    → On s (with_held w held) (event.Log e.thread e.number) to freed next → (freed ≡ []) × IsEarly w next
log_early s w next held e to freed h k here unwanted (inl a) = (a.2, record { held = held; same = a.3; ahead = k })
log_early s w next held e to freed h k here unwanted (inr (low, inl a)) =
    (a.2, record { held = held; same = a.3; ahead = k })
log_early s w next held e to freed h k here unwanted (inr (low, inr (inl a))) =
    (a.4, record { held = held; same = a.5; ahead = k })
log_early {V} s w next held e to freed h k here unwanted (inr (low, inr (inr a))) = (
  r.0,
  record {
    held = a.0 ∷ held;
    same = r.1;
    ahead = record { keeps = λ x i. inr (k.keeps x i); more = more; unwanted = only };
  },
)
  where
    is : a.0 ≡ e
    is = entry_one s (with_held w held) h e.thread e.number a.0 e a.1 (here, refl, refl)

    wants : (o : Sent) → IsAmong o w.waiting → PrecedesOutput (log_of w.past) o.emission.thread o.after a.0
        → IsIn a.0 w.held
    wants o i p = subst (λ (z : Entry). IsIn z w.held) (sym is)
        (unwanted o i (subst (λ (z : Entry). PrecedesOutput (log_of w.past) o.emission.thread o.after z) is p))

    r : (freed ≡ []) × (next ≡ with_held w (a.0 ∷ held))
    r = unwanted_releases s (with_held w held) a.0 (a.0 ∷ held) freed next h (λ o i p. k.keeps a.0 (wants o i p))
        refl a.4

    more : (x : Entry) → (a.0 ≡ x) ⊎ IsIn x held
        → IsIn x w.held ⊎ (IsIn x (log_of w.past) × (IsIn x (log_of w.stored) → ⊥))
    more x (inr i) = k.more x i
    more x (inl same) = inr (
      subst (λ (z : Entry). IsIn z (log_of w.past)) same a.1.0,
      λ i. a.2 (inr (subst (λ (z : Entry). IsIn z (log_of w.stored)) (sym same) i)),
    )

    only : (o : Sent) (x : Entry) → IsAmong o w.waiting → PrecedesOutput (log_of w.past) o.emission.thread o.after x
        → (a.0 ≡ x) ⊎ IsIn x held → IsIn x w.held
    only o x i p (inr there) = k.unwanted o x i p there
    only o x i p (inl same) = subst (λ (z : Entry). IsIn z w.held) same
        (wants o i (subst (λ (z : Entry). PrecedesOutput (log_of w.past) o.emission.thread o.after z) (sym same) p))

-- what an arrival in one world is in the other
pub record Follows {V : Type 0} (s : Setting V) (new : World V) (ev : Event) (freed : List Sent)
    (early : World V) : Type 0 where
  pub to : Outcome
  pub held : List Entry
  pub on : On s early ev to freed (with_held new held)
  pub ahead : IsAhead new held

-- The arrival of an entry releases the same outputs in both.
pub log_alike : {V : Type 0} (s : Setting V) (w new : World V) (held : List Entry) (t n : ℕ) (to : Outcome)
    (freed : List Sent) → Sound s w → IsAhead w held → On s w (event.Log t n) to freed new
    → Follows s new (event.Log t n) freed (with_held w held)
log_alike {V} s w new held t n to freed h k (inl a) = record {
  to = to;
  held = held;
  on = inl (a.0, a.1, a.2, ap (λ (z : World V). with_held z held) a.3);
  ahead = same_ahead w new held a.3 k;
}
log_alike {V} s w new held t n to freed h k (inr (low, inl a)) = record {
  to = to;
  held = held;
  on = inr (low, inl (a.0, a.1, a.2, ap (λ (z : World V). with_held z held) a.3));
  ahead = same_ahead w new held a.3 k;
}
log_alike {V} s w new held t n to freed h k (inr (low, inr (inl a))) = record {
  to = to;
  held = held;
  on = inr (low, inr (inl (a.0, a.1, known a.2, a.3, a.4, ap (λ (z : World V). with_held z held) a.5)));
  ahead = same_ahead w new held a.5 k;
}
  where
    known : IsKnown w a.0 → IsIn a.0 held ⊎ IsIn a.0 (log_of w.stored)
    known (inl i) = inl (k.keeps a.0 i)
    known (inr i) = inr i
log_alike {V} s w new held t n to freed h k (inr (low, inr (inr a))) = go (in_or a.0 held)
  where
    e : Entry
    e = a.0

    release : Releases (with_held w (e ∷ w.held)) freed new
    release = a.4

    grows : (xs : List Entry) → ((x : Entry) → IsIn x held → IsIn x xs) → IsIn e xs
        → ((x : Entry) → IsIn x xs → (e ≡ x) ⊎ IsIn x held) → IsAhead new xs
    grows xs keeps there only = subst (λ (z : World V). IsAhead z xs) (sym release.new_is)
        (record { keeps = kept; more = more; unwanted = unwanted })
      where
        kept : (x : Entry) → (e ≡ x) ⊎ IsIn x w.held → IsIn x xs
        kept x (inl same) = subst (λ (z : Entry). IsIn z xs) same there
        kept x (inr i) = keeps x (k.keeps x i)

        more_by : (x : Entry) → IsIn x w.held ⊎ (IsIn x (log_of w.past) × (IsIn x (log_of w.stored) → ⊥))
            → ((e ≡ x) ⊎ IsIn x w.held) ⊎ (IsIn x (log_of w.past) × (IsIn x (log_of w.stored) → ⊥))
        more_by x (inl i) = inl (inr i)
        more_by x (inr i) = inr i

        more : (x : Entry) → IsIn x xs
            → ((e ≡ x) ⊎ IsIn x w.held) ⊎ (IsIn x (log_of w.past) × (IsIn x (log_of w.stored) → ⊥))
        more x i = pick (only x i)
          where
            pick : (e ≡ x) ⊎ IsIn x held
                → ((e ≡ x) ⊎ IsIn x w.held) ⊎ (IsIn x (log_of w.past) × (IsIn x (log_of w.stored) → ⊥))
            pick (inl same) = inl (inl same)
            pick (inr j) = more_by x (k.more x j)

        unwanted : (o : Sent) (x : Entry) → IsAmong o release.stay
            → PrecedesOutput (log_of w.past) o.emission.thread o.after x → IsIn x xs → (e ≡ x) ⊎ IsIn x w.held
        unwanted o x i p j = pick (only x j)
          where
            pick : (e ≡ x) ⊎ IsIn x held → (e ≡ x) ⊎ IsIn x w.held
            pick (inl same) = inl same
            pick (inr there) = inr (k.unwanted o x
                (parts_stay (MayGo (with_held w (e ∷ w.held))) w.waiting freed release.stay release.parts o i).0
                p there)

    go : Or (IsIn e held) → Follows s new (event.Log t n) freed (with_held w held)
    go (inl there) = record {
      to = outcome.Known;
      held = held;
      on = inr (low, inr (inl (e, a.1, inl there, refl, r.0, ap (λ (z : World V). with_held z held) r.1)));
      ahead = grows held (λ x i. i) there (λ x i. inr i);
    }
      where
        r : (freed ≡ []) × (new ≡ with_held w (e ∷ w.held))
        r = unwanted_releases s w e (e ∷ w.held) freed new h (λ o i p. k.unwanted o e i p there) refl release
    go (inr out) = record {
      to = outcome.New;
      held = e ∷ held;
      on = inr (
        low,
        inr (inr (
          e,
          a.1,
          fresh,
          refl,
          record {
            stay = release.stay;
            parts = both;
            new_is = ap (λ (z : World V). with_held z (e ∷ held)) release.new_is;
          },
        )),
      );
      ahead = grows (e ∷ held) (λ x i. inr i) (inl refl) (λ x i. i);
    }
      where
        fresh : IsIn e held ⊎ IsIn e (log_of w.stored) → ⊥
        fresh (inl i) = out i
        fresh (inr i) = a.2 (inr i)

        both : Parts (MayGo (with_held w (e ∷ held))) w.waiting freed release.stay
        both = parts_like (MayGo (with_held w (e ∷ w.held))) (MayGo (with_held w (e ∷ held))) w.waiting freed
            release.stay release.parts
            (λ o i due x m.
            due x (record { precedes = m.precedes; not_held = λ j. m.not_held (up x j); not_stored = m.not_stored }))
            (λ o i due x m. due x (record {
              precedes = m.precedes;
              not_held = λ j. m.not_held (down o i x m.precedes j);
              not_stored = m.not_stored;
            }))
          where
            up : (x : Entry) → (e ≡ x) ⊎ IsIn x w.held → (e ≡ x) ⊎ IsIn x held
            up x (inl same) = inl same
            up x (inr i) = inr (k.keeps x i)

            down : (o : Sent) → IsAmong o w.waiting → (x : Entry)
                → PrecedesOutput (log_of w.past) o.emission.thread o.after x → (e ≡ x) ⊎ IsIn x held
                → (e ≡ x) ⊎ IsIn x w.held
            down o i x p (inl same) = inl same
            down o i x p (inr j) = inr (k.unwanted o x i p j)

-- The same from the other side: where the entry arrives in the world that is ahead, it may arrive in the other.
pub record Back {V : Type 0} (s : Setting V) (w : World V) (ev : Event) (freed : List Sent)
    (late : World V) : Type 0 where
  pub to : Outcome
  pub new : World V
  pub on : On s w ev to freed new
  pub early : IsEarly new late

pub log_back : {V : Type 0} (s : Setting V) (w late : World V) (held : List Entry) (t n : ℕ) (to : Outcome)
    (freed : List Sent) → Sound s w → Sound s (with_held w held) → IsAhead w held
    → On s (with_held w held) (event.Log t n) to freed late → Back s w (event.Log t n) freed late
log_back {V} s w late held t n to freed h hh k on = go (on_there s w h (event.Log t n) refl)
  where
    go : (to : Outcome) × (freed : List Sent) × (new : World V) × On s w (event.Log t n) to freed new
        → Back s w (event.Log t n) freed late
    go (other, rest, new, there) = fin (log_alike s w new held t n other rest h k there)
      where
        fin : Follows s new (event.Log t n) rest (with_held w held) → Back s w (event.Log t n) freed late
        fin f = record {
          to = other;
          new = new;
          on = subst (λ (l : List Sent). On s w (event.Log t n) other l new) same.freed_is there;
          early = record { held = f.held; same = sym same.new_is; ahead = f.ahead };
        }
          where
            same : Same f.to to rest freed (with_held new f.held) late
            same = on_one s (with_held w held) hh (event.Log t n) f.to to rest freed (with_held new f.held) late f.on on
