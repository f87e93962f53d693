-- Worked rounds of two threads, woven by hand.
use Rattle.std.proofs.Common.{◌≡◌, ℕ, ◌+◌, List, [], ◌∷◌, refl, sym, subst, inl, inr, arith, Some, None, Ok, cond}
use Rattle.std.specs.Prelude.{nat_eq}
use Rattle.plain_text.specs.declared.packet.Packet.{Packet}
use Rattle.entry_order.specs.declared.what.What.TheVariants as what
use Rattle.entry_order.specs.Log.{Entry}
use Rattle.plain_machine.specs.declared.local.Local.{Local}
use Rattle.plain_machine.specs.declared.local.Move.TheVariants.{Access, Emit, End}
use Rattle.plain_machine.specs.Program.{Meaning}
use Rattle.plain_machine.specs.Machine.{holding}
use Rattle.plain_machine.specs.History.{Took, Did, Emitted, play}
use Rattle.round_order.specs.Receipts.{Receipt, Receipts, Among, own, after, moves_in, IsLogged, IsUnlogged}
use Rattle.round_order.specs.Woven.{GoesBefore, IsByWeight, IsLedUp, IsWoven}

place : ℕ → Local
place n = record { at = n; regs = [] }

-- a box that adds one to a variable and sends the packet out
adding : ℕ → Meaning ℕ
adding v = record {
  vars = 3;
  fresh = λ w. 0;
  begin = λ p. place 0;
  next = λ l. cond (nat_eq l.at 0) (Access v) (cond (nat_eq l.at 1) Emit End);
  touch = λ w x l. (x + 1, place 1);
  look = λ w x l. l;
  told = λ a l. l;
  emitted = λ l. place 2;
  out = λ p l. p.bytes;
  shown = λ w x. [];
  rank = λ l. 2;
}

-- The receipts of a thread that takes its packet, touches a variable and sends the packet out

took : Packet → ℕ → Receipt ℕ
took p t = record {
  step = record { thread = t; act = Took 1; after = holding 1 p (place 0) };
  answer = None;
  found = 0;
  place = 0;
  stamp = [];
}

touched : Packet → ℕ → ℕ → ℕ → List ℕ → Receipt ℕ
touched p t v n stamp = record {
  step = record {
    thread = t;
    act = Did (record { thread = t; number = 1; what = what.Access v (n + 1) }) (Some (n + 1));
    after = holding 1 p (place 1);
  };
  answer = None;
  found = n;
  place = n;
  stamp = stamp;
}

sent : Packet → ℕ → Receipt ℕ
sent p t = record {
  step = record {
    thread = t;
    act = Emitted (record { thread = t; number = 1; input = 1; packet = p });
    after = holding 1 p (place 2);
  };
  answer = None;
  found = 0;
  place = 0;
  stamp = [];
}

took_unlogged : (p : Packet) (t : ℕ) → IsUnlogged (took p t)
unfolding took
took_unlogged p t e (left, is) = cc

sent_unlogged : (p : Packet) (t : ℕ) → IsUnlogged (sent p t)
unfolding sent
sent_unlogged p t e (left, is) = cc

-- Both threads touch one variable, thread 1 first, which has sent its packet out too. Newest first.

first : Packet → Receipt ℕ
first p = touched p 1 0 0 (0 ∷ 1 ∷ [])

second : Packet → Receipt ℕ
second p = touched p 0 0 1 (1 ∷ 1 ∷ [])

counted : Packet → List (Receipt ℕ)
counted p = sent p 1 ∷ second p ∷ took p 0 ∷ first p ∷ took p 1 ∷ []

-- one thread after the other
one_by_one : Packet → List (Receipt ℕ)
one_by_one p = sent p 1 ∷ first p ∷ took p 1 ∷ second p ∷ took p 0 ∷ []

-- what each thread did
did : Packet → Receipts ℕ
did p t = own t (counted p)

touched_logged : (p : Packet) (t v n : ℕ) (stamp : List ℕ)
    → IsLogged (touched p t v n stamp) (record { thread = t; number = 1; what = what.Access v (n + 1) })
unfolding touched
touched_logged p t v n stamp = (Some (n + 1), refl)

-- a took receipt is no logged one of a list
not_took : (p : Packet) (t : ℕ) (x : Receipt ℕ) (d : Entry) → took p t ≡ x → IsLogged x d → ⊥
not_took p t x d same l = took_unlogged p t d (subst (λ (z : Receipt ℕ). IsLogged z d) (sym same) l)

-- Two takes, each followed by the touch of its thread, stand so in the woven list where the first touch goes before the
-- second.
in_turn : (p : Packet) (t u v w k n : ℕ) (older newer : List ℕ)
    → GoesBefore (touched p t v k older) (touched p u w n newer)
    → IsByWeight (touched p u w n newer ∷ took p u ∷ touched p t v k older ∷ took p t ∷ [])
in_turn p t u v w k n older newer before = (
  (λ e d x re a xd. newest x d a xd),
  (
    (λ e d x re a xd. absurd (took_unlogged p u e re)),
    ((λ e d x re a xd. oldest x d a xd), ((λ e d x re a xd. absurd a), tt)),
  ),
)
  where
    oldest : (x : Receipt ℕ) (d : Entry) → Among x (took p t ∷ []) → IsLogged x d → GoesBefore x (touched p t v k older)
    oldest x d (inl same) xd = absurd (not_took p t x d same xd)
    oldest x d (inr none) xd = absurd none

    newest : (x : Receipt ℕ) (d : Entry) → Among x (took p u ∷ touched p t v k older ∷ took p t ∷ []) → IsLogged x d
        → GoesBefore x (touched p u w n newer)
    newest x d (inl same) xd = absurd (not_took p u x d same xd)
    newest x d (inr (inl same)) xd = subst (λ (z : Receipt ℕ). GoesBefore z (touched p u w n newer)) same before
    newest x d (inr (inr (inl same))) xd = absurd (not_took p t x d same xd)
    newest x d (inr (inr (inr none))) xd = absurd none

in_groups : (p : Packet) (t u v w k n : ℕ) (older newer : List ℕ)
    → IsLedUp (touched p u w n newer ∷ took p u ∷ touched p t v k older ∷ took p t ∷ [])
unfolding took touched
in_groups p t u v w k n older newer = (
  (_, touched_logged p u w n newer),
  (inr (took_unlogged p u, refl), (inl (_, touched_logged p t v k older), (inr (took_unlogged p t, refl), tt))),
)

lighter_first : (p : Packet) → GoesBefore (touched p 1 0 0 (0 ∷ 1 ∷ [])) (touched p 0 0 1 (1 ∷ 1 ∷ []))
unfolding touched
lighter_first p = inl (omega arith)

heavier_first : (p : Packet) → GoesBefore (touched p 0 0 1 (1 ∷ 1 ∷ [])) (touched p 1 0 0 (0 ∷ 1 ∷ [])) → ⊥
unfolding touched
heavier_first p (inl less) = omega (arith, less)
heavier_first p (inr (same, low)) = omega (arith, same)

-- the order of the touches is that of their weights, 1 and 2, and what thread 1 sent out is left
counted_is_woven : (p : Packet) → IsWoven (did p) (counted p)
unfolding did counted first second
counted_is_woven p = record {
  each = λ t. refl;
  by_weight = (
    (λ e d x re a xd. absurd (sent_unlogged p 1 e re)),
    in_turn p 1 0 0 0 0 1 (0 ∷ 1 ∷ []) (1 ∷ 1 ∷ []) (lighter_first p),
  );
  left = sent p 1 ∷ [];
  led = second p ∷ took p 0 ∷ first p ∷ took p 1 ∷ [];
  parts = refl;
  leads = in_groups p 1 0 0 0 0 1 (0 ∷ 1 ∷ []) (1 ∷ 1 ∷ []);
  rest = (sent_unlogged p 1, (λ x a. absurd a), tt);
}

-- it is a legal run, in which each thread did this
counted_is_legal : (p : Packet) → play (adding 0) (λ t. p ∷ []) 2 (moves_in (counted p)) ≡ Ok (after (counted p) [])
unfolding adding place counted first second took touched sent
counted_is_legal p = refl

-- One thread after the other is another order, and not the woven one.
one_by_one_is_not : (p : Packet) → IsWoven (did p) (one_by_one p) → ⊥
unfolding one_by_one first second
one_by_one_is_not p w = heavier_first p (w.by_weight.1.0 _ _ (second p) (touched_logged p 1 0 0 (0 ∷ 1 ∷ []))
    (inr (inl refl)) (touched_logged p 0 0 1 (1 ∷ 1 ∷ [])))

-- Each thread touches a variable of its own: of two touches of one weight, that of the lesser thread stands first.

left_one : Packet → Receipt ℕ
left_one p = touched p 0 1 0 (1 ∷ 0 ∷ [])

right_one : Packet → Receipt ℕ
right_one p = touched p 1 2 0 (0 ∷ 1 ∷ [])

apart : Packet → List (Receipt ℕ)
apart p = right_one p ∷ took p 1 ∷ left_one p ∷ took p 0 ∷ []

did_apart : Packet → Receipts ℕ
did_apart p t = own t (apart p)

lesser_thread_first : (p : Packet) → GoesBefore (touched p 0 1 0 (1 ∷ 0 ∷ [])) (touched p 1 2 0 (0 ∷ 1 ∷ []))
unfolding touched
lesser_thread_first p = inr (refl, omega arith)

apart_is_woven : (p : Packet) → IsWoven (did_apart p) (apart p)
unfolding did_apart apart left_one right_one
apart_is_woven p = record {
  each = λ t. refl;
  by_weight = in_turn p 0 1 1 2 0 0 (1 ∷ 0 ∷ []) (0 ∷ 1 ∷ []) (lesser_thread_first p);
  left = [];
  led = right_one p ∷ took p 1 ∷ left_one p ∷ took p 0 ∷ [];
  parts = refl;
  leads = in_groups p 0 1 1 2 0 0 (1 ∷ 0 ∷ []) (0 ∷ 1 ∷ []);
  rest = tt;
}
