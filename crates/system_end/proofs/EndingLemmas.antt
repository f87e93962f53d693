-- The run in which a world ends: what it begins with.
use Rattle.std.proofs.Common.{◌≡◌, ℕ, ◌+◌, ◌<◌, ◌≤◌, ◌≢◌, max, true, false, nat_eq, List, [], ◌∷◌, ◌++◌, length, take}
use Rattle.std.proofs.Common.{get_or, refl, sym, ap, ◌∙◌, subst, inl, inr, ◌⊎◌, Option, Some, None, arith}
use Rattle.std.specs.Prelude.{slice_index, ◌↔◌, IsSome}
use Rattle.std.proofs.lemmas.Bool.{cases_lt}
use Rattle.std.proofs.lemmas.List.{take_more, take_all, get_or_push, get_or_append_left, length-append}
use Rattle.std.proofs.lemmas.Bool.Decides.{nat_tests}
use Rattle.input_logger.specs.Inputs.{Fed}
use Rattle.entry_order.specs.declared.what.What.{What}
use Rattle.entry_order.specs.Log.{Entry, IsIn}
use Rattle.entry_order.proofs.Order.{is_or}
use Rattle.entry_order.proofs.KeptEntries.{in_left, in_right, in_either}
use Rattle.plain_machine.specs.Line.{GoesBefore, IsByWeight}
use Rattle.access_log.specs.declared.entry.StampedEntry.{StampedEntry}
use Rattle.access_log.specs.Held.{Lane, lane, entry_at}
use Rattle.dup_filter.specs.Numbers.{Numbers, numbers, IsMarked, IsGreatest}
use Rattle.plain_machine.specs.declared.plain_move.PlainMove.{PlainMove}
use Rattle.plain_machine.specs.Program.{Meaning}
use Rattle.plain_machine.specs.History.{Step, log_of}
use Rattle.plain_machine.proofs.Histories.{history_log}
use Rattle.plain_machine.proofs.LoggedEffects.{entry_thread}
use Rattle.master_core.specs.Mastered.{Mastered}
use Rattle.master_core.specs.Holding.{and_found}
use Rattle.master_core.specs.Stepping.{plain_entry}
use Rattle.master_core.proofs.HeldEntries.{at_held}
use Rattle.replay_guide.specs.Orders.{IsNamed, IsInOrder}
use Rattle.replay_guide.specs.Worlds.{put_before, entries_named}
use Rattle.replay_guide.proofs.WorldOrders.{names_by_weight, all_named}
use Rattle.recovery_world.specs.World.{Setting, Sent, World, all_inputs}
use Rattle.recovery_world.specs.Events.{IsAmong, HasNumber, Wakes, entries_of_line}
use Rattle.recovery_world.specs.Finish.{IsLine, greatest, AllGoOn, IsFinish}
use Rattle.recovery_laws.proofs.KeptWorlds.{line_entries}
use Rattle.recovery_laws.proofs.LedMoves.{led_log}
use Rattle.recovery_laws.proofs.Finishes.{among_greatest}
use Rattle.run_end.specs.Ending.{AreInOrder, IsOrder, IsEndOf, IsEndOfSome, EndsIn}
use Rattle.system_parts.specs.Parts.{Parts}
use Rattle.system_parts.specs.SystemStanding.{StandsFor, StandsForSome}
use Rattle.system_end.specs.Ending.{IsOrderOf}
use Rattle.system_parts.proofs.LineLemmas.{holds_moves}

-- The followed entries, in order

-- names one after another, and one more
pub put_both : (guide : List Lane) (xs ys : List (ℕ × ℕ)) (older : List Entry)
    → put_before guide (xs ++ ys) older ≡ put_before guide ys (put_before guide xs older)
put_both guide [] ys older = refl
put_both guide (x ∷ xs) ys older = put_both guide xs ys (and_found (entry_at (lane guide x.0) x.1) older)

-- the list from its end
pub backwards : List Entry → List Entry
backwards [] = []
backwards (e ∷ earlier) = backwards earlier ++ e ∷ []

pub in_backwards : (e : Entry) (xs : List Entry) → IsIn e (backwards xs) ↔ IsIn e xs
unfolding backwards
in_backwards e [] = (λ i. i, λ i. i)
in_backwards e (x ∷ xs) =
    let rest = in_backwards e xs in (λ i. to rest.0 (in_either e (backwards xs) (x ∷ []) i), from rest.1)
  where
    to : (IsIn e (backwards xs) → IsIn e xs) → IsIn e (backwards xs) ⊎ IsIn e (x ∷ []) → IsIn e (x ∷ xs)
    to rest (inl i) = inr (rest i)
    to rest (inr (inl same)) = inl same
    to rest (inr (inr i)) = absurd i

    from : (IsIn e xs → IsIn e (backwards xs)) → IsIn e (x ∷ xs) → IsIn e (backwards xs ++ x ∷ [])
    from rest (inl same) = in_right e (backwards xs) (x ∷ []) (inl same)
    from rest (inr i) = in_left e (backwards xs) (x ∷ []) (rest i)

-- one more goes behind those that go before it
in_order_push : (log : List Entry) (e : Entry) (ys : List Entry) → AreInOrder log ys
    → ((f : Entry) → IsIn f ys → GoesBefore log f e) → AreInOrder log (ys ++ e ∷ [])
in_order_push log e [] order before = (λ f i. absurd i, tt)
in_order_push log e (y ∷ ys) order before =
    (λ f i. go f (in_either f ys (e ∷ []) i), in_order_push log e ys order.1 (λ f i. before f (inr i)))
  where
    go : (f : Entry) → IsIn f ys ⊎ IsIn f (e ∷ []) → GoesBefore log y f
    go f (inl i) = order.0 f i
    go f (inr (inl same)) = subst (λ (g : Entry). GoesBefore log y g) same (before y (inl refl))
    go f (inr (inr i)) = absurd i

backwards_in_order : (log : List Entry) (xs : List Entry) → IsByWeight log xs → AreInOrder log (backwards xs)
unfolding backwards
backwards_in_order log [] by = tt
backwards_in_order log (e ∷ older) by = in_order_push log e (backwards older) (backwards_in_order log older by.1)
    (λ f i. by.0 f ((in_backwards f older).0 i))

-- what the guide has under one more name
pub named_more : (guide : List Lane) (names : List (ℕ × ℕ)) (x : ℕ × ℕ) (e : StampedEntry)
    → entry_at (lane guide x.0) x.1 ≡ Some e
    → backwards (put_before guide (names ++ x ∷ []) []) ≡ backwards (put_before guide names []) ++ plain_entry e ∷ []
unfolding backwards
named_more guide names x e is =
    ap backwards (put_both guide names (x ∷ []) [])
    ∙ ap (λ (o : Option StampedEntry). backwards (and_found o (put_before guide names []))) is

pub named_none : (guide : List Lane) (names : List (ℕ × ℕ)) (x : ℕ × ℕ) → entry_at (lane guide x.0) x.1 ≡ None
    → backwards (put_before guide (names ++ x ∷ []) []) ≡ backwards (put_before guide names [])
named_none guide names x is =
    ap backwards (put_both guide names (x ∷ []) [])
    ∙ ap (λ (o : Option StampedEntry). backwards (and_found o (put_before guide names []))) is

pub named_first : (guide : List Lane) → [] ≡ backwards (put_before guide [] [])
unfolding backwards
named_first guide = refl

-- all entries of the guide, in order
pub order_of : (guide : List Lane) (names : List (ℕ × ℕ)) (order : List Entry)
    → ((t n : ℕ) → IsNamed t n names ↔ IsSome (entry_at (lane guide t) n)) → IsInOrder guide names
    → order ≡ backwards (entries_named guide names) → IsOrderOf guide order
order_of guide names order each in_order is = subst (λ (l : List Entry). IsOrderOf guide l) (sym is) (record {
  each = λ e.
      let a = in_backwards e (entries_named guide names) in
      let b = all_named guide names e each in (λ i. b.0 (a.0 i), λ i. a.1 (b.1 i));
  in_order = λ log stored good low holds. backwards_in_order log (entries_named guide names)
      (names_by_weight log stored guide good low holds names in_order);
})

-- The greatest released outputs

-- it is 0, or that of one of them
HasGreatest : ℕ → List Sent → ℕ → Type 0
HasGreatest t rel n = (n ≡ 0) ⊎ ((o : Sent) × IsAmong o rel × (o.emission.thread ≡ t) × (o.emission.number ≡ n))

greatest_there : (t : ℕ) (rel : List Sent) → HasGreatest t rel (greatest t rel)
unfolding HasGreatest
greatest_there t [] = inl refl
greatest_there t (x ∷ rel) =
    go (is_or x.emission.thread t) (cases_lt x.emission.number (greatest t rel)) (greatest_there t rel)
  where
    on : (n : ℕ) → HasGreatest t rel n → HasGreatest t (x ∷ rel) n
    on n (inl none) = inl none
    on n (inr (o, i, own, is)) = inr (o, inr i, own, is)

    go : (x.emission.thread ≡ t) ⊎ (x.emission.thread ≢ t)
        → (x.emission.number < greatest t rel) ⊎ (greatest t rel ≤ x.emission.number)
        → HasGreatest t rel (greatest t rel) → HasGreatest t (x ∷ rel) (greatest t (x ∷ rel))
    go (inl own) (inl low) rest =
        let k : nat_eq x.emission.thread t ≡ true = grind (arith, nat_tests) in
        let e : max x.emission.number (greatest t rel) ≡ greatest t rel = omega (arith, low) in
        rw (k, e) (on (greatest t rel) rest)
    go (inl own) (inr high) rest =
        let k : nat_eq x.emission.thread t ≡ true = grind (arith, nat_tests) in
        let e : max x.emission.number (greatest t rel) ≡ x.emission.number = omega (arith, high) in
        rw (k, e) (inr (x, inl refl, own, refl))
    go (inr other) high rest =
        let k : nat_eq x.emission.thread t ≡ false = grind (arith, nat_tests) in rw k (on (greatest t rel) rest)

greatest_is : (t n : ℕ) (marked : Numbers) (rel : List Sent)
    → ((k : ℕ) → IsMarked marked k ↔ ((o : Sent) × HasNumber t k o × IsAmong o rel)) → IsGreatest marked n
    → n ≡ greatest t rel
unfolding HasGreatest
greatest_is t n marked rel are is = both (high (greatest_there t rel)) (low is.marked)
  where
    both : greatest t rel ≤ n → n ≤ greatest t rel → n ≡ greatest t rel
    both a b = omega arith

    high : HasGreatest t rel (greatest t rel) → greatest t rel ≤ n
    high (inl none) = omega (arith, none)
    high (inr (o, i, own, same)) = is.most (greatest t rel) ((are (greatest t rel)).1 (o, (own, same), i))

    low : (n ≡ 0) ⊎ IsMarked marked n → n ≤ greatest t rel
    low (inl none) = omega (arith, none)
    low (inr was) =
        let k = (are n).0 was in
        let most = among_greatest t rel k.0 k.2 k.1.0 in let same = k.1.1 in omega (arith, most, same)

-- The end

module _ {P V : Type 0} (m : Meaning V) (s : Setting V) (w : World V) (y : Parts P V) (st : StandsFor m s w y) where
  line_has : (line : List (Step V)) → (is : IsLine s w line) → (e : Entry) → IsIn e (entries_of_line w)
      → IsIn e (log_of line)
  line_has line is e i = subst (λ (l : List Entry). IsIn e l) (sym (led_log w.past is.more line is.led))
      (go (in_either e st.sound.firm.more (log_of w.past) (line_entries s w st.sound.firm e i)))
    where
      go : IsIn e st.sound.firm.more ⊎ IsIn e (log_of w.past) → IsIn e (is.more ++ log_of w.past)
      go (inl k) = in_left e is.more (log_of w.past) ((is.to_come e).1 ((st.sound.firm.to_come e).0 k))
      go (inr k) = in_right e is.more (log_of w.past) k

  line_only : (line : List (Step V)) → (is : IsLine s w line) → (e : Entry) → IsIn e (log_of line)
      → IsIn e (entries_of_line w)
  line_only line is e i = go (in_either e is.more (log_of w.past)
      (subst (λ (l : List Entry). IsIn e l) (led_log w.past is.more line is.led) i))
    where
      go : IsIn e is.more ⊎ IsIn e (log_of w.past) → IsIn e (entries_of_line w)
      go (inl k) = in_left e w.followed (log_of w.past) ((is.to_come e).0 k).0
      go (inr k) = in_right e w.followed (log_of w.past) k

  order_is : (order : List Entry) → IsOrderOf y.guide order → s.threads ≤ 16 → IsOrder s w order
  order_is order of few = record {
    followed = λ e i. st.guide.only e ((of.each e).0 i);
    all = λ e to_come.
        let f = (st.guide.follows e to_come.1).0 to_come.0 in
        (of.each e).1 (at_held y.guide e e.thread e.number f.0 f.1 (plain_is e f.0
        (st.guide.holds.of_log e.thread e.number f.0 f.1).0 (st.guide.holds.of_log e.thread e.number f.0 f.1).1 f.2));
    in_order = λ line is.
        of.in_order (log_of line) st.guide.began (history_log s.meaning (all_inputs s) s.threads line is.history)
        (λ e i. let k = entry_thread s.meaning (all_inputs s) s.threads line e is.history i in omega (arith, k, few))
        (holds_moves (entries_of_line w) (log_of line) st.guide.began y.guide (line_has line is) (line_only line is)
        st.guide.holds);
  }
    where
      plain_is : (e : Entry) (x : StampedEntry) → x.thread ≡ e.thread → x.number ≡ e.number → x.what ≡ e.what
          → plain_entry x ≡ e
      plain_is e x a b c =
          ap (λ (t : ℕ). let f : Entry = record { thread = t; number = x.number; what = x.what } in f) a
          ∙ ap (λ (n : ℕ). let f : Entry = record { thread = e.thread; number = n; what = x.what } in f) b
          ∙ ap (λ (d : What). let f : Entry = record { thread = e.thread; number = e.number; what = d } in f) c

  pub ends_here : (order : List Entry) (last : List ℕ) → y.up ≡ true → y.inputs.threads ≤ 16 → IsOrderOf y.guide order
      → ((t : ℕ) → t < y.inputs.threads → IsGreatest (numbers y.logger.released t) (slice_index last t))
      → IsEndOf m s w y.inputs y.master y.schedule order last
  ends_here order last up few of are = record {
    sound = st.sound;
    up = sym st.master.up ∙ up;
    meaning = st.inputs.meaning;
    inputs = st.inputs.inputs;
    master = record { stands = st.master.stands; schedule_is = st.master.schedule };
    in_order = order_is order of (omega (arith, few, threads));
    released = λ t low. greatest_is t (slice_index last t) (numbers y.logger.released t) w.released
        (λ k. st.logger.released t k) (are t (omega (arith, low, threads)));
  }
    where
      threads : y.inputs.threads ≡ s.threads
      threads = ap (λ (f : Fed). f.threads) st.inputs.inputs

-- The end of the world that is woken is that of the world.
pub ends_woken : {V : Type 0} (s : Setting V) (w next : World V) (moves : List PlainMove) → Wakes w next
    → EndsIn s next moves → EndsIn s w moves
ends_woken {V} s w next moves wakes ends = record {
  steps = ends.steps;
  finish = go ends.finish.up_is ends.finish.line_is ends.finish.goes_on;
  schedule_is = ends.schedule_is;
}
  where
    is_up : Wakes w next → next.up ≡ true
    is_up (inl (up, same)) = ap (λ (z : World V). z.up) same ∙ up
    is_up (inr (down, recovers)) = ap (λ (z : World V). z.up) recovers.new_is

    from : (up : World V) → up ≡ next → IsLine s up ends.finish.line
        → AllGoOn up.released s.threads ends.finish.line ends.steps → IsFinish s w ends.steps
    from up same line goes_on = record {
      up = next;
      up_is = wakes;
      line = ends.finish.line;
      line_is = subst (λ (z : World V). IsLine s z ends.finish.line) same line;
      history = ends.finish.history;
      goes_on = subst (λ (z : World V). AllGoOn z.released s.threads ends.finish.line ends.steps) same goes_on;
    }

    go : Wakes next ends.finish.up → IsLine s ends.finish.up ends.finish.line
        → AllGoOn ends.finish.up.released s.threads ends.finish.line ends.steps → IsFinish s w ends.steps
    go (inl (up, same)) line goes_on = from ends.finish.up same line goes_on
    go (inr (down, recovers)) line goes_on = absurd (let up = is_up wakes in cc)

-- The calls, and what they tell

pub order_more : (guide : List Lane) (names : List (ℕ × ℕ)) (i : ℕ) (d : ℕ × ℕ) (e : StampedEntry)
    (now new : List Entry) → i < length names → Some e ≡ entry_at (lane guide (get_or names i d).0) (get_or names i d).1
    → now ≡ backwards (put_before guide (take i names) []) → new ≡ now ++ plain_entry e ∷ []
    → new ≡ backwards (put_before guide (take (i + 1) names) [])
order_more guide names i d e now new low is was pushed =
    pushed
    ∙ ap (λ (l : List Entry). l ++ plain_entry e ∷ []) was
    ∙ sym (named_more guide (take i names) (get_or names i d) e (sym is))
    ∙ ap (λ (l : List (ℕ × ℕ)). backwards (put_before guide l [])) (sym (take_more names i d low))

pub order_past : (guide : List Lane) (names : List (ℕ × ℕ)) (i : ℕ) (d : ℕ × ℕ) (now new : List Entry)
    → i < length names → None ≡ entry_at (lane guide (get_or names i d).0) (get_or names i d).1
    → now ≡ backwards (put_before guide (take i names) []) → new ≡ now
    → new ≡ backwards (put_before guide (take (i + 1) names) [])
order_past guide names i d now new low is was same =
    same ∙ was ∙ sym (named_none guide (take i names) (get_or names i d) (sym is))
    ∙ ap (λ (l : List (ℕ × ℕ)). backwards (put_before guide l [])) (sym (take_more names i d low))

pub order_whole : (guide : List Lane) (list names : List (ℕ × ℕ)) (i : ℕ) (order : List Entry) → list ≡ names
    → length list ≤ i → ((t n : ℕ) → IsNamed t n names ↔ IsSome (entry_at (lane guide t) n)) → IsInOrder guide names
    → order ≡ backwards (put_before guide (take i list) []) → IsOrderOf guide order
order_whole guide list names i order same high each in_order is =
    order_of guide names order each in_order
    (is ∙ ap (λ (l : List (ℕ × ℕ)). backwards (put_before guide l [])) (take_all i list high ∙ same))

pub last_more : (released : List Numbers) (i n : ℕ) (old new : List ℕ) → length old ≡ i
    → ((t : ℕ) → t < i → IsGreatest (numbers released t) (slice_index old t)) → IsGreatest (numbers released i) n
    → new ≡ old ++ n ∷ []
    → (length new ≡ i + 1) × ((t : ℕ) → t < i + 1 → IsGreatest (numbers released t) (slice_index new t))
last_more released i n old new long are here pushed =
    subst
    (λ (l : List ℕ). (length l ≡ i + 1) × ((t : ℕ) → t < i + 1 → IsGreatest (numbers released t) (slice_index l t)))
    (sym pushed) (count, λ t low. go t low (is_or t i))
  where
    count : length (old ++ n ∷ []) ≡ i + 1
    count = let k = length-append old (n ∷ []) in omega (arith, k, long)

    go : (t : ℕ) → t < i + 1 → (t ≡ i) ⊎ (t ≢ i) → IsGreatest (numbers released t) (slice_index (old ++ n ∷ []) t)
    go t low (inl same) = subst (λ (u : ℕ). IsGreatest (numbers released u) (slice_index (old ++ n ∷ []) u)) (sym same)
        (subst (λ (k : ℕ). IsGreatest (numbers released i) k) (sym (get_or_push old n 0 i long)) here)
    go t low (inr other) = subst (λ (k : ℕ). IsGreatest (numbers released t) k)
        (sym (get_or_append_left old (n ∷ []) 0 t (omega (arith, low, other, long))))
        (are t (omega (arith, low, other)))

-- what was taken apart is that of each world that the system stands for
module _ {P V : Type 0} (meaning : P → Meaning V) (now : Parts P V) (program : P) (inputs : Fed) (master : Mastered V)
    (schedule : List PlainMove) (program_is : program ≡ now.program) (inputs_are : inputs ≡ now.inputs)
    (master_is : master ≡ now.master) (schedule_is : schedule ≡ now.schedule) (up : now.up ≡ true)
    (few : now.inputs.threads ≤ 16) (order list : List Entry) (last nums : List ℕ) (of : IsOrderOf now.guide order)
    (list_is : list ≡ order)
    (are : (t : ℕ) → t < now.inputs.threads → IsGreatest (numbers now.logger.released t) (slice_index last t))
    (nums_are : nums ≡ last) where
  pub ends_each : (s : Setting V) (w : World V) → StandsFor (meaning now.program) s w now
      → IsEndOf (meaning program) s w inputs master schedule list nums
  ends_each s w st =
      subst (λ (q : P). IsEndOf (meaning q) s w inputs master schedule list nums) (sym program_is)
      (subst (λ (i : Fed). IsEndOf (meaning now.program) s w i master schedule list nums) (sym inputs_are)
      (subst (λ (q : Mastered V). IsEndOf (meaning now.program) s w now.inputs q schedule list nums) (sym master_is)
      (subst (λ (l : List PlainMove). IsEndOf (meaning now.program) s w now.inputs now.master l list nums)
      (sym schedule_is)
      (ends_here (meaning now.program) s w now st list nums up few
      (subst (λ (l : List Entry). IsOrderOf now.guide l) (sym list_is) of)
      (λ t low. subst (λ (l : List ℕ). IsGreatest (numbers now.logger.released t) (slice_index l t)) (sym nums_are)
      (are t low))))))

  pub ends_some : StandsForSome (meaning now.program) now
      → IsEndOfSome (meaning program) inputs master schedule list nums
  ends_some some = (some.0, some.1, ends_each some.0 some.1 some.2)
