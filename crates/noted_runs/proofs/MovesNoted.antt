-- The moves of a world's master are legal on all inputs of the capture, and played again they are its past.
use Rattle.std.proofs.Common.{◌≡◌, ℕ, zero, suc, ◌+◌, ◌≤◌, arith, List, [], ◌∷◌, ◌++◌, length, drop, refl, sym, ap, ◌∙◌}
use Rattle.std.proofs.Common.{◌-◌, ◌<◌, ◌⊎◌, inl, inr, Result, Ok, Err, length-append, length-drop}
use Rattle.std.specs.Prelude.{nat_le, if◌then◌else◌, Bool, true, false, IfOk}
use Rattle.std.proofs.lemmas.Bool.Decides.{nat_tests}
use Rattle.plain_text.specs.declared.packet.Packet.{Packet}
use Rattle.input_logger.specs.Inputs.{Fed, inputs_of}
use Rattle.plain_machine.proofs.Runs.{history_more}
use Rattle.plain_machine.specs.declared.plain_move.PlainMove.{PlainMove}
use Rattle.plain_machine.specs.Program.{Meaning}
use Rattle.plain_machine.specs.History.{Step, play}
use Rattle.recovery_laws.specs.Sound.{Sound}
use Rattle.recovery_laws.proofs.AcceptedRuns.{moves_play}
use Rattle.recovery_laws.proofs.Worlds.{fed_found}
use Rattle.recovery_world.specs.declared.event.Event.{Event}
use Rattle.recovery_world.specs.declared.event.Outcome.{Outcome}
use Rattle.recovery_world.specs.World.{Setting, Sent, World as SystemWorld, all_inputs, inputs_fed}
use Rattle.recovery_world.specs.Files.{moves_made, reply_line, sent_names}
use Rattle.made_moves.specs.declared.made.Made.{Made}
use Rattle.made_moves.specs.Made.{made_in, made_where}
use Rattle.run_drawing.specs.declared.note.Note.{Note}
use Rattle.run_drawing.specs.Noted.{movers_in, moves_by, note_of}
use Rattle.noted_runs.specs.Noting.{AreInputs, made_at, threads_of}

past_plays : {V : Type 0} (s : Setting V) (w : SystemWorld V) → Sound s w
    → play s.meaning (all_inputs s) s.threads (moves_made w.past) ≡ Ok w.past
past_plays s w sound =
    moves_play s.meaning (all_inputs s) s.threads w.past
    (history_more s.meaning (inputs_fed s w.fed) (all_inputs s) s.threads (λ t i q e. fed_found s w.fed t i q e) w.past
    sound.firm.legal)

-- so what they did is found by playing them
pub made_so : {V : Type 0} (m : Meaning V) (inputs : Fed) (s : Setting V) (w : SystemWorld V) (moves : List PlainMove)
    → AreInputs m inputs s → Sound s w → moves ≡ moves_made w.past
    → made_where (play m (inputs_of inputs) inputs.threads moves) ≡ made_in w.past
made_so {V} m inputs s w moves are sound same =
    ap (λ (k : Meaning V). made_where (play k (inputs_of inputs) inputs.threads moves)) (sym are.meaning)
    ∙ (ap (λ (log : Fed). made_where (play s.meaning (inputs_of log) log.threads moves)) are.inputs_are
    ∙ (ap (λ (l : List PlainMove). made_where (play s.meaning (all_inputs s) s.threads l)) same
    ∙ ap made_where (past_plays s w sound)))

-- as many as there are moves

pub moves_long : {V : Type 0} (steps : List (Step V)) → length (moves_made steps) ≡ length steps
moves_long [] = refl
moves_long (x ∷ earlier) =
    length-append (moves_made earlier) _ ∙ (let rest = moves_long earlier in omega (arith, rest))

made_long : {V : Type 0} (steps : List (Step V)) → length (made_in steps) ≡ length steps
made_long [] = refl
made_long (x ∷ earlier) =
    length-append (made_in earlier) _ ∙ (let rest = made_long earlier in omega (arith, rest))

drop_all : (l : List Made) (n : ℕ) → length l ≤ n → drop n l ≡ []
drop_all [] zero low = refl
drop_all [] (suc n) low = refl
drop_all (x ∷ l) zero low = absurd (omega arith)
drop_all (x ∷ l) (suc n) low = drop_all l n (omega arith)

-- none is behind the last one
pub none_behind : {V : Type 0} (w : SystemWorld V) (kept : ℕ) → length w.past ≤ kept → [] ≡ made_at kept w
none_behind w kept low = by (nat_le (length w.past) 400)
  where
    by : (b : Bool) → [] ≡ (if b then drop kept (made_in w.past) else [])
    by true = sym (drop_all (made_in w.past) kept (let long = made_long w.past in omega (arith, long, low)))
    by false = refl

-- there are too many of them, or none is behind the last one
pub nothing_noted : {V : Type 0} (w : SystemWorld V) (moves : List PlainMove) (kept : ℕ) (made : List Made)
    → moves ≡ moves_made w.past → (400 < length moves) ⊎ (length moves ≤ kept) → made ≡ [] → made ≡ made_at kept w
nothing_noted w moves kept made same (inl many) none =
    let long = moves_long w.past in
    let count = ap (λ (l : List PlainMove). length l) same in
    let high : 400 < length w.past = omega (arith, long, count, many) in
    let no : nat_le (length w.past) 400 ≡ false = grind (arith, nat_tests) in none ∙ rw no refl
nothing_noted w moves kept made same (inr few) none =
    let long = moves_long w.past in
    let count = ap (λ (l : List PlainMove). length l) same in
    none ∙ none_behind w kept (omega (arith, long, count, few))

-- those behind the first of them
pub rest_noted : {V : Type 0} (w : SystemWorld V) (moves : List PlainMove) (kept : ℕ) (rest made : List Made)
    → moves ≡ moves_made w.past → length moves ≤ 400 → made ≡ made_in w.past → rest ≡ drop kept made
    → rest ≡ made_at kept w
rest_noted w moves kept rest made same few all is =
    let long = moves_long w.past in
    let count = ap (λ (l : List PlainMove). length l) same in
    let low : length w.past ≤ 400 = omega (arith, long, count, few) in
    let yes : nat_le (length w.past) 400 ≡ true = grind (arith, nat_tests) in
    is ∙ (ap (λ (l : List Made). drop kept l) all ∙ rw yes refl)

-- found by playing
pub made_known : {V E : Type 0} (m : Meaning V) (inputs : Fed) (moves : List PlainMove) (r : Result (List Made) E)
    → IfOk r (λ made. made ≡ made_where (play m (inputs_of inputs) inputs.threads moves))
    → IfOk r (λ made. (s : Setting V) (w : SystemWorld V) → AreInputs m inputs s → Sound s w → moves ≡ moves_made w.past
    → made ≡ made_in w.past)
made_known m inputs moves (Ok made) h = λ s w are sound same. h ∙ made_so m inputs s w moves are sound same
made_known m inputs moves (Err e) h = tt

-- What is noted of an event

left_behind : (l : List Packet) (n : ℕ) → n ≤ length l → length l - length (drop n l) ≡ n
left_behind l n low = let rest = length-drop n l in omega (arith, rest, low)

-- what has come in is all but what is left
pub fed_so : {V : Type 0} (m : Meaning V) (inputs : Fed) (s : Setting V) (w : SystemWorld V) (all left : ℕ)
    → AreInputs m inputs s → Sound s w → all ≡ length inputs.packets → left ≡ length (drop w.fed s.packets)
    → all - left ≡ w.fed
fed_so m inputs s w all left are sound whole rest =
    let packets = ap (λ (log : Fed). length log.packets) are.inputs_are in
    let those = left_behind s.packets w.fed sound.firm.fed in
    omega (arith, packets, those, whole, rest)

names_long : (sent : List Sent) → length (sent_names sent) ≡ length sent
names_long [] = refl
names_long (o ∷ sent) = ap suc (names_long sent)

pub released_so : {V : Type 0} (w : SystemWorld V) (names : List (ℕ × ℕ)) (many : ℕ) → many ≡ length names
    → names ≡ sent_names w.released → many ≡ length w.released
released_so w names many is same =
    is ∙ (ap (λ (l : List (ℕ × ℕ)). length l) same ∙ names_long w.released)

-- who made the moves

threads_append : (a b : List PlainMove) → threads_of (a ++ b) ≡ threads_of a ++ threads_of b
threads_append [] b = refl
threads_append (p ∷ a) b = ap (λ (l : List ℕ). p.thread ∷ l) (threads_append a b)

threads_made : {V : Type 0} (steps : List (Step V)) → threads_of (moves_made steps) ≡ movers_in steps
threads_made [] = refl
threads_made (x ∷ earlier) =
    threads_append (moves_made earlier) _ ∙ ap (λ (l : List ℕ). l ++ x.thread ∷ []) (threads_made earlier)

threads_drop : (k : ℕ) (moves : List PlainMove) → threads_of (drop k moves) ≡ drop k (threads_of moves)
threads_drop zero moves = refl
threads_drop (suc k) [] = refl
threads_drop (suc k) (p ∷ moves) = threads_drop k moves

pub movers_so : {V : Type 0} (w : SystemWorld V) (slice : List PlainMove) (kept : ℕ) (movers : List ℕ)
    → slice ≡ moves_made w.past → movers ≡ threads_of (drop kept slice) → movers ≡ drop kept (movers_in w.past)
movers_so w slice kept movers same is =
    is
    ∙ (ap (λ (l : List PlainMove). threads_of (drop kept l)) same
    ∙ (threads_drop kept (moves_made w.past) ∙ ap (λ (l : List ℕ). drop kept l) (threads_made w.past)))

abbrev pub note_at : Event → Outcome → List ℕ → ℕ → List Made → List ℕ → ℕ → ℕ → ℕ → ℕ → Bool → ℕ → Note
note_at ev to l k m v n f r h u e = record {
  event = ev;
  outcome = to;
  line = l;
  kept = k;
  made = m;
  movers = v;
  moves = n;
  fed = f;
  released = r;
  waiting = h;
  up = u;
  epoch = e;
}

pub note_is : {V : Type 0} (ev : Event) (to : Outcome) (freed : List Sent) (w : SystemWorld V) (line : List ℕ)
    (kept count : ℕ) (made : List Made) (movers : List ℕ) (moves fed released waiting : ℕ) (up : Bool) (epoch : ℕ)
    → line ≡ reply_line ev to freed → kept ≡ moves - count → count ≡ moves_by to → made ≡ made_at kept w
    → movers ≡ drop kept (movers_in w.past) → moves ≡ length w.past → fed ≡ w.fed → released ≡ length w.released
    → waiting ≡ length w.waiting → up ≡ w.up → epoch ≡ w.epoch
    → note_at ev to line kept made movers moves fed released waiting up epoch ≡ note_of ev to freed w
note_is ev to freed w line kept count made movers moves fed released waiting up epoch a b counted c v d e f i g h =
    let k : ℕ = length w.past - moves_by to in
    let same : kept ≡ k =
    b ∙ (ap (λ (n : ℕ). n - count) d ∙ ap (λ (n : ℕ). length w.past - n) counted) in
    let what : made ≡ made_at k w = c ∙ ap (λ (n : ℕ). made_at n w) same in
    let all : List ℕ = drop k (movers_in w.past) in
    let who : movers ≡ all = v ∙ ap (λ (n : ℕ). drop n (movers_in w.past)) same in
    let words : List ℕ = reply_line ev to freed in
    let many : ℕ = length w.past in
    let out : ℕ = length w.released in
    let held : ℕ = length w.waiting in
    ap (λ (x : List ℕ). note_at ev to x kept made movers moves fed released waiting up epoch) a
    ∙ (ap (λ (x : ℕ). note_at ev to words x made movers moves fed released waiting up epoch) same
    ∙ (ap (λ (x : List Made). note_at ev to words k x movers moves fed released waiting up epoch) what
    ∙ (ap (λ (x : List ℕ). note_at ev to words k (made_at k w) x moves fed released waiting up epoch) who
    ∙ (ap (λ (x : ℕ). note_at ev to words k (made_at k w) all x fed released waiting up epoch) d
    ∙ (ap (λ (x : ℕ). note_at ev to words k (made_at k w) all many x released waiting up epoch) e
    ∙ (ap (λ (x : ℕ). note_at ev to words k (made_at k w) all many w.fed x waiting up epoch) f
    ∙ (ap (λ (x : ℕ). note_at ev to words k (made_at k w) all many w.fed out x up epoch) i
    ∙ (ap (λ (x : Bool). note_at ev to words k (made_at k w) all many w.fed out held x epoch) g
    ∙ ap (λ (x : ℕ). note_at ev to words k (made_at k w) all many w.fed out held w.up x) h))))))))

pub behind_known : {V E : Type 0} (m : Meaning V) (inputs : Fed) (moves : List PlainMove) (kept : ℕ)
    → length moves ≤ 400 → (made : List Made)
    → ((s : Setting V) (w : SystemWorld V) → AreInputs m inputs s → Sound s w → moves ≡ moves_made w.past
    → made ≡ made_in w.past)
    → (slice : List Made) → slice ≡ made → (r : Result (List Made) E) → IfOk r (λ rest. rest ≡ drop kept slice)
    → IfOk r (λ made. (s : Setting V) (w : SystemWorld V) → AreInputs m inputs s → Sound s w → moves ≡ moves_made w.past
    → made ≡ made_at kept w)
behind_known m inputs moves kept few made known slice is (Ok rest) h =
    λ s w are sound same. rest_noted w moves kept rest made same few (known s w are sound same)
    (h ∙ ap (λ (l : List Made). drop kept l) is)
behind_known m inputs moves kept few made known slice is (Err e) h = tt

pub long_so : {V : Type 0} (w : SystemWorld V) (moves : List PlainMove) (many : ℕ) → many ≡ length moves
    → moves ≡ moves_made w.past → many ≡ length w.past
long_so w moves many is same = is ∙ (ap (λ (l : List PlainMove). length l) same ∙ moves_long w.past)
