-- Lists of places, as packets are fed.
use Rattle.std.proofs.Common.{◌≡◌, ◌≢◌, ◌⊎◌, ℕ, zero, suc, ◌-◌, ◌<◌, ◌≤◌, ◌==◌, Bool, true, false, cond, List, [], ◌∷◌}
use Rattle.std.proofs.Common.{◌++◌, map, filter, length, get_or, set, slice_get, option_map, Option, Some, None, Result}
use Rattle.std.proofs.Common.{Ok, Err, ◌∙◌, sym, ap, inl, inr, subst, arith, refl}
use Rattle.std.specs.Prelude.{All}
use Rattle.std.proofs.lemmas.List.{length-map, length-set, map-append, append-nil}
use Rattle.std.proofs.lemmas.List.Elements.{filter-append, All-filter}
use Rattle.std.proofs.lemmas.Option.{slice_get-map, slice_get-get_or, slice_get_within, get_or_from_slice_get}
use Rattle.std.proofs.lemmas.Bool.{cases_eq}
use Rattle.std.proofs.lemmas.Bool.Decides.{nat_tests}
use Rattle.std.proofs.lemmas.Nat.{mod_below}
use Rattle.tagged_frames.specs.FromPacketHeaders.{Flow}
use Rattle.tagged_frames.specs.FromPacketHeaders.{NotFlow}
use Rattle.tagged_frames.specs.FromPacketHeaders.{steering_sum}
use Rattle.tagged_frames.specs.FromPlainText.{Packet}
use Rattle.input_logger.specs.Inputs.{Fed, view_of, thread_of_view, thread_of, inputs_of, input_at}
use Rattle.input_logger.specs.Places.{ArePlacesOf, IsIndexed}

-- what is found in a list is found in a longer one
pub slice_get-append : {X : Type 0} (xs more : List X) (k : ℕ) (x : X) → slice_get xs k ≡ Some x
    → slice_get (xs ++ more) k ≡ Some x
slice_get-append [] more k x found = cc
slice_get-append (y ∷ ys) more zero x found = found
slice_get-append (y ∷ ys) more (suc k) x found = slice_get-append ys more k x found

pub slice_get_last : {X : Type 0} (xs : List X) (x : X) → slice_get (xs ++ x ∷ []) (length xs) ≡ Some x
slice_get_last [] x = refl
slice_get_last (y ∷ ys) x = slice_get_last ys x

-- as are the items at many places
grown : {X : Type 0} (xs more : List X) (places : List ℕ) (ys : List X) → map (slice_get xs) places ≡ map Some ys
    → map (slice_get (xs ++ more)) places ≡ map Some ys
grown xs more [] [] same = refl
grown xs more [] (y ∷ ys) same = cc
grown xs more (p ∷ places) [] same = cc
grown xs more (p ∷ places) (y ∷ ys) same =
    let here : slice_get xs p ≡ Some y = cc in
    let later : map (slice_get xs) places ≡ map Some ys = cc in
    let here' = slice_get-append xs more p y here in
    let later' = grown xs more places ys later in
    cc

-- the log after a packet
abbrev pub with_packet : Fed → Packet → Fed
with_packet log packet = record log { packets = log.packets ++ packet ∷ [] }

same_number : (m n : ℕ) → n ≡ m → (m == n) ≡ true
same_number m n same = grind (arith, nat_tests)

other_number : (m n : ℕ) → n ≢ m → (m == n) ≡ false
other_number m n other = grind (arith, nat_tests)

-- the inputs of the packet's own thread, and of another
pub own_inputs : (log : Fed) (packet : Packet) (thread : ℕ) → thread ≡ thread_of log.tags packet log.threads
    → inputs_of (with_packet log packet) thread ≡ inputs_of log thread ++ packet ∷ []
own_inputs log packet thread own =
    filter-append (λ p. thread_of log.tags p log.threads == thread) log.packets (packet ∷ [])
    ∙ ap (λ (b : Bool). inputs_of log thread ++ cond b (packet ∷ []) [])
    (same_number (thread_of log.tags packet log.threads) thread own)

pub other_inputs : (log : Fed) (packet : Packet) (thread : ℕ) → thread ≢ thread_of log.tags packet log.threads
    → inputs_of (with_packet log packet) thread ≡ inputs_of log thread
other_inputs log packet thread other =
    filter-append (λ p. thread_of log.tags p log.threads == thread) log.packets (packet ∷ [])
    ∙ ap (λ (b : Bool). inputs_of log thread ++ cond b (packet ∷ []) [])
    (other_number (thread_of log.tags packet log.threads) thread other)
    ∙ append-nil (inputs_of log thread)

own_places : (log : Fed) (packet : Packet) (thread : ℕ) (list : List ℕ) → thread ≡ thread_of log.tags packet log.threads
    → ArePlacesOf log thread list → ArePlacesOf (with_packet log packet) thread (list ++ length log.packets ∷ [])
own_places log packet thread list own places =
    let earlier = grown log.packets (packet ∷ []) list (inputs_of log thread) places in
    let last = slice_get_last log.packets packet in
    map-append (slice_get (log.packets ++ packet ∷ [])) list (length log.packets ∷ [])
    ∙ ap
    (λ (found : List (Option Packet)). found ++ slice_get (log.packets ++ packet ∷ []) (length log.packets) ∷ [])
    earlier
    ∙ ap (λ (found : Option Packet). map Some (inputs_of log thread) ++ found ∷ []) last
    ∙ sym (map-append Some (inputs_of log thread) (packet ∷ []))
    ∙ ap (λ (inputs : List Packet). map Some inputs) (sym (own_inputs log packet thread own))

other_places : (log : Fed) (packet : Packet) (thread : ℕ) (list : List ℕ)
    → thread ≢ thread_of log.tags packet log.threads
    → ArePlacesOf log thread list → ArePlacesOf (with_packet log packet) thread list
other_places log packet thread list other places =
    grown log.packets (packet ∷ []) list (inputs_of log thread) places
    ∙ ap (λ (inputs : List Packet). map Some inputs) (sym (other_inputs log packet thread other))

-- a list among the others, after one was set
slice_get-set_same : {X : Type 0} (xs : List X) (k : ℕ) (x y : X) → slice_get (set xs k x) k ≡ Some y → y ≡ x
slice_get-set_same [] k x y found = cc
slice_get-set_same (z ∷ zs) zero x y found = cc
slice_get-set_same (z ∷ zs) (suc k) x y found = slice_get-set_same zs k x y found

slice_get-set_other : {X : Type 0} (xs : List X) (k j : ℕ) (x : X) → j ≢ k → slice_get (set xs k x) j ≡ slice_get xs j
slice_get-set_other [] k j x other = refl
slice_get-set_other (z ∷ zs) zero zero x other = absurd (other refl)
slice_get-set_other (z ∷ zs) zero (suc j) x other = refl
slice_get-set_other (z ∷ zs) (suc k) zero x other = refl
slice_get-set_other (z ∷ zs) (suc k) (suc j) x other = slice_get-set_other zs k j x (λ e. other (ap suc e))

-- the index after a packet: its place was added to its thread's list
found_places : (log : Fed) (lists : List (List ℕ)) (packet : Packet) (thread : ℕ) (list : List ℕ) → IsIndexed log lists
    → thread ≡ thread_of log.tags packet log.threads → slice_get lists thread ≡ Some list
    → (t : ℕ) (found_list : List ℕ) → slice_get (set lists thread (list ++ length log.packets ∷ [])) t ≡ Some found_list
    → (t ≡ thread) ⊎ (t ≡ thread → ⊥) → ArePlacesOf (with_packet log packet) t found_list
found_places log lists packet thread list indexed own before t found_list found (inl same) =
    let lists' = set lists thread (list ++ length log.packets ∷ []) in
    let is_new = slice_get-set_same lists thread (list ++ length log.packets ∷ []) found_list
    (ap (λ (k : ℕ). slice_get lists' k) (sym same) ∙ found) in
    let Places : ℕ → List ℕ → Type 0 = λ k l. ArePlacesOf (with_packet log packet) k l in
    subst (λ (k : ℕ). Places k found_list) (sym same) (subst (λ (l : List ℕ). Places thread l) (sym is_new)
    (own_places log packet thread list own (indexed.places thread list before)))
found_places log lists packet thread list indexed own before t found_list found (inr other) =
    other_places log packet t found_list (λ e. other (e ∙ sym own)) (indexed.places t found_list
    (sym (slice_get-set_other lists thread t (list ++ length log.packets ∷ []) other) ∙ found))

pub fed_is_indexed : (log : Fed) (lists : List (List ℕ)) (packet : Packet) (thread : ℕ) (list : List ℕ)
    → IsIndexed log lists → thread ≡ thread_of log.tags packet log.threads → thread < length lists
    → list ≡ get_or lists thread list
    → IsIndexed (with_packet log packet) (set lists thread (list ++ length log.packets ∷ []))
fed_is_indexed log lists packet thread list indexed own in_lists there = record {
  some_thread = indexed.some_thread;
  few_threads = indexed.few_threads;
  one_each = length-set lists thread (list ++ length log.packets ∷ []) ∙ indexed.one_each;
  places = λ t found_list found. found_places log lists packet thread list indexed own
      (slice_get-get_or lists thread list in_lists ∙ ap Some (sym there)) t found_list found (cases_eq t thread);
}

-- how many inputs a thread has
pub length-inputs : (log : Fed) (lists : List (List ℕ)) (thread : ℕ) (list : List ℕ) → IsIndexed log lists
    → thread < length lists → list ≡ get_or lists thread list → length list ≡ length (inputs_of log thread)
length-inputs log lists thread list indexed in_lists there =
    let before = slice_get-get_or lists thread list in_lists ∙ ap Some (sym there) in
    let places = indexed.places thread list before in
    sym (length-map list (slice_get log.packets)) ∙ ap length places ∙ length-map (inputs_of log thread) Some

same_option : {X : Type 0} (found : Option X) (wanted : Option X) → Some found ≡ option_map Some wanted → found ≡ wanted
same_option found None same = cc
same_option found (Some x) same = cc

none_from_map : {X : Type 0} (wanted : Option X) → None ≡ option_map Some wanted → None ≡ wanted
none_from_map None same = refl
none_from_map (Some x) same = cc

-- a thread that there is not has no inputs
pub thread_of_view-lt : (seen : Result Flow NotFlow) (threads : ℕ) → 1 ≤ threads → thread_of_view seen threads < threads
thread_of_view-lt (Ok flow) threads some = mod_below (steering_sum flow) threads some
thread_of_view-lt (Err answer) threads some = some

no_inputs : (tags : Bool) (packets : List Packet) (threads thread : ℕ) → 1 ≤ threads → threads ≤ thread
    → filter (λ packet. thread_of tags packet threads == thread) packets ≡ []
no_inputs tags [] threads thread some beyond = refl
no_inputs tags (p ∷ packets) threads thread some beyond =
    let below = thread_of_view-lt (view_of tags p) threads some in
    let fails = other_number (thread_of tags p threads) thread (λ e. omega arith) in
    ap (λ (b : Bool). cond b (p ∷ filter (λ packet. thread_of tags packet threads == thread) packets)
    (filter (λ packet. thread_of tags packet threads == thread) packets)) fails
    ∙ no_inputs tags packets threads thread some beyond

past : {X : Type 0} (xs : List X) (k : ℕ) → slice_get xs k ≡ None → length xs ≤ k
past [] k none = omega arith
past (x ∷ xs) zero none = cc
past (x ∷ xs) (suc k) none = let later = past xs k none in omega arith

-- numbers from 1 are places from 0
input_at-next : (log : Fed) (thread k earlier : ℕ) → (1 ≤ k) × (earlier ≡ k - 1)
    → input_at log thread k ≡ slice_get (inputs_of log thread) earlier
input_at-next log thread k earlier next =
    let next' : k ≡ suc earlier = omega arith in
    ap (λ (n : ℕ). input_at log thread n) next'

-- ---- what the log finds, by the thread's list of places

no_input_beyond : (log : Fed) (lists : List (List ℕ)) (thread k : ℕ) → IsIndexed log lists
    → slice_get lists thread ≡ None → None ≡ input_at log thread k
no_input_beyond log lists thread zero indexed beyond = refl
no_input_beyond log lists thread (suc earlier) indexed beyond =
    let far = past lists thread beyond in
    let one_each = indexed.one_each in
    sym (ap (λ (inputs : List Packet). slice_get inputs earlier)
    (no_inputs log.tags log.packets log.threads thread indexed.some_thread (omega arith)))

-- no list, so no such thread
pub finds_no_thread : (log : Fed) (lists shown : List (List ℕ)) (thread k : ℕ) → IsIndexed log lists → shown ≡ lists
    → None ≡ slice_get shown thread → None ≡ input_at log thread k
finds_no_thread log lists shown thread k indexed same none =
    no_input_beyond log lists thread k indexed (ap (λ (l : List (List ℕ)). slice_get l thread) (sym same) ∙ sym none)

looked_up : (log : Fed) (lists shown : List (List ℕ)) (thread earlier : ℕ) (list : List ℕ) → IsIndexed log lists
    → shown ≡ lists → Some list ≡ slice_get shown thread
    → option_map (slice_get log.packets) (slice_get list earlier)
    ≡ option_map Some (slice_get (inputs_of log thread) earlier)
looked_up log lists shown thread earlier list indexed same some =
    let places = indexed.places thread list (ap (λ (l : List (List ℕ)). slice_get l thread) (sym same) ∙ sym some) in
    sym (slice_get-map (slice_get log.packets) list earlier)
    ∙ ap (λ (xs : List (Option Packet)). slice_get xs earlier) places
    ∙ slice_get-map Some (inputs_of log thread) earlier

-- no place, so no such input
pub finds_no_place : (log : Fed) (lists shown : List (List ℕ)) (thread k earlier : ℕ) (list list_shown : List ℕ)
    → IsIndexed log lists → shown ≡ lists → Some list ≡ slice_get shown thread → (1 ≤ k) × (earlier ≡ k - 1)
    → list_shown ≡ list → None ≡ slice_get list_shown earlier → None ≡ input_at log thread k
finds_no_place log lists shown thread k earlier list list_shown indexed same some next same_list none =
    let absent = none ∙ ap (λ (l : List ℕ). slice_get l earlier) same_list in
    none_from_map (slice_get (inputs_of log thread) earlier)
    (ap (λ (o : Option ℕ). option_map (slice_get log.packets) o) absent
    ∙ looked_up log lists shown thread earlier list indexed same some)
    ∙ sym (input_at-next log thread k earlier next)

-- the packet at that place
pub finds_input : (log : Fed) (lists shown : List (List ℕ)) (thread k earlier place : ℕ) (list list_shown : List ℕ)
    → IsIndexed log lists → shown ≡ lists → Some list ≡ slice_get shown thread → (1 ≤ k) × (earlier ≡ k - 1)
    → list_shown ≡ list → Some place ≡ slice_get list_shown earlier
    → slice_get log.packets place ≡ input_at log thread k
finds_input log lists shown thread k earlier place list list_shown indexed same some next same_list found =
    let there = found ∙ ap (λ (l : List ℕ). slice_get l earlier) same_list in
    same_option (slice_get log.packets place) (slice_get (inputs_of log thread) earlier)
    (ap (λ (o : Option ℕ). option_map (slice_get log.packets) o) there
    ∙ looked_up log lists shown thread earlier list indexed same some)
    ∙ sym (input_at-next log thread k earlier next)

-- ---- an empty log

pub new_is_indexed : (threads : ℕ) (tags : Bool) (lists : List (List ℕ)) → 1 ≤ threads → threads ≤ 16
    → length lists ≡ threads → ((k : ℕ) (list : List ℕ) → slice_get lists k ≡ Some list → list ≡ [])
    → IsIndexed (record { threads = threads; tags = tags; packets = [] }) lists
new_is_indexed threads tags lists some few one_each empty = record {
  some_thread = some;
  few_threads = few;
  one_each = one_each;
  places = λ thread list found. ap (λ (l : List ℕ). map (slice_get []) l) (empty thread list found);
}

-- what is true of each item of a list is true of one that is found in it
pub found_has : {X : Type 0} (P : X → Type 0) (xs : List X) (k : ℕ) (x : X) → All P xs → slice_get xs k ≡ Some x → P x
found_has P xs k x all at = subst P (get_or_from_slice_get xs k x x at) (all k x (slice_get_within xs k x at))

-- what is true of each packet that was fed is true of each input
pub input_has : (P : Packet → Type 0) (fed : Fed) (t k : ℕ) (p : Packet) → All P fed.packets
    → slice_get (inputs_of fed t) k ≡ Some p → P p
input_has P fed t k p all =
    found_has P (inputs_of fed t) k p
    (All-filter (λ packet. thread_of fed.tags packet fed.threads == t) P fed.packets all)
