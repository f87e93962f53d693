-- Bytes at the beginning of which the answers of orderly calls are honest, where they agree: under each name that was
-- opened all that was read of one of its files, of which most was read.
use Rattle.std.proofs.Common.{◌≡◌, ◌⊎◌, inl, inr, ℕ, ◌==◌, true, false, List, [], ◌∷◌, ◌++◌}
use Rattle.std.proofs.Common.{Option, Some, None, length, drop, refl, sym, ◌∙◌, ap, subst, append_assoc, append-nil}
use Rattle.std.proofs.Common.{eq-eqb, length-append, arith}
use Rattle.std.specs.Prelude.{if◌then◌else◌, not}
use Rattle.std.specs.Str.{bytes_eq}
use Rattle.std.proofs.Math.Seq.{drop-append_seam}
use Rattle.std.proofs.lemmas.List.{drop_all}
use Rattle.std.proofs.lemmas.Bool.{cases_Bool, eqb-true, and_parts, or_parts, or_left, or_right, not-true}
use Rattle.std.proofs.lemmas.Slice.Eq.{bytes_eq-Decides}
use Rattle.world_io.specs.World.{Start, Shown}
use Rattle.world_told.specs.declared.record.Call.{Call}
use Rattle.world_told.specs.declared.record.Call.TheVariants.{Opened, Read, Ended, Created, Wrote}
use Rattle.world_told.specs.Events.{Event, at_number, content_of, shown_after}
use Rattle.world_told.specs.Honest.{IsThere, IsHonest}
use Rattle.world_told.specs.Orderly.{opens, ends, opened_in, ended_in, created_in, name_created, follows, are_orderly}
use Rattle.world_told.specs.Orderly.{read_by, read_of, IsFirstPart, Agree, IsIn, AnswersAgree, OpensOnce}
use Rattle.world_told.proofs.Made.{contrary, own, or_without}

-- what is still to be read of each file, before a call that is followed by these
abbrev before_call : Call → List ℕ → (ℕ → List ℕ) → ℕ → List ℕ
before_call call bytes rest file = read_by file call bytes ++ rest file

-- The beginning serves calls, after which this is still to be read of each file.
record IsServed (p : Start) (rest : ℕ → List ℕ) (calls : List Event) : Type 0 where
  ended : (file : ℕ) → ended_in file calls ≡ true → rest file ≡ []
  held : (file : ℕ) (name : List ℕ) → IsIn (Opened file, name) calls → p name ≡ Some (read_of file calls ++ rest file)

-- Then the answers are honest, and this is what the files are after them.
record Serves (p : Start) (rest : ℕ → List ℕ) (calls : List Event) : Type 0 where
  honest : IsHonest p calls
  left : (file : ℕ) → opened_in file calls ≡ true → (shown_after p calls).left file ≡ rest file
  names : (name : List ℕ) → name_created name calls ≡ false → (shown_after p calls).names name ≡ p name
  named : (file : ℕ) → created_in file calls ≡ true
      → name_created ((shown_after p calls).name_of file) calls ≡ true

same_call : (a b : Call) (x y : List ℕ) → ◌≡◌ {A = Event} (a, x) (b, y) → a ≡ b
same_call a b x y same = ap (λ (e : Event). e.0) same

number_of : Call → ℕ
number_of (Opened k) = k
number_of (Read k) = k
number_of (Ended k) = k
number_of (Created k) = k
number_of (Wrote k) = k

same_number : (k file : ℕ) (a b : List ℕ) → ◌≡◌ {A = Event} (Opened k, a) (Opened file, b) → k ≡ file
unfolding number_of
same_number k file a b same = ap (λ (e : Event). number_of e.0) same

same_name : (k file : ℕ) (a b : List ℕ) → ◌≡◌ {A = Event} (Opened k, a) (Opened file, b) → a ≡ b
same_name k file a b same = ap (λ (e : Event). e.1) same

same_bytes : (a : List ℕ) → bytes_eq a a ≡ true
same_bytes a = (bytes_eq-Decides a a).1 refl

-- What is so of a call is so of it and the earlier ones

module _ (call : Call) (bytes : List ℕ) (earlier : List Event)
    (orderly : are_orderly ((call, bytes) ∷ earlier) ≡ true) where
  newest : follows call bytes earlier ≡ true
  newest = (and_parts (follows call bytes earlier) (are_orderly earlier) orderly).0

  before : are_orderly earlier ≡ true
  before = (and_parts (follows call bytes earlier) (are_orderly earlier) orderly).1

module _ (k : ℕ) (bytes : List ℕ) (earlier : List Event) where
  opened_name_is_new : follows (Opened k) bytes earlier ≡ true → name_created bytes earlier ≡ false
  opened_name_is_new f = not-true _ (and_parts (not (name_created bytes earlier)) (not (opened_in k earlier)) f).0

  opened_is_new : follows (Opened k) bytes earlier ≡ true → opened_in k earlier ≡ false
  opened_is_new f = not-true _ (and_parts (not (name_created bytes earlier)) (not (opened_in k earlier)) f).1

  read_is_opened : follows (Read k) bytes earlier ≡ true → opened_in k earlier ≡ true
  read_is_opened f = (and_parts (opened_in k earlier) (not (ended_in k earlier)) f).0

  read_has_not_ended : follows (Read k) bytes earlier ≡ true → ended_in k earlier ≡ false
  read_has_not_ended f = not-true _ (and_parts (opened_in k earlier) (not (ended_in k earlier)) f).1

-- of a file that was not opened nothing was read
read_of-none : (file : ℕ) (calls : List Event) → are_orderly calls ≡ true → opened_in file calls ≡ false
    → read_of file calls ≡ []
read_of-none file [] orderly none = refl
read_of-none file ((Opened k, bytes) ∷ earlier) orderly none =
    let others = or_parts (file == k) (opened_in file earlier) none in
    append-nil (read_of file earlier) ∙ read_of-none file earlier (before (Opened k) bytes earlier orderly) others.1
read_of-none file ((Read k, bytes) ∷ earlier) orderly none = elim (cases_Bool (file == k)) [
  | inl same ↦ absurd (contrary (read_is_opened k bytes earlier (newest (Read k) bytes earlier orderly))
      (ap (λ j. opened_in j earlier) (sym (eqb-true file k same)) ∙ none))
  | inr other ↦ rw other
      (append-nil (read_of file earlier) ∙ read_of-none file earlier (before (Read k) bytes earlier orderly) none)
]
read_of-none file ((Ended k, bytes) ∷ earlier) orderly none =
    append-nil (read_of file earlier) ∙ read_of-none file earlier (before (Ended k) bytes earlier orderly) none
read_of-none file ((Created k, bytes) ∷ earlier) orderly none =
    append-nil (read_of file earlier) ∙ read_of-none file earlier (before (Created k) bytes earlier orderly) none
read_of-none file ((Wrote k, bytes) ∷ earlier) orderly none =
    append-nil (read_of file earlier) ∙ read_of-none file earlier (before (Wrote k) bytes earlier orderly) none

-- nothing is read of a file after its end
read_by-ended : (file : ℕ) (call : Call) (bytes : List ℕ) (earlier : List Event) → follows call bytes earlier ≡ true
    → ended_in file earlier ≡ true → read_by file call bytes ≡ []
read_by-ended file (Opened k) bytes earlier follows ended = refl
read_by-ended file (Read k) bytes earlier follows ended = elim (cases_Bool (file == k)) [
  | inl same ↦ absurd (contrary ended
      (ap (λ j. ended_in j earlier) (eqb-true file k same) ∙ read_has_not_ended k bytes earlier follows))
  | inr other ↦ rw other refl
]
read_by-ended file (Ended k) bytes earlier follows ended = refl
read_by-ended file (Created k) bytes earlier follows ended = refl
read_by-ended file (Wrote k) bytes earlier follows ended = refl

module _ (p : Start) (rest : ℕ → List ℕ) where
  -- what serves calls serves the earlier ones, after which more is still to be read
  earlier_served : (call : Call) (bytes : List ℕ) (earlier : List Event) → follows call bytes earlier ≡ true
      → IsServed p rest ((call, bytes) ∷ earlier) → IsServed p (before_call call bytes rest) earlier
  earlier_served call bytes earlier follows served = record {
    ended = λ file is.
        ap (λ l. l ++ rest file) (read_by-ended file call bytes earlier follows is)
        ∙ served.ended file (or_right (ends file call) (ended_in file earlier) is);
    held = λ file name is.
        served.held file name (inr is)
        ∙ ap Some (append_assoc (read_of file earlier) (read_by file call bytes) (rest file));
  }

  module _ (earlier : List Event) where
    abbrev s : Shown
    s = shown_after p earlier

    opened_serves : (k : ℕ) (name : List ℕ) → follows (Opened k) name earlier ≡ true → are_orderly earlier ≡ true
        → IsServed p rest ((Opened k, name) ∷ earlier) → Serves p (before_call (Opened k) name rest) earlier
        → Serves p rest ((Opened k, name) ∷ earlier)
    opened_serves k name follows orderly served ih =
        let content = served.held k name (inl refl) in
        let is : s.names name ≡ Some (read_of k ((Opened k, name) ∷ earlier) ++ rest k) =
        ih.names name (opened_name_is_new k name earlier follows) ∙ content in
        let none : read_of k ((Opened k, name) ∷ earlier) ≡ [] =
        append-nil (read_of k earlier) ∙ read_of-none k earlier orderly (opened_is_new k name earlier follows) in
        let there : IsThere (s.names name) = rw is tt in
        let left : content_of (s.names name) ≡ rest k = ap content_of is ∙ ap (λ l. l ++ rest k) none in
        record {
          honest = (there, ih.honest);
          left = λ file opened. elim (cases_Bool (file == k)) [
            | inl same ↦ rw same (left ∙ ap rest (sym (eqb-true file k same)))
            | inr other ↦
                let was = sym (or_without (file == k) (opened_in file earlier) other) ∙ opened in
                rw other (ih.left file was)
          ];
          names = λ n none. ih.names n none;
          named = λ file created. ih.named file created;
        }

    -- what is left after bytes are read
    read_on : (k : ℕ) (bytes : List ℕ) → opened_in k earlier ≡ true
        → Serves p (before_call (Read k) bytes rest) earlier
        → (s.left k ≡ bytes ++ drop (length bytes) (s.left k)) × (drop (length bytes) (s.left k) ≡ rest k)
    read_on k bytes opened ih =
        let all : read_by k (Read k) bytes ≡ bytes = rw (eq-eqb k k refl) refl in
        let is : s.left k ≡ bytes ++ rest k = ih.left k opened ∙ ap (λ l. l ++ rest k) all in
        let after : drop (length bytes) (s.left k) ≡ rest k =
        ap (drop (length bytes)) is ∙ drop-append_seam bytes (rest k) in
        (is ∙ ap (λ l. bytes ++ l) (sym after), after)

    read_serves : (k : ℕ) (bytes : List ℕ) → follows (Read k) bytes earlier ≡ true
        → Serves p (before_call (Read k) bytes rest) earlier → Serves p rest ((Read k, bytes) ∷ earlier)
    read_serves k bytes follows ih =
        let on = read_on k bytes (read_is_opened k bytes earlier follows) ih in
        record {
          honest = (on.0, ih.honest);
          left = λ file opened. elim (cases_Bool (file == k)) [
            | inl same ↦ rw same (on.1 ∙ ap rest (sym (eqb-true file k same)))
            | inr other ↦
                let none : read_by file (Read k) bytes ≡ [] = rw other refl in
                rw other (ih.left file opened ∙ ap (λ l. l ++ rest file) none)
          ];
          names = λ n none. ih.names n none;
          named = λ file created. ih.named file created;
        }

    ended_serves : (k : ℕ) (bytes : List ℕ) → follows (Ended k) bytes earlier ≡ true
        → IsServed p rest ((Ended k, bytes) ∷ earlier) → Serves p (before_call (Ended k) bytes rest) earlier
        → Serves p rest ((Ended k, bytes) ∷ earlier)
    ended_serves k bytes follows served ih = record {
      honest = (ih.left k follows ∙ served.ended k (or_left (k == k) (ended_in k earlier) (own k)), ih.honest);
      left = λ file opened. ih.left file opened;
      names = λ n none. ih.names n none;
      named = λ file created. ih.named file created;
    }

    created_serves : (k : ℕ) (name : List ℕ) → Serves p (before_call (Created k) name rest) earlier
        → Serves p rest ((Created k, name) ∷ earlier)
    created_serves k name ih = record {
      honest = (tt, ih.honest);
      left = λ file opened. ih.left file opened;
      names = λ n none.
          let parts = or_parts (bytes_eq n name) (name_created n earlier) none in
          let other = parts.0 in
          rw other (ih.names n parts.1);
      named = λ file created. elim (cases_Bool (file == k)) [
        | inl same ↦
            let by : at_number k name s.name_of file ≡ name = rw same refl in
            subst (λ l. name_created l ((Created k, name) ∷ earlier) ≡ true) (sym by)
            (or_left (bytes_eq name name) (name_created name earlier) (same_bytes name))
        | inr other ↦
            let by : at_number k name s.name_of file ≡ s.name_of file = rw other refl in
            let was = sym (or_without (file == k) (created_in file earlier) other) ∙ created in
            subst (λ l. name_created l ((Created k, name) ∷ earlier) ≡ true) (sym by)
            (or_right (bytes_eq (s.name_of file) name) (name_created (s.name_of file) earlier) (ih.named file was))
      ];
    }

    wrote_names : (k : ℕ) (bytes : List ℕ) → follows (Wrote k) bytes earlier ≡ true
        → Serves p (before_call (Wrote k) bytes rest) earlier → (n : List ℕ) → name_created n earlier ≡ false
        → (shown_after p ((Wrote k, bytes) ∷ earlier)).names n ≡ p n
    wrote_names k bytes follows ih n none = elim (cases_Bool (k == 0)) [
      | inl report ↦ rw report (ih.names n none)
      | inr other ↦
          let created = sym (or_without (k == 0) (created_in k earlier) other) ∙ follows in
          rw other (elim (cases_Bool (bytes_eq n (s.name_of k))) [
            | inl same ↦ absurd (contrary (ih.named k created)
                (ap (λ l. name_created l earlier) (sym ((bytes_eq-Decides n (s.name_of k)).0 same)) ∙ none))
            | inr differs ↦ rw differs (ih.names n none)
          ])
    ]

    wrote_serves : (k : ℕ) (bytes : List ℕ) → follows (Wrote k) bytes earlier ≡ true
        → Serves p (before_call (Wrote k) bytes rest) earlier → Serves p rest ((Wrote k, bytes) ∷ earlier)
    wrote_serves k bytes follows ih = record {
      honest = (tt, ih.honest);
      left = λ file opened. ih.left file opened;
      names = λ n none. wrote_names k bytes follows ih n none;
      named = λ file created. ih.named file created;
    }

-- a beginning that serves orderly calls
serves : (p : Start) (calls : List Event) → are_orderly calls ≡ true → (rest : ℕ → List ℕ) → IsServed p rest calls
    → Serves p rest calls
serves p [] orderly rest served =
    record { honest = tt; left = λ file is. cc; names = λ n none. refl; named = λ file is. cc }
serves p ((Opened k, name) ∷ earlier) orderly rest served =
    let new = newest (Opened k) name earlier orderly in
    let old = before (Opened k) name earlier orderly in
    opened_serves p rest earlier k name new old served
    (serves p earlier old _ (earlier_served p rest (Opened k) name earlier new served))
serves p ((Read k, bytes) ∷ earlier) orderly rest served =
    let new = newest (Read k) bytes earlier orderly in
    read_serves p rest earlier k bytes new (serves p earlier (before (Read k) bytes earlier orderly) _
    (earlier_served p rest (Read k) bytes earlier new served))
serves p ((Ended k, bytes) ∷ earlier) orderly rest served =
    let new = newest (Ended k) bytes earlier orderly in
    ended_serves p rest earlier k bytes new served (serves p earlier (before (Ended k) bytes earlier orderly) _
    (earlier_served p rest (Ended k) bytes earlier new served))
serves p ((Created k, name) ∷ earlier) orderly rest served =
    let new = newest (Created k) name earlier orderly in
    created_serves p rest earlier k name (serves p earlier (before (Created k) name earlier orderly) _
    (earlier_served p rest (Created k) name earlier new served))
serves p ((Wrote k, bytes) ∷ earlier) orderly rest served =
    let new = newest (Wrote k) bytes earlier orderly in
    wrote_serves p rest earlier k bytes new (serves p earlier (before (Wrote k) bytes earlier orderly) _
    (earlier_served p rest (Wrote k) bytes earlier new served))

-- The beginning: under each name that was opened all that was read, by all the calls, of the one of its files of which
-- most was read.

first_part_same : (bytes : List ℕ) → IsFirstPart bytes bytes
first_part_same bytes = ([], sym (append-nil bytes))

first_part_trans : (a b c : List ℕ) → IsFirstPart a b → IsFirstPart b c → IsFirstPart a c
first_part_trans a b c r s =
    (r.0 ++ s.0, s.1 ∙ ap (λ l. l ++ s.0) r.1 ∙ append_assoc a r.0 s.0)

-- of the files that some of the calls opened by the name, one of which most was read
record Most (all calls : List Event) (name : List ℕ) : Type 0 where
  file : ℕ
  there : IsIn (Opened file, name) calls
  most : (k : ℕ) → IsIn (Opened k, name) calls → IsFirstPart (read_of k all) (read_of file all)

abbrev FoundMost : List Event → List Event → List ℕ → Type 0
FoundMost all calls name = ((k : ℕ) → ¬ IsIn (Opened k, name) calls) ⊎ Most all calls name

-- whether the call opened the name
opens_name : (call : Call) (own name : List ℕ)
    → ((k : ℕ) × ◌≡◌ {A = Event} (call, own) (Opened k, name))
    ⊎ ((k : ℕ) → ¬ ◌≡◌ {A = Event} (call, own) (Opened k, name))
opens_name (Opened k) own name = elim (cases_Bool (bytes_eq own name)) [
  | inl same ↦ inl (k, ap (λ l. (Opened k, l)) ((bytes_eq-Decides own name).0 same))
  | inr other ↦ inr (λ j e. contrary ((bytes_eq-Decides own name).1 (same_name k j own name e)) other)
]
opens_name (Read k) own name = inr (λ j e. let call = same_call _ _ _ _ e in absurd (cc))
opens_name (Ended k) own name = inr (λ j e. let call = same_call _ _ _ _ e in absurd (cc))
opens_name (Created k) own name = inr (λ j e. let call = same_call _ _ _ _ e in absurd (cc))
opens_name (Wrote k) own name = inr (λ j e. let call = same_call _ _ _ _ e in absurd (cc))

module _ (all : List Event) (name : List ℕ) (e : Event) (earlier : List Event) where
  -- the call did not open it
  most-passed : ((k : ℕ) → ¬ (e ≡ (Opened k, name))) → FoundMost all earlier name → FoundMost all (e ∷ earlier) name
  most-passed differs (inl none) = inl (λ k is. elim is [
    | inl first ↦ differs k first
    | inr before ↦ none k before
  ])
  most-passed differs (inr m) = inr (record {
    file = m.file;
    there = inr m.there;
    most = λ k is. elim is [
      | inl first ↦ absurd (differs k first)
      | inr before ↦ m.most k before
    ];
  })

  module _ (k : ℕ) (opened : e ≡ (Opened k, name)) where
    -- another number that the call gave is the same
    same_file : (j : ℕ) → e ≡ (Opened j, name) → j ≡ k
    same_file j is = sym (same_number k j name name (sym opened ∙ is))

    own_first : (j : ℕ) (whole : List ℕ) → e ≡ (Opened j, name) → IsFirstPart (read_of k all) whole
        → IsFirstPart (read_of j all) whole
    own_first j whole is first = subst (λ i. IsFirstPart (read_of i all) whole) (sym (same_file j is)) first

    -- more was read of an earlier file
    most-kept : (m : Most all earlier name) → IsFirstPart (read_of k all) (read_of m.file all)
        → FoundMost all (e ∷ earlier) name
    most-kept m less = inr (record {
      file = m.file;
      there = inr m.there;
      most = λ j is. elim is [
        | inl first ↦ own_first j (read_of m.file all) first less
        | inr before ↦ m.most j before
      ];
    })

    -- most was read of this one
    most-own : ((j : ℕ) → IsIn (Opened j, name) earlier → IsFirstPart (read_of j all) (read_of k all))
        → FoundMost all (e ∷ earlier) name
    most-own less = inr (record {
      file = k;
      there = inl opened;
      most = λ j is. elim is [
        | inl first ↦ own_first j (read_of k all) first (first_part_same (read_of k all))
        | inr before ↦ less j before
      ];
    })

    most-opened : ((j : ℕ) → IsIn (Opened j, name) earlier → Agree k j all) → FoundMost all earlier name
        → FoundMost all (e ∷ earlier) name
    most-opened agree (inl none) = most-own (λ j is. absurd (none j is))
    most-opened agree (inr m) = elim ((agree m.file m.there).same) [
      | inl less ↦ most-kept m less
      | inr more ↦ most-own (λ j is. first_part_trans _ _ _ (m.most j is) more)
    ]

most_of : (all calls : List Event) (name : List ℕ)
    → ((a b : ℕ) → IsIn (Opened a, name) calls → IsIn (Opened b, name) calls → Agree a b all)
    → FoundMost all calls name
most_of all [] name agree = inl (λ k is. is)
most_of all ((call, bytes) ∷ earlier) name agree =
    let found = most_of all earlier name (λ a b is_a is_b. agree a b (inr is_a) (inr is_b)) in
    elim (opens_name call bytes name) [
      | inl opened ↦ most-opened all name (call, bytes) earlier opened.0 opened.1
          (λ j is. agree opened.0 j (inl opened.1) (inr is)) found
      | inr differs ↦ most-passed all name (call, bytes) earlier differs found
    ]

content : (all calls : List Event) (name : List ℕ) → FoundMost all calls name → Option (List ℕ)
content all calls name (inl none) = None
content all calls name (inr m) = Some (read_of m.file all)

-- what of the content was not read of this file
unread : ℕ → List Event → Option (List ℕ) → List ℕ
unread file calls bytes = drop (length (read_of file calls)) (content_of bytes)

-- it begins with what was read of each file of the name
content-held : (calls : List Event) (name : List ℕ) (found : FoundMost calls calls name) (file : ℕ)
    → IsIn (Opened file, name) calls
    → content calls calls name found ≡ Some (read_of file calls ++ unread file calls (content calls calls name found))
unfolding content unread
content-held calls name (inl none) file is = absurd (none file is)
content-held calls name (inr m) file is =
    let first = m.most file is in
    let after : drop (length (read_of file calls)) (read_of m.file calls) ≡ first.0 =
    ap (drop (length (read_of file calls))) first.1 ∙ drop-append_seam (read_of file calls) first.0 in
    ap Some (first.1 ∙ ap (λ l. read_of file calls ++ l) (sym after))

drop-first : (part whole : List ℕ) → IsFirstPart part whole → drop (length whole) part ≡ []
drop-first part whole first =
    drop_all (length whole) part (omega (arith, ap length first.1, length-append part first.0))

-- and where the end of the file was found, nothing more
content-ended : (calls : List Event) (name : List ℕ) (found : FoundMost calls calls name) (file : ℕ)
    → AnswersAgree calls → IsIn (Opened file, name) calls → ended_in file calls ≡ true
    → unread file calls (content calls calls name found) ≡ []
unfolding content unread
content-ended calls name (inl none) file agree is ended = absurd (none file is)
content-ended calls name (inr m) file agree is ended =
    drop-first (read_of m.file calls) (read_of file calls) ((agree name file m.file is m.there).whole ended)

-- The name by which each file was opened

abbrev opened_name : ℕ → List Event → List ℕ
opened_name file [] = []
opened_name file (e ∷ earlier) = if opens file e.0 then e.1 else opened_name file earlier

opened-from : (file : ℕ) (name : List ℕ) (calls : List Event) → IsIn (Opened file, name) calls
    → opened_in file calls ≡ true
opened-from file name [] is = absurd is
opened-from file name (e ∷ earlier) (inl first) =
    or_left (opens file e.0) (opened_in file earlier) (ap (λ (x : Event). opens file x.0) first ∙ own file)
opened-from file name (e ∷ earlier) (inr before) =
    or_right (opens file e.0) (opened_in file earlier) (opened-from file name earlier before)

name-first : (file : ℕ) (name : List ℕ) (e : Event) (earlier : List Event) → e ≡ (Opened file, name)
    → opened_name file (e ∷ earlier) ≡ name
name-first file name e earlier first =
    ap (λ (x : Event). opened_name file (x ∷ earlier)) first ∙ (let is = own file in rw is refl)

opened_name-is : (file : ℕ) (name : List ℕ) (calls : List Event) → are_orderly calls ≡ true
    → IsIn (Opened file, name) calls → opened_name file calls ≡ name
opened_name-is file name [] orderly is = absurd is
opened_name-is file name (e ∷ earlier) orderly (inl first) = name-first file name e earlier first
opened_name-is file name ((Opened k, by) ∷ earlier) orderly (inr was) = elim (cases_Bool (file == k)) [
  | inl same ↦ absurd (contrary (opened-from file name earlier was)
      (ap (λ j. opened_in j earlier) (eqb-true file k same)
      ∙ opened_is_new k by earlier (newest (Opened k) by earlier orderly)))
  | inr other ↦ rw other (opened_name-is file name earlier (before (Opened k) by earlier orderly) was)
]
opened_name-is file name ((Read k, by) ∷ earlier) orderly (inr was) =
    opened_name-is file name earlier (before (Read k) by earlier orderly) was
opened_name-is file name ((Ended k, by) ∷ earlier) orderly (inr was) =
    opened_name-is file name earlier (before (Ended k) by earlier orderly) was
opened_name-is file name ((Created k, by) ∷ earlier) orderly (inr was) =
    opened_name-is file name earlier (before (Created k) by earlier orderly) was
opened_name-is file name ((Wrote k, by) ∷ earlier) orderly (inr was) =
    opened_name-is file name earlier (before (Wrote k) by earlier orderly) was

-- an opened file has such a name
opened-is : (file : ℕ) (calls : List Event) → opened_in file calls ≡ true
    → (name : List ℕ) × IsIn (Opened file, name) calls
opened-is file [] opened = cc
opened-is file ((Opened k, name) ∷ earlier) opened = elim (cases_Bool (file == k)) [
  | inl same ↦ (name, inl (ap (λ j. (Opened j, name)) (sym (eqb-true file k same))))
  | inr other ↦
      let was = opened-is file earlier (sym (or_without (file == k) (opened_in file earlier) other) ∙ opened) in
      (was.0, inr was.1)
]
opened-is file ((Read k, bytes) ∷ earlier) opened =
    let was = opened-is file earlier opened in (was.0, inr was.1)
opened-is file ((Ended k, bytes) ∷ earlier) opened =
    let was = opened-is file earlier opened in (was.0, inr was.1)
opened-is file ((Created k, bytes) ∷ earlier) opened =
    let was = opened-is file earlier opened in (was.0, inr was.1)
opened-is file ((Wrote k, bytes) ∷ earlier) opened =
    let was = opened-is file earlier opened in (was.0, inr was.1)

-- an end is that of an opened file
ended-opened : (file : ℕ) (calls : List Event) → are_orderly calls ≡ true → ended_in file calls ≡ true
    → opened_in file calls ≡ true
ended-opened file [] orderly ended = ended
ended-opened file ((Opened k, name) ∷ earlier) orderly ended =
    or_right (file == k) (opened_in file earlier)
    (ended-opened file earlier (before (Opened k) name earlier orderly) ended)
ended-opened file ((Read k, bytes) ∷ earlier) orderly ended =
    ended-opened file earlier (before (Read k) bytes earlier orderly) ended
ended-opened file ((Ended k, bytes) ∷ earlier) orderly ended = elim (cases_Bool (file == k)) [
  | inl same ↦ ap (λ j. opened_in j earlier) (eqb-true file k same) ∙ newest (Ended k) bytes earlier orderly
  | inr other ↦ ended-opened file earlier (before (Ended k) bytes earlier orderly)
      (sym (or_without (file == k) (ended_in file earlier) other) ∙ ended)
]
ended-opened file ((Created k, name) ∷ earlier) orderly ended =
    ended-opened file earlier (before (Created k) name earlier orderly) ended
ended-opened file ((Wrote k, bytes) ∷ earlier) orderly ended =
    ended-opened file earlier (before (Wrote k) bytes earlier orderly) ended

module _ (calls : List Event) (orderly : are_orderly calls ≡ true) (agree : AnswersAgree calls) where
  start : Start
  start name = content calls calls name (most_of calls calls name (agree name))

  rest : ℕ → List ℕ
  rest file = unread file calls (start (opened_name file calls))

  all_served : IsServed start rest calls
  unfolding start rest
  all_served = record {
    ended = λ file ended.
        let opened = opened-is file calls (ended-opened file calls orderly ended) in
        let by = opened_name-is file opened.0 calls orderly opened.1 in
        ap (λ n. unread file calls (start n)) by
        ∙ content-ended calls opened.0 (most_of calls calls opened.0 (agree opened.0)) file agree opened.1 ended;
    held = λ file name is.
        content-held calls name (most_of calls calls name (agree name)) file is
        ∙ ap (λ n. Some (read_of file calls ++ unread file calls (start n)))
        (sym (opened_name-is file name calls orderly is));
  }

pub honest_beginning : (calls : List Event) → are_orderly calls ≡ true → AnswersAgree calls
    → (p : Start) × IsHonest p calls
honest_beginning calls orderly agree =
    let p = start calls orderly agree in
    let all = serves p calls orderly (rest calls orderly agree) (all_served calls orderly agree) in
    (p, all.honest)

pub once_agree : (calls : List Event) → OpensOnce calls → AnswersAgree calls
once_agree calls once name a b is_a is_b =
    let same = once name a b is_a is_b in
    let first : IsFirstPart (read_of a calls) (read_of b calls) =
    subst (λ j. IsFirstPart (read_of a calls) (read_of j calls)) same (first_part_same (read_of a calls)) in
    let back : IsFirstPart (read_of b calls) (read_of a calls) =
    subst (λ j. IsFirstPart (read_of j calls) (read_of a calls)) same (first_part_same (read_of a calls)) in
    record { same = inl first; whole = λ _. back }
