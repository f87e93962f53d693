-- Wherever a list of writes is cut, the released capture and the report keep step.
use Rattle.std.proofs.Common.{◌≡◌, ℕ, ◌+◌, ◌<◌, List, [], ◌∷◌, ◌++◌, length, length-append, refl, sym, ap, ◌∙◌}
use Rattle.std.proofs.Common.{append-nil, append_assoc, subst, inl, inr, ◌⊎◌, arith, true, Some, None}
use Rattle.std.specs.Prelude.{cond}
use Rattle.std.specs.Str.{bytes_eq}
use Rattle.plain_text.specs.declared.packet.Unit.{Unit as FractionUnit}
use Rattle.pcap_io.specs.Capture.{written, written_header, records_of}
use Rattle.pcap_io.specs.declared.order.Order.TheVariants as order
use Rattle.recovery_world.specs.declared.event.Event.{Event}
use Rattle.recovery_world.specs.World.{Setting, World as SystemWorld}
use Rattle.recovery_world.specs.Files.{reply_line}
use Rattle.output_files.specs.Writes.{Write, Creates, Appends, Reports, after_write, after_writes, reported_by}
use Rattle.output_files.specs.Writes.{reported, IsPrefix, IsPartOf, IsCut}
use Rattle.output_files.proofs.Effects.{Compared, IsSame, Differs, compared, reported_more}
use Rattle.run_writes.specs.Replies.{Reply, Answers, Opens, Goes, newly_released, released_in, lines_in}
use Rattle.run_writes.specs.Run.{OutputNames, reply_writes, replies_writes, writes_of}
use Rattle.run_writes.specs.Steps.{KeepStep, HaveLines}
use Rattle.run_writes.proofs.RunWrites.{same_name, other_name, records_more, lines_after}

-- Cuts

cut_split : (A B done : List Write) → IsCut done (A ++ B)
    → IsCut done A ⊎ ((d : List Write) × (done ≡ A ++ d) × IsCut d B)
cut_split [] B done cut = inr (done, refl, cut)
cut_split (w ∷ A) B [] cut = inl tt
cut_split (w ∷ A) B (x ∷ done) (inl (same, rest)) = go (cut_split A B done rest)
  where
    go : IsCut done A ⊎ ((d : List Write) × (done ≡ A ++ d) × IsCut d B)
        → IsCut (x ∷ done) (w ∷ A) ⊎ ((d : List Write) × (x ∷ done ≡ w ∷ (A ++ d)) × IsCut d B)
    go (inl c) = inl (inl (same, c))
    go (inr (d, e, c)) = inr (d, ap (λ (y : Write). y ∷ done) same ∙ ap (λ l. w ∷ l) e, c)
cut_split (w ∷ A) B (x ∷ done) (inr part) = inl (inr part)

prefix_nothing : (bytes : List ℕ) → IsPrefix [] bytes
prefix_nothing bytes = (bytes, refl)

-- the same first bytes before both
prefix_behind : (a b c : List ℕ) → IsPrefix b c → IsPrefix (a ++ b) (a ++ c)
prefix_behind a b c p = (p.0, ap (λ l. a ++ l) p.1 ∙ sym (append_assoc a b p.0))

prefix_before : (a b c : List ℕ) → IsPrefix a b → IsPrefix a (b ++ c)
prefix_before a b c p = (p.0 ++ c, ap (λ l. l ++ c) p.1 ∙ append_assoc a p.0 c)

reported_part : (x w : Write) → IsPartOf x w → IsPrefix (reported_by x) (reported_by w)
reported_part (Creates name) w part = absurd part
reported_part (Appends name bytes) (Creates other) part = absurd part
reported_part (Appends name bytes) (Appends other all) part = ([], refl)
reported_part (Appends name bytes) (Reports all) part = absurd part
reported_part (Reports bytes) (Creates other) part = absurd part
reported_part (Reports bytes) (Appends other all) part = absurd part
reported_part (Reports bytes) (Reports all) part = part

reported_cut : (A done : List Write) → IsCut done A → IsPrefix (reported done) (reported A)
reported_cut A [] cut = prefix_nothing (reported A)
reported_cut [] (x ∷ done) cut = absurd cut
reported_cut (w ∷ A) (x ∷ done) (inl (same, rest)) =
    subst (λ (y : Write). IsPrefix (reported_by x ++ reported done) (reported_by y ++ reported A)) same
    (prefix_behind (reported_by x) (reported done) (reported A) (reported_cut A done rest))
reported_cut (w ∷ A) (x ∷ done) (inr (part, none)) =
    subst (λ (l : List Write). IsPrefix (reported_by x ++ reported l) (reported_by w ++ reported A)) (sym none)
    (subst (λ (l : List ℕ). IsPrefix l (reported_by w ++ reported A)) (sym (append-nil (reported_by x)))
    (prefix_before (reported_by x) (reported_by w) (reported A) (reported_part x w part)))

-- What is appended to a name

abbrev appended_by : List ℕ → Write → List ℕ
appended_by name (Creates other) = []
appended_by name (Appends other bytes) = cond (bytes_eq other name) bytes []
appended_by name (Reports bytes) = []

abbrev appended : List ℕ → List Write → List ℕ
appended name [] = []
appended name (w ∷ writes) = appended_by name w ++ appended name writes

appended_more : (name : List ℕ) (A B : List Write) → appended name (A ++ B) ≡ appended name A ++ appended name B
appended_more name [] B = refl
appended_more name (w ∷ A) B =
    ap (λ l. appended_by name w ++ l) (appended_more name A B)
    ∙ sym (append_assoc (appended_by name w) (appended name A) (appended name B))

appended_part : (name : List ℕ) (x w : Write) → IsPartOf x w → IsPrefix (appended_by name x) (appended_by name w)
appended_part name (Creates own) w part = absurd part
appended_part name (Appends own bytes) (Creates other) part = absurd part
appended_part name (Appends own bytes) (Appends other all) (same, part) = go (compared own name)
  where
    go : Compared own name → IsPrefix (cond (bytes_eq own name) bytes []) (cond (bytes_eq other name) all [])
    go (IsSame e one) =
        let f : bytes_eq other name ≡ true = subst (λ (n : List ℕ). bytes_eq n name ≡ true) same e in rw (e, f) part
    go (Differs e apart) = rw e (prefix_nothing (cond (bytes_eq other name) all []))
appended_part name (Appends own bytes) (Reports all) part = absurd part
appended_part name (Reports bytes) (Creates other) part = absurd part
appended_part name (Reports bytes) (Appends other all) part = absurd part
appended_part name (Reports bytes) (Reports all) part = ([], refl)

appended_cut : (name : List ℕ) (A done : List Write) → IsCut done A → IsPrefix (appended name done) (appended name A)
appended_cut name A [] cut = prefix_nothing (appended name A)
appended_cut name [] (x ∷ done) cut = absurd cut
appended_cut name (w ∷ A) (x ∷ done) (inl (same, rest)) =
    subst (λ (y : Write). IsPrefix (appended_by name x ++ appended name done) (appended_by name y ++ appended name A))
    same (prefix_behind (appended_by name x) (appended name done) (appended name A) (appended_cut name A done rest))
appended_cut name (w ∷ A) (x ∷ done) (inr (part, none)) =
    subst (λ (l : List Write). IsPrefix (appended_by name x ++ appended name l) (appended_by name w ++ appended name A))
    (sym none)
    (subst (λ (l : List ℕ). IsPrefix l (appended_by name w ++ appended name A)) (sym (append-nil (appended_by name x)))
    (prefix_before (appended_by name x) (appended_by name w) (appended name A) (appended_part name x w part)))

-- no output is created under the name
abbrev NotMade : List ℕ → List Write → Type 0
NotMade name [] = Unit {0}
NotMade name (Creates other ∷ writes) = ¬ (other ≡ name) × NotMade name writes
NotMade name (Appends other bytes ∷ writes) = NotMade name writes
NotMade name (Reports bytes ∷ writes) = NotMade name writes

not_made_more : (name : List ℕ) (A B : List Write) → NotMade name A → NotMade name B → NotMade name (A ++ B)
not_made_more name [] B a b = b
not_made_more name (Creates other ∷ A) B a b = (a.0, not_made_more name A B a.1 b)
not_made_more name (Appends other bytes ∷ A) B a b = not_made_more name A B a b
not_made_more name (Reports bytes ∷ A) B a b = not_made_more name A B a b

replies_not_made : (name own : List ℕ) (replies : List Reply) → NotMade name (replies_writes own replies)
replies_not_made name own [] = tt
replies_not_made name own (r ∷ replies) = replies_not_made name own replies

cut_not_made : (name : List ℕ) (A done : List Write) → NotMade name A → IsCut done A → NotMade name done
cut_not_made name A [] made cut = tt
cut_not_made name [] (x ∷ done) made cut = absurd cut
cut_not_made name (Creates own ∷ A) (Creates other ∷ done) made (inl (same, rest)) =
    let e : other ≡ own = cc in (λ q. made.0 (sym e ∙ q), cut_not_made name A done made.1 rest)
cut_not_made name (Creates own ∷ A) (Creates other ∷ done) made (inr part) = absurd part.0
cut_not_made name (Creates own ∷ A) (Appends other bytes ∷ done) made (inl (same, rest)) = absurd (cc)
cut_not_made name (Creates own ∷ A) (Appends other bytes ∷ done) made (inr part) = absurd part.0
cut_not_made name (Creates own ∷ A) (Reports bytes ∷ done) made (inl (same, rest)) = absurd (cc)
cut_not_made name (Creates own ∷ A) (Reports bytes ∷ done) made (inr part) = absurd part.0
cut_not_made name (Appends own all ∷ A) (Creates other ∷ done) made (inl (same, rest)) = absurd (cc)
cut_not_made name (Appends own all ∷ A) (Creates other ∷ done) made (inr part) = absurd part.0
cut_not_made name (Appends own all ∷ A) (Appends other bytes ∷ done) made (inl (same, rest)) =
    cut_not_made name A done made rest
cut_not_made name (Appends own all ∷ A) (Appends other bytes ∷ done) made (inr part) =
    subst (NotMade name) (sym part.1) tt
cut_not_made name (Appends own all ∷ A) (Reports bytes ∷ done) made (inl (same, rest)) = absurd (cc)
cut_not_made name (Appends own all ∷ A) (Reports bytes ∷ done) made (inr part) = absurd part.0
cut_not_made name (Reports all ∷ A) (Creates other ∷ done) made (inl (same, rest)) = absurd (cc)
cut_not_made name (Reports all ∷ A) (Creates other ∷ done) made (inr part) = absurd part.0
cut_not_made name (Reports all ∷ A) (Appends other bytes ∷ done) made (inl (same, rest)) = absurd (cc)
cut_not_made name (Reports all ∷ A) (Appends other bytes ∷ done) made (inr part) = absurd part.0
cut_not_made name (Reports all ∷ A) (Reports bytes ∷ done) made (inl (same, rest)) = cut_not_made name A done made rest
cut_not_made name (Reports all ∷ A) (Reports bytes ∷ done) made (inr part) = subst (NotMade name) (sym part.1) tt

-- what is appended stands behind what the name has
stands_behind : (name : List ℕ) (writes : List Write) (had : List ℕ) → NotMade name writes
    → after_writes name writes (Some had) ≡ Some (had ++ appended name writes)
stands_behind name [] had made = ap (λ (l : List ℕ). Some l) (sym (append-nil had))
stands_behind name (Creates other ∷ writes) had made =
    rw (other_name other name made.0) (stands_behind name writes had made.1)
stands_behind name (Appends other bytes ∷ writes) had made =
    go (λ (h : List ℕ). stands_behind name writes h made) (compared other name)
  where
    go : ((h : List ℕ) → after_writes name writes (Some h) ≡ Some (h ++ appended name writes)) → Compared other name
        → after_writes name writes (after_write name (Appends other bytes) (Some had))
        ≡ Some (had ++ (cond (bytes_eq other name) bytes [] ++ appended name writes))
    go behind (IsSame e one) =
        rw e (behind (had ++ bytes) ∙ ap (λ (l : List ℕ). Some l) (append_assoc had bytes (appended name writes)))
    go behind (Differs e apart) = rw e (behind had)
stands_behind name (Reports bytes ∷ writes) had made = stands_behind name writes had made

-- Replies

replies_append : (name : List ℕ) (first more : List Reply)
    → replies_writes name (first ++ more) ≡ replies_writes name first ++ replies_writes name more
replies_append name [] more = refl
replies_append name (r ∷ first) more = ap (λ l. reply_writes name r ++ l) (replies_append name first more)

appended_replies : (name : List ℕ) (replies : List Reply)
    → appended name (replies_writes name replies) ≡ records_of order.Little (released_in replies)
appended_replies name [] = refl
appended_replies name (r ∷ replies) =
    rw (same_name name) (ap (λ l. records_of order.Little r.released ++ l) (appended_replies name replies)
    ∙ sym (records_more r.released (released_in replies)))

longer_prefix : (a b c : List ℕ) → IsPrefix (a ++ b) c → IsPrefix c a → length b ≡ 0
longer_prefix a b c p q =
    let one : length c ≡ length (a ++ b) + length p.0 = ap length p.1 ∙ length-append (a ++ b) p.0 in
    let two : length a ≡ length c + length q.0 = ap length q.1 ∙ length-append c q.0 in
    let three : length (a ++ b) ≡ length a + length b = length-append a b in
    omega arith

none : (l : List ℕ) → length l ≡ 0 → l ≡ []
none [] e = refl
none (x ∷ l) e = absurd (omega arith)

module _ (names : OutputNames) (u : FractionUnit) (apart : names.released ≡ names.schedule → ⊥) where
  appended_first : (first : List Reply)
      → appended names.released
      ((Appends names.released (written_header u) ∷ Creates names.schedule ∷ []) ++ replies_writes names.released first)
      ≡ written u (released_in first)
  appended_first first =
      rw (same_name names.released) (ap (λ l. written_header u ++ l) (appended_replies names.released first))

  -- the report has a whole line, so the records are there
  lines_follow : (first rest : List Reply) (r : Reply) (more d : List Write) → ¬ (r.line ≡ [])
      → NotMade names.released more
      → IsCut d ((Appends names.released (written_header u) ∷ Creates names.schedule ∷ [])
      ++ (replies_writes names.released (first ++ r ∷ rest) ++ more)) → IsPrefix (lines_in first ++ r.line) (reported d)
      → (behind : List ℕ) × (appended names.released d ≡ written u (released_in first ++ r.released) ++ behind)
  lines_follow first rest r more d some made cut has =
      go (cut_split A B d (subst (λ (ws : List Write). IsCut d ws) split cut))
    where
      A : List Write
      A =
          (Appends names.released (written_header u) ∷ Creates names.schedule ∷ [])
          ++ (replies_writes names.released first ++ Appends names.released (records_of order.Little r.released) ∷ [])

      B : List Write
      B = Reports r.line ∷ (replies_writes names.released rest ++ more)

      split : (Appends names.released (written_header u) ∷ Creates names.schedule ∷ [])
          ++ (replies_writes names.released (first ++ r ∷ rest) ++ more)
          ≡ A ++ B
      split = ap (λ (l : List Write). Appends names.released (written_header u) ∷ Creates names.schedule ∷ l)
          (ap (λ l. l ++ more) (replies_append names.released first (r ∷ rest))
          ∙ append_assoc (replies_writes names.released first)
          (reply_writes names.released r ++ replies_writes names.released rest) more
          ∙ sym (append_assoc (replies_writes names.released first)
          (Appends names.released (records_of order.Little r.released) ∷ [])
          (Reports r.line ∷ (replies_writes names.released rest ++ more))))

      reported_A : reported A ≡ lines_in first
      reported_A =
          reported_more (replies_writes names.released first)
          (Appends names.released (records_of order.Little r.released) ∷ [])
          ∙ append-nil (reported (replies_writes names.released first))
          ∙ lines_after names.released first

      appended_A : appended names.released A ≡ written u (released_in first ++ r.released)
      appended_A = rw (same_name names.released) (ap (λ l. written_header u ++ l) (appended_more names.released
          (replies_writes names.released first) (Appends names.released (records_of order.Little r.released) ∷ [])
          ∙ rw (same_name names.released)
          (ap (λ l. l ++ (records_of order.Little r.released ++ [])) (appended_replies names.released first)
          ∙ ap (λ l. records_of order.Little (released_in first) ++ l) (append-nil (records_of order.Little r.released))
          ∙ sym (records_more (released_in first) r.released))))

      go : IsCut d A ⊎ ((e : List Write) × (d ≡ A ++ e) × IsCut e B)
          → (behind : List ℕ) × (appended names.released d ≡ written u (released_in first ++ r.released) ++ behind)
      go (inl c) = absurd (some (none r.line (longer_prefix (lines_in first) r.line (reported d) has
          (subst (λ (l : List ℕ). IsPrefix (reported d) l) reported_A (reported_cut A d c)))))
      go (inr (e, is, c)) = (
        appended names.released e,
        ap (appended names.released) is
            ∙ appended_more names.released A e
            ∙ ap (λ l. l ++ appended names.released e) appended_A,
      )

  -- the capture has a byte more than the records of the first events, so their lines are there
  records_follow : (first rest : List Reply) (more d : List Write)
      → IsCut d ((Appends names.released (written_header u) ∷ Creates names.schedule ∷ [])
      ++ (replies_writes names.released (first ++ rest) ++ more))
      → length (written u (released_in first)) < length (appended names.released d)
      → IsPrefix (lines_in first) (reported d)
  records_follow first rest more d cut long = go (cut_split A B d (subst (λ (ws : List Write). IsCut d ws) split cut))
    where
      A : List Write
      A =
          (Appends names.released (written_header u) ∷ Creates names.schedule ∷ [])
          ++ replies_writes names.released first

      B : List Write
      B = replies_writes names.released rest ++ more

      split : (Appends names.released (written_header u) ∷ Creates names.schedule ∷ [])
          ++ (replies_writes names.released (first ++ rest) ++ more)
          ≡ A ++ B
      split = ap (λ (l : List Write). Appends names.released (written_header u) ∷ Creates names.schedule ∷ l)
          (ap (λ l. l ++ more) (replies_append names.released first rest)
          ∙ append_assoc (replies_writes names.released first) (replies_writes names.released rest) more)

      go : IsCut d A ⊎ ((e : List Write) × (d ≡ A ++ e) × IsCut e B) → IsPrefix (lines_in first) (reported d)
      go (inl c) =
          let p = appended_cut names.released A d c in
          let all : length (written u (released_in first)) ≡ length (appended names.released d) + length p.0 =
          ap length (sym (appended_first first) ∙ p.1) ∙ length-append (appended names.released d) p.0 in
          absurd (omega arith)
      go (inr (e, is, c)) = (
        reported e,
        ap reported is ∙ reported_more A e ∙ ap (λ l. l ++ reported e) (lines_after names.released first),
      )

  have_line : (first rest : List Reply) (r : Reply) → HaveLines (first ++ r ∷ rest) → ¬ (r.line ≡ [])
  have_line [] rest r have = have.0
  have_line (x ∷ first) rest r have = have_line first rest r have.1

  pub keeps_step : (replies : List Reply) (more done : List Write) → HaveLines replies → NotMade names.released more
      → IsCut done (writes_of names u replies ++ more) → KeepStep names u replies done
  keeps_step replies more [] have made cut = record {
    lines_follow = λ first rest r is has. absurd (have_line first rest r (subst HaveLines is have)
        (none r.line (longer_prefix (lines_in first) r.line [] has (prefix_nothing (lines_in first)))));
    records_follow = λ first rest bytes is at long. absurd (cc);
  }
  keeps_step replies more (Creates name ∷ d) have made (inl (same, cut)) = record {
    lines_follow = λ first rest r is has.
        let f = lines_follow first rest r more d (have_line first rest r (subst HaveLines is have)) made
        (subst (λ (l : List Reply). IsCut d ((Appends names.released (written_header u) ∷ Creates names.schedule ∷ [])
        ++ (replies_writes names.released l ++ more))) is cut) has in
        (f.0, there ∙ ap (λ (l : List ℕ). Some l) f.1);
    records_follow = λ first rest bytes is at long.
        let e : Some (appended names.released d) ≡ Some bytes = sym there ∙ at in
        let same_bytes : appended names.released d ≡ bytes = cc in
        records_follow first rest more d
        (subst (λ (l : List Reply). IsCut d ((Appends names.released (written_header u) ∷ Creates names.schedule ∷ [])
        ++ (replies_writes names.released l ++ more))) is cut)
        (subst (λ (l : List ℕ). length (written u (released_in first)) < length l) (sym same_bytes) long);
  }
    where
      own : name ≡ names.released
      own = cc

      there : after_writes names.released (Creates name ∷ d) None ≡ Some (appended names.released d)
      there = rw (subst (λ (n : List ℕ). bytes_eq n names.released ≡ true) (sym own) (same_name names.released))
          (stands_behind names.released d [] (cut_not_made names.released
          ((Appends names.released (written_header u) ∷ Creates names.schedule ∷ [])
          ++ (replies_writes names.released replies ++ more)) d (
            λ e. apart (sym e),
            not_made_more names.released (replies_writes names.released replies) more
                (replies_not_made names.released names.released replies) made,
          ) cut))
  keeps_step replies more (Creates name ∷ d) have made (inr part) = absurd part.0
  keeps_step replies more (Appends name bytes ∷ d) have made (inl (same, cut)) = absurd (cc)
  keeps_step replies more (Appends name bytes ∷ d) have made (inr part) = absurd part.0
  keeps_step replies more (Reports bytes ∷ d) have made (inl (same, cut)) = absurd (cc)
  keeps_step replies more (Reports bytes ∷ d) have made (inr part) = absurd part.0

-- Each event has a line.

not_empty : (l : List ℕ) → ¬ (l ++ 10 ∷ [] ≡ [])
not_empty [] e = cc
not_empty (x ∷ l) e = cc

lines_push : (replies : List Reply) (r : Reply) → HaveLines replies → ¬ (r.line ≡ []) → HaveLines (replies ++ r ∷ [])
lines_push [] r have some = (some, tt)
lines_push (x ∷ replies) r have some = (have.0, lines_push replies r have.1 some)

pub have_lines : {V : Type 0} (s : Setting V) (events : List Event) (replies : List Reply) (w : SystemWorld V)
    → Answers s events replies w → HaveLines replies
have_lines s events replies w Opens = tt
have_lines s events replies w (Goes {events = before} {replies = earlier} {w = mid} ev to freed rest on) =
    lines_push earlier (record { released = newly_released mid w; line = reply_line ev to freed })
    (have_lines s before earlier mid rest) (not_empty _)
