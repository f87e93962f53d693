-- What the reader does with all lines is what the relation of box files says: it goes along the lines, and its settings
-- are what the lines so far set.
use Rattle.std.proofs.Common.{◌≡◌, ◌≢◌, ℕ, ◌+◌, ◌<◌, ◌≤◌, ◌⊎◌, inl, inr, List, [], ◌∷◌, length, refl, sym, ap, ◌∙◌}
use Rattle.std.proofs.Common.{subst, arith, Option, Some, None, true, false, Bool, Ok, Err}
use Rattle.std.specs.Prelude.{Result, unwrap_or, find, is_none, map, cond, ◌&&◌}
use Rattle.std.specs.Str.{bytes_eq}
use Rattle.std.specs.Str.Lines.{lines as lines_of}
use Rattle.plain_text.specs.declared.fault.LineCause.{LineCause}
use Rattle.plain_text.specs.declared.fault.LineCause.TheVariants.{MissingLine}
use Rattle.plain_text.specs.declared.fault.LineFault.{LineFault}
use Rattle.plain_text.specs.Grammar.{Row, LineSays, Has as HasLine, Says, Leaves, AreLines, FirstToLeave, FirstOfFile}
use Rattle.plain_text.specs.Grammar.{IsRow, AllStand, Lacks}
use Rattle.plain_text.specs.Lines.{words_of, words_count, counted_lines}
use Rattle.plain_text.proofs.Rows.{one_row}
use Rattle.plain_text.proofs.Faults.{Rising, counted_rise, from_rising, only_repeats, all_of_table}
use Rattle.box_conf.specs.declared.kind.BoxConf.{BoxConf}
use Rattle.box_conf.specs.declared.settings.Settings.{Settings}
use Rattle.box_conf.specs.declared.kind.KindWord.{KindWord}
use Rattle.box_conf.specs.declared.table.BoxLine.{BoxLine}
use Rattle.box_conf.specs.declared.table.BoxLine.TheVariants.{Threads, Seed, Shards, Inside, Outside, Ports, Closing}
use Rattle.box_conf.specs.declared.table.BoxLine.TheVariants.{Vlan, Limit, Icmp, Static, Virtual, Backend, Seal}
use Rattle.box_conf.specs.declared.table.Values.{Values}
use Rattle.sha2.specs.Sha256.{sha256}
use Rattle.box_conf.specs.Names.{named_in}
use Rattle.box_conf.specs.BoxFile.{AreOfKind, Names, NamesNone, Has as HasValues}
use Rattle.box_conf.specs.Reading.{and_kind, and_lines, described_box, box_of_lines, conf_of, whole_box, first_line}
use Rattle.box_conf.specs.Reading.{no_settings, set_line, set_lines}
use Rattle.box_conf.specs.Settings.{setting, with_setting, usual_or_none, values_set}
use Rattle.box_conf.specs.Kinds.{box_row, conf_from, lines_of as lines_in, missing_line, rows_of}
use Rattle.box_conf.specs.Table.{again_of, row_of, usual_of, values_from, word_of}
use Rattle.box_conf.proofs.OneLine.{StepSays, Stood, step_says, FirstSays, first_says, box_is_a_row}

abbrev Line : Type 0
Line = ℕ × List ℕ

-- A row's word says which line it is

abbrev line_in : List ℕ → Option BoxLine
line_in word = find (λ line. bytes_eq word (word_of line))
    (Threads ∷ Seed ∷ Shards ∷ Vlan ∷ Inside ∷ Outside ∷ Ports ∷ Closing ∷ Limit ∷ Icmp ∷ Static ∷ Virtual ∷ Backend
    ∷ Seal ∷ [])

line_back : (line : BoxLine) → line_in (word_of line) ≡ Some line
line_back Threads = refl
line_back Seed = refl
line_back Shards = refl
line_back Vlan = refl
line_back Inside = refl
line_back Outside = refl
line_back Ports = refl
line_back Closing = refl
line_back Limit = refl
line_back Icmp = refl
line_back Static = refl
line_back Virtual = refl
line_back Backend = refl
line_back Seal = refl

not_box : (line : BoxLine) → box_row ≡ row_of line → ⊥
not_box line e =
    let bad : None ≡ Some line = ap (λ (r : Row). line_in r.word) e ∙ line_back line in
    absurd (cc)

pub same_line : (a b : BoxLine) → row_of a ≡ row_of b → a ≡ b
same_line a b e =
    let same : Some a ≡ Some b = sym (line_back a) ∙ ap (λ (r : Row). line_in r.word) e ∙ line_back b in
    cc

-- a line is another, or the values that were set are its own
pub set_or : (s : Settings) (a b : BoxLine) (v : Values)
    → (a ≢ b × (setting (with_setting s a v) b ≡ setting s b)) ⊎ ((a ≡ b) × (setting (with_setting s a v) b ≡ Some v))
set_or s Threads Threads v = inr (refl, refl)
set_or s Seed Seed v = inr (refl, refl)
set_or s Shards Shards v = inr (refl, refl)
set_or s Vlan Vlan v = inr (refl, refl)
set_or s Inside Inside v = inr (refl, refl)
set_or s Outside Outside v = inr (refl, refl)
set_or s Ports Ports v = inr (refl, refl)
set_or s Closing Closing v = inr (refl, refl)
set_or s Limit Limit v = inr (refl, refl)
set_or s Icmp Icmp v = inr (refl, refl)
set_or s Static Static v = inr (refl, refl)
set_or s Virtual Virtual v = inr (refl, refl)
set_or s Backend Backend v = inr (refl, refl)
set_or s Seal Seal v = inr (refl, refl)
set_or s Threads other v = inl ((λ e. cc), refl)
set_or s Seed other v = inl ((λ e. cc), refl)
set_or s Shards other v = inl ((λ e. cc), refl)
set_or s Vlan other v = inl ((λ e. cc), refl)
set_or s Inside other v = inl ((λ e. cc), refl)
set_or s Outside other v = inl ((λ e. cc), refl)
set_or s Ports other v = inl ((λ e. cc), refl)
set_or s Closing other v = inl ((λ e. cc), refl)
set_or s Limit other v = inl ((λ e. cc), refl)
set_or s Icmp other v = inl ((λ e. cc), refl)
set_or s Static other v = inl ((λ e. cc), refl)
set_or s Virtual other v = inl ((λ e. cc), refl)
set_or s Backend other v = inl ((λ e. cc), refl)
set_or s Seal other v = inl ((λ e. cc), refl)

-- What the lines so far have set

abbrev IsSet : KindWord → List Line → BoxLine → Option Values → Type 0
IsSet kind lines line None =
    (x : Line) (values : List ℕ) → HasLine lines x → Says (rows_of kind) x (row_of line) values → ⊥
IsSet kind lines line (Some v) =
    (x : Line) × (values : List ℕ) × HasLine lines x × Says (rows_of kind) x (row_of line) values
    × (v ≡ values_from values)

record Stands (kind : KindWord) (s : Settings) (lines : List Line) : Type 0 where
  pub named : (x : Line) × (values : List ℕ) × HasLine lines x × Says (rows_of kind) x box_row values
  pub set : (line : BoxLine) → IsSet kind lines line (setting s line)

-- one more line
stands_more : (kind : KindWord) (s : Settings) (before : List Line) (x : Line) (line : BoxLine) (values : List ℕ)
    → Stands kind s before → Says (rows_of kind) x (row_of line) values
    → Stands kind (with_setting s line (values_from values)) (x ∷ before)
stands_more kind s before x line values stands says = record {
  named = (stands.named.0, stands.named.1, inr stands.named.2, stands.named.3);
  set = set_of;
}
  where
    older : (other : BoxLine) (o : Option Values) → line ≢ other → IsSet kind before other o
        → IsSet kind (x ∷ before) other o
    older other None differs none = λ y ns there other_says. by_place y ns other_says there
      where
        by_place : (y : Line) (ns : List ℕ) → Says (rows_of kind) y (row_of other) ns → HasLine (x ∷ before) y → ⊥
        by_place y ns other_says (inl e) =
            let here : Says (rows_of kind) x (row_of other) ns =
            subst (λ (l : Line). Says (rows_of kind) l (row_of other) ns) e other_says in
            let row = one_row (rows_of kind) (words_of x.1) (row_of line) (row_of other) values ns says here in
            differs (same_line line other row)
        by_place y ns other_says (inr there) = none y ns there other_says
    older other (Some v) differs some = (some.0, some.1, inr some.2, some.3, some.4)

    set_of : (other : BoxLine)
        → IsSet kind (x ∷ before) other (setting (with_setting s line (values_from values)) other)
    set_of other = by_set (set_or s line other (values_from values))
      where
        by_set : (line ≢ other × (setting (with_setting s line (values_from values)) other ≡ setting s other))
            ⊎ ((line ≡ other) × (setting (with_setting s line (values_from values)) other ≡ Some (values_from values)))
            → IsSet kind (x ∷ before) other (setting (with_setting s line (values_from values)) other)
        by_set (inl differs) = subst (IsSet kind (x ∷ before) other) (sym differs.1)
            (older other (setting s other) differs.0 (stands.set other))
        by_set (inr same) =
            let here : Says (rows_of kind) x (row_of other) values =
            subst (λ (l : BoxLine). Says (rows_of kind) x (row_of l) values) same.0 says in
            subst (IsSet kind (x ∷ before) other) (sym same.1) (x, values, inl refl, here, refl)

-- Along the lines

-- of all lines those so far are in the table, and the settings are what they set; the others have greater numbers
record Progress (kind : KindWord) (all : List Line) (s : Settings) (n : ℕ) (before rest : List Line) : Type 0 where
  pub split : (x : Line) → HasLine all x → HasLine before x ⊎ HasLine rest x
  pub from_before : (x : Line) → HasLine before x → HasLine all x
  pub from_rest : (x : Line) → HasLine rest x → HasLine all x
  pub rising : Rising n rest
  pub below : (x : Line) → HasLine before x → x.0 < n
  pub stands : Stands kind s before
  pub stays : (x : Line) (cause : LineCause) → HasLine before x → Leaves (rows_of kind) all x cause → ⊥

abbrev Comes : KindWord → List Line → Result Settings LineFault → Type 0
Comes kind all (Ok s) = Stands kind s all × AreLines (rows_of kind) all
Comes kind all (Err fault) = FirstToLeave (rows_of kind) all fault.line fault.cause

stands_all : (kind : KindWord) (all : List Line) (s : Settings) (n : ℕ) (before : List Line)
    → Progress kind all s n before [] → Comes kind all (Ok s)
stands_all kind all s n before a = (
  record {
    named = (a.stands.named.0, a.stands.named.1, a.from_before a.stands.named.0 a.stands.named.2, a.stands.named.3);
    set = λ line. set_of line (setting s line) (a.stands.set line);
  },
  all_of_table (rows_of kind) all (λ x cause there leaves. a.stays x cause (only_before x (a.split x there)) leaves),
)
  where
    only_before : (x : Line) → HasLine before x ⊎ HasLine [] x → HasLine before x
    only_before x (inl there) = there
    only_before x (inr none) = absurd none

    set_of : (line : BoxLine) (o : Option Values) → IsSet kind before line o → IsSet kind all line o
    set_of line None none = λ x values there says. none x values (only_before x (a.split x there)) says
    set_of line (Some v) some = (some.0, some.1, a.from_before some.0 some.2, some.3, some.4)

along : (kind : KindWord) (all rest before : List Line) (s : Settings) (n : ℕ) → Progress kind all s n before rest
    → Comes kind all (set_lines kind s rest)
along kind all [] before s n a = stands_all kind all s n before a
along kind all (line ∷ rest) before s n a = by_step (set_line kind s (words_of line.1))
    (step_says kind s (words_of line.1)) (along kind all rest (line ∷ before))
  where
    High : ℕ → Type 0
    High m = line.0 ≤ m

    from_here : (x : Line) → HasLine (line ∷ rest) x → line.0 ≤ x.0
    from_here x there = from_rising line.0 (line ∷ rest) x (omega arith, a.rising.1) there

    earlier : (x : Line) → HasLine all x → x.0 < line.0 → HasLine before x
    earlier x there less = by_split (a.split x there)
      where
        by_split : HasLine before x ⊎ HasLine (line ∷ rest) x → HasLine before x
        by_split (inl there) = there
        by_split (inr later) = let high = from_here x later in absurd (omega arith)

    goes_on : (next : Settings) → StepSays kind s (words_of line.1) (Ok next)
        → Progress kind all next (line.0 + 1) (line ∷ before) rest
    goes_on next says = record {
      split = λ x there. by_split x (a.split x there);
      from_before = λ x there. by_place x there;
      from_rest = λ x there. a.from_rest x (inr there);
      rising = a.rising.1;
      below = λ x there. by_number x there;
      stands = subst (λ (t : Settings). Stands kind t (line ∷ before)) (sym says.4)
          (stands_more kind s before line says.0 says.1 a.stands says.2);
      stays = λ x cause there leaves. by_leaving x cause there leaves;
    }
      where
        by_split : (x : Line) → HasLine before x ⊎ HasLine (line ∷ rest) x → HasLine (line ∷ before) x ⊎ HasLine rest x
        by_split x (inl there) = inl (inr there)
        by_split x (inr (inl e)) = inl (inl e)
        by_split x (inr (inr there)) = inr there

        by_place : (x : Line) → HasLine (line ∷ before) x → HasLine all x
        by_place x (inl e) = a.from_rest x (inl e)
        by_place x (inr there) = a.from_before x there

        by_number : (x : Line) → HasLine (line ∷ before) x → x.0 < line.0 + 1
        by_number x (inl e) = let k : x.0 ≡ line.0 = ap (λ (l : Line). l.0) e in omega arith
        by_number x (inr there) = let k = a.below x there in let low = a.rising.0 in omega arith

        here_stays : (cause : LineCause) → Leaves (rows_of kind) all line cause → ⊥
        here_stays cause leaves =
            let again = (only_repeats (rows_of kind) all line (row_of says.0) says.1 cause says.2 leaves).0 in
            let stood = again.stood in
            let row =
            one_row (rows_of kind) (words_of line.1) again.row (row_of says.0) again.values says.1 again.says says.2 in
            let there = earlier stood.earlier stood.stands stood.before in
            let said : Says (rows_of kind) stood.earlier (row_of says.0) stood.values =
            subst (λ (r : Row). Says (rows_of kind) stood.earlier r stood.values) row stood.says in
            by_once says.3 (ap (λ (r : Row). r.again) (sym row) ∙ again.once) stood.earlier stood.values there said
          where
            by_once : (setting s says.0 ≡ None) ⊎ (again_of says.0 ≡ true) → again_of says.0 ≡ false → (x : Line)
                (values : List ℕ) → HasLine before x → Says (rows_of kind) x (row_of says.0) values → ⊥
            by_once (inl unset) once = subst (IsSet kind before says.0) unset (a.stands.set says.0)
            by_once (inr free) once = absurd (cc)

        by_leaving : (x : Line) (cause : LineCause) → HasLine (line ∷ before) x → Leaves (rows_of kind) all x cause → ⊥
        by_leaving x cause (inl e) leaves =
            here_stays cause (subst (λ (l : Line). Leaves (rows_of kind) all l cause) e leaves)
        by_leaving x cause (inr there) leaves = a.stays x cause there leaves

    stood_before : (row : Row) → Stood s row
        → (x : Line) × (values : List ℕ) × HasLine before x × Says (rows_of kind) x row values
    stood_before row (inl e) =
        let named = a.stands.named in
        (named.0, named.1, named.2, subst (λ (r : Row). Says (rows_of kind) named.0 r named.1) (sym e) named.3)
    stood_before row (inr set) =
        let some : IsSet kind before set.0 (Some set.1) = subst (IsSet kind before set.0) set.3 (a.stands.set set.0) in
        (some.0, some.1, some.2, subst (λ (r : Row). Says (rows_of kind) some.0 r some.1) (sym set.2) some.3)

    leaves_here : (cause : LineCause) → StepSays kind s (words_of line.1) (Err cause)
        → Leaves (rows_of kind) all line cause
    leaves_here cause (inl fault) = inl fault
    leaves_here cause (inr again) =
        let stood = stood_before again.0 again.4 in
        let low = a.below stood.0 stood.2 in
        let high = a.rising.0 in
        inr (
          record {
            row = again.0;
            values = again.1;
            says = again.2;
            once = again.3;
            stood = record {
              earlier = stood.0;
              values = stood.1;
              stands = a.from_before stood.0 stood.2;
              before = omega arith;
              says = stood.3;
            };
          },
          again.5,
        )

    least : (other : Line) (why : LineCause) → HasLine all other → Leaves (rows_of kind) all other why
        → line.0 ≤ other.0
    least other why there leaves = by_split (a.split other there)
      where
        by_split : HasLine before other ⊎ HasLine (line ∷ rest) other → line.0 ≤ other.0
        by_split (inl earlier) = absurd (a.stays other why earlier leaves)
        by_split (inr later) = from_here other later

    by_step : (r : Result Settings LineCause) → StepSays kind s (words_of line.1) r
        → ((t : Settings) (m : ℕ) → Progress kind all t m (line ∷ before) rest → Comes kind all (set_lines kind t rest))
        → Comes kind all (and_lines line.0 r (λ next. set_lines kind next rest))
    by_step (Ok next) says more = more next (line.0 + 1) (goes_on next says)
    by_step (Err cause) says more = record {
      line = line;
      numbered = refl;
      stands = a.from_rest line (inl refl);
      leaves = leaves_here cause says;
      least = least;
    }

-- The whole text

-- after the first line
begins : (kind : KindWord) (first : Line) (rest : List Line) (n index : ℕ) → Rising n (first ∷ rest)
    → LineSays (box_row ∷ []) (words_of first.1) box_row (index ∷ [])
    → Progress kind (first ∷ rest) no_settings (first.0 + 1) (first ∷ []) rest
begins kind first rest n index rising names = record {
  split = λ x there. by_split x there;
  from_before = λ x there. by_place x there;
  from_rest = λ x there. inr there;
  rising = rising.1;
  below = λ x there. by_number x there;
  stands = record { named = (first, index ∷ [], inl refl, says); set = unset };
  stays = λ x cause there leaves. by_leaving x cause there leaves;
}
  where
    says : Says (rows_of kind) first box_row (index ∷ [])
    says = box_is_a_row kind (words_of first.1) (index ∷ []) names

    by_split : (x : Line) → HasLine (first ∷ rest) x → HasLine (first ∷ []) x ⊎ HasLine rest x
    by_split x (inl e) = inl (inl e)
    by_split x (inr there) = inr there

    by_place : (x : Line) → HasLine (first ∷ []) x → HasLine (first ∷ rest) x
    by_place x (inl e) = inl e
    by_place x (inr none) = absurd none

    by_number : (x : Line) → HasLine (first ∷ []) x → x.0 < first.0 + 1
    by_number x (inl e) = let k : x.0 ≡ first.0 = ap (λ (l : Line). l.0) e in omega arith
    by_number x (inr none) = absurd none

    none_of : (line : BoxLine) (x : Line) (values : List ℕ) → HasLine (first ∷ []) x
        → Says (rows_of kind) x (row_of line) values → ⊥
    none_of line x values (inl e) other =
        let here : Says (rows_of kind) first (row_of line) values =
        subst (λ (l : Line). Says (rows_of kind) l (row_of line) values) e other in
        not_box line (one_row (rows_of kind) (words_of first.1) box_row (row_of line) (index ∷ []) values says here)
    none_of line x values (inr none) other = absurd none

    unset : (line : BoxLine) → IsSet kind (first ∷ []) line (setting no_settings line)
    unset Threads = none_of Threads
    unset Seed = none_of Seed
    unset Shards = none_of Shards
    unset Vlan = none_of Vlan
    unset Inside = none_of Inside
    unset Outside = none_of Outside
    unset Ports = none_of Ports
    unset Closing = none_of Closing
    unset Limit = none_of Limit
    unset Icmp = none_of Icmp
    unset Static = none_of Static
    unset Virtual = none_of Virtual
    unset Backend = none_of Backend
    unset Seal = none_of Seal

    here_stays : (cause : LineCause) → Leaves (rows_of kind) (first ∷ rest) first cause → ⊥
    here_stays cause leaves =
        let again = (only_repeats (rows_of kind) (first ∷ rest) first box_row (index ∷ []) cause says leaves).0 in
        let stood = again.stood in
        let high = from_rising first.0 (first ∷ rest) stood.earlier (omega arith, rising.1) stood.stands in
        let low = stood.before in
        absurd (omega arith)

    by_leaving : (x : Line) (cause : LineCause) → HasLine (first ∷ []) x
        → Leaves (rows_of kind) (first ∷ rest) x cause → ⊥
    by_leaving x cause (inl e) leaves =
        here_stays cause (subst (λ (l : Line). Leaves (rows_of kind) (first ∷ rest) l cause) e leaves)
    by_leaving x cause (inr none) leaves = absurd none

-- What the settings come to

values_of_line : (kind : KindWord) (lines : List Line) (s : Settings) (line : BoxLine) → Stands kind s lines
    → (values : List ℕ) × HasValues kind lines line values × (values_from values ≡ values_set s line)
values_of_line kind lines s line stands = by_set (setting s line) (stands.set line)
  where
    by_set : (o : Option Values) → IsSet kind lines line o
        → (values : List ℕ)
        × HasValues kind lines line values
        × (values_from values ≡ unwrap_or o (values_from (usual_or_none line)))
    by_set None none = (usual_or_none line, inr (refl, none), refl)
    by_set (Some v) some = (some.1, inl (some.0, some.2, some.3), sym some.4)

-- a line has to stand, and has set nothing
abbrev is_missing : Settings → BoxLine → Bool
is_missing s line = is_none (usual_of line) && is_none (setting s line)

was_set : (required : Bool) (o : Option Values) → required ≡ true → (required && is_none o) ≡ false
    → (v : Values) × (o ≡ Some v)
was_set true None e f = absurd (cc)
was_set false None e f = absurd (cc)
was_set required (Some v) e f = (v, refl)

both_true : (a b : Bool) → (a && b) ≡ true → (a ≡ true) × (b ≡ true)
both_true true true e = (refl, refl)
both_true true false e = absurd (cc)
both_true false b e = absurd (cc)

none_set : (o : Option Values) → is_none o ≡ true → o ≡ None
none_set None e = refl
none_set (Some v) e = absurd (cc)

-- where no line is missing, those that have to stand are set
all_set : (s : Settings) (lines : List BoxLine) → find (is_missing s) lines ≡ None → (row : Row)
    → IsRow (map row_of lines) row → row.required ≡ true
    → (line : BoxLine) × (v : Values) × (row ≡ row_of line) × (setting s line ≡ Some v)
all_set s [] none row there required = absurd there
all_set s (line ∷ lines) none row there required = by (is_missing s line) refl none there (all_set s lines)
  where
    by : (b : Bool) → is_missing s line ≡ b → cond b (Some line) (find (is_missing s) lines) ≡ None
        → (row ≡ row_of line) ⊎ IsRow (map row_of lines) row
        → (find (is_missing s) lines ≡ None → (row : Row) → IsRow (map row_of lines) row → row.required ≡ true
        → (line : BoxLine) × (v : Values) × (row ≡ row_of line) × (setting s line ≡ Some v))
        → (line : BoxLine) × (v : Values) × (row ≡ row_of line) × (setting s line ≡ Some v)
    by true m none there more = absurd (cc)
    by false m none (inl e) more =
        let set =
        was_set (is_none (usual_of line)) (setting s line) (sym (ap (λ (r : Row). r.required) e) ∙ required) m in
        (line, set.0, e, set.1)
    by false m none (inr there) more = more none row there required

-- a line that is missing is one of these, and has to stand
one_missing : (s : Settings) (lines : List BoxLine) (line : BoxLine) → find (is_missing s) lines ≡ Some line
    → IsRow (map row_of lines) (row_of line) × (is_missing s line ≡ true)
one_missing s [] line e = absurd (cc)
one_missing s (first ∷ lines) line e = by (is_missing s first) refl e (one_missing s lines line)
  where
    by : (b : Bool) → is_missing s first ≡ b → cond b (Some first) (find (is_missing s) lines) ≡ Some line
        → (find (is_missing s) lines ≡ Some line → IsRow (map row_of lines) (row_of line) × (is_missing s line ≡ true))
        → ((row_of line ≡ row_of first) ⊎ IsRow (map row_of lines) (row_of line)) × (is_missing s line ≡ true)
    by true m e more = let same : first ≡ line = cc in (inl (sym (ap row_of same)), sym (ap (is_missing s) same) ∙ m)
    by false m e more = let rest = more e in (inr rest.0, rest.1)

-- so no row lacks a line, or one does
all_stand : (kind : KindWord) (lines : List Line) (s : Settings) → Stands kind s lines → missing_line kind s ≡ None
    → AllStand (rows_of kind) lines
all_stand kind lines s stands none row (inl e) required =
    let named = stands.named in
    (named.0, named.1, named.2, subst (λ (r : Row). Says (rows_of kind) named.0 r named.1) (sym e) named.3)
all_stand kind lines s stands none row (inr there) required =
    let set = all_set s (lines_in kind) none row there required in
    let some : IsSet kind lines set.0 (Some set.1) = subst (IsSet kind lines set.0) set.3 (stands.set set.0) in
    (some.0, some.1, some.2, subst (λ (r : Row). Says (rows_of kind) some.0 r some.1) (sym set.2) some.3)

one_lacks : (kind : KindWord) (lines : List Line) (s : Settings) (line : BoxLine) → Stands kind s lines
    → missing_line kind s ≡ Some line → Lacks (rows_of kind) lines
one_lacks kind lines s line stands e =
    let missing = one_missing s (lines_in kind) line e in
    let both = both_true (is_none (usual_of line)) (is_none (setting s line)) missing.1 in
    let unset : IsSet kind lines line None =
    subst (IsSet kind lines line) (none_set (setting s line) both.1) (stands.set line) in
    record { row = row_of line; listed = inr missing.0; required = both.0; absent = unset }

-- what the reader comes to
abbrev pub Reads : List ℕ → List Line → ℕ → Result BoxConf LineFault → Type 0
Reads digest lines count (Ok conf) = (kind : KindWord) × AreOfKind kind digest lines conf
Reads digest lines count (Err fault) =
    ((lines ≡ []) × (fault.line ≡ count + 1) × (fault.cause ≡ MissingLine))
    ⊎ NamesNone lines fault.line fault.cause
    ⊎ (kind : KindWord) × Names lines kind × FirstOfFile (rows_of kind) lines count fault.line fault.cause

reads_lines : (digest : List ℕ) (lines : List Line) (count n : ℕ) → Rising n lines
    → Reads digest lines count (box_of_lines digest count lines)
reads_lines digest [] count n rising = inl (refl, refl, refl)
reads_lines digest (first ∷ rest) count n rising =
    by_first (first_line (words_of first.1)) (first_says (words_of first.1))
  where
    all : List Line
    all = first ∷ rest

    by_missing : (kind : KindWord) (s : Settings) (o : Option BoxLine) → Names all kind → Stands kind s all
        → AreLines (rows_of kind) all → missing_line kind s ≡ o
        → Reads digest all count (whole_box digest count kind (named_in all) s o)
    by_missing kind s None names stands rows none =
        let of_line : (line : BoxLine)
        → (values : List ℕ) × HasValues kind all line values × (values_from values ≡ values_set s line) =
        λ line. values_of_line kind all s line stands in
        let same : (λ line. values_from (of_line line).0) ≡ values_set s = λ i line. (of_line line).2 i in (
          kind,
          record {
            names = names;
            rows = rows;
            whole = all_stand kind all s stands none;
            values = λ line. (of_line line).0;
            set = λ line. (of_line line).1;
            says = ap (λ (values : BoxLine → Values). conf_from digest kind values (named_in all)) (sym same);
          },
        )
    by_missing kind s (Some line) names stands rows e =
        inr (inr (kind, names, inr (rows, one_lacks kind all s line stands e, refl, refl)))

    by_lines : (kind : KindWord) (r : Result Settings LineFault) → Names all kind → Comes kind all r
        → Reads digest all count (conf_of digest count kind (named_in all) r)
    by_lines kind (Ok s) names comes = by_missing kind s (missing_line kind s) names comes.0 comes.1 refl
    by_lines kind (Err fault) names comes = inr (inr (kind, names, inl comes))

    by_first : (r : Result KindWord LineCause) → FirstSays (words_of first.1) r
        → Reads digest all count (and_kind digest count first.0 (named_in all) r rest)
    by_first (Ok kind) names = by_lines kind (set_lines kind no_settings rest) names
        (along kind all rest (first ∷ []) no_settings (first.0 + 1) (begins kind first rest n names.0 rising names.1))
    by_first (Err cause) fault = inr (inl (refl, fault))

pub reads_text : (text : List ℕ)
    → Reads (sha256 text) (counted_lines text) (length (lines_of text)) (described_box text)
reads_text text = reads_lines (sha256 text) (counted_lines text) (length (lines_of text)) 1
    (counted_rise 1 (λ line. words_count (words_of line.1)) (lines_of text))
