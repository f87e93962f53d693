-- What the lines name that may stand again: each line `static` and `backend` names one, in their order; there are at
-- most 64 of each, and the static ports are of the inside network.
use Rattle.std.proofs.Common.{◌≡◌, ℕ, ◌+◌, ◌<◌, ◌≤◌, ◌⊎◌, inl, inr, List, [], ◌∷◌, ◌++◌, refl, sym, ap}
use Rattle.std.proofs.Common.{◌∙◌, subst, arith, Option, Some, None, true, false, Bool, cond, Ok, Err, length}
use Rattle.std.proofs.Common.{append-nil}
use Rattle.std.proofs.Common.{append_assoc, length-append}
use Rattle.std.specs.Prelude.{Result, ◌&&◌, not, nat_lt, codes, option_map}
use Rattle.std.specs.List.{AllByRecursion}
use Rattle.std.specs.Str.{bytes_eq}
use Rattle.std.proofs.lemmas.Bool.Decides.{nat_tests}
use Rattle.std.proofs.lemmas.Slice.Eq.{bytes_eq-Decides}
use Rattle.plain_text.specs.declared.fault.LineCause.{LineCause}
use Rattle.plain_text.specs.declared.fault.LineCause.TheVariants.{OutOfRange, Twice}
use Rattle.plain_text.specs.Grammar.{Row, Has as HasLine, Says, LineSays, PlacesSay, row_named}
use Rattle.plain_text.specs.Grammar.{index_in}
use Rattle.plain_text.specs.Lines.{words_of}
use Rattle.balancer_box.specs.declared.settings.Backend.{Backend as Server}
use Rattle.nat_box.specs.declared.settings.StaticPort.{StaticPort}
use Rattle.box_conf.specs.declared.names.Name.{Name}
use Rattle.box_conf.specs.declared.names.Name.TheVariants as name
use Rattle.box_conf.specs.declared.names.Named.{Named}
use Rattle.box_conf.specs.declared.table.BoxLine.{BoxLine}
use Rattle.box_conf.specs.declared.table.BoxLine.TheVariants.{Static, Backend, Inside}
use Rattle.box_conf.specs.declared.table.Values.{Values}
use Rattle.box_conf.specs.Names.{and_name, backend_from, backend_named, count_of, has_name, inside_in, inside_of}
use Rattle.box_conf.specs.Names.{is_of_network, is_stray, name_cause, name_of, names_after, names_fault, or_inside}
use Rattle.box_conf.specs.Names.{or_later}
use Rattle.box_conf.specs.Names.{protocol_of, static_from, static_named, values_read, with_name}
use Rattle.box_conf.specs.Settings.{line_read}
use Rattle.box_conf.specs.Stated.{Line, EachSays, IsBackend, IsProtocol, IsStatic}
use Rattle.box_conf.specs.Table.{row_of, values_from, word_of}
use Rattle.box_conf.proofs.NamedBackends.{begins_so}
use Rattle.box_conf.proofs.Wordings.{read_so}

abbrev Words : Type 0
Words = List (List ℕ)

-- Each line of a word, in order

-- a word is not another
other_word : (word known : List ℕ) (words rest : Words) → bytes_eq word known ≡ false → word ∷ words ≡ known ∷ rest → ⊥
other_word word known words rest e same =
    let one : word ≡ known = cc in
    let is : bytes_eq word known ≡ true = (bytes_eq-Decides word known).1 one in
    absurd (cc)

-- each line says a row of the table
abbrev pub AreSaid : List Row → List Line → Type 0
AreSaid rows [] = Unit {0}
AreSaid rows (line ∷ lines) = ((row : Row) × (values : List ℕ) × Says rows line row values) × AreSaid rows lines

pub are_said : (rows : List Row) (lines : List Line)
    → ((line : Line) → HasLine lines line → (row : Row) × (values : List ℕ) × Says rows line row values)
    → AreSaid rows lines
are_said rows [] all = tt
are_said rows (line ∷ lines) all = (all line (inl refl), are_said rows lines (λ other there. all other (inr there)))

module _ (rows : List Row) (line : BoxLine) (listed : row_named (word_of line) rows ≡ Some (row_of line)) where
  -- a line that begins with the word of a row says that row
  pub says_row : (word : List ℕ) (words : Words) (row : Row) (values : List ℕ) → bytes_eq word (word_of line) ≡ true
      → LineSays rows (word ∷ words) row values → LineSays rows (word ∷ words) (row_of line) values
  says_row word words row values e says =
      let same : word ≡ word_of line = (bytes_eq-Decides word (word_of line)).0 e in
      let there : row_named word rows ≡ Some (row_of line) = ap (λ (w : List ℕ). row_named w rows) same ∙ listed in
      let both : Some row ≡ Some (row_of line) = sym says.0 ∙ there in
      let is : row ≡ row_of line = cc in
      subst (λ (r : Row). LineSays rows (word ∷ words) r values) is says

  module _ {A : Type 0} (sense : Words → A → Type 0) (pick : Option Name → List A) where
    -- what these lines name of this kind
    abbrev pub all_of : List Line → List A
    all_of [] = []
    all_of (x ∷ lines) = pick (name_of (words_of x.1)) ++ all_of lines

    abbrev Names : Words → List ℕ → Type 0
    Names words values = (x : A) × sense words x × (pick (name_of (word_of line ∷ words)) ≡ x ∷ [])

    module _ (here : (words : Words) (values : List ℕ) → LineSays rows (word_of line ∷ words) (row_of line) values
        → Names words values)
        (elsewhere : (word : List ℕ) (words : Words) → bytes_eq word (word_of line) ≡ false
        → pick (name_of (word ∷ words)) ≡ []) where
      pub each_says : (lines : List Line) → AreSaid rows lines → EachSays (word_of line) sense lines (all_of lines)
      each_says [] are = tt
      each_says (x ∷ lines) are = by_words (words_of x.1) refl are.0.2 (each_says lines are.1)
        where
          Wanted : List A → Type 0
          Wanted front = EachSays (word_of line) sense (x ∷ lines) (front ++ all_of lines)

          by_words : (ws : Words) → words_of x.1 ≡ ws → LineSays rows ws are.0.0 are.0.1
              → EachSays (word_of line) sense lines (all_of lines) → Wanted (pick (name_of (words_of x.1)))
          by_words [] e says more = absurd says
          by_words (word ∷ words) e says more = by (bytes_eq word (word_of line)) refl
            where
              by : (b : Bool) → bytes_eq word (word_of line) ≡ b → Wanted (pick (name_of (words_of x.1)))
              by true is =
                  let same : word ≡ word_of line = (bytes_eq-Decides word (word_of line)).0 is in
                  let says_it = says_row word words are.0.0 are.0.1 is says in
                  let at : LineSays rows (word_of line ∷ words) (row_of line) are.0.1 =
                  subst (λ (w : List ℕ). LineSays rows (w ∷ words) (row_of line) are.0.1) same says_it in
                  let one = here words are.0.1 at in
                  let words_are : words_of x.1 ≡ word_of line ∷ words = e ∙ ap (λ (w : List ℕ). w ∷ words) same in
                  let front : pick (name_of (words_of x.1)) ≡ one.0 ∷ [] =
                  ap (λ (ws : Words). pick (name_of ws)) words_are ∙ one.2 in
                  subst Wanted (sym front)
                  (inl (words, one.0, all_of lines, words_are, refl, one.1, more))
              by false is =
                  let front : pick (name_of (words_of x.1)) ≡ [] =
                  ap (λ (ws : Words). pick (name_of ws)) e ∙ elsewhere word words is in
                  subst Wanted (sym front) (
                  inr (
                    λ rest begins. other_word word (word_of line) words rest is (sym e ∙ begins),
                    more,
                  )
                  )

-- Static ports

abbrev pub static_of : Option Name → List StaticPort
static_of None = []
static_of (Some (name.Backend b)) = []
static_of (Some (name.Static s)) = s ∷ []

abbrev pub server_of : Option Name → List Server
server_of None = []
server_of (Some (name.Backend b)) = b ∷ []
server_of (Some (name.Static s)) = []

is_protocol : (word : List ℕ) (n : ℕ) → index_in word (codes "tcp" ∷ codes "udp" ∷ []) ≡ Some n
    → IsProtocol word (protocol_of n)
is_protocol word n e = by (bytes_eq word (codes "tcp")) (bytes_eq word (codes "udp")) refl refl e
  where
    by : (a b : Bool) → bytes_eq word (codes "tcp") ≡ a → bytes_eq word (codes "udp") ≡ b
        → cond a (Some 0) (option_map (λ n. n + 1) (cond b (Some 0) None)) ≡ Some n → IsProtocol word (protocol_of n)
    by true b p q e =
        let is : 0 ≡ n = cc in
        subst (λ (n : ℕ). IsProtocol word (protocol_of n)) is
        (inl ((bytes_eq-Decides word (codes "tcp")).0 p, refl))
    by false true p q e =
        let is : 1 ≡ n = cc in
        subst (λ (n : ℕ). IsProtocol word (protocol_of n)) is
        (inr ((bytes_eq-Decides word (codes "udp")).0 q, refl))
    by false false p q e = absurd (cc)

static_says : (words : Words) (values : List ℕ) → PlacesSay (row_of Static).places words values
    → IsStatic words (static_from (values_from values))
static_says [] values s = absurd s
static_says (a ∷ words) [] s = absurd s
static_says (a ∷ []) (n ∷ values) s = absurd s.2
static_says (a ∷ b ∷ words) (n ∷ []) s = absurd s.2
static_says (a ∷ b ∷ []) (n ∷ m ∷ values) s = absurd s.2.2
static_says (a ∷ b ∷ c ∷ words) (n ∷ m ∷ []) s = absurd s.2.2
static_says (a ∷ b ∷ c ∷ []) (n ∷ m ∷ k ∷ values) s = absurd s.2.2.2
static_says (a ∷ b ∷ c ∷ d ∷ words) (n ∷ m ∷ k ∷ []) s = absurd s.2.2.2
static_says (a ∷ b ∷ c ∷ d ∷ e ∷ words) (n ∷ m ∷ k ∷ l ∷ values) s = absurd s.2.2.2.2
static_says (a ∷ b ∷ c ∷ d ∷ []) (n ∷ m ∷ k ∷ l ∷ j ∷ values) s = absurd s.2.2.2.2
static_says (a ∷ b ∷ c ∷ d ∷ []) (n ∷ m ∷ k ∷ l ∷ []) s = record {
  word = a;
  dotted = b;
  digits = c;
  others = d;
  are = refl;
  protocol = is_protocol a n s.0;
  address = s.2.0;
  port = s.2.2.0;
  outside = s.2.2.2.0;
}

pub static_here : (rows : List Row) (words : Words) (values : List ℕ)
    → LineSays rows (word_of Static ∷ words) (row_of Static) values
    → (s : StaticPort) × IsStatic words s × (static_of (name_of (word_of Static ∷ words)) ≡ s ∷ [])
static_here rows words values says = (
  static_from (values_from values),
  static_says words values says.1,
  ap (λ (r : Result Values LineCause). static_of (static_named r))
      (read_so rows Static (word_of Static) words values says),
)

pub static_elsewhere : (word : List ℕ) (words : Words) → bytes_eq word (word_of Static) ≡ false
    → static_of (name_of (word ∷ words)) ≡ []
static_elsewhere word words e = by (bytes_eq word (word_of Backend)) (bytes_eq word (word_of Static)) e
    (line_read Backend false words)
  where
    by : (a b : Bool) → b ≡ false → (r : Result Values LineCause)
        → static_of (cond a (backend_named r) (cond b (static_named (line_read Static false words)) None)) ≡ []
    by true b e (Ok values) = refl
    by true b e (Err cause) = refl
    by false true e r = absurd (cc)
    by false false e r = refl

-- Backends

server_says : (words : Words) (values : List ℕ) → PlacesSay (row_of Backend).places words values
    → IsBackend words (backend_from (values_from values))
server_says [] values s = absurd s
server_says (a ∷ words) [] s = absurd s
server_says (a ∷ []) (n ∷ values) s = absurd s.2
server_says (a ∷ b ∷ words) (n ∷ []) s = absurd s.2
server_says (a ∷ b ∷ c ∷ words) (n ∷ m ∷ values) s = absurd s.2.2
server_says (a ∷ b ∷ []) (n ∷ m ∷ k ∷ values) s = absurd s.2.2
server_says (a ∷ b ∷ []) (n ∷ m ∷ []) s =
    record { dotted = a; digits = b; are = refl; address = s.0; port = s.2.0 }

pub server_here : (rows : List Row) (words : Words) (values : List ℕ)
    → LineSays rows (word_of Backend ∷ words) (row_of Backend) values
    → (b : Server) × IsBackend words b × (server_of (name_of (word_of Backend ∷ words)) ≡ b ∷ [])
server_here rows words values says = (
  backend_from (values_from values),
  server_says words values says.1,
  ap (λ (r : Result Values LineCause). server_of (backend_named r))
      (read_so rows Backend (word_of Backend) words values says),
)

pub server_elsewhere : (word : List ℕ) (words : Words) → bytes_eq word (word_of Backend) ≡ false
    → server_of (name_of (word ∷ words)) ≡ []
server_elsewhere word words e = by (bytes_eq word (word_of Backend)) (bytes_eq word (word_of Static)) e
    (line_read Static false words)
  where
    by : (a b : Bool) → a ≡ false → (r : Result Values LineCause)
        → server_of (cond a (backend_named (line_read Backend false words)) (cond b (static_named r) None)) ≡ []
    by true b e r = absurd (cc)
    by false true e (Ok values) = refl
    by false true e (Err cause) = refl
    by false false e r = refl

-- What lines name is what is named line by line

module _ (rows : List Row) (listed : row_named (word_of Static) rows ≡ Some (row_of Static)) where
  abbrev pub statics : List Line → List StaticPort
  statics lines = all_of rows Static listed IsStatic static_of lines

  pub statics_after : (names : Named) (lines : List Line)
      → (names_after names lines).statics ≡ names.statics ++ statics lines
  statics_after names [] = sym (append-nil names.statics)
  statics_after names (line ∷ lines) = by (name_of (words_of line.1)) (λ more. statics_after more lines)
    where
      by : (o : Option Name)
          → ((more : Named) → (names_after more lines).statics ≡ more.statics ++ statics lines)
          → (names_after (and_name names o) lines).statics ≡ names.statics ++ (static_of o ++ statics lines)
      by None rest = rest names
      by (Some (name.Backend b)) rest = rest (with_name names (name.Backend b))
      by (Some (name.Static s)) rest =
          rest (with_name names (name.Static s)) ∙ append_assoc names.statics (s ∷ []) (statics lines)

module _ (rows : List Row) (listed : row_named (word_of Backend) rows ≡ Some (row_of Backend)) where
  abbrev pub servers : List Line → List Server
  servers lines = all_of rows Backend listed IsBackend server_of lines

  pub servers_after : (names : Named) (lines : List Line)
      → (names_after names lines).backends ≡ names.backends ++ servers lines
  servers_after names [] = sym (append-nil names.backends)
  servers_after names (line ∷ lines) = by (name_of (words_of line.1)) (λ more. servers_after more lines)
    where
      by : (o : Option Name)
          → ((more : Named) → (names_after more lines).backends ≡ more.backends ++ servers lines)
          → (names_after (and_name names o) lines).backends ≡ names.backends ++ (server_of o ++ servers lines)
      by None rest = rest names
      by (Some (name.Static s)) rest = rest (with_name names (name.Static s))
      by (Some (name.Backend b)) rest =
          rest (with_name names (name.Backend b)) ∙ append_assoc names.backends (b ∷ []) (servers lines)

-- What a name that is let in is

pub cause_none : (network : Option Values) (names : Named) (n : Name) → name_cause network names (Some n) ≡ None
    → (count_of names n < 64) × (is_stray network n ≡ false)
cause_none network names n e = by (nat_lt (count_of names n) 64) (is_stray network n) (has_name names n) refl refl e
  where
    by : (a b c : Bool) → nat_lt (count_of names n) 64 ≡ a → is_stray network n ≡ b
        → cond (a && not b) (cond c (Some Twice) None) (Some OutOfRange) ≡ None
        → (count_of names n < 64) × (is_stray network n ≡ false)
    by true false c p q e = (grind (arith, nat_tests), q)
    by true true c p q e = absurd (cc)
    by false b c p q e = absurd (cc)

-- what is true of the names so far, and stays true of each that is let in, is true of all
pub names_keep : (P : Named → Type 0) (network : Option Values)
    → ((names : Named) (n : Name) → P names → name_cause network names (Some n) ≡ None → P (with_name names n))
    → (names : Named) (lines : List Line) → names_fault network names lines ≡ None → P names
    → P (names_after names lines)
names_keep P network step names [] e p = p
names_keep P network step names (line ∷ lines) e p =
    by (name_of (words_of line.1)) e (λ more. names_keep P network step more lines)
  where
    by : (o : Option Name)
        → or_later line.0 (name_cause network names o) (names_fault network (and_name names o) lines) ≡ None
        → ((more : Named) → names_fault network more lines ≡ None → P more → P (names_after more lines))
        → P (names_after (and_name names o) lines)
    by None e rest = rest names e p
    by (Some n) e rest = by_cause (name_cause network names (Some n)) refl e
      where
        by_cause : (c : Option LineCause) → name_cause network names (Some n) ≡ c
            → or_later line.0 c (names_fault network (with_name names n) lines) ≡ None
            → P (names_after (with_name names n) lines)
        by_cause None q e = rest (with_name names n) e (step names n p q)
        by_cause (Some cause) q e = absurd (cc)

pub few_servers : (network : Option Values) (names : Named) (lines : List Line) → names_fault network names lines ≡ None
    → length names.backends ≤ 64 → length (names_after names lines).backends ≤ 64
few_servers network names lines e few =
    names_keep (λ names. length names.backends ≤ 64) network step names lines e few
  where
    step : (names : Named) (n : Name) → length names.backends ≤ 64 → name_cause network names (Some n) ≡ None
        → length (with_name names n).backends ≤ 64
    step names (name.Static s) few e = few
    step names (name.Backend b) few e =
        let room = (cause_none network names (name.Backend b) e).0 in
        omega (arith, room, length-append names.backends (b ∷ []))

-- Static ports of the inside network

abbrev pub AreOf : Values → List StaticPort → Type 0
AreOf network statics = AllByRecursion (λ (s : StaticPort). is_of_network network s.address ≡ true) statics

one_more_of : (network : Values) (statics : List StaticPort) (s : StaticPort) → AreOf network statics
    → is_of_network network s.address ≡ true → AreOf network (statics ++ s ∷ [])
one_more_of network [] s all one = (one, tt)
one_more_of network (first ∷ statics) s all one = (all.0, one_more_of network statics s all.1 one)

pub statics_inside : (network : Values) (names : Named) (lines : List Line)
    → names_fault (Some network) names lines ≡ None → AreOf network names.statics
    → AreOf network (names_after names lines).statics
statics_inside network names lines e all =
    names_keep (λ names. AreOf network names.statics) (Some network) step names lines e all
  where
    inside : (b : Bool) → not b ≡ false → b ≡ true
    inside true e = refl
    inside false e = absurd (cc)

    step : (names : Named) (n : Name) → AreOf network names.statics → name_cause (Some network) names (Some n) ≡ None
        → AreOf network (with_name names n).statics
    step names (name.Backend b) all e = all
    step names (name.Static s) all e =
        one_more_of network names.statics s all
        (inside (is_of_network network s.address) (cause_none (Some network) names (name.Static s) e).1)

-- The inside network is that of the line that says it

pub record FindsInside (rows : List Row) (lines : List Line) : Type 0 where
  pub line : Line
  pub values : List ℕ
  pub there : HasLine lines line
  pub says : Says rows line (row_of Inside) values
  pub found : inside_in lines ≡ Some (values_from values)

module _ (rows : List Row) (listed : row_named (word_of Inside) rows ≡ Some (row_of Inside)) where
  pub finds_inside : (lines : List Line) (x : Line) (values : List ℕ) → AreSaid rows lines → HasLine lines x
      → Says rows x (row_of Inside) values → FindsInside rows lines
  finds_inside [] x values are there says = absurd there
  finds_inside (line ∷ lines) x values are there says =
      by_words (words_of line.1) refl are.0.2 (λ there. finds_inside lines x values are.1 there says)
    where
      later : inside_of (words_of line.1) ≡ None → FindsInside rows lines → FindsInside rows (line ∷ lines)
      later none rest =
          record {
            line = rest.line;
            values = rest.values;
            there = inr rest.there;
            says = rest.says;
            found = ap (λ (o : Option Values). or_inside o (inside_in lines)) none ∙ rest.found;
          }

      by_words : (ws : Words) → words_of line.1 ≡ ws → LineSays rows ws are.0.0 are.0.1
          → (HasLine lines x → FindsInside rows lines) → FindsInside rows (line ∷ lines)
      by_words [] e said more = absurd said
      by_words (word ∷ words) e said more = by (bytes_eq word (word_of Inside)) refl
        where
          by : (b : Bool) → bytes_eq word (word_of Inside) ≡ b → FindsInside rows (line ∷ lines)
          by true is =
              let says_it = says_row rows Inside listed word words are.0.0 are.0.1 is said in
              let read = read_so rows Inside word words are.0.1 says_it in
              let here : inside_of (words_of line.1) ≡ Some (values_from are.0.1) =
              ap inside_of e
              ∙ (ap (λ (b : Bool). cond b (values_read (line_read Inside false words)) None) is
              ∙ ap values_read read) in
              record {
                line = line;
                values = are.0.1;
                there = inl refl;
                says = subst (λ (ws : Words). LineSays rows ws (row_of Inside) are.0.1) (sym e) says_it;
                found = ap (λ (o : Option Values). or_inside o (inside_in lines)) here;
              }
          by false is =
              let none : inside_of (words_of line.1) ≡ None =
              ap inside_of e ∙ ap (λ (b : Bool). cond b (values_read (line_read Inside false words)) None) is in
              later none (more (not_here there))
            where
              not_here : (x ≡ line) ⊎ HasLine lines x → HasLine lines x
              not_here (inr there) = there
              not_here (inl same) =
                  let words_are : words_of x.1 ≡ word ∷ words = ap (λ (l : Line). words_of l.1) same ∙ e in
                  let says_it : LineSays rows (word ∷ words) (row_of Inside) values =
                  subst (λ (ws : Words). LineSays rows ws (row_of Inside) values) words_are says in
                  let so = begins_so word rows (row_of Inside) says_it.0 in
                  absurd (cc)
