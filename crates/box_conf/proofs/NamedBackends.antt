-- A balancer's file names a backend.
use Rattle.std.proofs.Common.{◌≡◌, ℕ, ◌≤◌, inl, inr, List, [], ◌∷◌, length, length-append, refl, sym, ap, ◌∙◌}
use Rattle.std.proofs.Common.{subst, arith, Option, Some, None, true, false, Bool, cond, Ok}
use Rattle.std.specs.Prelude.{Result}
use Rattle.std.specs.Str.{bytes_eq}
use Rattle.std.specs.Str.Lines.{lines as lines_of}
use Rattle.plain_text.specs.declared.fault.LineCause.{LineCause}
use Rattle.plain_text.specs.declared.fault.LineFault.{LineFault}
use Rattle.plain_text.specs.Grammar.{Row, LineSays, Has as HasLine, Says, row_named, row_fault, values_in}
use Rattle.plain_text.specs.Lines.{words_of, counted_lines}
use Rattle.plain_text.proofs.Rows.{says_no_fault}
use Rattle.balancer_box.specs.declared.settings.Backend.{Backend as Server}
use Rattle.box_conf.specs.declared.kind.BoxConf.{BoxConf}
use Rattle.box_conf.specs.declared.kind.BoxKind.{BoxKind}
use Rattle.box_conf.specs.declared.kind.BoxKind.TheVariants as box
use Rattle.box_conf.specs.declared.kind.KindWord.{KindWord}
use Rattle.box_conf.specs.declared.kind.KindWord.TheVariants as kind
use Rattle.box_conf.specs.declared.names.Name.{Name}
use Rattle.box_conf.specs.declared.names.Name.TheVariants as name
use Rattle.box_conf.specs.declared.names.Named.{Named}
use Rattle.box_conf.specs.declared.settings.Settings.{Settings}
use Rattle.box_conf.specs.declared.table.BoxLine.TheVariants.{Backend}
use Rattle.box_conf.specs.declared.table.Values.{Values}
use Rattle.sha2.specs.Sha256.{sha256}
use Rattle.box_conf.specs.Names.{backend_from, backend_named, name_of, and_name, with_name, names_after, named_in}
use Rattle.box_conf.specs.Names.{no_names}
use Rattle.box_conf.specs.BoxFile.{AreOfKind}
use Rattle.box_conf.specs.Kinds.{conf_from, rows_of, IsBalancer}
use Rattle.box_conf.specs.Reading.{described_box}
use Rattle.box_conf.specs.Settings.{once, values_set}
use Rattle.box_conf.specs.Table.{row_of, values_from, word_of}
use Rattle.box_conf.proofs.WholeFile.{Reads, reads_text}

-- a line begins with its row's word
pub begins_so : (word : List ℕ) (rows : List Row) (row : Row) → row_named word rows ≡ Some row
    → bytes_eq word row.word ≡ true
begins_so word [] row e = absurd (cc)
begins_so word (first ∷ rows) row e = by (bytes_eq word first.word) refl e (begins_so word rows row)
  where
    by : (b : Bool) → bytes_eq word first.word ≡ b → cond b (Some first) (row_named word rows) ≡ Some row
        → (row_named word rows ≡ Some row → bytes_eq word row.word ≡ true) → bytes_eq word row.word ≡ true
    by true q e rest = let same : first ≡ row = cc in ap (λ (r : Row). bytes_eq word r.word) (sym same) ∙ q
    by false q e rest = rest e

-- a line of the row names a backend
names_one : (rows : List Row) (words : List (List ℕ)) (values : List ℕ) → LineSays rows words (row_of Backend) values
    → (b : Server) × (name_of words ≡ Some (name.Backend b))
names_one rows [] values says = absurd says
names_one rows (word ∷ words) values says =
    let word_is : bytes_eq word (word_of Backend) ≡ true = begins_so word rows (row_of Backend) says.0 in
    let fault : row_fault (row_named word rows) words ≡ None =
    says_no_fault rows (word ∷ words) (row_of Backend) values says in
    let none : row_fault (Some (row_of Backend)) words ≡ None =
    subst (λ (o : Option Row). row_fault o words ≡ None) says.0 fault in
    let set : Values = values_from (values_in (row_of Backend).places words) in
    let read : once (row_fault (Some (row_of Backend)) words) false set ≡ Ok set =
    ap (λ (o : Option LineCause). once o false set) none in
    (backend_from set, rw word_is (ap backend_named read))

longer : (names : Named) (lines : List (ℕ × List ℕ))
    → length names.backends ≤ length (names_after names lines).backends
longer names [] = omega arith
longer names (line ∷ lines) = by (name_of (words_of line.1)) (λ more. longer more lines)
  where
    by : (o : Option Name)
        → ((more : Named) → length more.backends ≤ length (names_after more lines).backends)
        → length names.backends ≤ length (names_after (and_name names o) lines).backends
    by None rest = rest names
    by (Some (name.Static s)) rest = rest (with_name names (name.Static s))
    by (Some (name.Backend b)) rest =
        let a = rest (with_name names (name.Backend b)) in omega (arith, length-append names.backends (b ∷ []))

pub named_there : (rows : List Row) (names : Named) (lines : List (ℕ × List ℕ)) (x : ℕ × List ℕ) (values : List ℕ)
    → HasLine lines x → Says rows x (row_of Backend) values → 1 ≤ length (names_after names lines).backends
named_there rows names [] x values there says = absurd there
named_there rows names (line ∷ lines) x values (inr there) says =
    named_there rows (and_name names (name_of (words_of line.1))) lines x values there says
named_there rows names (line ∷ lines) x values (inl e) says =
    let one = names_one rows (words_of x.1) values says in
    let here : name_of (words_of line.1) ≡ Some (name.Backend one.0) =
    ap (λ (l : ℕ × List ℕ). name_of (words_of l.1)) (sym e) ∙ one.1 in
    let more = longer (with_name names (name.Backend one.0)) lines in
    let long : 1 ≤ length (names_after (with_name names (name.Backend one.0)) lines).backends =
    omega (arith, more, length-append names.backends (one.0 ∷ [])) in
    subst (λ (o : Option Name). 1 ≤ length (names_after (and_name names o) lines).backends) (sym here) long

-- the kind of box that a file's box is
abbrev IsOneOf : BoxKind → Type 0
IsOneOf (box.Count b) = ⊥
IsOneOf (box.Monitor b) = ⊥
IsOneOf (box.Nat b) = ⊥
IsOneOf (box.Balancer b) = Unit {0}

balancer_names : (digest : List ℕ) (lines : List (ℕ × List ℕ)) (k : KindWord) (conf : BoxConf)
    → AreOfKind k digest lines conf
    → IsOneOf conf.kind → 1 ≤ length (named_in lines).backends
balancer_names digest lines kind.Count conf x is = absurd (subst (λ (c : BoxConf). IsOneOf c.kind) x.says is)
balancer_names digest lines kind.Monitor conf x is = absurd (subst (λ (c : BoxConf). IsOneOf c.kind) x.says is)
balancer_names digest lines kind.Nat conf x is = absurd (subst (λ (c : BoxConf). IsOneOf c.kind) x.says is)
balancer_names digest lines kind.Balancer conf x is =
    let line = x.whole (row_of Backend) (inr (inr (inr (inr (inr (inr (inl refl))))))) refl in
    named_there (rows_of kind.Balancer) no_names lines line.0 line.1 line.2 line.3

pub some_named : (text : List ℕ) (k : KindWord) (s : Settings)
    → described_box text ≡ Ok (conf_from (sha256 text) k (values_set s) (named_in (counted_lines text))) → IsBalancer k
    → 1 ≤ length (named_in (counted_lines text)).backends
some_named text kind.Count s e is = absurd is
some_named text kind.Monitor s e is = absurd is
some_named text kind.Nat s e is = absurd is
some_named text kind.Balancer s e is =
    let conf : BoxConf = conf_from (sha256 text) kind.Balancer (values_set s) (named_in (counted_lines text)) in
    let x =
    subst (λ (r : Result BoxConf LineFault). Reads (sha256 text) (counted_lines text) (length (lines_of text)) r) e
    (reads_text text) in
    balancer_names (sha256 text) (counted_lines text) x.0 conf x.1 tt
