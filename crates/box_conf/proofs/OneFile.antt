-- A text is the file of one box at most, or has one first fault.
use Rattle.std.proofs.Common.{◌≡◌, ℕ, ◌<◌, ◌≤◌, Bool, true, false, Option, arith, inl, inr, List, [], ◌∷◌, length, refl}
use Rattle.std.proofs.Common.{sym, ap, ◌∙◌, subst, Some, None, Ok, Err}
use Rattle.std.specs.Prelude.{Result, IfOk, IfErr, IfSome, slice_get, nat_lt, ◌==◌, if◌then◌else◌}
use Rattle.std.proofs.lemmas.Bool.Decides.{nat_tests}
use Rattle.std.specs.Str.Lines.{lines as lines_of}
use Rattle.plain_text.specs.declared.fault.LineCause.{LineCause}
use Rattle.plain_text.specs.declared.fault.LineFault.{LineFault}
use Rattle.plain_text.specs.Grammar.{AllStand, AreLines, FirstOfFile}
use Rattle.plain_text.specs.Lines.{words_of, words_count, counted_lines}
use Rattle.plain_text.proofs.Rows.{says_no_fault, one_reading}
use Rattle.plain_text.proofs.Faults.{Rising, counted_rise, not_in_whole, one_of_file, one_setting}
use Rattle.box_conf.specs.declared.kind.BoxConf.{BoxConf}
use Rattle.box_conf.specs.declared.kind.KindWord.{KindWord}
use Rattle.box_conf.specs.declared.kind.KindWord.TheVariants as kind
use Rattle.box_conf.specs.declared.names.Named.{Named}
use Rattle.box_conf.specs.declared.table.BoxLine.TheVariants.{Threads, Seed, Shards, Inside, Outside, Ports, Closing}
use Rattle.box_conf.specs.declared.table.BoxLine.TheVariants.{Vlan, Limit, Icmp, Static, Virtual, Backend, Seal}
use Rattle.box_conf.specs.declared.table.BoxLine.{BoxLine}
use Rattle.sha2.specs.Sha256.{sha256}
use Rattle.box_conf.specs.Names.{named_in, fault_of_names}
use Rattle.box_conf.specs.BoxFile.{AreOfKind, IsDescribed, IsBoxFile, Names, NamesNone, LeavesTable, NamesInVain}
use Rattle.box_conf.specs.BoxFile.{FirstFault, Has as HasValues}
use Rattle.box_conf.specs.Reading.{box_of, described_box, or_names, fault_at}
use Rattle.box_conf.specs.Settings.{usual_or_none}
use Rattle.box_conf.specs.Kinds.{box_row, conf_from, kinds, rows_of}
use Rattle.box_conf.specs.Table.{again_of, row_of, values_from}
use Rattle.box_conf.proofs.WholeFile.{Reads, reads_text}

abbrev Line : Type 0
Line = ℕ × List ℕ

rising : (text : List ℕ) → Rising 1 (counted_lines text)
rising text = counted_rise 1 (λ line. words_count (words_of line.1)) (lines_of text)

-- the first line names one kind
one_kind : (lines : List Line) (a b : KindWord) → Names lines a → Names lines b → a ≡ b
one_kind [] a b x y = absurd x
one_kind (first ∷ lines) a b x y =
    let values : x.0 ∷ [] ≡ y.0 ∷ [] =
    (one_reading (box_row ∷ []) (words_of first.1) box_row box_row (x.0 ∷ []) (y.0 ∷ []) x.1 y.1).1 in
    let index : x.0 ≡ y.0 = cc in
    let same : Some a ≡ Some b = sym x.2 ∙ ap (slice_get kinds) index ∙ y.2 in
    cc

-- a line that names a kind is there, and has no fault
no_empty : (lines : List Line) (kind : KindWord) → Names lines kind → lines ≡ [] → ⊥
no_empty [] kind x e = x
no_empty (first ∷ lines) kind x e = absurd (cc)

no_fault : (lines : List Line) (kind : KindWord) (number : ℕ) (cause : LineCause) → Names lines kind
    → NamesNone lines number cause → ⊥
no_fault [] kind number cause x y = x
no_fault (first ∷ lines) kind number cause x y =
    let none = says_no_fault (box_row ∷ []) (words_of first.1) box_row (x.0 ∷ []) x.1 in
    let bad : None ≡ Some cause = sym none ∙ y.1 in
    absurd (cc)

pub one_list : (text : List ℕ) (kind : KindWord) → AreLines (rows_of kind) (counted_lines text) → (line : BoxLine)
    (ns ms : List ℕ) → again_of line ≡ false → HasValues kind (counted_lines text) line ns
    → HasValues kind (counted_lines text) line ms → ns ≡ ms
one_list text kind rows line ns ms once x y = one_setting (rows_of kind) (counted_lines text) 1 (rising text) rows
    (row_of line) (usual_or_none line) ns ms once x y

-- the values of the lines that may stand once; those of the others do not matter
abbrev of_once : (BoxLine → List ℕ) → (BoxLine → List ℕ) → BoxLine → List ℕ
of_once values others Threads = values Threads
of_once values others Seed = values Seed
of_once values others Shards = values Shards
of_once values others Vlan = values Vlan
of_once values others Inside = values Inside
of_once values others Outside = values Outside
of_once values others Ports = values Ports
of_once values others Closing = values Closing
of_once values others Limit = values Limit
of_once values others Icmp = values Icmp
of_once values others Static = others Static
of_once values others Virtual = values Virtual
of_once values others Backend = others Backend
of_once values others Seal = values Seal

abbrev conf_by : List ℕ → KindWord → (BoxLine → List ℕ) → Named → BoxConf
conf_by digest kind values names = conf_from digest kind (λ line. values_from (values line)) names

conf_of_once : (digest : List ℕ) (kind : KindWord) (values others : BoxLine → List ℕ) (names : Named)
    → conf_by digest kind values names ≡ conf_by digest kind (of_once values others) names
conf_of_once digest kind.Count values others names = refl
conf_of_once digest kind.Monitor values others names = refl
conf_of_once digest kind.Nat values others names = refl
conf_of_once digest kind.Balancer values others names = refl

of_one_kind : (text : List ℕ) (kind : KindWord) (a b : BoxConf) → AreOfKind kind (sha256 text) (counted_lines text) a
    → AreOfKind kind (sha256 text) (counted_lines text) b → a ≡ b
of_one_kind text kind a b x y =
    let values : of_once x.values y.values ≡ y.values = λ i line. same line i in
    let names : Named = named_in (counted_lines text) in
    x.says ∙ conf_of_once (sha256 text) kind x.values y.values names
    ∙ ap (λ (values : BoxLine → List ℕ). conf_by (sha256 text) kind values names) values ∙ sym y.says
  where
    one : (line : BoxLine) → again_of line ≡ false → x.values line ≡ y.values line
    one line once = one_list text kind x.rows line (x.values line) (y.values line) once (x.set line) (y.set line)

    same : (line : BoxLine) → of_once x.values y.values line ≡ y.values line
    same Threads = one Threads refl
    same Seed = one Seed refl
    same Shards = one Shards refl
    same Vlan = one Vlan refl
    same Inside = one Inside refl
    same Outside = one Outside refl
    same Ports = one Ports refl
    same Closing = one Closing refl
    same Limit = one Limit refl
    same Icmp = one Icmp refl
    same Static = refl
    same Virtual = one Virtual refl
    same Backend = refl
    same Seal = one Seal refl

one_described : (text : List ℕ) (a b : BoxConf) → IsDescribed text a → IsDescribed text b → a ≡ b
one_described text a b x y =
    let kind = one_kind (counted_lines text) x.0 y.0 x.1.names y.1.names in
    of_one_kind text y.0 a b (subst (λ (k : KindWord). AreOfKind k (sha256 text) (counted_lines text) a) kind x.1) y.1

described_or_leaves : (text : List ℕ) (conf : BoxConf) (number : ℕ) (cause : LineCause) → IsDescribed text conf
    → LeavesTable text number cause → ⊥
described_or_leaves text conf number cause x (inl none) = no_empty (counted_lines text) x.0 x.1.names none.0
described_or_leaves text conf number cause x (inr (inl first)) =
    no_fault (counted_lines text) x.0 number cause x.1.names first
described_or_leaves text conf number cause x (inr (inr later)) =
    let kind = one_kind (counted_lines text) x.0 later.0 x.1.names later.1 in
    let rows : AreLines (rows_of later.0) (counted_lines text) =
    subst (λ (k : KindWord). AreLines (rows_of k) (counted_lines text)) kind x.1.rows in
    let whole : AllStand (rows_of later.0) (counted_lines text) =
    subst (λ (k : KindWord). AllStand (rows_of k) (counted_lines text)) kind x.1.whole in
    not_in_whole (rows_of later.0) (counted_lines text) (length (lines_of text)) number cause rows whole later.2

one_naming : (lines : List Line) (x y : ℕ) (a b : LineCause) → NamesNone lines x a → NamesNone lines y b
    → (x ≡ y) × (a ≡ b)
one_naming [] x y a b f g = absurd f
one_naming (first ∷ lines) x y a b f g = let same : Some a ≡ Some b = sym f.1 ∙ g.1 in (f.0 ∙ sym g.0, cc)

none_named : (lines : List Line) (number : ℕ) (cause : LineCause) → lines ≡ [] → NamesNone lines number cause → ⊥
none_named [] number cause e f = f
none_named (first ∷ lines) number cause e f = absurd (cc)

one_leaving : (text : List ℕ) (x y : ℕ) (a b : LineCause) → LeavesTable text x a → LeavesTable text y b
    → (x ≡ y) × (a ≡ b)
one_leaving text x y a b (inl f) (inl g) = (f.1 ∙ sym g.1, f.2 ∙ sym g.2)
one_leaving text x y a b (inl f) (inr (inl g)) = absurd (none_named (counted_lines text) y b f.0 g)
one_leaving text x y a b (inl f) (inr (inr g)) = absurd (no_empty (counted_lines text) g.0 g.1 f.0)
one_leaving text x y a b (inr (inl f)) (inl g) = absurd (none_named (counted_lines text) x a g.0 f)
one_leaving text x y a b (inr (inl f)) (inr (inl g)) = one_naming (counted_lines text) x y a b f g
one_leaving text x y a b (inr (inl f)) (inr (inr g)) = absurd (no_fault (counted_lines text) g.0 x a g.1 f)
one_leaving text x y a b (inr (inr f)) (inl g) = absurd (no_empty (counted_lines text) f.0 f.1 g.0)
one_leaving text x y a b (inr (inr f)) (inr (inl g)) = absurd (no_fault (counted_lines text) f.0 y b f.1 g)
one_leaving text x y a b (inr (inr f)) (inr (inr g)) =
    let kind = one_kind (counted_lines text) f.0 g.0 f.1 g.1 in
    let first : FirstOfFile (rows_of g.0) (counted_lines text) (length (lines_of text)) x a =
    subst (λ (k : KindWord). FirstOfFile (rows_of k) (counted_lines text) (length (lines_of text)) x a) kind f.2 in
    one_of_file (rows_of g.0) (counted_lines text) 1 (length (lines_of text)) (rising text) x y a b first g.2

-- Names come in alongside the table

one_in_vain : (text : List ℕ) (x y : ℕ) (a b : LineCause) → NamesInVain text x a → NamesInVain text y b
    → (x ≡ y) × (a ≡ b)
one_in_vain text x y a b f g =
    let same : Some (fault_at x a) ≡ Some (fault_at y b) = sym f ∙ g in
    let fault : fault_at x a ≡ fault_at y b = cc in
    (ap (λ (h : LineFault). h.line) fault, ap (λ (h : LineFault). h.cause) fault)

pub one_box : (text : List ℕ) (a b : BoxConf) → IsBoxFile text a → IsBoxFile text b → a ≡ b
one_box text a b x y = one_described text a b x.0 y.0

pub box_or_fault : (text : List ℕ) (conf : BoxConf) (number : ℕ) (cause : LineCause) → IsBoxFile text conf
    → FirstFault text number cause → ⊥
box_or_fault text conf number cause x (inl of_table) = described_or_leaves text conf number cause x.0 of_table.0
box_or_fault text conf number cause x (inr of_names) =
    let bad : None ≡ Some (fault_at number cause) = sym x.1 ∙ of_names.0 in absurd (cc)

pub one_fault : (text : List ℕ) (x y : ℕ) (a b : LineCause) → FirstFault text x a → FirstFault text y b
    → (x ≡ y) × (a ≡ b)
one_fault text x y a b (inl f) (inl g) = one_leaving text x y a b f.0 g.0
one_fault text x y a b (inr f) (inr g) = one_in_vain text x y a b f.0 g.0
one_fault text x y a b (inl f) (inr g) = let low = f.1 y b g.0 in let high = g.1 x a f.0 in absurd (omega arith)
one_fault text x y a b (inr f) (inl g) = let low = g.1 x a f.0 in let high = f.1 y b g.0 in absurd (omega arith)

-- So the reader's answer is the one that the relation has

abbrev Answers : List ℕ → Result BoxConf LineFault → Type 0
Answers text (Ok conf) = IsBoxFile text conf
Answers text (Err fault) = FirstFault text fault.line fault.cause

answers : (text : List ℕ) → Answers text (box_of text)
answers text = by (described_box text) (fault_of_names (counted_lines text)) refl (reads_text text)
  where
    by_both : (a b : LineFault) (t : Bool) → nat_lt b.line a.line ≡ t
        → fault_of_names (counted_lines text) ≡ Some b → LeavesTable text a.line a.cause
        → Answers text (Err (if t then b else a))
    by_both a b true q e f =
        inr (
          e,
          λ other why g.
              let same = one_leaving text a.line other a.cause why f g in
              let low : b.line < a.line = grind (arith, nat_tests) in omega (arith, same.0),
        )
    by_both a b false q e f =
        inl (
          f,
          λ other why g.
              let same = one_in_vain text b.line other b.cause why e g in
              let low : a.line ≤ b.line = grind (arith, nat_tests) in omega (arith, same.0),
        )

    by : (r : Result BoxConf LineFault) (o : Option LineFault) → fault_of_names (counted_lines text) ≡ o
        → Reads (sha256 text) (counted_lines text) (length (lines_of text)) r → Answers text (or_names r o)
    by (Ok conf) None e x = (x, e)
    by (Ok conf) (Some fault) e x = inr (e, λ other why f. absurd (described_or_leaves text conf other why x f))
    by (Err fault) None e x =
        inl (x, λ other why f. let bad : None ≡ Some (fault_at other why) = sym e ∙ f in absurd (cc))
    by (Err a) (Some b) e x = by_both a b (nat_lt b.line a.line) refl e x

pub box_is_read : (text : List ℕ) (conf : BoxConf) → IsBoxFile text conf → box_of text ≡ Ok conf
box_is_read text conf x = by_answer (box_of text) (answers text)
  where
    by_answer : (r : Result BoxConf LineFault) → Answers text r → r ≡ Ok conf
    by_answer (Ok other) y = ap Ok (one_box text other conf y x)
    by_answer (Err fault) y = absurd (box_or_fault text conf fault.line fault.cause x y)

pub fault_is_read : (text : List ℕ) (fault : LineFault) → FirstFault text fault.line fault.cause
    → box_of text ≡ Err fault
fault_is_read text fault x = by_answer (box_of text) (answers text)
  where
    of_parts : (a b : LineFault) → (a.line ≡ b.line) × (a.cause ≡ b.cause) → a ≡ b
    of_parts a b e = ap (λ (n : ℕ). fault_at n a.cause) e.0 ∙ ap (λ (c : LineCause). fault_at b.line c) e.1

    by_answer : (r : Result BoxConf LineFault) → Answers text r → r ≡ Err fault
    by_answer (Ok conf) y = absurd (box_or_fault text conf fault.line fault.cause y x)
    by_answer (Err other) y =
        ap Err (of_parts other fault (one_fault text other.line fault.line other.cause fault.cause y x))

pub read_is_box : (text : List ℕ) (conf : BoxConf) → box_of text ≡ Ok conf → IsBoxFile text conf
read_is_box text conf e = subst (λ (r : Result BoxConf LineFault). Answers text r) e (answers text)

pub read_is_fault : (text : List ℕ) (fault : LineFault) → box_of text ≡ Err fault
    → FirstFault text fault.line fault.cause
read_is_fault text fault e = subst (λ (r : Result BoxConf LineFault). Answers text r) e (answers text)

pub says_box : (text : List ℕ) (r : Result BoxConf LineFault) → r ≡ box_of text → IfOk r (IsBoxFile text)
says_box text (Ok conf) e = read_is_box text conf (sym e)
says_box text (Err fault) e = tt

pub says_fault : (text : List ℕ) (r : Result BoxConf LineFault) → r ≡ box_of text
    → IfErr r (λ fault. FirstFault text fault.line fault.cause)
says_fault text (Ok conf) e = tt
says_fault text (Err fault) e = read_is_fault text fault (sym e)

-- what is sealed is the digest of the text
by_line : (digest : List ℕ) (b : Bool) → IfSome (if b then Some digest else None) (λ (d : List ℕ). d ≡ digest)
by_line digest true = refl
by_line digest false = tt

pub seal_is : (text : List ℕ) (conf : BoxConf) → IsBoxFile text conf
    → IfSome conf.seal (λ (d : List ℕ). d ≡ sha256 text)
seal_is text conf x =
    subst (λ (c : BoxConf). IfSome c.seal (λ (d : List ℕ). d ≡ sha256 text)) (sym x.0.1.says)
    (by_line (sha256 text) ((values_from (x.0.1.values Seal)).first == 0))

pub says_seal : (text : List ℕ) (r : Result BoxConf LineFault) → r ≡ box_of text
    → IfOk r (λ conf. IfSome conf.seal (λ (d : List ℕ). d ≡ sha256 text))
says_seal text (Ok conf) e = seal_is text conf (read_is_box text conf (sym e))
says_seal text (Err fault) e = tt
