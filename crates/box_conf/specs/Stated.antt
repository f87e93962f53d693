-- What each line of a box file says of the box, in the words of the line. The law `lines_are_settings` says it of each
-- file, and nothing here knows of tables of lines or of how a file is read.
use Rattle.std.specs.Prelude.{◌≡◌, ◌⊎◌, ℕ, Bool, true, false, List, [], ◌∷◌, codes, is_some, Option, Some, None}
use Rattle.std.specs.List.{AllByRecursion}
use Rattle.plain_text.specs.Grammar.{Has}
use Rattle.plain_text.specs.Lines.{address_of, number_of, words_of}
use Rattle.box_program.specs.Count.{count_meaning}
use Rattle.tagged_box.specs.Tagged.{tagged_meaning}
use Rattle.monitor_box.specs.Monitor.{monitor_meaning}
use Rattle.nat_box.specs.declared.settings.NatSettings.{NatSettings}
use Rattle.nat_box.specs.declared.settings.StaticPort.{StaticPort}
use Rattle.nat_box.specs.Nat as nat
use Rattle.balancer_box.specs.declared.settings.Backend.{Backend}
use Rattle.balancer_box.specs.declared.settings.BalancerSettings.{BalancerSettings}
use Rattle.balancer_box.specs.Balancer as balancer
use Rattle.box_conf.specs.declared.kind.BoxConf.{BoxConf}
use Rattle.box_conf.specs.declared.kind.BoxKind.{BoxKind}
use Rattle.box_conf.specs.declared.kind.BoxKind.TheVariants.{Count, Monitor, Nat, Balancer}
use Rattle.box_conf.specs.Kinds.{meaning_of}

abbrev pub Line : Type 0
Line = ℕ × List ℕ

-- a line that counts has these words
abbrev pub Stands : List Line → List (List ℕ) → Type 0
Stands lines words = (line : Line) × Has lines line × (words_of line.1 ≡ words)

-- no line that counts begins with this word
abbrev pub IsAbsent : List Line → List ℕ → Type 0
IsAbsent lines word = (words : List (List ℕ)) → Stands lines (word ∷ words) → ⊥

-- Of lines with one number

-- a line of this word has this number
abbrev pub SaysNumber : List Line → List ℕ → ℕ → Type 0
SaysNumber lines word n = (digits : List ℕ) × Stands lines (word ∷ digits ∷ []) × (number_of digits ≡ Some n)

-- so it is, or there is no such line, and the number is the usual one
abbrev pub SaysOr : List Line → List ℕ → ℕ → ℕ → Type 0
SaysOr lines word usual n = SaysNumber lines word n ⊎ (IsAbsent lines word × (n ≡ usual))

-- so it is where there is a number, and else there is no such line
abbrev pub SaysSome : List Line → List ℕ → Option ℕ → Type 0
SaysSome lines word (Some n) = SaysNumber lines word n
SaysSome lines word None = IsAbsent lines word

-- Of other lines

-- true where a line of this word has these words, and false where there is none
abbrev pub SaysFlag : List Line → List ℕ → List (List ℕ) → Bool → Type 0
SaysFlag lines word words true = Stands lines (word ∷ words)
SaysFlag lines word words false = IsAbsent lines word

-- a line of this word has this address, and this number
abbrev pub SaysEnd : List Line → List ℕ → ℕ → ℕ → Type 0
SaysEnd lines word address n =
    (dotted digits : List ℕ) × Stands lines (word ∷ dotted ∷ digits ∷ []) × (address_of dotted ≡ Some address)
    × (number_of digits ≡ Some n)

abbrev pub SaysAddress : List Line → List ℕ → ℕ → Type 0
SaysAddress lines word address =
    (dotted : List ℕ) × Stands lines (word ∷ dotted ∷ []) × (address_of dotted ≡ Some address)

-- a line of this word has these two numbers, or there is none, and they are the usual ones
abbrev pub SaysRange : List Line → List ℕ → ℕ → ℕ → ℕ → ℕ → Type 0
SaysRange lines word least greatest low high =
    ((from to : List ℕ) × Stands lines (word ∷ from ∷ to ∷ []) × (number_of from ≡ Some low)
    × (number_of to ≡ Some high))
    ⊎ (IsAbsent lines word × (low ≡ least) × (high ≡ greatest))

-- a line of this word says the first of these, and further lines the others; or it is of another word
abbrev pub SaysNext : {A : Type 0} → List ℕ → (List (List ℕ) → A → Type 0) → Line → (List A → Type 0) → List A
    → Type 0
SaysNext {A} word says line further xs = Here ⊎ Elsewhere
  where
    Here : Type 0
    Here = (words : List (List ℕ)) × (x : A) × (others : List A) × (words_of line.1 ≡ word ∷ words) × (xs ≡ x ∷ others)
        × says words x × further others

    Elsewhere : Type 0
    Elsewhere = ((words : List (List ℕ)) → words_of line.1 ≡ word ∷ words → ⊥) × further xs

-- The lines of this word say these, line by line, and there are no others: what the words after it say is given.
abbrev pub EachSays : {A : Type 0} → List ℕ → (List (List ℕ) → A → Type 0) → List Line → List A → Type 0
EachSays word says [] [] = Unit {0}
EachSays word says [] (x ∷ xs) = ⊥
EachSays word says (line ∷ lines) xs = SaysNext word says line (λ others. EachSays word says lines others) xs

-- the number of a protocol, by its word
abbrev pub IsProtocol : List ℕ → ℕ → Type 0
IsProtocol word number =
    ((word ≡ codes "tcp") × (number ≡ 6)) ⊎ ((word ≡ codes "udp") × (number ≡ 17))

-- PROTOCOL ADDRESS PORT OUTSIDE_PORT
pub record IsStatic (words : List (List ℕ)) (s : StaticPort) : Type 0 where
  pub word : List ℕ
  pub dotted : List ℕ
  pub digits : List ℕ
  pub others : List ℕ
  pub are : words ≡ word ∷ dotted ∷ digits ∷ others ∷ []
  pub protocol : IsProtocol word s.protocol
  pub address : address_of dotted ≡ Some s.address
  pub port : number_of digits ≡ Some s.port
  pub outside : number_of others ≡ Some s.outside

-- ADDRESS PORT
pub record IsBackend (words : List (List ℕ)) (b : Backend) : Type 0 where
  pub dotted : List ℕ
  pub digits : List ℕ
  pub are : words ≡ dotted ∷ digits ∷ []
  pub address : address_of dotted ≡ Some b.address
  pub port : number_of digits ≡ Some b.port

-- Of whole files

-- the first line is `box` and this word
abbrev pub Begins : List Line → List ℕ → Type 0
Begins [] word = ⊥
Begins (first ∷ lines) word = words_of first.1 ≡ codes "box" ∷ word ∷ []

pub record OfNat (lines : List Line) (s : NatSettings) : Type 0 where
  pub shards : SaysOr lines (codes "shards") 16 s.shards
  pub inside : SaysEnd lines (codes "inside") s.inside s.length
  pub outside : SaysAddress lines (codes "outside") s.outside
  pub ports : SaysRange lines (codes "ports") 1024 65535 s.low s.high
  pub closing : SaysSome lines (codes "closing") s.closing
  pub limit : SaysSome lines (codes "limit") s.limit
  pub errors : SaysFlag lines (codes "icmp") (codes "errors" ∷ []) s.errors
  pub statics : EachSays (codes "static") IsStatic lines s.statics

pub record OfBalancer (lines : List Line) (s : BalancerSettings) : Type 0 where
  pub shards : SaysOr lines (codes "shards") 16 s.shards
  pub end : SaysEnd lines (codes "virtual") s.address s.port
  pub backends : EachSays (codes "backend") IsBackend lines s.backends
  pub closing : SaysSome lines (codes "closing") s.closing

abbrev pub SaysTags : List Line → Bool → Type 0
SaysTags lines tags = SaysFlag lines (codes "vlan") [] tags

-- the box of each kind: by its first line, whether it looks through tags, and its settings
abbrev pub OfKind : List Line → BoxKind → Type 0
OfKind lines (Count box) = Begins lines (codes "count") × SaysTags lines box.tags
OfKind lines (Monitor box) =
    Begins lines (codes "monitor") × SaysTags lines box.tags
    × SaysOr lines (codes "shards") 16 box.program.shards
OfKind lines (Nat box) = Begins lines (codes "nat") × SaysTags lines box.tags × OfNat lines box.program.settings
OfKind lines (Balancer box) =
    Begins lines (codes "balancer") × SaysTags lines box.tags × OfBalancer lines box.program.settings

-- Each line is a setting of the box: nothing that stands is left out, and nothing holds that does not stand.
pub record AreSettings (lines : List Line) (conf : BoxConf) : Type 0 where
  pub threads : SaysOr lines (codes "threads") 1 conf.threads
  pub seed : SaysOr lines (codes "seed") 0 conf.seed
  pub tags : SaysTags lines conf.tags
  pub seal : SaysFlag lines (codes "seal") [] (is_some conf.seal)
  pub kind : OfKind lines conf.kind

-- The box means what its kind does with these settings, and looks through a tag where it says so.
abbrev pub MeansSettings : BoxKind → Type 0
MeansSettings (Count box) = (meaning_of (Count box)).meaning ≡ tagged_meaning box.tags count_meaning
MeansSettings (Monitor box) =
    (meaning_of (Monitor box)).meaning ≡ tagged_meaning box.tags (monitor_meaning box.program.shards)
MeansSettings (Nat box) =
    (meaning_of (Nat box)).meaning ≡ tagged_meaning box.tags (nat.nat_meaning box.program.settings)
MeansSettings (Balancer box) =
    (meaning_of (Balancer box)).meaning ≡ tagged_meaning box.tags (balancer.balancer_meaning box.program.settings)

-- the static ports of a NAT are of its inside network
abbrev pub AreInside : BoxKind → Type 0
AreInside (Count box) = Unit {0}
AreInside (Monitor box) = Unit {0}
AreInside (Nat box) =
    AllByRecursion (λ (s : StaticPort). nat.is_inside box.program.settings s.address ≡ true)
    box.program.settings.statics
AreInside (Balancer box) = Unit {0}
