-- What a line sets is in the range of the line.
use Rattle.std.proofs.Common.{◌≡◌, ◌≢◌, ℕ, ◌-◌, ◌^◌, ◌<◌, ◌≤◌, ◌⊎◌, inl, inr, arith, List, [], ◌∷◌, refl, sym, subst}
use Rattle.std.proofs.Common.{Option, Some, true, false, Bool, Ok, Err}
use Rattle.std.specs.Prelude.{Result, IfOk, IfSome, ◌&&◌, nat_le}
use Rattle.std.proofs.lemmas.Bool.Decides.{nat_tests}
use Rattle.plain_text.specs.declared.fault.LineCause.{LineCause}
use Rattle.plain_text.specs.Grammar.{Place, Number, Address, is_within, PlacesSay, LineSays}
use Rattle.plain_text.proofs.Addresses.{address_small}
use Rattle.box_conf.specs.declared.kind.KindWord.{KindWord}
use Rattle.box_conf.specs.declared.settings.Settings.{Settings}
use Rattle.box_conf.specs.declared.table.BoxLine.{BoxLine}
use Rattle.box_conf.specs.declared.table.BoxLine.TheVariants.{Threads, Seed, Shards, Inside, Outside, Ports, Closing}
use Rattle.box_conf.specs.declared.table.BoxLine.TheVariants.{Vlan, Limit, Icmp, Static, Virtual, Backend, Seal}
use Rattle.box_conf.specs.declared.table.Values.{Values}
use Rattle.box_conf.specs.Kinds.{rows_of}
use Rattle.box_conf.specs.Reading.{set_line}
use Rattle.box_conf.specs.Settings.{setting, with_setting, line_read, AreInRange, IsWithin}
use Rattle.box_conf.specs.Table.{row_of, values_from}
use Rattle.box_conf.proofs.OneLine.{StepSays, step_says, ValuesSay, values_say}
use Rattle.box_conf.proofs.WholeFile.{set_or}

pub within : (low high n : ℕ) → is_within (Number low high) n ≡ true → (low ≤ n) × (n ≤ high)
within low high n e = by (nat_le low n) (nat_le n high) refl refl e
  where
    by : (a b : Bool) → nat_le low n ≡ a → nat_le n high ≡ b → (a && b) ≡ true → (low ≤ n) × (n ≤ high)
    by true true p q e = (grind (arith, nat_tests), grind (arith, nat_tests))
    by true false p q e = absurd (cc)
    by false b p q e = absurd (cc)

pub in_order : (low high : ℕ) → nat_le low high ≡ true → low ≤ high
in_order low high e = grind (arith, nat_tests)

one_within : (low high : ℕ) (words : List (List ℕ)) (values : List ℕ) → PlacesSay (Number low high ∷ []) words values
    → (low ≤ (values_from values).first) × ((values_from values).first ≤ high)
one_within low high [] values s = absurd s
one_within low high (word ∷ words) [] s = absurd s
one_within low high (word ∷ words) (n ∷ values) s = within low high n s.1

two_within : (low high : ℕ) (words : List (List ℕ)) (values : List ℕ)
    → PlacesSay (Number low high ∷ Number low high ∷ []) words values
    → (low ≤ (values_from values).first) × ((values_from values).second ≤ high)
two_within low high [] values s = absurd s
two_within low high (word ∷ words) [] s = absurd s
two_within low high (word ∷ []) (n ∷ values) s = absurd s.2
two_within low high (word ∷ next ∷ words) (n ∷ []) s = absurd s.2
two_within low high (word ∷ next ∷ words) (n ∷ m ∷ values) s = ((within low high n s.1).0, (within low high m s.2.1).1)

address_within : (places : List Place) (words : List (List ℕ)) (values : List ℕ)
    → PlacesSay (Address ∷ places) words values → (values_from values).first < 2 ^ 32
address_within places [] values s = absurd s
address_within places (word ∷ words) [] s = absurd s
address_within places (word ∷ words) (n ∷ values) s = address_small word n s.0

length_within : (low high : ℕ) (words : List (List ℕ)) (values : List ℕ)
    → PlacesSay (Address ∷ Number low high ∷ []) words values
    → (low ≤ (values_from values).second) × ((values_from values).second ≤ high)
length_within low high [] values s = absurd s
length_within low high (word ∷ words) [] s = absurd s
length_within low high (word ∷ []) (n ∷ values) s = absurd s.2
length_within low high (word ∷ next ∷ words) (n ∷ []) s = absurd s.2
length_within low high (word ∷ next ∷ words) (n ∷ m ∷ values) s = within low high m s.2.1

-- an address and a port
end_within : (words : List (List ℕ)) (values : List ℕ) → PlacesSay (Address ∷ Number 0 65535 ∷ []) words values
    → ((values_from values).first < 2 ^ 32) × ((values_from values).second ≤ 65535)
end_within words values s =
    (address_within (Number 0 65535 ∷ []) words values s, (length_within 0 65535 words values s).1)

-- a protocol, an address and two ports
static_within : (words : List (List ℕ)) (values : List ℕ) → PlacesSay (row_of Static).places words values
    → IsWithin Static (values_from values)
static_within [] values s = absurd s
static_within (word ∷ words) [] s = absurd s
static_within (a ∷ []) (n ∷ values) s = absurd s.2
static_within (a ∷ b ∷ words) (n ∷ []) s = absurd s.2
static_within (a ∷ b ∷ []) (n ∷ m ∷ values) s = absurd s.2.2
static_within (a ∷ b ∷ c ∷ words) (n ∷ m ∷ []) s = absurd s.2.2
static_within (a ∷ b ∷ c ∷ []) (n ∷ m ∷ k ∷ values) s = absurd s.2.2.2
static_within (a ∷ b ∷ c ∷ d ∷ words) (n ∷ m ∷ k ∷ []) s = absurd s.2.2.2
static_within (a ∷ b ∷ c ∷ d ∷ words) (n ∷ m ∷ k ∷ l ∷ values) s =
    (address_small b m s.2.0, (within 1 65535 k s.2.2.1).1, (within 1 65535 l s.2.2.2.1).1)

says_within : (line : BoxLine) (words : List (List ℕ)) (values : List ℕ) → PlacesSay (row_of line).places words values
    → (row_of line).fits values ≡ true → IsWithin line (values_from values)
says_within Threads words values s f = one_within 1 16 words values s
says_within Seed words values s f = tt
says_within Shards words values s f = one_within 1 64 words values s
says_within Vlan words values s f = tt
says_within Inside words values s f =
    let second = length_within 1 32 words values s in
    (address_within (Number 1 32 ∷ []) words values s, second.0, second.1)
says_within Outside words values s f = address_within [] words values s
says_within Ports words values s f =
    let ends = two_within 1 65535 words values s in
    (ends.0, in_order (values_from values).first (values_from values).second f, ends.1)
says_within Closing words values s f =
    let ends = one_within 1 (2 ^ 32 - 1) words values s in omega (arith, ends.1)
says_within Limit words values s f = (one_within 1 65535 words values s).1
says_within Icmp words values s f = tt
says_within Static words values s f = static_within words values s
says_within Virtual words values s f = end_within words values s
says_within Backend words values s f = end_within words values s
says_within Seal words values s f = tt

-- so are the values that a line's words give
pub read_within : (line : BoxLine) (had : Bool) (words : List (List ℕ)) (r : Result Values LineCause)
    → r ≡ line_read line had words → IfOk r (IsWithin line)
read_within line had words r e = subst (λ (r : Result Values LineCause). IfOk r (IsWithin line)) (sym e)
    (by (line_read line had words) (values_say line had words))
  where
    by : (r : Result Values LineCause) → ValuesSay line had words r → IfOk r (IsWithin line)
    by (Err cause) says = tt
    by (Ok set) says = subst (IsWithin line) (sym says.3) (says_within line words says.0 says.1 says.2)

line_within : (rows : KindWord) (line : BoxLine) (words : List (List ℕ)) (values : List ℕ)
    → LineSays (rows_of rows) words (row_of line) values → IsWithin line (values_from values)
line_within kind line [] values s = absurd s
line_within kind line (word ∷ words) values s = says_within line words values s.1 s.2

-- so a step of the reader leaves all settings in their ranges
pub stays_in_range : (kind : KindWord) (s : Settings) (words : List (List ℕ)) (r : Result Settings LineCause)
    → AreInRange s → r ≡ set_line kind s words → IfOk r AreInRange
stays_in_range kind s words r are e =
    subst (λ (r : Result Settings LineCause). IfOk r AreInRange) (sym e)
    (by (set_line kind s words) (step_says kind s words))
  where
    by : (r : Result Settings LineCause) → StepSays kind s words r → IfOk r AreInRange
    by (Err cause) says = tt
    by (Ok next) says = subst AreInRange (sym says.4) in_range
      where
        set : Values
        set = values_from says.1

        here : (other : BoxLine)
            → (says.0 ≢ other × (setting (with_setting s says.0 set) other ≡ setting s other))
            ⊎ ((says.0 ≡ other) × (setting (with_setting s says.0 set) other ≡ Some set))
            → IfSome (setting (with_setting s says.0 set) other) (IsWithin other)
        here other (inl differs) = subst (λ (o : Option Values). IfSome o (IsWithin other)) (sym differs.1) (are other)
        here other (inr same) =
            subst (λ (o : Option Values). IfSome o (IsWithin other)) (sym same.1)
            (subst (λ (line : BoxLine). IsWithin line set) same.0 (line_within kind says.0 words says.1 says.2))

        in_range : AreInRange (with_setting s says.0 set)
        in_range other = here other (set_or s says.0 other set)
