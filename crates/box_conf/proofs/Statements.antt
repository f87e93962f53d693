-- Each line of a box file is a setting of the box, kind by kind.
use Rattle.std.proofs.Common.{◌≡◌, ℕ, zero, suc, ◌+◌, ◌<◌, ◌≤◌, ◌-◌, ◌^◌, ◌⊎◌, inl, inr, List, [], ◌∷◌, refl, sym, ap}
use Rattle.std.proofs.Common.{◌∙◌, subst, arith, Option, Some, None, true, false, Bool, cond, length}
use Rattle.std.specs.Prelude.{◌/◌, ◌==◌, codes, is_some, if◌then◌else◌, map, max, min, option_map, slice_get, take}
use Rattle.std.specs.List.{AllByRecursion}
use Rattle.std.specs.Str.{bytes_eq}
use Rattle.std.proofs.lemmas.Slice.Eq.{bytes_eq-Decides}
use Rattle.plain_text.specs.Grammar.{PlacesSay, LineSays, index_in}
use Rattle.plain_text.specs.Lines.{words_of, counted_lines}
use Rattle.plain_text.proofs.Addresses.{address_small}
use Rattle.balancer_box.specs.declared.settings.Backend.{Backend as Server}
use Rattle.balancer_box.specs.Boxes as balancer_boxes
use Rattle.nat_box.specs.declared.settings.StaticPort.{StaticPort}
use Rattle.box_conf.specs.declared.kind.BoxConf.{BoxConf}
use Rattle.box_conf.specs.declared.kind.BoxKind.{BoxKind}
use Rattle.box_conf.specs.declared.kind.BoxKind.TheVariants as box
use Rattle.box_conf.specs.declared.kind.KindWord.{KindWord}
use Rattle.box_conf.specs.declared.kind.KindWord.TheVariants as kind
use Rattle.box_conf.specs.declared.table.BoxLine.{BoxLine}
use Rattle.box_conf.specs.declared.table.BoxLine.TheVariants.{Threads, Seed, Shards, Inside, Outside, Ports, Closing}
use Rattle.box_conf.specs.declared.table.BoxLine.TheVariants.{Vlan, Limit, Icmp, Static, Virtual, Backend, Seal}
use Rattle.box_conf.specs.declared.table.Values.{Values}
use Rattle.box_conf.specs.BoxFile.{AreOfKind, IsBoxFile, Names}
use Rattle.box_conf.specs.Kinds.{balancer_from, box_row, conf_from, has_tags, kind_word, kinds, nat_from, rows_of}
use Rattle.sha2.specs.Sha256.{sha256}
use Rattle.box_conf.specs.Names.{fault_of_names, inside_in, named_in, names_fault, no_names}
use Rattle.box_conf.specs.Settings.{usual_or_none}
use Rattle.box_conf.specs.Stated.{Line, Begins, AreInside, AreSettings, OfBalancer, OfNat, SaysEnd, SaysOr, SaysRange}
use Rattle.box_conf.specs.Stated.{SaysFlag, SaysTags, Stands, EachSays, IsBackend, IsStatic, MeansSettings}
use Rattle.box_conf.specs.Table.{row_of, values_from, word_of}
use Rattle.box_conf.proofs.Naming.{AreOf, are_said, each_says, few_servers, finds_inside, server_elsewhere}
use Rattle.box_conf.proofs.Naming.{server_here, server_of, servers_after, static_elsewhere, static_here, static_of}
use Rattle.box_conf.proofs.Naming.{statics_after, statics_inside}
use Rattle.box_conf.proofs.NamedBackends.{named_there}
use Rattle.box_conf.proofs.OneFile.{one_list}
use Rattle.box_conf.proofs.Ranges.{in_order}
use Rattle.box_conf.proofs.Wordings.{no_words, one_word, says_address, says_end, says_flag, says_or, says_some}
use Rattle.box_conf.proofs.Wordings.{stands_or, two}

-- The first line

names_word : (all : List KindWord) (word : List ℕ) (n : ℕ) (k : KindWord) → index_in word (map kind_word all) ≡ Some n
    → slice_get all n ≡ Some k → word ≡ kind_word k
names_word [] word n k e f = absurd (cc)
names_word (first ∷ all) word n k e f =
    by (bytes_eq word (kind_word first)) refl (index_in word (map kind_word all)) refl e
    (λ m found at. names_word all word m k found at)
  where
    by : (b : Bool) → bytes_eq word (kind_word first) ≡ b → (o : Option ℕ) → index_in word (map kind_word all) ≡ o
        → cond b (Some 0) (option_map (λ n. n + 1) o) ≡ Some n
        → ((m : ℕ) → index_in word (map kind_word all) ≡ Some m → slice_get all m ≡ Some k → word ≡ kind_word k)
        → word ≡ kind_word k
    by true is o found e more =
        let zero_is : 0 ≡ n = cc in
        let got : Some first ≡ Some k = ap (slice_get (first ∷ all)) zero_is ∙ f in
        let same : first ≡ k = cc in
        (bytes_eq-Decides word (kind_word first)).0 is ∙ ap kind_word same
    by false is None found e more = absurd (cc)
    by false is (Some m) found e more =
        let next : m + 1 ≡ n = cc in
        let at : suc m ≡ n = omega (arith, next) in
        more m found (ap (slice_get (first ∷ all)) at ∙ f)

first_words : (words : List (List ℕ)) (n : ℕ) (k : KindWord) → LineSays (box_row ∷ []) words box_row (n ∷ [])
    → slice_get kinds n ≡ Some k → words ≡ codes "box" ∷ kind_word k ∷ []
first_words [] n k says at = absurd says
first_words (word ∷ []) n k says at = absurd says.1
first_words (word ∷ w ∷ v ∷ words) n k says at = absurd says.1.2
first_words (word ∷ w ∷ []) n k says at = by (bytes_eq word (codes "box")) refl says.0
  where
    by : (b : Bool) → bytes_eq word (codes "box") ≡ b → cond b (Some box_row) None ≡ Some box_row
        → word ∷ w ∷ [] ≡ codes "box" ∷ kind_word k ∷ []
    by true is e =
        let front : word ≡ codes "box" = (bytes_eq-Decides word (codes "box")).0 is in
        let second : w ≡ kind_word k = names_word kinds w n k says.1.0 at in cc
    by false is e = absurd (cc)

begins : (lines : List Line) (k : KindWord) → Names lines k → Begins lines (kind_word k)
begins [] k names = absurd names
begins (first ∷ lines) k names = first_words (words_of first.1) names.0 k names.1 names.2

-- Numbers that stay as they are

stays_between : (low high n : ℕ) → low ≤ n → n ≤ high → max low (min n high) ≡ n
stays_between low high n least greatest = omega arith

-- an address that a line has
stays_small : (lines : List Line) (word : List ℕ) (address n : ℕ) → SaysEnd lines word address n
    → min address (2 ^ 32 - 1) ≡ address
stays_small lines word address n says =
    let small : address < 2 ^ 32 = address_small says.0 address says.3 in omega arith

-- The range of ports

module _ (digest : List ℕ) (lines : List Line) where
  ports : (conf : BoxConf) (x : AreOfKind kind.Nat digest lines conf)
      → SaysRange lines (codes "ports") 1024 65535 (values_from (x.values Ports)).first
      (values_from (x.values Ports)).second
      × (1 ≤ (values_from (x.values Ports)).first)
      × ((values_from (x.values Ports)).first ≤ (values_from (x.values Ports)).second)
      × ((values_from (x.values Ports)).second ≤ 65535)
  ports conf x = by (x.values Ports) (stands_or kind.Nat lines x.rows Ports (x.values Ports) refl (x.set Ports))
    where
      by : (values : List ℕ)
          → ((rest : List (List ℕ))
          × Stands lines (word_of Ports ∷ rest)
          × PlacesSay (row_of Ports).places rest values
          × ((row_of Ports).fits values ≡ true))
          ⊎ ((values ≡ usual_or_none Ports) × ((words : List (List ℕ)) → Stands lines (word_of Ports ∷ words) → ⊥))
          → SaysRange lines (codes "ports") 1024 65535 (values_from values).first (values_from values).second
          × (1 ≤ (values_from values).first)
          × ((values_from values).first ≤ (values_from values).second)
          × ((values_from values).second ≤ 65535)
      by values (inl w) =
          let says = two lines (word_of Ports) 1 65535 w.0 values w.1 w.2 in (
            inl says.0,
            says.1,
            in_order (values_from values).first (values_from values).second w.3,
            says.2,
          )
      by values (inr none) =
          let first : (values_from values).first ≡ 1024 = ap (λ (vs : List ℕ). (values_from vs).first) none.0 in
          let second : (values_from values).second ≡ 65535 = ap (λ (vs : List ℕ). (values_from vs).second) none.0 in (
            inr (none.1, first, second),
            omega (arith, first),
            omega (arith, first, second),
            omega (arith, second),
          )

  -- a box is sealed where its line stands
  some_if : (words : List ℕ) (b : Bool) → SaysFlag lines words [] b
      → SaysFlag lines words [] (is_some (if b then Some digest else None))
  some_if words true says = says
  some_if words false says = says

  -- Of each kind

  abbrev Of : {k : KindWord} {conf : BoxConf} → AreOfKind k digest lines conf → BoxLine → Values
  Of x line = values_from (x.values line)

  count_says : (conf : BoxConf) (x : AreOfKind kind.Count digest lines conf)
      → AreSettings lines (conf_from digest kind.Count (Of x) (named_in lines))
  count_says conf x =
      let tags : SaysTags lines (has_tags (Of x)) =
      says_flag kind.Count lines x.rows Vlan [] (x.values Vlan) refl
      (λ rest stands s. no_words lines (word_of Vlan) rest (x.values Vlan) stands s) refl (x.set Vlan) in
      record {
        threads =
            (says_or kind.Count lines x.rows Threads 1 16 1 (x.values Threads) refl refl refl (omega arith)
            (omega arith) (x.set Threads)).0;
        seed =
            (says_or kind.Count lines x.rows Seed 0 (2 ^ 64 - 1) 0 (x.values Seed) refl refl refl (omega arith)
            (omega arith) (x.set Seed)).0;
        tags = tags;
        seal =
            some_if (codes "seal") ((Of x Seal).first == 0) (says_flag kind.Count lines x.rows Seal [] (x.values Seal)
            refl (λ rest stands s. no_words lines (word_of Seal) rest (x.values Seal) stands s) refl (x.set Seal));
        kind = (begins lines kind.Count x.names, tags);
      }

  monitor_says : (conf : BoxConf) (x : AreOfKind kind.Monitor digest lines conf)
      → AreSettings lines (conf_from digest kind.Monitor (Of x) (named_in lines))
  monitor_says conf x =
      let tags : SaysTags lines (has_tags (Of x)) =
      says_flag kind.Monitor lines x.rows Vlan [] (x.values Vlan) refl
      (λ rest stands s. no_words lines (word_of Vlan) rest (x.values Vlan) stands s) refl (x.set Vlan) in
      let shards = says_or kind.Monitor lines x.rows Shards 1 64 16 (x.values Shards) refl refl refl (omega arith)
      (omega arith) (x.set Shards) in
      record {
        threads =
            (says_or kind.Monitor lines x.rows Threads 1 16 1 (x.values Threads) refl refl refl (omega arith)
            (omega arith) (x.set Threads)).0;
        seed =
            (says_or kind.Monitor lines x.rows Seed 0 (2 ^ 64 - 1) 0 (x.values Seed) refl refl refl (omega arith)
            (omega arith) (x.set Seed)).0;
        tags = tags;
        seal =
            some_if (codes "seal") ((Of x Seal).first == 0) (says_flag kind.Monitor lines x.rows Seal [] (x.values Seal)
            refl (λ rest stands s. no_words lines (word_of Seal) rest (x.values Seal) stands s) refl (x.set Seal));
        kind = (
          begins lines kind.Monitor x.names,
          tags,
          subst (λ (n : ℕ). SaysOr lines (codes "shards") 16 n)
              (sym (stays_between 1 64 (Of x Shards).first shards.1 shards.2)) shards.0,
        );
      }

  nat_of : (conf : BoxConf) (x : AreOfKind kind.Nat digest lines conf)
      → OfNat lines (nat_from (Of x) (named_in lines).statics).settings
  nat_of conf x =
      let shards = says_or kind.Nat lines x.rows Shards 1 64 16 (x.values Shards) refl refl refl (omega arith)
      (omega arith) (x.set Shards) in
      let inside = says_end kind.Nat lines x.rows Inside 1 32 (x.values Inside) x.whole
      (inr (inr (inr (inr (inr (inl refl)))))) refl refl (x.set Inside) in
      let range = ports conf x in
      let said = are_said (rows_of kind.Nat) lines x.rows.described in
      record {
        shards =
            subst (λ (n : ℕ). SaysOr lines (codes "shards") 16 n)
            (sym (stays_between 1 64 (Of x Shards).first shards.1 shards.2)) shards.0;
        inside =
            subst (λ (n : ℕ). SaysEnd lines (codes "inside") n (max 1 (min (Of x Inside).second 32)))
            (sym (stays_small lines (codes "inside") (Of x Inside).first (Of x Inside).second inside.0))
            (subst (λ (n : ℕ). SaysEnd lines (codes "inside") (Of x Inside).first n)
            (sym (stays_between 1 32 (Of x Inside).second inside.1 inside.2)) inside.0);
        outside =
            says_address kind.Nat lines x.rows Outside (x.values Outside) x.whole
            (inr (inr (inr (inr (inr (inr (inl refl))))))) refl refl (x.set Outside);
        ports =
            subst (λ (n : ℕ). SaysRange lines (codes "ports") 1024 65535 n
            (max (max 1 (min (Of x Ports).first 65535)) (min (Of x Ports).second 65535)))
            (sym (low (Of x Ports).first (Of x Ports).second range.1 range.2 range.3))
            (subst (λ (n : ℕ). SaysRange lines (codes "ports") 1024 65535 (Of x Ports).first n)
            (sym (high (Of x Ports).first (Of x Ports).second range.1 range.2 range.3)) range.0);
        closing =
            says_some kind.Nat lines x.rows Closing (2 ^ 32 - 1) (x.values Closing) refl refl refl (x.set Closing);
        limit = says_some kind.Nat lines x.rows Limit 65535 (x.values Limit) refl refl refl (x.set Limit);
        errors =
            says_flag kind.Nat lines x.rows Icmp (codes "errors" ∷ []) (x.values Icmp) refl
            (λ rest stands s. one_word lines (word_of Icmp) (codes "errors") rest (x.values Icmp) stands s) refl
            (x.set Icmp);
        statics =
            subst (EachSays (codes "static") IsStatic lines)
            (sym (statics_after (rows_of kind.Nat) refl no_names lines))
            (each_says (rows_of kind.Nat) Static refl IsStatic static_of (static_here (rows_of kind.Nat))
            static_elsewhere lines said);
      }
    where
      low : (a b : ℕ) → 1 ≤ a → a ≤ b → b ≤ 65535 → max 1 (min a 65535) ≡ a
      low a b least order greatest = omega arith

      high : (a b : ℕ) → 1 ≤ a → a ≤ b → b ≤ 65535 → max (max 1 (min a 65535)) (min b 65535) ≡ b
      high a b least order greatest = omega arith

  -- as many backends as there may be stay as they are
  taken : (n : ℕ) (xs : List Server) → length xs ≤ n → take n xs ≡ xs
  taken zero [] few = refl
  taken (suc n) [] few = refl
  taken zero (x ∷ xs) few = absurd (omega (arith, few))
  taken (suc n) (x ∷ xs) few = ap (λ (l : List Server). x ∷ l) (taken n xs (omega (arith, few)))

  stay : (xs : List Server) → 1 ≤ length xs → length xs ≤ 64 → balancer_boxes.in_number xs ≡ xs
  stay [] some few = absurd (omega (arith, some))
  stay (x ∷ xs) some few = taken 64 (x ∷ xs) few

  balancer_of : (conf : BoxConf) (x : AreOfKind kind.Balancer digest lines conf) → fault_of_names lines ≡ None
      → OfBalancer lines (balancer_from (Of x) (named_in lines).backends).settings
  balancer_of conf x none =
      let shards = says_or kind.Balancer lines x.rows Shards 1 64 16 (x.values Shards) refl refl refl (omega arith)
      (omega arith) (x.set Shards) in
      let said = are_said (rows_of kind.Balancer) lines x.rows.described in
      let one = x.whole (row_of Backend) (inr (inr (inr (inr (inr (inr (inl refl))))))) refl in
      let some : 1 ≤ length (named_in lines).backends =
      named_there (rows_of kind.Balancer) no_names lines one.0 one.1 one.2 one.3 in
      let few : length (named_in lines).backends ≤ 64 =
      few_servers (inside_in lines) no_names lines none (omega arith) in
      record {
        shards =
            subst (λ (n : ℕ). SaysOr lines (codes "shards") 16 n)
            (sym (stays_between 1 64 (Of x Shards).first shards.1 shards.2)) shards.0;
        end =
            (says_end kind.Balancer lines x.rows Virtual 0 65535 (x.values Virtual) x.whole
            (inr (inr (inr (inr (inr (inl refl)))))) refl refl (x.set Virtual)).0;
        backends =
            subst (EachSays (codes "backend") IsBackend lines)
            (sym (stay (named_in lines).backends some few ∙ servers_after (rows_of kind.Balancer) refl no_names lines))
            (each_says (rows_of kind.Balancer) Backend refl IsBackend server_of (server_here (rows_of kind.Balancer))
            server_elsewhere lines said);
        closing =
            says_some kind.Balancer lines x.rows Closing (2 ^ 32 - 1) (x.values Closing) refl refl refl (x.set Closing);
      }

  nat_says : (conf : BoxConf) (x : AreOfKind kind.Nat digest lines conf)
      → AreSettings lines (conf_from digest kind.Nat (Of x) (named_in lines))
  nat_says conf x =
      let tags : SaysTags lines (has_tags (Of x)) =
      says_flag kind.Nat lines x.rows Vlan [] (x.values Vlan) refl
      (λ rest stands s. no_words lines (word_of Vlan) rest (x.values Vlan) stands s) refl (x.set Vlan) in
      record {
        threads =
            (says_or kind.Nat lines x.rows Threads 1 16 1 (x.values Threads) refl refl refl (omega arith) (omega arith)
            (x.set Threads)).0;
        seed =
            (says_or kind.Nat lines x.rows Seed 0 (2 ^ 64 - 1) 0 (x.values Seed) refl refl refl (omega arith)
            (omega arith) (x.set Seed)).0;
        tags = tags;
        seal = some_if (codes "seal") ((Of x Seal).first == 0) (says_flag kind.Nat lines x.rows Seal [] (x.values Seal)
            refl (λ rest stands s. no_words lines (word_of Seal) rest (x.values Seal) stands s) refl (x.set Seal));
        kind = (begins lines kind.Nat x.names, tags, nat_of conf x);
      }

  balancer_says : (conf : BoxConf) (x : AreOfKind kind.Balancer digest lines conf) → fault_of_names lines ≡ None
      → AreSettings lines (conf_from digest kind.Balancer (Of x) (named_in lines))
  balancer_says conf x none =
      let tags : SaysTags lines (has_tags (Of x)) =
      says_flag kind.Balancer lines x.rows Vlan [] (x.values Vlan) refl
      (λ rest stands s. no_words lines (word_of Vlan) rest (x.values Vlan) stands s) refl (x.set Vlan) in
      record {
        threads =
            (says_or kind.Balancer lines x.rows Threads 1 16 1 (x.values Threads) refl refl refl (omega arith)
            (omega arith) (x.set Threads)).0;
        seed =
            (says_or kind.Balancer lines x.rows Seed 0 (2 ^ 64 - 1) 0 (x.values Seed) refl refl refl (omega arith)
            (omega arith) (x.set Seed)).0;
        tags = tags;
        seal = some_if (codes "seal") ((Of x Seal).first == 0)
            (says_flag kind.Balancer lines x.rows Seal [] (x.values Seal) refl
            (λ rest stands s. no_words lines (word_of Seal) rest (x.values Seal) stands s) refl (x.set Seal));
        kind = (begins lines kind.Balancer x.names, tags, balancer_of conf x none);
      }

  says_all : (k : KindWord) (conf : BoxConf) → AreOfKind k digest lines conf → fault_of_names lines ≡ None
      → AreSettings lines conf
  says_all kind.Count conf x none = subst (AreSettings lines) (sym x.says) (count_says conf x)
  says_all kind.Monitor conf x none = subst (AreSettings lines) (sym x.says) (monitor_says conf x)
  says_all kind.Nat conf x none = subst (AreSettings lines) (sym x.says) (nat_says conf x)
  says_all kind.Balancer conf x none = subst (AreSettings lines) (sym x.says) (balancer_says conf x none)

pub lines_are : (text : List ℕ) (conf : BoxConf) → IsBoxFile text conf → AreSettings (counted_lines text) conf
lines_are text conf x = says_all (sha256 text) (counted_lines text) x.0.0 conf x.0.1 x.1

pub means_settings : (k : BoxKind) → MeansSettings k
means_settings (box.Count b) = refl
means_settings (box.Monitor b) = refl
means_settings (box.Nat b) = refl
means_settings (box.Balancer b) = refl

-- The static ports of a NAT

nat_inside : (text : List ℕ) (conf : BoxConf) (x : AreOfKind kind.Nat (sha256 text) (counted_lines text) conf)
    → fault_of_names (counted_lines text) ≡ None
    → AreOf (values_from (x.values Inside)) (named_in (counted_lines text)).statics
nat_inside text conf x none =
    let said = are_said (rows_of kind.Nat) (counted_lines text) x.rows.described in
    let row = x.whole (row_of Inside) (inr (inr (inr (inr (inr (inl refl)))))) refl in
    let found = finds_inside (rows_of kind.Nat) refl (counted_lines text) row.0 row.1 said row.2 row.3 in
    let same : found.values ≡ x.values Inside = one_list text kind.Nat x.rows Inside found.values (x.values Inside) refl
    (inl (found.line, found.there, found.says)) (x.set Inside) in
    let network : inside_in (counted_lines text) ≡ Some (values_from (x.values Inside)) =
    found.found ∙ ap (λ (vs : List ℕ). Some (values_from vs)) same in
    statics_inside (values_from (x.values Inside)) no_names (counted_lines text)
    (subst (λ (o : Option Values). names_fault o no_names (counted_lines text) ≡ None) network none) tt

pub ports_inside : (text : List ℕ) (conf : BoxConf) → IsBoxFile text conf → AreInside conf.kind
ports_inside text conf x = by x.0.0 x.0.1
  where
    lines : List Line
    lines = counted_lines text

    IsInside : ℕ → ℕ → Type 0
    IsInside inside n =
        AllByRecursion (λ (s : StaticPort). (s.address / 2 ^ (32 - n) == inside / 2 ^ (32 - n)) ≡ true)
        (named_in lines).statics

    by : (k : KindWord) → AreOfKind k (sha256 text) lines conf → AreInside conf.kind
    by kind.Count are = subst (λ (c : BoxConf). AreInside c.kind) (sym are.says) tt
    by kind.Monitor are = subst (λ (c : BoxConf). AreInside c.kind) (sym are.says) tt
    by kind.Balancer are = subst (λ (c : BoxConf). AreInside c.kind) (sym are.says) tt
    by kind.Nat are =
        let v : Values = values_from (are.values Inside) in
        let range = says_end kind.Nat lines are.rows Inside 1 32 (are.values Inside) are.whole
        (inr (inr (inr (inr (inr (inl refl)))))) refl refl (are.set Inside) in
        subst (λ (c : BoxConf). AreInside c.kind) (sym are.says)
        (subst (λ (a : ℕ). IsInside a (max 1 (min v.second 32)))
        (sym (stays_small lines (word_of Inside) v.first v.second range.0))
        (subst (IsInside v.first) (sym (stays_between 1 32 v.second range.1 range.2)) (nat_inside text conf are x.1)))
