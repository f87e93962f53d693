-- The kinds of boxes: the word of each, the lines that its file may have, the box that they make, and what that box
-- means.
-- It is the one place that ties a kind to a program: contracts of the commands speak of the meaning of the kind, and of
-- no box by name.
use Rattle.std.specs.Prelude.{ℕ, ◌&&◌, true, false, List, [], ◌∷◌, map, find, codes, is_none, Option, Some, None}
use Rattle.std.specs.Prelude.{Bool, ◌==◌, if◌then◌else◌}
use Rattle.std.specs.Str.{bytes_eq}
use Rattle.plain_text.specs.Grammar.{Row, OneOf}
use Rattle.plain_machine.specs.Program.{Meaning}
use Rattle.box_program.specs.Count.{count_meaning}
use Rattle.tagged_box.specs.declared.tagged.Tagged.{Tagged}
use Rattle.tagged_box.specs.Tagged.{tagged_meaning}
use Rattle.monitor_box.specs.declared.value.MonitorValue.{MonitorValue}
use Rattle.monitor_box.specs.Boxes as monitor
use Rattle.balancer_box.specs.declared.settings.Backend.{Backend}
use Rattle.balancer_box.specs.declared.balancer.BalancerBox.{BalancerBox}
use Rattle.balancer_box.specs.declared.value.BalancerValue.{BalancerValue}
use Rattle.balancer_box.specs.Boxes as balancer
use Rattle.balancer_box.specs.Places as balancer_places
use Rattle.nat_box.specs.declared.nat.NatBox.{NatBox}
use Rattle.nat_box.specs.declared.settings.StaticPort.{StaticPort}
use Rattle.nat_box.specs.declared.value.NatValue.{NatValue}
use Rattle.nat_box.specs.Boxes as nat
use Rattle.nat_box.specs.Places as nat_places
use Rattle.box_conf.specs.declared.kind.BoxConf.{BoxConf}
use Rattle.box_conf.specs.declared.kind.BoxKind.{BoxKind}
use Rattle.box_conf.specs.declared.kind.BoxKind.TheVariants.{Count, Monitor, Nat, Balancer}
use Rattle.box_conf.specs.declared.kind.KindWord.{KindWord}
use Rattle.box_conf.specs.declared.kind.KindWord.TheVariants as kind
use Rattle.box_conf.specs.declared.names.Named.{Named}
use Rattle.box_conf.specs.declared.settings.Settings.{Settings}
use Rattle.box_conf.specs.declared.table.BoxLine.{BoxLine}
use Rattle.box_conf.specs.declared.table.BoxLine.TheVariants as line
use Rattle.box_conf.specs.declared.table.BoxLine.TheVariants.{Threads, Seed, Shards, Inside, Outside, Ports, Closing}
use Rattle.box_conf.specs.declared.table.BoxLine.TheVariants.{Vlan, Limit, Icmp, Static, Virtual, Seal}
use Rattle.box_conf.specs.declared.table.Values.{Values}
use Rattle.box_conf.specs.Settings.{setting}
use Rattle.box_conf.specs.Table.{row_of, usual_of, word_of}

-- Kind by kind

abbrev pub kinds : List KindWord
kinds = kind.Count ∷ kind.Monitor ∷ kind.Nat ∷ kind.Balancer ∷ []

abbrev pub kind_word : KindWord → List ℕ
kind_word kind.Count = codes "count"
kind_word kind.Monitor = codes "monitor"
kind_word kind.Nat = codes "nat"
kind_word kind.Balancer = codes "balancer"

abbrev pub lines_of : KindWord → List BoxLine
lines_of kind.Count = Threads ∷ Seed ∷ Vlan ∷ Seal ∷ []
lines_of kind.Monitor = Threads ∷ Seed ∷ Shards ∷ Vlan ∷ Seal ∷ []
lines_of kind.Nat =
    Threads ∷ Seed ∷ Shards ∷ Vlan ∷ Inside ∷ Outside ∷ Ports ∷ Closing ∷ Limit ∷ Icmp ∷ Static ∷ Seal ∷ []
lines_of kind.Balancer = Threads ∷ Seed ∷ Shards ∷ Vlan ∷ Virtual ∷ line.Backend ∷ Closing ∷ Seal ∷ []

-- the number of a line such as `closing`; none where it is not there
abbrev pub number_of : ℕ → Option ℕ
number_of number = if number == 0 then None else Some number

-- the first word after `icmp` lets errors through
abbrev pub nat_from : (BoxLine → Values) → List StaticPort → NatBox
nat_from values statics =
    nat.box_with (record {
      shards = (values Shards).first;
      inside = (values Inside).first;
      length = (values Inside).second;
      outside = (values Outside).first;
      low = (values Ports).first;
      high = (values Ports).second;
      closing = number_of (values Closing).first;
      statics = statics;
      errors = (values Icmp).first == 0;
      limit = number_of (values Limit).first;
    })

abbrev pub balancer_from : (BoxLine → Values) → List Backend → BalancerBox
balancer_from values backends =
    let closing : Option ℕ = number_of (values Closing).first in
    balancer.box_with (record {
      shards = (values Shards).first;
      address = (values Virtual).first;
      port = (values Virtual).second;
      backends = backends;
      closing = closing;
    })

-- whether one VLAN tag is looked through (IEEE 802.1Q): the line `vlan` stands
abbrev pub has_tags : (BoxLine → Values) → Bool
has_tags values = (values Vlan).first == 0

-- where the line `seal` stands, the digest of the file
abbrev pub seal_from : List ℕ → (BoxLine → Values) → Option (List ℕ)
seal_from digest values = if (values Seal).first == 0 then Some digest else None

-- a program, which looks through tags where that line stands
abbrev pub tagged_from : {P : Type 0} → (BoxLine → Values) → P → Tagged P
tagged_from values program = record { program = program; tags = has_tags values }

-- the box, where the lines have these values and these names
abbrev pub box_from : KindWord → (BoxLine → Values) → Named → BoxKind
box_from kind.Count values names = Count (tagged_from values (record {}))
box_from kind.Monitor values names = Monitor (tagged_from values (monitor.box_with (values Shards).first))
box_from kind.Nat values names = Nat (tagged_from values (nat_from values names.statics))
box_from kind.Balancer values names = Balancer (tagged_from values (balancer_from values names.backends))

-- the register in which the box has the reason for which it drops a packet, when it ends it
abbrev pub drop_register : BoxKind → Option ℕ
drop_register (Count box) = None
drop_register (Monitor box) = None
drop_register (Nat box) = Some nat_places.reason_register
drop_register (Balancer box) = Some balancer_places.reason_register

-- the meaning of a program, with the kind of value that its variables have
pub record AnyMeaning : Type 1 where
  pub value : Type 0
  pub meaning : Meaning value

abbrev pub meaning_of : BoxKind → AnyMeaning
meaning_of (Count box) = record { value = ℕ; meaning = tagged_meaning box.tags count_meaning }
meaning_of (Monitor box) =
    record { value = MonitorValue; meaning = tagged_meaning box.tags (monitor.box_meaning box.program) }
meaning_of (Nat box) = record { value = NatValue; meaning = tagged_meaning box.tags (nat.box_meaning box.program) }
meaning_of (Balancer box) =
    record { value = BalancerValue; meaning = tagged_meaning box.tags (balancer.box_meaning box.program) }

-- Of all kinds

abbrev pub kind_named : List ℕ → Option KindWord
kind_named word = find (λ kind. bytes_eq word (kind_word kind)) kinds

abbrev pub line_named : KindWord → List ℕ → Option BoxLine
line_named kind word = find (λ line. bytes_eq word (word_of line)) (lines_of kind)

-- the line `box KIND`, whose value is the kind's index
abbrev pub box_row : Row
box_row = record {
  word = codes "box";
  places = OneOf (map kind_word kinds) ∷ [];
  fits = λ values. true;
  again = false;
  required = true;
}

-- the table of a kind
abbrev pub rows_of : KindWord → List Row
rows_of kind = box_row ∷ map row_of (lines_of kind)

-- a line that has to stand in a file of the kind, and has not set anything
abbrev pub missing_line : KindWord → Settings → Option BoxLine
missing_line kind settings = find (λ line. is_none (usual_of line) && is_none (setting settings line)) (lines_of kind)

-- the box of a file whose bytes have this digest
abbrev pub conf_from : List ℕ → KindWord → (BoxLine → Values) → Named → BoxConf
conf_from digest kind values names = record {
  threads = (values Threads).first;
  seed = (values Seed).first;
  tags = has_tags values;
  seal = seal_from digest values;
  kind = box_from kind values names;
}

-- a kind whose file names backends
abbrev pub IsBalancer : KindWord → Type 0
IsBalancer kind.Count = ⊥
IsBalancer kind.Monitor = ⊥
IsBalancer kind.Nat = ⊥
IsBalancer kind.Balancer = Unit {0}
