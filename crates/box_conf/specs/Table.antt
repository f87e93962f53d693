-- The lines of box files that set values, as a table: the word of each, what stands after it, how its values fit one
-- another, and the usual values. Each may stand once, but for `static` and `backend`, and has to stand where it has no
-- usual values.
use Rattle.std.specs.Prelude.{ℕ, ◌-◌, ◌^◌, Bool, true, false, List, [], ◌∷◌, map, codes, is_none, nat_le, slice_index}
use Rattle.std.specs.Prelude.{Option, Some, None}
use Rattle.plain_text.specs.Grammar.{Place, Row}
use Rattle.plain_text.specs.Grammar as place
use Rattle.box_conf.specs.declared.table.BoxLine.{BoxLine}
use Rattle.box_conf.specs.declared.table.BoxLine.TheVariants.{Threads, Seed, Shards, Inside, Outside, Ports, Closing}
use Rattle.box_conf.specs.declared.table.BoxLine.TheVariants.{Vlan, Limit, Icmp, Static, Virtual, Backend, Seal}
use Rattle.box_conf.specs.declared.table.LinePlace.{LinePlace}
use Rattle.box_conf.specs.declared.table.LinePlace.TheVariants.{Number, Address, Protocol, Errors}
use Rattle.box_conf.specs.declared.table.Values.{Values}

-- Line by line

abbrev pub word_of : BoxLine → List ℕ
word_of Threads = codes "threads"
word_of Seed = codes "seed"
word_of Shards = codes "shards"
word_of Vlan = codes "vlan"
word_of Inside = codes "inside"
word_of Outside = codes "outside"
word_of Ports = codes "ports"
word_of Closing = codes "closing"
word_of Limit = codes "limit"
word_of Icmp = codes "icmp"
word_of Static = codes "static"
word_of Virtual = codes "virtual"
word_of Backend = codes "backend"
word_of Seal = codes "seal"

abbrev pub places_of : BoxLine → List LinePlace
places_of Threads = Number 1 16 ∷ []
places_of Seed = Number 0 (2 ^ 64 - 1) ∷ []
places_of Shards = Number 1 64 ∷ []
places_of Vlan = []
places_of Inside = Address ∷ Number 1 32 ∷ []
places_of Outside = Address ∷ []
places_of Ports = Number 1 65535 ∷ Number 1 65535 ∷ []
places_of Closing = Number 1 (2 ^ 32 - 1) ∷ []
places_of Limit = Number 1 65535 ∷ []
places_of Icmp = Errors ∷ []
places_of Static = Protocol ∷ Address ∷ Number 1 65535 ∷ Number 1 65535 ∷ []
places_of Virtual = Address ∷ Number 0 65535 ∷ []
places_of Backend = Address ∷ Number 0 65535 ∷ []
places_of Seal = []

-- the first port is not above the last
abbrev pub fits_of : BoxLine → Values → Bool
fits_of Threads values = true
fits_of Seed values = true
fits_of Shards values = true
fits_of Vlan values = true
fits_of Inside values = true
fits_of Outside values = true
fits_of Ports values = nat_le values.first values.second
fits_of Closing values = true
fits_of Limit values = true
fits_of Icmp values = true
fits_of Static values = true
fits_of Virtual values = true
fits_of Backend values = true
fits_of Seal values = true

-- there may be several static ports, and several backends
abbrev pub again_of : BoxLine → Bool
again_of Threads = false
again_of Seed = false
again_of Shards = false
again_of Vlan = false
again_of Inside = false
again_of Outside = false
again_of Ports = false
again_of Closing = false
again_of Limit = false
again_of Icmp = false
again_of Static = true
again_of Virtual = false
again_of Backend = true
again_of Seal = false

-- `icmp` has the index of its word, and 1 where it is not there; `vlan` has no word, so 0, and 1 where it is not there;
-- so has `seal`
abbrev pub usual_of : BoxLine → Option (List ℕ)
usual_of Threads = Some (1 ∷ [])
usual_of Seed = Some (0 ∷ [])
usual_of Shards = Some (16 ∷ [])
usual_of Vlan = Some (1 ∷ [])
usual_of Inside = None
usual_of Outside = None
usual_of Ports = Some (1024 ∷ 65535 ∷ [])
usual_of Closing = Some (0 ∷ [])
usual_of Limit = Some (0 ∷ [])
usual_of Icmp = Some (1 ∷ [])
usual_of Static = Some []
usual_of Virtual = None
usual_of Backend = None
usual_of Seal = Some (1 ∷ [])

-- Of all lines

abbrev pub grammar_place : LinePlace → Place
grammar_place (Number low high) = place.Number low high
grammar_place Address = place.Address
grammar_place Protocol = place.OneOf (codes "tcp" ∷ codes "udp" ∷ [])
grammar_place Errors = place.OneOf (codes "errors" ∷ [])

-- the values of a line, where those that are not there are 0
abbrev pub values_from : List ℕ → Values
values_from values = record {
  first = slice_index values 0;
  second = slice_index values 1;
  third = slice_index values 2;
  fourth = slice_index values 3;
}

abbrev pub row_of : BoxLine → Row
row_of line = record {
  word = word_of line;
  places = map grammar_place (places_of line);
  fits = λ values. fits_of line (values_from values);
  again = again_of line;
  required = is_none (usual_of line);
}
