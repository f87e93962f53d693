-- What hosts have after a mapping is made, changed or removed, and the counts of it.
use Rattle.std.proofs.Common.{◌≡◌, ◌==◌, ℕ, zero, suc, ◌+◌, ◌-◌, ◌≤◌, Bool, true, false, List, [], ◌∷◌, ◌++◌, cond, drop}
use Rattle.std.proofs.Common.{refl, sym, ap, subst, ◌∙◌, arith, Option, Some, None, length}
use Rattle.std.specs.Prelude.{◌&&◌, if◌then◌else◌}
use Rattle.std.specs.Map.{lookup}
use Rattle.std.proofs.lemmas.Bool.{eqb-true}
use Rattle.nat_tables.specs.declared.entries.Endpoint.{Endpoint}
use Rattle.nat_tables.specs.declared.slot.Slot.{Slot}
use Rattle.nat_tables.specs.declared.phase.Segment.{Segment}
use Rattle.nat_tables.specs.declared.phase.Phase.TheVariants.{Plain}
use Rattle.nat_tables.specs.declared.entries.Bind.{Bind}
use Rattle.nat_tables.specs.declared.host_counts.Host.{Host}
use Rattle.nat_tables.specs.Keys.{same_endpoint}
use Rattle.nat_tables.specs.Ports.{one_if}
use Rattle.nat_tables.specs.Forwards.{Forwards, is_idle, slot_of, refresh, mark, without, first_idle, without_idle, total}
use Rattle.nat_tables.specs.Forwards.{idle_taken, find_or_bind, bound, keep, kept_by, kept_slot}
use Rattle.nat_tables.specs.Hosts.{is_of_host, count_of, first_idle_of}
use Rattle.nat_tables.specs.HostCounts.{same_host, counted, host_count, AreCounts, HasOneMore, row_is_of_host}
use Rattle.nat_tables.specs.Rows.{present, row_at}
use Rattle.nat_tables.specs.Idling.{row_is_idle, NoneIsIdle, IsFirstIdle}
use Rattle.nat_tables.proofs.IdleLemmas.{none_is, later_first}
use Rattle.nat_tables.proofs.Counting.{total_refresh, total_marked, total_without, total_without_idle, total_append}

-- What a host has is a sum over the mappings

abbrev weight : ℕ → ℕ → Endpoint → ℕ → ℕ
weight protocol address key port = one_if (is_of_host protocol address key)

as_sum : (protocol address : ℕ) (es : Forwards) → count_of protocol address es ≡ total (weight protocol address) es
as_sum protocol address [] = refl
as_sum protocol address (e ∷ es) = by (is_of_host protocol address e.0) refl (as_sum protocol address es)
  where
    by : (b : Bool) → is_of_host protocol address e.0 ≡ b
        → count_of protocol address es ≡ total (weight protocol address) es
        → count_of protocol address (e ∷ es)
        ≡ one_if (is_of_host protocol address e.0) + total (weight protocol address) es
    by true q behind = rw q (ap (λ (n : ℕ). 1 + n) behind)
    by false q behind = rw q (omega arith)

pub as_many_used : (key : Endpoint) (now : ℕ) (es : Forwards) (protocol address : ℕ)
    → count_of protocol address (refresh key now es) ≡ count_of protocol address es
as_many_used key now es protocol address =
    as_sum protocol address (refresh key now es) ∙ total_refresh (weight protocol address) key now es
    ∙ sym (as_sum protocol address es)

pub as_many_marked : (key : Endpoint) (seconds : ℕ) (segment : Segment) (es : Forwards) (protocol address : ℕ)
    → count_of protocol address (mark key seconds segment es) ≡ count_of protocol address es
as_many_marked key seconds segment es protocol address =
    as_sum protocol address (mark key seconds segment es)
    ∙ total_marked (weight protocol address) key seconds segment es ∙ sym (as_sum protocol address es)

pub fewer_without : (key : Endpoint) (slot : Slot) (es : Forwards) → slot_of key es ≡ Some slot
    → HasOneMore key (without key es) es
fewer_without key slot es is protocol address =
    let many = as_sum protocol address es in
    let few = as_sum protocol address (without key es) in
    let less : total (weight protocol address) (without key es) + one_if (is_of_host protocol address key)
    ≡ total (weight protocol address) es =
    total_without (weight protocol address) key slot es is in omega arith

pub fewer_without_idle : (now : ℕ) (idle : Endpoint × Slot) (es : Forwards) → first_idle now es ≡ Some idle
    → HasOneMore idle.0 (without_idle now es) es
fewer_without_idle now idle es is protocol address =
    let many = as_sum protocol address es in
    let few = as_sum protocol address (without_idle now es) in
    let less : total (weight protocol address) (without_idle now es) + one_if (is_of_host protocol address idle.0)
    ≡ total (weight protocol address) es =
    total_without_idle (weight protocol address) now idle es is in omega arith

pub fewer_taken : (now : ℕ) (idle : Endpoint × Slot) (es fs : Forwards)
    → (Some idle, fs) ≡ idle_taken now es (first_idle now es) → HasOneMore idle.0 fs es
fewer_taken now idle es fs is = by (first_idle now es) refl is
  where
    by : (found : Option (Endpoint × Slot)) → first_idle now es ≡ found → (Some idle, fs) ≡ idle_taken now es found
        → HasOneMore idle.0 fs es
    by None q t = absurd (let none = ap (λ (p : Option (Endpoint × Slot) × Forwards). p.0) t in cc)
    by (Some e) q t =
        let taken : Some idle ≡ Some e = ap (λ (p : Option (Endpoint × Slot) × Forwards). p.0) t in
        let left : fs ≡ without_idle now es = ap (λ (p : Option (Endpoint × Slot) × Forwards). p.1) t in
        rw left (fewer_without_idle now idle es (q ∙ sym taken))

pub one_more : (key : Endpoint) (slot : Slot) (es : Forwards) → HasOneMore key es (es ++ (key, slot) ∷ [])
one_more key slot es protocol address =
    let many = as_sum protocol address (es ++ (key, slot) ∷ []) in
    let few = as_sum protocol address es in
    let more : total (weight protocol address) (es ++ (key, slot) ∷ [])
    ≡ total (weight protocol address) es + one_if (is_of_host protocol address key) =
    total_append (weight protocol address) key slot es in omega arith

pub bound_one_more : (key : Endpoint) (port now : ℕ) (es fs : Forwards) (bind : Bind) → slot_of key es ≡ None
    → (bind, fs) ≡ find_or_bind key port now es → HasOneMore key es fs
bound_one_more key port now es fs bind none is =
    let new : fs ≡ es ++ (key, record { port = port; last = now; phase = Plain }) ∷ [] =
    ap (λ (p : Bind × Forwards). p.1) (is ∙ ap (bound key port now es) none) in
    rw new (one_more key _ es)

pub kept_one_more : (key : Endpoint) (port : ℕ) (es fs : Forwards) → slot_of key es ≡ None → fs ≡ keep key port es
    → HasOneMore key es fs
kept_one_more key port es fs none is =
    let new : fs ≡ es ++ (key, kept_slot port) ∷ [] = is ∙ ap (kept_by key port es) none in
    rw new (one_more key _ es)

-- a mapping that is not there is not removed
pub not_without : (key : Endpoint) (es : Forwards) → slot_of key es ≡ None → es ≡ without key es
not_without key [] none = refl
not_without key (e ∷ es) none = by (same_endpoint key e.0) refl none (not_without key es)
  where
    by : (b : Bool) → same_endpoint key e.0 ≡ b → (if b then Some e.1 else slot_of key es) ≡ None
        → (slot_of key es ≡ None → es ≡ without key es) → e ∷ es ≡ without key (e ∷ es)
    by true q is behind = absurd (cc)
    by false q is behind = rw q (ap (λ rest. e ∷ rest) (behind is))

-- The counts that are kept

pub still_counts : (counts : Option (List (Host × ℕ))) (es fs : Forwards)
    → ((protocol address : ℕ) → count_of protocol address fs ≡ count_of protocol address es)
    → AreCounts counts es → AreCounts counts fs
still_counts None es fs same are = tt
still_counts (Some counts) es fs same are = λ host. are host ∙ sym (same host.protocol host.address)

and_both : (a b : Bool) → (a && b) ≡ true → (a ≡ true) × (b ≡ true)
and_both true true e = (refl, refl)
and_both true false e = absurd (cc)
and_both false b e = absurd (cc)

host_is : (a b : Host) → same_host a b ≡ true → a ≡ b
host_is a b e =
    let both = and_both (a.protocol == b.protocol) (a.address == b.address) e in
    let p : a.protocol ≡ b.protocol = eqb-true _ _ both.0 in
    let q : a.address ≡ b.address = eqb-true _ _ both.1 in
    λ i. record { protocol = p i; address = q i }

-- the counts of a host are put, and those of no other
module _ (counts later : List (Host × ℕ)) (host : Host) (new : Option ℕ) (updates : (other : Host)
    → lookup (same_host other) later ≡ cond (same_host host other) new (lookup (same_host other) counts)) where
  put_there : (other : Host) → same_host host other ≡ true → host_count other later ≡ counted new
  put_there other q = ap counted (updates other) ∙ (rw q refl)

  put_elsewhere : (other : Host) → same_host host other ≡ false → host_count other later ≡ host_count other counts
  put_elsewhere other q = ap counted (updates other) ∙ (rw q refl)

  pub raised : counted new ≡ host_count host counts + 1 → (other : Host)
      → host_count other later ≡ one_if (same_host host other) + host_count other counts
  raised is other = by (same_host host other) refl
    where
      by : (b : Bool) → same_host host other ≡ b
          → host_count other later ≡ one_if (same_host host other) + host_count other counts
      by true q =
          let put = put_there other q in
          let there : counted new ≡ host_count other counts + 1 =
          subst (λ (h : Host). counted new ≡ host_count h counts + 1) (host_is host other q) is in
          rw q (omega arith)
      by false q = let same = put_elsewhere other q in rw q (omega arith)

  pub lowered : counted new ≡ host_count host counts - 1 → (other : Host)
      → host_count other later ≡ host_count other counts - one_if (same_host host other)
  lowered is other = by (same_host host other) refl
    where
      by : (b : Bool) → same_host host other ≡ b
          → host_count other later ≡ host_count other counts - one_if (same_host host other)
      by true q =
          let put = put_there other q in
          let there : counted new ≡ host_count other counts - 1 =
          subst (λ (h : Host). counted new ≡ host_count h counts - 1) (host_is host other q) is in
          rw q (omega arith)
      by false q = let same = put_elsewhere other q in rw q (omega arith)

-- Rows one after another

counted_on : (key : Endpoint) (rows : List (Option (Endpoint × Slot))) (at : ℕ)
    → count_of key.protocol key.address (present (drop at rows))
    ≡ one_if (row_is_of_host key (row_at rows at)) + count_of key.protocol key.address (present (drop (suc at) rows))
counted_on key [] zero = omega arith
counted_on key [] (suc at) = omega arith
counted_on key (None ∷ rows) zero = omega arith
counted_on key (Some e ∷ rows) zero = by (is_of_host key.protocol key.address e.0) refl
  where
    by : (b : Bool) → is_of_host key.protocol key.address e.0 ≡ b
        → count_of key.protocol key.address (e ∷ present rows)
        ≡ one_if (is_of_host key.protocol key.address e.0) + count_of key.protocol key.address (present rows)
    by true q = rw q refl
    by false q = rw q (omega arith)
counted_on key (row ∷ rows) (suc at) = counted_on key rows at

pub counted_next : (key : Endpoint) (rows : List (Option (Endpoint × Slot))) (at : ℕ)
    → count_of key.protocol key.address (present (drop at rows))
    ≡ one_if (row_is_of_host key (row_at rows at)) + count_of key.protocol key.address (present (drop (at + 1) rows))
counted_next key rows at =
    let next : suc at ≡ at + 1 = omega arith in
    counted_on key rows at
    ∙ ap (λ (n : ℕ). one_if (row_is_of_host key (row_at rows at)) + count_of key.protocol key.address (present (drop n
    rows))) next

idle_on : (key : Endpoint) (now : ℕ) (rows : List (Option (Endpoint × Slot))) (at : ℕ)
    → first_idle_of key now (present (drop at rows))
    ≡ (if row_is_of_host key (row_at rows at) && row_is_idle now (row_at rows at) then row_at rows at
    else first_idle_of key now (present (drop (suc at) rows)))
idle_on key now [] zero = refl
idle_on key now [] (suc at) = refl
idle_on key now (None ∷ rows) zero = refl
idle_on key now (Some e ∷ rows) zero = refl
idle_on key now (row ∷ rows) (suc at) = idle_on key now rows at

pub idle_next : (key : Endpoint) (now : ℕ) (rows : List (Option (Endpoint × Slot))) (at : ℕ)
    → first_idle_of key now (present (drop at rows))
    ≡ (if row_is_of_host key (row_at rows at) && row_is_idle now (row_at rows at) then row_at rows at
    else first_idle_of key now (present (drop (at + 1) rows)))
idle_next key now rows at =
    let next : suc at ≡ at + 1 = omega arith in
    idle_on key now rows at
    ∙ ap (λ (n : ℕ). if row_is_of_host key (row_at rows at) && row_is_idle now (row_at rows at) then row_at rows at
    else first_idle_of key now (present (drop n rows))) next

-- The rows before the first idle one have no idle mapping of the host

none_of_host : (key : Endpoint) (now : ℕ) (es : Forwards) → first_idle now es ≡ None → first_idle_of key now es ≡ None
none_of_host key now [] none = refl
none_of_host key now (e ∷ es) none =
    by (is_idle now e) (is_of_host key.protocol key.address e.0) refl none (none_of_host key now es)
  where
    by : (idle of : Bool) → is_idle now e ≡ idle → (if idle then Some e else first_idle now es) ≡ None
        → (first_idle now es ≡ None → first_idle_of key now es ≡ None)
        → (if of && is_idle now e then Some e else first_idle_of key now es) ≡ None
    by true of q is rest = absurd (cc)
    by false true q is rest = rw q (rest is)
    by false false q is rest = rest is

pub no_row_of_host : (key : Endpoint) (now : ℕ) (rows : List (Option (Endpoint × Slot))) → NoneIsIdle 0 now rows
    → first_idle_of key now (present rows) ≡ None
no_row_of_host key now rows none = none_of_host key now (present rows) (none_is now rows none)

skipped : (key : Endpoint) (now : ℕ) (e : Endpoint × Slot) (es : Forwards) → is_idle now e ≡ false
    → first_idle_of key now (e ∷ es) ≡ first_idle_of key now es
skipped key now e es live = by (is_of_host key.protocol key.address e.0)
  where
    by : (of : Bool)
        → (if of && is_idle now e then Some e else first_idle_of key now es) ≡ first_idle_of key now es
    by true = rw live refl
    by false = refl

pub idle_from : (key : Endpoint) (now : ℕ) (rows : List (Option (Endpoint × Slot))) (at : ℕ) → IsFirstIdle 0 now rows at
    → first_idle_of key now (present (drop at rows)) ≡ first_idle_of key now (present rows)
idle_from key now [] zero first = refl
idle_from key now [] (suc at) first = refl
idle_from key now (row ∷ rows) zero first = refl
idle_from key now (None ∷ rows) (suc at) first = idle_from key now rows at (later_first now None rows at first)
idle_from key now (Some e ∷ rows) (suc at) first =
    idle_from key now rows at (later_first now (Some e) rows at first)
    ∙ sym (skipped key now e (present rows) (first.others 0 (omega arith) (omega arith)))

-- The same from a row on

pub none_from : (key : Endpoint) (now : ℕ) (rows : List (Option (Endpoint × Slot))) (start : ℕ)
    → NoneIsIdle start now rows → first_idle_of key now (present (drop start rows)) ≡ None
none_from key now rows zero none = no_row_of_host key now rows none
none_from key now [] (suc start) none = refl
none_from key now (row ∷ rows) (suc start) none =
    none_from key now rows start (λ k past. none (suc k) (omega arith))

pub skips_to : (key : Endpoint) (now : ℕ) (rows : List (Option (Endpoint × Slot))) (start at : ℕ)
    → IsFirstIdle start now rows at
    → first_idle_of key now (present (drop start rows)) ≡ first_idle_of key now (present (drop at rows))
skips_to key now rows zero at first = sym (idle_from key now rows at first)
skips_to key now rows (suc start) zero first = absurd (let from = first.from in omega arith)
skips_to key now [] (suc start) (suc at) first = refl
skips_to key now (row ∷ rows) (suc start) (suc at) first =
    skips_to key now rows start at
    (record {
      from = let from = first.from in omega arith;
      idle = first.idle;
      others = λ k past less. first.others (suc k) (omega arith) (omega arith);
    })

-- past the last row there is none
pub none_past : (key : Endpoint) (now : ℕ) (rows : List (Option (Endpoint × Slot))) (start : ℕ) → length rows ≤ start
    → first_idle_of key now (present (drop start rows)) ≡ None
none_past key now [] zero past = refl
none_past key now [] (suc start) past = refl
none_past key now (row ∷ rows) zero past = absurd (omega arith)
none_past key now (row ∷ rows) (suc start) past = none_past key now rows start (omega arith)
