-- What a look-up and an insertion make of a table.
use Rattle.std.proofs.Common.{◌≡◌, ℕ, ◌==◌, ◌&&◌, Bool, true, false, [], ◌∷◌, unwrap_or, ◌∙◌, refl, ap}
use Rattle.std.specs.Map.{lookup}
use Rattle.indexmap.specs.IndexMap.{insert_entry}
use Rattle.monitor_box.specs.declared.counts.FlowKey.{FlowKey}
use Rattle.monitor_box.specs.Flows.{Flows, same_flow, no_packets, one_more, with_packet}

pub counted : (flow : FlowKey) (n : ℕ) (es : Flows)
    → insert_entry same_flow es flow (one_more (unwrap_or (lookup (same_flow flow) es) no_packets) n)
    ≡ with_packet flow n es
counted flow n [] = refl
counted flow n (e ∷ es) = by (same_flow flow e.0) refl (counted flow n es)
  where
    by : (b : Bool) → same_flow flow e.0 ≡ b
        → insert_entry same_flow es flow (one_more (unwrap_or (lookup (same_flow flow) es) no_packets) n)
        ≡ with_packet flow n es
        → insert_entry same_flow (e ∷ es) flow (one_more (unwrap_or (lookup (same_flow flow) (e ∷ es)) no_packets) n)
        ≡ with_packet flow n (e ∷ es)
    by true q behind = rw q refl
    by false q behind = rw q (ap (λ rest. e ∷ rest) behind)

and_grouped : (a b c d e : Bool) → (a && (b && (c && (d && e)))) ≡ (a && b && c && d && e)
and_grouped false b c d e = refl
and_grouped true false c d e = refl
and_grouped true true false d e = refl
and_grouped true true true false e = refl
and_grouped true true true true e = refl

-- the same by the derived equality
pub counted_by : (eq : FlowKey → FlowKey → Bool)
    → ((a b : FlowKey)
    → eq a b
    ≡ ((a.protocol == b.protocol)
    && ((a.source == b.source)
    && ((a.source_port == b.source_port) && ((a.dest == b.dest) && (a.dest_port == b.dest_port)))))) → (flow : FlowKey)
    (n : ℕ) (es : Flows)
    → insert_entry eq es flow (one_more (unwrap_or (lookup (eq flow) es) no_packets) n) ≡ with_packet flow n es
counted_by eq derived flow n es =
    let same : (a b : FlowKey) → eq a b ≡ same_flow a b = λ a b.
    derived a b
    ∙ and_grouped (a.protocol == b.protocol) (a.source == b.source) (a.source_port == b.source_port) (a.dest == b.dest)
    (a.dest_port == b.dest_port) in
    let eqs : eq ≡ same_flow = λ i a b. same a b i in
    ap (λ test. insert_entry test es flow (one_more (unwrap_or (lookup (test flow) es) no_packets) n)) eqs
    ∙ counted flow n es
