-- Released outputs stay so, and frames of entries that a stored snapshot covers are forgotten.
use Rattle.std.proofs.Common.{◌≡◌, ◌≢◌, ◌<◌, ◌≤◌, arith, ℕ, List, refl, sym, ap, ◌∙◌, subst, inl, inr, ◌⊎◌, Option}
use Rattle.std.proofs.Common.{Some, None}
use Rattle.entry_order.specs.Log.{Entry}
use Rattle.access_log.specs.declared.entry.Output.{Output}
use Rattle.dup_filter.specs.Numbers.{Numbers, WasMarked}
use Rattle.output_logger.specs.Logger.{ReleasesOnce}
use Rattle.plain_text.specs.declared.kind.Kind.{Kind}
use Rattle.plain_text.specs.declared.kind.Kind.TheVariants.{Log, Out}
use Rattle.std.specs.Prelude.{slice_index}
use Rattle.std.proofs.lemmas.Bool.{cases_lt}
use Rattle.entry_order.proofs.Order.{is_or}
use Rattle.link_store.specs.declared.address.Address.{Address}
use Rattle.link_store.specs.Links.{frame_at, IsUpTo}
use Rattle.link_store.specs.Sending.{Sending, length_at, entry_address, ForgetsEntries, ForgetsCovered}

-- what was released stays so
pub marks_stay : (old new : List Numbers) (go : List Output) → ReleasesOnce old new go → (t n : ℕ) → WasMarked old t n
    → WasMarked new t n
marks_stay old new go once t n was = (once.marked t n).1 (inr was)

-- Frames of entries that are covered

-- an address is up to another, or not
kind_or : (a b : Kind) → (a ≡ b) ⊎ (a ≡ b → ⊥)
kind_or Log Log = inl refl
kind_or Log Out = inr (λ e. cc)
kind_or Out Log = inr (λ e. cc)
kind_or Out Out = inl refl

pub address_or : (last a : Address) → IsUpTo last a ⊎ (IsUpTo last a → ⊥)
address_or last a = go (is_or a.epoch last.epoch) (kind_or a.kind last.kind) (is_or a.thread last.thread)
    (cases_lt last.number a.number)
  where
    go : (a.epoch ≡ last.epoch) ⊎ (a.epoch ≢ last.epoch) → (a.kind ≡ last.kind) ⊎ (a.kind ≡ last.kind → ⊥)
        → (a.thread ≡ last.thread) ⊎ (a.thread ≢ last.thread) → (last.number < a.number) ⊎ (a.number ≤ last.number)
        → IsUpTo last a ⊎ (IsUpTo last a → ⊥)
    go (inr off) k t n = inr (λ u. off u.epoch)
    go (inl e) (inr off) t n = inr (λ u. off u.kind)
    go (inl e) (inl k) (inr off) n = inr (λ u. off u.thread)
    go (inl e) (inl k) (inl t) (inl high) = inr (λ u. let n = u.number in absurd (omega (arith, n, high)))
    go (inl e) (inl k) (inl t) (inr low) = inl (record { epoch = e; kind = k; thread = t; number = low })

pub covers_none : (sent : Sending) (counts : List ℕ) → ForgetsCovered sent sent counts
covers_none sent counts = record { each = λ a. inl refl; entries = refl; outputs = refl; epoch = refl; threads = refl }

pub covers_more : (old mid new : Sending) (counts : List ℕ) (t up_to : ℕ) → up_to ≡ slice_index counts t
    → ForgetsCovered old mid counts → ForgetsEntries mid new t up_to → ForgetsCovered old new counts
covers_more old mid new counts t up_to is h f = record {
  each = λ a. go a (address_or (entry_address mid t up_to) a) (h.each a);
  entries = f.entries ∙ h.entries;
  outputs = f.outputs ∙ h.outputs;
  epoch = f.epoch ∙ h.epoch;
  threads = f.threads ∙ h.threads;
}
  where
    go : (a : Address) → IsUpTo (entry_address mid t up_to) a ⊎ (IsUpTo (entry_address mid t up_to) a → ⊥)
        → (frame_at mid.frames a ≡ frame_at old.frames a)
        ⊎ ((frame_at mid.frames a ≡ None) × (a.epoch ≡ old.epoch) × (a.kind ≡ Log)
        × (a.number ≤ slice_index counts a.thread))
        → (frame_at new.frames a ≡ frame_at old.frames a)
        ⊎ ((frame_at new.frames a ≡ None) × (a.epoch ≡ old.epoch) × (a.kind ≡ Log)
        × (a.number ≤ slice_index counts a.thread))
    go a (inl up) k =
        let low : a.number ≤ up_to = up.number in
        let count : up_to ≡ slice_index counts a.thread = is ∙ ap (λ (u : ℕ). slice_index counts u) (sym up.thread) in
        inr (f.forgets.forgotten a up, up.epoch ∙ h.epoch, up.kind, omega (arith, low, count))
    go a (inr apart) (inl same) = inl (f.forgets.others a apart ∙ same)
    go a (inr apart) (inr k) = inr (f.forgets.others a apart ∙ k.0, k.1, k.2, k.3)
