-- Frames as they are sent, and what comes back.
use Rattle.std.specs.Prelude.{slice_index, ◌^◌}
use Rattle.std.proofs.Common.{◌≡◌, ◌≢◌, ℕ, ◌+◌, ◌<◌, ◌≤◌, List, [], ◌∷◌, ◌++◌, length, refl, sym, ap, ◌∙◌, subst}
use Rattle.std.proofs.Common.{Option, Some, None, inl, inr, ◌⊎◌, arith}
use Rattle.std.proofs.lemmas.Bool.{cases_lt}
use Rattle.std.specs.Prelude.{slice_set, slice_index_or}
use Rattle.std.proofs.lemmas.List.{get_or_default}
use Rattle.plain_text.specs.declared.kind.Kind.{Kind}
use Rattle.plain_text.specs.declared.kind.Kind.TheVariants.{Log, Out}
use Rattle.wire_frames.specs.FromAccessLog.{StampedEntry}
use Rattle.wire_frames.specs.FromAccessLog.{Output}
use Rattle.link_store.specs.declared.address.Address.{Address}
use Rattle.link_store.specs.Links.{address, frame_at, Sends, GoesOn, IsOutputOf, TurnsEpoch}
use Rattle.wire_frames.specs.declared.frame.Frame.TheVariants as frame
use Rattle.wire_frames.specs.Layout.{IsFrame, written}
use Rattle.wire_frames.specs.Parts.{FitsWord}
use Rattle.wire_frames.proofs.Ranges.{is_sent, is_done}
use Rattle.wire_frames.proofs.Whole.{is_written}
use Rattle.wire_frames.specs.Writing.{CanPutEntry}
use Rattle.link_store.specs.Sending.{Sending, HasEntryFrame, HasOutputFrame, SendsEntry, SendsOutput}
use Rattle.link_store.specs.Sending.{BeginsEpoch, CountsEntry, TakesOutput, entry_size, entry_address, output_address, lengths_of}
use Rattle.link_store.specs.Spelled.{IsEntryFrame, IsOutputFrame}
use Rattle.link_store.proofs.KeptLemmas.{can_in}
use Rattle.link_store.proofs.RunLemmas.{same_address}

-- the frame that is found is that of the entry, or of the output

pub found_entry : (sent : Sending) (e : StampedEntry) (t n : ℕ) (found : Option (List ℕ)) → HasEntryFrame sent e
    → e.thread ≡ t → e.number ≡ n → found ≡ frame_at sent.frames (address sent.epoch Log t n)
    → (bytes : List ℕ) × (found ≡ Some bytes) × IsFrame bytes (frame.Entry sent.epoch sent.threads e)
found_entry sent e t n found has a b is = (
  has.bytes,
  is
      ∙ sym (ap (λ (u : ℕ). frame_at sent.frames (address sent.epoch Log u e.number)) a
      ∙ ap (λ (k : ℕ). frame_at sent.frames (address sent.epoch Log t k)) b)
      ∙ has.there,
  has.is,
)

pub found_output : (sent : Sending) (o : Output) (t n : ℕ) (found : Option (List ℕ)) → HasOutputFrame sent o
    → o.thread ≡ t → o.number ≡ n → found ≡ frame_at sent.frames (address sent.epoch Out t n)
    → (bytes : List ℕ) × (found ≡ Some bytes) × IsFrame bytes (frame.Output sent.epoch sent.threads o)
found_output sent o t n found has a b is = (
  has.bytes,
  is
      ∙ sym (ap (λ (u : ℕ). frame_at sent.frames (address sent.epoch Out u o.number)) a
      ∙ ap (λ (k : ℕ). frame_at sent.frames (address sent.epoch Out t k)) b)
      ∙ has.there,
  has.is,
)

some_same : (a b : List ℕ) → Some a ≡ Some b → a ≡ b
some_same a b is = cc

-- these bytes are that frame
pub entry_bytes : (sent : Sending) (e : StampedEntry) (t n : ℕ) (bytes : List ℕ) → HasEntryFrame sent e → e.thread ≡ t
    → e.number ≡ n → Some bytes ≡ frame_at sent.frames (address sent.epoch Log t n)
    → IsFrame bytes (frame.Entry sent.epoch sent.threads e)
entry_bytes sent e t n bytes has a b is =
    let k = found_entry sent e t n (Some bytes) has a b is in
    subst (λ (q : List ℕ). IsFrame q (frame.Entry sent.epoch sent.threads e)) (sym (some_same bytes k.0 k.1)) k.2

pub output_bytes : (sent : Sending) (o : Output) (t n : ℕ) (bytes : List ℕ) → HasOutputFrame sent o → o.thread ≡ t
    → o.number ≡ n → Some bytes ≡ frame_at sent.frames (address sent.epoch Out t n)
    → IsFrame bytes (frame.Output sent.epoch sent.threads o)
output_bytes sent o t n bytes has a b is =
    let k = found_output sent o t n (Some bytes) has a b is in
    subst (λ (q : List ℕ). IsFrame q (frame.Output sent.epoch sent.threads o)) (sym (some_same bytes k.0 k.1)) k.2

-- one more frame

abbrev pub sent_entry : Sending → List (Address × List ℕ) → ℕ → List ℕ → Sending
sent_entry old frames thread lengths = record {
  epoch = old.epoch;
  threads = old.threads;
  frames = frames;
  entries = slice_set old.entries thread lengths;
  outputs = old.outputs;
}

abbrev pub sent_output : Sending → List (Address × List ℕ) → ℕ → List ℕ → Sending
sent_output old frames thread lengths = record {
  epoch = old.epoch;
  threads = old.threads;
  frames = frames;
  entries = old.entries;
  outputs = slice_set old.outputs thread lengths;
}

module _ (old now : Sending) (frames : List (Address × List ℕ)) (bytes lengths : List ℕ) (as_now : old ≡ now) where
  entry_sent : (e : StampedEntry) → IsEntryFrame old.epoch old.threads e bytes
      → Sends old.frames frames (entry_address old e.thread e.number) bytes
      → lengths ≡ lengths_of old.entries e.thread ++ length bytes ∷ []
      → SendsEntry now (sent_entry old frames e.thread lengths) e
  entry_sent e is sends longer =
      subst (λ (q : Sending). SendsEntry q (sent_entry old frames e.thread lengths) e) as_now (record {
        frame = record { can = is.can; bytes = bytes; is = is.is; there = sends.sent };
        sends = sends;
        entries =
            ap (λ (l : List ℕ). slice_set old.entries e.thread l)
            (longer ∙ ap (λ (n : ℕ). lengths_of old.entries e.thread ++ n ∷ []) is.size);
        outputs = refl;
        epoch = refl;
        threads = refl;
      })

  output_sent : (o : Output) → IsOutputFrame old.epoch old.threads o bytes
      → Sends old.frames frames (output_address old o.thread o.number) bytes
      → lengths ≡ lengths_of old.outputs o.thread ++ length bytes ∷ []
      → SendsOutput now (sent_output old frames o.thread lengths) o
  output_sent o is sends longer =
      subst (λ (q : Sending). SendsOutput q (sent_output old frames o.thread lengths) o) as_now (record {
        frame = record { can = is.can; bytes = bytes; is = is.is; there = sends.sent };
        sends = sends;
        outputs =
            ap (λ (l : List ℕ). slice_set old.outputs o.thread l)
            (longer ∙ ap (λ (n : ℕ). lengths_of old.outputs o.thread ++ n ∷ []) is.size);
        entries = refl;
        epoch = refl;
        threads = refl;
      })

  -- the same, by its thread and number
  module _ (t n : ℕ) where
    pub sends_entry : Sends old.frames frames (entry_address old t n) bytes
        → lengths ≡ lengths_of old.entries t ++ length bytes ∷ [] → (e : StampedEntry)
        → IsEntryFrame now.epoch now.threads e bytes → e.thread ≡ t → e.number ≡ n
        → SendsEntry now (sent_entry old frames t lengths) e
    sends_entry sends longer e is t_is n_is =
        let there = subst (λ (q : Sending). IsEntryFrame q.epoch q.threads e bytes) (sym as_now) is in
        let numbered = subst (λ (k : ℕ). Sends old.frames frames (entry_address old t k) bytes) (sym n_is) sends in
        let threaded =
        subst (λ (k : ℕ). Sends old.frames frames (entry_address old k e.number) bytes) (sym t_is) numbered in
        let more = subst (λ (k : ℕ). lengths ≡ lengths_of old.entries k ++ length bytes ∷ []) (sym t_is) longer in
        subst (λ (k : ℕ). SendsEntry now (sent_entry old frames k lengths) e) t_is (entry_sent e there threaded more)

    pub sends_output : Sends old.frames frames (output_address old t n) bytes
        → lengths ≡ lengths_of old.outputs t ++ length bytes ∷ [] → (o : Output)
        → IsOutputFrame now.epoch now.threads o bytes → o.thread ≡ t → o.number ≡ n
        → SendsOutput now (sent_output old frames t lengths) o
    sends_output sends longer o is t_is n_is =
        let there = subst (λ (q : Sending). IsOutputFrame q.epoch q.threads o bytes) (sym as_now) is in
        let numbered = subst (λ (k : ℕ). Sends old.frames frames (output_address old t k) bytes) (sym n_is) sends in
        let threaded =
        subst (λ (k : ℕ). Sends old.frames frames (output_address old k o.number) bytes) (sym t_is) numbered in
        let more = subst (λ (k : ℕ). lengths ≡ lengths_of old.outputs k ++ length bytes ∷ []) (sym t_is) longer in
        subst (λ (k : ℕ). SendsOutput now (sent_output old frames k lengths) o) t_is
        (output_sent o there threaded more)

-- one more that counts as sent
pub counts_entry : (old now : Sending) (e : StampedEntry) (lengths : List ℕ) → old ≡ now
    → CanPutEntry old.epoch old.threads e → old.epoch < 2 ^ 32 → e.number < 2 ^ 64 → FitsWord e.what
    → length e.stamp ≡ 16 → ((u : ℕ) → slice_index e.stamp u < 2 ^ 64)
    → lengths ≡ lengths_of old.entries e.thread ++ entry_size e ∷ []
    → CountsEntry now (sent_entry old old.frames e.thread lengths) e
counts_entry old now e lengths as_now can epoch number word all fit longer =
    subst (λ (q : Sending). CountsEntry q (sent_entry old old.frames e.thread lengths) e) as_now (record {
      can = can;
      bytes = written (frame.Entry old.epoch old.threads e);
      is = is_written (frame.Entry old.epoch old.threads e) (
        is_sent old.epoch old.threads e.thread e.number e.stamp can.sent epoch number all fit,
        is_done e.what can.what word,
      );
      frames = refl;
      entries = ap (λ (l : List ℕ). slice_set old.entries e.thread l) longer;
      outputs = refl;
      epoch = refl;
      threads = refl;
    })

-- The next epoch

-- what stands there for a frame
goes_on : (epoch : ℕ) (s s' : Option (List ℕ)) (bytes : List ℕ) → GoesOn epoch s s' → s ≡ Some bytes
    → (new : List ℕ)
    × (s' ≡ Some new)
    × ((threads : ℕ) (o : Output) → IsFrame bytes (frame.Output epoch threads o)
    → IsFrame new (frame.Output (epoch + 1) threads o))
goes_on epoch None s' bytes on some = cc
goes_on epoch (Some old) None bytes on some = absurd on
goes_on epoch (Some old) (Some new) bytes on some = (
  new,
  refl,
  λ threads o is. on threads o
      (subst (λ (l : List ℕ). IsFrame l (frame.Output epoch threads o)) (sym (some_same old bytes some)) is),
)

-- a frame that is there stands for one
stood : (epoch : ℕ) (s s' : Option (List ℕ)) → GoesOn epoch s s' → (s' ≡ None) ⊎ (s ≢ None)
stood epoch s None on = inl refl
stood epoch None (Some new) on = absurd on
stood epoch (Some old) (Some new) on = inr (λ e. cc)

module _ (old now : Sending) (frames : List (Address × List ℕ)) (as_now : old ≡ now)
    (turns : TurnsEpoch old.epoch old.frames frames) where
  abbrev next : Sending
  next = record old { epoch = old.epoch + 1; frames = frames }

  stays : (o : Output) → HasOutputFrame old o → HasOutputFrame next o
  stays o has =
      let on = goes_on old.epoch _ (frame_at frames (output_address next o.thread o.number)) has.bytes
      (turns.outputs o.thread o.number) has.there in
      record {
        can = can_in old.epoch (old.epoch + 1) old.threads o (omega arith) has.can;
        bytes = on.0;
        is = on.2 old.threads o has.is;
        there = on.1;
      }

  only_outputs : (a : Address) → (frame_at frames a ≡ None)
      ⊎ (IsOutputOf (old.epoch + 1) a × (frame_at old.frames (output_address old a.thread a.number) ≢ None))
  only_outputs a = go (kind_or a.kind) (cases_lt a.epoch (old.epoch + 1)) (cases_lt (old.epoch + 1) a.epoch)
    where
      kind_or : (k : Kind) → (k ≡ Out) ⊎ (k ≡ Out → ⊥)
      kind_or Log = inr (λ e. cc)
      kind_or Out = inl refl

      go : (a.kind ≡ Out) ⊎ (a.kind ≡ Out → ⊥) → (a.epoch < old.epoch + 1) ⊎ (old.epoch + 1 ≤ a.epoch)
          → (old.epoch + 1 < a.epoch) ⊎ (a.epoch ≤ old.epoch + 1)
          → (frame_at frames a ≡ None)
          ⊎ (IsOutputOf (old.epoch + 1) a × (frame_at old.frames (output_address old a.thread a.number) ≢ None))
      go (inr off) v w = inl (turns.others a (λ is. off is.1))
      go (inl out) (inl low) w = inl (turns.others a (λ is. let e = is.0 in omega (arith, low, e)))
      go (inl out) (inr from) (inl high) = inl (turns.others a (λ is. let e = is.0 in omega (arith, high, e)))
      go (inl out) (inr from) (inr to) =
          on (stood old.epoch (frame_at old.frames (output_address old a.thread a.number))
          (frame_at frames (output_address next a.thread a.number)) (turns.outputs a.thread a.number))
        where
          epoch : a.epoch ≡ old.epoch + 1
          epoch = omega (arith, from, to)

          here : a ≡ output_address next a.thread a.number
          here = same_address a (output_address next a.thread a.number) epoch out refl refl

          on : (frame_at frames (output_address next a.thread a.number) ≡ None)
              ⊎ (frame_at old.frames (output_address old a.thread a.number) ≢ None)
              → (frame_at frames a ≡ None)
              ⊎ (IsOutputOf (old.epoch + 1) a × (frame_at old.frames (output_address old a.thread a.number) ≢ None))
          on (inl none) = inl (ap (λ (b : Address). frame_at frames b) here ∙ none)
          on (inr some) = inr ((epoch, out), some)

  pub begins_epoch : BeginsEpoch now next
  begins_epoch = subst (λ (q : Sending). BeginsEpoch q next) as_now (record {
    stay = stays;
    only = only_outputs;
    entries = refl;
    outputs = refl;
    epoch = refl;
    threads = refl;
  })

-- a frame is off the links, or none is
pub takes_output : (old now : Sending) (frames : List (Address × List ℕ)) (t n : ℕ) → old ≡ now
    → ((a : Address) → a ≢ output_address old t n → frame_at frames a ≡ frame_at old.frames a)
    → TakesOutput now (record old { frames = frames }) t n
takes_output old now frames t n as_now others =
    subst (λ (q : Sending). TakesOutput q (record old { frames = frames }) t n) as_now
    (record { frames = others; entries = refl; outputs = refl; epoch = refl; threads = refl })

pub has_still : (old now : Sending) (frames : List (Address × List ℕ)) (o : Output) → old ≡ now
    → ((a : Address) → frame_at frames a ≡ frame_at old.frames a) → HasOutputFrame now o
    → HasOutputFrame (record old { frames = frames }) o
has_still old now frames o as_now same has =
    let was = subst (λ (q : Sending). HasOutputFrame q o) (sym as_now) has in
    record {
      can = was.can;
      bytes = was.bytes;
      is = was.is;
      there = same (output_address old o.thread o.number) ∙ was.there;
    }

-- the lengths of a thread with one more behind
pub one_longer_is : (lengths : List (List ℕ)) (t threads : ℕ) (now longer : List ℕ) (size is_size : ℕ)
    → now ≡ slice_index_or lengths t now → longer ≡ now ++ size ∷ [] → size ≡ is_size → length lengths ≡ threads
    → t < threads → longer ≡ lengths_of lengths t ++ is_size ∷ []
one_longer_is lengths t threads now longer size is_size is more same count in_range =
    more
    ∙ ap (λ (l : List ℕ). l ++ size ∷ []) (is ∙ get_or_default lengths t now [] (omega arith))
    ∙ ap (λ (n : ℕ). lengths_of lengths t ++ n ∷ []) same
