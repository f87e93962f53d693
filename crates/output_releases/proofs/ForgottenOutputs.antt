-- Frames of released outputs are forgotten: the system stands for the same world.
use Rattle.std.proofs.Common.{◌≡◌, ◌≢◌, ℕ, zero, suc, ◌+◌, ◌<◌, ◌≤◌, List, length, refl, sym, ap, ◌∙◌, inl, inr, ◌⊎◌}
use Rattle.std.proofs.Common.{Some, None, arith}
use Rattle.plain_text.specs.declared.kind.Kind.TheVariants.{Log, Out}
use Rattle.entry_order.specs.Log.{Entry}
use Rattle.entry_order.proofs.Order.{is_or}
use Rattle.access_log.specs.Held.{Lane}
use Rattle.dup_filter.specs.Numbers.{Numbers, numbers}
use Rattle.link_store.specs.declared.address.Address.{Address}
use Rattle.link_store.specs.Links.{address, frame_at, IsUpTo}
use Rattle.plain_machine.specs.Program.{Meaning}
use Rattle.plain_machine.specs.History.{Step}
use Rattle.recovery_world.specs.World.{Setting, Sent, World}
use Rattle.link_store.specs.Sending.{Sending, length_at, lengths_of, entry_address, output_address, ForgetsOutputs}
use Rattle.output_releases.specs.Released.{ForgetsReleased, AreForgotten}
use Rattle.system_parts.specs.Parts.{Parts}
use Rattle.system_parts.specs.SystemStanding.{IsSentEntry, IsSentOutput, HasSent, StandsFor}
use Rattle.system_parts.proofs.SentLemmas.{entry_stays_sent, output_stays_sent}
use Rattle.system_parts.proofs.SnapshotLemmas.{address_or}

-- What is forgotten by several calls

pub forgets_none : (sent : Sending) (released : List Numbers) → ForgetsReleased sent sent released
forgets_none sent released =
    record { each = λ a. inl refl; entries = refl; outputs = refl; epoch = refl; threads = refl }

pub forgets_more : (old mid new : Sending) (released : List Numbers) (t up_to : ℕ) → up_to ≡ (numbers released t).floor
    → ForgetsReleased old mid released → ForgetsOutputs mid new t up_to → ForgetsReleased old new released
forgets_more old mid new released t up_to is h f = record {
  each = λ a. go a (address_or (output_address mid t up_to) a) (h.each a);
  entries = f.entries ∙ h.entries;
  outputs = f.outputs ∙ h.outputs;
  epoch = f.epoch ∙ h.epoch;
  threads = f.threads ∙ h.threads;
}
  where
    go : (a : Address) → IsUpTo (output_address mid t up_to) a ⊎ (IsUpTo (output_address mid t up_to) a → ⊥)
        → (frame_at mid.frames a ≡ frame_at old.frames a)
        ⊎ ((frame_at mid.frames a ≡ None) × (a.epoch ≡ old.epoch) × (a.kind ≡ Out)
        × (a.number ≤ (numbers released a.thread).floor))
        → (frame_at new.frames a ≡ frame_at old.frames a)
        ⊎ ((frame_at new.frames a ≡ None) × (a.epoch ≡ old.epoch) × (a.kind ≡ Out)
        × (a.number ≤ (numbers released a.thread).floor))
    go a (inl up) k =
        let low : a.number ≤ up_to = up.number in
        let same : t ≡ a.thread = sym up.thread in
        let floor : up_to ≡ (numbers released a.thread).floor = is ∙ ap (λ (u : ℕ). (numbers released u).floor) same in
        inr (f.forgets.forgotten a up, up.epoch ∙ h.epoch, up.kind, omega (arith, low, floor))
    go a (inr apart) (inl same) = inl (f.forgets.others a apart ∙ same)
    go a (inr apart) (inr k) = inr (f.forgets.others a apart ∙ k.0, k.1, k.2, k.3)

-- those of the threads before one, and its own
pub forgotten_more : (mid new : Sending) (released : List Numbers) (t up_to : ℕ) → up_to ≡ (numbers released t).floor
    → AreForgotten mid released t → ForgetsOutputs mid new t up_to → AreForgotten new released (t + 1)
forgotten_more mid new released t up_to is h f u n less low =
    ap (λ (k : ℕ). frame_at new.frames (address k Out u n)) f.epoch ∙ go (is_or u t)
  where
    go : (u ≡ t) ⊎ (u ≢ t) → frame_at new.frames (output_address mid u n) ≡ None
    go (inl own) =
        let floor : (numbers released u).floor ≡ (numbers released t).floor =
        ap (λ (k : ℕ). (numbers released k).floor) own in
        f.forgets.forgotten (output_address mid u n)
        (record { epoch = refl; kind = refl; thread = own; number = omega (arith, low, floor, is) })
    go (inr other) =
        f.forgets.others (output_address mid u n) (λ up. other up.thread) ∙ h u n (omega (arith, less, other)) low

-- by a call for one thread
pub forgets_own : (old new : Sending) (released : List Numbers) (t up_to : ℕ) → up_to ≡ (numbers released t).floor
    → ForgetsOutputs old new t up_to → ForgetsReleased old new released
forgets_own old new released t up_to is f = forgets_more old old new released t up_to is (forgets_none old released) f

-- a frame that has a length has a number
from_one : (lengths : List (List ℕ)) (t n size : ℕ) → length_at lengths t n ≡ Some size → 1 ≤ n
from_one lengths t zero size is = absurd (cc)
from_one lengths t (suc n) size is = omega arith

-- What was sent is so still.
module _ (old new : Sending) (released : List Numbers) (forgets : ForgetsReleased old new released) where
  entry_frames : (t n : ℕ) → frame_at new.frames (entry_address old t n) ≡ frame_at old.frames (entry_address old t n)
  entry_frames t n = go (forgets.each (entry_address old t n))
    where
      go : (frame_at new.frames (entry_address old t n) ≡ frame_at old.frames (entry_address old t n))
          ⊎ ((frame_at new.frames (entry_address old t n) ≡ None) × (old.epoch ≡ old.epoch) × (Log ≡ Out)
          × (n ≤ (numbers released t).floor))
          → frame_at new.frames (entry_address old t n) ≡ frame_at old.frames (entry_address old t n)
      go (inl same) = same
      go (inr k) = absurd (let kind = k.2 in cc)

  entry_still : (log : List Entry) (held : List Lane) (e : Entry) → IsSentEntry log held old e
      → IsSentEntry log held new e
  entry_still log held e h =
      entry_stays_sent log log held old new e forgets.epoch forgets.threads (λ stamp is. is)
      (λ k is. ap (λ (l : List (List ℕ)). length_at l e.thread e.number) forgets.entries ∙ is)
      (entry_frames e.thread e.number) h

  output_still : (log : List Entry) (o : Sent) → IsSentOutput log released old o → IsSentOutput log released new o
  output_still log o h = go (forgets.each (output_address old o.emission.thread o.emission.number))
    where
      sizes : (k : ℕ) → length_at old.outputs o.emission.thread o.emission.number ≡ Some k
          → length_at new.outputs o.emission.thread o.emission.number ≡ Some k
      sizes k is = ap (λ (l : List (List ℕ)). length_at l o.emission.thread o.emission.number) forgets.outputs ∙ is

      go : (frame_at new.frames (output_address old o.emission.thread o.emission.number)
          ≡ frame_at old.frames (output_address old o.emission.thread o.emission.number))
          ⊎ ((frame_at new.frames (output_address old o.emission.thread o.emission.number) ≡ None)
          × (old.epoch ≡ old.epoch) × (Out ≡ Out) × (o.emission.number ≤ (numbers released o.emission.thread).floor))
          → IsSentOutput log released new o
      go (inl same) =
          output_stays_sent log log released old new o forgets.epoch forgets.threads (λ stamp is. is) sizes same h
      go (inr gone) = record {
        stamped = h.stamped;
        plain = h.plain;
        stamp = h.stamp;
        size = sizes _ h.size;
        there = inr (
          ap (λ (k : ℕ). frame_at new.frames (address k Out o.emission.thread o.emission.number)) forgets.epoch
              ∙ gone.0,
          inl (from_one old.outputs o.emission.thread o.emission.number _ h.size, gone.3),
        );
      }

  pub sent_still : {V : Type 0} (now : ℕ) (past : List (Step V)) (held : List Lane) → HasSent now past held released old
      → HasSent now past held released new
  sent_still {V} now past held h = record {
    epoch = forgets.epoch ∙ h.epoch;
    entry_sent = λ e i. entry_still _ held e (h.entry_sent e i);
    output_sent = λ o sends. output_still _ o (h.output_sent o sends);
    entry_counts = λ t. ap (λ (l : List (List ℕ)). length (lengths_of l t)) forgets.entries ∙ h.entry_counts t;
    output_counts = λ t. ap (λ (l : List (List ℕ)). length (lengths_of l t)) forgets.outputs ∙ h.output_counts t;
    none_later = λ a later. go a later (forgets.each a);
  }
    where
      go : (a : Address) → now < a.epoch
          → (frame_at new.frames a ≡ frame_at old.frames a)
          ⊎ ((frame_at new.frames a ≡ None) × (a.epoch ≡ old.epoch) × (a.kind ≡ Out)
          × (a.number ≤ (numbers released a.thread).floor)) → frame_at new.frames a ≡ None
      go a later (inl same) = same ∙ h.none_later a later
      go a later (inr k) = k.0

-- the system stands for the same world
pub stands_forgotten : {P V : Type 0} (m : Meaning V) (s : Setting V) (w : World V) (y : Parts P V) (links : Sending)
    → ForgetsReleased y.sent links y.logger.released → StandsFor m s w y → StandsFor m s w (record y { sent = links })
stands_forgotten {P} {V} m s w y links forgets st = record {
  sound = st.sound;
  within = st.within;
  inputs = record {
    meaning = st.inputs.meaning;
    fractions = st.inputs.fractions;
    inputs = st.inputs.inputs;
    left = st.inputs.left;
    clock = st.inputs.clock;
    generator = st.inputs.generator;
  };
  master = record {
    up = st.master.up;
    stands = st.master.stands;
    schedule = st.master.schedule;
    past = st.master.past;
    moves = st.master.moves;
    bytes = st.master.bytes;
  };
  snapshots = st.snapshots;
  ended = st.ended;
  guide = st.guide;
  sent = sent_still y.sent links y.logger.released forgets w.epoch w.past y.logger.held st.sent;
  logger = st.logger;
  released = st.released;
}
