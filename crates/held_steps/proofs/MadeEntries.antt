-- An entry that was made is held at once.
use Rattle.std.proofs.Common.{◌≡◌, ◌≢◌, ℕ, ◌+◌, ◌<◌, ◌≤◌, List, [], ◌∷◌, ◌++◌, length, refl, sym, ap, ◌∙◌, subst, inl}
use Rattle.std.proofs.Common.{inr}
use Rattle.std.proofs.Common.{◌⊎◌, Option, Some, None, arith}
use Rattle.std.specs.Prelude.{Result, Ok, IsSome}
use Rattle.std.proofs.lemmas.Bool.{cases_lt}
use Rattle.plain_text.specs.declared.memory.NoMemory.{NoMemory}
use Rattle.plain_text.specs.declared.kind.Kind.TheVariants.{Log}
use Rattle.access_log.specs.declared.entry.StampedEntry.{StampedEntry}
use Rattle.access_log.specs.declared.entry.Output.{Output}
use Rattle.access_log.specs.Held.{Lane, lane, entry_at, IsFrontier, IsKnown}
use Rattle.access_log.specs.Lanes.{PutsEntry}
use Rattle.output_logger.specs.declared.took.EntryTook.{EntryTook}
use Rattle.output_logger.specs.declared.took.EntryTook.TheVariants as took_of
use Rattle.output_logger.specs.Logger.{Logger, IsDue, ReleasesOnce, Parts as LoggerParts}
use Rattle.output_logger.proofs.KeptLemmas.{more_with_entry}
use Rattle.link_store.specs.declared.address.Address.{Address}
use Rattle.link_store.specs.Links.{address, frame_at, IsUpTo}
use Rattle.link_store.proofs.RunLemmas.{at_head, past_head}
use Rattle.link_store.specs.Sending.{Sending, one_longer, entry_size, entry_address, SendsEntry, CountsEntry}
use Rattle.link_store.specs.Sending.{ForgetsEntries}
use Rattle.system_parts.specs.Parts.{Parts}
use Rattle.held_steps.specs.Holding.{IsNextHeld, HoldsMade}

pub is_new : (r : Result EntryTook NoMemory) (took : EntryTook) → r ≡ Ok took → (r ≡ Ok took_of.Known → ⊥)
    → (r ≡ Ok took_of.OldEpoch → ⊥) → r ≡ Ok took_of.New
is_new r took_of.New is known old = is
is_new r took_of.Known is known old = absurd (known is)
is_new r took_of.OldEpoch is known old = absurd (old is)

pub next_fresh : (held : List Lane) (e : StampedEntry) → IsNextHeld held e → IsKnown (lane held e.thread) e.number → ⊥
next_fresh held e (f, frontier, is) k = frontier.ends (subst (λ (n : ℕ). IsKnown (lane held e.thread) n) is k)

pub made_held : {P V : Type 0} (view now : Parts P V) (e : StampedEntry) (counted links : Sending) (logger : Logger)
    (before out go : List Output) (known : ℕ) → view ≡ now → CountsEntry view.sent counted e
    → e.thread < length view.sent.entries → IsNextHeld now.logger.held e → IsFrontier (lane logger.held e.thread) known
    → ForgetsEntries counted links e.thread known
    → PutsEntry (lane view.logger.held e.thread) (lane logger.held e.thread) e.number e
    → ((u : ℕ) → u ≢ e.thread → lane logger.held u ≡ lane view.logger.held u)
    → LoggerParts (IsDue logger.held) view.logger.waiting go logger.waiting
    → ReleasesOnce view.logger.released logger.released go → logger.epoch ≡ view.logger.epoch → out ≡ before ++ go
    → HoldsMade e before out now (record view { sent = links; logger = logger })
made_held {P} {V} view now e counted links logger before out go known same counts there next frontier forgets puts
    others parts once epoch appends =
    subst (λ (q : Parts P V). HoldsMade e before out q (record view { sent = links; logger = logger })) same (record {
      counted = counted;
      counts = counts;
      there = there;
      next = subst (λ (q : Parts P V). IsNextHeld q.logger.held e) (sym same) next;
      known = known;
      frontier = frontier;
      forgets = forgets;
      puts = puts;
      others = others;
      go = go;
      appends = appends;
      parts = parts;
      once = once;
      epoch = epoch;
      new_is = refl;
    })

-- The same, as if its frame had been sent first.

module _ {P V : Type 0} (e : StampedEntry) (before out : List Output) (old new : Parts P V)
    (h : HoldsMade e before out old new) where
  abbrev pub at : Address
  at = entry_address old.sent e.thread e.number

  abbrev pub spelled : Sending
  spelled = record {
    epoch = old.sent.epoch;
    threads = old.sent.threads;
    frames = (at, h.counts.bytes) ∷ old.sent.frames;
    entries = one_longer old.sent.entries e.thread (entry_size e);
    outputs = old.sent.outputs;
  }

  pub sends : SendsEntry old.sent spelled e
  sends = record {
    frame = record {
      can = h.counts.can;
      bytes = h.counts.bytes;
      is = h.counts.is;
      there = at_head at h.counts.bytes old.sent.frames at refl;
    };
    sends = record {
      sent = at_head at h.counts.bytes old.sent.frames at refl;
      others = λ b ne. past_head at h.counts.bytes old.sent.frames b ne;
    };
    entries = refl;
    outputs = refl;
    epoch = refl;
    threads = refl;
  }

  grows : (u n : ℕ) → IsKnown (lane old.logger.held u) n → IsKnown (lane new.logger.held u) n
  grows u n k = more_with_entry old.logger.held new.logger.held e.thread e.number e h.puts h.others u n k

  number_low : e.number ≤ h.known
  number_low = go (cases_lt h.known e.number) (cases_lt h.next.0 (h.known + 1))
    where
      here : IsKnown (lane new.logger.held e.thread) e.number
      here = inr (subst (λ (o : Option StampedEntry). IsSome o) (sym h.puts.put) refl)

      go : (h.known < e.number) ⊎ (e.number ≤ h.known) → (h.next.0 < h.known + 1) ⊎ (h.known + 1 ≤ h.next.0)
          → e.number ≤ h.known
      go (inr low) b = low
      go (inl high) (inr low) =
          absurd (h.frontier.ends (grows e.thread (h.known + 1) (h.next.1.reached (h.known + 1) low)))
      go (inl high) (inl more) =
          let q = h.next.2 in
          let same : e.number ≡ h.known + 1 = omega (arith, high, more, q) in
          absurd (h.frontier.ends (subst (λ (n : ℕ). IsKnown (lane new.logger.held e.thread) n) same here))

  pub forgets : ForgetsEntries spelled new.sent e.thread h.known
  forgets = record {
    forgets = record {
      forgotten = λ a up. h.forgets.forgets.forgotten a
          (subst (λ (k : ℕ). IsUpTo (address k Log e.thread h.known) a) (sym h.counts.epoch) up);
      others = λ a apart.
          h.forgets.forgets.others a
          (λ up. apart (subst (λ (k : ℕ). IsUpTo (address k Log e.thread h.known) a) h.counts.epoch up))
          ∙ (ap (λ (l : List (Address × List ℕ)). frame_at l a) h.counts.frames
          ∙ sym (past_head at h.counts.bytes old.sent.frames a (λ same. apart (record {
            epoch = ap (λ (b : Address). b.epoch) same;
            kind = ap (λ (b : Address). b.kind) same;
            thread = ap (λ (b : Address). b.thread) same;
            number = let q = ap (λ (b : Address). b.number) same in let low = number_low in omega (arith, q, low);
          }))));
    };
    entries = h.forgets.entries ∙ h.counts.entries;
    outputs = h.forgets.outputs ∙ h.counts.outputs;
    epoch = h.forgets.epoch ∙ h.counts.epoch;
    threads = h.forgets.threads ∙ h.counts.threads;
  }
