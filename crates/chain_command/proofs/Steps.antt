-- What an event of a chain leaves is written, and the events of a script one after another.
use Rattle.std.proofs.Common.{◌≡◌, ℕ, ◌+◌, ◌<◌, ◌≤◌, List, [], ◌∷◌, ◌++◌, take, drop, length, refl, sym, ap, ◌∙◌}
use Rattle.std.proofs.Common.{append_assoc, subst, Result, Ok, Err, zero, suc, arith, add-one, get_or}
use Rattle.std.specs.Prelude.{⊤, All, IsErrOf, OnOk}
use Rattle.plain_text.specs.declared.limit.Limit.{Limit}
use Rattle.access_log.specs.declared.entry.Output.{Output}
use Rattle.plain_machine.specs.Program.{Meaning}
use Rattle.world_io.specs.World.{Shown}
use Rattle.recovery_world.specs.World.{Setting, Sent}
use Rattle.recovery_world.specs.Files.{sent_names}
use Rattle.event_replies.specs.declared.reply.Reply.{Reply as SystemReply}
use Rattle.output_files.specs.declared.error.OutputError.{OutputError}
use Rattle.output_files.specs.declared.error.OutputError.TheVariants as output
use Rattle.output_files.specs.Writes.{Write, HasBegun, KeepsOutputs}
use Rattle.output_files.specs.Written.{Writes, WritesGathered}
use Rattle.output_files.proofs.Effects.{begun_before}
use Rattle.run_writes.specs.Errors.{run_error_of, run_result_of, stopped_result}
use Rattle.run_writes.specs.declared.error.RunError.{RunError}
use Rattle.run_writes.specs.declared.error.RunError.TheVariants as run
use Rattle.run_writes.specs.Replies.{packets_in}
use Rattle.run_writes.specs.Run.{FitsRecord}
use Rattle.chain_world.specs.declared.chain_event.ChainEvent.{ChainEvent}
use Rattle.chain_world.specs.Chain.{NamesSystem, chain_line}
use Rattle.chain_box.specs.Chains.{TwoSystems}
use Rattle.chain_command.specs.declared.opening.ChainNumbers.{ChainNumbers}
use Rattle.chain_command.specs.Outputs.{ChainNames}
use Rattle.chain_command.specs.Replies.{ChainReply}
use Rattle.chain_command.specs.Running.{AreOpen, HasCome, WritesPerformed}
use Rattle.chain_command.specs.Writes.{passed_writes, reply_writes}

-- Of one event

module _ (writes rest : List Write) (first : Write) (a b : Shown) where
  -- the first of the writes was begun
  pub first_begun : HasBegun (writes ++ first ∷ []) a b → HasBegun (writes ++ first ∷ rest) a b
  first_begun h =
      subst (λ (ws : List Write). HasBegun ws a b) (append_assoc writes (first ∷ []) rest)
      (begun_before (writes ++ first ∷ []) rest a b h)

  -- the first was done, and then the others were
  pub then_gathered : {A : Type 0} (q : Result A OutputError) (lines : List ℕ)
      → WritesGathered q ((writes ++ first ∷ []) ++ rest) lines a b
      → WritesGathered q (writes ++ first ∷ rest) lines a b
  then_gathered q lines h =
      subst (λ (ws : List Write). WritesGathered q ws lines a b) (append_assoc writes (first ∷ []) rest) h

  pub then_written : {A : Type 0} (q : Result A OutputError) → Writes q ((writes ++ first ∷ []) ++ rest) a b
      → Writes q (writes ++ first ∷ rest) a b
  then_written q h = subst (λ (ws : List Write). Writes q ws a b) (append_assoc writes (first ∷ []) rest) h

pub still_open : (names : ChainNames) (o : ChainNumbers) (a b : Shown) → KeepsOutputs a b → AreOpen names o a
    → AreOpen names o b
still_open names o a b keeps are = record {
  middle = keeps o.middle names.middle are.middle;
  released = keeps o.released names.released are.released;
  first = keeps o.first_schedule names.first_schedule are.first;
  second = keeps o.second_schedule names.second_schedule are.second;
}

module _ (came : Result SystemReply Limit) (ev : ChainEvent) (middle released own other : List Output)
    (writes : List Write) (names : ChainNames) (more : List ℕ) (a b : Shown) (same : middle ≡ own)
    (same_other : released ≡ other) where
  by_name : (q : Result ⊤ RunError) (z : Result SystemReply Limit) → came ≡ z
      → WritesPerformed q z ev (packets_in middle) (packets_in released) writes names more a b
      → WritesPerformed q came ev (packets_in own) (packets_in other) writes names more a b
  by_name q z is h =
      subst (λ (l : List Output). WritesPerformed q came ev (packets_in own) (packets_in l) writes names more a b)
      same_other
      (subst (λ (l : List Output). WritesPerformed q came ev (packets_in l) (packets_in released) writes names more a b)
      same
      (subst (λ (x : Result SystemReply Limit).
      WritesPerformed q x ev (packets_in middle) (packets_in released) writes names more a b) (sym is) h))

  pub answer_written : (reply : SystemReply) (q : Result ⊤ RunError) (files : Result ⊤ OutputError) → came ≡ Ok reply
      → q ≡ run_result_of files → OnOk files (All FitsRecord (packets_in middle) × All FitsRecord (packets_in released))
      → ((freed : List Sent) → reply.released ≡ sent_names freed
      → WritesGathered files
      (writes
      ++ reply_writes names
      (record {
        middle = packets_in middle;
        released = packets_in released;
        line = chain_line ev reply.outcome freed;
      })) more a b) → WritesPerformed q came ev (packets_in own) (packets_in other) writes names more a b
  answer_written reply q files is made fit written =
      by_name q (Ok reply) is (λ freed named. (files, made, fit, written freed named))

  pub stop_written : (limit : Limit) (q : Result ⊤ RunError) (files : Result ⊤ OutputError) → came ≡ Err limit
      → q ≡ stopped_result files limit
      → Writes files (writes ++ passed_writes names (packets_in middle) (packets_in released)) a b
      → WritesPerformed q came ev (packets_in own) (packets_in other) writes names more a b
  stop_written limit q files is made written = by_name q (Err limit) is (files, made, written)

pub both_fit : {A E : Type 0} (X Y : Type 0) (q : Result A E) → OnOk q X → OnOk q Y → OnOk q (X × Y)
both_fit X Y (Ok done) x y = (x, y)
both_fit X Y (Err e) x y = tt

-- Errors

-- an error of a run is a write fault only where that of its outputs is
pub fault_written : (q : Result ⊤ OutputError) → IsErrOf (run_result_of q) run.WriteFault → IsErrOf q output.WriteFault
fault_written (Ok done) h = absurd (cc)
fault_written (Err output.WriteFault) h = refl
fault_written (Err output.NoMemory) h = absurd (cc)

-- an error of the outputs is no limit
pub no_limit : (w : Result ⊤ OutputError) (limit : Limit) → run_result_of w ≡ Err (run.Limit limit) → ⊥
no_limit (Ok done) limit e = cc
no_limit (Err output.WriteFault) limit e = cc
no_limit (Err output.NoMemory) limit e = cc

-- a chain whose outputs could not be opened has a write fault only where they had one
pub fault_opened : {A B : Type 0} (w : Result B RunError) (q : Result A OutputError) (e : OutputError)
    → w ≡ Err (run_error_of e) → q ≡ Err e → IsErrOf w run.WriteFault → IsErrOf q output.WriteFault
fault_opened w q output.WriteFault made was fault = was
fault_opened w q output.NoMemory made was fault = absurd (cc)

-- Of several

-- the first events, with one more, and those behind it
pub split_here : (events : List ChainEvent) (i : ℕ) (x : ChainEvent) → i < length events → x ≡ get_or events i x
    → events ≡ (take i events ++ x ∷ []) ++ drop (suc i) events
split_here [] i x low is = absurd (omega arith)
split_here (y ∷ events) zero x low is = ap (λ (z : ChainEvent). z ∷ events) (sym is)
split_here (y ∷ events) (suc i) x low is = ap (λ l. y ∷ l) (split_here events i x (omega arith) is)

take_here : (events : List ChainEvent) (i : ℕ) (x : ChainEvent) → i < length events → x ≡ get_or events i x
    → take (suc i) events ≡ take i events ++ x ∷ []
take_here [] i x low is = absurd (omega arith)
take_here (y ∷ events) zero x low is = ap (λ (z : ChainEvent). z ∷ []) (sym is)
take_here (y ∷ events) (suc i) x low is = ap (λ l. y ∷ l) (take_here events i x (omega arith) is)

any_item : (l : List ChainEvent) (i : ℕ) (d e : ChainEvent) → i < length l → get_or l i d ≡ get_or l i e
any_item [] i d e low = absurd (omega arith)
any_item (y ∷ l) zero d e low = refl
any_item (y ∷ l) (suc i) d e low = any_item l i d e (omega arith)

-- an element is itself, whatever stands for one that is not there
pub same_item : (events : List ChainEvent) (i : ℕ) (d : ChainEvent) → i < length events
    → get_or events i d ≡ get_or events i (get_or events i d)
same_item events i d low = any_item events i d (get_or events i d) low

take_all : (events : List ChainEvent) (n : ℕ) → length events ≤ n → take n events ≡ events
take_all [] zero low = refl
take_all [] (suc n) low = refl
take_all (y ∷ events) zero low = absurd (omega arith)
take_all (y ∷ events) (suc n) low = ap (λ l. y ∷ l) (take_all events n (omega arith))

-- each event is one of a system
pub named_here : (events : List ChainEvent) (i : ℕ) (d : ChainEvent) → All NamesSystem events → i < length events
    → NamesSystem (get_or events i d)
named_here events i d all low = all i d low

module _ {P V Q U : Type 0} (mean : P → Meaning V) (other : Q → Meaning U) (s : Setting V) (r : Setting U)
    (names : ChainNames) (events : List ChainEvent) (y : TwoSystems P V Q U) (lines : List ℕ) (a b : Shown) where
  -- it has come one event further
  pub come_on : (i : ℕ) (x : ChainEvent) → i < length events → x ≡ get_or events i x
      → HasCome mean other s r names (take i events ++ x ∷ []) y lines a b
      → HasCome mean other s r names (take (i + 1) events) y lines a b
  come_on i x low is h =
      rw add-one (subst (λ (l : List ChainEvent). HasCome mean other s r names l y lines a b)
      (sym (take_here events i x low is)) h)

  pub come_all : (n : ℕ) → length events ≤ n → HasCome mean other s r names (take n events) y lines a b
      → HasCome mean other s r names events y lines a b
  come_all n low h =
      subst (λ (l : List ChainEvent). HasCome mean other s r names l y lines a b) (take_all events n low) h
