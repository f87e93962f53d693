-- A worked run, by computation: a box that counts in one variable, two threads with one packet each, the moves 1, 1, 0,
-- 0.
use Rattle.std.proofs.Common.{◌≡◌, ℕ, ◌+◌, List, [], ◌∷◌, refl, None, Result, Ok, Err, cond}
use Rattle.std.specs.Prelude.{nat_eq}
use Rattle.plain_text.specs.declared.packet.Packet.{Packet}
use Rattle.entry_order.specs.declared.what.What.TheVariants as what
use Rattle.entry_order.specs.Log.{Entry}
use Rattle.entry_order.specs.Stamps.{stamp}
use Rattle.plain_machine.specs.declared.local.Local.{Local}
use Rattle.plain_machine.specs.declared.local.Move.TheVariants.{Access, Emit, End}
use Rattle.plain_machine.specs.declared.plain_move.PlainMove.{PlainMove}
use Rattle.plain_machine.specs.declared.plain_move.PlayFault.{PlayFault}
use Rattle.plain_machine.specs.Program.{Meaning}
use Rattle.plain_machine.specs.History.{Step, log_of, play}

place : ℕ → Local
place n = record { at = n; regs = [] }

-- adds one to the variable, sends the packet out and ends
counting : Meaning ℕ
counting = record {
  vars = 1;
  fresh = λ v. 0;
  begin = λ p. place 0;
  next = λ l. cond (nat_eq l.at 0) (Access 0) (cond (nat_eq l.at 1) Emit End);
  touch = λ v x l. (x + 1, place 1);
  look = λ v x l. l;
  told = λ a l. l;
  emitted = λ l. place 2;
  out = λ p l. p.bytes;
  shown = λ v x. [];
  rank = λ l. 2;
}

log_after : Result (List (Step ℕ)) PlayFault → List Entry
log_after (Ok steps) = log_of steps
log_after (Err fault) = []

move : ℕ → PlainMove
move t = record { thread = t; answer = None }

first : Entry
first = record { thread = 1; number = 1; what = what.Access 0 1 }

second : Entry
second = record { thread = 0; number = 1; what = what.Access 0 2 }

-- the touch of thread 1 has place 1, and that of thread 0 place 2
log_is : (p : Packet)
    → log_after (play counting (λ t. p ∷ []) 2 (move 1 ∷ move 1 ∷ move 0 ∷ move 0 ∷ [])) ≡ second ∷ first ∷ []
unfolding place counting log_after move first second
log_is p = refl

-- their stamps are (0, 1) and (1, 1)
first_stamp : (stamp first [] 0 ≡ 0) × (stamp first [] 1 ≡ 1)
unfolding first
first_stamp = (refl, refl)

second_stamp : (stamp second (first ∷ []) 0 ≡ 1) × (stamp second (first ∷ []) 1 ≡ 1)
unfolding first second
second_stamp = (refl, refl)
