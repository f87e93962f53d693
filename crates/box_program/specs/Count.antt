-- The box that counts: one number, which grows by one at each packet and is written into it.
use Rattle.std.specs.Prelude.{◌≡◌, ℕ, zero, suc, ◌+◌, ◌-◌, ◌%◌, ◌^◌, ◌<◌, List, ◌++◌, length, take, drop, slice_set}
use Rattle.std.specs.Prelude.{slice_index, replicate, nat_lt, ◌==◌, if◌then◌else◌, decimal}
use Rattle.std.specs.Int.{to_be_bytes, w32}
use Rattle.plain_machine.specs.declared.local.Move.{Move}
use Rattle.plain_machine.specs.declared.local.Move.TheVariants.{Access, Read, Emit, End}
use Rattle.plain_machine.specs.Program.{Meaning, IsLawful}
use Rattle.std.proofs.Common.{arith}
use Rattle.std.proofs.lemmas.Grind.{common_steps}

-- the touch, then the packet goes out, then the end
abbrev pub count_next : ℕ → Move
count_next at = if at == 0 then Access 0 else if at == 1 then Emit else End

-- a counter has 64 bits, and starts again at 0
abbrev pub one_more : ℕ → ℕ
one_more n = (n + 1) % 2 ^ 64

-- bytes 2 to 5 are the low 32 bits of the number, big-endian; fewer than 6 bytes stay as they are
abbrev pub numbered : List ℕ → ℕ → List ℕ
numbered bytes n =
    if nat_lt (length bytes) 6 then bytes else take 2 bytes ++ to_be_bytes w32 (n % 2 ^ 32) ++ drop 6 bytes

abbrev pub count_meaning : Meaning ℕ
count_meaning = record {
  vars = 1;
  fresh = λ _. 0;
  begin = λ _. record { at = 0; regs = replicate 12 0 };
  next = λ l. count_next l.at;
  touch = λ _ n l. (one_more n, record { at = 1; regs = slice_set l.regs 0 (one_more n) });
  look = λ _ _ l. l;
  told = λ _ l. l;
  emitted = λ l. record l { at = 2 };
  out = λ p l. numbered p.bytes (slice_index l.regs 0);
  shown = λ _ n. decimal n;
  rank = λ l. 2 - l.at;
}

-- a value of 64 bits
abbrev pub IsCounter : ℕ → Type 0
IsCounter n = n < 2 ^ 64

count_touches : (at v : ℕ) → count_next at ≡ Access v → v < 1
count_touches zero v e = grind arith
count_touches (suc zero) v e = grind arith
count_touches (suc (suc at)) v e = grind arith

count_reads : {P : Type 0} (at v : ℕ) → count_next at ≡ Read v → P
count_reads zero v e = absurd (grind arith)
count_reads (suc zero) v e = absurd (grind arith)
count_reads (suc (suc at)) v e = absurd (grind arith)

pub count_lawful : IsLawful count_meaning (λ _ n. IsCounter n)
count_lawful = record {
  some_vars = omega arith;
  few_vars = omega arith;
  touches_var = λ l. count_touches l.at;
  reads_var = λ l v e. count_reads l.at v e;
  begins = λ p. omega arith;
  touch_falls = λ v x l e f. grind arith;
  look_falls = λ v x l e f. count_reads l.at v e;
  clock_falls = λ a l e. grind arith;
  draw_falls = λ a l e. grind arith;
  emit_falls = λ l e. grind arith;
  ends = λ l e. grind arith;
  fresh_fits = λ _ _. omega arith;
  touch_fits = λ v x l e f. grind arith;
  as_long = λ p l e. grind (arith, common_steps);
}
