-- The box for tests that counts packets of an even number of bytes, and shows the number to the others.
use Rattle.std.specs.Prelude.{◌≡◌, ℕ, zero, suc, ◌-◌, ◌%◌, ◌<◌, length, slice_set, slice_index, replicate, ◌==◌}
use Rattle.std.specs.Prelude.{if◌then◌else◌, decimal}
use Rattle.plain_machine.specs.declared.local.Move.{Move}
use Rattle.plain_machine.specs.declared.local.Move.TheVariants.{Access, Read, Emit, End}
use Rattle.plain_machine.specs.Program.{Meaning, IsLawful}
use Rattle.box_program.specs.Count.{IsCounter, numbered, one_more}
use Rattle.std.proofs.Common.{arith}
use Rattle.std.proofs.lemmas.Grind.{common_steps}

-- the touch or the read, then the packet goes out, then the end
abbrev pub peek_next : ℕ → Move
peek_next at = if at == 0 then Access 0 else if at == 1 then Read 0 else if at == 2 then Emit else End

abbrev pub peek_meaning : Meaning ℕ
peek_meaning = record {
  vars = 1;
  fresh = λ _. 0;
  begin = λ p. record { at = if length p.bytes % 2 == 0 then 0 else 1; regs = replicate 12 0 };
  next = λ l. peek_next l.at;
  touch = λ _ n l. (one_more n, record { at = 2; regs = slice_set l.regs 0 (one_more n) });
  look = λ _ n l. record { at = 2; regs = slice_set l.regs 0 n };
  told = λ _ l. l;
  emitted = λ l. record l { at = 3 };
  out = λ p l. numbered p.bytes (slice_index l.regs 0);
  shown = λ _ n. decimal n;
  rank = λ l. 3 - l.at;
}

peek_touches : (at v : ℕ) → peek_next at ≡ Access v → v < 1
peek_touches zero v e = grind arith
peek_touches (suc zero) v e = absurd (grind arith)
peek_touches (suc (suc zero)) v e = absurd (grind arith)
peek_touches (suc (suc (suc at))) v e = absurd (grind arith)

peek_reads : (at v : ℕ) → peek_next at ≡ Read v → v < 1
peek_reads zero v e = absurd (grind arith)
peek_reads (suc zero) v e = grind arith
peek_reads (suc (suc zero)) v e = absurd (grind arith)
peek_reads (suc (suc (suc at))) v e = absurd (grind arith)

pub peek_lawful : IsLawful peek_meaning (λ _ n. IsCounter n)
peek_lawful = record {
  some_vars = omega arith;
  few_vars = omega arith;
  touches_var = λ l. peek_touches l.at;
  reads_var = λ l. peek_reads l.at;
  begins = λ p. omega arith;
  touch_falls = λ v x l e f. grind arith;
  look_falls = λ v x l e f. grind arith;
  clock_falls = λ a l e. grind arith;
  draw_falls = λ a l e. grind arith;
  emit_falls = λ l e. grind arith;
  ends = λ l e. grind arith;
  fresh_fits = λ _ _. omega arith;
  touch_fits = λ v x l e f. grind arith;
  as_long = λ p l e. grind (arith, common_steps);
}
