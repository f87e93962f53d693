-- The box that touches one variable many times.
use Rattle.std.specs.Prelude.{◌≡◌, ℕ, ◌+◌, ◌-◌, ◌%◌, ◌<◌, slice_set, slice_index, replicate, ◌==◌, nat_lt}
use Rattle.std.specs.Prelude.{if◌then◌else◌, decimal}
use Rattle.plain_machine.specs.declared.local.Move.{Move}
use Rattle.plain_machine.specs.declared.local.Move.TheVariants.{Access, Read, Emit, End}
use Rattle.plain_machine.specs.Program.{Meaning, IsLawful}
use Rattle.box_program.specs.Count.{IsCounter, one_more}
use Rattle.std.proofs.Common.{arith}
use Rattle.std.proofs.lemmas.Grind.{common_steps}

-- 60 touches of the variable, then the packet goes out, then the end
abbrev pub touch_next : ℕ → ℕ → Move
touch_next at first = if nat_lt at 60 then Access (first % 4) else if at == 60 then Emit else End

-- the variable is the packet's first byte, modulo 4
abbrev pub touch_meaning : Meaning ℕ
touch_meaning = record {
  vars = 4;
  fresh = λ _. 0;
  begin = λ p. record { at = 0; regs = slice_set (replicate 12 0) 0 (slice_index p.bytes 0) };
  next = λ l. touch_next l.at (slice_index l.regs 0);
  touch = λ _ n l. (one_more n, record l { at = l.at + 1 });
  look = λ _ _ l. l;
  told = λ _ l. l;
  emitted = λ l. record l { at = 61 };
  out = λ p l. p.bytes;
  shown = λ _ n. decimal n;
  rank = λ l. 61 - l.at;
}

touches_one : (at first v : ℕ) → touch_next at first ≡ Access v → v < 4
touches_one at first v e = grind arith

reads_none : {P : Type 0} (at first v : ℕ) → touch_next at first ≡ Read v → P
reads_none at first v e = absurd (grind arith)

pub touch_lawful : IsLawful touch_meaning (λ _ n. IsCounter n)
touch_lawful = record {
  some_vars = omega arith;
  few_vars = omega arith;
  touches_var = λ l. touches_one l.at (slice_index l.regs 0);
  reads_var = λ l v e. reads_none l.at (slice_index l.regs 0) v e;
  begins = λ p. omega arith;
  touch_falls = λ v x l e f. grind arith;
  look_falls = λ v x l e f. reads_none l.at (slice_index l.regs 0) v e;
  clock_falls = λ a l e. absurd (grind arith);
  draw_falls = λ a l e. absurd (grind arith);
  emit_falls = λ l e. grind arith;
  ends = λ l e. grind arith;
  fresh_fits = λ _ _. omega arith;
  touch_fits = λ v x l e f. grind arith;
  as_long = λ p l e. grind (arith, common_steps);
}
