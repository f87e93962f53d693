-- A program for tests: the box that counts, with a second variable that no packet touches.
use Rattle.std.specs.Prelude.{ℕ, ◌<◌}
use Rattle.std.proofs.Common.{arith}
use Rattle.plain_machine.specs.Program.{Meaning, IsLawful}
use Rattle.box_program.specs.Count.{count_meaning, count_lawful, IsCounter}

abbrev pub pinned_meaning : Meaning ℕ
pinned_meaning = record count_meaning { vars = 2 }

pub pinned_lawful : IsLawful pinned_meaning (λ _ n. IsCounter n)
pinned_lawful = record {
  some_vars = omega arith;
  few_vars = omega arith;
  touches_var = λ l v e. let k : v < 1 = count_lawful.touches_var l v e in omega arith;
  reads_var = λ l v e. let k : v < 1 = count_lawful.reads_var l v e in omega arith;
  begins = count_lawful.begins;
  touch_falls = count_lawful.touch_falls;
  look_falls = count_lawful.look_falls;
  clock_falls = count_lawful.clock_falls;
  draw_falls = count_lawful.draw_falls;
  emit_falls = count_lawful.emit_falls;
  ends = count_lawful.ends;
  fresh_fits = λ v low. omega arith;
  touch_fits = count_lawful.touch_fits;
  as_long = count_lawful.as_long;
}
