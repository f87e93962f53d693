-- The numbers of statuses.
use Rattle.std.proofs.Common.{◌≡◌, ◌≤◌, ◌⊎◌, ◌∙◌, ℕ, ap, subst, sym, refl, arith, inl, inr}
use Rattle.job_commands.specs.Status.{exit_code_of}
use Rattle.job_commands.specs.declared.status.Status.{Status}
use Rattle.job_commands.specs.declared.status.Status.TheVariants.{Done, Refuted, BadWords, ReadFault, WriteFault}
use Rattle.job_commands.specs.declared.status.Status.TheVariants.{NoMemory, BadInput, TooLarge, Unready}
use Rattle.command_line.specs.Running.{EndsWith}

exit_code : (s : Status) → exit_code_of s ≤ 9
exit_code Done = omega arith
exit_code (Refuted refutation) = omega arith
exit_code BadWords = omega arith
exit_code ReadFault = omega arith
exit_code WriteFault = omega arith
exit_code NoMemory = omega arith
exit_code (BadInput fault) = omega arith
exit_code (TooLarge limit) = omega arith
exit_code (Unready unready) = omega arith

zero_code : (s : Status) → exit_code_of s ≡ 0 → s ≡ Done
zero_code Done e = refl
zero_code (Refuted refutation) e = absurd (omega (arith, e))
zero_code BadWords e = absurd (omega (arith, e))
zero_code ReadFault e = absurd (omega (arith, e))
zero_code WriteFault e = absurd (omega (arith, e))
zero_code NoMemory e = absurd (omega (arith, e))
zero_code (BadInput fault) e = absurd (omega (arith, e))
zero_code (TooLarge limit) e = absurd (omega (arith, e))
zero_code (Unready unready) e = absurd (omega (arith, e))

most : (n : ℕ) (s : Status) → n ≡ exit_code_of s → n ≤ 9
most n s is = subst (λ (k : ℕ). k ≤ 9) (sym is) (exit_code s)

-- The number of a status is 9 at most.
pub most_number : (n : ℕ) (s : Status) → EndsWith s n → n ≤ 9
most_number n s ends = go ends.told
  where
    go : (n ≡ exit_code_of s) ⊎ (n ≡ exit_code_of WriteFault) → n ≤ 9
    go (inl is) = most n s is
    go (inr is) = most n WriteFault is

-- The number of what was told is that of the status, or of a write fault.
pub ends_with : (n : ℕ) (s told : Status) → n ≡ exit_code_of told → (s ≡ Done → told ≡ Done)
    → (told ≡ s) ⊎ (told ≡ WriteFault) → EndsWith s n
ends_with n s told is done is_told = record {
  done = λ e. is ∙ ap exit_code_of (done e);
  only_done = λ none. zero is_told none;
  told = go is_told;
}
  where
    zero : (told ≡ s) ⊎ (told ≡ WriteFault) → n ≡ 0 → s ≡ Done
    zero (inl same) none = sym same ∙ zero_code told (sym is ∙ none)
    zero (inr fault) none =
        let is_fault : n ≡ exit_code_of WriteFault = is ∙ ap exit_code_of fault in
        absurd (let never : ⊥ = omega (arith, is_fault, none) in never)

    go : (told ≡ s) ⊎ (told ≡ WriteFault) → (n ≡ exit_code_of s) ⊎ (n ≡ exit_code_of WriteFault)
    go (inl same) = inl (is ∙ ap exit_code_of same)
    go (inr fault) = inr (is ∙ ap exit_code_of fault)
