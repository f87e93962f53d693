-- Options that are read one after another.
use Rattle.std.proofs.Common.{◌≡◌, ℕ, zero, suc, ◌+◌, ◌<◌, ◌≤◌, List, ◌∷◌, length, take, drop, Option, Some, None, refl}
use Rattle.std.proofs.Common.{sym, ap, ◌∙◌, arith}
use Rattle.std.proofs.lemmas.Bool.{le-ltb, lt-ltb, ne_eqb, eq-eqb}
use Rattle.std.proofs.lemmas.List.{length-drop}
use Rattle.std.specs.Prelude.{option_map, option_and_then}
use Rattle.pcap_io.specs.declared.order.Order.{Order}
use Rattle.pcap_io.specs.Capture.{number}
use Rattle.pcapng_io.specs.declared.interface.Interface.{Interface}
use Rattle.pcapng_io.specs.Interfaces.{Setting, padded, settings_in, with_setting, with_settings, with_options}

-- the first option that stands here
abbrev pub setting_at : Order → List ℕ → Setting
setting_at o bytes = record { code = number o 2 bytes; value = take (number o 2 (drop 2 bytes)) (drop 4 bytes) }

module _ (o : Order) (i : Interface) (bytes : List ℕ) where
  -- the list ends where fewer than four bytes are left
  pub options_end : (n : ℕ) → length bytes < 4 → with_options n o i bytes ≡ Some i
  options_end zero few = refl
  options_end (suc n) few = rw (lt-ltb (length bytes) 4 few) refl

  -- the list ends at code 0
  pub options_stop : (n : ℕ) → 4 ≤ length bytes → number o 2 bytes ≡ 0 → with_options n o i bytes ≡ Some i
  options_stop zero some stop = refl
  options_stop (suc n) some stop = rw (le-ltb (length bytes) 4 some, eq-eqb (number o 2 bytes) 0 stop) refl

none_after : (one : Option Interface) → ◌≡◌ {A = Option Interface} None (option_and_then (λ next. None) one)
none_after None = refl
none_after (Some next) = refl

-- an option is read, and then the others
joined : (o : Order) (i : Interface) (s : Setting) (others : Option (List Setting))
    → option_and_then (with_settings o i) (option_map (λ more. s ∷ more) others)
    ≡ option_and_then (λ next. option_and_then (with_settings o next) others) (with_setting o i s)
joined o i s None = none_after (with_setting o i s)
joined o i s (Some more) = refl

module _ (o : Order) (i : Interface) (bytes : List ℕ) (some : 4 ≤ length bytes)
    (goes_on : number o 2 bytes ≡ 0 → ⊥) where
  pub options_pass : (n : ℕ) → length bytes ≤ n → length bytes < 4 + padded (number o 2 (drop 2 bytes))
      → with_options n o i bytes ≡ None
  options_pass zero fuel passes = absurd (omega arith)
  options_pass (suc n) fuel passes = rw (
    le-ltb (length bytes) 4 some,
    ne_eqb (number o 2 bytes) 0 goes_on,
    lt-ltb (length bytes) (4 + padded (number o 2 (drop 2 bytes))) passes,
  ) refl

  pub options_step : (n : ℕ) → length bytes ≤ suc n → 4 + padded (number o 2 (drop 2 bytes)) ≤ length bytes
      → with_options (suc n) o i bytes
      ≡ option_and_then (λ next. with_options n o next (drop (4 + padded (number o 2 (drop 2 bytes))) bytes))
      (with_setting o i (setting_at o bytes))
  options_step n fuel within =
      rw (
        le-ltb (length bytes) 4 some,
        ne_eqb (number o 2 bytes) 0 goes_on,
        le-ltb (length bytes) (4 + padded (number o 2 (drop 2 bytes))) within,
      ) (joined o i (setting_at o bytes) (settings_in n o (drop (4 + padded (number o 2 (drop 2 bytes))) bytes)))

  module _ (end : ℕ) (end_is : end ≡ 4 + padded (number o 2 (drop 2 bytes))) (within : end ≤ length bytes) (s : Setting)
      (s_is : s ≡ setting_at o bytes) where
    pub options_bad : (m : ℕ) → length bytes ≤ m → with_setting o i s ≡ None → with_options m o i bytes ≡ None
    options_bad zero fuel bad = absurd (omega arith)
    options_bad (suc n) fuel bad =
        options_step n fuel (omega arith)
        ∙ ap (option_and_then (λ next. with_options n o next (drop (4 + padded (number o 2 (drop 2 bytes))) bytes)))
        (ap (with_setting o i) (sym s_is) ∙ bad)

    pub options_next : (m : ℕ) → length bytes ≤ m → (next : Interface) → with_setting o i s ≡ Some next
        → (k : ℕ) × (length (drop end bytes) ≤ k) × (with_options m o i bytes ≡ with_options k o next (drop end bytes))
    options_next zero fuel next good = absurd (omega arith)
    options_next (suc n) fuel next good = (
      n,
      omega (arith, length-drop end bytes),
      options_step n fuel (omega arith)
          ∙ ap (option_and_then (λ other. with_options n o other (drop (4 + padded (number o 2 (drop 2 bytes))) bytes)))
          (ap (with_setting o i) (sym s_is) ∙ good)
          ∙ ap (λ at. with_options n o next (drop at bytes)) (sym end_is),
    )

pub setting_is : (o : Order) (bytes : List ℕ) (code size count : ℕ) → code ≡ number o 2 bytes
    → size ≡ number o 2 (drop 2 bytes) → count ≡ size
    → ◌≡◌ {A = Setting} (record { code = code; value = take count (drop 4 bytes) }) (setting_at o bytes)
setting_is o bytes code size count code_is size_is count_is = rw (code_is, count_is, size_is) refl
