-- The words of a round stand apart, and within the table.
use Rattle.std.proofs.Common.{◌≡◌, ◌≢◌, ℕ, zero, suc, ◌*◌, ◌<◌, List, [], ◌∷◌, ◌++◌, length, refl, sym, ap, ◌∙◌}
use Rattle.std.proofs.Common.{subst, arith}
use Rattle.std.specs.Prelude.{slice_index}
use Rattle.master_core.specs.declared.parts.ThreadPart.{ThreadPart}
use Rattle.var_locks.specs.Words.{var_word, thread_word, word_count, line_of, spread}

pub same_var : (u v : ℕ) → var_word u ≡ var_word v → u ≡ v
same_var u v e = omega (arith, e)

pub vars_apart : (u v : ℕ) → u ≢ v → var_word u ≢ var_word v
vars_apart u v apart e = apart (same_var u v e)

pub same_thread : (vars t u : ℕ) → thread_word vars t ≡ thread_word vars u → t ≡ u
same_thread vars t u e = omega (arith, e)

pub thread_apart : (vars v t : ℕ) → v < vars → thread_word vars t ≢ var_word v
thread_apart vars v t low e = absurd (omega (arith, low, e))

pub var_inside : (vars threads v : ℕ) → v < vars → var_word v < word_count vars threads
var_inside vars threads v low = omega (arith, low)

pub thread_inside : (vars threads t : ℕ) → t < threads → thread_word vars t < word_count vars threads
thread_inside vars threads t low = omega (arith, low)

pub words_in : (vars : ℕ) (threads parts : List ThreadPart) → threads ≡ parts → (words : ℕ)
    → words ≡ word_count vars (length parts) → (i : ℕ) → i < words → i < word_count vars (length threads)
words_in vars threads parts same words are i low =
    subst (λ (l : List ThreadPart). i < word_count vars (length l)) (sym same) (subst (λ (n : ℕ). i < n) are low)

-- words on lines of their own

pub spread_at : (l : List ℕ) (i : ℕ) → slice_index (spread l) (8 * i) ≡ slice_index l i
spread_at [] i = refl
spread_at (x ∷ xs) zero = refl
spread_at (x ∷ xs) (suc i) =
    let k : 8 * suc i ≡ suc (suc (suc (suc (suc (suc (suc (suc (8 * i)))))))) = omega arith in
    ap (slice_index (spread (x ∷ xs))) k ∙ spread_at xs i

pub spread_length : (l : List ℕ) → length (spread l) ≡ 8 * length l
spread_length [] = omega arith
spread_length (x ∷ xs) = let k = spread_length xs in omega (arith, k)

pub spread_next : (l : List ℕ) (n : ℕ) → spread (l ++ n ∷ []) ≡ spread l ++ line_of n
spread_next [] n = refl
spread_next (x ∷ xs) n = ap (λ (l : List ℕ). x ∷ 0 ∷ 0 ∷ 0 ∷ 0 ∷ 0 ∷ 0 ∷ 0 ∷ l) (spread_next xs n)
