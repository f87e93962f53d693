-- Words of a command print no text; and what the status of a printed text is.
use Rattle.std.proofs.Common.{◌≡◌, ℕ, List, [], ◌∷◌, refl, sym, subst, ◌∙◌, ◌⊎◌, inl, inr, Option, None, Some}
use Rattle.std.proofs.Common.{append-nil}
use Rattle.std.specs.Prelude.{IfSome}
use Rattle.job_commands.specs.declared.status.Status.{Status}
use Rattle.job_commands.specs.declared.status.Status.TheVariants.{Done, NoMemory, WriteFault}
use Rattle.job_commands.specs.Status.{IsRefusal}
use Rattle.job_commands.specs.Words.{Asked, IfAsks, asked}
use Rattle.world_io.specs.World.{Shown}
use Rattle.command_words.specs.Printing.{Prints, asked_text}

-- Of help and version: what the status is.

pub any_text : (text : Option (List ℕ)) (X : Type 0) → X → IfSome text (λ it. X)
any_text None X x = tt
any_text (Some text) X x = x

pub no_text : (words : List (List ℕ)) (X : Type 0) → asked_text words ≡ None → IfSome (asked_text words) (λ it. X)
no_text words X is = subst (λ (text : Option (List ℕ)). IfSome text (λ it. X)) (sym is) tt

pub printed_refuses : (s : Status) → (s ≡ Done) ⊎ ((s ≡ WriteFault) ⊎ (s ≡ NoMemory)) → IsRefusal s → ⊥
printed_refuses s (inl is) e = subst (λ (s : Status). IsRefusal s) is e
printed_refuses s (inr (inl is)) e = subst (λ (s : Status). IsRefusal s) is e
printed_refuses s (inr (inr is)) e = subst (λ (s : Status). IsRefusal s) is e

pub prints_nothing : (words : List (List ℕ)) (status : Status) (old new : Shown) → asked_text words ≡ None
    → IfSome (asked_text words) (λ text. Prints text status old new)
prints_nothing words status old new is =
    subst (λ (o : Option (List ℕ)). IfSome o (λ text. Prints text status old new)) (sym is) tt

-- Words that ask for a text.

pub asks_nothing : (words : List (List ℕ)) → ¬ (asked_text words ≡ None) → asked words ≡ None
asks_nothing [] text = absurd (text refl)
asks_nothing (word ∷ []) text = refl
asks_nothing (first ∷ word ∷ []) text = refl
asks_nothing (first ∷ second ∷ third ∷ more) text = absurd (text refl)

pub if_none : (words : List (List ℕ)) (Holds : Asked → Type 0) → asked words ≡ None → IfAsks words Holds
if_none words Holds none = subst (λ (asks : Option Asked). IfSome asks Holds) (sym none) tt

pub prints_text : (words : List (List ℕ)) (text : List ℕ) (status : Status) (old new : Shown)
    → asked_text words ≡ Some text → Prints text status old new
    → IfSome (asked_text words) (λ text. Prints text status old new)
prints_text words text status old new is prints =
    subst (λ (o : Option (List ℕ)). IfSome o (λ text. Prints text status old new)) (sym is) prints

-- Where memory runs out before a text is there, nothing is printed.

pub nothing_printed : (text : List ℕ) (status : Status) (shown : Shown) → status ≡ NoMemory
    → Prints text status shown shown
nothing_printed text status shown is = record {
  part = [];
  more = text;
  prefix = refl;
  whole = λ done. let never : NoMemory ≡ Done = sym is ∙ done in absurd (cc);
  printed = sym (append-nil (shown.sent 0));
  names = λ name. refl;
}

pub prints_none : (text : Option (List ℕ)) (status : Status) (shown : Shown) → status ≡ NoMemory
    → IfSome text (λ it. Prints it status shown shown)
prints_none None status shown is = tt
prints_none (Some text) status shown is = nothing_printed text status shown is
