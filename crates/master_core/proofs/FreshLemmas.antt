-- A fresh master stands for no move.
use Rattle.std.proofs.Common.{◌≡◌, ℕ, List, [], length, refl, sym, ap, ◌∙◌, subst, inl, None}
use Rattle.std.specs.Prelude.{replicate, slice_index, slice_index_or}
use Rattle.std.proofs.lemmas.List.{length-replicate, get_or-replicate}
use Rattle.entry_order.proofs.Joins.{first_is_zero}
use Rattle.plain_machine.specs.Program.{Meaning}
use Rattle.plain_machine.specs.History.{Step}
use Rattle.master_core.specs.declared.parts.VarPart.{VarPart}
use Rattle.master_core.specs.declared.parts.ThreadPart.{ThreadPart}
use Rattle.master_core.specs.MasterStanding.{IsVariable, IsThread, Stands}
use Rattle.master_core.specs.Effects.{fresh_var, HasFresh}
use Rattle.master_core.proofs.Variables.{zero_stamp}

abbrev pub fresh_part : ThreadPart
fresh_part = record { counts = record { taken = 0; entries = 0; outputs = 0 }; hand = None; stamp = replicate 16 0 }

fresh_variable : {V : Type 0} (m : Meaning V) (v : ℕ) → IsVariable m [] v (fresh_var m v)
fresh_variable m v = record {
  value = refl;
  places = refl;
  touched = record { last = λ e here what. absurd here; none = λ h u. zero_stamp u };
  looked = record { above = λ e stamp here what st u. absurd here; reached = λ u. inl (zero_stamp u) };
}

fresh_thread : {V : Type 0} (t : ℕ) → (let none : List (Step V) = [] in IsThread none t fresh_part)
fresh_thread t = record {
  taken = refl;
  logged = refl;
  outputs = refl;
  hand = refl;
  made = refl;
  stamp = first_is_zero [] t (λ u. slice_index (replicate 16 0) u) tt zero_stamp;
}

pub fresh_stands : {V : Type 0} (m : Meaning V) (count : ℕ) (vars : List (VarPart V)) (threads : List ThreadPart)
    → HasFresh m vars → threads ≡ replicate count fresh_part
    → Stands m count [] (record { vars = vars; threads = threads })
fresh_stands {V} m count vars threads has are = record {
  log = tt;
  var = λ v d low. subst (λ (x : VarPart V). IsVariable m [] v x) (sym (has.each v d low)) (fresh_variable m v);
  threads_are = ap (λ (l : List ThreadPart). length l) are ∙ length-replicate count fresh_part;
  thread = λ t d low. subst (λ (x : ThreadPart). let none : List (Step V) = [] in IsThread none t x)
      (sym (ap (λ (l : List ThreadPart). slice_index_or l t d) are ∙ get_or-replicate count t fresh_part d low))
      (fresh_thread t);
}
