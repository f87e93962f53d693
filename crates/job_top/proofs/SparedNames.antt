-- The names that a run spares which goes on from a point, or whose system is handed over.
use Rattle.std.proofs.Common.{◌≡◌, ℕ, List, [], ◌∷◌, ◌++◌, Option, sym, subst, inl, inr}
use Rattle.plain_text.specs.declared.packet.Unit.{Unit as FractionUnit}
use Rattle.recovery_world.specs.declared.event.Event.{Event}
use Rattle.recovery_world.specs.World.{Setting}
use Rattle.output_files.specs.Writes.{Write}
use Rattle.run_writes.specs.Replies.{Point, Reply}
use Rattle.run_writes.specs.Run.{IsWrittenFrom, OutputNames, replies_writes, writes_of}
use Rattle.hand_command.specs.Hand.{IsWrittenHand}
use Rattle.live_writes.specs.Script.{SpareName}
use Rattle.live_writes.proofs.ScriptSteps.{spare_both}

module _ (names : OutputNames) (name : List ℕ) (one : ¬ (name ≡ names.released)) (two : ¬ (name ≡ names.schedule)) where
  spare_replies : (replies : List Reply) → SpareName name (replies_writes names.released replies)
  spare_replies [] = tt
  spare_replies (reply ∷ replies) = ((λ e. one (sym e)), spare_replies replies)

  spare_some : (u : FractionUnit) (replies : List Reply) → SpareName name (writes_of names u replies)
  spare_some u replies =
      ((λ e. one (sym e)), ((λ e. one (sym e)), ((λ e. two (sym e)), spare_replies replies)))

  pub spare_from : {V : Type 0} (s : Setting V) (from : Point V) (events : List Event) (writes : List Write)
      → IsWrittenFrom s from names events writes → SpareName name writes
  spare_from s from events writes (inl some) =
      subst (SpareName name) (sym some.writes_are) (spare_some s.fractions (from.replies ++ some.replies))
  spare_from s from events writes (inr (inl (limit, until))) =
      subst (SpareName name) (sym until.writes_are)
      (spare_both name (writes_of names s.fractions (from.replies ++ until.replies)) _
      (spare_some s.fractions (from.replies ++ until.replies)) ((λ e. one (sym e)), tt))
  spare_from s from events writes (inr (inr all)) =
      subst (SpareName name) (sym all.writes_are)
      (spare_both name (writes_of names s.fractions (from.replies ++ all.replies)) _
      (spare_some s.fractions (from.replies ++ all.replies)) ((λ e. two (sym e)), tt))

  pub spare_hand : {V : Type 0} (seal : Option (List ℕ)) (s : Setting V) (events : List Event) (writes : List Write)
      → IsWrittenHand seal s names events writes → SpareName name writes
  spare_hand seal s events writes (inl some) =
      subst (SpareName name) (sym some.writes_are) (spare_some s.fractions some.replies)
  spare_hand seal s events writes (inr (inl (limit, until))) =
      subst (SpareName name) (sym until.writes_are)
      (spare_both name (writes_of names s.fractions until.replies) _ (spare_some s.fractions until.replies)
      ((λ e. one (sym e)), tt))
  spare_hand seal s events writes (inr (inr handover)) =
      subst (SpareName name) (sym handover.writes_are)
      (spare_both name (writes_of names s.fractions (handover.hand.replies ++ handover.hand.last)) _
      (spare_some s.fractions (handover.hand.replies ++ handover.hand.last)) ((λ e. two (sym e)), tt))
