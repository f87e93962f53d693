-- What the systems of a chain released is taken, and they end.
use Rattle.std.proofs.Common.{◌≡◌, sym, ap, ◌∙◌, subst}
use Rattle.plain_machine.specs.Program.{Meaning}
use Rattle.recovery_world.specs.World.{Setting, World}
use Rattle.event_replies.specs.declared.reply.Finished.{Finished}
use Rattle.system_parts.specs.SystemStanding.{StandsFor}
use Rattle.chain_world.specs.Chain.{Chained, behind}
use Rattle.recovery_core.specs.Systems.{Systemed, SystemStands, FinishesAs}
use Rattle.chain_box.specs.Chains.{TwoSystems, ChainStands, IsGoing}

-- what taking the released outputs of a system promises
pub record Takes {P V : Type 0} (mean : P → Meaning V) (old new : Systemed P V) : Type 0 where
  pub stands : (s : Setting V) (w : World V) → SystemStands (mean old.parts.program) s w old
      → SystemStands (mean old.parts.program) s w new
  pub program : new.parts.program ≡ old.parts.program
  pub stopped : new.stopped ≡ old.stopped

pub taken_stand : {P V Q U : Type 0} (mean : P → Meaning V) (other : Q → Meaning U) {y old : TwoSystems P V Q U}
    (first : Systemed P V) (second : Systemed Q U) → y ≡ old → Takes mean y.first first → Takes other y.second second
    → (s : Setting V) (r : Setting U) (c : Chained V U)
    → ChainStands (mean old.first.parts.program) (other old.second.parts.program) s r c old.first old.second
    → ChainStands (mean old.first.parts.program) (other old.second.parts.program) s r c first second
taken_stand {P} {V} {Q} {U} mean other first second is one two =
    subst (λ (q : TwoSystems P V Q U). (s : Setting V) (r : Setting U) (c : Chained V U)
    → ChainStands (mean q.first.parts.program) (other q.second.parts.program) s r c q.first q.second
    → ChainStands (mean q.first.parts.program) (other q.second.parts.program) s r c first second) is
    (λ s r c st. record {
      at_first = one.stands s c.first st.at_first;
      at_second = two.stands (behind r c.first) c.second st.at_second;
    })

pub taken_going : {P V Q U : Type 0} (mean : P → Meaning V) (other : Q → Meaning U) (old first : Systemed P V)
    (olds second : Systemed Q U) → Takes mean old first → Takes other olds second
    → IsGoing (mean old.parts.program) (other olds.parts.program) old olds
    → IsGoing (mean first.parts.program) (other second.parts.program) first second
taken_going {P} {V} {Q} {U} mean other old first olds second one two going = record {
  first_runs = one.stopped ∙ going.first_runs;
  second_runs = two.stopped ∙ going.second_runs;
  first_setting = going.first_setting;
  second_setting = going.second_setting;
  worlds = going.worlds;
  stands = record {
    at_first =
        subst (λ (p : P). SystemStands (mean p) going.first_setting going.worlds.first first) (sym one.program)
        (one.stands going.first_setting going.worlds.first going.stands.at_first);
    at_second =
        subst (λ (q : Q). SystemStands (other q) (behind going.second_setting going.worlds.first) going.worlds.second
        second) (sym two.program)
        (two.stands (behind going.second_setting going.worlds.first) going.worlds.second going.stands.at_second);
  };
  short = going.short;
}

-- Both end as their worlds do.
pub both_finish : {P V Q U : Type 0} (mean : P → Meaning V) (other : Q → Meaning U) {y old : TwoSystems P V Q U}
    (f h : Finished) → y ≡ old
    → ((s : Setting V) (w : World V) → StandsFor (mean y.first.parts.program) s w y.first.parts → FinishesAs s w f)
    → ((r : Setting U) (w : World U) → StandsFor (other y.second.parts.program) r w y.second.parts → FinishesAs r w h)
    → (s : Setting V) (r : Setting U) (c : Chained V U)
    → ChainStands (mean old.first.parts.program) (other old.second.parts.program) s r c old.first old.second
    → FinishesAs s c.first f × FinishesAs (behind r c.first) c.second h
both_finish {P} {V} {Q} {U} mean other f h is one two =
    subst (λ (q : TwoSystems P V Q U). (s : Setting V) (r : Setting U) (c : Chained V U)
    → ChainStands (mean q.first.parts.program) (other q.second.parts.program) s r c q.first q.second
    → FinishesAs s c.first f × FinishesAs (behind r c.first) c.second h) is
    (λ s r c st. (one s c.first st.at_first.parts, two (behind r c.first) c.second st.at_second.parts))
