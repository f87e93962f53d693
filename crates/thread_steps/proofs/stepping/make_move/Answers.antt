use Rattle.std.proofs.Common.{◌≡◌, ◌<◌, sym, subst, option_copied, true}
use Rattle.system_parts.specs.SystemStanding.{StandsFor}
use Rattle.thread_steps.proofs.TurnLemmas.{wanted_inside, wanted_by_setting}
use Rattle.thread_steps.proofs.StepLemmas.{room_now, input_now, step_can, makes_next}
use Rattle.thread_steps.proofs.stepping.make_move.Goals as goal

pub input_of-input-requires-clause-room : goal.input_of-input-requires-clause-room
input_of-input-requires-clause-room g c = λ κs within.
    let s = c.requires.stands.0 in
    let w = c.requires.stands.1 in
    let st = subst (λ q. StandsFor (g.P.Program.meaning q.program) s w q) (sym c.core.view_is) c.requires.stands.2 in
    let low : c.args.thread < c.core.inside.inputs.threads =
    subst (λ q. c.args.thread < q.inputs.threads) (sym c.core.view_is) c.requires.thread_in in
    room_now _ s w _ c.args.thread st low c.core.invariant.moves

pub make-stepped-requires-clause-room : goal.make-stepped-requires-clause-room
make-stepped-requires-clause-room g c = λ κs within.
    let s = c.requires.stands.0 in
    let w = c.requires.stands.1 in
    let st = subst (λ q. StandsFor (g.P.Program.meaning q.program) s w q) (sym c.core.view_is) c.requires.stands.2 in
    let low : c.args.thread < c.core.inside.inputs.threads =
    subst (λ q. c.args.thread < q.inputs.threads) (sym c.core.view_is) c.requires.thread_in in
    room_now _ s w _ c.args.thread st low c.core.invariant.moves

pub make-stepped-requires-clause-input : goal.make-stepped-requires-clause-input
make-stepped-requires-clause-input g c = λ κs within.
    let s = c.requires.stands.0 in
    let w = c.requires.stands.1 in
    let st = subst (λ q. StandsFor (g.P.Program.meaning q.program) s w q) (sym c.core.view_is) c.requires.stands.2 in
    let low : c.args.thread < c.core.inside.inputs.threads =
    subst (λ q. c.args.thread < q.inputs.threads) (sym c.core.view_is) c.requires.thread_in in
    input_now _ s w _ c.args.thread _ c.input_of-input.result st low c.input_of-input.ensures

pub returns-clause-can : goal.returns-clause-can
returns-clause-can g c =
    let s = c.requires.stands.0 in
    let w = c.requires.stands.1 in
    let st = subst (λ q. StandsFor (g.P.Program.meaning q.program) s w q) (sym c.core.view_is) c.requires.stands.2 in
    step_can (g.P.Program.meaning c.core.inside.program) _ _ c.core.view_is c.args.thread c.args.given
    c.told-answer.result c.told-answer.new.words (option_copied c.input_of-input.result) c.make-stepped.result
    c.make-stepped.new.self (record {
      low = subst (λ q. c.args.thread < q.inputs.threads) (sym c.core.view_is) c.requires.thread_in;
      tells = λ s w is sound guides stands time generator.
          c.told-answer.ensures.tells s w (wanted_by_setting _ s w _ c.args.thread c.wants_by-wants.result is stands
          c.wants_by-wants.ensures.wanted) sound guides time generator;
      asked = λ s w is stands.
          c.told-answer.ensures.asked s w (wanted_by_setting _ s w _ c.args.thread c.wants_by-wants.result is stands
          c.wants_by-wants.ensures.wanted);
      number = c.unwrap_or.result;
      number_is = c.unwrap_or.ensures;
      input = c.input_of-input.ensures;
      follows = c.make-stepped.ensures.follows;
      idle = λ e. c.make-stepped.ensures.idle.0 e;
      up = subst (λ q. q.up ≡ true) (sym c.core.view_is) c.requires.up;
      turn = c.turn_of-turn.result;
      turn_is = λ s w st.
          c.turn_of-turn.ensures s w (subst (λ q. StandsFor (g.P.Program.meaning q.program) s w q) c.core.view_is st);
      not_turn = c.make-stepped.ensures.not_turn;
      unchanged = c.make-stepped.ensures.unchanged;
    })
    (g.P.Program.fits c.core.inside.program) s w (g.met.P.Program.lawful c.core.inside.program) st
    c.core.invariant.sent c.core.invariant.some_threads c.core.invariant.few_threads c.core.invariant.fed
    (λ o p e k. c.make-stepped.ensures.as_long o p e k)

pub returns-clause-made : goal.returns-clause-made
returns-clause-made g c =
    makes_next g.P.Program.meaning _ _ c.core.view_is c.args.thread c.args.given
    c.told-answer.result c.told-answer.new.words (option_copied c.input_of-input.result) c.make-stepped.result
    c.make-stepped.new.self (record {
      low = subst (λ q. c.args.thread < q.inputs.threads) (sym c.core.view_is) c.requires.thread_in;
      tells = λ s w is sound guides stands time generator.
          c.told-answer.ensures.tells s w (wanted_by_setting _ s w _ c.args.thread c.wants_by-wants.result is stands
          c.wants_by-wants.ensures.wanted) sound guides time generator;
      asked = λ s w is stands.
          c.told-answer.ensures.asked s w (wanted_by_setting _ s w _ c.args.thread c.wants_by-wants.result is stands
          c.wants_by-wants.ensures.wanted);
      number = c.unwrap_or.result;
      number_is = c.unwrap_or.ensures;
      input = c.input_of-input.ensures;
      follows = c.make-stepped.ensures.follows;
      idle = λ e. c.make-stepped.ensures.idle.0 e;
      up = subst (λ q. q.up ≡ true) (sym c.core.view_is) c.requires.up;
      turn = c.turn_of-turn.result;
      turn_is = λ s w st.
          c.turn_of-turn.ensures s w (subst (λ q. StandsFor (g.P.Program.meaning q.program) s w q) c.core.view_is st);
      not_turn = c.make-stepped.ensures.not_turn;
      unchanged = c.make-stepped.ensures.unchanged;
    })

pub turn_of-turn-requires-clause-wanted : goal.turn_of-turn-requires-clause-wanted
turn_of-turn-requires-clause-wanted g c = λ κs within.
    wanted_inside g.P.Program.meaning _ _ c.args.thread c.wants_by-wants.result (sym c.core.view_is)
    c.wants_by-wants.ensures.wanted
