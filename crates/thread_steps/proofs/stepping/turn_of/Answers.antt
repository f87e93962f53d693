use Rattle.std.proofs.Common.{sym, ap, ◌∙◌, subst}
use Rattle.master_core.specs.Stepping.{wanted}
use Rattle.master_core.specs.MasterStanding.{Stands}
use Rattle.system_parts.specs.SystemStanding.{StandsFor}
use Rattle.thread_steps.proofs.TurnLemmas.{wants_touch, wants_read, touch_turn, read_turn, other_turn, readers_now}
use Rattle.thread_steps.proofs.TurnLemmas.{touch_low, read_low, wanted_inside}
use Rattle.thread_steps.proofs.stepping.turn_of.Goals as goal

pub readers-readers-requires-after_bounds : goal.readers-readers-requires-after_bounds
readers-readers-requires-after_bounds g c = λ κs within.
    let s = c.requires.stands.0 in
    let w = c.requires.stands.1 in
    let st = subst (λ q. StandsFor (g.P.Program.meaning q.program) s w q) (sym c.core.view_is) c.requires.stands.2 in
    touch_low _ s w _ c.args.thread c.in-Touch.number c.in-Touch.var c.in-Touch.places c.args.wants st
    (g.met.P.Program.lawful c.core.inside.program) c.core.invariant.fits
    (wanted_inside g.P.Program.meaning _ _ c.args.thread c.args.wants c.core.view_is c.requires.wanted) c.in-Touch.is

pub readers-readers-requires-in-Read-after_bounds : goal.readers-readers-requires-in-Read-after_bounds
readers-readers-requires-in-Read-after_bounds g c = λ κs within.
    let s = c.requires.stands.0 in
    let w = c.requires.stands.1 in
    let st = subst (λ q. StandsFor (g.P.Program.meaning q.program) s w q) (sym c.core.view_is) c.requires.stands.2 in
    read_low _ s w _ c.args.thread c.in-Read.number c.in-Read.var c.in-Read.places c.args.wants st
    (g.met.P.Program.lawful c.core.inside.program) c.core.invariant.fits
    (wanted_inside g.P.Program.meaning _ _ c.args.thread c.args.wants c.core.view_is c.requires.wanted) c.in-Read.is

pub returns-in-Touch : goal.returns-in-Touch
returns-in-Touch g c = λ s w now.
    let st = subst (λ q. StandsFor (g.P.Program.meaning q.program) s w q) (sym c.core.view_is) now in
    let at = subst (λ q. Stands q s.threads w.past c.core.inside.master) st.inputs.meaning st.master.stands in
    let inside =
    wanted_inside g.P.Program.meaning _ _ c.args.thread c.args.wants c.core.view_is c.requires.wanted in
    let wants =
    ap (λ q. wanted q w.past c.args.thread) st.inputs.meaning
    ∙ sym (inside s.threads w.past at)
    ∙ c.in-Touch.is in
    let k = wants_touch s.meaning w.past c.args.thread _ _ _ wants in
    touch_turn s w c.core.inside.guide c.args.thread _ _ _ c.readers-readers.result.now c.turn.result st.sound
    st.guide.follows
    (readers_now _ s w _ c.in-Touch.var c.readers-readers.result.now st
    (touch_low _ s w _ c.args.thread c.in-Touch.number c.in-Touch.var c.in-Touch.places c.args.wants st
    (g.met.P.Program.lawful c.core.inside.program) c.core.invariant.fits
    (wanted_inside g.P.Program.meaning _ _ c.args.thread c.args.wants c.core.view_is c.requires.wanted) c.in-Touch.is)
    c.core.invariant.fits c.readers-readers.ensures) k c.turn.ensures.wait

pub returns-in-Read : goal.returns-in-Read
returns-in-Read g c = λ s w now.
    let st = subst (λ q. StandsFor (g.P.Program.meaning q.program) s w q) (sym c.core.view_is) now in
    let at = subst (λ q. Stands q s.threads w.past c.core.inside.master) st.inputs.meaning st.master.stands in
    let inside =
    wanted_inside g.P.Program.meaning _ _ c.args.thread c.args.wants c.core.view_is c.requires.wanted in
    let wants =
    ap (λ q. wanted q w.past c.args.thread) st.inputs.meaning
    ∙ sym (inside s.threads w.past at)
    ∙ c.in-Read.is in
    let k = wants_read s.meaning w.past c.args.thread _ _ _ wants in
    read_turn s w c.core.inside.guide c.args.thread _ _ _ c.readers-readers-in-Read.result.now c.turn-in-Read.result
    st.sound st.guide.follows
    (readers_now _ s w _ c.in-Read.var c.readers-readers-in-Read.result.now st
    (read_low _ s w _ c.args.thread c.in-Read.number c.in-Read.var c.in-Read.places c.args.wants st
    (g.met.P.Program.lawful c.core.inside.program) c.core.invariant.fits
    (wanted_inside g.P.Program.meaning _ _ c.args.thread c.args.wants c.core.view_is c.requires.wanted) c.in-Read.is)
    c.core.invariant.fits c.readers-readers-in-Read.ensures) k c.turn-in-Read.ensures.wait

pub returns-in_default : goal.returns-in_default
returns-in_default g c = λ s w now.
    let st = subst (λ q. StandsFor (g.P.Program.meaning q.program) s w q) (sym c.core.view_is) now in
    let at = subst (λ q. Stands q s.threads w.past c.core.inside.master) st.inputs.meaning st.master.stands in
    let inside =
    wanted_inside g.P.Program.meaning _ _ c.args.thread c.args.wants c.core.view_is c.requires.wanted in
    let same = inside s.threads w.past at ∙ sym (ap (λ q. wanted q w.past c.args.thread) st.inputs.meaning) in
    other_turn s w c.args.thread (λ n v p e. c.in_default.not-Touch n v p (same ∙ e))
    (λ n v p e. c.in_default.not-Read n v p (same ∙ e))
