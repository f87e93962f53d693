use Rattle.std.proofs.Common.{rules, arith, ◌≡◌, ap, ◌∙◌, sym, subst, ◌<◌, length, Some, None, true, false, refl}
use Rattle.std.specs.Prelude.{slice_index_or, option_copied}
use Rattle.plain_text.specs.declared.packet.Packet.{Packet}
use Rattle.master_core.specs.declared.parts.ThreadPart.{ThreadPart}
use Rattle.master_core.specs.Mastered.{Mastered, IsBounded, place_in_hand}
use Rattle.box_program.specs.Hands.{has_hand}
use Rattle.master_core.specs.MasterStanding.{IsThread}
use Rattle.master_core.specs.Effects.{Played, DoneTake, fresh_var}
use Rattle.master_core.proofs.FollowsLemmas.{take_follows}
use Rattle.master_core.proofs.AnswerLemmas.{Answers, played_answers, played_follows, hand_is, no_hand, hand_there}
use Rattle.master_core.proofs.AnswerLemmas.{turns_of, falls_of, take_begins, take_turns}
use Rattle.master_core.proofs.master.Master.make.Goals as goal

pub unwrap-packet-requires : goal.unwrap-packet-requires
unwrap-packet-requires g c =
    let low : c.args.thread < length c.args.self.now.threads = c.requires.thread_in in
    let has : has_hand (place_in_hand c.args.self.now c.args.thread) ≡ true = hand_is c.args.self.now c.args.thread
    c.index.result.now c.in-Some.place c.requires.thread_in (search rules) c.in-Some.is in
    c.requires.input has

-- with a packet in hand
answered : (g : _) (c : goal.After-play g)
    → Answers (g.P.Program.meaning c.args.program.now) (g.P.Program.fits c.args.program.now) c.args.thread c.args.turn
    c.unwrap-packet.result.now c.in-Some.place c.args.self.now c.play.result c.play.new.self
    ((g.P.Program.meaning c.args.program.now).next c.in-Some.place)
answered g c =
    let m = g.P.Program.meaning c.args.program.now in
    let part = c.index.result.now in
    let x = fresh_var m 0 in
    let part_is : part ≡ slice_index_or c.args.self.now.threads c.args.thread part = search rules in
    played_answers m (g.P.Program.fits c.args.program.now) (g.met.P.Program.lawful c.args.program.now) c.args.thread
    c.args.answer c.unwrap-packet.result.now c.in-Some.place part x c.args.self.now c.play.result c.play.new.self
    c.requires.program c.requires.thread_in c.args.turn _ refl
    (subst (λ (y : ThreadPart). Played m c.args.thread c.args.turn c.args.answer c.unwrap-packet.result.now
    c.in-Some.place y x c.args.self.now c.play.result c.play.new.self (m.next c.in-Some.place)) (sym part_is)
    (c.play.ensures part x))

pub returns : goal.returns
returns g c =
    let m = g.P.Program.meaning c.args.program.now in
    let fits = g.P.Program.fits c.args.program.now in
    let t = c.args.thread in
    let p = c.args.self.now in
    let packet = c.unwrap-packet.result.now in
    let place = c.in-Some.place in
    let part = c.index.result.now in
    let x = fresh_var m 0 in
    let part_is : part ≡ slice_index_or p.threads t part = search rules in
    let has : has_hand (place_in_hand p t) ≡ true = hand_is p t part place c.requires.thread_in part_is c.in-Some.is in
    let is_packet : option_copied c.args.input ≡ Some packet = search rules in
    let all = answered g c in
    record {
      follows = λ inputs threads steps is given.
          played_follows m fits (g.met.P.Program.lawful c.args.program.now) t c.args.answer packet place part x p
          c.play.result c.play.new.self c.requires.program c.requires.thread_in inputs threads steps c.args.turn _
          (option_copied c.args.input) refl is
          (subst (λ (y : Mastered _). IsBounded y.vars y.threads) c.self.view_is c.self.invariant) part_is c.in-Some.is
          is_packet given
          (subst (λ (y : ThreadPart).
          Played m t c.args.turn c.args.answer packet place y x p c.play.result c.play.new.self (m.next place))
          (sym part_is) (c.play.ensures part x));
      idle = ((λ e. absurd (all.idle e)), (λ h. absurd (let no : true ≡ false = sym has ∙ h.0 in cc)));
      not_turn = turns_of m fits t c.args.turn packet place part p c.play.result c.play.new.self c.requires.thread_in
          part_is c.in-Some.is all;
      unchanged = all.unchanged;
      threads = all.threads;
      fits = all.fit;
      begins = λ h. absurd (let no : true ≡ false = sym has ∙ h in cc);
      falls = λ h one. falls_of m fits t c.args.turn packet place part p c.play.result c.play.new.self
          c.requires.thread_in part_is c.in-Some.is all one;
      as_long = λ output other e o.
          let same : packet ≡ other = (let both : Some packet ≡ Some other = sym is_packet ∙ o in cc) in
          all.as_long output e ∙ ap (λ (y : Packet). length y.bytes) same;
    }

-- without one

pub returns-in_default-clause-follows : goal.returns-in_default-clause-follows
returns-in_default-clause-follows g c inputs threads steps is given =
    let m = g.P.Program.meaning c.args.program.now in
    let t = c.args.thread in
    let p = c.args.self.now in
    let part = c.index.result.now in
    let part_is : part ≡ slice_index_or p.threads t part = search rules in
    let none : part.hand ≡ None = search rules in
    let below : t < threads = omega (arith, is.threads_are, c.requires.thread_in) in
    take_follows m inputs threads steps t c.args.answer c.in-Some-input.packet.now part p c.take.new.self c.take.result
    (option_copied c.args.input) is below
    (subst (λ (y : ThreadPart). IsThread steps t y) (sym part_is) (is.thread t part below)) none (search rules) given
    (subst (λ (y : ThreadPart). DoneTake m t c.in-Some-input.packet.now y p c.take.result c.take.new.self) (sym part_is)
    (c.take.ensures part))

pub returns-in_default-clause-not_turn : goal.returns-in_default-clause-not_turn
returns-in_default-clause-not_turn g c =
    let m = g.P.Program.meaning c.args.program.now in
    let t = c.args.thread in
    let p = c.args.self.now in
    let part = c.index.result.now in
    let part_is : part ≡ slice_index_or p.threads t part = search rules in
    let none : part.hand ≡ None = search rules in
    take_turns m t c.args.turn c.in-Some-input.packet.now (slice_index_or p.threads t part) p c.take.result
    c.take.new.self (hand_there p t part c.requires.thread_in part_is ∙ none) (c.take.ensures part)

pub returns-in_default-clause-begins : goal.returns-in_default-clause-begins
returns-in_default-clause-begins g c h one =
    let m = g.P.Program.meaning c.args.program.now in
    take_begins m (g.P.Program.fits c.args.program.now) (g.met.P.Program.lawful c.args.program.now) c.args.thread
    c.in-Some-input.packet.now (slice_index_or c.args.self.now.threads c.args.thread c.index.result.now) c.args.self.now
    c.take.result c.take.new.self c.requires.thread_in (c.take.ensures c.index.result.now)

pub returns-in_default-clause-falls : goal.returns-in_default-clause-falls
returns-in_default-clause-falls g c h one =
    let part = c.index.result.now in
    let none : part.hand ≡ None = search rules in
    let has : has_hand (place_in_hand c.args.self.now c.args.thread) ≡ false =
    no_hand c.args.self.now c.args.thread part c.requires.thread_in (search rules) none in
    absurd (let no : true ≡ false = sym h ∙ has in cc)
