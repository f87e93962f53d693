use Rattle.std.proofs.Common.{arith}
use Rattle.run_end.proofs.Loops.{threads_first, thread_stands, thread_on, threads_over}
use Rattle.run_end.proofs.run.Run.send_all.Goals as goal

pub threads-init : goal.threads-init
threads-init g c = record {
  fits = c.requires.fits;
  sends = threads_first (g.P.Program.meaning c.args.program.now) c.args.inputs.now c.args.numbers.now
      c.args.self.now.master c.args.self.now.schedule;
}

pub play_on-requires-clause-sends : goal.play_on-requires-clause-sends
play_on-requires-clause-sends g c = λ κs within.
    thread_stands (g.P.Program.meaning c.args.program.now) c.args.inputs.now c.args.numbers.now c.threads.thread
    c.args.self.now.master c.threads.self.master c.args.self.now.schedule c.threads.self.schedule
    c.threads.invariant.sends
    (let a = c.threads-test.true in let b = c.threads-thread-end.ensures.value in omega (arith, a, b))
    c.number_of-number.result c.number_of-number.ensures c.requires.sends

pub threads-preserved : goal.threads-preserved
threads-preserved g c = record {
  fits = c.play_on.ensures.fits;
  sends =
      thread_on (g.P.Program.meaning c.args.program.now) c.args.inputs.now c.args.numbers.now c.threads.thread
      c.args.self.now.master c.threads.self.master c.args.self.now.schedule c.threads.self.schedule
      c.threads.invariant.sends
      (let a = c.threads-test.true in let b = c.threads-thread-end.ensures.value in omega (arith, a, b))
      c.number_of-number.result c.number_of-number.ensures c.play_on.new.self.master c.play_on.new.self.schedule
      c.in_ok-play_on.ensures.plays;
}

pub returns-clause-plays : goal.returns-clause-plays
returns-clause-plays g c =
    threads_over (g.P.Program.meaning c.args.program.now) c.args.inputs.now c.args.numbers.now c.threads.thread
    c.args.self.now.master c.threads.self.master c.args.self.now.schedule c.threads.self.schedule
    c.threads.invariant.sends
    (let a = c.threads-test.false in let b = c.threads-thread-end.ensures.value in omega (arith, a, b))
