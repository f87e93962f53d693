use Rattle.command_line.proofs.running.run_alone.Goals as goal

pub returns-clause-performs : goal.returns-clause-performs
returns-clause-performs g c =
    let done = c.perform-status.ensures in
    record {
      prints = done.prints;
      answers = done.answers;
      bad_words = done.bad_words;
      nothing_asked = done.nothing_asked;
      creates_nothing = done.creates_nothing;
      never_fails = λ healthy fault. (done.write_fault fault).not_healthy healthy;
      read_fault = done.read_fault;
      write_fault = λ fault. (done.write_fault fault).rose;
      opens_nothing = done.opens_nothing;
      given = done.given;
      before = done.before;
    }
