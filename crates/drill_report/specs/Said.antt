-- What the facts of a report say.
use Rattle.drill_report.specs.declared.reporting.Facts.{Facts}
use Rattle.drill_report.specs.Report.{Said, drops_of}

abbrev pub said_by : Facts → Said
said_by facts = record {
  fed = facts.fed;
  released = facts.released;
  drops = drops_of facts.table facts.shown.now;
  waiting = facts.waiting;
  crashes = facts.crashes;
  replayed = facts.replayed;
  differs = facts.differs;
}
