-- What the parts of a system show.
use Rattle.system_parts.specs.declared.assembly.Core.TheInside.{Inside}
use Rattle.system_parts.specs.Parts.{Parts}

-- each part as it is, and of lists their elements
abbrev pub parts_in : {P V : Type 0} → Inside P V → Parts P V
parts_in y = record {
  program = y.program;
  fractions = y.unit;
  clock = y.clock;
  generator = y.generator;
  left = y.left.items;
  inputs = y.inputs;
  up = y.up;
  master = y.master;
  schedule = y.schedule;
  guide = y.guide;
  store = y.store;
  ended = y.ended.items;
  moves = y.moves;
  bytes = y.bytes;
  sent = y.sent;
  logger = y.logger;
  released = y.released;
}
