use Rattle.std.proofs.Common.{◌≡◌, ◌≤◌, length, IsAscii, IsTrue}
use Rattle.level_script.specs.Lines.{input_lines}
use Rattle.level_script.specs.Reading.{read_from}
use Rattle.level_script.proofs.reader.take_lines.Given as goal

abbrev pub invariant-loop-line : goal.invariant-loop-line
invariant-loop-line l = record {
  same : read_from l.number l.context (input_lines l.rest) ≡ read_from 1 l.fn.context (input_lines l.bytes);
  few : l.number ≤ 200001;
  ascii : IsTrue l.is_ascii → IsAscii l.rest;
}

abbrev pub decreases-loop-line : goal.decreases-loop-line
decreases-loop-line l = length l.rest
