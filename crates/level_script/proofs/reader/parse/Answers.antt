use Rattle.std.proofs.Common.{◌≡◌, Some, rules}
use Rattle.level_script.specs.Reading.{script_of, outcome_of}
use Rattle.level_script.proofs.Framing.{playable}
use Rattle.level_script.proofs.reader.parse.Goals as goal

pub returns-in-Ok-into_script-clause-playable : goal.returns-in-Ok-into_script-clause-playable
unfolding script_of outcome_of
returns-in-Ok-into_script-clause-playable c =
    let is : script_of c.args.bytes.now c.args.limits ≡ Some c.in-Ok-into_script.script = search rules in
    playable c.args.bytes.now c.args.limits c.in-Ok-into_script.script is
