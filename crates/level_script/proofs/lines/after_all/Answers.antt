use Rattle.std.proofs.Math.Seq.{drop-length}
use Rattle.level_script.proofs.lines.after_all.Goals as goal

pub returns : goal.returns
returns c = rw c.split_at.ensures.back (drop-length c.args.bytes.now)
