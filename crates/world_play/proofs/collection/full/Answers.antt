use Rattle.std.proofs.Common.{refl}
use Rattle.world_play.specs.Types.begin
use Rattle.world_play.proofs.Collecting.{starts_marking, collects_all, collects_some, refuses, each_ok, each_err}
use Rattle.world_play.proofs.collection.full.Goals as goal

pub go_on-requires-clause-marking : goal.go_on-requires-clause-marking
go_on-requires-clause-marking g c = starts_marking _ _ _ c.in-Started.ensures.entries

pub returns-in-Started : goal.returns-in-Started
returns-in-Started g c = record {
  all = each_ok _ _ c.go_on.result (λ r on. collects_all _ _ _ _ _ _ _ _ _ r c.in-Started.ensures.entries c.in-Started.ensures.held on) c.go_on.ensures.all;
  some = each_err _ _ c.go_on.result (λ on. collects_some _ _ _ _ _ c.in-Started.ensures.entries on) c.go_on.ensures.some;
}

pub returns-in-Running-clause-all : goal.returns-in-Running-clause-all
returns-in-Running-clause-all g c = refuses _ _ _ _ _ _ _ (begin.Running c.in-Running.phase) _ refl c.in-Running.ensures.entries c.in-Running.ensures.held

pub returns-in-Purging-clause-all : goal.returns-in-Purging-clause-all
returns-in-Purging-clause-all g c = refuses _ _ _ _ _ _ _ (begin.Purging c.in-Purging.left) _ refl c.in-Purging.ensures.entries c.in-Purging.ensures.held

pub returns-in-Frames-clause-all : goal.returns-in-Frames-clause-all
returns-in-Frames-clause-all g c = refuses _ _ _ _ _ _ _ (begin.Frames c.in-Frames.frames) _ refl c.in-Frames.ensures.entries c.in-Frames.ensures.held
