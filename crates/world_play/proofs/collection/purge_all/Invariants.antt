use Rattle.std.proofs.Common.{◌≡◌, ◌+◌, ◌*◌, min, length}
use Rattle.world_model.specs.World.{left_of}
use Rattle.world_model.specs.Histories.{after}
use Rattle.world_model.specs.Engines.{KeepsHeld}
use Rattle.world_play.specs.Collections.{is_ready}
use Rattle.world_play.proofs.Purging.{DestroysOn, IsByClass}
use Rattle.world_play.proofs.collection.purge_all.Given as goal

abbrev pub invariant-purges : goal.invariant-purges
invariant-purges g l =
    let history = g.E.Engine.history in
    record {
      on : DestroysOn g.S.Shape.sizes l.budget l.header (history l.fn.engine) (history l.engine) (103 * length (after (history l.fn.engine)).found) l.bound;
      left : l.left ≡ left_of (after (history l.engine));
      held : KeepsHeld (g.E.Engine.holds l.fn.engine) (g.E.Engine.holds l.engine);
      tested : IsByClass l.header (λ n class poll answer. answer ≡ is_ready l.hooks.classes.now class poll);
    }

abbrev pub decreases-purges : goal.decreases-purges
decreases-purges g l = l.bound + min l.left 1
