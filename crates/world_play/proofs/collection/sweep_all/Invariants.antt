use Rattle.std.proofs.Common.{◌-◌, ◌≡◌, min, length}
use Rattle.world_model.specs.Sizes.{item_count}
use Rattle.world_model.specs.Histories.{after}
use Rattle.world_model.specs.Engines.{KeepsHeld}
use Rattle.world_play.specs.Stages.{FindsOn}
use Rattle.world_play.proofs.collection.sweep_all.Given as goal

abbrev pub invariant-sweeps : goal.invariant-sweeps
invariant-sweeps g l = record {
  on : FindsOn g.S.Shape.sizes (g.E.Engine.history l.fn.engine) (g.E.Engine.history l.engine) l.budget l.found.items;
  held : KeepsHeld (g.E.Engine.holds l.fn.engine) (g.E.Engine.holds l.engine);
  room : length l.room ≡ min l.budget (item_count g.S.Shape.sizes);
}

abbrev pub decreases-sweeps : goal.decreases-sweeps
decreases-sweeps g l = item_count g.S.Shape.sizes - (after (g.E.Engine.history l.engine)).swept
