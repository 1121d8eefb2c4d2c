use Rattle.world_model.proofs.Edges.{edges}
use Rattle.world_model.proofs.examples.edges_are_sharp.Goals as goal

pub returns : goal.returns
returns c = edges
