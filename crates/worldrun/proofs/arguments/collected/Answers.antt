use Rattle.std.proofs.Common.{refl, Ok}
use Rattle.std.specs.declared.alloc.AllocError.{AllocError}
use Rattle.std.specs.Vec.Iter.{into_iter_items}
use Rattle.std.proofs.lemmas.Iterator.{items_from_collect}
use Rattle.std.proofs.lemmas.Iterator.Adapters.{YieldsList-from_vec}
use Rattle.worldrun.proofs.arguments.collected.Goals as goal

pub returns-in-Ok-clause-words : goal.returns-in-Ok-clause-words
returns-in-Ok-clause-words c =
    items_from_collect {E = AllocError} (Ok c.in-Ok.words) c.in-Ok.ensures.ran (YieldsList-from_vec (into_iter_items c.args.all) refl c.args.all.rest.ok.0)
