use Rattle.std.proofs.Common.{refl, ap, ◌∙◌, length}
use Rattle.std.proofs.lemmas.List.{length-set}
use Rattle.std.proofs.lemmas.Option.{slice_get_read}
use Rattle.world_play.proofs.Keeping.{lane_inside, var_inside, bind_standing}
use Rattle.world_play.proofs.variables.Variables.bind.Goals as goal

pub returns : goal.returns
returns c =
    let lanes = c.args.self.now.lanes.items in
    let lane = c.args.lane in
    let l = c.index_mut.result.now in
    let inside = lane_inside lanes lane c.requires.lane_there in
    let at = slice_get_read lanes (length lanes) lane l refl inside c.index_mut.ensures.value in
    let var = var_inside lanes lane c.args.var l at c.requires.var_there in
    bind_standing lanes c.args.self.now.weaks.items lane c.args.var l c.bind.new.self c.args.to at inside c.bind.ensures.frame c.bind.ensures.slots
    (ap length c.bind.ensures.slots ∙ length-set _ _ _) var
