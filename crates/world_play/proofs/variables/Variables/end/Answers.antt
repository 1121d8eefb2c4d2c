use Rattle.std.proofs.Common.{refl, length}
use Rattle.std.proofs.lemmas.Option.{slice_get_read}
use Rattle.world_play.proofs.Keeping.{lane_inside, end_standing}
use Rattle.world_play.proofs.variables.Variables.end.Goals as goal

pub returns : goal.returns
returns c =
    let lanes = c.args.self.now.lanes.items in
    let lane = c.args.lane in
    let l = c.index_mut.result.now in
    let inside = lane_inside lanes lane c.requires in
    let at = slice_get_read lanes (length lanes) lane l refl inside c.index_mut.ensures.value in
    end_standing lanes c.args.self.now.weaks.items lane l c.end.new.self at inside c.end.ensures.count c.end.ensures.none
