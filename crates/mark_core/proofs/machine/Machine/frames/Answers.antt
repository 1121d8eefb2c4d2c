use Rattle.std.proofs.Common.{ℕ, ◌+◌, ◌≤◌, ap, ◌∙◌, arith, Bool, false, List, length}
use Rattle.std.proofs.Math.ListN.{get_or}
use Rattle.mark_core.specs.Machine.{count_below}
use Rattle.mark_core.specs.Sets.{count_in}
use Rattle.mark_core.proofs.Tools.{count-most}
use Rattle.mark_core.proofs.machine.Machine.frames.Goals as goal

most_in : (bits : List Bool) → count_in bits ≤ length bits
most_in bits = count-most (λ k. get_or bits k false) (length bits)

pub overflow_add-result : goal.overflow_add-result
overflow_add-result c =
    let h = c.self.invariant in
    let shape = h.shape in
    let lanes = most_in c.self.inside.lane_open in
    let markers = most_in c.self.inside.marker_open in
    let lanes_len = h.lane_open_len in
    let markers_len = h.marker_open_len in
    let few : c.count.result + c.count-2.result ≤ 24 = let a = c.count.ensures in let b = c.count-2.ensures in let l = shape.lanes_to in let m = shape.markers_to in omega arith in
    omega arith

pub returns-clause-frames : goal.returns-clause-frames
returns-clause-frames c =
    let h = c.self.invariant in
    let lanes = c.count.ensures ∙ ap (count_below (λ k. get_or c.self.inside.lane_open k false)) h.lane_open_len in
    let markers = c.count-2.ensures ∙ ap (count_below (λ k. get_or c.self.inside.marker_open k false)) h.marker_open_len in
    rw (← c.self.view_is) (ap (λ (n : ℕ). n + c.count-2.result) lanes ∙ ap (λ (n : ℕ). count_below (λ k. get_or c.self.inside.lane_open k false) c.self.inside.shape.lanes + n) markers)

pub returns-clause-few : goal.returns-clause-few
returns-clause-few c =
    let h = c.self.invariant in
    let shape = h.shape in
    let lanes = most_in c.self.inside.lane_open in
    let markers = most_in c.self.inside.marker_open in
    let lanes_len = h.lane_open_len in
    let markers_len = h.marker_open_len in
    let a = c.count.ensures in let b = c.count-2.ensures in let l = shape.lanes_to in let m = shape.markers_to in omega arith
