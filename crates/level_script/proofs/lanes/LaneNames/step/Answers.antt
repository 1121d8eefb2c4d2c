use Rattle.std.proofs.Common.{sym, ap, ◌∙◌}
use Rattle.level_script.specs.Lanes.{with_bound, known_bound, with_command, with_frame}
use Rattle.level_script.specs.Operands.{allows}
use Rattle.level_script.specs.declared.lanes.LaneNames.{LaneNames}
use Rattle.level_script.specs.declared.operand.Frame.{Frame}
use Rattle.level_script.proofs.Framing.{step_done}
use Rattle.level_script.proofs.lanes.LaneNames.step.Goals as goal

pub returns-in-Some-command_of-clause-lane : goal.returns-in-Some-command_of-clause-lane
returns-in-Some-command_of-clause-lane c =
    let t = c.args.tables.now in
    let lane = c.args.self.now in
    let does = c.args.does.now in
    let made = λ (l : LaneNames). with_command (with_bound does.binds l) (known_bound t l does.binds) in
    let entered = c.enter.ensures ∙ ap (λ (f : Frame). with_frame f lane) c.frame_of-frame.ensures in
    step_done t lane c.bind.new.self does c.in_ok-bound.bound c.in-Some.first c.in-Some.second c.in-Some-command_of.cmd
    (sym c.are_in_range.ensures ∙ c.if-not-are_in_range.false)
    (ap (λ (f : Frame). allows f lane.opened) (sym c.frame_of-frame.ensures) ∙ sym c.allows.ensures ∙ c.if-not-allows.false)
    (sym c.operands.ensures ∙ c.in-Some.is)
    (ap made (sym entered) ∙ c.in_ok-bound.ensures.lane)
    (sym c.command_of.ensures ∙ c.in-Some-command_of.is)
