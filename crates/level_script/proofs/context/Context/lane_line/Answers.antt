use Rattle.std.proofs.Common.{sym, ap, ◌∙◌, subst, Result, Ok}
use Rattle.level_script.specs.Context.{Takes, with_line}
use Rattle.level_script.specs.declared.context.Context.{Context}
use Rattle.level_script.specs.declared.cause.Cause.{Cause}
use Rattle.level_script.specs.declared.script.Cmd.TheVariants as cmd
use Rattle.level_script.specs.declared.tables.Tables.{Tables}
use Rattle.level_script.proofs.Taking.{lane_ok}
use Rattle.level_script.proofs.context.Context.lane_line.Goals as goal

pub returns : goal.returns
returns c =
    let old = c.args.self.now in
    let done = lane_ok c.args.number old c.args.lane.now c.args.does.now c.in-Some.lane c.step.new.self c.in_ok-cmd.cmd (sym c.in-Some.ensures) c.in_ok-cmd.ensures.lane in
    let P : Result Context Cause → Type 0 = λ want. Takes want c.push.new.self c.push.result in
    let made =
    λ (t : Tables). Ok (with_line (record { tables = t; in_header = old.in_header; lanes = c.step.new.self; lines = old.lines }) c.args.number (cmd.Lane c.in-Some.lane c.in_ok-cmd.cmd)) in
    subst P (ap made c.in_ok-cmd.ensures.tables ∙ sym done) c.push.ensures
