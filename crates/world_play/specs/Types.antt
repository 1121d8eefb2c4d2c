-- The Rust types of the crates below and of this one under one name.
pub use Rattle.world_model.specs.declared.name.Name.{Name}
pub use Rattle.world_model.specs.declared.name.Ref.{Ref}
pub use Rattle.world_model.specs.declared.name.Weak.{Weak}
pub use Rattle.world_model.specs.declared.kind.ClassId.{ClassId}
pub use Rattle.world_model.specs.declared.kind.Ready.{Ready}
pub use Rattle.world_model.specs.declared.kind.Ready.TheVariants as ready
pub use Rattle.world_model.specs.declared.kind.Kind.{Kind}
pub use Rattle.world_model.specs.declared.pass.Phase.{Phase}
pub use Rattle.world_model.specs.declared.pass.Phase.TheVariants.{Idle, Marking, Gathering}
pub use Rattle.world_model.specs.declared.pass.Pass.{Pass}
pub use Rattle.world_model.specs.declared.pass.Pass.TheVariants.{Lane, Marker, Collector}
pub use Rattle.world_model.specs.declared.reply.CreateErr.{CreateErr}
pub use Rattle.world_model.specs.declared.reply.CreateErr.TheVariants as create
pub use Rattle.world_model.specs.declared.reply.SerialsSpent.{SerialsSpent}
pub use Rattle.world_model.specs.declared.reply.Begin.{Begin}
pub use Rattle.world_model.specs.declared.reply.Begin.TheVariants as begin
pub use Rattle.world_model.specs.declared.reply.Commit.{Commit}
pub use Rattle.world_model.specs.declared.reply.Commit.TheVariants as commit
pub use Rattle.world_model.specs.declared.reply.MarkStop.{MarkStop}
pub use Rattle.world_model.specs.declared.reply.MarkStop.TheVariants as stop
pub use Rattle.world_model.specs.declared.reply.Marked.{Marked}
pub use Rattle.world_model.specs.declared.reply.SweepStop.{SweepStop}
pub use Rattle.world_model.specs.declared.reply.SweepStop.TheVariants as sweep
pub use Rattle.world_model.specs.declared.reply.Swept.{Swept}
pub use Rattle.world_model.specs.declared.reply.Purged.{Purged}
pub use Rattle.world_model.specs.declared.reply.Purged.TheVariants as purge
pub use Rattle.world_model.specs.declared.reply.Collected.{Collected}
pub use Rattle.world_model.specs.declared.act.Act.{Act}
pub use Rattle.world_model.specs.declared.act.Act.TheVariants as act
pub use Rattle.world_model.specs.declared.act.Entry.{Entry}
pub use Rattle.world_play.specs.declared.reply.Reply.{Reply}
pub use Rattle.world_play.specs.declared.reply.Reply.TheVariants as reply
pub use Rattle.level_script.specs.declared.script.Line.{Line}
pub use Rattle.level_script.specs.declared.script.Cmd.{Cmd}
pub use Rattle.level_script.specs.declared.script.Cmd.TheVariants as cmd
pub use Rattle.level_script.specs.declared.lane_cmd.LaneCmd.{LaneCmd}
pub use Rattle.level_script.specs.declared.lane_cmd.LaneCmd.TheVariants as lane_cmd
pub use Rattle.level_script.specs.declared.lane_cmd.Member.{Member}
pub use Rattle.level_script.specs.declared.script.GcCmd.{GcCmd}
pub use Rattle.level_script.specs.declared.script.GcCmd.TheVariants as gc_cmd
pub use Rattle.level_script.specs.declared.script.Spot.{Spot}
pub use Rattle.class_schema.specs.declared.field.Field.{Field}
pub use Rattle.class_schema.specs.declared.field.FieldKind.{FieldKind}
pub use Rattle.class_schema.specs.declared.field.FieldKind.TheVariants as field
