-- The Rust types of this crate under one name, for its definitions and proofs.
pub use Rattle.world_model.specs.declared.name.Name.{Name}
pub use Rattle.world_model.specs.declared.name.Ref.{Ref}
pub use Rattle.world_model.specs.declared.name.Weak.{Weak}
pub use Rattle.world_model.specs.declared.kind.ClassId.{ClassId}
pub use Rattle.world_model.specs.declared.kind.Ready.{Ready}
pub use Rattle.world_model.specs.declared.kind.Ready.TheVariants as ready
pub use Rattle.world_model.specs.declared.kind.Kind.{Kind}
pub use Rattle.world_model.specs.declared.pass.Phase.{Phase}
pub use Rattle.world_model.specs.declared.pass.Phase.TheVariants.{Idle, Marking, Gathering}
pub use Rattle.world_model.specs.declared.pass.Pass.{Pass}
pub use Rattle.world_model.specs.declared.pass.Pass.TheVariants.{Lane, Marker, Collector}
pub use Rattle.world_model.specs.declared.reply.CreateErr.{CreateErr}
pub use Rattle.world_model.specs.declared.reply.CreateErr.TheVariants as create
pub use Rattle.world_model.specs.declared.reply.SerialsSpent.{SerialsSpent}
pub use Rattle.world_model.specs.declared.reply.DissolveErr.{DissolveErr}
pub use Rattle.world_model.specs.declared.reply.DissolveErr.TheVariants as dissolve
pub use Rattle.world_model.specs.declared.reply.Begin.{Begin}
pub use Rattle.world_model.specs.declared.reply.Begin.TheVariants as begin
pub use Rattle.world_model.specs.declared.reply.Commit.{Commit}
pub use Rattle.world_model.specs.declared.reply.Commit.TheVariants as commit
pub use Rattle.world_model.specs.declared.reply.MarkStop.{MarkStop}
pub use Rattle.world_model.specs.declared.reply.MarkStop.TheVariants as stop
pub use Rattle.world_model.specs.declared.reply.Marked.{Marked}
pub use Rattle.world_model.specs.declared.reply.SweepStop.{SweepStop}
pub use Rattle.world_model.specs.declared.reply.SweepStop.TheVariants as sweep
pub use Rattle.world_model.specs.declared.reply.Swept.{Swept}
pub use Rattle.world_model.specs.declared.reply.Purged.{Purged}
pub use Rattle.world_model.specs.declared.reply.Purged.TheVariants as purge
pub use Rattle.world_model.specs.declared.reply.Collected.{Collected}
pub use Rattle.world_model.specs.declared.act.Act.{Act}
pub use Rattle.world_model.specs.declared.act.Act.TheVariants as act
pub use Rattle.world_model.specs.declared.act.Entry.{Entry}
pub use Rattle.world_model.specs.declared.hooks.HookCall.{HookCall}
pub use Rattle.world_model.specs.declared.hooks.HookCall.TheVariants as called
