-- The Rust types under one name, for the definitions and proofs.
pub use Rattle.world_model.specs.declared.name.Name.{Name}
pub use Rattle.world_model.specs.declared.name.Ref.{Ref}
pub use Rattle.world_model.specs.declared.name.Weak.{Weak}
pub use Rattle.world_model.specs.declared.kind.Kind.{Kind}
pub use Rattle.world_model.specs.declared.pass.Phase.{Phase}
pub use Rattle.world_model.specs.declared.pass.Phase.TheVariants.{Idle, Marking, Gathering}
pub use Rattle.world_model.specs.declared.pass.Pass.{Pass}
pub use Rattle.world_model.specs.declared.pass.Pass.TheVariants.{Lane, Marker, Collector}
pub use Rattle.world_model.specs.declared.pass.PassSet.{PassSet}
pub use Rattle.world_model.specs.declared.reply.Begin.{Begin}
pub use Rattle.world_model.specs.declared.reply.Begin.TheVariants as begin
pub use Rattle.world_model.specs.declared.reply.Commit.{Commit}
pub use Rattle.world_model.specs.declared.reply.Commit.TheVariants as commit
pub use Rattle.world_model.specs.declared.reply.MarkStop.{MarkStop}
pub use Rattle.world_model.specs.declared.reply.MarkStop.TheVariants as stop
pub use Rattle.world_model.specs.declared.reply.Marked.{Marked}
pub use Rattle.world_model.specs.declared.reply.SweepStop.{SweepStop}
pub use Rattle.world_model.specs.declared.reply.SweepStop.TheVariants as sweep
pub use Rattle.world_model.specs.declared.reply.Swept.{Swept}
pub use Rattle.world_model.specs.declared.reply.Purged.{Purged}
pub use Rattle.world_model.specs.declared.reply.Purged.TheVariants as purge
pub use Rattle.world_model.specs.declared.act.Act.{Act}
pub use Rattle.world_model.specs.declared.act.Act.TheVariants as act
pub use Rattle.world_model.specs.declared.act.Entry.{Entry}
-- words
pub use Rattle.word_layout.specs.declared.gate.Gate.{Gate}
pub use Rattle.word_layout.specs.declared.head.Life.{Life}
pub use Rattle.word_layout.specs.declared.head.Life.TheVariants as life
pub use Rattle.word_layout.specs.declared.head.Head.{Head}
pub use Rattle.word_layout.specs.declared.stock.Stock.{Stock}
pub use Rattle.word_layout.specs.declared.place.Part.{Part}
pub use Rattle.word_layout.specs.declared.place.Part.TheVariants as part
-- the machine of marking
pub use Rattle.mark_core.specs.declared.types.Place.{Place}
pub use Rattle.mark_core.specs.declared.types.Place.TheVariants.{Nowhere, InRow, OnStack, UnderScan, InHand, InCollector}
pub use Rattle.mark_core.specs.declared.types.Job.{Job}
pub use Rattle.mark_core.specs.declared.types.Job.TheVariants.{NoJob, Roots, Look}
-- what seats know
pub use Rattle.heap_rule.specs.declared.views.LaneView.{LaneView}
pub use Rattle.heap_rule.specs.declared.views.Scanning.{Scanning}
pub use Rattle.heap_rule.specs.declared.views.MarkerView.{MarkerView}
pub use Rattle.heap_rule.specs.declared.views.Looking.{Looking}
pub use Rattle.heap_rule.specs.declared.views.Looking.TheVariants.{Fresh, Owned, White}
pub use Rattle.heap_rule.specs.declared.views.CollectorView.{CollectorView}
pub use Rattle.heap_rule.specs.declared.views.Returned.{Returned}
pub use Rattle.heap_rule.specs.declared.views.Known.{Known}
pub use Rattle.heap_rule.specs.declared.views.Memo.{Memo}
pub use Rattle.heap_rule.specs.declared.views.View.{View}
-- what steps are for
pub use Rattle.heap_rule.specs.declared.asks.ItemWord.{ItemWord}
pub use Rattle.heap_rule.specs.declared.asks.ItemWord.TheVariants as item_word
pub use Rattle.heap_rule.specs.declared.asks.LaneGate.{LaneGate}
pub use Rattle.heap_rule.specs.declared.asks.LaneGate.TheVariants as lane_gate
pub use Rattle.heap_rule.specs.declared.asks.MemoLoad.{MemoLoad}
pub use Rattle.heap_rule.specs.declared.asks.MemoLoad.TheVariants as memo_load
pub use Rattle.heap_rule.specs.declared.asks.LaneAsk.{LaneAsk}
pub use Rattle.heap_rule.specs.declared.asks.LaneAsk.TheVariants as lane_ask
pub use Rattle.heap_rule.specs.declared.asks.MarkerAsk.{MarkerAsk}
pub use Rattle.heap_rule.specs.declared.asks.MarkerAsk.TheVariants as marker_ask
pub use Rattle.heap_rule.specs.declared.asks.CollectorGate.{CollectorGate}
pub use Rattle.heap_rule.specs.declared.asks.CollectorGate.TheVariants as collector_gate
pub use Rattle.heap_rule.specs.declared.asks.LifeStep.{LifeStep}
pub use Rattle.heap_rule.specs.declared.asks.LifeStep.TheVariants as life_step
pub use Rattle.heap_rule.specs.declared.asks.CollectorAsk.{CollectorAsk}
pub use Rattle.heap_rule.specs.declared.asks.CollectorAsk.TheVariants as collector_ask
pub use Rattle.heap_rule.specs.declared.asks.Ask.{Ask}
pub use Rattle.heap_rule.specs.declared.asks.Ask.TheVariants as ask
