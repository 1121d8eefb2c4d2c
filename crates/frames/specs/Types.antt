-- The Rust types under one name, for the definitions and proofs.
pub use Rattle.world_model.specs.declared.pass.Phase.{Phase}
pub use Rattle.world_model.specs.declared.pass.Pass.TheVariants.{Lane}
pub use Rattle.world_model.specs.declared.act.Act.TheVariants as act
pub use Rattle.world_model.specs.declared.act.Entry.{Entry}
pub use Rattle.word_layout.specs.declared.gate.Gate.{Gate}
pub use Rattle.heap_rule.specs.declared.views.View.{View}
