-- The Rust types under one name, for the definitions and proofs.
pub use Rattle.world_model.specs.declared.pass.Phase.{Phase}
pub use Rattle.world_model.specs.declared.pass.Phase.TheVariants.{Idle, Marking, Gathering}
pub use Rattle.world_model.specs.declared.name.Name.{Name}
pub use Rattle.world_model.specs.declared.name.Ref.{Ref}
pub use Rattle.world_model.specs.declared.name.Weak.{Weak}
pub use Rattle.world_model.specs.declared.kind.ClassId.{ClassId}
pub use Rattle.world_model.specs.declared.kind.Kind.{Kind}
pub use Rattle.world_model.specs.declared.kind.Ready.{Ready}
pub use Rattle.world_model.specs.declared.kind.Ready.TheVariants as ready
pub use Rattle.word_layout.specs.declared.gate.Gate.{Gate}
pub use Rattle.word_layout.specs.declared.head.Life.{Life}
pub use Rattle.word_layout.specs.declared.head.Life.TheVariants as life
pub use Rattle.word_layout.specs.declared.head.Head.{Head}
pub use Rattle.word_layout.specs.declared.stock.Stock.{Stock}
pub use Rattle.word_layout.specs.declared.place.Part.{Part}
pub use Rattle.word_layout.specs.declared.place.Part.TheVariants as part
