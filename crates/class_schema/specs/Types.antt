-- The Rust types under one name, for the definitions and proofs.
pub use Rattle.world_model.specs.declared.kind.ClassId.{ClassId}
pub use Rattle.world_model.specs.declared.kind.Kind.{Kind}
pub use Rattle.world_model.specs.declared.kind.Ready.{Ready}
pub use Rattle.world_model.specs.declared.kind.Ready.TheVariants as ready
pub use Rattle.class_schema.specs.declared.field.FieldKind.{FieldKind}
pub use Rattle.class_schema.specs.declared.field.FieldKind.TheVariants as kind
pub use Rattle.class_schema.specs.declared.field.Field.{Field}
pub use Rattle.class_schema.specs.declared.refusal.SchemaErr.{SchemaErr}
pub use Rattle.class_schema.specs.declared.refusal.SchemaErr.TheVariants as refusal
pub use Rattle.class_schema.specs.declared.refusal.AddErr.{AddErr}
pub use Rattle.class_schema.specs.declared.refusal.AddErr.TheVariants as add
