-- What is told of a run that did not end well.
use Rattle.std.specs.Prelude.{ℕ, List, [], ◌++◌, codes, decimal}
use Rattle.level_script.specs.declared.cause.Cause.{Cause}
use Rattle.level_script.specs.declared.cause.Cause.TheVariants as cause
use Rattle.class_schema.specs.declared.refusal.SchemaErr.{SchemaErr}
use Rattle.class_schema.specs.declared.refusal.SchemaErr.TheVariants as schema
use Rattle.level_script.specs.declared.cause.ScriptErr.{ScriptErr}
use Rattle.world_play.specs.declared.status.Status.{Status}
use Rattle.world_play.specs.declared.status.Status.TheVariants as status

-- why the table of classes refused a line
abbrev pub schema_text : SchemaErr → List ℕ
schema_text (schema.NameTaken line) = codes "name taken at line " ++ decimal line
schema_text schema.NoParent = codes "no parent"
schema_text (schema.TooManySlots used asked) = codes "too many slots"
schema_text schema.HasChildren = codes "has children"
schema_text schema.TooManyClasses = codes "too many classes"

-- what is wrong with a line
abbrev pub cause_text : Cause → List ℕ
cause_text cause.TooLong = codes "too long"
cause_text cause.Utf8 = codes "not utf-8"
cause_text cause.UnknownCommand = codes "unknown command"
cause_text cause.Words = codes "words"
cause_text cause.Number = codes "number"
cause_text cause.Frame = codes "frame"
cause_text cause.UnknownName = codes "unknown name"
cause_text cause.NameTwice = codes "name twice"
cause_text cause.ParShape = codes "par shape"
cause_text (cause.Schema refusal) = schema_text refusal

-- the line about a script
abbrev pub script_text : ScriptErr → List ℕ
script_text fault = codes "worldrun: script line " ++ (decimal fault.line ++ (codes ": " ++ (cause_text fault.cause ++ codes "\n")))

-- the line about a run
abbrev pub fault_text : Status → List ℕ
fault_text status.Ok = []
fault_text status.Usage = codes "worldrun: usage: play or gen\n"
fault_text (status.Script fault) = script_text fault
fault_text status.ReadFault = codes "worldrun: read fault\n"
fault_text status.WriteFault = codes "worldrun: write fault\n"
fault_text status.Memory = codes "worldrun: memory\n"

-- the exit status
abbrev pub exit_of : Status → ℕ
exit_of status.Ok = 0
exit_of status.Usage = 2
exit_of (status.Script fault) = 3
exit_of status.ReadFault = 4
exit_of status.WriteFault = 5
exit_of status.Memory = 6
