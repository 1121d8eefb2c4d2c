-- How a run ends, and what it has done then.
use Rattle.std.specs.Prelude.{◌≡◌, ◌≢◌, ◌↔◌, ℕ, ◌⊎◌, List, [], length, map, take, drop, string_bytes, String, Option, Some, None, option_map, IfSome}
use Rattle.std.specs.declared.alloc.Global.{Global}
use Rattle.play_io.specs.Faults.{Rose}
use Rattle.world_model.specs.Sizes.{Sizes}
use Rattle.world_model.specs.Histories.{Legal}
use Rattle.world_model.specs.Follows.{Headline}
use Rattle.level_script.specs.declared.limits.Limits.{Limits}
use Rattle.level_script.specs.declared.cause.ScriptErr.{ScriptErr}
use Rattle.level_script.specs.declared.script.Script.{Script}
use Rattle.level_script.specs.Reading.{script_of, fault_of}
use Rattle.world_play.specs.Types.{Entry}
use Rattle.world_play.specs.Header.{Header}
use Rattle.world_play.specs.Turns.{Played, Stopped}
use Rattle.world_play.specs.Streams.{Gains, Gained, line_feeds}
use Rattle.world_play.specs.Outcome.{outcome}
use Rattle.world_play.specs.Words.{sizes_of, words_of}
use Rattle.world_play.specs.declared.words.Words.{Words}
use Rattle.world_play.specs.declared.words.ShapeName.{ShapeName}
use Rattle.world_play.specs.declared.words.ShapeName.TheVariants as shape
use Rattle.world_play.specs.declared.status.Status.{Status}
use Rattle.world_play.specs.declared.status.Status.TheVariants as status
use Rattle.world_play.specs.declared.run.Run.{Run}
use Rattle.world_play.specs.declared.run.Run.TheVariants as run

-- what the words after the program's name say, where they are in the grammar
abbrev pub said : List (String Global) → Option Words
said words = words_of (map string_bytes words)

-- the shape that they name
abbrev pub shape_said : List (String Global) → Option ShapeName
shape_said words = option_map (λ w. w.shape) (said words)

-- the limits of a script for a shape
abbrev pub limits_of : Sizes → Limits
limits_of z = record { lanes = z.lanes; slots = z.slots; strong = z.strong; markers = z.markers }

abbrev pub limits_in : ShapeName → Limits
limits_in name = limits_of (sizes_of name)

-- what a script tells before its lines
abbrev pub header_of : Script → Header
header_of script = record { classes = script.classes; fields = script.fields }

-- the history of the engine that played
abbrev pub history_of : Run → List Entry
history_of (run.PlainLevel heap) = heap.history
history_of (run.PlainSmall heap) = heap.history

-- the shape of the engine that played
abbrev pub shape_played : Run → ShapeName
shape_played (run.PlainLevel heap) = shape.Level
shape_played (run.PlainSmall heap) = shape.Small

-- what is left of an input once it was read: what is behind its first 16,777,217 bytes
abbrev pub behind : List ℕ → List ℕ
behind input = drop 16777217 input

-- the bytes of a source were taken up to its end, or to one byte past the limit
abbrev pub WasTaken : Option (List ℕ) → Option (List ℕ) → Type 0
WasTaken left now = IfSome left (λ input. now ≡ Some (behind input))

-- ---- reading

-- these are the bytes that the source had, where it tells them
abbrev pub AreLeft : Option (List ℕ) → List ℕ → Type 0
AreLeft left bytes = IfSome left (λ input. input ≡ bytes)

-- there is an input, of the bytes that the source had, and it is this script
pub record IsScript (limits : Limits) (left : Option (List ℕ)) (script : Script) : Type 0 where
  pub input : List ℕ
  pub told : AreLeft left input
  pub is : script_of input limits ≡ Some script

-- there is an input, of the bytes that the source had, and it has this fault
pub record HasFault (limits : Limits) (left : Option (List ℕ)) (fault : ScriptErr) : Type 0 where
  pub input : List ℕ
  pub told : AreLeft left input
  pub is : fault_of input limits ≡ Some fault

-- why no script was read
abbrev pub Refuses : Limits → Option (List ℕ) → Option (List ℕ) → ℕ → ℕ → Status → Type 0
Refuses limits left rest before now status.Ok = ⊥
Refuses limits left rest before now status.Usage = ⊥
Refuses limits left rest before now (status.Script fault) = HasFault limits left fault × WasTaken left rest × (now ≡ before)
Refuses limits left rest before now status.ReadFault = Rose before now
Refuses limits left rest before now status.WriteFault = ⊥
Refuses limits left rest before now status.Memory = now ≡ before

-- ---- playing

-- a run can end so before there is an engine
abbrev pub IsBefore : Status → Type 0
IsBefore status.Ok = ⊥
IsBefore status.WriteFault = ⊥
IsBefore _ = Unit {0}

-- a play ends so
abbrev pub WritesFault : ℕ → ℕ → Status → Type 0
WritesFault before now status.Ok = now ≡ before
WritesFault before now status.WriteFault = Rose before now
WritesFault before now status.Memory = now ≡ before
WritesFault before now _ = ⊥

-- there is an engine where it played, and none where nothing was played
abbrev pub HasRun : {A : Type 0} → Status → Option A → Type 0
HasRun status.Ok r = r ≢ None
HasRun status.WriteFault r = r ≢ None
HasRun status.Memory r = Unit {0}
HasRun _ r = r ≡ None

-- The engine played the script to its end and the sink took its text; or, where the run ended early, it played the first lines, and the sink took a beginning of their text.
abbrev pub PlayedBy : Sizes → ℕ → Status → Script → List Entry → Option (List ℕ) → Option (List ℕ) → ℕ → Type 0
PlayedBy z budget status.Ok script history had has count = Played z budget (header_of script) script.lines history had has × (count ≡ length script.lines)
PlayedBy z budget _ script history had has count = Stopped z budget (header_of script) script.lines history had has count

-- Where there is an engine it played so; where there is none, nothing was put.
abbrev pub WasPlayed : Sizes → ℕ → Status → Script → Option (List Entry) → Option (List ℕ) → Option (List ℕ) → ℕ → Type 0
WasPlayed z budget how script None had has count = (has ≡ had) × (count ≡ 0)
WasPlayed z budget how script (Some history) had has count = PlayedBy z budget how script history had has count

-- ---- the whole run

-- where a run ended well
abbrev pub OnDone : Status → Type 0 → Type 0
OnDone status.Ok what = what
OnDone _ what = Unit {0}

-- where it ended early
abbrev pub OnStopped : Status → Option Run → (Run → Type 0) → Type 0
OnStopped status.WriteFault r what = IfSome r what
OnStopped status.Memory r what = IfSome r what
OnStopped _ r what = Unit {0}

-- where there is no engine
abbrev pub OnNone : {A : Type 0} → Option A → Type 0 → Type 0
OnNone None what = what
OnNone (Some engine) what = Unit {0}

-- where there is an engine it has this shape
abbrev pub HasShape : ShapeName → Option Run → Type 0
HasShape name r = IfSome r (λ engine. shape_played engine ≡ name)

-- the run ended neither by a fault of the source nor for want of memory
abbrev pub IsUnbroken : Status → Type 0
IsUnbroken how = (how ≢ status.ReadFault) × (how ≢ status.Memory)

-- the bytes are the whole input, or its first 16,777,217 bytes
abbrev pub IsInput : List ℕ → List ℕ → Type 0
IsInput input bytes = (bytes ≡ input) ⊎ (bytes ≡ take 16777217 input)

-- the status is that of a fault exactly where all of the input, or its first 16,777,217 bytes, have that fault, and neither a fault of the source nor want of memory ended the run
abbrev pub NamesExactly : ShapeName → Status → List ℕ → Type 0
NamesExactly name how input = (bytes : List ℕ) (fault : ScriptErr) → IsInput input bytes → (how ≡ status.Script fault) ↔ (IsUnbroken how × (fault_of bytes (limits_in name) ≡ Some fault))

-- The status is that of a fault only where there is an input that has it; and where the source tells its bytes, exactly where these have it.
pub record NamesFault (name : ShapeName) (left : Option (List ℕ)) (how : Status) : Type 0 where
  pub has : (fault : ScriptErr) → how ≡ status.Script fault → HasFault (limits_in name) left fault
  pub exactly : IfSome left (NamesExactly name how)

-- where the input is a script or has a fault that was told, it was taken up to its end, or to one byte past the limit
abbrev pub SaysTaken : Option (List ℕ) → Option (List ℕ) → Status → Option Run → Type 0
SaysTaken left now (status.Script fault) r = WasTaken left now
SaysTaken left now _ None = Unit {0}
SaysTaken left now _ (Some engine) = WasTaken left now

-- one fault of the source was counted, and else none
abbrev pub SaysRead : ℕ → ℕ → Status → Type 0
SaysRead before now status.ReadFault = Rose before now
SaysRead before now _ = now ≡ before

-- one fault of the sink was counted, and else none
abbrev pub SaysWrite : ℕ → ℕ → Status → Type 0
SaysWrite before now status.WriteFault = Rose before now
SaysWrite before now _ = now ≡ before

-- The headline: the whole input, of which nothing is left, is a script, one legal history of this engine plays it, and the sink gained exactly its text.
pub record EndsWell (w : Words) (left now had has : Option (List ℕ)) (engine : Run) : Type 0 where
  pub script : Script
  pub read : IsScript (limits_in w.shape) left script
  pub all : IfSome left (λ input. now ≡ Some [])
  pub played : Played (sizes_of w.shape) w.slice (header_of script) script.lines (history_of engine) had has

-- After a fault of the sink, or without memory: the input is a script, the history of this engine plays its first lines, of the next perhaps some calls, and the sink gained a beginning of the text.
pub record EndsEarly (w : Words) (left had has : Option (List ℕ)) (count : ℕ) (engine : Run) : Type 0 where
  pub script : Script
  pub read : IsScript (limits_in w.shape) left script
  pub stopped : Stopped (sizes_of w.shape) w.slice (header_of script) script.lines (history_of engine) had has count

-- the sink gained the outcome of the script that the input is
pub record WritesOutcome (name : ShapeName) (left had has : Option (List ℕ)) : Type 0 where
  pub script : Script
  pub read : IsScript (limits_in name) left script
  pub gained : Gained had has (outcome (sizes_of name) (header_of script) script.lines)

-- A history is legal, and all that is promised of legal histories holds of it: only whole units that no root reaches are removed, each removed object is begun at most once and finished at most once after that, and a weak pointer gives its own object or nothing.
pub record KeepsPromise (z : Sizes) (history : List Entry) : Type 0 where
  pub legal : Legal z history
  pub headline : Headline z history

-- this is so of the history of the engine that played
abbrev pub RunKeepsPromise : Run → Type 0
RunKeepsPromise engine = KeepsPromise (sizes_of (shape_played engine)) (history_of engine)

-- the number is that of the line feeds that the sink gained
abbrev pub CountsLines : Option (List ℕ) → Option (List ℕ) → ℕ → Type 0
CountsLines had has count = Gains had has (λ bytes. count ≡ line_feeds bytes)

-- the bytes are told, and are a script
abbrev pub TellsScript : ShapeName → Option (List ℕ) → Type 0
TellsScript name None = ⊥
TellsScript name (Some input) = (script : Script) × (script_of input (limits_in name) ≡ Some script)

-- with an input that is a script and no fault counted, the status is Ok, or there was no memory
abbrev pub Completes : ShapeName → Option (List ℕ) → ℕ → ℕ → ℕ → ℕ → Status → Type 0
Completes name left read_before read_now put_before put_now how =
    TellsScript name left → ¬ Rose read_before read_now → ¬ Rose put_before put_now → (how ≡ status.Ok) ⊎ (how ≡ status.Memory)

-- neither the source nor the sink failed
abbrev pub IsSure : Status → Type 0
IsSure status.ReadFault = ⊥
IsSure status.WriteFault = ⊥
IsSure _ = Unit {0}
