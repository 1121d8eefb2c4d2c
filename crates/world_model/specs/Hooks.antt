-- The words of the hooks, which a purge calls.
use Rattle.std.specs.Prelude.{◌≡◌, ◌↔◌, ℕ, ◌<◌, nat_lt, Bool, true, if◌then◌else◌, List, [], ◌∷◌, ◌++◌, length, drop, filter_map, Option, Some, None, IsTrue, ⊤}
use Rattle.std.specs.List.{AllByRecursion}
use Rattle.std.specs.Option.{option_map_or}
use Rattle.world_model.specs.Types.{Name, ClassId, HookCall, Act, Entry}
use Rattle.world_model.specs.Types.act
use Rattle.world_model.specs.Types.called
use Rattle.world_model.specs.World.{World, kind_of}

-- what each answer of ready meets: a test of name, class, poll and answer
abbrev pub ReadyTest : Type 1
ReadyTest = Name → ClassId → ℕ → Bool → Type 0

-- a call is added to what is told, where that is told
abbrev pub Told : Option (List HookCall) → Option (List HookCall) → HookCall → Type 0
Told (Some before) (Some now) call = now ≡ before ++ call ∷ []
Told None (Some now) call = ⊥
Told _ None call = ⊤

abbrev pub SameTest : ReadyTest → ReadyTest → Type 0
SameTest old new = (n : Name) (class : ClassId) (poll : ℕ) (answer : Bool) → old n class poll answer ↔ new n class poll answer

-- ---- what a purge calls

-- the class of an object
abbrev pub class_of : World → Name → ClassId
class_of w n = option_map_or (λ k. k.class) (kind_of w n) (record { 0 = 0 })

-- the call of a hook that an entry tells of
abbrev pub call_of : World → Act → Option HookCall
call_of w (act.Begun of) = Some (called.Begin of (class_of w of))
call_of w (act.Asked of poll answer) = Some (called.Ready of (class_of w of) poll answer)
call_of w (act.Finished of) = Some (called.Finish of (class_of w of))
call_of w _ = None

-- what was called is what these entries tell, in order, where it is told
abbrev pub AreCalledFor : World → List Entry → Option (List HookCall) → Option (List HookCall) → Type 0
AreCalledFor w entries (Some before) (Some now) = now ≡ before ++ filter_map (λ e. call_of w e.act) entries
AreCalledFor w entries None (Some now) = ⊥
AreCalledFor w entries _ None = ⊤

-- what was called is what the new entries of a history tell
abbrev pub AreCalled : World → List Entry → List Entry → Option (List HookCall) → Option (List HookCall) → Type 0
AreCalled w old new before now = AreCalledFor w (drop (length old) new) before now

-- each answer meets the test
abbrev pub Meets : World → ReadyTest → Act → Type 0
Meets w test (act.Asked of poll answer) = test of (class_of w of) poll answer
Meets w test _ = ⊤

abbrev pub MeetTest : World → List Entry → List Entry → ReadyTest → Type 0
MeetTest w old new test = AllByRecursion (λ e. Meets w test e.act) (drop (length old) new)

-- ---- hooks in memory

-- after how many polls they are ready, the calls that they keep, and whether they missed one
pub record Remembered : Type 0 where
  pub wait : ℕ
  pub kept : List HookCall
  pub missed : Bool

-- with one call more
abbrev pub with_call : Remembered → HookCall → Remembered
with_call h call = if nat_lt (length h.kept) 1024 then record h { kept = h.kept ++ call ∷ [] } else record h { missed = true }

-- the calls, where they missed none
abbrev pub told_by : Remembered → Option (List HookCall)
told_by h = if h.missed then None else Some h.kept

-- they are ready exactly at the polls after the first ones
abbrev pub AnswersByWait : Remembered → ReadyTest
AnswersByWait h n class poll answer = IsTrue answer ↔ (h.wait < poll)
