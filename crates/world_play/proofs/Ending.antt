-- What an input that was read says of the whole of it.
use Rattle.std.proofs.Common.{◌≡◌, ℕ, Bool, true, false, ◌&&◌, List, [], ◌∷◌, ◌++◌, length, take, drop, ◌⊎◌, inl, inr, refl, sym, ap, subst, ◌∙◌, Option, Some, None, Result, Ok, Err, arith}
use Rattle.std.proofs.lemmas.Bool.Decides.{nat_tests}
use Rattle.std.proofs.lemmas.List.{length-take, take_all, drop_all}
use Rattle.std.specs.Prelude.{nat_lt, slice_index, slice_index_or, IfSome, option_map}
use Rattle.std.specs.List.{AllByRecursion}
use Rattle.std.specs.Result.{result_ok, result_err}
use Rattle.level_script.specs.Reading.{outcome_of, script_of, fault_of, fault_at, Reads}
use Rattle.level_script.specs.declared.cause.Cause.TheVariants as cause
use Rattle.level_script.specs.declared.cause.ParseErr.{ParseErr}
use Rattle.level_script.specs.declared.cause.ParseErr.TheVariants as parse
use Rattle.level_script.specs.declared.cause.ScriptErr.{ScriptErr}
use Rattle.level_script.specs.declared.limits.Limits.{Limits}
use Rattle.level_script.specs.declared.script.Script.{Script}
use Rattle.level_script.specs.Operands.{fits_members}
use Rattle.world_play.specs.Header.{Header}
use Rattle.world_play.specs.Streams.{Read, Gained, line_feeds}
use Rattle.play_io.specs.Faults.{Rose}
use Rattle.world_model.specs.Sizes.{Sizes, IsLawful, level_is_lawful, small_is_lawful}
use Rattle.class_schema.specs.Lawful.{IsSchema}
use Rattle.world_play.specs.Words.{sizes_of}
use Rattle.world_play.specs.declared.words.Words.{Words}
use Rattle.world_play.specs.declared.words.ShapeName.{ShapeName}
use Rattle.world_play.specs.declared.words.ShapeName.TheVariants as shape
use Rattle.world_model.specs.State.{State, beginning}
use Rattle.world_model.specs.Next.{run}
use Rattle.world_model.specs.Histories.{Legal}
use Rattle.world_play.specs.Types.{Entry, Line}
use Rattle.world_play.specs.Text.{text_of}
use Rattle.world_play.specs.Bindings.{Bindings, no_bindings}
use Rattle.world_play.specs.Plays.{Plays, text}
use Rattle.world_play.specs.Outcome.{outcome}
use Rattle.world_play.specs.Types.{Cmd, LaneCmd}
use Rattle.world_play.specs.Types.cmd
use Rattle.world_play.specs.Types.lane_cmd
use Rattle.level_script.specs.Frames as frame
use Rattle.level_script.specs.Frames.{fits_lane, are_framed, IsPlayable}
use Rattle.world_model.proofs.ListFacts.{and_true}
use Rattle.world_play.specs.Laws.{LaneClass, HasClass, OneText}
use Rattle.world_play.specs.Turns.{Stops, Played, Stopped}
use Rattle.world_play.specs.Ends.{header_of, limits_in, history_of, IsScript, HasFault, WasTaken, Refuses, WritesFault, HasRun, WasPlayed, OnDone, OnStopped, IsInput, NamesExactly, NamesFault, EndsWell, EndsEarly, WritesOutcome, CountsLines, TellsScript}
use Rattle.world_play.specs.declared.status.Status.{Status}
use Rattle.world_play.specs.declared.status.Status.TheVariants as status
use Rattle.world_play.specs.declared.run.Run.{Run}
use Rattle.class_schema.specs.Class.{Class}
use Rattle.class_schema.specs.Ancestry.{class_at}
use Rattle.world_play.specs.Types.{ClassId, Reply}
use Rattle.world_play.specs.Types.reply
use Rattle.world_play.proofs.Lines.{IsPlain, ToldPlain, feeds_append, is_line, one_feed, start_plain}
use Rattle.world_play.proofs.Streams.{gained_none}
use Rattle.world_play.proofs.Members.{members_fit}

long_outcome : (bytes : List ℕ) (limits : Limits) → nat_lt 16777216 (length bytes) ≡ true → outcome_of bytes limits ≡ Err (fault_at 0 cause.TooLong)
unfolding outcome_of
long_outcome bytes limits t = rw t refl

long_fault : (bytes : List ℕ) (limits : Limits) → nat_lt 16777216 (length bytes) ≡ true → fault_of bytes limits ≡ Some (fault_at 0 cause.TooLong)
unfolding fault_of
long_fault bytes limits t = ap (λ (r : Result Script ScriptErr). result_err r) (long_outcome bytes limits t)

long_script : (bytes : List ℕ) (limits : Limits) → nat_lt 16777216 (length bytes) ≡ true → script_of bytes limits ≡ None
unfolding script_of
long_script bytes limits t = ap (λ (r : Result Script ScriptErr). result_ok r) (long_outcome bytes limits t)

-- what was read of an input is all of it, or is as much too long as the input is
pub read_of : (xs v : List ℕ) (limits : Limits) → v ≡ take 16777217 xs → (v ≡ xs) ⊎ ((nat_lt 16777216 (length v) ≡ true) × (nat_lt 16777216 (length xs) ≡ true))
read_of xs v limits is = go (nat_lt 16777216 (length xs)) refl
  where
    go : (b : Bool) → nat_lt 16777216 (length xs) ≡ b → (v ≡ xs) ⊎ ((nat_lt 16777216 (length v) ≡ true) × (nat_lt 16777216 (length xs) ≡ true))
    go true t =
        let count : length v ≡ length (take 16777217 xs) = ap length is in
        let long : nat_lt 16777216 (length v) ≡ true = grind (arith, nat_tests, t, count, length-take 16777217 xs) in
        inr (long, t)
    go false t = inl (is ∙ take_all 16777217 xs (grind (arith, nat_tests, t)))

-- nothing is left of an input that is no longer than the limit
pub nothing_left : (xs : List ℕ) (script : Script) (limits : Limits) → script_of xs limits ≡ Some script → drop 16777217 xs ≡ []
nothing_left xs script limits e = go (nat_lt 16777216 (length xs)) refl
  where
    go : (b : Bool) → nat_lt 16777216 (length xs) ≡ b → drop 16777217 xs ≡ []
    go true t = absurd (let long = long_script xs limits t in cc)
    go false t = drop_all 16777217 xs (grind (arith, nat_tests, t))

pub read_script_of : (limits : Limits) (left now : Option (List ℕ)) (v : List ℕ) (script : Script) → Read left now 16777216 v → script_of v limits ≡ Some script → IsScript limits left script
read_script_of limits None now v script r e = record { input = v; told = tt; is = e }
read_script_of limits (Some xs) now v script (is, rest) e = record { input = xs; told = refl; is = go (read_of xs v limits is) }
  where
    go : (v ≡ xs) ⊎ ((nat_lt 16777216 (length v) ≡ true) × (nat_lt 16777216 (length xs) ≡ true)) → script_of xs limits ≡ Some script
    go (inl same) = ap (λ (b : List ℕ). script_of b limits) (sym same) ∙ e
    go (inr (long, longer)) = absurd (let none = long_script v limits long in cc)

pub read_fault_of : (limits : Limits) (left now : Option (List ℕ)) (v : List ℕ) (fault : ScriptErr) → Read left now 16777216 v → fault_of v limits ≡ Some fault → HasFault limits left fault
read_fault_of limits None now v fault r e = record { input = v; told = tt; is = e }
read_fault_of limits (Some xs) now v fault (is, rest) e = record { input = xs; told = refl; is = go (read_of xs v limits is) }
  where
    go : (v ≡ xs) ⊎ ((nat_lt 16777216 (length v) ≡ true) × (nat_lt 16777216 (length xs) ≡ true)) → fault_of xs limits ≡ Some fault
    go (inl same) = ap (λ (b : List ℕ). fault_of b limits) (sym same) ∙ e
    go (inr (long, longer)) = long_fault xs limits longer ∙ sym (long_fault v limits long) ∙ e

pub taken_of : (left now : Option (List ℕ)) (v : List ℕ) → Read left now 16777216 v → WasTaken left now
taken_of None now v r = tt
taken_of (Some xs) now v r = r.1

-- the reader's answer names the fault
pub fault_said : (bytes : List ℕ) (limits : Limits) (e : ParseErr) (fault : ScriptErr) → e ≡ parse.Bad fault → Reads bytes limits (Err e) → fault_of bytes limits ≡ Some fault
fault_said bytes limits e fault is said = subst (λ (x : ParseErr). Reads bytes limits (Err x)) is said

-- an input is not both a script and faulty
pub not_both : (bytes : List ℕ) (limits : Limits) (script : Script) (fault : ScriptErr) → script_of bytes limits ≡ Some script → fault_of bytes limits ≡ Some fault → ⊥
unfolding script_of fault_of
not_both bytes limits script fault is said = go (outcome_of bytes limits) is said
  where
    go : (r : Result Script ScriptErr) → result_ok r ≡ Some script → result_err r ≡ Some fault → ⊥
    go (Ok x) a b = cc
    go (Err e) a b = cc

-- ---- the text of lines that were played

-- no class has a name with a line feed
abbrev pub PlainNames : List Class → Type 0
PlainNames classes = (class : ClassId) → IsPlain (class_at classes class).name

told_plain : (classes : List Class) (r : Reply) → PlainNames classes → ToldPlain classes r
told_plain classes (reply.Object lane n class) plain = plain class
told_plain classes r plain = tt

-- the text of lines has one line feed for each
pub text_feeds : (budget : ℕ) (header : Header) (s : State) (names last : Bindings) (lines : List Line) (pieces : List (List Entry))
    (replies : List Reply) → PlainNames header.classes.classes → Plays budget header s names lines pieces replies last
    → line_feeds (text header.classes.classes replies) ≡ length lines
unfolding Plays
text_feeds budget header s names last [] [] [] plain plays = refl
text_feeds budget header s names last (l ∷ lines) (p ∷ pieces) (r ∷ replies) plain plays =
    let first : line_feeds (text_of header.classes.classes r) ≡ 1 = one_feed _ (is_line header.classes.classes r (told_plain header.classes.classes r plain)) in
    let rest = text_feeds budget header (run s p) plays.0 last lines pieces replies plain plays.2 in
    omega (arith, first, rest, feeds_append (text_of header.classes.classes r) (text header.classes.classes replies))
text_feeds budget header s names last [] [] (r ∷ replies) plain plays = absurd plays
text_feeds budget header s names last [] (p ∷ pieces) replies plain plays = absurd plays
text_feeds budget header s names last (l ∷ lines) [] replies plain plays = absurd plays
text_feeds budget header s names last (l ∷ lines) (p ∷ pieces) [] plain plays = absurd plays

-- a beginning of a reply has none
stops_plain : (budget : ℕ) (header : Header) (s : State) (names : Bindings) (rest : List Line) (part : List Entry) (some : List ℕ)
    → PlainNames header.classes.classes → Stops budget header s names rest part some → line_feeds some ≡ 0
stops_plain budget header s names [] part some plain h = ap line_feeds h.1
stops_plain budget header s names (l ∷ ls) part some plain (inl (made, none)) = ap line_feeds none
stops_plain budget header s names (l ∷ ls) part some plain (inr (r, new, turn, start)) = start_plain some _ start (is_line header.classes.classes r (told_plain header.classes.classes r plain))

-- so the number of replies that were put is that of the line feeds
counts_gained : (had has : Option (List ℕ)) (bytes : List ℕ) (count : ℕ) → Gained had has bytes → count ≡ line_feeds bytes → CountsLines had has count
counts_gained None has bytes count put e = tt
counts_gained (Some xs) has bytes count put e = (bytes, put, e)

counts_none : (had has : Option (List ℕ)) (count : ℕ) → has ≡ had → count ≡ 0 → CountsLines had has count
counts_none had has count same none = counts_gained had has [] count (subst (λ (now : Option (List ℕ)). Gained had now []) (sym same) (gained_none had)) none

counts_all : (z : Sizes) (budget : ℕ) (header : Header) (lines : List Line) (history : List Entry) (had has : Option (List ℕ)) (count : ℕ)
    → PlainNames header.classes.classes → Played z budget header lines history had has → count ≡ length lines → CountsLines had has count
counts_all z budget header lines history had has count plain h number =
    counts_gained had has (text header.classes.classes h.replies) count h.put (number ∙ sym (text_feeds budget header beginning no_bindings h.last lines h.pieces h.replies plain h.plays))

counts_some : (z : Sizes) (budget : ℕ) (header : Header) (lines : List Line) (history : List Entry) (had has : Option (List ℕ)) (count : ℕ)
    → PlainNames header.classes.classes → Stopped z budget header lines history had has count → CountsLines had has count
counts_some z budget header lines history had has count plain h =
    let whole : line_feeds (text header.classes.classes h.replies) ≡ length h.whole = text_feeds budget header beginning no_bindings h.names h.whole h.pieces h.replies plain h.plays in
    let rest : line_feeds h.some ≡ 0 = stops_plain budget header _ h.names h.rest h.part h.some plain h.stops in
    counts_gained had has (text header.classes.classes h.replies ++ h.some) count h.put (omega (arith, h.number, whole, rest, feeds_append (text header.classes.classes h.replies) h.some))

-- ---- what a run that played says of the whole of it

pub counts_of : (z : Sizes) (budget : ℕ) (how : Status) (script : Script) (r : Option (List Entry)) (had has : Option (List ℕ)) (count : ℕ)
    → PlainNames script.classes.classes → WasPlayed z budget how script r had has count → CountsLines had has count
counts_of z budget how script None had has count plain h = counts_none had has count h.0 h.1
counts_of z budget status.Ok script (Some history) had has count plain h = counts_all z budget (header_of script) script.lines _ had has count plain h.0 h.1
counts_of z budget status.Usage script (Some history) had has count plain h = counts_some z budget (header_of script) script.lines _ had has count plain h
counts_of z budget (status.Script fault) script (Some history) had has count plain h = counts_some z budget (header_of script) script.lines _ had has count plain h
counts_of z budget status.ReadFault script (Some history) had has count plain h = counts_some z budget (header_of script) script.lines _ had has count plain h
counts_of z budget status.WriteFault script (Some history) had has count plain h = counts_some z budget (header_of script) script.lines _ had has count plain h
counts_of z budget status.Memory script (Some history) had has count plain h = counts_some z budget (header_of script) script.lines _ had has count plain h

-- a run that played nothing
pub counts_unplayed : (held : Option (List ℕ)) (count : ℕ) → count ≡ 0 → CountsLines held held count
counts_unplayed held count none = counts_none held held count refl none

-- how the words play a script
abbrev pub PlayedAs : Words → Status → Script → Option Run → Option (List ℕ) → Option (List ℕ) → ℕ → Type 0
PlayedAs w how script r had has count = WasPlayed (sizes_of w.shape) w.slice how script (option_map history_of r) had has count

-- of an input that is a script nothing is left
all_taken : (limits : Limits) (left now : Option (List ℕ)) (script : Script) → IsScript limits left script → WasTaken left now → IfSome left (λ input. now ≡ Some [])
all_taken limits None now script is taken = tt
all_taken limits (Some input) now script is taken = taken ∙ ap (λ (xs : List ℕ). Some xs) (nothing_left input script limits (ap (λ (xs : List ℕ). script_of xs limits) is.told ∙ is.is))

pub headline_of : (w : Words) (how : Status) (left now : Option (List ℕ)) (script : Script) (r : Option Run) (had has : Option (List ℕ)) (count : ℕ)
    → IsScript (limits_in w.shape) left script → WasTaken left now → PlayedAs w how script r had has count
    → OnDone how (IfSome r (EndsWell w left now had has))
headline_of w status.Ok left now script None had has count is taken h = tt
headline_of w status.Ok left now script (Some engine) had has count is taken h = record { script = script; read = is; all = all_taken (limits_in w.shape) left now script is taken; played = h.0 }
headline_of w status.Usage left now script r had has count is taken h = tt
headline_of w (status.Script fault) left now script r had has count is taken h = tt
headline_of w status.ReadFault left now script r had has count is taken h = tt
headline_of w status.WriteFault left now script r had has count is taken h = tt
headline_of w status.Memory left now script r had has count is taken h = tt

-- ---- the classes of a script that can be played

-- the class of a command that fits is there
fits_class : (vars : List ℕ) (header : Header) (frames : List Bool) (what : Cmd) → frame.fits vars (length header.classes.classes) (length header.fields) frames what ≡ true → HasClass header what
fits_class vars header frames (cmd.Gc what) h = tt
fits_class vars header frames (cmd.Lane lane what) h = go what (and_true (nat_lt lane (length frames)) _ h).1
  where
    go : (what : LaneCmd) → fits_lane (slice_index vars lane) (length header.classes.classes) (length header.fields) (slice_index_or frames lane false) what ≡ true → LaneClass header what
    go (lane_cmd.New var class) h =
        let last : nat_lt class.0 (length header.classes.classes) ≡ true =
        (and_true (slice_index_or frames lane false && nat_lt var (slice_index vars lane)) (nat_lt class.0 (length header.classes.classes))
        h).1 in
        grind (arith, nat_tests, last)
    go (lane_cmd.Cluster members) h =
        members_fit (slice_index vars lane) (length header.classes.classes) members
        (and_true (slice_index_or frames lane false) (fits_members (slice_index vars lane) (length header.classes.classes) members) h).1
    go what h = tt

framed_classes : (vars : List ℕ) (header : Header) (frames : List Bool) (lines : List Line)
    → are_framed vars (length header.classes.classes) (length header.fields) frames lines ≡ true → AllByRecursion (λ l. HasClass header l.cmd) lines
unfolding are_framed
framed_classes vars header frames [] h = tt
framed_classes vars header frames (l ∷ lines) h =
    let parts = and_true (frame.fits vars (length header.classes.classes) (length header.fields) frames l.cmd) _ h in
    (fits_class vars header frames l.cmd parts.0, framed_classes vars header (frame.frames_after frames l.cmd) lines parts.1)

outcome_played : OneText → (z : Sizes) (budget : ℕ) (limits : Limits) (script : Script) (history : List Entry) (had has : Option (List ℕ))
    → IsLawful z → IsSchema script.classes → IsPlayable limits script → Played z budget (header_of script) script.lines history had has
    → Gained had has (outcome z (header_of script) script.lines)
outcome_played law z budget limits script history had has lawful schema can h =
    subst (Gained had has)
    (law z budget (header_of script) script.lines h.pieces h.replies h.last lawful schema can.at_once
    (framed_classes script.vars (header_of script) _ script.lines can.framed) (subst (Legal z) h.cut h.legal) h.plays)
    h.put

-- the sizes of a shape are in their ranges
lawful_shape : (name : ShapeName) → IsLawful (sizes_of name)
lawful_shape shape.Level = level_is_lawful
lawful_shape shape.Small = small_is_lawful

pub outcome_of_run : OneText
    → (w : Words) (how : Status) (left : Option (List ℕ)) (script : Script) (r : Option Run) (had has : Option (List ℕ)) (count : ℕ)
    → IsSchema script.classes → IsPlayable (limits_in w.shape) script → IsScript (limits_in w.shape) left script → HasRun how r → PlayedAs w how script r had has count
    → OnDone how (WritesOutcome w.shape left had has)
outcome_of_run law w status.Ok left script None had has count schema can is there h = absurd (there refl)
outcome_of_run law w status.Ok left script (Some engine) had has count schema can is there h =
    record { script = script; read = is; gained = outcome_played law (sizes_of w.shape) w.slice (limits_in w.shape) script _ had has (lawful_shape w.shape) schema can h.0 }
outcome_of_run law w status.Usage left script r had has count schema can is there h = tt
outcome_of_run law w (status.Script fault) left script r had has count schema can is there h = tt
outcome_of_run law w status.ReadFault left script r had has count schema can is there h = tt
outcome_of_run law w status.WriteFault left script r had has count schema can is there h = tt
outcome_of_run law w status.Memory left script r had has count schema can is there h = tt

ends_early : (w : Words) (left : Option (List ℕ)) (script : Script) (engine : Run) (had has : Option (List ℕ)) (count : ℕ)
    → IsScript (limits_in w.shape) left script → Stopped (sizes_of w.shape) w.slice (header_of script) script.lines (history_of engine) had has count
    → EndsEarly w left had has count engine
ends_early w left script engine had has count is h = record { script = script; read = is; stopped = h }

pub early_of : (w : Words) (how : Status) (left : Option (List ℕ)) (script : Script) (r : Option Run) (had has : Option (List ℕ)) (count : ℕ)
    → IsScript (limits_in w.shape) left script → PlayedAs w how script r had has count → OnStopped how r (EndsEarly w left had has count)
early_of w status.Ok left script r had has count is h = tt
early_of w status.Usage left script r had has count is h = tt
early_of w (status.Script fault) left script r had has count is h = tt
early_of w status.ReadFault left script r had has count is h = tt
early_of w status.WriteFault left script None had has count is h = tt
early_of w status.WriteFault left script (Some engine) had has count is h = ends_early w left script engine had has count is h
early_of w status.Memory left script None had has count is h = tt
early_of w status.Memory left script (Some engine) had has count is h = ends_early w left script engine had has count is h

-- where a script was read, the status is Ok but for a fault of the sink, or want of memory
pub completes_played : (how : Status) (before now : ℕ) → WritesFault before now how → ¬ Rose before now → (how ≡ status.Ok) ⊎ (how ≡ status.Memory)
completes_played status.Ok before now h quiet = inl refl
completes_played status.Usage before now h quiet = absurd h
completes_played (status.Script fault) before now h quiet = absurd h
completes_played status.ReadFault before now h quiet = absurd h
completes_played status.WriteFault before now h quiet = absurd (quiet h)
completes_played status.Memory before now h quiet = inr refl

-- where none was read of an input that is one, there was a fault of the source, or no memory
pub completes_unread : (name : ShapeName) (limits : Limits) (how : Status) (left rest : Option (List ℕ)) (before now : ℕ) → limits ≡ limits_in name
    → Refuses limits left rest before now how → TellsScript name left → ¬ Rose before now → (how ≡ status.Ok) ⊎ (how ≡ status.Memory)
completes_unread name limits status.Ok left rest before now are h told quiet = inl refl
completes_unread name limits status.Usage left rest before now are h told quiet = absurd h
completes_unread name limits (status.Script fault) None rest before now are h told quiet = absurd told
completes_unread name limits (status.Script fault) (Some input) rest before now are h told quiet =
    absurd (not_both input limits told.0 fault (rw are told.1) (ap (λ (xs : List ℕ). fault_of xs limits) h.0.told ∙ h.0.is))
completes_unread name limits status.ReadFault left rest before now are h told quiet = absurd (quiet h)
completes_unread name limits status.WriteFault left rest before now are h told quiet = absurd h
completes_unread name limits status.Memory left rest before now are h told quiet = inr refl

-- the fault of an input is also that of its first 16,777,217 bytes
front_fault : (input : List ℕ) (limits : Limits) → fault_of (take 16777217 input) limits ≡ fault_of input limits
front_fault input limits = go (read_of input (take 16777217 input) limits refl)
  where
    go : (take 16777217 input ≡ input) ⊎ ((nat_lt 16777216 (length (take 16777217 input)) ≡ true) × (nat_lt 16777216 (length input) ≡ true))
        → fault_of (take 16777217 input) limits ≡ fault_of input limits
    go (inl same) = ap (λ (bytes : List ℕ). fault_of bytes limits) same
    go (inr (long, longer)) = long_fault (take 16777217 input) limits long ∙ sym (long_fault input limits longer)

input_fault : (input bytes : List ℕ) (limits : Limits) → IsInput input bytes → fault_of bytes limits ≡ fault_of input limits
input_fault input bytes limits (inl same) = ap (λ (xs : List ℕ). fault_of xs limits) same
input_fault input bytes limits (inr same) = ap (λ (xs : List ℕ). fault_of xs limits) same ∙ front_fault input limits

-- a script has no fault to be named
pub names_of_script : (name : ShapeName) (how : Status) (left : Option (List ℕ)) (script : Script) (before now : ℕ)
    → IsScript (limits_in name) left script → WritesFault before now how → NamesFault name left how
names_of_script name how left script before now is h = record { has = λ fault said. absurd (subst (WritesFault before now) said h); exactly = exactly left is }
  where
    exactly : (left : Option (List ℕ)) → IsScript (limits_in name) left script → IfSome left (NamesExactly name how)
    exactly None is = tt
    exactly (Some input) is = λ bytes fault same. (
      (λ said. absurd (subst (WritesFault before now) said h)),
      (λ has.
          absurd
          (not_both input (limits_in name) script fault (ap (λ (xs : List ℕ). script_of xs (limits_in name)) is.told ∙ is.is)
          (sym (input_fault input bytes (limits_in name) same) ∙ has.1))),
    )

-- what was not read has the fault that is named
pub names_unread : (name : ShapeName) (limits : Limits) (how : Status) (left rest : Option (List ℕ)) (before now : ℕ) → limits ≡ limits_in name
    → Refuses limits left rest before now how → NamesFault name left how
names_unread name limits how left rest before now are h = record { has = has how h; exactly = exactly how left h }
  where
    has : (how : Status) → Refuses limits left rest before now how → (fault : ScriptErr) → how ≡ status.Script fault → HasFault (limits_in name) left fault
    has (status.Script told) h fault said = let e : told ≡ fault = cc in subst (λ (f : ScriptErr). HasFault (limits_in name) left f) e (subst (λ (l : Limits). HasFault l left told) are h.0)
    has status.Ok h fault said = absurd h
    has status.Usage h fault said = absurd h
    has status.ReadFault h fault said = absurd cc
    has status.WriteFault h fault said = absurd h
    has status.Memory h fault said = absurd cc

    exactly : (how : Status) (left : Option (List ℕ)) → Refuses limits left rest before now how → IfSome left (NamesExactly name how)
    exactly how None h = tt
    exactly status.Ok (Some input) h = absurd h
    exactly status.Usage (Some input) h = absurd h
    exactly (status.Script told) (Some input) h = λ bytes fault same.
        let is : fault_of bytes (limits_in name) ≡ Some told =
        input_fault input bytes (limits_in name) same ∙ ap (λ (l : Limits). fault_of input l) (sym are)
        ∙ ap (λ (xs : List ℕ). fault_of xs limits) h.0.told ∙ h.0.is in
        ((λ said. let e : told ≡ fault = cc in (((λ x. cc), (λ x. cc)), is ∙ ap (λ (f : ScriptErr). Some f) e)), (λ has. let e : told ≡ fault = cc in ap (λ (f : ScriptErr). status.Script f) e))
    exactly status.ReadFault (Some input) h = λ bytes fault same. ((λ said. absurd cc), (λ has. absurd (has.0.0 refl)))
    exactly status.WriteFault (Some input) h = absurd h
    exactly status.Memory (Some input) h = λ bytes fault same. ((λ said. absurd cc), (λ has. absurd (has.0.1 refl)))
