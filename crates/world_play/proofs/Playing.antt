-- A script is played line by line.
use Rattle.std.proofs.Common.{◌≡◌, ℕ, ◌+◌, ◌<◌, Bool, true, false, List, [], ◌∷◌, ◌++◌, append-nil, length, take, drop, drop-cons, get_or, set, replicate, ◌==◌, cond, zero, suc, add-one, refl, sym, ap, ◌∙◌, subst, arith, inl, inr, ◌⊎◌, Option}
use Rattle.std.specs.Prelude.{nat_lt, slice_index}
use Rattle.std.proofs.lemmas.Bool.Decides.{nat_tests}
use Rattle.std.proofs.lemmas.List.{set-get_or, length-set, length-take, take-append-drop}
use Rattle.std.proofs.lemmas.Grind.{flat_map-append}
use Rattle.world_play.specs.Header.{Header}
use Rattle.class_schema.specs.Class.{Class}
use Rattle.world_play.specs.Text.{text_of}
use Rattle.world_model.specs.Sizes.{Sizes}
use Rattle.world_model.specs.State.{State, beginning}
use Rattle.world_model.specs.Next.{run}
use Rattle.world_model.specs.Histories.{state_of, after, Legal}
use Rattle.world_model.specs.Engines.{Holdings}
use Rattle.world_model.proofs.Joins.{run-append}
use Rattle.world_model.proofs.ListFacts.{and_true}
use Rattle.world_play.specs.Types.{Entry, Reply, Line, Cmd, LaneCmd, GcCmd}
use Rattle.world_play.specs.Types.cmd
use Rattle.world_play.specs.Types.lane_cmd
use Rattle.world_play.specs.Types.gc_cmd
use Rattle.level_script.specs.Frames as frame
use Rattle.level_script.specs.Frames.{opened_after, fits_lane, fits_script, are_framed}
use Rattle.std.specs.List.{list_all}
use Rattle.world_play.specs.Bindings.{Bindings, no_bindings}
use Rattle.world_play.specs.Plays.{TurnBy, IsPart, Plays, text, entries_of, fits, frames_by, are_fit}
use Rattle.world_play.specs.Streams.{Gained, GainedStart}
use Rattle.world_play.specs.Variables.{Standing, shown, AreHeld}
use Rattle.world_play.specs.Turns.{frames_of, AreMade, IsReady, LaneDid, Turned, IsPiece, Broken, Stops, Unanswered, Stopped}
use Rattle.world_play.specs.Stages.{Collects, CollectsSome}
use Rattle.world_play.proofs.Keeping.{held_on, get_or-set}
use Rattle.world_play.proofs.Turning.{lane_leaves, fits_class, made_on}
use Rattle.world_play.proofs.Streams.{gained_none, gained_both}
use Rattle.world_play.proofs.Lines.{start_none}

-- ---- one command

-- a command of a lane was played
pub lane_turned : (z : Sizes) (budget : ℕ) (header : Header) (old new : List Entry) (held holds : Holdings) (before now : Standing) (lane : ℕ)
    (what : LaneCmd) (r : Reply) → IsReady z old held before header (cmd.Lane lane what)
    → LaneDid header old new (shown before) (shown now) lane what r → AreHeld holds now → now.counts ≡ before.counts → Turned z budget header old new holds before now (cmd.Lane lane what) r
lane_turned z budget header old new held holds before now lane what r ready did keeps counts =
    let leaves =
    lane_leaves header (state_of old) (shown before) (shown now) lane what did.piece r
    (fits_class z.lanes before.counts.lanes header (frames_of (after old)) (cmd.Lane lane what) ready.fit) ready.made did.turn in
    let left : state_of new ≡ run (state_of old) did.piece = ap state_of did.grown ∙ run-append beginning old did.piece in
    record {
      piece = did.piece;
      grown = did.grown;
      turn = did.turn;
      frames = ap (λ (s : State). frames_of s.world) left ∙ leaves.frames;
      counts = counts;
      held = keeps;
      made = subst (λ (s : State). AreMade header s.world) (sym left) leaves.made;
      told = leaves.told;
    }

-- a command of the collector was played
pub gc_turned : (z : Sizes) (budget : ℕ) (header : Header) (old new : List Entry) (before now : Holdings) (variables : Standing) (what : GcCmd)
    (r : Reply) → IsReady z old before variables header (cmd.Gc what)
    → Collects z budget header old new before now what r → Turned z budget header old new now variables variables (cmd.Gc what) r
gc_turned z budget header old new before now variables what r ready h = record {
  piece = h.piece;
  grown = h.grown;
  turn = (h.turn, refl);
  frames = ap (λ opened. frames_of (record (after new) { opened = opened })) h.opened;
  counts = refl;
  held = held_on before now variables h.held ready.held;
  made = made_on header (after old) (after new) h.kinds ready.made;
  told = h.told;
}

-- so was a part of it
pub gc_broken : (z : Sizes) (budget : ℕ) (header : Header) (old new : List Entry) (names : Bindings) (what : GcCmd)
    → CollectsSome z budget old new what → Broken z budget header old new names (cmd.Gc what)
gc_broken z budget header old new names what h = record { part = h.part; grown = h.grown; made = inl h.made; legal = h.legal }

-- ---- line after line

pub plays_none : (budget : ℕ) (header : Header) (s : State) (names : Bindings) → Plays budget header s names [] [] [] names
unfolding Plays
plays_none budget header s names = refl

pub plays_more : (budget : ℕ) (header : Header) (s : State) (names mid new : Bindings) (ls : List Line) (l : Line) (ps : List (List Entry)) (p : List Entry) (rs : List Reply) (r : Reply)
    → Plays budget header s names ls ps rs mid → TurnBy budget header (run s (entries_of ps)) mid l.cmd p r new → Plays budget header s names (ls ++ l ∷ []) (ps ++ p ∷ []) (rs ++ r ∷ []) new
unfolding Plays
plays_more budget header s names mid new [] l [] p [] r was turn = (new, subst (λ (n : Bindings). TurnBy budget header s n l.cmd p r new) was turn, refl)
plays_more budget header s names mid new (x ∷ xs) l (q ∷ ps) p (t ∷ rs) r was turn =
    (was.0, was.1, plays_more budget header (run s q) was.0 mid new xs l ps p rs r was.2 (subst (λ (u : State). TurnBy budget header u mid l.cmd p r new) (run-append s q (entries_of ps)) turn))
plays_more budget header s names mid new [] l [] p (t ∷ rs) r was turn = absurd was
plays_more budget header s names mid new [] l (q ∷ ps) p rs r was turn = absurd was
plays_more budget header s names mid new (x ∷ xs) l [] p rs r was turn = absurd was
plays_more budget header s names mid new (x ∷ xs) l (q ∷ ps) p [] r was turn = absurd was

-- the text of one more reply
pub text_more : (classes : List Class) (rs : List Reply) (r : Reply) → text classes (rs ++ r ∷ []) ≡ text classes rs ++ text_of classes r
text_more classes rs r = flat_map-append (λ q. text_of classes q) rs (r ∷ []) ∙ ap (λ (bytes : List ℕ). text classes rs ++ bytes) (append-nil (text_of classes r))

-- the entries of one more piece
pub entries_more : (ps : List (List Entry)) (p : List Entry) → entries_of (ps ++ p ∷ []) ≡ entries_of ps ++ p
entries_more ps p = flat_map-append (λ q. q) ps (p ∷ []) ∙ ap (λ (es : List Entry). entries_of ps ++ es) (append-nil p)

-- ---- lines that are not played to their end

-- no call of a line was made
no_part : (budget : ℕ) (s : State) (what : Cmd) → IsPart budget s what []
no_part budget s (cmd.Gc gc_cmd.Full) = inl refl
no_part budget s (cmd.Lane lane what) = refl

pub stops_none : (budget : ℕ) (header : Header) (s : State) (names : Bindings) (lines : List Line) → Stops budget header s names lines [] []
stops_none budget header s names [] = (refl, refl)
stops_none budget header s names (l ∷ ls) = inl (no_part budget s l.cmd, refl)

-- a line of which some calls were made, or all, and whose reply was not put
pub breaks : (z : Sizes) (budget : ℕ) (header : Header) (old new : List Entry) (names : Bindings) (l : Line) (held : Option (List ℕ))
    → Broken z budget header old new names l.cmd → Unanswered z budget header old new names l held held
breaks z budget header old new names l held h = record { part = h.part; some = []; grown = h.grown; stops = go h.made; legal = h.legal; put = gained_none held }
  where
    go : IsPart budget (state_of old) l.cmd h.part ⊎ IsPiece budget header (state_of old) names l.cmd h.part → Stops budget header (state_of old) names (l ∷ []) h.part []
    go (inl part) = inl (part, refl)
    go (inr (r, new, turn)) = inr (r, new, turn, start_none header.classes.classes r)

-- a line all of whose calls were made
pub turned_broken : (z : Sizes) (budget : ℕ) (header : Header) (old new : List Entry) (holds : Holdings) (before now : Standing) (what : Cmd)
    (r : Reply) → Legal z new → Turned z budget header old new holds before now what r → Broken z budget header old new (shown before) what
turned_broken z budget header old new holds before now what r legal t = record { part = t.piece; grown = t.grown; made = inr (r, shown now, t.turn); legal = legal }

-- a line whose reply was put in part
pub puts_part : (z : Sizes) (budget : ℕ) (header : Header) (old new : List Entry) (holds : Holdings) (before now : Standing) (l : Line) (r : Reply) (had has : Option (List ℕ))
    → Legal z new → Turned z budget header old new holds before now l.cmd r → GainedStart had has (text_of header.classes.classes r) → Unanswered z budget header old new (shown before) l had has
puts_part z budget header old new holds before now l r had has legal t g = record {
  part = t.piece;
  some = g.0;
  grown = t.grown;
  stops = inr (r, shown now, t.turn, g.1);
  legal = legal;
  put = g.2;
}

-- the first lines were played, and the next one was not answered
pub stopped_at : (z : Sizes) (budget : ℕ) (header : Header) (lines : List Line) (i : ℕ) (d : Line) (pieces : List (List Entry)) (replies : List Reply)
    (names : Bindings) (old new : List Entry) (had mid has : Option (List ℕ)) (count : ℕ) → i < length lines
    → Plays budget header beginning no_bindings (take i lines) pieces replies names → old ≡ entries_of pieces → Gained had mid (text header.classes.classes replies) → count ≡ i
    → Unanswered z budget header old new names (get_or lines i d) mid has → Stopped z budget header lines new had has count
stopped_at z budget header lines i d pieces replies names old new had mid has count inside plays cut put number h = record {
  whole = take i lines;
  rest = get_or lines i d ∷ drop (suc i) lines;
  pieces = pieces;
  replies = replies;
  part = h.part;
  names = names;
  some = h.some;
  legal = h.legal;
  are = sym (take-append-drop i lines) ∙ ap (λ (ls : List Line). take i lines ++ ls) (drop-cons lines i d inside);
  cut = h.grown ∙ ap (λ (es : List Entry). es ++ h.part) cut;
  plays = plays;
  stops = subst (λ (es : List Entry). Stops budget header (state_of es) names (get_or lines i d ∷ drop (suc i) lines) h.part h.some) cut h.stops;
  put = gained_both had mid has (text header.classes.classes replies) h.some put h.put;
  number = omega (arith, number, length-take i lines);
}

-- nothing was played
pub stopped_first : (z : Sizes) (budget : ℕ) (header : Header) (lines : List Line) (history : List Entry) (held : Option (List ℕ)) (count : ℕ)
    → history ≡ [] → count ≡ 0 → Stopped z budget header lines history held held count
stopped_first z budget header lines history held count none zero_lines = record {
  whole = [];
  rest = lines;
  pieces = [];
  replies = [];
  part = [];
  names = no_bindings;
  some = [];
  legal = subst (Legal z) (sym none) tt;
  are = refl;
  cut = none;
  plays = plays_none budget header beginning no_bindings;
  stops = stops_none budget header beginning no_bindings lines;
  put = gained_none held;
  number = zero_lines;
}

pub fit_first : (lanes : ℕ) (vars : List ℕ) (header : Header) (opened : ℕ → Bool) (l : Line) (ls : List Line)
    → are_fit lanes vars header opened (l ∷ ls) ≡ true
    → (fits lanes vars header opened l.cmd ≡ true) × (are_fit lanes vars header (frames_by opened l.cmd) ls ≡ true)
unfolding are_fit
fit_first lanes vars header opened l ls e = and_true (fits lanes vars header opened l.cmd) (are_fit lanes vars header (frames_by opened l.cmd) ls) e

pub fit_at : (lanes : ℕ) (vars : List ℕ) (header : Header) (opened : ℕ → Bool) (ls : List Line) (i : ℕ) (d : Line) → i < length ls → are_fit lanes vars header opened (drop i ls) ≡ true
    → (fits lanes vars header opened (get_or ls i d).cmd ≡ true) × (are_fit lanes vars header (frames_by opened (get_or ls i d).cmd) (drop (i + 1) ls) ≡ true)
fit_at lanes vars header opened ls i d h e = rw add-one (fit_first lanes vars header opened (get_or ls i d) _ (sym (ap (are_fit lanes vars header opened) (drop-cons ls i d h)) ∙ e))

-- what all lines name of weak variables and strong pointers is there for each of them
pub beside_at : (weaks strong : ℕ) (ls : List Line) (i : ℕ) (d : Line) → i < length ls → list_all (λ l. fits_script weaks strong l.cmd) ls ≡ true
    → fits_script weaks strong (get_or ls i d).cmd ≡ true
beside_at weaks strong [] i d h e = absurd (omega arith)
beside_at weaks strong (l ∷ ls) zero d h e = (and_true (fits_script weaks strong l.cmd) _ e).0
beside_at weaks strong (l ∷ ls) (suc i) d h e = beside_at weaks strong ls i d (omega arith) (and_true (fits_script weaks strong l.cmd) _ e).1

-- ---- the frames of a script

-- the frames are open alike, by list and by number
abbrev pub SameFrames : List Bool → (ℕ → Bool) → Type 0
SameFrames frames opened = (lane : ℕ) → get_or frames lane false ≡ opened lane

after_lane : (frames : List Bool) (opened : ℕ → Bool) (lane : ℕ) (what : LaneCmd) → lane < length frames → SameFrames frames opened
    → SameFrames (set frames lane (opened_after what (get_or frames lane false))) (frames_by opened (cmd.Lane lane what))
after_lane frames opened lane lane_cmd.Open h same j = get_or-set frames lane j true false h ∙ ap (λ (b : Bool). cond (j == lane) true b) (same j)
after_lane frames opened lane lane_cmd.Close h same j = get_or-set frames lane j false false h ∙ ap (λ (b : Bool). cond (j == lane) false b) (same j)
after_lane frames opened lane what h same j = ap (λ (fs : List Bool). get_or fs j false) (set-get_or frames lane false) ∙ same j

-- a line that is framed by list fits by number, and the frames after it are alike
fit_step : (vars : List ℕ) (header : Header) (lanes : ℕ) (frames : List Bool) (opened : ℕ → Bool) (what : Cmd) → length frames ≡ lanes
    → SameFrames frames opened → frame.fits vars (length header.classes.classes) (length header.fields) frames what ≡ true
    → (fits lanes vars header opened what ≡ true) × SameFrames (frame.frames_after frames what) (frames_by opened what) × (length (frame.frames_after frames what) ≡ lanes)
fit_step vars header lanes frames opened (cmd.Lane lane what) count same h =
    let parts = and_true (nat_lt lane (length frames)) _ h in
    let there : nat_lt lane (length frames) ≡ true = parts.0 in
    let inside : lane < length frames = grind (arith, nat_tests, there) in
    let first : nat_lt lane lanes ≡ true = grind (arith, nat_tests, inside, count) in
    let second : fits_lane (slice_index vars lane) (length header.classes.classes) (length header.fields) (opened lane) what ≡ true =
    subst (λ (b : Bool). fits_lane (slice_index vars lane) (length header.classes.classes) (length header.fields) b what ≡ true) (same lane)
    parts.1 in
    (rw (first, second) refl, after_lane frames opened lane what inside same, length-set frames lane _ ∙ count)
fit_step vars header lanes frames opened (cmd.Gc what) count same h = (h, same, count)

-- lines that are framed by list fit by number
pub framed_fit : (vars : List ℕ) (header : Header) (lanes : ℕ) (frames : List Bool) (opened : ℕ → Bool) (lines : List Line) → length frames ≡ lanes
    → SameFrames frames opened → are_framed vars (length header.classes.classes) (length header.fields) frames lines ≡ true
    → are_fit lanes vars header opened lines ≡ true
unfolding are_framed are_fit
framed_fit vars header lanes frames opened [] count same h = refl
framed_fit vars header lanes frames opened (l ∷ lines) count same h =
    let parts = and_true (frame.fits vars (length header.classes.classes) (length header.fields) frames l.cmd) _ h in
    let step = fit_step vars header lanes frames opened l.cmd count same parts.0 in
    let rest = framed_fit vars header lanes (frame.frames_after frames l.cmd) (frames_by opened l.cmd) lines step.2 step.1 parts.1 in
    rw (step.0, rest) refl

-- at the beginning all frames are closed
pub all_closed : (n lane : ℕ) → get_or (replicate n false) lane false ≡ false
all_closed zero lane = refl
all_closed (suc n) zero = refl
all_closed (suc n) (suc lane) = all_closed n lane
