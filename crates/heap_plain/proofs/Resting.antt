-- What a solo call leaves: nothing under way, root units marked, and what lanes hold.
use Rattle.std.proofs.Common.{◌≡◌, ℕ, refl, sym, subst, ◌∙◌, inl, inr, Bool, true, false, List, [], ◌∷◌, ◌++◌, map}
use Rattle.std.specs.List.{list_all, flat_map, AllByRecursion}
use Rattle.std.proofs.lemmas.List.Folds.{list_any-append}
use Rattle.world_model.specs.Sizes.{Sizes}
use Rattle.world_model.specs.NameLists.{same_name, has}
use Rattle.world_model.specs.World.{World, is_open, unit_of}
use Rattle.world_model.specs.State.{State, Marks, Frame, Holds as HoldsName}
use Rattle.world_model.specs.Next.{next_world, next_frame, next, run, given}
use Rattle.world_model.specs.LaneSteps.{InOpenFrame}
use Rattle.world_model.specs.Histories.{LegalFrom, May, state_of}
use Rattle.world_model.specs.Calls.{by, Appends, EntriesOf, BetweenCalls, is_mark_note, is_purge_part}
use Rattle.world_model.specs.Follows.{RootsMarked, is_start, is_done}
use Rattle.world_model.proofs.ListFacts.{and_true, or_right}
use Rattle.world_model.proofs.Joins.{histories_join}
use Rattle.world_model.proofs.Solo.{state_after, legal_call}
use Rattle.world_model.proofs.Between.{calls_end_holds}
use Rattle.world_model.proofs.Inductions.{one_more, by_more_states}
use Rattle.world_model.proofs.Barrier.{settled_marking}
use Rattle.world_model.proofs.Removals.{roots_stay_marked_holds, start_marks_roots_holds}
use Rattle.heap_plain.specs.Types.{Name, Ref, Pass, Lane, Marker, Collector, Marking, Act, Entry}
use Rattle.heap_plain.specs.Types.act
use Rattle.heap_plain.specs.Types.begin
use Rattle.heap_plain.specs.Types.commit
use Rattle.heap_plain.specs.Parts.{Holds}
use Rattle.heap_plain.specs.Plain.{IsAtRest}
use Rattle.heap_plain.proofs.WorldFacts.{at_set}

-- a lane of which nothing is under way may go on in its open frame
pub in_open : {s : State} {lane : ℕ} {a : Act} → BetweenCalls s → is_open s.world (Lane lane) ≡ true → InOpenFrame s lane a
in_open {lane = lane} between opened = record { opened = opened; continues = rw (between.paid lane) tt; parts = rw (between.whole lane) tt }

-- ---- the entries of a call

-- the act closes no call
abbrev is_part : Act → Bool
is_part act.SliceOpen = true
is_part (act.Kept of) = true
is_part (act.Scanned of) = true
is_part (act.Begun of) = true
is_part (act.Asked of poll answer) = true
is_part (act.Finished of) = true
is_part (act.Released of) = true
is_part (act.Loose of) = true
is_part _ = false

note_part : (a : Act) → is_mark_note a ≡ true → is_part a ≡ true
note_part (act.Kept of) e = refl
note_part (act.Scanned of) e = refl
note_part _ e = absurd cc

purge_part : (a : Act) → is_purge_part a ≡ true → is_part a ≡ true
purge_part (act.Begun of) e = refl
purge_part (act.Asked of poll answer) e = refl
purge_part (act.Finished of) e = refl
purge_part (act.Released of) e = refl
purge_part _ e = absurd cc

-- what holds of the act that closes a call and of those that close none holds of all entries of the call
module _ (P : Act → Type 0) (parts : (b : Act) → is_part b ≡ true → P b) (p : Pass) where
  abbrev All : List Act → Type 0
  All acts = AllByRecursion (λ (e : Entry). P e.act) (by p acts)

  all_of : (q : Act → Bool) → ((b : Act) → q b ≡ true → is_part b ≡ true) → (acts rest : List Act) → list_all q acts ≡ true → All rest → All (acts ++ rest)
  all_of q back [] rest e h = h
  all_of q back (a ∷ acts) rest e h = let split = and_true (q a) _ e in (parts a (back a split.0), all_of q back acts rest split.1 h)

  all_kept : (of : List Name) → All (map act.Kept of)
  all_kept [] = tt
  all_kept (n ∷ of) = (parts (act.Kept n) refl, all_kept of)

  all_loose : (of : List Name) (rest : List Act) → All rest → All (map act.Loose of ++ rest)
  all_loose [] rest h = h
  all_loose (n ∷ of) rest h = (parts (act.Loose n) refl, all_loose of rest h)

  abbrev Is : List Act → List Act → Type 0
  Is acts those = acts ≡ those

  by_all : {acts those : List Act} → acts ≡ those → All those → All acts
  by_all e h = subst All (sym e) h

  each_of_call : (a : Act) → P a → (acts : List Act) → EntriesOf a acts → All acts
  each_of_call (act.WriteRef at slot to old) h acts (inl e) = by_all e (h, tt)
  each_of_call (act.WriteRef at slot to old) h acts (inr e) = by_all e.1 (parts (act.Kept e.0) refl, (h, tt))
  each_of_call (act.Root at on old) h acts (inl e) = by_all e (h, tt)
  each_of_call (act.Root at on old) h acts (inr e) = by_all e.1 (parts (act.Kept e.0) refl, (h, tt))
  each_of_call (act.SetStrong number to old) h acts (inl e) = by_all e (h, tt)
  each_of_call (act.SetStrong number to old) h acts (inr e) = by_all e.1 (parts (act.Kept e.0) refl, (h, tt))
  each_of_call (act.BeginGc begin.Started) h acts e = by_all e.are (h, all_kept e.of)
  each_of_call (act.Slice budget reply) h acts e = by_all e.are (parts act.SliceOpen refl, all_of is_mark_note note_part e.notes _ e.only (h, tt))
  each_of_call (act.PurgeGc budget reply) h acts e = by_all e.are (all_of is_purge_part purge_part e.parts _ e.only (h, tt))
  each_of_call (act.Dissolve at count) h acts e = by_all e.are (all_loose e.of _ (h, tt))
  each_of_call act.SliceOpen h acts e = absurd e
  each_of_call (act.Kept of) h acts e = absurd e
  each_of_call (act.Scanned of) h acts e = absurd e
  each_of_call (act.Begun of) h acts e = absurd e
  each_of_call (act.Asked of poll answer) h acts e = absurd e
  each_of_call (act.Finished of) h acts e = absurd e
  each_of_call (act.Released of) h acts e = absurd e
  each_of_call (act.Loose of) h acts e = absurd e
  each_of_call _ h acts e = by_all e (h, tt)

-- ---- root units stay marked

part_starts : (a : Act) → is_part a ≡ true → is_start a ≡ false
part_starts (act.BeginGc begin.Started) e = absurd cc
part_starts _ e = refl

phase_before : (m : Marks) (w : World) (p : Pass) (a : Act) → is_start a ≡ false → (next_world m w p a).phase ≡ Marking → (w.phase ≡ Marking) × (is_done a ≡ false)
phase_before m w p (act.BeginGc begin.Started) other e = absurd cc
phase_before m w p (act.CommitGc commit.Done) other e = absurd cc
phase_before m w p (act.Sweep budget reply names) other e = (settled_marking w.phase reply.stop e, refl)
phase_before m w p _ other e = (e, refl)

abbrev Rooted : State → Type 0
Rooted s = s.world.phase ≡ Marking → RootsMarked s

roots_one : (z : Sizes) (xs : List Entry) (e : Entry) → is_start e.act ≡ false → (legal : LegalFrom z (state_of []) xs) → May z (state_of xs) e → Rooted (state_of xs) → Rooted (next (state_of xs) e)
roots_one z xs e other legal may was marking =
    let before = phase_before (state_of xs).marks (state_of xs).world e.pass e.act other marking in
    subst RootsMarked (one_more xs e) (roots_stay_marked_holds z xs (e ∷ []) ((histories_join.one_more z xs e).1 (legal, may)) before.0 (was before.0) (before.1, tt))

roots_call : (z : Sizes) (old new : List Entry) (p : Pass) (a : Act) → is_start a ≡ false → Appends z old new p a → Rooted (state_of old) → Rooted (state_of new)
roots_call z old new p a other call was =
    subst (λ (es : List Entry). Rooted (state_of es)) (sym call.grown)
    (by_more_states z old Rooted (λ e. is_start e.act ≡ false) was (λ xs e legal may q h. roots_one z xs e q legal may h) (by p call.acts)
    (subst (λ (es : List Entry). LegalFrom z (state_of []) es) call.grown call.legal)
    (each_of_call (λ b. is_start b ≡ false) part_starts p a other call.acts call.call.0))

roots_start : (z : Sizes) (old new : List Entry) (p : Pass) → Appends z old new p (act.BeginGc begin.Started) → Rooted (state_of new)
roots_start z old new Collector call = λ marking. start_marks_roots_holds z old new call
roots_start z old new (Lane lane) call = absurd (subst (λ (acts : List Act). LegalFrom z (state_of old) (by (Lane lane) acts)) call.call.0.are (legal_call z old new (Lane lane) _ call)).0.may
roots_start z old new (Marker marker) call =
    absurd
    (subst (λ (acts : List Act). LegalFrom z (state_of old) (by (Marker marker) acts)) call.call.0.are
    (legal_call z old new (Marker marker) _ call)).0.may

start_is : (a : Act) → is_start a ≡ true → a ≡ act.BeginGc begin.Started
start_is (act.BeginGc begin.Started) e = refl
start_is _ e = absurd cc

-- a call leaves a history at rest
pub rests : {z : Sizes} {old new : List Entry} {p : Pass} {a : Act} → Appends z old new p a → IsAtRest (state_of old) → IsAtRest (state_of new)
rests {z} {old} {new} {p} {a} call was = record { between = calls_end_holds z old new p a call was.between; roots = go (is_start a) refl }
  where
    go : (b : Bool) → is_start a ≡ b → Rooted (state_of new)
    go true e = roots_start z old new p (subst (λ (x : Act). Appends z old new p x) (start_is a e) call)
    go false e = roots_call z old new p a e call was.roots

-- ---- what lanes hold

-- the act opens or closes no frame of a lane
abbrev pub is_staying : Act → Bool
is_staying (act.FrameOpen phase) = false
is_staying act.FrameClose = false
is_staying _ = true

part_stays : (a : Act) → is_part a ≡ true → is_staying a ≡ true
part_stays (act.FrameOpen phase) e = absurd cc
part_stays act.FrameClose e = absurd cc
part_stays _ e = refl

holds_more : (lane : ℕ) (before w : World) (f : Frame) (a : Act) (n : Name) → is_staying a ≡ true → has f.held n ≡ true → has (next_frame lane before w f a).held n ≡ true
holds_more lane before w f (act.FrameOpen phase) n e h = absurd cc
holds_more lane before w f act.FrameClose n e h = absurd cc
holds_more lane before w f (act.Kept of) n e h = h
holds_more lane before w f (act.Loose of) n e h = h
holds_more lane before w f a n e h = list_any-append (same_name n) (flat_map (unit_of w) (given lane a)) f.held ∙ or_right (has (flat_map (unit_of w) (given lane a)) n) (has f.held n) h

pub holds_next : (s : State) (p : Pass) (a : Act) → is_staying a ≡ true → (k : ℕ) (n : Name) → HoldsName s k n → HoldsName (next s (record { pass = p; act = a })) k n
holds_next s (Lane lane) a e k n h = at_set (λ (f : Frame). has f.held n ≡ true) s.frames lane k _
    (λ same. holds_more lane s.world (next_world s.marks s.world (Lane lane) a) (s.frames lane) a n e (subst (λ (x : ℕ). has (s.frames x).held n ≡ true) same h)) (λ ne. h)
holds_next s (Marker marker) a e k n h = h
holds_next s Collector a e k n h = h

holds_run : (s : State) (p : Pass) (acts : List Act) → AllByRecursion (λ (e : Entry). is_staying e.act ≡ true) (by p acts) → (k : ℕ) (n : Name) → HoldsName s k n → HoldsName (run s (by p acts)) k n
holds_run s p [] all k n h = h
holds_run s p (a ∷ acts) all k n h = holds_run (next s (record { pass = p; act = a })) p acts all.1 k n (holds_next s p a all.0 k n h)

-- what a lane holds it holds after a call that opens and closes no frame
pub holds_call : {z : Sizes} {old new : List Entry} {p : Pass} {a : Act} → Appends z old new p a → is_staying a ≡ true → (k : ℕ) (n : Name)
    → HoldsName (state_of old) k n → HoldsName (state_of new) k n
holds_call {z} {old} {new} {p} {a} call e k n h = subst (λ (s : State). HoldsName s k n) (sym (state_after z old new p a call))
    (holds_run (state_of old) p call.acts (each_of_call (λ b. is_staying b ≡ true) part_stays p a e call.acts call.call.0) k n h)

-- and with it its reference, where names stay
pub keeps : {z : Sizes} {old new : List Entry} {p : Pass} {a : Act} → Appends z old new p a → is_staying a ≡ true → (names : List _) (k : ℕ) (r : Ref)
    → Holds record { history = old; names = names } k r → Holds record { history = new; names = names } k r
keeps call e names k r h = record { given = holds_call call e k r.name h.given; placed = h.placed; alone = h.alone }
