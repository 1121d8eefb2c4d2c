-- Solo calls: how one is made, what it leaves, and that it closes the slice that it opens.
use Rattle.std.proofs.Common.{◌≡◌, ℕ, refl, sym, subst, ap, ◌∙◌, inl, inr, Bool, cond, not, true, false, ◌||◌, List, [], ◌∷◌, ◌++◌, ◌==◌, map, filter}
use Rattle.std.specs.List.{list_any, list_all}
use Rattle.std.proofs.lemmas.Bool.{eq-eqb}
use Rattle.world_model.specs.Types.{Name, Pass, Lane, Marker, Collector, Marked, Act, Entry}
use Rattle.world_model.specs.Types.act
use Rattle.world_model.specs.Types.begin
use Rattle.world_model.specs.Types.commit
use Rattle.world_model.specs.Sizes.{Sizes}
use Rattle.world_model.specs.NameLists.{same_pass}
use Rattle.world_model.specs.State.{State, beginning}
use Rattle.world_model.specs.Next.{next, run}
use Rattle.world_model.specs.Histories.{MayBy, Legal, LegalFrom, state_of, after}
use Rattle.world_model.specs.Calls.{by, StoreEntries, is_mark_note, SliceEntries, is_purge_part, EntriesOf, CallOf, Appends}
use Rattle.world_model.specs.Engines.{is_marker, no_slice}
use Rattle.world_model.proofs.ListFacts.{and_true, or_false, any_filter}
use Rattle.world_model.proofs.Joins.{run-append, by-append, legal_split, legal_join}

-- a solo call of these acts, where they are legal
pub solo : (z : Sizes) (old : List Entry) (p : Pass) (a : Act) (acts : List Act) → CallOf (state_of old) p a acts → Legal z old
    → LegalFrom z (state_of old) (by p acts) → Appends z old (old ++ by p acts) p a
solo z old p a acts call legal more = record { acts = acts; call = call; grown = refl; legal = legal_join z beginning old (by p acts) legal more }

-- what a call leaves
pub state_after : (z : Sizes) (old new : List Entry) (p : Pass) (a : Act) (h : Appends z old new p a) → state_of new ≡ run (state_of old) (by p h.acts)
state_after z old new p a h = ap state_of h.grown ∙ run-append beginning old (by p h.acts)

-- its entries are legal from what was there
pub legal_call : (z : Sizes) (old new : List Entry) (p : Pass) (a : Act) (h : Appends z old new p a) → LegalFrom z (state_of old) (by p h.acts)
legal_call z old new p a h = (legal_split z beginning old (by p h.acts) (subst (Legal z) h.grown h.legal)).1

-- what a call of one entry leaves
pub state_after_one : (z : Sizes) (old new : List Entry) (p : Pass) (a : Act) (h : Appends z old new p a) → h.acts ≡ a ∷ [] → state_of new ≡ next (state_of old) (record { pass = p; act = a })
state_after_one z old new p a h one = state_after z old new p a h ∙ ap (λ (acts : List Act). run (state_of old) (by p acts)) one

-- ---- slices

abbrev pub opens_slice : Act → Bool
opens_slice act.SliceOpen = true
opens_slice _ = false

-- no marker is among these passes
abbrev pub NoMarker : List Pass → Type 0
NoMarker opened = list_any is_marker opened ≡ false

no_marker_filter : (test : Pass → Bool) (opened : List Pass) → NoMarker opened → NoMarker (filter test opened)
no_marker_filter test opened none = go (list_any is_marker (filter test opened)) refl
  where
    go : (b : Bool) → list_any is_marker (filter test opened) ≡ b → list_any is_marker (filter test opened) ≡ false
    go true e = absurd (let some : list_any is_marker opened ≡ true = any_filter is_marker test opened e in cc)
    go false e = e

-- an entry that opens no slice leaves no slice open
closed_next : (z : Sizes) (s : State) (p : Pass) (a : Act) → MayBy z s p a → opens_slice a ≡ false → NoMarker s.world.opened → NoMarker (next s (record { pass = p; act = a })).world.opened
closed_next z s (Lane lane) (act.FrameOpen phase) may other none = none
closed_next z s (Marker marker) (act.FrameOpen phase) may other none = absurd may.may
closed_next z s Collector (act.FrameOpen phase) may other none = absurd may.may
closed_next z s p act.SliceOpen may other none = absurd cc
closed_next z s p act.FrameClose may other none = no_marker_filter _ s.world.opened none
closed_next z s p (act.Slice budget reply) may other none = no_marker_filter _ s.world.opened none
closed_next z s p (act.BeginGc begin.Started) may other none = none
closed_next z s p (act.CommitGc commit.Done) may other none = none
closed_next z s p _ may other none = none

closed_run : (z : Sizes) (s : State) (p : Pass) (acts : List Act) → LegalFrom z s (by p acts) → list_any opens_slice acts ≡ false → NoMarker s.world.opened → NoMarker (run s (by p acts)).world.opened
closed_run z s p [] legal other none = none
closed_run z s p (a ∷ acts) legal other none =
    let parts = or_false _ _ other in
    closed_run z (next s (record { pass = p; act = a })) p acts legal.1 parts.1 (closed_next z s p a legal.0 parts.0 none)

one_opens_none : (a : Act) (acts : List Act) → opens_slice a ≡ false → acts ≡ a ∷ [] → list_any opens_slice acts ≡ false
one_opens_none a acts e is = subst (λ (xs : List Act). list_any opens_slice xs ≡ false) (sym is) (rw e refl)

store_opens_none : (a : Act) (acts : List Act) → opens_slice a ≡ false → StoreEntries a acts → list_any opens_slice acts ≡ false
store_opens_none a acts e (inl is) = one_opens_none a acts e is
store_opens_none a acts e (inr noted) = subst (λ (xs : List Act). list_any opens_slice xs ≡ false) (sym noted.1) (rw e refl)

kept_opens_none : (of : List Name) → list_any opens_slice (map act.Kept of) ≡ false
kept_opens_none [] = refl
kept_opens_none (n ∷ of) = kept_opens_none of

loose_open_none : (of : List Name) (last : Act) → opens_slice last ≡ false → list_any opens_slice (map act.Loose of ++ last ∷ []) ≡ false
loose_open_none [] last e = rw e refl
loose_open_none (n ∷ of) last e = loose_open_none of last e

parts_open_none : (parts : List Act) (last : Act) → opens_slice last ≡ false → list_all is_purge_part parts ≡ true → list_any opens_slice (parts ++ last ∷ []) ≡ false
parts_open_none [] last e all = rw e refl
parts_open_none (a ∷ parts) last e all = let both = and_true _ _ all in no_part a (parts_open_none parts last e both.1) both.0
  where
    no_part : (a : Act) → list_any opens_slice (parts ++ last ∷ []) ≡ false → is_purge_part a ≡ true → (opens_slice a || list_any opens_slice (parts ++ last ∷ [])) ≡ false
    no_part (act.Begun of) rest is = rest
    no_part (act.Asked of poll answer) rest is = rest
    no_part (act.Finished of) rest is = rest
    no_part (act.Released of) rest is = rest
    no_part a rest is = absurd cc

-- the notes of a slice open and close nothing
pub notes_keep : (s : State) (p : Pass) (notes : List Act) → list_all is_mark_note notes ≡ true → (run s (by p notes)).world.opened ≡ s.world.opened
notes_keep s p [] all = refl
notes_keep s p (a ∷ notes) all = let both = and_true _ _ all in notes_keep (next s (record { pass = p; act = a })) p notes both.1 ∙ one a both.0
  where
    one : (a : Act) → is_mark_note a ≡ true → (next s (record { pass = p; act = a })).world.opened ≡ s.world.opened
    one (act.Kept of) is = refl
    one (act.Scanned of) is = refl
    one a is = absurd cc

-- a slice leaves open what was open, but for its marker
pub slice_opened : (s : State) (marker budget : ℕ) (reply : Marked) (acts : List Act) → SliceEntries budget reply acts
    → (run s (by (Marker marker) acts)).world.opened ≡ filter (λ q. not (same_pass (Marker marker) q)) s.world.opened
slice_opened s marker budget reply acts h =
    let opening : List Act = act.SliceOpen ∷ h.notes in
    let closing : Entry = record { pass = Marker marker; act = act.Slice budget reply } in
    let before : State = run s (by (Marker marker) opening) in
    let entries : by (Marker marker) acts ≡ by (Marker marker) opening ++ closing ∷ [] = ap (by (Marker marker)) h.are ∙ by-append (Marker marker) opening (act.Slice budget reply ∷ []) in
    let same : before.world.opened ≡ Marker marker ∷ s.world.opened = notes_keep (next s (record { pass = Marker marker; act = act.SliceOpen })) (Marker marker) h.notes h.only in
    let own : (marker == marker) ≡ true = eq-eqb marker marker refl in
    ap (λ (es : List Entry). (run s es).world.opened) entries
    ∙ ap (λ (t : State). t.world.opened) (run-append s (by (Marker marker) opening) (closing ∷ []))
    ∙ ap (filter (λ q. not (same_pass (Marker marker) q))) same
    ∙ ap (λ (b : Bool). cond (not b) (Marker marker ∷ filter (λ q. not (same_pass (Marker marker) q)) s.world.opened) (filter (λ q. not (same_pass (Marker marker) q)) s.world.opened)) own

-- a slice closes itself
slice_closed : (s : State) (marker budget : ℕ) (reply : Marked) (acts : List Act) → SliceEntries budget reply acts → NoMarker s.world.opened → NoMarker (run s (by (Marker marker) acts)).world.opened
slice_closed s marker budget reply acts h none = subst NoMarker (sym (slice_opened s marker budget reply acts h)) (no_marker_filter _ s.world.opened none)

-- a call that is no slice opens none
pub call_closed : (z : Sizes) (s : State) (p : Pass) (a : Act) (acts : List Act) → EntriesOf a acts → LegalFrom z s (by p acts) → NoMarker s.world.opened → NoMarker (run s (by p acts)).world.opened
call_closed z s p (act.WriteRef at slot to old) acts call legal none = closed_run z s p acts legal (store_opens_none _ acts refl call) none
call_closed z s p (act.Root at on old) acts call legal none = closed_run z s p acts legal (store_opens_none _ acts refl call) none
call_closed z s p (act.SetStrong h to old) acts call legal none = closed_run z s p acts legal (store_opens_none _ acts refl call) none
call_closed z s p (act.BeginGc begin.Started) acts call legal none =
    closed_run z s p acts legal (subst (λ (xs : List Act). list_any opens_slice xs ≡ false) (sym call.are) (kept_opens_none call.of)) none
call_closed z s (Lane lane) (act.Slice budget reply) acts call legal none = absurd (subst (LegalFrom z s) (ap (by (Lane lane)) call.are) legal).0.may
call_closed z s Collector (act.Slice budget reply) acts call legal none = absurd (subst (LegalFrom z s) (ap (by Collector) call.are) legal).0.may
call_closed z s (Marker marker) (act.Slice budget reply) acts call legal none = slice_closed s marker budget reply acts call none
call_closed z s p (act.PurgeGc budget reply) acts call legal none =
    closed_run z s p acts legal (subst (λ (xs : List Act). list_any opens_slice xs ≡ false) (sym call.are) (parts_open_none call.parts _ refl call.only)) none
call_closed z s p (act.Dissolve at count) acts call legal none =
    closed_run z s p acts legal (subst (λ (xs : List Act). list_any opens_slice xs ≡ false) (sym call.are) (loose_open_none call.of _ refl)) none
call_closed z s p (act.Loose of) acts call legal none = absurd call
call_closed z s p act.SliceOpen acts call legal none = absurd call
call_closed z s p (act.Kept of) acts call legal none = absurd call
call_closed z s p (act.Scanned of) acts call legal none = absurd call
call_closed z s p (act.Begun of) acts call legal none = absurd call
call_closed z s p (act.Asked of poll answer) acts call legal none = absurd call
call_closed z s p (act.Finished of) acts call legal none = absurd call
call_closed z s p (act.Released of) acts call legal none = absurd call
call_closed z s p a acts call legal none = closed_run z s p acts legal (one_opens_none a acts refl call) none

-- where no slice was open before a call, none is open after it
pub slices_closed : (z : Sizes) (old new : List Entry) (p : Pass) (a : Act) → Appends z old new p a → no_slice (after old) ≡ true → no_slice (after new) ≡ true
slices_closed z old new p a h closed =
    let none : NoMarker (after old).opened = not_true _ closed in
    let after_call = call_closed z (state_of old) p a h.acts h.call.0 (legal_call z old new p a h) none in
    let now : NoMarker (after new).opened = subst (λ (s : State). NoMarker s.world.opened) (sym (state_after z old new p a h)) after_call in
    rw now refl
  where
    not_true : (b : Bool) → not b ≡ true → b ≡ false
    not_true true e = absurd cc
    not_true false e = refl
