-- A slice that scans something leaves fewer units unscanned, and a whole collection comes to its commit.
use Rattle.std.proofs.Common.{◌≡◌, ℕ, ◌+◌, ◌<◌, ◌≤◌, refl, sym, subst, ap, ◌∙◌, inl, inr, arith, Bool, cond, not, true, false, List, [], ◌∷◌, ◌++◌, map, length, ◌⊎◌, filter}
use Rattle.std.specs.List.{list_any, list_all}
use Rattle.world_model.specs.Types.{Name, Phase, Idle, Marking, Gathering, Pass, Marker, Collector, Marked, Commit, Act, Entry}
use Rattle.world_model.specs.Types.begin
use Rattle.world_model.specs.Types.stop
use Rattle.world_model.specs.Types.act
use Rattle.world_model.specs.Types.commit
use Rattle.world_model.specs.Sizes.{Sizes}
use Rattle.world_model.specs.NameLists.{same_name, same_pass, has}
use Rattle.world_model.specs.World.{World, unit_of}
use Rattle.world_model.specs.State.{State, Marks, Slicing, is_grey, grey_in, grey_units}
use Rattle.world_model.specs.Next.{next, run}
use Rattle.world_model.specs.MarkerSteps.{member_count}
use Rattle.world_model.specs.CollectorSteps.{CommitMay}
use Rattle.world_model.specs.Histories.{MayBy, LegalFrom, state_of, after}
use Rattle.world_model.specs.Calls.{by, is_mark_note, SliceEntries, CommitsAlone, Appends}
use Rattle.world_model.proofs.ListFacts.{and_true, or_true, or_right, Among}
use Rattle.world_model.proofs.NameFacts.{same_name_true, same_name_refl, found_unit, set_at_same}
use Rattle.world_model.proofs.Joins.{run-append, by-append, legal_split}
use Rattle.world_model.proofs.Collections.{is_marking, AllMark, keeps_mark, slice_marks}
use Rattle.world_model.proofs.Solo.{state_after, legal_call, notes_keep, slice_opened}

-- ---- the world while a collection marks

-- an act of marking leaves the world as it is but for the slices that are open
marking_world : (s : State) (p : Pass) (a : Act) → is_marking a ≡ true
    → (next s (record { pass = p; act = a })).world ≡ record s.world { opened = (next s (record { pass = p; act = a })).world.opened }
marking_world s p act.SliceOpen h = refl
marking_world s p (act.Kept of) h = refl
marking_world s p (act.Scanned of) h = refl
marking_world s p (act.Slice budget reply) h = refl
marking_world s p a h = absurd cc

pub marks_leave : (s : State) (entries : List Entry) → AllMark entries → (run s entries).world ≡ record s.world { opened = (run s entries).world.opened }
marks_leave s [] h = refl
marks_leave s (e ∷ entries) h =
    marks_leave (next s e) entries h.1 ∙ ap (λ (w : World). record w { opened = (run s (e ∷ entries)).world.opened }) (marking_world s e.pass e.act h.0)

-- ---- units that are not scanned

-- how many units are not scanned
unfoldable pub unscanned : List Name → List (List Name) → ℕ
unscanned scanned [] = 0
unscanned scanned (u ∷ units) = cond (list_any (has scanned) u) 0 1 + unscanned scanned units

-- a unit of which a member is scanned is so whatever else is
pub scanned_more : (of : Name) (scanned u : List Name) → list_any (has scanned) u ≡ true → list_any (has (of ∷ scanned)) u ≡ true
scanned_more of scanned [] h = h
scanned_more of scanned (n ∷ u) h = go (or_true _ _ h) (scanned_more of scanned u)
  where
    go : (has scanned n ≡ true) ⊎ (list_any (has scanned) u ≡ true) → (list_any (has scanned) u ≡ true → list_any (has (of ∷ scanned)) u ≡ true) → list_any (has (of ∷ scanned)) (n ∷ u) ≡ true
    go (inl e) rest = let first : has (of ∷ scanned) n ≡ true = or_right (same_name n of) _ e in rw first refl
    go (inr e) rest = or_right (has (of ∷ scanned) n) _ (rest e)

-- the unit of a member that is scanned is
pub own_scanned : (of : Name) (scanned u : List Name) → has u of ≡ true → list_any (has (of ∷ scanned)) u ≡ true
own_scanned of scanned [] h = absurd cc
own_scanned of scanned (n ∷ u) h = go (or_true _ _ h) (own_scanned of scanned u)
  where
    go : (same_name of n ≡ true) ⊎ (has u of ≡ true) → (has u of ≡ true → list_any (has (of ∷ scanned)) u ≡ true) → list_any (has (of ∷ scanned)) (n ∷ u) ≡ true
    go (inl e) rest =
        let same : of ≡ n = same_name_true of n e in
        let t : same_name n of ≡ true = subst (λ (m : Name). same_name m of ≡ true) same (same_name_refl of) in
        rw t refl
    go (inr e) rest = or_right (has (of ∷ scanned) n) _ (rest e)

-- one more scanned object leaves no more units unscanned
fewer : (of : Name) (scanned : List Name) (units : List (List Name)) → unscanned (of ∷ scanned) units ≤ unscanned scanned units
unfolding unscanned
fewer of scanned [] = omega arith
fewer of scanned (u ∷ units) = go (list_any (has scanned) u) refl (list_any (has (of ∷ scanned)) u) refl (fewer of scanned units)
  where
    go : (b : Bool) → list_any (has scanned) u ≡ b → (c : Bool) → list_any (has (of ∷ scanned)) u ≡ c → unscanned (of ∷ scanned) units ≤ unscanned scanned units
        → cond c 0 1 + unscanned (of ∷ scanned) units ≤ cond b 0 1 + unscanned scanned units
    go true e true f rest = omega arith
    go true e false f rest = absurd (let t : list_any (has (of ∷ scanned)) u ≡ true = scanned_more of scanned u e in cc)
    go false e true f rest = omega arith
    go false e false f rest = omega arith

-- one that was in an unscanned unit leaves fewer
strictly_fewer : (of : Name) (scanned : List Name) (units : List (List Name)) (u : List Name) → Among units u → has u of ≡ true
    → list_any (has scanned) u ≡ false → unscanned (of ∷ scanned) units < unscanned scanned units
unfolding unscanned
strictly_fewer of scanned [] u among own not_yet = absurd among
strictly_fewer of scanned (v ∷ units) u (inl e) own not_yet =
    let before : list_any (has scanned) v ≡ false = subst (λ (x : List Name). list_any (has scanned) x ≡ false) (sym e) not_yet in
    let now : list_any (has (of ∷ scanned)) v ≡ true = own_scanned of scanned v (subst (λ (x : List Name). has x of ≡ true) (sym e) own) in
    rw (before, now) (omega (arith, fewer of scanned units))
strictly_fewer of scanned (v ∷ units) u (inr more) own not_yet = go (list_any (has scanned) v) refl (list_any (has (of ∷ scanned)) v) refl (strictly_fewer of scanned units u more own not_yet)
  where
    go : (b : Bool) → list_any (has scanned) v ≡ b → (c : Bool) → list_any (has (of ∷ scanned)) v ≡ c → unscanned (of ∷ scanned) units < unscanned scanned units
        → cond c 0 1 + unscanned (of ∷ scanned) units < cond b 0 1 + unscanned scanned units
    go true e true f rest = omega arith
    go true e false f rest = absurd (let t : list_any (has (of ∷ scanned)) v ≡ true = scanned_more of scanned v e in cc)
    go false e true f rest = omega arith
    go false e false f rest = omega arith

-- ---- slices

-- what is left to scan in a state
abbrev pub left_to_scan : State → ℕ
left_to_scan s = unscanned s.marks.scanned s.world.units

-- a grey unit is not scanned
grey_unscanned : (m : Marks) (u : List Name) → is_grey m u ≡ true → list_any (has m.scanned) u ≡ false
grey_unscanned m u h = go (list_any (has m.scanned) u) refl
  where
    go : (b : Bool) → list_any (has m.scanned) u ≡ b → list_any (has m.scanned) u ≡ false
    go true e =
        absurd
        (let part : not (list_any (has m.scanned) u) ≡ true = (and_true (list_any (has m.kept) u) (not (list_any (has m.scanned) u)) h).1 in
        let wrong : not (list_any (has m.scanned) u) ≡ false = rw e refl in
        cc)
    go false e = e

-- what one note of a slice leaves to scan
note_scans : (z : Sizes) (s : State) (marker : ℕ) (a : Act) → is_mark_note a ≡ true → MayBy z s (Marker marker) a
    → (left_to_scan (next s (record { pass = Marker marker; act = a })) ≤ left_to_scan s)
    × ((((next s (record { pass = Marker marker; act = a })).slices marker).scanned ≡ (s.slices marker).scanned) ⊎ (left_to_scan (next s (record { pass = Marker marker; act = a })) < left_to_scan s))
note_scans z s marker (act.Kept of) is may = (omega arith, inl (ap (λ (t : Slicing). t.scanned) (set_at_same s.slices marker (s.slices marker))))
note_scans z s marker (act.Scanned of) is may =
    let unit = found_unit s.world.units of may.may.living in (
      fewer of s.marks.scanned s.world.units,
      inr (strictly_fewer of s.marks.scanned s.world.units (unit_of s.world of) unit.0 unit.1 (grey_unscanned s.marks (unit_of s.world of) may.may.grey)),
    )
note_scans z s marker a is may = absurd cc

-- the notes of a slice leave no more to scan, and less if one of them is that a unit is scanned
notes_scan : (z : Sizes) (s : State) (marker : ℕ) (notes : List Act) → list_all is_mark_note notes ≡ true → LegalFrom z s (by (Marker marker) notes)
    → (left_to_scan (run s (by (Marker marker) notes)) ≤ left_to_scan s)
    × ((((run s (by (Marker marker) notes)).slices marker).scanned ≡ (s.slices marker).scanned) ⊎ (left_to_scan (run s (by (Marker marker) notes)) < left_to_scan s))
notes_scan z s marker [] all legal = (omega arith, inl refl)
notes_scan z s marker (a ∷ notes) all legal =
    let both = and_true _ _ all in
    let one = note_scans z s marker a both.0 legal.0 in
    let rest = notes_scan z (next s (record { pass = Marker marker; act = a })) marker notes both.1 legal.1 in (
      omega (arith, one.0, rest.0),
      joined s (next s (record { pass = Marker marker; act = a }))
          (run (next s (record { pass = Marker marker; act = a })) (by (Marker marker) notes)) one.0 rest.0 one.1 rest.1,
    )
  where
    joined : (s t u : State) → left_to_scan t ≤ left_to_scan s → left_to_scan u ≤ left_to_scan t
        → (((t.slices marker).scanned ≡ (s.slices marker).scanned) ⊎ (left_to_scan t < left_to_scan s))
        → (((u.slices marker).scanned ≡ (t.slices marker).scanned) ⊎ (left_to_scan u < left_to_scan t))
        → (((u.slices marker).scanned ≡ (s.slices marker).scanned) ⊎ (left_to_scan u < left_to_scan s))
    joined s t u a b (inl e) (inl f) = inl (f ∙ e)
    joined s t u a b (inl e) (inr f) = inr (omega (arith, a, f))
    joined s t u a b (inr e) f = inr (omega (arith, b, e))

-- a slice that scans something leaves less to scan
pub slice_progress : (z : Sizes) (s : State) (marker budget : ℕ) (reply : Marked) (acts : List Act) → SliceEntries budget reply acts → LegalFrom z s (by (Marker marker) acts) → 0 < reply.scanned
    → left_to_scan (run s (by (Marker marker) acts)) < left_to_scan s
slice_progress z s marker budget reply acts h legal some =
    let opening : List Act = act.SliceOpen ∷ h.notes in
    let closing : Entry = record { pass = Marker marker; act = act.Slice budget reply } in
    let before : State = run s (by (Marker marker) opening) in
    let entries : by (Marker marker) acts ≡ by (Marker marker) opening ++ closing ∷ [] = ap (by (Marker marker)) h.are ∙ by-append (Marker marker) opening (act.Slice budget reply ∷ []) in
    let parts = legal_split z s (by (Marker marker) opening) (closing ∷ []) (subst (LegalFrom z s) entries legal) in
    let notes = notes_scan z (next s (record { pass = Marker marker; act = act.SliceOpen })) marker h.notes h.only parts.0.1 in
    let none : ((next s (record { pass = Marker marker; act = act.SliceOpen })).slices marker).scanned ≡ [] = ap (λ (t : Slicing). t.scanned) (set_at_same s.slices marker _) in
    let counted : reply.scanned ≡ member_count (before.slices marker).scanned = parts.1.0.may.scanned in
    let less : left_to_scan before < left_to_scan s = scanned_some (before.slices marker).scanned counted none notes.1 in
    subst (λ (es : List Entry). left_to_scan (run s es) < left_to_scan s) (sym entries)
    (subst (λ (t : State). left_to_scan t < left_to_scan s) (sym (run-append s (by (Marker marker) opening) (closing ∷ []))) less)
  where
    scanned_some : (units : List (List Name)) → reply.scanned ≡ member_count units → ((next s (record { pass = Marker marker; act = act.SliceOpen })).slices marker).scanned ≡ []
        → ((units ≡ ((next s (record { pass = Marker marker; act = act.SliceOpen })).slices marker).scanned) ⊎ (left_to_scan (run s (by (Marker marker) (act.SliceOpen ∷ h.notes))) < left_to_scan s))
        → left_to_scan (run s (by (Marker marker) (act.SliceOpen ∷ h.notes))) < left_to_scan s
    scanned_some units counted none (inr less) = less
    scanned_some units counted none (inl same) =
        let zero_scanned : reply.scanned ≡ 0 = counted ∙ ap member_count (same ∙ none) in
        absurd (omega arith)

-- ---- a whole collection, call by call

-- when a collection has started, its phase is Marking and nothing is open
pub started_world : (z : Sizes) (old new : List Entry) → Appends z old new Collector (act.BeginGc begin.Started) → ((after new).phase ≡ Marking) × ((after new).opened ≡ [])
started_world z old new h =
    let start : Entry = record { pass = Collector; act = act.BeginGc begin.Started } in
    let notes : List Act = map act.Kept h.call.0.of in
    let entries : by Collector h.acts ≡ start ∷ by Collector notes = ap (by Collector) h.call.0.are in
    let may = (subst (LegalFrom z (state_of old)) entries (legal_call z old new Collector (act.BeginGc begin.Started) h)).0 in
    let left : state_of new ≡ run (next (state_of old) start) (by Collector notes) = state_after z old new Collector (act.BeginGc begin.Started) h ∙ ap (run (state_of old)) entries in
    let leaves = marks_leave (next (state_of old) start) (by Collector notes) (keeps_mark h.call.0.of) in (
      ap (λ (s : State). s.world.phase) left ∙ ap (λ (w : World). w.phase) leaves,
      ap (λ (s : State). s.world.opened) left ∙ notes_keep (next (state_of old) start) Collector notes (kept_notes h.call.0.of) ∙ may.may.1,
    )
  where
    kept_notes : (of : List Name) → list_all is_mark_note (map act.Kept of) ≡ true
    kept_notes [] = refl
    kept_notes (n ∷ of) = kept_notes of

-- a slice leaves the phase, and where nothing was open nothing is
pub slice_world : (z : Sizes) (old new : List Entry) (marker budget : ℕ) (reply : Marked) → Appends z old new (Marker marker) (act.Slice budget reply)
    → ((after new).phase ≡ (after old).phase) × ((after old).opened ≡ [] → (after new).opened ≡ [])
slice_world z old new marker budget reply h =
    let left : state_of new ≡ run (state_of old) (by (Marker marker) h.acts) = state_after z old new (Marker marker) (act.Slice budget reply) h in
    let leaves = marks_leave (state_of old) (by (Marker marker) h.acts) (slice_marks marker budget reply h.acts h.call.0) in (
      ap (λ (s : State). s.world.phase) left ∙ ap (λ (w : World). w.phase) leaves,
      λ none. ap (λ (s : State). s.world.opened) left ∙ slice_opened (state_of old) marker budget reply h.acts h.call.0 ∙ ap (filter (λ q. not (same_pass (Marker marker) q))) none,
    )

-- what is grey does not hang on the moments
grey_moments : (phase : Phase) (m : Marks) (moments : List World) (units : List (List Name)) → grey_in phase (record m { moments = moments }) units ≡ grey_in phase m units
grey_moments Idle m moments units = refl
grey_moments Marking m moments units = refl
grey_moments Gathering m moments units = refl

-- a slice that is idle leaves nothing grey
pub idle_black : (z : Sizes) (old new : List Entry) (marker budget : ℕ) (reply : Marked) → Appends z old new (Marker marker) (act.Slice budget reply)
    → reply.stop ≡ stop.Idle → grey_units (state_of new) ≡ []
idle_black z old new marker budget reply h idle =
    let opening : List Act = act.SliceOpen ∷ h.call.0.notes in
    let closing : Entry = record { pass = Marker marker; act = act.Slice budget reply } in
    let entries : by (Marker marker) h.acts ≡ by (Marker marker) opening ++ closing ∷ [] = ap (by (Marker marker)) h.call.0.are ∙ by-append (Marker marker) opening (act.Slice budget reply ∷ []) in
    let left : state_of new ≡ next (run (state_of old) (by (Marker marker) opening)) closing =
    state_after z old new (Marker marker) (act.Slice budget reply) h ∙ ap (run (state_of old)) entries ∙ run-append (state_of old) (by (Marker marker) opening) (closing ∷ []) in
    let before : State = run (state_of old) (by (Marker marker) opening) in
    ap grey_units left ∙ grey_moments before.world.phase before.marks ((next before closing).marks.moments) before.world.units ∙ (h.call.1.idle.0 idle).1

-- where nothing is grey and no frame or slice is open, a solo commit is done
pub commit_done : (s : State) (reply : Commit) → CommitsAlone s reply → CommitMay s reply → s.world.phase ≡ Marking → s.world.opened ≡ [] → grey_units s ≡ [] → reply ≡ commit.Done
commit_done s commit.Done h may marking closed black = refl
commit_done s (commit.NotMarking phase) h may marking closed black = absurd (may.1 (may.0 ∙ marking))
commit_done s (commit.Unfinished word bits) h may marking closed black = absurd ((h.unfinished marking).0 refl black)
commit_done s commit.Stores h may marking closed black = absurd (h.no_stores refl)
commit_done s (commit.Frames n) h may marking closed black =
    let none : n ≡ 0 = may.1.0 ∙ ap length closed in
    absurd (let some : 0 < n = may.1.1 in omega arith)
