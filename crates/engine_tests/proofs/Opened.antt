-- The open frames and slices after one call.
use Rattle.std.proofs.Common.{◌≡◌, ℕ, ◌<◌, arith, cond, refl, ap, ◌∙◌, inl, inr, Bool, true, false, not, List, [], ◌∷◌, ◌++◌, map, filter, Option, Result, Ok, Err}
use Rattle.std.specs.List.{list_all, list_any}
use Rattle.std.proofs.lemmas.Bool.{and_from}
use Rattle.world_model.specs.Sizes.{Sizes, level, small}
use Rattle.world_model.specs.NameLists.{same_pass}
use Rattle.world_model.specs.World.{World}
use Rattle.world_model.specs.State.{State, Marks}
use Rattle.world_model.specs.Next.{next_world, next, run}
use Rattle.world_model.specs.Histories.{after, state_of}
use Rattle.world_model.specs.Calls.{by, Appends, EntriesOf, is_mark_note, is_purge_part}
use Rattle.world_model.specs.Engines.{act_of_create, act_of_dissolve, act_of_weak, IsInFrame}
use Rattle.world_model.proofs.Joins.{run-append, by-append}
use Rattle.world_model.proofs.ListFacts.{and_true}
use Rattle.heap_plain.specs.Types.{Name, Kind, Pass, Lane, Marker, Phase, Begin, Marked, Commit, Swept, Purged, CreateErr, DissolveErr, SerialsSpent, Weak, Act, Entry}
use Rattle.heap_plain.specs.Types.act
use Rattle.heap_plain.specs.Types.begin
use Rattle.heap_plain.specs.Types.commit
use Rattle.heap_plain.specs.Types.create
use Rattle.engine_tests.specs.Shapes.{single}
use Rattle.heap_plain.proofs.WorldFacts.{state_more, same_pass_refl}

-- the acts that open or close nothing
abbrev pub is_inside : Act → Bool
is_inside (act.FrameOpen phase) = false
is_inside act.FrameClose = false
is_inside act.SliceOpen = false
is_inside (act.Slice budget reply) = false
is_inside _ = true

next_opened : (m : Marks) (w : World) (p : Pass) (a : Act) → is_inside a ≡ true → (next_world m w p a).opened ≡ w.opened
next_opened m w p (act.FrameOpen phase) e = absurd cc
next_opened m w p act.FrameClose e = absurd cc
next_opened m w p act.SliceOpen e = absurd cc
next_opened m w p (act.Slice budget reply) e = absurd cc
next_opened m w p (act.BeginGc begin.Started) e = refl
next_opened m w p (act.CommitGc commit.Done) e = refl
next_opened m w p _ e = refl

pub run_opened : (s : State) (p : Pass) (acts : List Act) → list_all is_inside acts ≡ true → (run s (by p acts)).world.opened ≡ s.world.opened
run_opened s p [] e = refl
run_opened s p (a ∷ acts) e = let parts = and_true (is_inside a) _ e in run_opened (next s (record { pass = p; act = a })) p acts parts.1 ∙ next_opened s.marks s.world p a parts.0

-- the history after the call opens what the entries leave open
by_entries : {z : Sizes} {old new : List Entry} {p : Pass} {a : Act} → (h : Appends z old new p a) → (after new).opened ≡ (run (state_of old) (by p h.acts)).world.opened
by_entries {old} {p} h = ap (λ (es : List Entry). (after es).opened) h.grown ∙ ap (λ (s : State). s.world.opened) (state_more old (by p h.acts))

pub opened_by_frame : {z : Sizes} {old new : List Entry} {lane : ℕ} {phase : Phase} → Appends z old new (Lane lane) (act.FrameOpen phase) → (after new).opened ≡ Lane lane ∷ (after old).opened
opened_by_frame {old} {lane} h = by_entries h ∙ ap (λ (acts : List Act). (run (state_of old) (by (Lane lane) acts)).world.opened) h.call.0

pub closed_by_frame : {z : Sizes} {old new : List Entry} {lane : ℕ} → Appends z old new (Lane lane) act.FrameClose → (after new).opened ≡ filter (λ q. not (same_pass (Lane lane) q)) (after old).opened
closed_by_frame {old} {lane} h = by_entries h ∙ ap (λ (acts : List Act). (run (state_of old) (by (Lane lane) acts)).world.opened) h.call.0

kept_inside : (of : List Name) → list_all is_inside (map act.Kept of) ≡ true
kept_inside [] = refl
kept_inside (n ∷ of) = kept_inside of

-- an answer of the collector, a root or a creation opens nothing
pub same_by_begin : {z : Sizes} {old new : List Entry} {p : Pass} {reply : Begin} → Appends z old new p (act.BeginGc reply) → (after new).opened ≡ (after old).opened
same_by_begin {old} {p} {reply} h = by_entries h ∙ run_opened (state_of old) p h.acts (go reply h.acts h.call.0)
  where
    go : (r : Begin) (acts : List Act) → EntriesOf (act.BeginGc r) acts → list_all is_inside acts ≡ true
    go begin.Started acts c = ap (list_all is_inside) c.are ∙ kept_inside c.of
    go (begin.Running at) acts c = ap (list_all is_inside) c
    go (begin.Purging n) acts c = ap (list_all is_inside) c
    go (begin.Frames n) acts c = ap (list_all is_inside) c

pub same_by_commit : {z : Sizes} {old new : List Entry} {p : Pass} {reply : Commit} → Appends z old new p (act.CommitGc reply) → (after new).opened ≡ (after old).opened
same_by_commit {old} {p} h = by_entries h ∙ run_opened (state_of old) p h.acts (ap (list_all is_inside) h.call.0)

pub same_by_root : {z : Sizes} {old new : List Entry} {p : Pass} {at : Name} {on was : Bool} → Appends z old new p (act.Root at on was) → (after new).opened ≡ (after old).opened
same_by_root {old} {p} {at} {on} {was} h = by_entries h ∙ run_opened (state_of old) p h.acts (go h.acts h.call.0)
  where
    go : (acts : List Act) → EntriesOf (act.Root at on was) acts → list_all is_inside acts ≡ true
    go acts (inl e) = ap (list_all is_inside) e
    go acts (inr e) = ap (list_all is_inside) e.1

pub same_by_create : {z : Sizes} {old new : List Entry} {p : Pass} {T : Type 0} (lane : ℕ) (kinds : List Kind) (result : Result T CreateErr)
    → Appends z old new p (act_of_create (after old) lane kinds result) → (after new).opened ≡ (after old).opened
same_by_create {old} {p} lane kinds (Ok made) h = by_entries h ∙ run_opened (state_of old) p h.acts (ap (list_all is_inside) h.call.0)
same_by_create {old} {p} lane kinds (Err (create.Full free)) h = by_entries h ∙ run_opened (state_of old) p h.acts (ap (list_all is_inside) h.call.0)
same_by_create {old} {p} lane kinds (Err (create.NamesSpent left)) h = by_entries h ∙ run_opened (state_of old) p h.acts (ap (list_all is_inside) h.call.0)

pub same_by_sweep : {z : Sizes} {old new : List Entry} {p : Pass} {budget : ℕ} {reply : Swept} {names : List Name}
    → Appends z old new p (act.Sweep budget reply names) → (after new).opened ≡ (after old).opened
same_by_sweep {old} {p} {budget} {reply} {names} h = by_entries h ∙ run_opened (state_of old) p h.acts (ap (list_all is_inside) h.call.0)

-- nor does a purge
parts_inside : (parts : List Act) (last : Act) → is_inside last ≡ true → list_all is_purge_part parts ≡ true → list_all is_inside (parts ++ last ∷ []) ≡ true
parts_inside [] last e h = and_from _ _ e refl
parts_inside (a ∷ parts) last e h = let split = and_true (is_purge_part a) _ h in and_from _ _ (inside a split.0) (parts_inside parts last e split.1)
  where
    inside : (a : Act) → is_purge_part a ≡ true → is_inside a ≡ true
    inside (act.Begun of) h = refl
    inside (act.Asked of poll answer) h = refl
    inside (act.Finished of) h = refl
    inside (act.Released of) h = refl
    inside _ h = absurd cc

pub same_by_purge : {z : Sizes} {old new : List Entry} {p : Pass} {budget : ℕ} {reply : Purged} → Appends z old new p (act.PurgeGc budget reply) → (after new).opened ≡ (after old).opened
same_by_purge {old} {p} {budget} {reply} h =
    by_entries h ∙ run_opened (state_of old) p h.acts (ap (list_all is_inside) h.call.0.are ∙ parts_inside h.call.0.parts (act.PurgeGc budget reply) refl h.call.0.only)

-- a slice closes what it has opened
pub closed_by_slice : {z : Sizes} {old new : List Entry} {marker budget : ℕ} {reply : Marked}
    → Appends z old new (Marker marker) (act.Slice budget reply) → (after old).opened ≡ [] → (after new).opened ≡ []
closed_by_slice {old = old} {marker = marker} {budget} {reply} h none =
    by_entries h ∙ ap (λ (acts : List Act). (run (state_of old) (by (Marker marker) acts)).world.opened) h.call.0.are
    ∙ ap (λ (es : List Entry). (run (state_of old) es).world.opened) (by-append (Marker marker) (act.SliceOpen ∷ h.call.0.notes) (act.Slice budget reply ∷ []))
    ∙ ap (λ (s : State). s.world.opened) (run-append (state_of old) (by (Marker marker) (act.SliceOpen ∷ h.call.0.notes)) (by (Marker marker) (act.Slice budget reply ∷ [])))
    ∙ ap (filter (λ q. not (same_pass (Marker marker) q)))
    (run_opened (next (state_of old) (record { pass = Marker marker; act = act.SliceOpen })) (Marker marker) h.call.0.notes
    (notes_inside h.call.0.notes h.call.0.only) ∙ ap (λ (passes : List Pass). Marker marker ∷ passes) none)
    ∙ out (same_pass (Marker marker) (Marker marker)) (same_pass_refl (Marker marker))
  where
    note_inside : (a : Act) → is_mark_note a ≡ true → is_inside a ≡ true
    note_inside (act.Kept of) h = refl
    note_inside (act.Scanned of) h = refl
    note_inside _ h = absurd cc

    notes_inside : (notes : List Act) → list_all is_mark_note notes ≡ true → list_all is_inside notes ≡ true
    notes_inside [] e = refl
    notes_inside (a ∷ notes) e = let split = and_true (is_mark_note a) _ e in and_from _ _ (note_inside a split.0) (notes_inside notes split.1)

    out : (b : Bool) → b ≡ true → cond (not b) (Marker marker ∷ []) [] ≡ []
    out true e = refl
    out false e = absurd cc

-- where the frame of lane 0 alone is open
pub in_frame_of : (z : Sizes) (h : List Entry) → 0 < z.lanes → (after h).opened ≡ Lane 0 ∷ [] → IsInFrame z h 0
in_frame_of z h some e = record { in_range = some; opened = ap (list_any (same_pass (Lane 0))) e }

pub in_frame : (h : List Entry) → (after h).opened ≡ Lane 0 ∷ [] → IsInFrame small h 0
in_frame h e = in_frame_of small h (omega arith) e

pub in_level_frame : (h : List Entry) → (after h).opened ≡ Lane 0 ∷ [] → IsInFrame level h 0
in_level_frame h e = in_frame_of level h (omega arith) e

pub in_single_frame : (h : List Entry) → (after h).opened ≡ Lane 0 ∷ [] → IsInFrame single h 0
in_single_frame h e = in_frame_of single h (omega arith) e

-- that frame is opened, and closed
pub opens_alone : {z : Sizes} {old new : List Entry} {phase : Phase} → Appends z old new (Lane 0) (act.FrameOpen phase) → (after old).opened ≡ [] → (after new).opened ≡ Lane 0 ∷ []
opens_alone h none = opened_by_frame h ∙ ap (λ (passes : List Pass). Lane 0 ∷ passes) none

pub closes_alone : {z : Sizes} {old new : List Entry} → Appends z old new (Lane 0) act.FrameClose → (after old).opened ≡ Lane 0 ∷ [] → (after new).opened ≡ []
closes_alone h one = closed_by_frame h ∙ ap (filter (λ q. not (same_pass (Lane 0) q))) one

-- reading and writing cells opens nothing
pub same_by_read : {z : Sizes} {old new : List Entry} {p : Pass} {at : Name} {slot : ℕ} {got : Option Name} → Appends z old new p (act.ReadRef at slot got) → (after new).opened ≡ (after old).opened
same_by_read {old} {p} h = by_entries h ∙ run_opened (state_of old) p h.acts (ap (list_all is_inside) h.call.0)

pub same_by_write : {z : Sizes} {old new : List Entry} {p : Pass} {at : Name} {slot : ℕ} {to was : Option Name}
    → Appends z old new p (act.WriteRef at slot to was) → (after new).opened ≡ (after old).opened
same_by_write {old} {p} {at} {slot} {to} {was} h = by_entries h ∙ run_opened (state_of old) p h.acts (go h.acts h.call.0)
  where
    go : (acts : List Act) → EntriesOf (act.WriteRef at slot to was) acts → list_all is_inside acts ≡ true
    go acts (inl e) = ap (list_all is_inside) e
    go acts (inr e) = ap (list_all is_inside) e.1

pub same_by_read_plain : {z : Sizes} {old new : List Entry} {p : Pass} {at : Name} {slot got : ℕ} → Appends z old new p (act.ReadPlain at slot got) → (after new).opened ≡ (after old).opened
same_by_read_plain {old} {p} h = by_entries h ∙ run_opened (state_of old) p h.acts (ap (list_all is_inside) h.call.0)

pub same_by_write_plain : {z : Sizes} {old new : List Entry} {p : Pass} {at : Name} {slot value was : ℕ}
    → Appends z old new p (act.WritePlain at slot value was) → (after new).opened ≡ (after old).opened
same_by_write_plain {old} {p} h = by_entries h ∙ run_opened (state_of old) p h.acts (ap (list_all is_inside) h.call.0)

-- nor does marking objects as garbage, or telling whether they are
pub same_by_garbage : {z : Sizes} {old new : List Entry} {p : Pass} {at : Name} {was : Bool} → Appends z old new p (act.MarkGarbage at was) → (after new).opened ≡ (after old).opened
same_by_garbage {old} {p} h = by_entries h ∙ run_opened (state_of old) p h.acts (ap (list_all is_inside) h.call.0)

pub same_by_valid : {z : Sizes} {old new : List Entry} {p : Pass} {at : Name} {valid : Bool} → Appends z old new p (act.IsValid at valid) → (after new).opened ≡ (after old).opened
same_by_valid {old} {p} h = by_entries h ∙ run_opened (state_of old) p h.acts (ap (list_all is_inside) h.call.0)

-- nor does taking a unit apart
pub same_by_dissolve : {z : Sizes} {old new : List Entry} {lane : ℕ} (at : Name) (result : Result ℕ DissolveErr)
    → Appends z old new (Lane lane) (act_of_dissolve at result) → (after new).opened ≡ (after old).opened
same_by_dissolve {old} {lane} at (Ok count) h = by_entries h ∙ run_opened (state_of old) (Lane lane) h.acts (ap (list_all is_inside) h.call.0.are ∙ leaving h.call.0.of)
  where
    leaving : (of : List Name) → list_all is_inside (map act.Loose of ++ act.Dissolve at count ∷ []) ≡ true
    leaving [] = refl
    leaving (n ∷ of) = leaving of
same_by_dissolve {old} {lane} at (Err refused) h = by_entries h ∙ run_opened (state_of old) (Lane lane) h.acts (ap (list_all is_inside) h.call.0)

-- nor does writing or reading a strong pointer
pub same_by_set_strong : {z : Sizes} {old new : List Entry} {p : Pass} {number : ℕ} {to was : Option Name}
    → Appends z old new p (act.SetStrong number to was) → (after new).opened ≡ (after old).opened
same_by_set_strong {old} {p} {number} {to} {was} h = by_entries h ∙ run_opened (state_of old) p h.acts (go h.acts h.call.0)
  where
    go : (acts : List Act) → EntriesOf (act.SetStrong number to was) acts → list_all is_inside acts ≡ true
    go acts (inl e) = ap (list_all is_inside) e
    go acts (inr e) = ap (list_all is_inside) e.1

pub same_by_get_strong : {z : Sizes} {old new : List Entry} {p : Pass} {number : ℕ} {got : Option Name} → Appends z old new p (act.GetStrong number got) → (after new).opened ≡ (after old).opened
same_by_get_strong {old} {p} h = by_entries h ∙ run_opened (state_of old) p h.acts (ap (list_all is_inside) h.call.0)

-- nor does asking for a weak pointer, or resolving one
pub same_by_weak : {z : Sizes} {old new : List Entry} {p : Pass} (at : Name) (result : Result Weak SerialsSpent) → Appends z old new p (act_of_weak at result) → (after new).opened ≡ (after old).opened
same_by_weak {old} {p} at (Ok pair) h = by_entries h ∙ run_opened (state_of old) p h.acts (ap (list_all is_inside) h.call.0)
same_by_weak {old} {p} at (Err spent) h = by_entries h ∙ run_opened (state_of old) p h.acts (ap (list_all is_inside) h.call.0)

pub same_by_resolve : {z : Sizes} {old new : List Entry} {p : Pass} {pair : Weak} {got : Option Name} → Appends z old new p (act.Resolve pair got) → (after new).opened ≡ (after old).opened
same_by_resolve {old} {p} h = by_entries h ∙ run_opened (state_of old) p h.acts (ap (list_all is_inside) h.call.0)

-- the same of the frame of lane 1, where it alone is open
pub in_other_frame : (h : List Entry) → (after h).opened ≡ Lane 1 ∷ [] → IsInFrame small h 1
in_other_frame h e = record { in_range = omega arith; opened = ap (list_any (same_pass (Lane 1))) e }

pub opens_other : {z : Sizes} {old new : List Entry} {phase : Phase} → Appends z old new (Lane 1) (act.FrameOpen phase) → (after old).opened ≡ [] → (after new).opened ≡ Lane 1 ∷ []
opens_other h none = opened_by_frame h ∙ ap (λ (passes : List Pass). Lane 1 ∷ passes) none

pub closes_other : {z : Sizes} {old new : List Entry} → Appends z old new (Lane 1) act.FrameClose → (after old).opened ≡ Lane 1 ∷ [] → (after new).opened ≡ []
closes_other h one = closed_by_frame h ∙ ap (filter (λ q. not (same_pass (Lane 1) q))) one
