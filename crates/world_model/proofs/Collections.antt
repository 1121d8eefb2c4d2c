-- A whole collection is quiet, and leaves the graph as it is until its commit.
use Rattle.std.proofs.Common.{◌≡◌, ℕ, refl, sym, subst, ap, ◌∙◌, Bool, true, false, List, [], ◌∷◌, ◌++◌, append_assoc, map, IsTrue}
use Rattle.std.specs.List.{list_all, flat_map, AllByRecursion}
use Rattle.world_model.specs.Types.{Name, Pass, Marker, Collector, Marked, Act, Entry}
use Rattle.world_model.specs.Types.act
use Rattle.world_model.specs.World.{World}
use Rattle.world_model.specs.Reach.{graph}
use Rattle.world_model.specs.State.{State, Marks}
use Rattle.world_model.specs.Next.{next_world, next, run}
use Rattle.world_model.specs.Histories.{state_of, after, Legal}
use Rattle.world_model.specs.Calls.{by, is_mark_note, SliceEntries, Slice, by_marker, SlicesUntilIdle}
use Rattle.world_model.specs.Laws.{is_quiet, started, done, KeepsReached, CollectIsExact}
use Rattle.world_model.proofs.ListFacts.{and_true}
use Rattle.world_model.proofs.Joins.{run-append, by-append}
use Rattle.world_model.proofs.Quiet.{quiet_is_exact_holds}

-- an act of marking
abbrev pub is_marking : Act → Bool
is_marking act.SliceOpen = true
is_marking (act.Kept of) = true
is_marking (act.Scanned of) = true
is_marking (act.Slice budget reply) = true
is_marking _ = false

abbrev pub AllMark : List Entry → Type 0
AllMark entries = AllByRecursion (λ e. IsTrue (is_marking e.act)) entries

pub all_append : (xs ys : List Entry) → AllMark xs → AllMark ys → AllMark (xs ++ ys)
all_append [] ys g h = h
all_append (x ∷ xs) ys g h = (g.0, all_append xs ys g.1 h)

note_marks : (a : Act) → is_mark_note a ≡ true → is_marking a ≡ true
note_marks (act.Kept of) h = refl
note_marks (act.Scanned of) h = refl
note_marks a h = absurd cc

notes_mark : (p : Pass) (notes : List Act) → list_all is_mark_note notes ≡ true → AllMark (by p notes)
notes_mark p [] h = tt
notes_mark p (a ∷ notes) h = let parts = and_true _ _ h in (note_marks a parts.0, notes_mark p notes parts.1)

pub slice_marks : (marker budget : ℕ) (reply : Marked) (acts : List Act) → SliceEntries budget reply acts → AllMark (by (Marker marker) acts)
slice_marks marker budget reply acts h =
    subst (λ (some : List Act). AllMark (by (Marker marker) some)) (sym h.are)
    (subst AllMark (sym (by-append (Marker marker) (act.SliceOpen ∷ h.notes) (act.Slice budget reply ∷ [])))
    (all_append (by (Marker marker) (act.SliceOpen ∷ h.notes)) (by (Marker marker) (act.Slice budget reply ∷ [])) (refl, notes_mark (Marker marker) h.notes h.only) (refl, tt)))

pub slices_mark : (s : State) (budget : ℕ) (slices : List Slice) → SlicesUntilIdle s budget slices → AllMark (flat_map by_marker slices)
slices_mark s budget [] h = tt
slices_mark s budget (last ∷ []) h = all_append (by_marker last) [] (slice_marks last.marker budget _ last.acts h.1.0) tt
slices_mark s budget (slice ∷ next ∷ rest) h = all_append (by_marker slice) _ (slice_marks slice.marker budget _ slice.acts h.1.0) (slices_mark (run s (by_marker slice)) budget (next ∷ rest) h.2)

pub keeps_mark : (of : List Name) → AllMark (by Collector (map act.Kept of))
keeps_mark [] = tt
keeps_mark (n ∷ of) = (refl, keeps_mark of)

marking_quiet : (a : Act) → is_marking a ≡ true → is_quiet a ≡ true
marking_quiet act.SliceOpen h = refl
marking_quiet (act.Kept of) h = refl
marking_quiet (act.Scanned of) h = refl
marking_quiet (act.Slice budget reply) h = refl
marking_quiet a h = absurd cc

all_quiet : (entries : List Entry) → AllMark entries → AllByRecursion (λ e. IsTrue (is_quiet e.act)) entries
all_quiet [] h = tt
all_quiet (e ∷ entries) h = (marking_quiet e.act h.0, all_quiet entries h.1)

marking_keeps : (m : Marks) (w : World) (p : Pass) (a : Act) → is_marking a ≡ true → graph (next_world m w p a) ≡ graph w
marking_keeps m w p act.SliceOpen h = refl
marking_keeps m w p (act.Kept of) h = refl
marking_keeps m w p (act.Scanned of) h = refl
marking_keeps m w p (act.Slice budget reply) h = refl
marking_keeps m w p a h = absurd cc

pub all_keep : (s : State) (entries : List Entry) → AllMark entries → graph (run s entries).world ≡ graph s.world
all_keep s [] h = refl
all_keep s (e ∷ entries) h = all_keep (next s e) entries h.1 ∙ marking_keeps s.marks s.world e.pass e.act h.0

pub collect_is_exact_holds : CollectIsExact
collect_is_exact_holds z old new budget h =
    let notes : List Entry = by Collector (map act.Kept h.begun.0.of) in
    let slices : List Entry = flat_map by_marker h.slices in
    let during : List Entry = notes ++ slices in
    let begins : by Collector h.begins ≡ started ∷ notes = ap (by Collector) h.begun.0.are in
    let grown : new ≡ (old ++ started ∷ during) ++ done ∷ [] =
    h.grown ∙ ap (λ (xs : List Entry). (old ++ xs) ++ (slices ++ done ∷ [])) begins ∙ sym (append_assoc (old ++ started ∷ notes) slices (done ∷ []))
    ∙ ap (λ (xs : List Entry). xs ++ done ∷ []) (append_assoc old (started ∷ notes) slices) in
    let mark : AllMark during = all_append notes slices (keeps_mark h.begun.0.of) (slices_mark _ budget h.slices h.marked) in
    let exact = quiet_is_exact_holds z old during (subst (Legal z) grown h.legal) (all_quiet during mark) in
    let same : graph (after (old ++ started ∷ during)) ≡ graph (after old) =
    ap (λ (s : State). graph s.world) (run-append _ old (started ∷ during)) ∙ all_keep (next (state_of old) started) during mark in
    subst (λ g. KeepsReached g (graph (after new))) same (subst (λ (end : List Entry). KeepsReached (graph (after (old ++ started ∷ during))) (graph (after end))) (sym grown) exact)
