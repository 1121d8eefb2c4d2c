-- A solo call leaves nothing under way.
use Rattle.std.proofs.Common.{◌≡◌, ◌≢◌, ℕ, refl, sym, subst, ap, ◌∙◌, inl, inr, Bool, cond, true, false, List, [], ◌∷◌, ◌++◌, ◌==◌, map, None}
use Rattle.std.proofs.lemmas.Bool.{eqb-true, eq-eqb}
use Rattle.world_model.specs.Types.{Name, Pass, Lane, Marker, Collector, Act, Entry}
use Rattle.world_model.specs.Types.act
use Rattle.world_model.specs.Types.begin
use Rattle.world_model.specs.Sizes.{Sizes}
use Rattle.world_model.specs.NameLists.{set_at}
use Rattle.world_model.specs.World.{World}
use Rattle.world_model.specs.State.{State, Frame, Collecting, beginning}
use Rattle.world_model.specs.Next.{next_world, next_frame, own_collecting, next, run}
use Rattle.world_model.specs.Histories.{LegalFrom, state_of}
use Rattle.world_model.specs.Calls.{by, EntriesOf, BetweenCalls}
use Rattle.world_model.specs.Follows.{CallsEnd}
use Rattle.world_model.proofs.Joins.{run-append, by-append}
use Rattle.world_model.proofs.Solo.{state_after, legal_call, slices_closed}

-- nothing is under way but what this pass does
record Others (p : Pass) (s : State) : Type 0 where
  paid : (lane : ℕ) → p ≢ Lane lane → (s.frames lane).owed ≡ None
  whole : (lane : ℕ) → p ≢ Lane lane → (s.frames lane).broken ≡ []
  steps : p ≢ Collector → s.collector.steps ≡ 0
  agreed : p ≢ Collector → s.collector.agreed ≡ None

-- nothing is under way but slices
record Rests (s : State) : Type 0 where
  paid : (lane : ℕ) → (s.frames lane).owed ≡ None
  whole : (lane : ℕ) → (s.frames lane).broken ≡ []
  steps : s.collector.steps ≡ 0
  agreed : s.collector.agreed ≡ None

-- what holds of the new frame of a lane and of the frames of the others
frame_at : (P : Frame → Type 0) (frames : ℕ → Frame) (lane k : ℕ) (f : Frame) → (lane ≡ k → P f) → (Lane lane ≢ Lane k → P (frames k)) → P (set_at frames lane f k)
frame_at P frames lane k f own other = go (k == lane) refl
  where
    go : (b : Bool) → (k == lane) ≡ b → P (cond b f (frames k))
    go true e = own (sym (eqb-true k lane e))
    go false e = other (λ same. let is : lane ≡ k = cc in let equal : (k == lane) ≡ true = eq-eqb k lane (sym is) in cc)

others_next : (p : Pass) (s : State) (a : Act) → Others p s → Others p (next s (record { pass = p; act = a }))
others_next (Lane lane) s a h = record {
  paid = λ k ne. frame_at (λ (f : Frame). f.owed ≡ None) s.frames lane k _ (λ same. absurd (ne (ap (λ (j : ℕ). Lane j) same))) (h.paid k);
  whole = λ k ne. frame_at (λ (f : Frame). f.broken ≡ []) s.frames lane k _ (λ same. absurd (ne (ap (λ (j : ℕ). Lane j) same))) (h.whole k);
  steps = h.steps;
  agreed = h.agreed;
}
others_next (Marker marker) s a h = record { paid = h.paid; whole = h.whole; steps = h.steps; agreed = h.agreed }
others_next Collector s a h = record { paid = h.paid; whole = h.whole; steps = λ ne. absurd (ne refl); agreed = λ ne. absurd (ne refl) }

others_run : (p : Pass) (s : State) (acts : List Act) → Others p s → Others p (run s (by p acts))
others_run p s [] h = h
others_run p s (a ∷ acts) h = others_run p (next s (record { pass = p; act = a })) acts (others_next p s a h)

-- an act by which a call can close
abbrev closes : Act → Bool
closes (act.Kept of) = false
closes (act.Loose of) = false
closes (act.Begun of) = false
closes (act.Asked of poll answer) = false
closes (act.Finished of) = false
closes (act.Released of) = false
closes _ = true

closes_frame : (lane : ℕ) (before w : World) (f : Frame) (a : Act) → closes a ≡ true → ((next_frame lane before w f a).owed ≡ None) × ((next_frame lane before w f a).broken ≡ [])
closes_frame lane before w f (act.Kept of) is = absurd cc
closes_frame lane before w f (act.Loose of) is = absurd cc
closes_frame lane before w f act.FrameClose is = (refl, refl)
closes_frame lane before w f (act.FrameOpen phase) is = (refl, refl)
closes_frame lane before w f _ is = (refl, refl)

closes_steps : (c : Collecting) (a : Act) → closes a ≡ true → ((own_collecting c a).steps ≡ 0) × ((own_collecting c a).agreed ≡ None)
closes_steps c (act.Kept of) is = absurd cc
closes_steps c (act.Begun of) is = absurd cc
closes_steps c (act.Asked of poll answer) is = absurd cc
closes_steps c (act.Finished of) is = absurd cc
closes_steps c (act.Released of) is = absurd cc
closes_steps c (act.BeginGc begin.Started) is = (refl, refl)
closes_steps c _ is = (refl, refl)

closes_all : (p : Pass) (s : State) (a : Act) → closes a ≡ true → Others p s → Rests (next s (record { pass = p; act = a }))
closes_all (Lane lane) s a is h =
    let own = closes_frame lane s.world (next_world s.marks s.world (Lane lane) a) (s.frames lane) a is in
    record {
      paid = λ k. frame_at (λ (f : Frame). f.owed ≡ None) s.frames lane k _ (λ same. own.0) (h.paid k);
      whole = λ k. frame_at (λ (f : Frame). f.broken ≡ []) s.frames lane k _ (λ same. own.1) (h.whole k);
      steps = h.steps (λ e. cc);
      agreed = h.agreed (λ e. cc);
    }
closes_all (Marker marker) s a is h = record { paid = λ k. h.paid k (λ e. cc); whole = λ k. h.whole k (λ e. cc); steps = h.steps (λ e. cc); agreed = h.agreed (λ e. cc) }
closes_all Collector s a is h =
    let own = closes_steps s.collector a is in
    record { paid = λ k. h.paid k (λ e. cc); whole = λ k. h.whole k (λ e. cc); steps = own.0; agreed = own.1 }

-- the notes of a start leave nothing under way
notes_rest : (s : State) (of : List Name) → Rests s → Rests (run s (by Collector (map act.Kept of)))
notes_rest s [] h = h
notes_rest s (n ∷ of) h = notes_rest (next s (record { pass = Collector; act = act.Kept n })) of record { paid = h.paid; whole = h.whole; steps = refl; agreed = refl }

-- the entries of a call that ends with the act that closes it
abbrev Ends : Act → List Act → Type 0
Ends a acts = (front : List Act) × (acts ≡ front ++ a ∷ []) × (closes a ≡ true)

ends_rest : (p : Pass) (s : State) (a : Act) (acts : List Act) → Ends a acts → Others p s → Rests (run s (by p acts))
ends_rest p s a acts h others =
    let last : Entry = record { pass = p; act = a } in
    let entries : by p acts ≡ by p h.0 ++ last ∷ [] = ap (by p) h.1 ∙ by-append p h.0 (a ∷ []) in
    subst (λ (es : List Entry). Rests (run s es)) (sym entries)
    (subst Rests (sym (run-append s (by p h.0) (last ∷ []))) (closes_all p (run s (by p h.0)) a h.2 (others_run p s h.0 others)))

-- a call leaves nothing under way
call_rests : (z : Sizes) (p : Pass) (s : State) (a : Act) (acts : List Act) → EntriesOf a acts → LegalFrom z s (by p acts) → Others p s → Rests (run s (by p acts))
call_rests z p s (act.WriteRef at slot to old) acts (inl e) legal h = ends_rest p s _ acts ([], e, refl) h
call_rests z p s (act.WriteRef at slot to old) acts (inr e) legal h = ends_rest p s _ acts (act.Kept e.0 ∷ [], e.1, refl) h
call_rests z p s (act.Root at on old) acts (inl e) legal h = ends_rest p s _ acts ([], e, refl) h
call_rests z p s (act.Root at on old) acts (inr e) legal h = ends_rest p s _ acts (act.Kept e.0 ∷ [], e.1, refl) h
call_rests z p s (act.SetStrong number to old) acts (inl e) legal h = ends_rest p s _ acts ([], e, refl) h
call_rests z p s (act.SetStrong number to old) acts (inr e) legal h = ends_rest p s _ acts (act.Kept e.0 ∷ [], e.1, refl) h
call_rests z Collector s (act.BeginGc begin.Started) acts e legal h =
    subst (λ (xs : List Act). Rests (run s (by Collector xs))) (sym e.are)
    (notes_rest (next s (record { pass = Collector; act = act.BeginGc begin.Started })) e.of
    (closes_all Collector s (act.BeginGc begin.Started) refl h))
call_rests z (Lane lane) s (act.BeginGc begin.Started) acts e legal h = absurd (subst (LegalFrom z s) (ap (by (Lane lane)) e.are) legal).0.may
call_rests z (Marker marker) s (act.BeginGc begin.Started) acts e legal h = absurd (subst (LegalFrom z s) (ap (by (Marker marker)) e.are) legal).0.may
call_rests z p s (act.Slice budget reply) acts e legal h = ends_rest p s _ acts (act.SliceOpen ∷ e.notes, e.are, refl) h
call_rests z p s (act.PurgeGc budget reply) acts e legal h = ends_rest p s _ acts (e.parts, e.are, refl) h
call_rests z p s (act.Dissolve at count) acts e legal h = ends_rest p s _ acts (map act.Loose e.of, e.are, refl) h
call_rests z p s act.SliceOpen acts e legal h = absurd e
call_rests z p s (act.Kept of) acts e legal h = absurd e
call_rests z p s (act.Scanned of) acts e legal h = absurd e
call_rests z p s (act.Begun of) acts e legal h = absurd e
call_rests z p s (act.Asked of poll answer) acts e legal h = absurd e
call_rests z p s (act.Finished of) acts e legal h = absurd e
call_rests z p s (act.Released of) acts e legal h = absurd e
call_rests z p s (act.Loose of) acts e legal h = absurd e
call_rests z p s a acts e legal h = ends_rest p s a acts ([], e, refl) h

-- before any entry nothing is under way
pub beginning_between : BetweenCalls beginning
beginning_between = record { paid = λ lane. refl; whole = λ lane. refl; closed = refl; steps = refl; agreed = refl }

-- where nothing was under way before a call, nothing is after it
pub calls_end_holds : CallsEnd
calls_end_holds z old new p a h was =
    let others : Others p (state_of old) = record { paid = λ lane ne. was.paid lane; whole = λ lane ne. was.whole lane; steps = λ ne. was.steps; agreed = λ ne. was.agreed } in
    let rests : Rests (state_of new) = subst Rests (sym (state_after z old new p a h)) (call_rests z p (state_of old) a h.acts h.call.0 (legal_call z old new p a h) others) in
    record { paid = rests.paid; whole = rests.whole; closed = slices_closed z old new p a h was.closed; steps = rests.steps; agreed = rests.agreed }
