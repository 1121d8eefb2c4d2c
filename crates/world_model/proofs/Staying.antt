-- What stays while no collection starts or commits: marks, units, and the parity.
use Rattle.std.proofs.Common.{append-nil, eqb, ◌≢◌, ◌≡◌, ℕ, ◌+◌, refl, sym, ap, ◌∙◌, subst, cond, Bool, true, false, not, List, [], ◌∷◌, ◌++◌, arith, Some}
use Rattle.std.specs.List.{count_by, AllByRecursion}
use Rattle.std.proofs.lemmas.Bool.{eq-eqb}
use Rattle.std.proofs.lemmas.List.Folds.{list_any-append}
use Rattle.world_model.specs.Types.{Name, Marking, Pass, Lane, Marker, Collector, Act, Entry}
use Rattle.world_model.specs.Types.act
use Rattle.world_model.specs.Types.begin
use Rattle.world_model.specs.Sizes.{Sizes}
use Rattle.world_model.specs.NameLists.{has, members, names_from}
use Rattle.world_model.specs.World.{World, is_open}
use Rattle.world_model.specs.State.{State, Marks, is_marked}
use Rattle.world_model.specs.Next.{next, next_by, next_world, next_marks, next_frame, lane_of}
use Rattle.world_model.specs.Histories.{MayBy, Legal, state_of, after}
use Rattle.world_model.specs.Follows.{is_start, is_done, loosens, NoneStarts, NoneDone, NoneLoosens, Closes}
use Rattle.world_model.specs.Stays.{MarkedStays, MarkingLasts, OwedInMarking, turned_by, parity_from, parity_of, ParityTurns, ParityStays}
use Rattle.world_model.proofs.ListFacts.{or_right}
use Rattle.world_model.proofs.Inductions.{by_states, by_more, by_more_states, one_more_of}
use Rattle.world_model.proofs.Counts.{count-cons}
use Rattle.world_model.proofs.Barrier.{marked_more, set_at_other}
use Rattle.world_model.proofs.Frames.{open_next, open_keeps_holds, no_commit}
use Rattle.world_model.proofs.Removals.{still_marking}

-- ---- marks

has_more : (xs ys : List Name) (n : Name) → has ys n ≡ true → has (xs ++ ys) n ≡ true
has_more xs ys n h = list_any-append _ xs ys ∙ or_right _ _ h

-- no entry but the start of a collection takes marks away
marks_next : (m : Marks) (w : World) (p : Pass) (a : Act) (u : List Name) → is_start a ≡ false → is_marked m u ≡ true → is_marked (next_marks m w p a) u ≡ true
marks_next m w p (act.BeginGc begin.Started) u off h = absurd cc
marks_next m w p (act.Kept of) u off h = marked_more m.kept (of ∷ m.kept) m.fresh m.fresh u (λ n is. has_more (of ∷ []) m.kept n is) (λ n is. is) h
marks_next m w p (act.Make kinds first) u off h =
    let new = names_from (lane_of p) first kinds in
    marked_more m.kept m.kept m.fresh (new ++ m.fresh) u (λ n is. is) (λ n is. has_more new m.fresh n is) h
marks_next m w p (act.Loose of) u off h = marked_more m.kept m.kept m.fresh (members w.units ++ m.fresh) u (λ n is. is) (λ n is. has_more (members w.units) m.fresh n is) h
marks_next m w p _ u off h = h

pub marked_stays_holds : MarkedStays
marked_stays_holds z before during legal none u h =
    by_more_states z before (λ s. is_marked s.marks u ≡ true) (λ e. is_start e.act ≡ false) h
    (λ xs e legal may off was. marks_next (state_of xs).marks (next (state_of xs) e).world e.pass e.act u off was) during legal none

-- ---- a collection that marks

whole_next : (z : Sizes) (s : State) (p : Pass) (a : Act) (u : List Name) → MayBy z s p a → s.world.phase ≡ Marking → loosens a u ≡ false
whole_next z s (Lane lane) (act.Loose of) u may is = absurd (may.may.unmarked is)
whole_next z s (Marker marker) (act.Loose of) u may is = absurd may.may
whole_next z s Collector (act.Loose of) u may is = absurd may.may
whole_next z s p _ u may is = refl

all_end : {A : Type 0} (P : A → Type 0) (xs : List A) (x : A) → AllByRecursion P xs → P x → AllByRecursion P (xs ++ x ∷ [])
all_end P [] x all last = (last, tt)
all_end P (y ∷ xs) x all last = (all.0, all_end P xs x all.1 last)

pub marking_lasts_holds : MarkingLasts
marking_lasts_holds z before during legal marking none = record {
  phase = (all_of during legal none).0;
  whole = λ u. (all_of during legal none).1 u;
}
  where
    Kept : List Entry → Type 0
    Kept ds = ((after (before ++ ds)).phase ≡ Marking) × ((u : List Name) → NoneLoosens u ds)

    all_of : (ds : List Entry) → Legal z (before ++ ds) → NoneDone ds → Kept ds
    all_of = by_more z before Kept (λ e. is_done e.act ≡ false) (subst (λ (xs : List Entry). (after xs).phase ≡ Marking) (sym (append-nil before)) marking, λ u. tt)
        (λ ds e legal may other h. (
          ap (λ (s : State). s.world.phase) (one_more_of before ds e) ∙ still_marking z (state_of (before ++ ds)) e.pass e.act may h.0 other,
          λ u. all_end (λ e. loosens e.act u ≡ false) ds e (h.1 u) (whole_next z (state_of (before ++ ds)) e.pass e.act u may h.0),
        ))

-- ---- what is owed

abbrev OwedMarks : State → Type 0
OwedMarks s = (l : ℕ) (n : Name) → (s.frames l).owed ≡ Some n → (is_open s.world (Lane l) ≡ true) × (s.world.phase ≡ Marking)

still_owed : (z : Sizes) (s : State) (p : Pass) (a : Act) (l : ℕ) → MayBy z s p a → (Closes (Lane l) (record { pass = p; act = a }) → ⊥)
    → (is_open s.world (Lane l) ≡ true) × (s.world.phase ≡ Marking)
    → (is_open (next_world s.marks s.world p a) (Lane l) ≡ true) × ((next_world s.marks s.world p a).phase ≡ Marking)
still_owed z s p a l may open_still h = (open_next s p a (Lane l) open_still h.0, still_marking z s p a may h.1 (no_commit z s p a (Lane l) may h.0))

own_owed : (z : Sizes) (s : State) (lane : ℕ) (w : World) (a : Act) (n : Name) → MayBy z s (Lane lane) a → (next_frame lane s.world w (s.frames lane) a).owed ≡ Some n
    → (is_open (next_world s.marks s.world (Lane lane) a) (Lane lane) ≡ true) × ((next_world s.marks s.world (Lane lane) a).phase ≡ Marking)
own_owed z s lane w (act.FrameOpen phase) n may owed = absurd cc
own_owed z s lane w act.FrameClose n may owed = absurd cc
own_owed z s lane w (act.Kept of) n may owed = (may.frame.opened, may.may.white.marking)
own_owed z s lane w (act.Loose of) n may owed = absurd (rw owed at may.frame.continues)
own_owed z s lane w _ n may owed = absurd cc

owed_next : (z : Sizes) (s : State) (p : Pass) (a : Act) → MayBy z s p a → OwedMarks s → OwedMarks (next_by s (next_world s.marks s.world p a) p a)
owed_next z s (Lane lane) a may h =
    let w : World = next_world s.marks s.world (Lane lane) a in
    set_at_other s.frames lane (next_frame lane s.world w (s.frames lane) a) (λ l f. (n : Name) → f.owed ≡ Some n → (is_open w (Lane l) ≡ true) × (w.phase ≡ Marking))
    (λ n owed. own_owed z s lane w a n may owed)
    (λ l other n owed. still_owed z s (Lane lane) a l may (λ c. other_lane lane l other c.0) (h l n owed))
  where
    other_lane : (j l : ℕ) → eqb l j ≡ false → Lane j ≡ Lane l → ⊥
    other_lane j l off same = let wrong : false ≡ true = sym off ∙ eq-eqb l j (sym (ap lane_of same)) in cc
owed_next z s (Marker m) a may h = λ l n owed. still_owed z s (Marker m) a l may (λ c. let wrong = c.0 in cc) (h l n owed)
owed_next z s Collector a may h = λ l n owed. still_owed z s Collector a l may (λ c. let wrong = c.0 in cc) (h l n owed)

pub owed_in_marking_holds : OwedInMarking
owed_in_marking_holds z history legal = by_states z OwedMarks (λ l n owed. absurd cc) (λ xs e legal may h. owed_next z (state_of xs) e.pass e.act may h) history legal

-- ---- the parity

parity_append : (b : Bool) (xs ys : List Entry) → parity_from b (xs ++ ys) ≡ parity_from (parity_from b xs) ys
parity_append b [] ys = refl
parity_append b (x ∷ xs) ys = parity_append (turned_by b x.act) xs ys

pub parity_turns_holds : ParityTurns
parity_turns_holds history e = parity_append false history (e ∷ [])

parity_unstarted : (b : Bool) (es : List Entry) → NoneStarts es → parity_from b es ≡ b
parity_unstarted b [] none = refl
parity_unstarted b (e ∷ es) none = ap (λ (x : Bool). parity_from (cond x (not b) b) es) none.0 ∙ parity_unstarted b es none.1

unstarted : (before during : List Entry) → NoneStarts during → parity_of (before ++ during) ≡ parity_of before
unstarted before during none = parity_append false before during ∙ parity_unstarted (parity_of before) during none

-- where none is counted there is none
pub none_counted : {A : Type 0} (p : A → Bool) (xs : List A) → count_by p xs ≡ 0 → AllByRecursion (λ x. p x ≡ false) xs
none_counted p [] h = tt
none_counted p (x ∷ xs) h = go (p x) refl (count-cons p x xs) (none_counted p xs)
  where
    go : (b : Bool) → p x ≡ b → count_by p (x ∷ xs) ≡ cond (p x) 1 0 + count_by p xs → (count_by p xs ≡ 0 → AllByRecursion (λ x. p x ≡ false) xs)
        → (p x ≡ false) × AllByRecursion (λ x. p x ≡ false) xs
    go true e step rest = let one : cond {A = ℕ} (p x) 1 0 ≡ 1 = rw e refl in absurd (omega (arith, h, step, one))
    go false e step rest = (e, rest (omega (arith, h, step)))

-- the collector alone starts collections
starts_alone : (z : Sizes) (s : State) (p : Pass) (a : Act) → (p ≡ Collector → ⊥) → MayBy z s p a → is_start a ≡ false
starts_alone z s Collector a other may = absurd (other refl)
starts_alone z s (Lane l) (act.BeginGc reply) other may = absurd may.may
starts_alone z s (Marker m) (act.BeginGc reply) other may = absurd may.may
starts_alone z s p _ other may = refl

none_start : (z : Sizes) (before during : List Entry) → Legal z (before ++ during) → AllByRecursion (λ e. e.pass ≢ Collector) during → NoneStarts during
none_start z before = by_more z before NoneStarts (λ e. e.pass ≢ Collector) tt
    (λ ds e legal may other h. all_end (λ e. is_start e.act ≡ false) ds e h (starts_alone z (state_of (before ++ ds)) e.pass e.act other may))

pub parity_stays_holds : ParityStays
parity_stays_holds z before during legal = record {
  unstarted = unstarted before during;
  others = λ all. unstarted before during (none_start z before during legal all);
  opened = λ p is all. unstarted before during (none_counted (λ e. is_start e.act) during (open_keeps_holds z before during p legal is all).starts);
}
