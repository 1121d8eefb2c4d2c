-- What a run has done, it has done with the last write behind it.
use Rattle.std.proofs.Common.{◌≡◌, ℕ, inl, inr, List, [], ◌++◌, refl, sym, ap, ◌∙◌, subst, append-nil, Option, Some, None, IfSome, ◌↔◌}
use Rattle.std.specs.Io.KnownBytes.{Keeps, append_known}
use Rattle.play_io.specs.Faults.{Rose}
use Rattle.world_play.specs.Streams.{Gains, Gained}
use Rattle.world_play.specs.Ends.{NamesFault, SaysTaken, SaysRead, SaysWrite, NamesExactly, HasRun, OnDone, OnStopped, OnNone, EndsWell, EndsEarly, WritesOutcome, Completes}
use Rattle.world_play.specs.declared.words.Words.{Words}
use Rattle.world_play.specs.declared.words.ShapeName.{ShapeName}
use Rattle.world_play.specs.declared.status.Status.{Status}
use Rattle.world_play.specs.declared.status.Status.TheVariants as status
use Rattle.world_play.specs.declared.run.Run.{Run}
use Rattle.worldrun.specs.Program.{Finishes, Breaks}

-- ---- bytes that are kept

pub gained_kept : (a b c : Option (List ℕ)) (bytes : List ℕ) → Keeps b c → Gained a b bytes → Gained a c bytes
gained_kept None b c bytes kept gained = tt
gained_kept (Some xs) None c bytes kept gained = absurd cc
gained_kept (Some xs) (Some ys) None bytes kept gained = absurd kept
gained_kept (Some xs) (Some ys) (Some zs) bytes kept gained = ap (λ (l : List ℕ). Some l) kept ∙ gained

pub gains_kept : (a b c : Option (List ℕ)) (P : List ℕ → Type 0) → Keeps b c → Gains a b P → Gains a c P
gains_kept None b c P kept gains = tt
gains_kept (Some xs) None c P kept (ys, is, holds) = absurd cc
gains_kept (Some xs) (Some zs) None P kept gains = absurd kept
gains_kept (Some xs) (Some zs) (Some vs) P kept (ys, is, holds) = (ys, ap (λ (l : List ℕ). Some l) kept ∙ is, holds)

-- with nothing held back, the writer beneath holds all
pub beneath : (a : Option (List ℕ)) (bs : List ℕ) → bs ≡ [] → append_known a bs ≡ a
beneath None bs empty = refl
beneath (Some xs) bs empty = ap (λ (l : List ℕ). Some l) (ap (λ (l : List ℕ). xs ++ l) empty ∙ append-nil xs)

well_kept : (w : Words) (left now had mid has : Option (List ℕ)) (engine : Run) → Keeps mid has → EndsWell w left now had mid engine → EndsWell w left now had has engine
well_kept w left now had mid has engine kept well = record {
  script = well.script;
  read = well.read;
  all = well.all;
  played = record {
    pieces = well.played.pieces;
    replies = well.played.replies;
    last = well.played.last;
    legal = well.played.legal;
    cut = well.played.cut;
    plays = well.played.plays;
    put = gained_kept had mid has _ kept well.played.put;
  };
}

pub headline_kept : (w : Words) (left now had mid has : Option (List ℕ)) (r : Option Run) → Keeps mid has → IfSome r (EndsWell w left now had mid) → IfSome r (EndsWell w left now had has)
headline_kept w left now had mid has None kept headline = tt
headline_kept w left now had mid has (Some engine) kept headline = well_kept w left now had mid has engine kept headline

pub early_kept : (w : Words) (left had mid has : Option (List ℕ)) (count : ℕ) (engine : Run) → Keeps mid has → EndsEarly w left had mid count engine → EndsEarly w left had has count engine
early_kept w left had mid has count engine kept early =
    let stopped = early.stopped in
    record {
      script = early.script;
      read = early.read;
      stopped = record {
        whole = stopped.whole;
        rest = stopped.rest;
        pieces = stopped.pieces;
        replies = stopped.replies;
        part = stopped.part;
        names = stopped.names;
        some = stopped.some;
        legal = stopped.legal;
        are = stopped.are;
        cut = stopped.cut;
        plays = stopped.plays;
        stops = stopped.stops;
        put = gained_kept had mid has _ kept stopped.put;
        number = stopped.number;
      };
    }

pub outcome_kept : (name : ShapeName) (left had mid has : Option (List ℕ)) → Keeps mid has → WritesOutcome name left had mid → WritesOutcome name left had has
outcome_kept name left had mid has kept outcome = record { script = outcome.script; read = outcome.read; gained = gained_kept had mid has _ kept outcome.gained }

-- ---- the status

-- what holds of the status before the last write holds behind it, if it holds of a write fault where it holds of Ok
pub ends_so : (P : Status → Type 0) (ended how : Status) (before now : ℕ) → Finishes ended how before now → (P status.Ok → P status.WriteFault) → P ended → P how
ends_so P ended how before now (inl same) broken holds = subst P (sym same.0) holds
ends_so P ended how before now (inr failed) broken holds = subst P (sym failed.1) (broken (subst P failed.0 holds))

pub names_broken : (name : ShapeName) (left : Option (List ℕ)) → NamesFault name left status.Ok → NamesFault name left status.WriteFault
names_broken name left names = record { has = λ fault e. absurd cc; exactly = exactly left names.exactly }
  where
    exactly : (left : Option (List ℕ)) → IfSome left (NamesExactly name status.Ok) → IfSome left (NamesExactly name status.WriteFault)
    exactly None names = tt
    exactly (Some input) names = λ bytes fault is. (
      λ e. absurd cc,
      λ has. absurd (let e : status.Ok ≡ status.Script fault = (names bytes fault is).1 ((λ e. cc, λ e. cc), has.1) in cc),
    )

pub names_ended : (name : ShapeName) (left : Option (List ℕ)) (ended how : Status) (before now : ℕ) → Finishes ended how before now → NamesFault name left ended → NamesFault name left how
names_ended name left ended how before now ends = ends_so (NamesFault name left) ended how before now ends (names_broken name left)

pub taken_broken : (left now : Option (List ℕ)) (r : Option Run) → SaysTaken left now status.Ok r → SaysTaken left now status.WriteFault r
taken_broken left now None taken = taken
taken_broken left now (Some engine) taken = taken

pub write_ended : (old mid new : ℕ) (ended how : Status) → Finishes ended how mid new → SaysWrite old mid ended → SaysWrite old new how
write_ended old mid new ended how (inl same) says =
    subst (λ (s : Status). SaysWrite old new s) (sym same.0) (subst (λ (n : ℕ). SaysWrite old n ended) (sym same.1) says)
write_ended old mid new ended how (inr failed) says =
    let unmoved : mid ≡ old = subst (λ (s : Status). SaysWrite old mid s) failed.0 says in
    subst (λ (s : Status). SaysWrite old new s) (sym failed.1) (subst (λ (n : ℕ). Rose n new) unmoved failed.2)

pub complete_ended : (name : ShapeName) (left : Option (List ℕ)) (read_before read_now old mid new : ℕ) (ended how : Status) → Finishes ended how mid new → SaysWrite old mid ended
    → Completes name left read_before read_now old mid ended → Completes name left read_before read_now old new how
complete_ended name left read_before read_now old mid new ended how (inl same) says completes =
    subst (λ (s : Status). Completes name left read_before read_now old new s) (sym same.0) (subst (λ (n : ℕ). Completes name left read_before read_now old n ended) (sym same.1) completes)
complete_ended name left read_before read_now old mid new ended how (inr failed) says completes =
    let unmoved : mid ≡ old = subst (λ (s : Status). SaysWrite old mid s) failed.0 says in
    λ tells read_quiet put_quiet. absurd (put_quiet (subst (λ (n : ℕ). Rose n new) unmoved failed.2))

pub run_ended : (r : Option Run) (ended how : Status) (before now : ℕ) → Finishes ended how before now → HasRun ended r → HasRun how r
run_ended r ended how before now ends = ends_so (λ (s : Status). HasRun s r) ended how before now ends (λ has. has)

pub read_ended : (old new : ℕ) (ended how : Status) (before now : ℕ) → Finishes ended how before now → SaysRead old new ended → SaysRead old new how
read_ended old new ended how before now ends = ends_so (λ (s : Status). SaysRead old new s) ended how before now ends (λ says. says)

pub taken_ended : (left now : Option (List ℕ)) (r : Option Run) (ended how : Status) (before after : ℕ) → Finishes ended how before after → SaysTaken left now ended r → SaysTaken left now how r
taken_ended left now r ended how before after ends = ends_so (λ (s : Status). SaysTaken left now s r) ended how before after ends (taken_broken left now r)

pub usage_ended : (X : Type 0) (ended how : Status) (before now : ℕ) → Finishes ended how before now → (ended ≡ status.Usage) ↔ X → (how ≡ status.Usage) ↔ X
usage_ended X ended how before now ends = ends_so (λ (s : Status). (s ≡ status.Usage) ↔ X) ended how before now ends (λ exact. (
  λ (e : status.WriteFault ≡ status.Usage). absurd cc,
  λ x. absurd (let e : status.Ok ≡ status.Usage = exact.1 x in cc),
))

pub unread_ended : (X : Type 0) (ended how : Status) (before now : ℕ) → Finishes ended how before now → (ended ≡ status.Usage → X) → how ≡ status.Usage → X
unread_ended X ended how before now ends = ends_so (λ (s : Status). s ≡ status.Usage → X) ended how before now ends (λ unread (e : status.WriteFault ≡ status.Usage). absurd cc)

-- what holds of a run that was well holds of one that ends well
pub done_so : (P Q : Type 0) (ended how : Status) (before now : ℕ) → Finishes ended how before now → (how ≡ status.Ok → P → Q) → OnDone ended P → OnDone how Q
done_so P Q ended status.Ok before now (inl same) next done = next refl (subst (λ (s : Status). OnDone s P) (sym same.0) done)
done_so P Q ended status.Ok before now (inr failed) next done = absurd (let e : status.Ok ≡ status.WriteFault = failed.1 in cc)
done_so P Q ended status.Usage before now ends next done = tt
done_so P Q ended (status.Script fault) before now ends next done = tt
done_so P Q ended status.ReadFault before now ends next done = tt
done_so P Q ended status.WriteFault before now ends next done = tt
done_so P Q ended status.Memory before now ends next done = tt

-- what an engine did where a run ended early
pub stopped_so : (P Q : Run → Type 0) (how : Status) (r : Option Run) → ((engine : Run) → P engine → Q engine) → OnStopped how r P → OnStopped how r Q
stopped_so P Q status.Ok r next stopped = tt
stopped_so P Q status.Usage r next stopped = tt
stopped_so P Q (status.Script fault) r next stopped = tt
stopped_so P Q status.ReadFault r next stopped = tt
stopped_so P Q status.WriteFault None next stopped = tt
stopped_so P Q status.WriteFault (Some engine) next stopped = next engine stopped
stopped_so P Q status.Memory None next stopped = tt
stopped_so P Q status.Memory (Some engine) next stopped = next engine stopped

pub early_ended : (w : Words) (left now had mid has : Option (List ℕ)) (count : ℕ) (r : Option Run) (ended how : Status) (before after : ℕ) → Finishes ended how before after → Keeps mid has
    → OnStopped ended r (EndsEarly w left had mid count) → OnDone ended (IfSome r (EndsWell w left now had mid)) → OnStopped how r (Breaks w left now had has count)
early_ended w left now had mid has count r ended how before after (inl same) kept early headline =
    subst (λ (s : Status). OnStopped s r (Breaks w left now had has count)) (sym same.0)
    (stopped_so (EndsEarly w left had mid count) (Breaks w left now had has count) ended r
    (λ engine e. inl (early_kept w left had mid has count engine kept e)) early)
early_ended w left now had mid has count None ended how before after (inr failed) kept early headline =
    subst (λ (s : Status). OnStopped s None (Breaks w left now had has count)) (sym failed.1) tt
early_ended w left now had mid has count (Some engine) ended how before after (inr failed) kept early headline =
    let well : EndsWell w left now had mid engine = subst (λ (s : Status). OnDone s (EndsWell w left now had mid engine)) failed.0 headline in
    subst (λ (s : Status). OnStopped s (Some engine) (Breaks w left now had has count)) (sym failed.1) (inr (headline_kept w left now had mid has (Some engine) kept well))

pub unplayed_so : {A : Type 0} (r : Option A) (P Q : Type 0) → (P → Q) → OnNone r P → OnNone r Q
unplayed_so None P Q next unplayed = next unplayed
unplayed_so (Some engine) P Q next unplayed = tt

-- what holds where there is a value
pub some_so : {A : Type 0} (o : Option A) (P Q : A → Type 0) → ((x : A) → P x → Q x) → IfSome o P → IfSome o Q
some_so None P Q next holds = tt
some_so (Some x) P Q next holds = next x holds

pub some_both : {A : Type 0} (o : Option A) (P Q R : A → Type 0) → ((x : A) → P x → Q x → R x) → IfSome o P → IfSome o Q → IfSome o R
some_both None P Q R next p q = tt
some_both (Some x) P Q R next p q = next x p q

-- ---- with nothing held back

pub headline_beneath : (w : Words) (left now had mid below : Option (List ℕ)) (bs : List ℕ) (r : Option Run) → Keeps mid (append_known below bs)
    → bs ≡ [] → IfSome r (EndsWell w left now had mid) → IfSome r (EndsWell w left now had below)
headline_beneath w left now had mid below bs r kept empty headline =
    subst (λ (has : Option (List ℕ)). IfSome r (EndsWell w left now had has)) (beneath below bs empty) (headline_kept w left now had mid (append_known below bs) r kept headline)

pub outcome_beneath : (name : ShapeName) (left had mid below : Option (List ℕ)) (bs : List ℕ) → Keeps mid (append_known below bs) → bs ≡ []
    → WritesOutcome name left had mid → WritesOutcome name left had below
outcome_beneath name left had mid below bs kept empty outcome =
    subst (WritesOutcome name left had) (beneath below bs empty) (outcome_kept name left had mid (append_known below bs) kept outcome)
