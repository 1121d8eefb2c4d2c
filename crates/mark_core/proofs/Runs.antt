-- A run goes on by one event.
use Rattle.std.proofs.Common.{◌≡◌, ℕ, ◌<◌, ◌+◌, refl, sym, subst, ap, ◌∙◌, List, [], ◌∷◌, ◌++◌, length, take}
use Rattle.std.proofs.Math.ListN.{get_or}
use Rattle.std.proofs.Math.Seq.{take-length}
use Rattle.std.proofs.lemmas.List.{take_more, map-append}
use Rattle.mark_core.specs.declared.types.Event.{Event}
use Rattle.mark_core.specs.declared.types.Shape.{Shape}
use Rattle.mark_core.specs.Machine.{Actor, Sizes, Core}
use Rattle.mark_core.specs.Lawful.{Lawful}
use Rattle.mark_core.specs.Numbered.{actor_of, step_of, steps_of}
use Rattle.mark_core.specs.Runs.{Allows, IsDone, AreDone, no_event}
use Rattle.mark_core.specs.Shown.{Shown, state, sizes}
use Rattle.mark_core.specs.Steps.{Step, Allowed, AllAllowed, after_step, run}
use Rattle.mark_core.proofs.Steps.{step_lawful}

pub run-snoc : (z : Sizes) (c : Core) (es : List (Actor × Step)) (e : Actor × Step) → run z c (es ++ e ∷ []) ≡ after_step z (run z c es) e.0 e.1
run-snoc z c [] e = refl
run-snoc z c (x ∷ es) e = run-snoc z (after_step z c x.0 x.1) es e

pub allowed-snoc : (z : Sizes) (c : Core) (es : List (Actor × Step)) (e : Actor × Step) → AllAllowed z c es → Allowed z (run z c es) e.0 e.1 → AllAllowed z c (es ++ e ∷ [])
allowed-snoc z c [] e all may = (may, tt)
allowed-snoc z c (x ∷ es) e all may = (all.0, allowed-snoc z (after_step z c x.0 x.1) es e all.1 may)

pub none_done : (s : Shown) → AreDone s [] s
none_done s = record { allowed = tt; state = refl; shape = refl }

-- one more event
done-snoc : (old now next : Shown) (es : List (ℕ × Event)) (e : ℕ × Event) → AreDone old es now → Allows now e.0 e.1 → IsDone now e.0 e.1 next → AreDone old (es ++ e ∷ []) next
done-snoc old now next es e h may done =
    let z = old.shape in
    let one : Actor × Step = (actor_of z e.0, step_of z e.1) in
    let split : steps_of z (es ++ e ∷ []) ≡ steps_of z es ++ (actor_of z e.0, step_of z e.1) ∷ [] = map-append (λ (x : ℕ × Event). (actor_of z x.0, step_of z x.1)) es (e ∷ []) in
    let may_shape : Allowed (sizes z) (state now) (actor_of z e.0) (step_of z e.1) = subst (λ (x : Shape). Allowed (sizes x) (state now) (actor_of x e.0) (step_of x e.1)) h.shape may in
    let may_run : Allowed (sizes z) (run (sizes z) (state old) (steps_of z es)) (actor_of z e.0) (step_of z e.1) =
    subst (λ (c : Core). Allowed (sizes z) c (actor_of z e.0) (step_of z e.1)) h.state may_shape in
    let step =
    done.state
    ∙ (ap (λ (x : Shape). after_step (sizes x) (state now) (actor_of x e.0) (step_of x e.1)) h.shape
    ∙ ap (λ (c : Core). after_step (sizes z) c (actor_of z e.0) (step_of z e.1)) h.state) in
    record {
      allowed = subst (AllAllowed (sizes z) (state old)) (sym split) (allowed-snoc (sizes z) (state old) (steps_of z es) (actor_of z e.0, step_of z e.1) h.allowed may_run);
      state = step ∙ (sym (run-snoc (sizes z) (state old) (steps_of z es) (actor_of z e.0, step_of z e.1)) ∙ ap (run (sizes z) (state old)) (sym split));
      shape = done.shape ∙ h.shape;
    }

pub ran_on : (old now next : Shown) (events : List (ℕ × Event)) (k : ℕ) → k < length events → AreDone old (take k events) now → Allows now (get_or events k no_event).0 (get_or events k no_event).1
    → IsDone now (get_or events k no_event).0 (get_or events k no_event).1 next → AreDone old (take (k + 1) events) next
ran_on old now next events k lt h may done =
    subst (λ (es : List (ℕ × Event)). AreDone old es next) (sym (take_more events k no_event lt))
    (done-snoc old now next (take k events) (get_or events k no_event) h may done)

pub all_done : (old now : Shown) (events : List (ℕ × Event)) (k : ℕ) → k ≡ length events → AreDone old (take k events) now → AreDone old events now
all_done old now events k end h = subst (λ (es : List (ℕ × Event)). AreDone old es now) (ap (λ (n : ℕ). take n events) end ∙ take-length events) h

-- the same sizes and the same state
pub lawful_same : (z y : Shape) (c d : Core) → y ≡ z → d ≡ c → Lawful (sizes z) c → Lawful (sizes y) d
lawful_same z y c d e f h = subst (λ (x : Shape). Lawful (sizes x) d) (sym e) (subst (λ (x : Core). Lawful (sizes z) x) (sym f) h)

-- the event of this actor keeps the machine lawful
pub lawful_step : (s next : Shown) (number : ℕ) (actor : Actor) (e : Event) → actor ≡ actor_of s.shape number → Allows s number e → Lawful (sizes s.shape) (state s) → next.shape ≡ s.shape
    → state next ≡ after_step (sizes s.shape) (state s) actor (step_of s.shape e) → Lawful (sizes next.shape) (state next)
lawful_step s next number actor e is may h same at =
    lawful_same s.shape next.shape (after_step (sizes s.shape) (state s) actor (step_of s.shape e)) (state next) same at
    (step_lawful (sizes s.shape) (state s) actor (step_of s.shape e) (subst (λ (a : Actor). Allowed (sizes s.shape) (state s) a (step_of s.shape e)) (sym is) may) h)
