-- What the calls of a `Core` say.
use Rattle.std.specs.Prelude.{◌≡◌, ℕ, ◌<◌, List, length, take, Result, Ok, Err}
use lib.ListN.{get_or}
use Rattle.mark_core.specs.declared.types.Event.{Event}
use Rattle.mark_core.specs.declared.types.Event.TheVariants as event
use Rattle.mark_core.specs.Lawful.{Lawful}
use Rattle.mark_core.specs.Steps.{Allowed, AllAllowed, after_step, run}
use Rattle.mark_core.specs.Numbered.{actor_of, step_of, steps_of}
use Rattle.mark_core.specs.Shown.{Shown, sizes, state}

-- this actor may do this event now
abbrev pub Allows : Shown → ℕ → Event → Type 0
Allows s actor e = Allowed (sizes s.shape) (state s) (actor_of s.shape actor) (step_of s.shape e)

-- the event was done
pub record IsDone (old : Shown) (actor : ℕ) (e : Event) (new : Shown) : Type 0 where
  pub state : state new ≡ after_step (sizes old.shape) (state old) (actor_of old.shape actor) (step_of old.shape e)
  pub shape : new.shape ≡ old.shape

-- these events were allowed, each after those before it, and were done
pub record AreDone (old : Shown) (events : List (ℕ × Event)) (new : Shown) : Type 0 where
  pub allowed : AllAllowed (sizes old.shape) (state old) (steps_of old.shape events)
  pub state : state new ≡ run (sizes old.shape) (state old) (steps_of old.shape events)
  pub shape : new.shape ≡ old.shape

-- what is read behind the end of a list of events
abbrev pub no_event : ℕ × Event
no_event = (0, event.FrameOpen)

-- all events were done, or those before the first that was not allowed
abbrev pub Ran : {A : Type 0} → Shown → List (ℕ × Event) → Result A ℕ → Shown → Type 0
Ran old events (Ok done) new = AreDone old events new
Ran old events (Err k) new = (k < length events) × AreDone old (take k events) new × (Allows new (get_or events k no_event).0 (get_or events k no_event).1 → ⊥)

-- the machine is lawful
abbrev pub IsLawful : Shown → Type 0
IsLawful s = Lawful (sizes s.shape) (state s)
