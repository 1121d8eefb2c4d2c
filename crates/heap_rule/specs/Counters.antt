-- Counters: the words that count for one pass what the history says, but while that pass is behind.
use Rattle.std.specs.Prelude.{◌≡◌, ℕ, ◌<◌, Bool, false, Option, Some, None, option_and_then}
use Rattle.std.specs.List.{find}
use Rattle.world_model.specs.Sizes.{Sizes}
use Rattle.world_model.specs.NameLists.{after_name, members}
use Rattle.world_model.specs.World.{World, destruction_order}
use Rattle.world_model.specs.Follows.{is_removed}
use Rattle.word_layout.specs.Values.{place_number}
use Rattle.heap_rule.specs.Types.{Name, Phase, Gathering, Pass, Lane, Collector, Part}
use Rattle.heap_rule.specs.Types.part

-- the pass whose counter it is; the mark of the first word of the removed chain stands for the whole chain
abbrev pub counter_pass : Part → Option Pass
counter_pass (part.NamesMade l) = Some (Lane l)
counter_pass (part.SerialsMade l) = Some (Lane l)
counter_pass part.Cursor = Some Collector
counter_pass part.Removed = Some Collector
counter_pass part.Left = Some Collector
counter_pass part.Polling = Some Collector
counter_pass _ = None

-- where the polls go on: at the first object behind the one asked last, in the order of destruction, that is not released
abbrev pub polls_next : World → Option Name → Option Name
polls_next w asked = option_and_then (λ last. find (is_removed w) (after_name last (members (destruction_order w)))) asked

-- the one while a collection gathers, and else the other
abbrev pub while_gathering : {A : Type 0} → Phase → A → A → A
while_gathering Gathering a b = a
while_gathering _ a b = b

-- of each lane the names that it has made and the serials that it has drawn; the items that sweeps have looked at, the number of removed objects that are left, and the place of the polls
pub record CountersShown (z : Sizes) (names serials : ℕ → ℕ) (cursor left polling : ℕ) (late : Part → Bool) (made drawn : ℕ → ℕ) (swept left_now : ℕ) (polls : Option ℕ) : Type 0 where
  pub names_are : (l : ℕ) → l < z.lanes → late (part.NamesMade l) ≡ false → names l ≡ made l
  pub serials_are : (l : ℕ) → l < z.lanes → late (part.SerialsMade l) ≡ false → serials l ≡ drawn l
  pub cursor_is : late part.Cursor ≡ false → cursor ≡ swept
  pub left_is : late part.Left ≡ false → left ≡ left_now
  pub polling_is : late part.Polling ≡ false → polling ≡ place_number polls
