use Rattle.std.proofs.Common.{◌≡◌, Bool, true, false, not, ◌&&◌, ap, ◌∙◌, length, refl}
use Rattle.std.proofs.Math.ListN.{get_or}
use Rattle.mark_core.specs.Units.{doomed_in, same}
use Rattle.mark_core.proofs.Sets.{none_tells}
use Rattle.mark_core.proofs.colours.Colours.has_no_white.Goals as goal

pub returns-then-self : goal.returns-then-self
returns-then-self c =
    let i = c.self.inside in
    rw (← c.self.view_is)
    (none_tells
    (λ u.
    not (doomed_in (record { parity = i.parity; colour = i.colour; doomed = i.doomed }) u) && not (same i.parity (get_or i.colour u false)))
    i.off (length i.colour) c.count.result c.self.invariant.off_len (λ u. rw c.if-self.true (c.self.invariant.off_is u)) c.count.ensures)

pub returns-else-self : goal.returns-else-self
returns-else-self c =
    let i = c.self.inside in
    rw (← c.self.view_is)
    (none_tells
    (λ u.
    not (doomed_in (record { parity = i.parity; colour = i.colour; doomed = i.doomed }) u) && not (same i.parity (get_or i.colour u false)))
    i.on (length i.colour) c.count-else-self.result c.self.invariant.on_len
    (λ u.
    rw c.if-self.false
    (c.self.invariant.on_is u
    ∙ ap (λ (b : Bool). not (doomed_in (record { parity = false; colour = i.colour; doomed = i.doomed }) u) && b)
    (twice (get_or i.colour u false)))) c.count-else-self.ensures)
  where
    twice : (b : Bool) → b ≡ not (not b)
    twice true = refl
    twice false = refl
