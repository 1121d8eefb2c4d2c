use Rattle.std.proofs.Common.{refl}
use Rattle.mark_core.proofs.Made.{made_sizes, made_state}
use Rattle.mark_core.proofs.machine.Machine.new.Goals as goal

pub invariant_of-result : goal.invariant_of-result
invariant_of-result c = made_sizes _ (record {
  shape = c.requires;
  phase = refl;
  dirty = refl;
  job = refl;
  own_hand = refl;
  lane_open = c.in_ok-lane_open.ensures;
  marker_open = c.in_ok-marker_open.ensures;
  colours = c.in_ok-colours.ensures;
  targets = c.in_ok-targets.ensures;
  rooted = c.in_ok-rooted.ensures;
  strong = c.in_ok-strong.ensures;
  places = c.in_ok-places.ensures;
  scanned = c.in_ok-scanned.ensures;
  holds = c.in_ok-holds.ensures;
  hand = c.in_ok-hand.ensures;
  lane_owes = c.in_ok-lane_owes.ensures;
  scan = c.in_ok-scan.ensures;
  marker_owes = c.in_ok-marker_owes.ensures;
  own_found = c.in_ok-own_found.ensures;
})

pub returns : goal.returns
returns c = (
  refl,
  made_state _ (record {
    shape = c.requires;
    phase = refl;
    dirty = refl;
    job = refl;
    own_hand = refl;
    lane_open = c.in_ok-lane_open.ensures;
    marker_open = c.in_ok-marker_open.ensures;
    colours = c.in_ok-colours.ensures;
    targets = c.in_ok-targets.ensures;
    rooted = c.in_ok-rooted.ensures;
    strong = c.in_ok-strong.ensures;
    places = c.in_ok-places.ensures;
    scanned = c.in_ok-scanned.ensures;
    holds = c.in_ok-holds.ensures;
    hand = c.in_ok-hand.ensures;
    lane_owes = c.in_ok-lane_owes.ensures;
    scan = c.in_ok-scan.ensures;
    marker_owes = c.in_ok-marker_owes.ensures;
    own_found = c.in_ok-own_found.ensures;
  }),
)
