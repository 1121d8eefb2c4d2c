-- The lists of a machine by its fields.
use Rattle.mark_core.specs.declared.machine.Machine.TheInside.{Inside}
use Rattle.mark_core.specs.Shown.{Shown}

abbrev pub view_of : Inside → Shown
view_of c =
    record {
      shape = c.shape;
      phase = c.phase;
      dirty = c.dirty;
      lane_open = c.lane_open;
      marker_open = c.marker_open;
      colours = c.colours;
      targets = c.targets.items;
      rooted = c.rooted;
      strong = c.strong.items;
      places = c.places;
      scanned = c.scanned;
      holds = c.holds.items;
      hand = c.hand.items;
      lane_owes = c.lane_owes;
      scan = c.scan.items;
      marker_owes = c.marker_owes;
      job = c.job;
      own_hand = c.own_hand;
      own_found = c.own_found;
    }
