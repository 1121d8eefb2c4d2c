use Rattle.mark_core.specs.Machine.{Lane, Marker, Collector}
use Rattle.mark_core.proofs.Runs.{lawful_step}
use Rattle.mark_core.proofs.marking.Core.step.Goals as goal

pub invariant_of-self : goal.invariant_of-self
invariant_of-self c =
    let may = rw (← c.self.view_is) at c.requires in
    lawful_step c.self.inside.machine c.lane_does.new.self c.args.actor (Lane c.in-Lane.lane) c.args.event c.in-Lane.ensures may c.self.invariant c.lane_does.ensures.shape c.lane_does.ensures.state

pub invariant_of-self-in-Marker : goal.invariant_of-self-in-Marker
invariant_of-self-in-Marker c =
    let may = rw (← c.self.view_is) at c.requires in
    lawful_step c.self.inside.machine c.marker_does.new.self c.args.actor (Marker c.in-Marker.m) c.args.event c.in-Marker.ensures may c.self.invariant
    c.marker_does.ensures.shape c.marker_does.ensures.state

pub invariant_of-self-in-Collector : goal.invariant_of-self-in-Collector
invariant_of-self-in-Collector c =
    let may = rw (← c.self.view_is) at c.requires in
    lawful_step c.self.inside.machine c.collector_does.new.self c.args.actor Collector c.args.event c.in-Collector.ensures may c.self.invariant
    c.collector_does.ensures.shape c.collector_does.ensures.state
