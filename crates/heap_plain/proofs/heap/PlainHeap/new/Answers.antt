use Rattle.std.proofs.Common.{sym, ◌∙◌, None}
use Rattle.heap_plain.proofs.Beginning.{begins_as}
use Rattle.heap_plain.proofs.heap.PlainHeap.new.Goals as goal

pub invariant_of-result : goal.invariant_of-result
invariant_of-result g c =
    let is = g.S.Shape.constants in
    rw c.in_ok-new-5.ensures
    (begins_as g.S.Shape.sizes c.LANES-lanes.result c.QUOTA-quota.result c.SLOTS.result c.STRONG.result _ g.S.Shape.lawful (c.LANES-lanes.ensures ∙ is.lanes)
    (c.QUOTA-quota.ensures ∙ is.quota) (c.SLOTS.ensures ∙ is.slots) (c.STRONG.ensures ∙ is.strong) (λ t. record {
      gate = sym c.in_ok-new-2.ensures t;
      objects =
          record {
            names = sym c.in_ok-filled.ensures t;
            firsts = sym c.in_ok-filled-2.ensures t;
            sizes = sym c.in_ok-filled-3.ensures t;
            next = sym c.in_ok-filled-4.ensures t;
            lives = sym c.in_ok-filled-8.ensures t;
          };
      rows = record { kinds = sym c.in_ok-filled-5.ensures t; targets = sym c.in_ok-filled-6.ensures t; plains = sym c.in_ok-filled-7.ensures t };
      roots = sym c.in_ok-filled-9.ensures t;
      garbage = sym c.in_ok-filled-13.ensures t;
      strong = sym c.in_ok-filled-14.ensures t;
      pairs = sym c.in_ok-new-4.ensures t;
      colours = sym c.in_ok-new.ensures t;
      stock = record { stocks = sym c.in_ok-full_stocks.ensures t; made = sym c.in_ok-filled-10.ensures t };
      ends = record {
        left = 0;
        swept = 0;
        queue = sym c.in_ok-new-3.ensures t;
        polls = sym c.in_ok-filled-11.ensures t;
        waiting = sym c.in_ok-filled-12.ensures t;
        done = None;
      };
    }))
