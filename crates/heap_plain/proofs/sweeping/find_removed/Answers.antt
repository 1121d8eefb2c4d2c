use Rattle.std.proofs.Common.{sym, ◌∙◌, arith}
use Rattle.heap_plain.proofs.Fillings.{drop_same}
use Rattle.heap_plain.proofs.Finding.{removed_more}
use Rattle.heap_plain.proofs.sweeping.find_removed.Goals as goal

pub loop-looked-preserved : goal.loop-looked-preserved
loop-looked-preserved c =
    let was = c.loop-looked.invariant in
    let look = c.look-count.ensures in
    record {
      found = look.found ∙ (rw was.found (sym (removed_more c.args.names.now c.args.lives.now c.args.from c.loop-looked.looked)));
      rest = look.rest ∙ drop_same _ _ _ _ look.more was.rest;
      room = omega (arith, was.room, look.few, c.if-count-found.true, c.loop-looked.auto.found);
      few = omega (arith, was.few, look.few);
      within = omega (arith, c.loop-looked-test.true);
      range = omega (arith, c.if-from-looked.true);
    }
