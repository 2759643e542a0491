use Rattle.workers.proofs.Adding.{adds_touching}
use Rattle.workers.proofs.entries.put_told.Goals as goal

pub returns : goal.returns
returns c = record {
  told =
      adds_touching c.put_touching.result c.args.parts.now.items c.put_touching.new.parts.items c.in-Some.sectors.now c.args.plan.now c.args.cut c.args.footprint.now
      c.in-Some.ensures c.put_touching.ensures.told c.put_touching.ensures.none;
  added = c.put_touching.ensures.kept;
}
