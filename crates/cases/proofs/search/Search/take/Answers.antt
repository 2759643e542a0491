use Rattle.std.proofs.Common.{refl}
use Rattle.cases.specs.AtCut.{parts_of}
use Rattle.cases.proofs.Paths.{take_told}
use Rattle.cases.proofs.search.Search.take.Goals as goal

pub returns-clause-taken : goal.returns-clause-taken
returns-clause-taken c =
    take_told (record {
      asked = record { at = c.self.inside.rows; torn = c.self.inside.torn; lost = c.self.inside.lost };
      tears = c.self.inside.tears;
      sets = c.self.inside.sets.items;
      fresh = c.self.inside.fresh;
      frames = c.self.inside.frames.items;
      torn_beyond = c.self.inside.torn_beyond;
      lost_beyond = c.self.inside.lost_beyond;
    }) c.args.self.now (record {
      asked = record { at = c.self.inside.rows; torn = c.self.inside.torn; lost = c.self.inside.lost };
      tears = c.self.inside.tears;
      sets = c.take_group.new.sets.items;
      fresh = c.self.inside.fresh;
      frames = c.take_group.new.frames.items;
      torn_beyond = c.self.inside.torn_beyond;
      lost_beyond = c.self.inside.lost_beyond;
    }) c.take_group.result c.self.view_is c.if-self.false c.if-self.false refl refl (c.take_group.ensures.found c.self.inside.tears (parts_of c.self.inside.rows))
