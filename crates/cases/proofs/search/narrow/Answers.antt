use Rattle.std.proofs.Common.{refl, ◌∙◌, arith}
use Rattle.cases.proofs.Paths.{found_some, found_none, gone_all}
use Rattle.cases.proofs.Narrowing.{narrowed_none, narrowed_more, found_here}
use Rattle.cases.proofs.search.narrow.Goals as goal

pub deeper-init : goal.deeper-init
deeper-init g c = record {
  rows = refl;
  so = narrowed_none c.args.rows.now (g.J.Judge.program c.args.judge.now) c.args.tears c.args.sets.now.items c.args.frames.now.items c.requires.sets c.requires.frames;
}

pub put_split-requires-clause-part : goal.put_split-requires-clause-part
put_split-requires-clause-part g c =
    let at = c.args.rows.now in
    let program = g.J.Judge.program c.args.judge.now in
    let here = found_here at c.deeper.rows program c.args.tears c.args.sets.now.items c.deeper.sets.items c.as_slice.result.now (g.J.Judge.looked c.args.judge.now) c.in_ok-it.field-0
    c.deeper.invariant.rows c.as_slice.ensures.value c.requires.looked c.deeper.invariant.so.image (c.in_ok-it.ensures.found c.args.tears) in
    let found = found_some at program program c.args.tears c.deeper.sets.items c.deeper.sets.items c.in_ok-it.field-0 c.in-Some.it refl refl c.in-Some.is here in
    let less = found.0 in
    let long = c.deeper.invariant.so.gone.each in
    omega (arith, less, long)

pub deeper-smaller : goal.deeper-smaller
deeper-smaller g c =
    let at = c.args.rows.now in
    let program = g.J.Judge.program c.args.judge.now in
    let here = found_here at c.deeper.rows program c.args.tears c.args.sets.now.items c.deeper.sets.items c.as_slice.result.now (g.J.Judge.looked c.args.judge.now) c.in_ok-it.field-0
    c.deeper.invariant.rows c.as_slice.ensures.value c.requires.looked c.deeper.invariant.so.image (c.in_ok-it.ensures.found c.args.tears) in
    let found = found_some at program program c.args.tears c.deeper.sets.items c.deeper.sets.items c.in_ok-it.field-0 c.in-Some.it refl refl c.in-Some.is here in
    (narrowed_more at program c.args.tears c.args.sets.now.items c.args.frames.now.items c.deeper.sets.items c.deeper.frames.items c.in-Some.it c.put_split.new.sets.items
    c.put_split.new.frames.items c.cut-cut.ensures.apart c.deeper.invariant.so found c.in_ok-put_split.ensures.sets c.in_ok-put_split.ensures.frames c.in_ok-put_split.ensures.first
    (c.in_ok-put_split.ensures.split c.args.tears _)).1

pub deeper-preserved : goal.deeper-preserved
deeper-preserved g c =
    let at = c.args.rows.now in
    let program = g.J.Judge.program c.args.judge.now in
    let here = found_here at c.deeper.rows program c.args.tears c.args.sets.now.items c.deeper.sets.items c.as_slice.result.now (g.J.Judge.looked c.args.judge.now) c.in_ok-it.field-0
    c.deeper.invariant.rows c.as_slice.ensures.value c.requires.looked c.deeper.invariant.so.image (c.in_ok-it.ensures.found c.args.tears) in
    let found = found_some at program program c.args.tears c.deeper.sets.items c.deeper.sets.items c.in_ok-it.field-0 c.in-Some.it refl refl c.in-Some.is here in
    record {
      rows = c.in_ok-it.ensures.rows ∙ c.deeper.invariant.rows;
      so =
          (narrowed_more at program c.args.tears c.args.sets.now.items c.args.frames.now.items c.deeper.sets.items c.deeper.frames.items c.in-Some.it c.put_split.new.sets.items
          c.put_split.new.frames.items c.cut-cut.ensures.apart c.deeper.invariant.so found c.in_ok-put_split.ensures.sets c.in_ok-put_split.ensures.frames c.in_ok-put_split.ensures.first
          (c.in_ok-put_split.ensures.split c.args.tears _)).0;
    }

pub returns-clause-leads : goal.returns-clause-leads
returns-clause-leads g c = λ torn lost.
    let at = c.args.rows.now in
    let program = g.J.Judge.program c.args.judge.now in
    let here = found_here at c.deeper.rows program c.args.tears c.args.sets.now.items c.deeper.sets.items c.as_slice.result.now (g.J.Judge.looked c.args.judge.now) c.in_ok-it.field-0
    c.deeper.invariant.rows c.as_slice.ensures.value c.requires.looked c.deeper.invariant.so.image (c.in_ok-it.ensures.found c.args.tears) in
    let none = found_none at program program c.args.tears c.deeper.sets.items c.deeper.sets.items c.in_ok-it.field-0 refl refl c.in_default.is here in
    gone_all at program c.args.tears c.args.sets.now.items c.args.frames.now.items c.deeper.sets.items c.deeper.frames.items c.deeper.invariant.so.gone none torn lost
