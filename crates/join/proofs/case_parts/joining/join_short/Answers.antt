use Rattle.std.proofs.Common.{ℕ, ◌<◌, length, map, Vec, Global, arith}
use Rattle.join.proofs.Joins.{each_short}
use Rattle.join.proofs.CaseJoins.{reads_long, all_small, parts_wanting, short_joined, short_failing, short_refused}
use Rattle.join.proofs.case_parts.joining.join_short.Goals as goal

pub parts_of-requires-clause-small : goal.parts_of-requires-clause-small
parts_of-requires-clause-small c = each_short (λ (f : Vec ℕ Global). f.items) c.args.files.now 1073741824 c.requires.short

pub join_parts-requires-clause-some : goal.join_parts-requires-clause-some
join_parts-requires-clause-some c =
    let long = reads_long (λ (f : Vec ℕ Global). f.items) c.args.files.now c.in-Ok.parts.items c.in-Ok.ensures.parts in
    let some = c.requires.some in
    omega (arith, long, some)

pub join_parts-requires-clause-few : goal.join_parts-requires-clause-few
join_parts-requires-clause-few c =
    let long = reads_long (λ (f : Vec ℕ Global). f.items) c.args.files.now c.in-Ok.parts.items c.in-Ok.ensures.parts in
    let few = c.requires.few in
    omega (arith, long, few)

pub join_parts-requires-clause-small : goal.join_parts-requires-clause-small
join_parts-requires-clause-small c = all_small 0 (map (λ (f : Vec ℕ Global). f.items) c.args.files.now) c.in-Ok.parts.items c.in-Ok.ensures.parts

pub returns-in-Ok-clause-joined : goal.returns-in-Ok-clause-joined
returns-in-Ok-clause-joined c =
    let long = reads_long (λ (f : Vec ℕ Global). f.items) c.args.files.now c.in-Ok.parts.items c.in-Ok.ensures.parts in
    let some = c.requires.some in
    let there : 0 < length c.in-Ok.parts.items = omega (arith, long, some) in
    short_joined c.args.part (map (λ (f : Vec ℕ Global). f.items) c.args.files.now) c.in-Ok.parts.items c.in-Ok.ensures.parts there c.join_parts.result c.join_parts.ensures.joined

pub returns-in-Ok-clause-failing : goal.returns-in-Ok-clause-failing
returns-in-Ok-clause-failing c = short_failing c.args.part (map (λ (f : Vec ℕ Global). f.items) c.args.files.now) c.in-Ok.parts.items c.in-Ok.ensures.parts c.join_parts.result c.join_parts.ensures.joined

pub returns-in-Ok-clause-refused : goal.returns-in-Ok-clause-refused
returns-in-Ok-clause-refused c =
    let long = reads_long (λ (f : Vec ℕ Global). f.items) c.args.files.now c.in-Ok.parts.items c.in-Ok.ensures.parts in
    let some = c.requires.some in
    let there : 0 < length c.in-Ok.parts.items = omega (arith, long, some) in
    short_refused c.args.part (map (λ (f : Vec ℕ Global). f.items) c.args.files.now) c.in-Ok.parts.items c.in-Ok.ensures.parts there c.join_parts.result c.join_parts.ensures.refused

pub returns-in-Err-clause-refused : goal.returns-in-Err-clause-refused
returns-in-Err-clause-refused c = parts_wanting c.args.part (map (λ (f : Vec ℕ Global). f.items) c.args.files.now) c.in-Err.fault c.in-Err.ensures.refused
