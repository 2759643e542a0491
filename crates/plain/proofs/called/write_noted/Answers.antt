use Rattle.std.proofs.Common.{ℕ, ◌≡◌, ◌+◌, ◌/◌, ◌≤◌, min, List, [], length, get_or, subst, sym, arith}
use Rattle.machine.specs.OwnMemory.{overwritten}
use Rattle.plain.specs.Clean.{IsClean}
use Rattle.plain.proofs.Clean.{clean_long, clean_at, clean_set, written_clean}
use Rattle.plain.proofs.Loading.{fits_there}
use Rattle.plain.proofs.called.write_noted.Goals as goal

pub bounds-clean-frame : goal.bounds-clean-frame
bounds-clean-frame c = let long = clean_long c.args.stacks.now c.args.clean.now c.requires.kept in omega (arith, c.requires.inside, long)

pub bounds-clean-frame-2 : goal.bounds-clean-frame-2
bounds-clean-frame-2 c = let long = clean_long c.args.stacks.now c.args.clean.now c.requires.kept in omega (arith, c.requires.inside, long)

pub write_at-requires : goal.write_at-requires
write_at-requires c = fits_there c.args.stacks.now c.args.frame c.args.place c.args.bytes.now [] c.requires.inside c.requires.made

pub returns-clause-kept : goal.returns-clause-kept
returns-clause-kept c =
    let stacks = c.args.stacks.now in
    let clean = c.args.clean.now in
    let frame = c.args.frame in
    let stack : List ℕ = get_or stacks frame [] in
    let number : ℕ = get_or clean frame 0 in
    let long : length stack ≡ 512 = c.told-stacks frame c.requires.inside in
    let fits : c.args.place + length c.args.bytes.now ≤ length stack = fits_there stacks frame c.args.place c.args.bytes.now [] c.requires.inside c.requires.made in
    let was : IsClean stack number = clean_at stacks clean frame [] 0 c.requires.kept c.requires.inside in
    let is : IsClean (overwritten c.args.place c.args.bytes.now stack) (min number (c.args.place / 64)) =
    written_clean stack c.args.bytes.now c.args.place number was long (omega (arith, fits, long)) in
    let new : IsClean c.write_at.new.block (min number (c.args.place / 64)) = subst (λ (s : List ℕ). IsClean s (min number (c.args.place / 64))) (sym c.write_at.ensures) is in
    let noted : IsClean c.write_at.new.block c.min.result = subst (λ (n : ℕ). IsClean c.write_at.new.block n) (sym c.min.ensures) new in
    clean_set stacks clean frame c.write_at.new.block c.min.result c.requires.kept noted
